-- The words of a value's objects, and its capabilities.
use Rattle.std.proofs.Common.{◌≡◌, ℕ, ◌+◌, ◌*◌, Bool, true, false, ◌++◌, length, refl, arith}
use Rattle.std.specs.Prelude.{◌||◌}
use Rattle.std.proofs.lemmas.List.{length-append}
use Rattle.capnp_model.specs.Sections.{words_of, words_for}
use Rattle.capnp_model.specs.Trees.{Tree, Trees, Elements, null, capability, structure, plain_list, pointer_list, struct_list, none, ◌▸◌, no_elements, element, size_bits, element_count, has_capability, have_capability, elements_have_capability}
use Rattle.capnp_model.specs.Encoding.{body, links, bodies, cells, element_bodies}
use Rattle.capnp_model.specs.Sizes.{object_words, each_object_words, element_object_words, capability_count, each_capability_count, element_capability_count}
use Rattle.capnp_model.proofs.lemmas.Numbers.{length-numbers_in}
use Rattle.capnp_model.proofs.lemmas.RoundTrip.{links_length}
use Rattle.capnp_model.proofs.lemmas.Tests.{neither}

mutual
  unfolding object_words

  pub words_length_of : (t : Tree) → object_words t ≡ length (body t)
  words_length_of null = refl
  words_length_of (capability i) = refl
  words_length_of (structure d section ts) =
      let rest = words_length_each ts in
      omega (arith, length-append (words_of d section) (links 0 0 ts ++ bodies ts), length-append (links 0 0 ts) (bodies ts), length-numbers_in 64 d section, links_length ts 0 0)
  words_length_of (plain_list size n section) = let own = length-numbers_in 64 (words_for (size_bits size * n)) section in omega (arith, own)
  words_length_of (pointer_list ts) = let rest = words_length_each ts in omega (arith, length-append (links 0 0 ts) (bodies ts), links_length ts 0 0)
  words_length_of (struct_list d k es) = let rest = words_length_elements es 0 d k in omega (arith, length-append (cells 0 d k es) (element_bodies es))

  words_length_each : (ts : Trees) → each_object_words ts ≡ length (bodies ts)
  words_length_each none = refl
  words_length_each (t ▸ ts) = let one = words_length_of t in let rest = words_length_each ts in omega (arith, length-append (body t) (bodies ts))

  words_length_elements : (es : Elements) (before d k : ℕ) → element_object_words d es ≡ length (cells before d k es) + length (element_bodies es)
  words_length_elements no_elements before d k = refl
  words_length_elements (element section ts es) before d k =
      let l = links (element_count es * (d + k)) before ts in
      let c = cells (before + length (bodies ts)) d k es in
      let one = words_length_each ts in
      let rest = words_length_elements es (before + length (bodies ts)) d k in
      omega (arith, length-append (words_of d section) (l ++ c), length-append l c, length-append (bodies ts) (element_bodies es), length-numbers_in 64 d section, links_length ts (element_count es * (d + k)) before)

mutual
  unfolding capability_count has_capability

  pub none_counted : (t : Tree) → capability_count t ≡ 0 → has_capability t ≡ false
  none_counted null e = refl
  none_counted (capability i) e = absurd (omega (arith, e))
  none_counted (structure d section ts) e = none_counted_each ts e
  none_counted (plain_list size n section) e = refl
  none_counted (pointer_list ts) e = none_counted_each ts e
  none_counted (struct_list d k es) e = none_counted_elements es e

  none_counted_each : (ts : Trees) → each_capability_count ts ≡ 0 → have_capability ts ≡ false
  none_counted_each none e = refl
  none_counted_each (t ▸ ts) e = rw (none_counted t (omega (arith, e)), none_counted_each ts (omega (arith, e))) refl

  none_counted_elements : (es : Elements) → element_capability_count es ≡ 0 → elements_have_capability es ≡ false
  none_counted_elements no_elements e = refl
  none_counted_elements (element section ts es) e = rw (none_counted_each ts (omega (arith, e)), none_counted_elements es (omega (arith, e))) refl

mutual
  unfolding capability_count has_capability

  pub none_there : (t : Tree) → has_capability t ≡ false → capability_count t ≡ 0
  none_there null e = refl
  none_there (capability i) e = absurd cc
  none_there (structure d section ts) e = none_there_each ts e
  none_there (plain_list size n section) e = refl
  none_there (pointer_list ts) e = none_there_each ts e
  none_there (struct_list d k es) e = none_there_elements es e

  none_there_each : (ts : Trees) → have_capability ts ≡ false → each_capability_count ts ≡ 0
  none_there_each none e = refl
  none_there_each (t ▸ ts) e = let b = neither (has_capability t) (have_capability ts) e in omega (arith, none_there t b.0, none_there_each ts b.1)

  none_there_elements : (es : Elements) → elements_have_capability es ≡ false → element_capability_count es ≡ 0
  none_there_elements no_elements e = refl
  none_there_elements (element section ts es) e = let b = neither (have_capability ts) (elements_have_capability es) e in omega (arith, none_there_each ts b.0, none_there_elements es b.1)
