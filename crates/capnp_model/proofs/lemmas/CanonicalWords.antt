-- The canonical words of a value are words, so they can be written as a message.
use Rattle.std.proofs.Common.{◌≡◌, ℕ, zero, suc, ◌+◌, ◌*◌, ◌^◌, ◌≤◌, ◌<◌, true, [], ◌∷◌, ◌++◌, length, map, sum, Option, subst, sym, arith}
use Rattle.std.proofs.Math.Nat.{mod-lt}
use Rattle.std.proofs.lemmas.Nat.{pow_pos}
use Rattle.std.proofs.lemmas.List.{length-append}
use Rattle.std.proofs.lemmas.List.Sums.{sum_by-cons}
use Rattle.capnp_model.specs.Sections.{numbers_in, words_of, words_for}
use Rattle.capnp_model.specs.Trees.{Tree, Trees, Elements, null, capability, structure, plain_list, pointer_list, struct_list, none, ◌▸◌, no_elements, element, size_bits, tree_count, element_count}
use Rattle.capnp_model.specs.Fits.{Fits, FitEach, FitElements}
use Rattle.capnp_model.specs.Encoding.{struct_pointer, pointer, body, links, bodies, cells, element_bodies, canonical_words}
use Rattle.capnp_model.specs.Messages.{within}
use Rattle.capnp_model.specs.Spelling.{AreWords, CanSpell}
use Rattle.capnp_model.proofs.lemmas.RoundTrip.{links_length, cells_length}
use Rattle.capnp_model.proofs.lemmas.Written.{all_append}

words_are : (n section : ℕ) → AreWords (numbers_in 64 n section)
words_are zero section = tt
words_are (suc n) section = (mod-lt section (pow_pos 64), words_are n _)

-- A pointer is a word.
pointer_is : (gap : ℕ) (t : Tree) → gap < 2 ^ 30 → Fits t → pointer gap t < 2 ^ 64
pointer_is gap null l f = omega arith
pointer_is gap (structure zero section none) l f = omega arith
pointer_is gap (structure zero section (t ▸ ts)) l f = let k = f.1 in omega arith
pointer_is gap (structure (suc d) section ts) l f = let a = f.0 in let k = f.1 in omega arith
pointer_is gap (plain_list size n section) l f = let a = f.0 in let b = f.1 in omega arith
pointer_is gap (pointer_list ts) l f = let a = f.0 in omega arith
pointer_is gap (struct_list d k es) l f = let a = f.3 in omega arith
pointer_is gap (capability i) l f = let a : i < 2 ^ 32 = f in omega arith

links_are : (ts : Trees) (behind before : ℕ) → FitEach ts → tree_count ts + behind + before + length (bodies ts) ≤ 2 ^ 29 → AreWords (links behind before ts)
links_are none behind before f l = tt
links_are (t ▸ ts) behind before f l =
    let long = length-append (body t) (bodies ts) in
    (pointer_is (tree_count ts + behind + before) t (omega (arith, l, long)) f.0, links_are ts behind (before + length (body t)) f.1 (omega (arith, l, long)))

cells_are : (es : Elements) (before d k : ℕ) → FitElements d k es → element_count es * (d + k) + before + length (element_bodies es) ≤ 2 ^ 29 → AreWords (cells before d k es)
cells_are no_elements before d k f l = tt
cells_are (element section ts es) before d k f l =
    let long = length-append (bodies ts) (element_bodies es) in
    let many = f.1 in
    let rest : ℕ = element_count es * (d + k) in
    let room : d + k + rest + before + length (element_bodies (element section ts es)) ≤ 2 ^ 29 = omega (arith, l) in
    let own = links_are ts rest before f.2 (omega (arith, room, long, many)) in
    let others = cells_are es (before + length (bodies ts)) d k f.3 (omega (arith, room, long)) in
    all_append (words_of d section) _ (words_are d section) (all_append (links rest before ts) (cells (before + length (bodies ts)) d k es) own others)

mutual
  body_is : (t : Tree) → Fits t → length (body t) ≤ 2 ^ 29 → AreWords (body t)
  body_is null f l = tt
  body_is (capability i) f l = tt
  body_is (structure d section ts) f l =
      let whole = length-append (words_of d section) (links 0 0 ts ++ bodies ts) in
      let part = length-append (links 0 0 ts) (bodies ts) in
      let many = links_length ts 0 0 in
      let own = links_are ts 0 0 f.3 (omega (arith, l, whole, part, many)) in
      let below = bodies_are ts f.3 (omega (arith, l, whole, part)) in
      all_append (words_of d section) (links 0 0 ts ++ bodies ts) (words_are d section) (all_append (links 0 0 ts) (bodies ts) own below)
  body_is (plain_list size n section) f l = words_are (words_for (size_bits size * n)) section
  body_is (pointer_list ts) f l =
      let part = length-append (links 0 0 ts) (bodies ts) in
      let many = links_length ts 0 0 in
      all_append (links 0 0 ts) (bodies ts) (links_are ts 0 0 f.1 (omega (arith, l, part, many))) (bodies_are ts f.1 (omega (arith, l, part)))
  body_is (struct_list d k es) f l =
      let part = length-append (cells 0 d k es) (element_bodies es) in
      let many = cells_length es 0 d k f.4 in
      let a = f.0 in
      let b = f.1 in
      let c = f.2 in
      let tag : struct_pointer (element_count es) d k < 2 ^ 64 = omega arith in
      (tag, all_append (cells 0 d k es) (element_bodies es) (cells_are es 0 d k f.4 (omega (arith, l, part, many))) (element_bodies_are d k es f.4 (omega (arith, l, part))))

  bodies_are : (ts : Trees) → FitEach ts → length (bodies ts) ≤ 2 ^ 29 → AreWords (bodies ts)
  bodies_are none f l = tt
  bodies_are (t ▸ ts) f l =
      let long = length-append (body t) (bodies ts) in
      all_append (body t) (bodies ts) (body_is t f.0 (omega (arith, l, long))) (bodies_are ts f.1 (omega (arith, l, long)))

  element_bodies_are : (d k : ℕ) (es : Elements) → FitElements d k es → length (element_bodies es) ≤ 2 ^ 29 → AreWords (element_bodies es)
  element_bodies_are d k no_elements f l = tt
  element_bodies_are d k (element section ts es) f l =
      let long = length-append (bodies ts) (element_bodies es) in
      all_append (bodies ts) (element_bodies es) (bodies_are ts f.2 (omega (arith, l, long))) (element_bodies_are d k es f.3 (omega (arith, l, long)))

-- THE LAWS
pub canonical_words_are : (t : Tree) → Fits t → length (canonical_words t) ≤ 2 ^ 29 → AreWords (canonical_words t)
unfolding canonical_words
canonical_words_are t f l = (pointer_is 0 t (omega arith) f, body_is t f (omega (arith, l)))

pub canonical_can_spell : (limit : Option ℕ) (t : Tree) → Fits t → length (canonical_words t) ≤ 2 ^ 29 → within (length (canonical_words t)) limit ≡ true → CanSpell limit (canonical_words t ∷ [])
canonical_can_spell limit t f l w =
    let cons : sum (map length (canonical_words t ∷ [])) ≡ length (canonical_words t) + 0 = sum_by-cons (λ k. k) (length (canonical_words t)) [] in
    let one : sum (map length (canonical_words t ∷ [])) ≡ length (canonical_words t) = omega (arith, cons) in
    record {
      some = omega arith;
      few = omega arith;
      sizes = (omega arith, tt);
      total = subst (λ (n : ℕ). within n limit ≡ true) (sym one) w;
      words = (canonical_words_are t f l, tt);
    }
