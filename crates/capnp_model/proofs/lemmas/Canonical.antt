-- The canonical words of a value that was read.
use Rattle.std.proofs.Common.{◌≡◌, ℕ, zero, suc, ◌+◌, ◌*◌, ◌^◌, ◌≤◌, ◌<◌, [], ◌∷◌, ◌++◌, length, Some, ap, sym, ◌∙◌, arith}
use Rattle.std.proofs.lemmas.List.{length-append}
use Rattle.std.proofs.Math.Nat.{mul-le-mul_left}
use Rattle.capnp_model.specs.Sections.{words_of, needed_words}
use Rattle.capnp_model.specs.Segments.{Segments, Place, place}
use Rattle.capnp_model.specs.Trees.{Tree, Trees, Elements, null, capability, structure, plain_list, pointer_list, struct_list, none, ◌▸◌, no_elements, element, element_count, resized}
use Rattle.capnp_model.specs.Traversal.{tree_at, cost_at}
use Rattle.capnp_model.specs.Fits.{Fits, FitEach, FitElements}
use Rattle.capnp_model.specs.Encoding.{body, links, bodies, cells, element_bodies, canonical_words}
use Rattle.capnp_model.specs.Trimming.{after_stripping, stripped, common_words, common_pointers, with_pointers, trim, trim_each, trim_elements}
use Rattle.capnp_model.proofs.lemmas.Chaining.{some_is}
use Rattle.capnp_model.proofs.lemmas.Numbers.{length-numbers_in, needed_words_le}
use Rattle.capnp_model.proofs.lemmas.Stripping.{count-stripped}
use Rattle.capnp_model.proofs.lemmas.TrimTwice.{common_words_le, trim-trim}
use Rattle.capnp_model.proofs.lemmas.TrimFits.{count-trim_each, count-with_pointers, count-trim_elements, common_pointers_le, FitElements-least, Fits-trim, FitElements-trim_elements, depth-trim}
use Rattle.capnp_model.proofs.lemmas.RoundTrip.{links_length, cells_length, enc_means, enc_is}
use Rattle.capnp_model.proofs.lemmas.Size.{tree_at_size}
use Rattle.capnp_model.proofs.lemmas.ReadFits.{tree_at_fits}
use Rattle.capnp_model.proofs.lemmas.Depth.{tree_at_deep}

bodies_after : (u : Tree) (rest : Trees) → length (bodies (after_stripping u rest)) ≤ length (bodies (u ▸ rest))
bodies_after null none = omega arith
bodies_after null (a ▸ b) = omega arith
bodies_after (capability k) rest = omega arith
bodies_after (structure w n k) rest = omega arith
bodies_after (plain_list z n k) rest = omega arith
bodies_after (pointer_list k) rest = omega arith
bodies_after (struct_list w p k) rest = omega arith

bodies-stripped : (ts : Trees) → length (bodies (stripped ts)) ≤ length (bodies ts)
bodies-stripped none = omega arith
bodies-stripped (u ▸ ts) = let rest = bodies-stripped ts in omega (arith, bodies_after u (stripped ts), length-append (body u) (bodies (stripped ts)), length-append (body u) (bodies ts))

bodies-resized : (p : ℕ) (ts : Trees) → length (bodies (resized p ts)) ≤ length (bodies ts)
bodies-resized zero ts = omega arith
bodies-resized (suc p) none = bodies-resized p none
bodies-resized (suc p) (t ▸ ts) = let rest = bodies-resized p ts in omega (arith, length-append (body t) (bodies (resized p ts)), length-append (body t) (bodies ts))

bodies-with_pointers : (p : ℕ) (es : Elements) → length (element_bodies (with_pointers p es)) ≤ length (element_bodies es)
bodies-with_pointers p no_elements = omega arith
bodies-with_pointers p (element n ts es) = let rest = bodies-with_pointers p es in omega (arith, length-append (bodies ts) (element_bodies es), length-append (bodies (resized p ts)) (element_bodies (with_pointers p es)), bodies-resized p ts)

mutual
  unfolding trim

  -- a trimmed value has no more words
  pub size-trim : (t : Tree) → Fits t → length (body (trim t)) ≤ length (body t)
  size-trim null f = omega arith
  size-trim (structure w n ts) f =
      let us = trim_each ts in
      let v = needed_words w n in
      let vs = stripped us in
      let rest = size-trim_each ts f.3 in
      omega (arith, length-append (words_of v n) (links 0 0 vs ++ bodies vs), length-append (links 0 0 vs) (bodies vs), links_length vs 0 0, length-append (words_of w n) (links 0 0 ts ++ bodies ts), length-append (links 0 0 ts) (bodies ts), links_length ts 0 0, length-numbers_in 64 v n, length-numbers_in 64 w n, needed_words_le w n, count-stripped us, count-trim_each ts, bodies-stripped us)
  size-trim (plain_list size n section) f = omega arith
  size-trim (pointer_list ts) f =
      let us = trim_each ts in
      let rest = size-trim_each ts f.1 in
      omega (arith, length-append (links 0 0 us) (bodies us), length-append (links 0 0 ts) (bodies ts), links_length us 0 0, links_length ts 0 0, count-trim_each ts)
  size-trim (struct_list d k es) f =
      let us = trim_elements es in
      let c = common_words d us in
      let p = common_pointers us in
      let fu = FitElements-trim_elements d k es f.4 in
      let lc = common_words_le d us in
      let lp = common_pointers_le d k us fu in
      let vs = with_pointers p us in
      let rest = size-trim_elements d k es f.4 in
      let less : element_count es * (c + p) ≤ element_count es * (d + k) = mul-le-mul_left (element_count es) (omega arith) in
      let many : element_count vs ≡ element_count es = count-with_pointers p us ∙ count-trim_elements es in
      let own : length (cells 0 c p vs) ≡ element_count es * (c + p) = cells_length vs 0 c p (FitElements-least d k c p us (omega arith) fu) ∙ ap (λ (n : ℕ). n * (c + p)) many in
      let was : length (cells 0 d k es) ≡ element_count es * (d + k) = cells_length es 0 d k f.4 in
      omega (arith, less, own, was, length-append (cells 0 c p vs) (element_bodies vs), length-append (cells 0 d k es) (element_bodies es), bodies-with_pointers p us)
  size-trim (capability i) f = omega arith

  size-trim_each : (ts : Trees) → FitEach ts → length (bodies (trim_each ts)) ≤ length (bodies ts)
  size-trim_each none f = omega arith
  size-trim_each (t ▸ ts) f = let one = size-trim t f.0 in let rest = size-trim_each ts f.1 in omega (arith, length-append (body (trim t)) (bodies (trim_each ts)), length-append (body t) (bodies ts))

  size-trim_elements : (d k : ℕ) (es : Elements) → FitElements d k es → length (element_bodies (trim_elements es)) ≤ length (element_bodies es)
  size-trim_elements d k no_elements f = omega arith
  size-trim_elements d k (element n ts es) f = let one = size-trim_each ts f.2 in let rest = size-trim_elements d k es f.3 in omega (arith, length-append (bodies (trim_each ts)) (element_bodies (trim_elements es)), length-append (bodies ts) (element_bodies es))

-- THE LAWS: the canonical words of what was read within a budget below 2 ^ 29 words mean the trimmed value, and are at most one more than the budget.
pub canonical_size : (n : ℕ) (s : Segments) (p : Place) (t : Tree) → tree_at n s p ≡ Some t → length (canonical_words (trim t)) ≤ cost_at n s p + 1
unfolding canonical_words
canonical_size n s p t e = let a = tree_at_size n s p t e in let b = size-trim t (tree_at_fits n s p t e) in omega arith

pub canonical_means : (n : ℕ) (s : Segments) (p : Place) (t : Tree) → tree_at n s p ≡ Some t → cost_at n s p < 2 ^ 29 → tree_at n (canonical_words (trim t) ∷ []) (place 0 0) ≡ Some (trim t)
canonical_means n s p t e l =
    let d = tree_at_deep n s p t e in
    let c = canonical_size n s p t e in
    enc_means (trim t) n (Fits-trim t (tree_at_fits n s p t e)) (omega (arith, depth-trim t)) (omega arith)

pub canonical_is : (n : ℕ) (s u : Segments) (p q : Place) (t v : Tree) → tree_at n s p ≡ Some t → tree_at n u q ≡ Some v → cost_at n s p < 2 ^ 29 → canonical_words (trim t) ≡ canonical_words (trim v) → trim t ≡ trim v
canonical_is n s u p q t v e f l h =
    let c = canonical_size n s p t e in
    enc_is (trim t) (trim v) (Fits-trim t (tree_at_fits n s p t e)) (Fits-trim v (tree_at_fits n u q v f)) (omega arith) h

-- equal canonical words exactly for equal trimmed values
pub canonical_same : (t u : Tree) → trim t ≡ trim u → canonical_words (trim t) ≡ canonical_words (trim u)
canonical_same t u h = ap canonical_words h

-- the canonical words of canonical words are these again
pub canonical_again : (n : ℕ) (s : Segments) (p : Place) (t u : Tree) → tree_at n s p ≡ Some t → cost_at n s p < 2 ^ 29 → tree_at n (canonical_words (trim t) ∷ []) (place 0 0) ≡ Some u → canonical_words (trim u) ≡ canonical_words (trim t)
canonical_again n s p t u e l f =
    let is : u ≡ trim t = some_is _ _ (sym f ∙ canonical_means n s p t e l) in
    ap (λ (x : Tree). canonical_words (trim x)) is ∙ ap canonical_words (trim-trim t)
