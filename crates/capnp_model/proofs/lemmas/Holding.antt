-- A list of words holds others from a position on.
use Rattle.std.proofs.Common.{◌≡◌, ℕ, ◌+◌, ◌≤◌, true, leb, List, [], ◌∷◌, ◌++◌, length, take, drop, Some, refl, ap, subst, sym, ◌∙◌, append_assoc, arith}
use Rattle.std.specs.List.{slice_get}
use Rattle.std.proofs.lemmas.Bool.{le-leb}
use Rattle.std.proofs.lemmas.List.{length-append, length-drop, drop-drop, drop-append-le, drop_at, take_at}
use Rattle.capnp_model.specs.Segments.{Segments, place, word_at, words_at}
use Rattle.capnp_model.proofs.lemmas.Locality.{word_was}

pub record Holds (x : List ℕ) (k : ℕ) (ws : List ℕ) : Type 0 where
  pub rest : List ℕ
  pub parts : drop k x ≡ ws ++ rest
  pub within : k ≤ length x

pub holds_left : {x : List ℕ} {k : ℕ} (a b : List ℕ) → Holds x k (a ++ b) → Holds x k a
holds_left a b h = record { rest = b ++ h.rest; parts = h.parts ∙ append_assoc a b h.rest; within = h.within }

long_enough : (x : List ℕ) (k : ℕ) (ws rest : List ℕ) → drop k x ≡ ws ++ rest → k ≤ length x → k + length ws ≤ length x
long_enough x k ws rest e le = let n = ap length e in omega (arith, length-drop k x, length-append ws rest, n)

pub holds_right : {x : List ℕ} {k : ℕ} (a b : List ℕ) → Holds x k (a ++ b) → Holds x (k + length a) b
holds_right {x} {k} a b h =
    let whole : drop k x ≡ a ++ (b ++ h.rest) = h.parts ∙ append_assoc a b h.rest in
    record {
      rest = h.rest;
      parts = sym (drop-drop (length a) k x) ∙ ap (drop (length a)) whole ∙ drop_at a (b ++ h.rest) (length a) refl;
      within = long_enough x k a (b ++ h.rest) whole h.within;
    }

-- a segment that begins with such words has them there
pub holds_words : {x : List ℕ} {k : ℕ} (u : Segments) (more ws : List ℕ) (n : ℕ) → slice_get u 0 ≡ Some (x ++ more) → Holds x k ws → n ≡ length ws → words_at u (place 0 k) n ≡ Some ws
holds_words {x} {k} u more ws n there h e =
    let l = long_enough x k ws h.rest h.parts h.within in
    let fits : leb (k + n) (length (x ++ more)) ≡ true = le-leb _ _ (omega (arith, length-append x more)) in
    let behind : drop k (x ++ more) ≡ ws ++ (h.rest ++ more) = drop-append-le k x more h.within ∙ ap (λ (y : List ℕ). y ++ more) h.parts ∙ append_assoc ws h.rest more in
    let is : take n (drop k (x ++ more)) ≡ ws = ap (take n) behind ∙ take_at ws (h.rest ++ more) n (sym e) in
    rw (there, fits, is) refl

pub holds_word : {x : List ℕ} {k : ℕ} (u : Segments) (more : List ℕ) (w : ℕ) (ws : List ℕ) → slice_get u 0 ≡ Some (x ++ more) → Holds x k (w ∷ ws) → word_at u (place 0 k) ≡ Some w
holds_word {x} {k} u more w ws there h = word_was u (place 0 k) w (holds_words u more (w ∷ []) 1 there (holds_left (w ∷ []) ws h) refl)

-- the same at an equal position
pub holds_at : {x : List ℕ} (j k : ℕ) {ws : List ℕ} → j ≡ k → Holds x j ws → Holds x k ws
holds_at {x} j k {ws} e h = subst (λ (i : ℕ). Holds x i ws) e h
