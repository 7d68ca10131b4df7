-- A literal that is made piece by piece, from the front on.
use Rattle.std.proofs.Common.{◌≡◌, ℕ, ◌+◌, ◌-◌, Bool, true, false, Option, Some, List, [], ◌∷◌, ◌++◌, length, take, drop, sym, ap, subst, ◌∙◌, append_assoc, arith, length-drop}
use Rattle.std.proofs.lemmas.List.{append-nil, drop-drop, take_all}
use Rattle.capnp_source_text.specs.Literals.{IsMade}
use Rattle.capnp_source_text.specs.declared.literals.Piece.{Piece}

-- all that is left behind a place
pub tail : (at : ℕ) (xs : List ℕ) → take (length xs - at) (drop at xs) ≡ drop at xs
tail at xs = take_all (length xs - at) (drop at xs) (omega (arith, length-drop at xs))

module _ (ends : List ℕ → Bool) (first : List ℕ → Option Piece) (whole : List ℕ) where
  -- what was made goes on with what the rest means
  abbrev pub GoesOn : List ℕ → ℕ → Type 0
  GoesOn made at = (more : List ℕ) → IsMade ends first (drop at whole) more → IsMade ends first whole (made ++ more)

  -- one more piece
  pub goes_on : (made after left : List ℕ) (at : ℕ) (p : Piece) → GoesOn made at → left ≡ drop at whole → ends left ≡ false → first left ≡ Some p → after ≡ made ++ p.byte ∷ [] → GoesOn after (at + p.len)
  goes_on made after left at p before is_left unended here e more h =
      let joined : made ++ (p.byte ∷ more) ≡ after ++ more = sym (append_assoc made (p.byte ∷ []) more) ∙ ap (λ l. l ++ more) (sym e) in
      let rest : IsMade ends first (drop p.len (drop at whole)) more = subst (λ l. IsMade ends first l more) (sym (drop-drop p.len at whole)) h in
      subst (IsMade ends first whole) joined (before (p.byte ∷ more) (subst (λ l. ends l ≡ false) is_left unended, (p.len, (subst (λ l. first l ≡ Some p) is_left here, rest))))

  -- where the literal ends, what was made is all
  pub ends_here : (made left : List ℕ) (at : ℕ) → GoesOn made at → left ≡ drop at whole → ends left ≡ true → IsMade ends first whole made
  ends_here made left at before is_left e = subst (IsMade ends first whole) (append-nil made) (before [] (subst (λ l. ends l ≡ true) is_left e))
