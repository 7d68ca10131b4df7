-- Tokens that follow those that were found.
use Rattle.std.proofs.Common.{◌≡◌, ℕ, Some, List, [], ◌∷◌, ◌++◌, sym, ap, subst, ◌∙◌, append_assoc}
use Rattle.std.proofs.lemmas.List.{append-nil}
use Rattle.std.proofs.lemmas.List.Elements.{All-push}
use Rattle.std.specs.Prelude.{All}
use Rattle.capnp_source_text.specs.declared.tokens.Token.{Token}
use Rattle.capnp_source_text.specs.Tokens.{next_start, token_at, AreTokensFrom, AreTokensBefore, LiesIn}

module _ (text : List ℕ) where
  -- what was found goes on with the tokens from an offset on
  abbrev pub GoesOn : List Token → ℕ → Type 0
  GoesOn found start = (last : ℕ) (more : List Token) → AreTokensFrom text last start more → AreTokensBefore text last (found ++ more)

  -- one more token
  pub goes_on : (found after : List Token) (start behind : ℕ) (t : Token) → GoesOn found start → token_at text start ≡ Some t → behind ≡ next_start text t.end → after ≡ found ++ t ∷ [] → GoesOn after behind
  goes_on found after start behind t before here is_behind e last more h =
      let joined : found ++ (t ∷ more) ≡ after ++ more = sym (append_assoc found (t ∷ []) more) ∙ ap (λ l. l ++ more) (sym e) in
      subst (AreTokensBefore text last) joined (before last (t ∷ more) (here, subst (λ n. AreTokensFrom text last n more) is_behind h))

  -- what was found is all before an offset
  pub before_here : (found : List Token) (start last : ℕ) → GoesOn found start → start ≡ last → AreTokensBefore text last found
  before_here found start last before e = subst (AreTokensBefore text last) (append-nil found) (before last [] e)

  -- one more token lies in the text too
  pub inside_more : (found after : List Token) (t : Token) → All (LiesIn text) found → LiesIn text t → after ≡ found ++ t ∷ [] → All (LiesIn text) after
  inside_more found after t all one e = subst (All (LiesIn text)) (sym e) (All-push (LiesIn text) found t all one)
