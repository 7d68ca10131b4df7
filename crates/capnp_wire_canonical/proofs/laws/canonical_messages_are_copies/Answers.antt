-- Both are the canonical words of the one value.
use Rattle.std.proofs.Common.{◌≡◌, List, ℕ, [], ◌∷◌, ap, sym, ◌∙◌}
use Rattle.capnp_model.specs.Encoding.{canonical_words}
use Rattle.capnp_model.specs.Trees.{Tree}
use Rattle.capnp_model.specs.Trimming.{trim}
use Rattle.capnp_model.proofs.lemmas.CanonicalTests.{message_test}
use Rattle.capnp_model.proofs.lemmas.Chaining.{some_is}
use Rattle.capnp_wire_canonical.proofs.laws.canonical_messages_are_copies.Goals as goal

pub returns : goal.returns
returns c = λ n s old end new yes x.
    let a = message_test n s yes in
    let same : a.0 ≡ x.what = some_is _ _ (sym a.1 ∙ x.there_is) in
    a.3 ∙ ap (λ (t : Tree). canonical_words (trim t) ∷ []) same ∙ ap (λ (ws : List ℕ). ws ∷ []) (sym x.words)
