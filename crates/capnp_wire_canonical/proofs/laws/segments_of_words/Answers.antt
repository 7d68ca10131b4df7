-- Eight bytes spell a word.
use Rattle.std.proofs.Common.{ℕ, List, [], ◌∷◌, ap}
use Rattle.capnp_wire_canonical.proofs.Flat.{flat_words}
use Rattle.capnp_wire_canonical.proofs.laws.segments_of_words.Goals as goal

pub returns : goal.returns
returns c = ap (λ (ws : List ℕ). ws ∷ []) (flat_words c.args.words.now c.told-words)
