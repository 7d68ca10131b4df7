use Rattle.std.proofs.Common.{◌≡◌, ℕ, List, [], ◌∷◌, ap, sym, ◌∙◌}
use Rattle.std.specs.List.{take-map}
use Rattle.std.specs.Int.{w64, from_le_bytes}
use Rattle.capnp_units.specs.Segments.{whole_words}
use Rattle.capnp_relay_loop.proofs.step.segment_of.Goals as goal

only : (a b : List ℕ) → ◌≡◌ {A = List (List ℕ)} (a ∷ []) (b ∷ []) → a ≡ b
only a b e = cc

pub returns-clause-words : goal.returns-clause-words
returns-clause-words c =
    ap whole_words c.words_as_bytes.ensures.bytes ∙ only _ _ c.segments_of_words.ensures ∙ sym (take-map (from_le_bytes w64) c.args.count c.args.words.now)
