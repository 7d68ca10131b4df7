-- The word is that of the bytes.
use Rattle.std.proofs.Common.{ap, ◌∙◌}
use Rattle.std.specs.Prelude.{unwrap_or}
use Rattle.capnp_wire_canonical.proofs.Held.{word_held}
use Rattle.capnp_wire_canonical.proofs.own_words.word_or_zero_in.Goals as goal

pub returns-clause-word : goal.returns-clause-word
returns-clause-word g c = c.unwrap_or.ensures ∙ ap (λ o. unwrap_or o 0) (c.word_in.ensures.word ∙ word_held (g.A.ReaderArena.segments c.args.arena.now) c.args.place.segment c.args.bytes.now c.requires.bytes c.args.place.position)
