-- A pad of one word is a pointer.
use Rattle.std.proofs.Common.{sym, ◌∙◌}
use Rattle.capnp_units.specs.Segments.{words_in}
use Rattle.capnp_wire_objects.specs.Places.{place_view, pointer_view}
use Rattle.capnp_wire_objects.proofs.Pads.{short_pad}
use Rattle.capnp_wire_objects.proofs.named.in_short_pad.Goals as goal

pub returns : goal.returns
returns g c =
    short_pad (words_in (g.A.ReaderArena.segments c.args.arena.now)) (place_view c.args.pad) c.in_ok-word.word (pointer_view c.pointer_of_word.result) _
    (sym c.in_ok-word.ensures.ok_part ∙ c.word_at.ensures.word) c.pointer_of_word.ensures c.described_behind.ensures
