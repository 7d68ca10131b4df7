-- A pad of two words is a place and a pointer.
use Rattle.std.proofs.Common.{sym, ◌∙◌}
use Rattle.capnp_units.specs.Segments.{words_in}
use Rattle.capnp_wire_objects.specs.Places.{place_view, pointer_view}
use Rattle.capnp_wire_objects.proofs.Pads.{long_pad}
use Rattle.capnp_wire_objects.proofs.named.in_long_pad.Goals as goal

pub returns : goal.returns
returns g c =
    long_pad (words_in (g.A.ReaderArena.segments c.args.arena.now)) (place_view c.args.pad) (place_view c.place_in_word.result) c.in_ok-far.far c.in_ok-word.word (pointer_view c.pointer_of_word.result) _
    (sym c.in_ok-far.ensures.ok_part ∙ c.word_at.ensures.word) (sym c.in_ok-word.ensures.ok_part ∙ c.word_at-2.ensures.word)
    c.place_in_word.ensures c.pointer_of_word.ensures c.described_at.ensures
