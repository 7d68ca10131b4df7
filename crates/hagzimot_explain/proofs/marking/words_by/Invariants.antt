-- The words are marked by the pointers so far.
use Rattle.std.proofs.Common.{◌≡◌, ◌<◌, ◌^◌, take}
use Rattle.capnp_model.specs.Segments.{Place}
use Rattle.capnp_units.specs.Segments.{words_in}
use Rattle.hagzimot_explain.specs.Rows.{value_of, for_word}
use Rattle.hagzimot_explain.specs.Marks.{word_by}
use Rattle.hagzimot_explain.proofs.marking.words_by.Given as goal

abbrev pub invariant-loop-pointer : goal.invariant-loop-pointer
invariant-loop-pointer g l =
    (q : Place) → q.segment < 2 ^ 32 → value_of l.words.items q ≡ for_word (words_in (g.S.ReaderSegments.segments l.segments)) q (word_by (words_in (g.S.ReaderSegments.segments l.segments)) (take l.pointer-index l.pointers) q)
