use Rattle.std.proofs.Common.{List, ap, ◌∙◌}
use Rattle.capnp_model.specs.Segments.{Segments}
use Rattle.capnp_units.specs.Segments.{words_in}
use Rattle.capnp_wire_objects.specs.declared.place.Place.{Place as Pointer}
use Rattle.hagzimot_explain.specs.Rows.{for_word}
use Rattle.hagzimot_explain.specs.Marks.{word_by}
use Rattle.hagzimot_explain.proofs.MarkLemmas.{marks_are_true}
use Rattle.hagzimot_explain.proofs.explained.explain.Goals as goal

pub returns : goal.returns
returns g c =
    let s : Segments = words_in (g.S.ReaderSegments.segments c.args.segments.now) in
    record {
      each = λ q h. c.in_ok-marked.ensures q h ∙ ap (λ (ps : List Pointer). for_word s q (word_by s ps q)) c.as_slice.ensures.value;
      is_so = marks_are_true s c.in_ok-pointers.pointers.places.items;
      pointers = c.in_ok-pointers.ensures;
    }
