use Rattle.std.proofs.Common.{List, ℕ, Ok, ◌∙◌, Some, sym, ap, arith}
use Rattle.capnp_model.specs.Segments.{Segments}
use Rattle.capnp_model.specs.Kinds.{Kind}
use Rattle.std.specs.Prelude.{Result}
use Rattle.capnp_units.specs.Segments.{words_in}
use Rattle.capnp_stream.specs.Buffers.{found_segments}
use Rattle.hagzimot_salvage.proofs.Fronts.{behind_text, shorter}
use Rattle.hagzimot_salvage.proofs.frames.frame_len.Goals as goal

pub returns-in-Ok-clause-message : goal.returns-in-Ok-clause-message
returns-in-Ok-clause-message c =
    let limit = Some c.args.limit in
    let b = c.args.bytes.now in
    let rest = c.from_slice.new.slice.now in
    let framed = c.texts_in_slices.ensures.of_slice limit b _ c.in-Ok.ensures.message in
    let front = c.texts_of_messages.ensures.framed_front limit b _ rest framed in
    (words_in (found_segments c.in-Ok.field-0), framed ∙ ap (λ (r : List ℕ). let x : Result (Segments × List ℕ) Kind = Ok (words_in (found_segments c.in-Ok.field-0), r) in x) (sym (behind_text b front.0 rest front.1)))

pub returns-in-Ok-clause-some : goal.returns-in-Ok-clause-some
returns-in-Ok-clause-some c =
    let limit = Some c.args.limit in
    let b = c.args.bytes.now in
    let rest = c.from_slice.new.slice.now in
    let framed = c.texts_in_slices.ensures.of_slice limit b _ c.in-Ok.ensures.message in
    let front = c.texts_of_messages.ensures.framed_front limit b _ rest framed in
    let less = shorter limit b front.0 rest _ front.1 front.2 in
    (omega (arith, less), omega arith)
