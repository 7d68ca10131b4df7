use Rattle.std.proofs.Common.{◌≡◌, ◌∙◌, sym, Result, Ok, Err, List, ℕ}
use Rattle.capnp_model.specs.Kinds.{Kind}
use Rattle.capnp_model.specs.Segments.{Segments}
use Rattle.capnp_units.specs.Errors.{kind_of}
use Rattle.capnp_stream.proofs.FlatLemmas.{described-reads, same-info}
use Rattle.capnp_stream.proofs.flat.NoAllocSegmentTableInfo.describes.Goals as goal

pub returns-in-Err : goal.returns-in-Err
returns-in-Err c = (
  (λ e. absurd cc),
  λ d.
      let read = described-reads c.args.self.now c.args.buffer.now d in
      let no : ◌≡◌ {A = Result (Segments × List ℕ) Kind} (Err (kind_of c.in-Err.field-0.kind)) (Ok read.0) = sym c.in-Err.ensures.refused ∙ read.1 in
      absurd cc,
)

pub returns-in-Ok : goal.returns-in-Ok
returns-in-Ok c = same-info c.in-Ok.found c.args.self.now c.args.buffer.now c.in-Ok.ensures.described c.eq.result c.eq.ensures
