-- The object is read as a struct.
use Rattle.std.proofs.Common.{Ok, ap, sym, ◌∙◌}
use Rattle.std.proofs.lemmas.Result.{err_from_is_err_and}
use Rattle.capnp_wire.specs.Views.{StructView, seen_pointer, seen_struct}
use Rattle.capnp_wire.specs.Reads.{read_struct}
use Rattle.capnp_wire.proofs.Gets.{read_of, refused_of}
use Rattle.capnp_wire.proofs.Passing.{no_level}
use Rattle.capnp_wire.proofs.Objects.{struct_read}
use Rattle.capnp_wire.proofs.pointer.PointerReader.struct_here.Goals as goal

pub returns-in_err-reached : goal.returns-in_err-reached
returns-in_err-reached g c =
    let p = seen_pointer g.A.ReaderArena.segments c.args.self.now in
    let r = err_from_is_err_and c.from_residual.result c.from_residual.ensures.1 in
    refused_of (seen_struct g.A.ReaderArena.segments) (read_struct p.basis p.levels) p c.args.limiter.now c.reach.new.limiter c.in_err-reached.field-0.0 r.0 c.from_residual.result r.1 r.2 c.in_err-reached.ensures.object

pub returns-in_err-levels-in-Struct : goal.returns-in_err-levels-in-Struct
returns-in_err-levels-in-Struct g c =
    let p = seen_pointer g.A.ReaderArena.segments c.args.self.now in
    let result = (c.from_residual-in_err-levels-in-Struct).result in
    let r = err_from_is_err_and result (c.from_residual-in_err-levels-in-Struct).ensures.1 in
    let refused = no_level (seen_struct g.A.ReaderArena.segments) p.levels _ (c.in_err-levels-in-Struct).field-0.0 r.0 result r.1 r.2 (c.in_err-levels-in-Struct).ensures in
    read_of (seen_struct g.A.ReaderArena.segments) (read_struct p.basis p.levels) p c.args.limiter.now c.reach.new.limiter c.in_ok-reached.reached.object result (ap (read_struct p.basis p.levels) c.in-Struct.is ∙ sym refused) c.in_ok-reached.ensures.object

pub returns-in-Null : goal.returns-in-Null
returns-in-Null g c =
    let p = seen_pointer g.A.ReaderArena.segments c.args.self.now in
    read_of (seen_struct g.A.ReaderArena.segments) (read_struct p.basis p.levels) p c.args.limiter.now c.reach.new.limiter c.in_ok-reached.reached.object (Ok c.empty.result)
    (ap (read_struct p.basis p.levels) c.in-Null.is ∙ ap (λ (v : StructView). Ok v) (sym c.empty.ensures)) c.in_ok-reached.ensures.object

pub returns-in_ok-levels-in-Struct : goal.returns-in_ok-levels-in-Struct
returns-in_ok-levels-in-Struct g c =
    let p = seen_pointer g.A.ReaderArena.segments c.args.self.now in
    let here = struct_read p.basis p.levels (c.in_ok-levels-in-Struct).levels c.in-Struct.start c.in-Struct.data_words c.in-Struct.pointers _ _ (seen_struct g.A.ReaderArena.segments c.of_parts.result) (c.in_ok-levels-in-Struct).ensures c.lend_of-section.ensures.len c.lend_of-section.ensures.section c.of_parts.ensures in
    read_of (seen_struct g.A.ReaderArena.segments) (read_struct p.basis p.levels) p c.args.limiter.now c.reach.new.limiter c.in_ok-reached.reached.object (Ok c.of_parts.result) (ap (read_struct p.basis p.levels) c.in-Struct.is ∙ here) c.in_ok-reached.ensures.object
