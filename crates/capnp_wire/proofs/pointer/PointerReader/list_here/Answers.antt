-- The object is read as a list; one of plain elements has no pointers.
use Rattle.std.proofs.Common.{Ok, ap, sym, ◌∙◌, subst, arith}
use Rattle.std.proofs.lemmas.Result.{err_from_is_err_and, IfOk-from_err}
use Rattle.capnp_units.specs.declared.sizes.ElementSize.TheVariants.{InlineComposite}
use Rattle.capnp_units.specs.Segments.{words_in}
use Rattle.capnp_units.specs.Sizes.{size_number}
use Rattle.capnp_wire_objects.specs.declared.object.Object.{Object}
use Rattle.capnp_wire_objects.specs.Arenas.{segment_bytes}
use Rattle.capnp_wire_objects.specs.Places.{place_view}
use Rattle.capnp_wire_objects.specs.Objects.{AreThere}
use Rattle.capnp_wire.specs.Views.{backing_bytes, section_at, ListView, seen_pointer, seen_list}
use Rattle.capnp_wire.specs.Reached.{begins_in}
use Rattle.capnp_wire.specs.Reads.{read_list}
use Rattle.capnp_wire.proofs.Elements.{no_step_words}
use Rattle.capnp_wire.proofs.Gets.{read_of, refused_of}
use Rattle.capnp_wire.proofs.Objects.{section_read}
use Rattle.capnp_wire.proofs.pointer.PointerReader.list_here.Goals as goal

pub returns-in_err-reached : goal.returns-in_err-reached
returns-in_err-reached g c =
    let p = seen_pointer g.A.ReaderArena.segments c.args.self.now in
    let r = err_from_is_err_and c.from_residual.result c.from_residual.ensures.1 in
    record {
      list = refused_of (seen_list g.A.ReaderArena.segments) (read_list p.basis p.levels c.args.expected) p c.args.limiter.now c.reach.new.limiter c.in_err-reached.field-0.0 r.0 c.from_residual.result r.1 r.2 c.in_err-reached.ensures.object;
      bytewise = λ _. IfOk-from_err c.from_residual.result _ c.from_residual.ensures.0;
    }

pub returns-in-Null : goal.returns-in-Null
returns-in-Null g c =
    let p = seen_pointer g.A.ReaderArena.segments c.args.self.now in
    let read = read_list p.basis p.levels c.args.expected in
    record {
      list = read_of (seen_list g.A.ReaderArena.segments) read p c.args.limiter.now c.reach.new.limiter c.in_ok-reached.reached.object (Ok c.empty.result) (ap read c.in-Null.is ∙ ap (λ (l : ListView). Ok l) (sym c.empty.ensures)) c.in_ok-reached.ensures.object;
      bytewise = λ other bits. other (sym (ap (λ (l : ListView). size_number l.size) c.empty.ensures) ∙ bits);
    }

pub lend_of-bytes-requires-clause-bytes : goal.lend_of-bytes-requires-clause-bytes
lend_of-bytes-requires-clause-bytes g c = c.in_ok-reached.ensures.bytes ∙ ap (λ (o : Object). segment_bytes (backing_bytes g.A.ReaderArena.segments c.args.self.now.backing) (begins_in o)) c.in-List.is

pub lend_of-bytes-requires-clause-there : goal.lend_of-bytes-requires-clause-there
lend_of-bytes-requires-clause-there g c =
    let s = words_in (backing_bytes g.A.ReaderArena.segments c.args.self.now.backing) in
    let inside = rw c.in-List.is at c.in_ok-reached.ensures.inside in
    subst (AreThere s (place_view c.in-List.start)) (sym c.words_of_elements-words.ensures.words) inside.1

pub list_of-requires-clause-near : goal.list_of-requires-clause-near
list_of-requires-clause-near g c =
    let inside = rw c.in-List.is at c.in_ok-reached.ensures.inside in
    let none = no_step_words c.in-List.size 0 0 c.in-List.count inside.0 in
    let end = inside.1.1 in
    omega arith

pub returns-in-List : goal.returns-in-List
returns-in-List g c =
    let p = seen_pointer g.A.ReaderArena.segments c.args.self.now in
    let read = read_list p.basis p.levels c.args.expected in
    let q = place_view c.in-List.start in
    let section = c.lend_of-bytes.ensures.section ∙ ap (section_at p.basis.segments q) c.words_of_elements-words.ensures.words in
    let here = section_read p.basis p.levels c.args.expected c.in-List.size c.in-List.count 0 0 _ _ q section in
    record {
      list = read_of (seen_list g.A.ReaderArena.segments) read p c.args.limiter.now c.reach.new.limiter c.in_ok-reached.reached.object c.list_of.result (ap read c.in-List.is ∙ here ∙ sym c.list_of.ensures.list) c.in_ok-reached.ensures.object;
      bytewise = c.list_of.ensures.bytewise;
    }

pub returns-in-PointerList : goal.returns-in-PointerList
returns-in-PointerList g c =
    let p = seen_pointer g.A.ReaderArena.segments c.args.self.now in
    let read = read_list p.basis p.levels c.args.expected in
    record {
      list = read_of (seen_list g.A.ReaderArena.segments) read p c.args.limiter.now c.reach.new.limiter c.in_ok-reached.reached.object c.list_of-in-PointerList.result (ap read c.in-PointerList.is ∙ sym c.list_of-in-PointerList.ensures.list) c.in_ok-reached.ensures.object;
      bytewise = c.list_of-in-PointerList.ensures.bytewise;
    }

pub returns-in-StructList : goal.returns-in-StructList
returns-in-StructList g c =
    let p = seen_pointer g.A.ReaderArena.segments c.args.self.now in
    let read = read_list p.basis p.levels c.args.expected in
    let o = c.in-StructList in
    let here = section_read p.basis p.levels c.args.expected InlineComposite o.count o.data_words o.pointers _ _ (place_view o.start) c.lend_of-bytes-in-StructList.ensures.section in
    record {
      list = read_of (seen_list g.A.ReaderArena.segments) read p c.args.limiter.now c.reach.new.limiter c.in_ok-reached.reached.object c.list_of-in-StructList.result (ap read o.is ∙ here ∙ sym c.list_of-in-StructList.ensures.list) c.in_ok-reached.ensures.object;
      bytewise = c.list_of-in-StructList.ensures.bytewise;
    }
