-- The object begins inside its segment.
use Rattle.std.proofs.Common.{refl, ap}
use Rattle.std.proofs.lemmas.Result.{err_from_is_err_and}
use Rattle.capnp_units.specs.Segments.{words_in}
use Rattle.capnp_wire_objects.specs.Named.{found_view, named_view}
use Rattle.capnp_wire.specs.Views.{backing_bytes}
use Rattle.capnp_wire.proofs.Sorts.{sort_told, sort_untold}
use Rattle.capnp_wire.proofs.pointer.PointerReader.get_pointer_type.Goals as goal

pub returns-in_err-found : goal.returns-in_err-found
returns-in_err-found g c =
    let s = words_in (backing_bytes g.A.ReaderArena.segments c.args.self.now.backing) in
    let r = err_from_is_err_and c.from_residual.result c.from_residual.ensures.1 in
    sort_untold s c.args.self.now.place c.in-Some.place c.in-Some.is c.in_err-found.field-0.0 r.0 c.from_residual.result c.in_err-found.ensures.found r.1 r.2

pub returns-in-Null : goal.returns-in-Null
returns-in-Null g c =
    let s = words_in (backing_bytes g.A.ReaderArena.segments c.args.self.now.backing) in
    sort_told s c.args.self.now.place c.in-Some.place c.in-Some.is (found_view c.in_ok-found.found) _ _ c.in_ok-found.ensures.found (ap named_view c.in-Null.is) refl

pub returns-in-Capability : goal.returns-in-Capability
returns-in-Capability g c =
    let s = words_in (backing_bytes g.A.ReaderArena.segments c.args.self.now.backing) in
    sort_told s c.args.self.now.place c.in-Some.place c.in-Some.is (found_view c.in_ok-found.found) _ _ c.in_ok-found.ensures.found (ap named_view c.in-Capability.is) refl

pub returns-in-Struct : goal.returns-in-Struct
returns-in-Struct g c =
    let s = words_in (backing_bytes g.A.ReaderArena.segments c.args.self.now.backing) in
    sort_told s c.args.self.now.place c.in-Some.place c.in-Some.is (found_view c.in_ok-found.found) _ _ c.in_ok-found.ensures.found (ap named_view c.in-Struct.is) c.type_inside.ensures

pub returns-in-List : goal.returns-in-List
returns-in-List g c =
    let s = words_in (backing_bytes g.A.ReaderArena.segments c.args.self.now.backing) in
    sort_told s c.args.self.now.place c.in-Some.place c.in-Some.is (found_view c.in_ok-found.found) _ _ c.in_ok-found.ensures.found (ap named_view c.in-List.is) c.type_inside-in-List.ensures
