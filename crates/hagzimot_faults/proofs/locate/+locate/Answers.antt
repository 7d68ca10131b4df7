use Rattle.std.proofs.Common.{◌≡◌, ◌++◌, ◌∷◌, [], refl, sym, ◌∙◌, inl}
use Rattle.capnp_model.specs.Segments.{Segments}
use Rattle.capnp_units.specs.Segments.{words_in}
use Rattle.capnp_wire_objects.specs.Places.{place_view}
use Rattle.hagzimot_faults.specs.Located.{row_view}
use Rattle.hagzimot_faults.proofs.Leading.{here, capability_here, all_from_inside, row_found, element_found}
use Rattle.hagzimot_faults.proofs.locate.+locate.Goals as goal

pub locate_at-returns-in-Err : goal.locate_at-returns-in-Err
locate_at-returns-in-Err g t c =
    let s : Segments = words_in (g.A.ReaderArena.segments c.args.arena.now) in
    here s (place_view c.args.place) c.args.steps.now.items _ refl (inl (record { levels = c.args.levels; left = c.args.limiter.now; error = c.in-Err.e; kind_is = refl; why = c.in-Err.ensures.2 }))

pub locate_at-returns-then-eq : goal.locate_at-returns-then-eq
locate_at-returns-then-eq g t c =
    let s : Segments = words_in (g.A.ReaderArena.segments c.args.arena.now) in
    capability_here s (place_view c.args.place) c.in-Ok.ensures.0.pads c.in-Capability.index c.in-Ok.object c.args.steps.now.items _ c.in-Ok.ensures.0.is c.in-Capability.is refl refl

pub locate_at-returns : goal.locate_at-returns
locate_at-returns g t c =
    let s : Segments = words_in (g.A.ReaderArena.segments c.args.arena.now) in
    all_from_inside s (place_view c.args.place) c.in-Ok.ensures.0.pads c.in-Ok.object c.args.steps.now.items c.locate_inside.result _ c.in-Ok.ensures.0.is c.locate_inside.ensures

pub locate_in_elements-returns-then-is_some : goal.locate_in_elements-returns-then-is_some
locate_in_elements-returns-then-is_some g t c =
    let s : Segments = words_in (g.A.ReaderArena.segments c.args.arena.now) in
    element_found s c.args.elements c.loop-i.i c.args.steps.now.items c.loop-i.steps.items c.in_ok-found.found c.locate_in_row.new.steps.items (sym c.is_some.ensures ∙ c.if-is_some.true) c.loop-i-test.true c.loop-i.invariant c.in_ok-found.ensures

pub locate_in_row-returns-then-is_some : goal.locate_in_row-returns-then-is_some
locate_in_row-returns-then-is_some g t c =
    let s : Segments = words_in (g.A.ReaderArena.segments c.args.arena.now) in
    let pushed : c.push.new.self.items ≡ c.args.steps.now.items ++ row_view c.args.row c.loop-i.i ∷ [] = c.in_ok-push.ensures.items ∙ rw (c.loop-i.invariant, c.step.ensures) refl in
    row_found s (place_view c.args.first) c.args.count c.args.row c.loop-i.i c.args.steps.now.items c.push.new.self.items c.in_ok-found.found c.locate_at.new.steps.items (sym c.is_some.ensures ∙ c.if-is_some.true) c.loop-i-test.true pushed c.in_ok-found.ensures
