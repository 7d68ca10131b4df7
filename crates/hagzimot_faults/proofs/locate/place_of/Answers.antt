use Rattle.std.proofs.Common.{◌≡◌}
use Rattle.capnp_model.specs.Segments.{Segments}
use Rattle.capnp_units.specs.Segments.{words_in}
use Rattle.hagzimot_faults.proofs.Leading.{root_found}
use Rattle.hagzimot_faults.proofs.locate.place_of.Goals as goal

pub returns-in-Some : goal.returns-in-Some
returns-in-Some g c =
    let s : Segments = words_in (g.A.ReaderArena.segments c.args.arena.now) in
    let same : c.in-Some.refused.kind ≡ c.args.kind = c.are_same.ensures c.if-are_same.true in
    let x = root_found s c.in_ok-found.found c.in-Some.refused c.args.kind c.locate_at.new.steps.items c.in-Some.is same (rw (← c.new-steps.ensures.items) c.in_ok-found.ensures) in
    record { leads = x.0; refused = x.1 }
