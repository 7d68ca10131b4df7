use Rattle.std.proofs.Common.{Some, refl, ◌∙◌, inl, inr}
use Rattle.capnp_model.specs.Segments.{Segments}
use Rattle.capnp_units.specs.Segments.{words_in}
use Rattle.hagzimot_faults.specs.Located.{IsFirstKind}
use Rattle.hagzimot_faults.proofs.Values.{IsFresh, value_is, stopped_none, sized, counted_none, counted_has, counted_some}
use Rattle.hagzimot_faults.proofs.locate.wire_fault.Goals as goal
use Rattle.hagzimot_faults.proofs.locate.wire_fault.Goals.{in-Err, in-Ok}

pub returns-in-Ok-2 : goal.returns-in-Ok-2
returns-in-Ok-2 g c =
    let s : Segments = words_in (g.A.ReaderArena.segments c.args.arena.now) in
    let n = c.args.limits.nesting in
    let limit = Some c.args.limits.words in
    let costs = c.values_on_walks.ensures.cost in
    let fresh : IsFresh limit c.new-limiter.result = record { limit_is = c.new-limiter.ensures.limit; none = c.new-limiter.ensures.granted } in
    let x = sized costs n limit s c.new-limiter.result c.size_at.new.limiter c.in-Ok.size fresh c.in-Ok.ensures in
    (x.0, value_is n c.args.limits.words s ∙ counted_some costs n limit s c.sizes_of_values.ensures.none c.in-Ok.size c.size_at.new.limiter.granted x.0 x.1 c.if-size-ne0.false)

pub returns : goal.returns
returns g c =
    let s : Segments = words_in (g.A.ReaderArena.segments c.args.arena.now) in
    let n = c.args.limits.nesting in
    let limit = Some c.args.limits.words in
    let costs = c.values_on_walks.ensures.cost in
    let fresh : IsFresh limit c.new-limiter.result = record { limit_is = c.new-limiter.ensures.limit; none = c.new-limiter.ensures.granted } in
    elim c.match-size_at.branch [
      | in-Err w ↦
          let none = value_is n c.args.limits.words s ∙ stopped_none costs n limit s c.new-limiter.result c.size_at.new.limiter w.in-Err.e fresh w.in-Err.ensures in
          let first : IsFirstKind c.args.limits s c.match-size_at.kind.0 = rw w.kind-is (inl (record { start = c.new-limiter.result; all = c.new-limiter.ensures.limit; unused = c.new-limiter.ensures.granted; end = c.size_at.new.limiter; error = w.in-Err.e; kind_is = refl; stopped = w.in-Err.ensures })) in
          (none, c.in_ok-at.ensures, first)
      | in-Ok w ↦
          let x = sized costs n limit s c.new-limiter.result c.size_at.new.limiter w.in-Ok.size fresh w.in-Ok.ensures in
          let some = w.if-size-ne0.true in
          let none = value_is n c.args.limits.words s ∙ counted_none costs n limit s c.sizes_of_values.ensures.no_count w.in-Ok.size c.size_at.new.limiter.granted x.0 x.1 some in
          let first : IsFirstKind c.args.limits s c.match-size_at.kind.0 = rw w.kind-is (inr (record { kind_is = refl; value = x.0; there = x.1.there; has = counted_has costs n limit s c.sizes_of_values.ensures.no_count w.in-Ok.size c.size_at.new.limiter.granted x.0 x.1 some })) in
          (none, c.in_ok-at.ensures, first)
    ]
