-- Each refusal is the one fault there, or the cost there passes what is left.
use Rattle.std.proofs.Common.{◌≡◌, ◌+◌, ℕ, Result, Ok, Err, ap, sym, ◌∙◌, subst, arith}
use Rattle.std.proofs.lemmas.Result.{err_from_is_err_and}
use Rattle.capnp_model.specs.Segments.{Segments, Place}
use Rattle.capnp_units.specs.declared.errors.Error.{Error}
use Rattle.capnp_units.specs.declared.limiter.ReadLimiter.{ReadLimiter}
use Rattle.capnp_units.specs.Segments.{words_in}
use Rattle.capnp_units.specs.Limits.{left_of, IsPassed}
use Rattle.capnp_units.proofs.lemmas.Spending.{spends_nothing}
use Rattle.capnp_wire_objects.specs.declared.object.Object.{Object}
use Rattle.capnp_wire_objects.specs.Places.{place_view}
use Rattle.capnp_wire_objects.specs.Named.{found_view}
use Rattle.capnp_wire_objects.specs.Follow.{own_cost, KeepsBudget}
use Rattle.capnp_wire_objects.proofs.lemmas.Walks.{stopped_first}
use Rattle.capnp_wire_objects.proofs.lemmas.Walking.{exact_object}
use Rattle.capnp_wire_objects.proofs.lemmas.Paying.{same_left, spends_later, pays_later}
use Rattle.capnp_wire_canonical.specs.Copies.{copy_visits, FollowsData}
use Rattle.capnp_wire_canonical.proofs.Following.{copy_missing, copy_fault, copy_broken, copy_first, stops_at_fault, followed}
use Rattle.capnp_wire_canonical.proofs.follow.follow_data.Goals as goal

pub returns-in_err-found : goal.returns-in_err-found
returns-in_err-found g c =
    let s : Segments = words_in (g.A.ReaderArena.segments c.args.arena.now) in
    let r = err_from_is_err_and c.from_residual.result c.from_residual.ensures.1 in
    stops_at_fault c.args.levels s (place_view c.args.place) c.args.limiter.now c.follow.new.self c.from_residual.result r.0 c.in_err-found.field-0.0 r.1 r.2 (c.follow.ensures.limit, c.follow.ensures.granted) c.follow.ensures.followed
    (copy_missing s (place_view c.args.place) c.args.levels _ (sym c.in_err-found.ensures.found))

pub returns-in_err-ask_data : goal.returns-in_err-ask_data
returns-in_err-ask_data g c =
    let s : Segments = words_in (g.A.ReaderArena.segments c.args.arena.now) in
    let r = err_from_is_err_and c.from_residual-in_err-ask_data.result c.from_residual-in_err-ask_data.ensures.1 in
    stops_at_fault c.args.levels s (place_view c.args.place) c.args.limiter.now c.follow.new.self c.from_residual-in_err-ask_data.result r.0 c.in_err-ask_data.field-0.0 r.1 r.2 (c.follow.ensures.limit, c.follow.ensures.granted) c.follow.ensures.followed
    (copy_fault s (place_view c.args.place) (found_view c.in_ok-found.found) (sym c.in_ok-found.ensures.found) c.args.levels _ c.in_err-ask_data.ensures)

pub returns-in_err-object : goal.returns-in_err-object
returns-in_err-object g c =
    let s : Segments = words_in (g.A.ReaderArena.segments c.args.arena.now) in
    let r = err_from_is_err_and c.from_residual-in_err-object.result c.from_residual-in_err-object.ensures.1 in
    stops_at_fault c.args.levels s (place_view c.args.place) c.args.limiter.now c.follow.new.self c.from_residual-in_err-object.result r.0 c.in_err-object.field-0.0 r.1 r.2 (c.follow.ensures.limit, c.follow.ensures.granted) c.follow.ensures.followed
    (copy_broken s (place_view c.args.place) (found_view c.in_ok-found.found) (sym c.in_ok-found.ensures.found) c.args.levels _ c.in_ok-ask_data.ensures (sym c.in_err-object.ensures.object))

pub returns-in_err-charge : goal.returns-in_err-charge
returns-in_err-charge g c =
    let s : Segments = words_in (g.A.ReaderArena.segments c.args.arena.now) in
    let p : Place = place_view c.args.place in
    let r = err_from_is_err_and c.from_residual-in_err-charge.result c.from_residual-in_err-charge.ensures.1 in
    let old = c.args.limiter.now in
    let mid = c.follow.new.self in
    let e = c.in_err-charge.field-0.0 in
    let kept : KeepsBudget old mid = (c.follow.ensures.limit, c.follow.ensures.granted) in
    let refused = c.in_err-charge.ensures.refused in
    let found = found_view c.in_ok-found.found in
    let first = copy_first s p found (sym c.in_ok-found.ensures.found) c.in_ok-object.object (sym c.in_ok-object.ensures.object) c.args.levels c.in_ok-ask_data.ensures in
    let cost : ℕ = c.in_ok-found.found.pads + own_cost c.in_ok-object.object in
    let same : c.in_ok-found.found.pads + c.own_cost.result ≡ 0 + cost = let w = c.own_cost.ensures.words in omega arith in
    let dear : IsPassed (left_of old) (0 + cost) = subst (λ n. IsPassed (left_of old) n) same (rw (← same_left old mid kept) refused.1) in
    let stop = stopped_first (copy_visits c.args.levels s p) first.0 (Ok cost) old mid e first.1 (spends_later old mid mid 0 kept (spends_nothing mid)) c.follow.ensures.followed (c.in_err-charge.ensures.kind, dear) in
    subst (λ (l : ReadLimiter). FollowsData c.args.levels s p old c.from_residual-in_err-charge.result l) (sym refused.0)
    (subst (λ (y : Result Object Error). FollowsData c.args.levels s p old y mid) (sym (r.1 ∙ ap (λ (y : Error). Err y) r.2)) stop)

pub returns : goal.returns
returns g c =
    let s : Segments = words_in (g.A.ReaderArena.segments c.args.arena.now) in
    let found = found_view c.in_ok-found.found in
    let kind = followed s found.object c.args.levels c.in_ok-object.object c.in_ok-ask_data.ensures (sym c.in_ok-object.ensures.object) in (
      pays_later s (place_view c.args.place) c.args.limiter.now c.follow.new.self c.charge.new.self c.in_ok-found.found.pads (c.in_ok-found.found.pads + c.own_cost.result) c.in_ok-object.object
          (c.follow.ensures.limit, c.follow.ensures.granted) c.follow.ensures.followed c.charge.ensures.followed c.in_ok-charge.ensures.ok (let w = c.own_cost.ensures.words in omega arith)
          (exact_object s (place_view c.args.place) found c.in_ok-object.object (sym c.in_ok-found.ensures.found) (sym c.in_ok-object.ensures.object)) c.in_ok-object.ensures.inside,
      kind.0,
      kind.1,
    )
