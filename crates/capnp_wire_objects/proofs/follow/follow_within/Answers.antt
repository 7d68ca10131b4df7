-- Each refusal is the one fault there, or the cost there passes what is left.
use Rattle.std.proofs.Common.{◌≡◌, ◌+◌, Err, ap, sym, ◌∙◌, subst, inl, inr, arith}
use Rattle.std.proofs.lemmas.Result.{err_from_is_err_and}
use Rattle.capnp_model.specs.Segments.{Segments}
use Rattle.capnp_units.specs.declared.limiter.ReadLimiter.{ReadLimiter}
use Rattle.capnp_units.specs.Errors.{kind_of}
use Rattle.capnp_units.specs.Segments.{words_in}
use Rattle.capnp_units.specs.Limits.{left_of, IsPassed, Follows}
use Rattle.capnp_wire_objects.specs.declared.object.Found.{Found}
use Rattle.capnp_wire_objects.specs.Places.{place_view}
use Rattle.capnp_wire_objects.specs.Named.{found_view}
use Rattle.capnp_wire_objects.specs.Follow.{follow_cost, KeepsBudget}
use Rattle.capnp_wire_objects.proofs.lemmas.Walking.{within_missing, level_refused, whole_is_refused, exact_within, exact_object, still_within}
use Rattle.capnp_wire_objects.proofs.lemmas.Paying.{same_left, pays_later, refused_by}
use Rattle.capnp_wire_objects.proofs.follow.follow_within.Goals as goal

pub returns-in_err-found : goal.returns-in_err-found
returns-in_err-found g c =
    let s : Segments = words_in (g.A.ReaderArena.segments c.args.arena.now) in
    let r = err_from_is_err_and c.from_residual.result c.from_residual.ensures.1 in
    refused_by c.args.levels s (place_view c.args.place) c.args.limiter.now c.follow.new.self c.from_residual.result r.0 c.in_err-found.field-0.0 r.1 r.2 (c.follow.ensures.limit, c.follow.ensures.granted) c.follow.ensures.followed
    (inl (within_missing s (place_view c.args.place) c.args.levels _ (sym c.in_err-found.ensures.found)))

pub returns-in_err-ask_level : goal.returns-in_err-ask_level
returns-in_err-ask_level g c =
    let s : Segments = words_in (g.A.ReaderArena.segments c.args.arena.now) in
    let r = err_from_is_err_and c.from_residual-in_err-ask_level.result c.from_residual-in_err-ask_level.ensures.1 in
    let why = c.in_err-ask_level.ensures in
    refused_by c.args.levels s (place_view c.args.place) c.args.limiter.now c.follow.new.self c.from_residual-in_err-ask_level.result r.0 c.in_err-ask_level.field-0.0 r.1 r.2 (c.follow.ensures.limit, c.follow.ensures.granted) c.follow.ensures.followed
    (inl (level_refused s (place_view c.args.place) (found_view c.in_ok-found.found) (sym c.in_ok-found.ensures.found) c.args.levels why.1 ∙ ap (λ k. Err (kind_of k)) (sym why.0)))

pub returns-in_err-object : goal.returns-in_err-object
returns-in_err-object g c =
    let s : Segments = words_in (g.A.ReaderArena.segments c.args.arena.now) in
    let r = err_from_is_err_and c.from_residual-in_err-object.result c.from_residual-in_err-object.ensures.1 in
    refused_by c.args.levels s (place_view c.args.place) c.args.limiter.now c.follow.new.self c.from_residual-in_err-object.result r.0 c.in_err-object.field-0.0 r.1 r.2 (c.follow.ensures.limit, c.follow.ensures.granted) c.follow.ensures.followed
    (inl (whole_is_refused s (place_view c.args.place) (found_view c.in_ok-found.found) (sym c.in_ok-found.ensures.found) c.args.levels _ c.in_ok-ask_level.ensures (sym c.in_err-object.ensures.object)))

pub returns-in_err-charge : goal.returns-in_err-charge
returns-in_err-charge g c =
    let s : Segments = words_in (g.A.ReaderArena.segments c.args.arena.now) in
    let r = err_from_is_err_and c.from_residual-in_err-charge.result c.from_residual-in_err-charge.ensures.1 in
    let old = c.args.limiter.now in
    let mid = c.follow.new.self in
    let kept : KeepsBudget old mid = (c.follow.ensures.limit, c.follow.ensures.granted) in
    let refused = c.in_err-charge.ensures.refused in
    let there = exact_within s (place_view c.args.place) (found_view c.in_ok-found.found) (sym c.in_ok-found.ensures.found) c.in_ok-object.object (sym c.in_ok-object.ensures.object) c.args.levels c.in_ok-ask_level.ensures in
    let f : Found = record { pads = c.in_ok-found.found.pads; object = c.in_ok-object.object } in
    let cost : c.in_ok-found.found.pads + c.own_cost.result ≡ follow_cost f = let w = c.own_cost.ensures.words in omega arith in
    let dear : IsPassed (left_of old) (follow_cost f) = subst (λ n. IsPassed (left_of old) n) cost (rw (← same_left old mid kept) refused.1) in
    refused_by c.args.levels s (place_view c.args.place) old c.charge.new.self c.from_residual-in_err-charge.result r.0 c.in_err-charge.field-0.0 r.1 r.2
    (subst (λ (l : ReadLimiter). KeepsBudget old l) (sym refused.0) kept) (subst (λ (l : ReadLimiter). Follows old l 1) (sym refused.0) c.follow.ensures.followed) (inr (c.in_err-charge.ensures.kind, f, there, dear))

pub returns : goal.returns
returns g c =
    let s : Segments = words_in (g.A.ReaderArena.segments c.args.arena.now) in
    let found = found_view c.in_ok-found.found in (
      pays_later s (place_view c.args.place) c.args.limiter.now c.follow.new.self c.charge.new.self c.in_ok-found.found.pads (c.in_ok-found.found.pads + c.own_cost.result) c.in_ok-object.object
          (c.follow.ensures.limit, c.follow.ensures.granted) c.follow.ensures.followed c.charge.ensures.followed c.in_ok-charge.ensures.ok (let w = c.own_cost.ensures.words in omega arith)
          (exact_object s (place_view c.args.place) found c.in_ok-object.object (sym c.in_ok-found.ensures.found) (sym c.in_ok-object.ensures.object)) c.in_ok-object.ensures.inside,
      still_within s found.object c.args.levels c.in_ok-object.object c.in_ok-ask_level.ensures (sym c.in_ok-object.ensures.object),
    )
