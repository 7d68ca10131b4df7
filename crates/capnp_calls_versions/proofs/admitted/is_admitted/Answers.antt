use Rattle.std.proofs.Common.{◌≡◌, ◌-◌, List, ◌∷◌, map, length, take, drop, sym, ◌∙◌, ap, subst}
use Rattle.capnp_records.proofs.lemmas.ListTests.{first_and_rest, no_more}
use Rattle.capnp_calls.specs.CallViews.{step_view, call_view}
use Rattle.capnp_calls.specs.Ways.{IsWay}
use Rattle.capnp_calls.specs.declared.call.Step.{Step}
use Rattle.capnp_calls.specs.declared.find.FoundField.{FoundField}
use Rattle.capnp_calls_versions.specs.Renamed.{names_in}
use Rattle.capnp_calls_versions.specs.Holders.{held_schema}
use Rattle.capnp_calls_versions.specs.Ways.{at_seen, goes_on, way_behind}
use Rattle.capnp_calls_versions.proofs.KnownPlaces.{first_step, other_steps}
use Rattle.capnp_calls_versions.proofs.Ways.{one_step, no_step}
use Rattle.capnp_calls_versions.proofs.admitted.is_admitted.Goals as goal

pub into_at-requires : goal.into_at-requires
into_at-requires c =
    let v = c.args.versions.now in
    let rest = c.loop-rest.rest.now in
    let step = c.step-item.result in
    let more = take (length rest - 1) (drop 1 rest) in
    let known = c.loop-rest.known.now in
    let split : rest ≡ step ∷ more = first_and_rest rest step c.in-len1-up.len_at_least c.step-item.is in
    let way : IsWay (held_schema v.older) (map step_view (step ∷ more)) known = subst (λ (xs : List Step). IsWay (held_schema v.older) (map step_view xs) known) split c.loop-rest.invariant.1 in
    record { way = first_step (held_schema v.older) (step_view step) (map step_view more) known way }

pub returns-in-Unknown : goal.returns-in-Unknown
returns-in-Unknown c =
    let v = c.args.versions.now in
    let verb = (call_view c.args.call.now).verb in
    let rest = c.loop-rest.rest.now in
    let step = c.step-item.result in
    let more = take (length rest - 1) (drop 1 rest) in
    let split : rest ≡ step ∷ more = first_and_rest rest step c.in-len1-up.len_at_least c.step-item.is in
    sym (c.in-Unknown.ensures (map step_view more) verb)
    ∙ sym (one_step (names_in v.names) (held_schema v.older) (held_schema v.newer) (step_view step) (map step_view more) verb (at_seen v c.loop-rest.at))
    ∙ ap (λ (xs : List Step). goes_on v (map step_view xs) verb (at_seen v c.loop-rest.at)) (sym split)
    ∙ c.loop-rest.invariant.0

pub returns-in-Unfit : goal.returns-in-Unfit
returns-in-Unfit c =
    let v = c.args.versions.now in
    let verb = (call_view c.args.call.now).verb in
    let rest = c.loop-rest.rest.now in
    let step = c.step-item.result in
    let more = take (length rest - 1) (drop 1 rest) in
    let split : rest ≡ step ∷ more = first_and_rest rest step c.in-len1-up.len_at_least c.step-item.is in
    sym (c.in-Unfit.ensures (map step_view more) verb)
    ∙ sym (one_step (names_in v.names) (held_schema v.older) (held_schema v.newer) (step_view step) (map step_view more) verb (at_seen v c.loop-rest.at))
    ∙ ap (λ (xs : List Step). goes_on v (map step_view xs) verb (at_seen v c.loop-rest.at)) (sym split)
    ∙ c.loop-rest.invariant.0

pub loop-rest-preserved : goal.loop-rest-preserved
loop-rest-preserved c =
    let v = c.args.versions.now in
    let verb = (call_view c.args.call.now).verb in
    let rest = c.loop-rest.rest.now in
    let step = c.step-item.result in
    let more = take (length rest - 1) (drop 1 rest) in
    let split : rest ≡ step ∷ more = first_and_rest rest step c.in-len1-up.len_at_least c.step-item.is in
    let known = c.loop-rest.known.now in
    let way : IsWay (held_schema v.older) (map step_view (step ∷ more)) known = subst (λ (xs : List Step). IsWay (held_schema v.older) (map step_view xs) known) split c.loop-rest.invariant.1 in
    let behind : IsWay (held_schema v.older) (map step_view more) (way_behind (step_view step) known) = other_steps (held_schema v.older) (step_view step) (map step_view more) known way in (
      sym (c.in-To.ensures (map step_view more) verb)
          ∙ sym (one_step (names_in v.names) (held_schema v.older) (held_schema v.newer) (step_view step) (map step_view more) verb (at_seen v c.loop-rest.at))
          ∙ ap (λ (xs : List Step). goes_on v (map step_view xs) verb (at_seen v c.loop-rest.at)) (sym split)
          ∙ c.loop-rest.invariant.0,
      subst (λ (xs : List FoundField). IsWay (held_schema v.older) (map step_view more) xs) (sym c.way_behind-known.ensures) behind,
    )

pub returns : goal.returns
returns c =
    let v = c.args.versions.now in
    let verb = (call_view c.args.call.now).verb in
    c.is_admitted_end.ensures
    ∙ sym (no_step (names_in v.names) (held_schema v.older) (held_schema v.newer) verb (at_seen v c.loop-rest.at))
    ∙ ap (λ (xs : List Step). goes_on v (map step_view xs) verb (at_seen v c.loop-rest.at)) (sym (no_more c.loop-rest.rest.now c.in_default.len_below))
    ∙ c.loop-rest.invariant.0
