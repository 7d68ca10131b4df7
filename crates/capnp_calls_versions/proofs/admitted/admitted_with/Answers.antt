use Rattle.std.proofs.Common.{◌≡◌, ◌+◌, true, false, List, map, sym, ◌∙◌, ap, subst}
use Rattle.std.specs.List.{list_all}
use Rattle.capnp_model.specs.Schemas.{Node}
use Rattle.capnp_model.specs.Accepted.{schema_of}
use Rattle.capnp_model.specs.Admitted.{is_admitted_with}
use Rattle.capnp_records.specs.Sets.{nodes_of}
use Rattle.capnp_calls.specs.CallViews.{step_view, call_view}
use Rattle.capnp_calls.proofs.lemmas.EachWay.{nothing_known}
use Rattle.capnp_calls.specs.declared.call.Call.{Call}
use Rattle.capnp_model.proofs.lemmas.Lists.{take-all}
use Rattle.capnp_calls_versions.specs.Renamed.{names_in}
use Rattle.capnp_model.specs.Partners.{Renaming}
use Rattle.capnp_calls_versions.specs.Holders.{held_schema}
use Rattle.capnp_calls_versions.specs.Ways.{IsFirstRefused}
use Rattle.capnp_calls_versions.proofs.FirstRefused.{first_refused, next_tested}
use Rattle.capnp_calls_versions.proofs.admitted.admitted_with.Goals as goal

pub is_admitted-requires : goal.is_admitted-requires
is_admitted-requires c = record { way = nothing_known (held_schema c.in_ok-versions.versions.older) (map step_view c.index-calls-i.result.path.items) }

pub returns-then-not-is_admitted-clause-answer : goal.returns-then-not-is_admitted-clause-answer
returns-then-not-is_admitted-clause-answer c =
    let v = c.in_ok-versions.versions in
    let i = c.args.older.id in
    let j = c.args.newer.id in
    let e : false ≡ is_admitted_with (names_in v.names) (held_schema v.older) (held_schema v.newer) i j (call_view c.index-calls-i.result) = sym c.if-not-is_admitted.true ∙ c.is_admitted.ensures in
    subst (λ (rs : List Renaming). IsFirstRefused (is_admitted_with rs (schema_of (nodes_of c.args.older.set.now)) (schema_of (nodes_of c.args.newer.set.now)) i j) (map call_view c.args.calls.now) (c.loop-i.i + 1)) c.in_ok-versions.ensures.names
    (subst (λ (ns : List Node). IsFirstRefused (is_admitted_with (names_in v.names) (schema_of ns) (schema_of (nodes_of c.args.newer.set.now)) i j) (map call_view c.args.calls.now) (c.loop-i.i + 1)) c.in_ok-versions.ensures.older
    (subst (λ (ns : List Node). IsFirstRefused (is_admitted_with (names_in v.names) (held_schema v.older) (schema_of ns) i j) (map call_view c.args.calls.now) (c.loop-i.i + 1)) c.in_ok-versions.ensures.newer
    (first_refused (is_admitted_with (names_in v.names) (held_schema v.older) (held_schema v.newer) i j) call_view c.args.calls.now c.loop-i.i c.index-calls-i.result c.loop-i-test.true c.index-calls-i.is c.loop-i.invariant e)))

pub loop-i-preserved : goal.loop-i-preserved
loop-i-preserved c =
    let v = c.in_ok-versions.versions in
    let e : true ≡ is_admitted_with (names_in v.names) (held_schema v.older) (held_schema v.newer) c.args.older.id c.args.newer.id (call_view c.index-calls-i.result) = sym c.if-not-is_admitted.false ∙ c.is_admitted.ensures in
    next_tested (is_admitted_with (names_in v.names) (held_schema v.older) (held_schema v.newer) c.args.older.id c.args.newer.id) call_view c.args.calls.now c.loop-i.i c.index-calls-i.result true c.loop-i-test.true c.index-calls-i.is c.loop-i.invariant e

pub returns-clause-answer : goal.returns-clause-answer
returns-clause-answer c =
    let v = c.in_ok-versions.versions in
    let i = c.args.older.id in
    let j = c.args.newer.id in
    let all : list_all (is_admitted_with (names_in v.names) (held_schema v.older) (held_schema v.newer) i j) (map call_view c.args.calls.now) ≡ true = ap (λ (xs : List Call). list_all (is_admitted_with (names_in v.names) (held_schema v.older) (held_schema v.newer) i j) (map call_view xs)) (sym (take-all c.args.calls.now c.loop-i.i c.loop-i-test.false)) ∙ c.loop-i.invariant in
    subst (λ (rs : List Renaming). list_all (is_admitted_with rs (schema_of (nodes_of c.args.older.set.now)) (schema_of (nodes_of c.args.newer.set.now)) i j) (map call_view c.args.calls.now) ≡ true) c.in_ok-versions.ensures.names
    (subst (λ (ns : List Node). list_all (is_admitted_with (names_in v.names) (schema_of ns) (schema_of (nodes_of c.args.newer.set.now)) i j) (map call_view c.args.calls.now) ≡ true) c.in_ok-versions.ensures.older
    (subst (λ (ns : List Node). list_all (is_admitted_with (names_in v.names) (held_schema v.older) (schema_of ns) i j) (map call_view c.args.calls.now) ≡ true) c.in_ok-versions.ensures.newer all))
