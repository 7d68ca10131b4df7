use Rattle.std.proofs.Common.{◌≡◌, ℕ, ◌+◌, Bool, false, List, Some, map, length, slice_get, refl, sym, ◌∙◌, ap, subst}
use Rattle.std.proofs.lemmas.Option.{slice_get_read}
use Rattle.capnp_model.specs.Schemas.{Node}
use Rattle.capnp_model.specs.Accepted.{schema_of}
use Rattle.capnp_model.specs.Calls.{Step, Call}
use Rattle.capnp_model.specs.Admitted.{is_admitted_with}
use Rattle.capnp_model.specs.Partners.{Renaming}
use Rattle.capnp_records.specs.declared.raw.RawBrandedStructSchema.{RawBrandedStructSchema}
use Rattle.capnp_values_queries.specs.Structs.{nodes_around, id_of}
use Rattle.capnp_calls.specs.CallViews.{step_view}
use Rattle.capnp_calls.specs.Ways.{IsWay}
use Rattle.capnp_calls.specs.Resolved.{call_of, calls_of}
use Rattle.capnp_calls.specs.declared.find.FoundField.{FoundField}
use Rattle.capnp_calls.specs.declared.resolved.Resolved.{Resolved}
use Rattle.capnp_calls.proofs.lemmas.ResolvedCalls.{call_at}
use Rattle.capnp_calls_versions.specs.Renamed.{names_in}
use Rattle.capnp_calls_versions.specs.Holders.{held_nodes, held_schema}
use Rattle.capnp_calls_versions.specs.Ways.{IsFirstRefused}
use Rattle.capnp_calls_versions.proofs.FirstRefused.{first_refused}
use Rattle.capnp_calls_versions.proofs.admitted.admitted_resolved.Goals as goal

pub is_admitted-requires : goal.is_admitted-requires
is_admitted-requires c =
    let calls = c.args.calls.now in
    let this : Resolved = c.index-calls-i.result in
    let at : slice_get calls c.loop-i.i ≡ Some this = slice_get_read calls (length calls) c.loop-i.i this refl c.loop-i-test.true c.index-calls-i.is in
    let resolved = call_at c.args.older calls c.loop-i.i this c.requires.resolved at in
    let older : held_nodes c.in_ok-versions.versions.older ≡ nodes_around c.args.older = c.in_ok-versions.ensures.older ∙ c.of.ensures.set in
    let path = map step_view c.call.result.now.path.items in
    let same : path ≡ (call_of this).path = ap (λ (x : Call). x.path) c.call.ensures in
    record {
      way =
          subst (λ (ns : List Node). IsWay (schema_of ns) path c.fields.result.now) (sym older)
          (subst (λ (fs : List FoundField). IsWay (schema_of (nodes_around c.args.older)) path fs) (sym c.fields.ensures)
          (subst (λ (p : List Step). IsWay (schema_of (nodes_around c.args.older)) p this.fields.items) (sym same) resolved.0));
    }

pub returns-then-not-is_admitted-clause-answer : goal.returns-then-not-is_admitted-clause-answer
returns-then-not-is_admitted-clause-answer c =
    let calls = c.args.calls.now in
    let this : Resolved = c.index-calls-i.result in
    let v = c.in_ok-versions.versions in
    let older : held_nodes v.older ≡ nodes_around c.args.older = c.in_ok-versions.ensures.older ∙ c.of.ensures.set in
    let newer : held_nodes v.newer ≡ nodes_around c.args.newer = c.in_ok-versions.ensures.newer ∙ c.of-2.ensures.set in
    let i : ℕ = c.raw.result.id in
    let j : ℕ = c.raw-2.result.id in
    let test : Call → Bool = is_admitted_with (names_in v.names) (held_schema v.older) (held_schema v.newer) i j in
    let e : false ≡ test (call_of this) = sym c.if-not-is_admitted.true ∙ c.is_admitted.ensures ∙ ap test c.call.ensures in
    let here : IsFirstRefused test (calls_of calls) (c.loop-i.i + 1) = first_refused test call_of calls c.loop-i.i this c.loop-i-test.true c.index-calls-i.is c.loop-i.invariant e in
    let from : i ≡ id_of c.args.older = ap (λ (x : RawBrandedStructSchema). x.id) c.raw.ensures in
    let to : j ≡ id_of c.args.newer = ap (λ (x : RawBrandedStructSchema). x.id) c.raw-2.ensures in
    subst (λ (rs : List Renaming). IsFirstRefused (is_admitted_with rs (schema_of (nodes_around c.args.older)) (schema_of (nodes_around c.args.newer)) (id_of c.args.older) (id_of c.args.newer)) (calls_of calls) (c.loop-i.i + 1)) c.in_ok-versions.ensures.names
    (subst (λ (ns : List Node). IsFirstRefused (is_admitted_with (names_in v.names) (schema_of ns) (schema_of (nodes_around c.args.newer)) (id_of c.args.older) (id_of c.args.newer)) (calls_of calls) (c.loop-i.i + 1)) older
    (subst (λ (ns : List Node). IsFirstRefused (is_admitted_with (names_in v.names) (held_schema v.older) (schema_of ns) (id_of c.args.older) (id_of c.args.newer)) (calls_of calls) (c.loop-i.i + 1)) newer
    (subst (λ (k : ℕ). IsFirstRefused (is_admitted_with (names_in v.names) (held_schema v.older) (held_schema v.newer) k (id_of c.args.newer)) (calls_of calls) (c.loop-i.i + 1)) from
    (subst (λ (k : ℕ). IsFirstRefused (is_admitted_with (names_in v.names) (held_schema v.older) (held_schema v.newer) i k) (calls_of calls) (c.loop-i.i + 1)) to here))))
