use Rattle.std.proofs.Common.{◌≡◌, Some, ap, sym, subst}
use Rattle.capnp_model.specs.InKindCalls.{end_at}
use Rattle.capnp_model.specs.Steps.{target_of}
use Rattle.capnp_values_queries.specs.Fields.{place_of_name}
use Rattle.capnp_values_queries.specs.Structs.{fields_of_struct}
use Rattle.capnp_values_queries.specs.declared.structs.StructSchema.{StructSchema}
use Rattle.capnp_calls.proofs.lemmas.NamedFields.{not_found}
use Rattle.capnp_calls_replies.specs.Checks.{end_of_field}
use Rattle.capnp_calls_replies.proofs.CheckedEnds.{entry_named}
use Rattle.capnp_calls_replies.proofs.checks.field_named.Goals as goal

pub returns-in-Ok-clause-end : goal.returns-in-Ok-clause-end
returns-in-Ok-clause-end c =
    let f = c.in-Ok.field in
    let n = c.args.name.now in
    let found = c.in-Ok.ensures.found in
    let Ends : StructSchema → Type 0 = λ g. Some f.index ≡ place_of_name n (fields_of_struct g) → end_of_field f ≡ end_at (target_of n (fields_of_struct g)) in
    subst Ends found.parent (λ place. entry_named n (fields_of_struct f.parent) f.index place) found.index

pub returns-in-Err-clause-end : goal.returns-in-Err-clause-end
returns-in-Err-clause-end c = ap end_at (sym (not_found c.args.name.now (fields_of_struct c.args.schema) c.in-Err.ensures.missing.1))
