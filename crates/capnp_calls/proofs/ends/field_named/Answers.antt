use Rattle.std.proofs.Common.{◌≡◌, Some, ap, sym, subst}
use Rattle.std.specs.Prelude.{IfSome}
use Rattle.capnp_model.specs.InKindCalls.{at_slot, end_at}
use Rattle.capnp_model.specs.Steps.{target_of}
use Rattle.capnp_values_queries.specs.Fields.{place_of_name}
use Rattle.capnp_values_queries.specs.Handles.{body_of_place}
use Rattle.capnp_values_queries.specs.Structs.{fields_of_struct, shape_of_struct}
use Rattle.capnp_values_queries.specs.declared.structs.StructSchema.{StructSchema}
use Rattle.capnp_calls.proofs.lemmas.NamedFields.{not_found}
use Rattle.capnp_calls.proofs.PathEnds.{end_named}
use Rattle.capnp_calls.proofs.FoundSlots.{small_default, alone_named, marked_if}
use Rattle.capnp_calls.specs.Hops.{IsAlone, MarksNamed}
use Rattle.capnp_calls.proofs.ends.field_named.Goals as goal

pub returns-in-Ok-clause-end : goal.returns-in-Ok-clause-end
returns-in-Ok-clause-end c =
    let f = c.in-Ok.field in
    let n = c.args.name.now in
    let b = body_of_place c.place.result in
    let found = c.in-Ok.ensures.found in
    let Ends : StructSchema → Type 0 = λ g. Some f.index ≡ place_of_name n (fields_of_struct g) → at_slot b ≡ end_at (target_of n (fields_of_struct g)) in
    subst Ends found.parent (λ place. end_named n (fields_of_struct f.parent) f.index b place c.place.ensures.body) found.index

pub returns-in-Err-clause-end : goal.returns-in-Err-clause-end
returns-in-Err-clause-end c = ap end_at (sym (not_found c.args.name.now (fields_of_struct c.args.schema) c.in-Err.ensures.missing.1))

pub returns-in-Ok-clause-small : goal.returns-in-Ok-clause-small
returns-in-Ok-clause-small c = small_default c.in-Ok.field (body_of_place c.place.result) c.place.ensures.body

pub returns-in-Ok-clause-alone : goal.returns-in-Ok-clause-alone
returns-in-Ok-clause-alone c alone =
    let f = c.in-Ok.field in
    let n = c.args.name.now in
    let found = c.in-Ok.ensures.found in
    let Alone : StructSchema → Type 0 = λ g. Some f.index ≡ place_of_name n (fields_of_struct g) → IsAlone (target_of n (fields_of_struct g)) in
    subst Alone found.parent (λ place. alone_named n (fields_of_struct f.parent) f.index place (c.is_alone.ensures alone)) found.index

pub returns-in-Ok-clause-mark : goal.returns-in-Ok-clause-mark
returns-in-Ok-clause-mark c =
    let f = c.in-Ok.field in
    let n = c.args.name.now in
    let found = c.in-Ok.ensures.found in
    let Marks : StructSchema → Type 0 = λ g. Some f.index ≡ place_of_name n (fields_of_struct g) → IfSome c.mark_of.result (λ mark. MarksNamed mark (shape_of_struct g) n) in
    subst Marks found.parent (λ place. marked_if n (shape_of_struct f.parent) f.index c.mark_of.result place c.mark_of.ensures) found.index
