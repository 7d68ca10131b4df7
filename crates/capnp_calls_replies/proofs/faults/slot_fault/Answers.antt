use Rattle.std.proofs.Common.{◌≡◌, Bool, Result, sym, subst, ap, refl, ◌∙◌}
use Rattle.capnp_model.specs.Kinds.{Kind}
use Rattle.capnp_model.specs.Accepted.{field_body}
use Rattle.capnp_wire_objects.specs.Places.{seen}
use Rattle.capnp_values_queries.specs.Fields.{entry_in}
use Rattle.capnp_values_queries.specs.Handles.{entry_of_field}
use Rattle.capnp_values_queries.specs.Structs.{schema_around}
use Rattle.capnp_values_queries.specs.Types.{ty_of}
use Rattle.capnp_units.specs.Errors.{kind_of}
use Rattle.std.specs.Prelude.{option_map}
use Rattle.capnp_values.specs.Records.{reading_at_index, is_there}
use Rattle.capnp_values.specs.Shown.{Shown, shown}
use Rattle.capnp_values.specs.Sources.{struct_seen}
use Rattle.capnp_values.specs.Standing.{Answers, defaulted_field}
use Rattle.capnp_calls_replies.specs.Faults.{refusal_of}
use Rattle.capnp_calls_replies.proofs.SlotFaults.{seen_err, slot_refused}
use Rattle.capnp_calls_replies.proofs.faults.slot_fault.Goals as goal

pub returns : goal.returns
returns g c e r at rec live is =
    let f = c.args.field in
    let bytes = g.A.ReaderArena.segments in
    let s = schema_around f.parent in
    let x = reading_at_index f.index r in
    let got = c.get-got.ensures in
    let q : Result Shown Kind = seen (shown bytes) c.get-got.result in
    let ty = ty_of c.get_type.result in
    let of = c.records_are_read.ensures.fields f got.said (struct_seen bytes c.args.reader.source) r got.is got.default rec in
    let has : c.unwrap_or-is_there.result ≡ is_there x = (rw c.has.ensures at c.unwrap_or-is_there.ensures) ∙ of.has in
    let shows : Answers s q (defaulted_field s (field_body s.shape_of got.said.kind) x) = subst (λ (z : Result Shown Kind). Answers s z (defaulted_field s (field_body s.shape_of got.said.kind) x)) (sym got.shows) (of.shows live) in
    let told = c.refusal.ensures ∙ ap (λ (b : Bool). refusal_of ty c.args.members c.unwrap_or-is_there.result b) (c.is_err.ensures.value ∙ seen_err (shown bytes) c.get-got.result) in
    slot_refused s got.said.kind c.args.members x q c.unwrap_or-is_there.result ty (entry_of_field f) e (entry_in s got.said) (option_map kind_of c.refusal.result) at got.is.entry refl c.get_type.ensures.ty has live shows is told
