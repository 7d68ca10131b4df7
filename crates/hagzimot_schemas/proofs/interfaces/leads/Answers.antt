use Rattle.std.proofs.Common.{◌≡◌, ◌++◌, ◌<◌, List, length, take, get_or, ap, sym, ◌∙◌, arith}
use Rattle.std.specs.List.{filter_map}
use Rattle.std.specs.Option.{option_to_list}
use Rattle.capnp_records.specs.declared.node.FieldRecord.{FieldRecord}
use Rattle.capnp_calls_versions.specs.Renamed.{renamings_of}
use Rattle.hagzimot_schemas.specs.Interfaces.{lead}
use Rattle.hagzimot_schemas.specs.Nodes.{fields_of_body}
use Rattle.hagzimot_schemas.proofs.Walks.{filter_more}
use Rattle.hagzimot_schemas.proofs.interfaces.leads.Goals as goal

pub loop-field-preserved : goal.loop-field-preserved
loop-field-preserved c =
    let h = lead (renamings_of c.args.renamings.now) c.in-Some.old.now c.in-Some-node_of_id.new.now in
    let fields = fields_of_body c.in-Some.old.now.body in
    let i = c.loop-field.field-index in
    let x = c.field-item.result in
    let same : c.fields_of-field-items.result.now ≡ fields = c.fields_of-field-items.ensures.records in
    let long : length c.fields_of-field-items.result.now ≡ length fields = ap (λ (l : List FieldRecord). length l) same in
    let lt : i < length fields = omega (arith, long, c.loop-field-test.true) in
    let is : x ≡ get_or fields i x = c.field-item.is ∙ ap (λ (l : List FieldRecord). get_or l i x) same in
    c.in_ok-push_pair.ensures
    ∙ ap (λ l. l ++ option_to_list c.lead.result) c.loop-field.invariant
    ∙ ap (λ o. filter_map h (take i fields) ++ option_to_list o) c.lead.ensures
    ∙ sym (filter_more h fields i x lt is)
