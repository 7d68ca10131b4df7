use Rattle.std.proofs.Common.{◌≡◌, ◌++◌, ◌<◌, ◌≤◌, Option, Some, List, length, take, get_or, find, ◌==◌, ap, sym, ◌∙◌, append_assoc, arith}
use Rattle.std.specs.List.{filter_map, enumerate_from}
use Rattle.std.specs.Option.{option_to_list}
use Rattle.std.proofs.lemmas.List.{take_all}
use Rattle.std.proofs.lemmas.List.FromFn.{length-enumerate_from}
use Rattle.capnp_records.specs.declared.node.FieldRecord.{FieldRecord}
use Rattle.capnp_records.specs.declared.node.NodeRecord.{NodeRecord}
use Rattle.capnp_calls_versions.specs.Renamed.{renamings_of}
use Rattle.hagzimot_schemas.specs.Interfaces.{change, changes_between}
use Rattle.hagzimot_schemas.specs.Nodes.{fields_of_body}
use Rattle.hagzimot_schemas.proofs.Walks.{numbered_more}
use Rattle.hagzimot_schemas.proofs.interfaces.push_changes.Goals as goal

pub loop-index-preserved : goal.loop-index-preserved
loop-index-preserved c =
    let h = change (renamings_of c.args.renamings.now) c.args.older c.args.newer c.in-Some.old.now c.in-Some-node_of_id.new.now in
    let fields = fields_of_body c.in-Some.old.now.body in
    let i = c.loop-index.index in
    let x = c.field-item.result in
    let start = c.args.found.now.items in
    let told = filter_map h (take i (enumerate_from 0 fields)) in
    let same : c.fields_of-field-items.result.now ≡ fields = c.fields_of-field-items.ensures.records in
    let long : length c.fields_of-field-items.result.now ≡ length fields = ap (λ (l : List FieldRecord). length l) same in
    let lt : i < length fields = omega (arith, long, c.loop-index-test.true) in
    let is : x ≡ get_or fields i x = c.field-item.is ∙ ap (λ (l : List FieldRecord). get_or l i x) same in
    c.in_ok-push_break.ensures
    ∙ ap (λ l. l ++ option_to_list c.change-broken.result) c.loop-index.invariant
    ∙ append_assoc start told (option_to_list c.change-broken.result)
    ∙ ap (λ l. start ++ l) (ap (λ o. told ++ option_to_list o) c.change-broken.ensures ∙ sym (numbered_more h fields i x lt is))

pub returns : goal.returns
returns c =
    let rs = renamings_of c.args.renamings.now in
    let old = c.in-Some.old.now in
    let fields = fields_of_body old.body in
    let start = c.args.found.now.items in
    let h = change rs c.args.older c.args.newer old c.in-Some-node_of_id.new.now in
    let same : c.fields_of-field-items.result.now ≡ fields = c.fields_of-field-items.ensures.records in
    let long : length c.fields_of-field-items.result.now ≡ length fields = ap (λ (l : List FieldRecord). length l) same in
    let numbered : length (enumerate_from 0 fields) ≡ length fields = length-enumerate_from 0 fields in
    let past : length (enumerate_from 0 fields) ≤ c.loop-index.index = omega (arith, long, numbered, c.loop-index-test.false) in
    c.loop-index.invariant
    ∙ ap (λ l. start ++ filter_map h l) (take_all c.loop-index.index (enumerate_from 0 fields) past)
    ∙ ap (λ (o : Option NodeRecord). start ++ changes_between rs c.args.older c.args.newer o (Some c.in-Some-node_of_id.new.now)) c.in-Some.ensures.first
    ∙ ap (λ (o : Option NodeRecord). start ++ changes_between rs c.args.older c.args.newer (find (λ n. n.id == c.args.pair.0) c.args.older.version.nodes.now) o) c.in-Some-node_of_id.ensures.first
