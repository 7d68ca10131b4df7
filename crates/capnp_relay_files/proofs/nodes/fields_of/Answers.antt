use Rattle.std.proofs.Common.{◌≡◌, ◌-◌, ◌∷◌, length, take, drop}
use Rattle.serde_json.specs.View.{items_view}
use Rattle.capnp_records.specs.NodeViews.{field_of}
use Rattle.capnp_records.proofs.lemmas.ListTests.{first_and_rest}
use Rattle.capnp_relay_files.specs.Json.{each_item}
use Rattle.capnp_relay_files.specs.SchemaFiles.{field_in}
use Rattle.capnp_relay_files.proofs.EachItem.{read_more}
use Rattle.capnp_relay_files.proofs.nodes.fields_of.Goals as goal

pub loop-rest-preserved : goal.loop-rest-preserved
loop-rest-preserved c =
    let rest = c.loop-rest.rest.now in
    let first = c.first-item.result in
    let more = take (length rest - 1) (drop 1 rest) in
    let split : rest ≡ first ∷ more = first_and_rest rest first c.in-len1-up.len_at_least c.first-item.is in
    read_more field_in field_of (each_item field_in (items_view c.args.items.now)) rest first more c.in_ok-field_of.field-0 c.loop-rest.fields.items c.push.new.self.items split c.in_ok-field_of.ensures.ok c.in_ok-push.ensures.items c.loop-rest.invariant
