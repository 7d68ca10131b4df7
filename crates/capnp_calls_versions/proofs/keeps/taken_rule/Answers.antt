use Rattle.std.proofs.Common.{◌-◌, length, take, drop, ◌∙◌, ap}
use Rattle.capnp_records.proofs.lemmas.ListTests.{first_and_rest}
use Rattle.capnp_model.specs.Partners.{partner_name}
use Rattle.capnp_calls_versions.specs.Renamed.{names_in}
use Rattle.capnp_calls_versions.proofs.Stops.{further_on, nowhere}
use Rattle.capnp_calls_versions.proofs.keeps.taken_rule.Goals as goal

pub returns-then-has_name : goal.returns-then-has_name
returns-then-has_name c =
    let left = c.args.left.now in
    further_on (names_in c.args.names.now) c.args.node left c.first-item.result (take (length left - 1) (drop 1 left)) c.args.rest.now c.args.due c.args.at c.partner.result.now c.has_name.result
    (first_and_rest left c.first-item.result c.in-len1-up.len_at_least c.first-item.is)
    (c.partner.ensures ∙ ap (partner_name (names_in c.args.names.now) c.args.node) c.as_str.ensures.value) c.has_name.ensures c.if-has_name.true

pub returns-else-has_name : goal.returns-else-has_name
returns-else-has_name c =
    let left = c.args.left.now in
    nowhere (names_in c.args.names.now) c.args.node left c.first-item.result (take (length left - 1) (drop 1 left)) c.args.rest.now c.args.due c.args.at c.partner.result.now c.has_name.result
    (first_and_rest left c.first-item.result c.in-len1-up.len_at_least c.first-item.is)
    (c.partner.ensures ∙ ap (partner_name (names_in c.args.names.now) c.args.node) c.as_str.ensures.value) c.has_name.ensures c.if-has_name.false
