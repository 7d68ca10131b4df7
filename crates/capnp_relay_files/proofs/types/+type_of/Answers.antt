use Rattle.std.proofs.Common.{rules, ◌≡◌, ◌∙◌, ap, sym, option_map, Some}
use Rattle.capnp_model.specs.Chains.{◌>>=◌}
use Rattle.serde_json.specs.View.{view, members_view}
use Rattle.serde_json.specs.Find.{as_str, as_object}
use Rattle.capnp_records.specs.NodeViews.{base_of, type_record_of}
use Rattle.capnp_relay_files.specs.Json.{find_named, only_member}
use Rattle.capnp_relay_files.specs.SchemaFiles.{named_bases, bare_base, list_type, type_in}
use Rattle.capnp_relay_files.proofs.OnlyMembers.{type-by-name, list-type, id-type, value-depth}
use Rattle.capnp_relay_files.proofs.types.+type_of.Goals as goal

pub type_of-requires : goal.type_of-requires
type_of-requires t c =
    let ms = members_view c.in_ok-as_object.field-0.now.entries in
    let there : as_object (view c.args.json.now) ≡ Some ms = search rules in
    let only : Some (c.in_ok-key.key.now, view c.in_ok-key.value.now) ≡ only_member ms = search rules in
    let less = value-depth (view c.args.json.now) ms (c.in_ok-key.key.now, view c.in_ok-key.value.now) there only in
    search rules

pub returns-in_err-type_of : goal.returns-in_err-type_of
returns-in_err-type_of t c =
    let ms = members_view c.in_ok-as_object.field-0.now.entries in
    let there : as_object (view c.args.json.now) ≡ Some ms = search rules in
    let only : Some (c.in_ok-key.key.now, view c.in_ok-key.value.now) ≡ only_member ms = search rules in
    let by_member = list-type (view c.args.json.now) ms (c.in_ok-key.key.now, view c.in_ok-key.value.now) there only (search rules) in
    search rules

pub returns-in_ok-type_of : goal.returns-in_ok-type_of
returns-in_ok-type_of t c =
    let ms = members_view c.in_ok-as_object.field-0.now.entries in
    let there : as_object (view c.args.json.now) ≡ Some ms = search rules in
    let only : Some (c.in_ok-key.key.now, view c.in_ok-key.value.now) ≡ only_member ms = search rules in
    let by_member = list-type (view c.args.json.now) ms (c.in_ok-key.key.now, view c.in_ok-key.value.now) there only (search rules) in
    let element : type_in (view c.in_ok-key.value.now) ≡ Some (type_record_of c.in_ok-type_of.field-0) = search rules in
    c.list_type.ensures ∙ sym (by_member ∙ ap (λ o. o >>= list_type) element)

pub returns-else-eq : goal.returns-else-eq
returns-else-eq t c =
    let ms = members_view c.in_ok-as_object.field-0.now.entries in
    let there : as_object (view c.args.json.now) ≡ Some ms = search rules in
    let only : Some (c.in_ok-key.key.now, view c.in_ok-key.value.now) ≡ only_member ms = search rules in
    let by_member = id-type (view c.args.json.now) ms (c.in_ok-key.key.now, view c.in_ok-key.value.now) there only (search rules) in
    c.type_with_id.ensures ∙ sym by_member

pub returns-in_err-base_named : goal.returns-in_err-base_named
returns-in_err-base_named t c =
    let named : as_str (view c.args.json.now) ≡ Some c.in-Some.name.now = search rules in
    let by_name = type-by-name (view c.args.json.now) c.in-Some.name.now named in
    search rules

pub returns-in-Some : goal.returns-in-Some
returns-in-Some t c =
    let named : as_str (view c.args.json.now) ≡ Some c.in-Some.name.now = search rules in
    let base : find_named c.in-Some.name.now named_bases ≡ Some (base_of c.in_ok-base_named.field-0) = search rules in
    ap Some c.no_list.ensures ∙ sym (type-by-name (view c.args.json.now) c.in-Some.name.now named ∙ ap (option_map bare_base) base)
