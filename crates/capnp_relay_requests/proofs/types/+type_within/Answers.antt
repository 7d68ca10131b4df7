use Rattle.std.proofs.Common.{rules, Some, None, ◌∙◌}
use Rattle.capnp_records.specs.NodeViews.{base_of, type_record_of}
use Rattle.capnp_wire.specs.Views.{seen_struct}
use Rattle.capnp_relay_requests.proofs.TypesRead.{plain_type, list_type, one_more_list}
use Rattle.capnp_relay_requests.proofs.types.+type_within.Goals as goal

pub returns-in_err-base-clause-type_is : goal.returns-in_err-base-clause-type_is
returns-in_err-base-clause-type_is g t c =
    let v = seen_struct g.A.ReaderArena.segments c.args.ty.now in
    let none = plain_type c.args.lists v c.get_data_field-member.result None c.get_data_field-member.ensures c.if-member-ne-LIST.true (search rules) in
    search rules

pub returns-then-member-ne-LIST-clause-type_is : goal.returns-then-member-ne-LIST-clause-type_is
returns-then-member-ne-LIST-clause-type_is g t c =
    let v = seen_struct g.A.ReaderArena.segments c.args.ty.now in
    plain_type c.args.lists v c.get_data_field-member.result (Some (base_of c.in_ok-base.base)) c.get_data_field-member.ensures c.if-member-ne-LIST.true (search rules)

pub returns-clause-type_is : goal.returns-clause-type_is
returns-clause-type_is g t c =
    let v = seen_struct g.A.ReaderArena.segments c.args.ty.now in
    let inner = type_record_of c.in_ok-list_count.field-0 in
    one_more_list inner
    ∙ list_type c.args.lists v c.get_data_field-member.result (seen_struct g.A.ReaderArena.segments c.in_ok-element.element) inner c.get_data_field-member.ensures c.if-member-ne-LIST.false c.if-lists-eq0.false (search rules) (search rules)
