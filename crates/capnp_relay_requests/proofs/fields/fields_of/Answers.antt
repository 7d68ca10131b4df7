use Rattle.std.proofs.Common.{rules, ◌≡◌, ◌<◌, map, Ok, sym, ◌∙◌, ap, subst}
use Rattle.capnp_records.specs.NodeViews.{field_of}
use Rattle.capnp_wire.specs.Views.{StructView, seen_list, element_as_struct}
use Rattle.capnp_relay_requests.specs.declared.fault.Spot.TheVariants.{Member}
use Rattle.capnp_relay_requests.specs.Annotations.{context_view}
use Rattle.capnp_relay_requests.specs.Fields.{request_field}
use Rattle.capnp_relay_requests.specs.Steps.{with_one, IsRequestRefusal}
use Rattle.capnp_relay_requests.proofs.Gathered.{refused_at, read_more}
use Rattle.capnp_relay_requests.proofs.fields.fields_of.Goals as goal

pub returns-in_err-field_of-clause-refused : goal.returns-in_err-field_of-clause-refused
returns-in_err-field_of-clause-refused g c =
    let l = seen_list g.A.ReaderArena.segments c.args.list.now in
    let e = c.in_err-field_of.field-0.0 in
    let G = context_view c.args.context.now in
    let here : IsRequestRefusal (request_field G (Member c.args.node c.loop-index.index) (element_as_struct l c.loop-index.index)) e = subst (λ (v : StructView). IsRequestRefusal (request_field G (Member c.args.node c.loop-index.index) v) e) c.get_struct_element-field.ensures c.in_err-field_of.ensures.refused in
    let before : c.loop-index.index < c.args.list.now.count = search rules in
    let told = refused_at with_one (λ i. request_field G (Member c.args.node i) (element_as_struct l i)) c.loop-index.index c.args.list.now.count (map field_of c.loop-index.fields.items) e before c.loop-index.invariant here in
    search rules

pub loop-index-preserved : goal.loop-index-preserved
loop-index-preserved g c =
    let l = seen_list g.A.ReaderArena.segments c.args.list.now in
    let G = context_view c.args.context.now in
    let read : request_field G (Member c.args.node c.loop-index.index) (element_as_struct l c.loop-index.index) ≡ Ok (field_of c.in_ok-field_of.field-0) =
    ap (request_field G (Member c.args.node c.loop-index.index)) (sym c.get_struct_element-field.ensures) ∙ c.in_ok-field_of.ensures.ok in
    read_more field_of (λ i. request_field G (Member c.args.node i) (element_as_struct l i)) c.loop-index.index c.loop-index.fields.items c.push.new.self.items c.in_ok-field_of.field-0 c.loop-index.invariant read c.in_ok-push.ensures.items
