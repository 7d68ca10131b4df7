use Rattle.std.proofs.Common.{rules, ◌<◌, map, subst}
use Rattle.capnp_records.specs.NodeViews.{annotation_of}
use Rattle.capnp_wire.specs.Views.{StructView, seen_list, element_as_struct}
use Rattle.capnp_relay_requests.specs.Annotations.{context_view, annotation_in}
use Rattle.capnp_relay_requests.specs.Steps.{with_one, IsRequestRefusal}
use Rattle.capnp_relay_requests.proofs.Gathered.{refused_at}
use Rattle.capnp_relay_requests.proofs.annotations.annotations_of.Goals as goal

pub returns-in_err-annotation_of-clause-refused : goal.returns-in_err-annotation_of-clause-refused
returns-in_err-annotation_of-clause-refused g c =
    let l = seen_list g.A.ReaderArena.segments c.args.list.now in
    let e = c.in_err-annotation_of.field-0.0 in
    let G = context_view c.args.context.now in
    let here : IsRequestRefusal (annotation_in G c.args.spot (element_as_struct l c.loop-i.i)) e = subst (λ (v : StructView). IsRequestRefusal (annotation_in G c.args.spot v) e) c.get_struct_element-annotation.ensures c.in_err-annotation_of.ensures.refused in
    let before : c.loop-i.i < c.args.list.now.count = search rules in
    let told = refused_at with_one (λ i. annotation_in G c.args.spot (element_as_struct l i)) c.loop-i.i c.args.list.now.count (map annotation_of c.loop-i.annotations.items) e before c.loop-i.invariant here in
    search rules
