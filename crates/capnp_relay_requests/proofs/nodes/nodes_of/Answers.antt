use Rattle.std.proofs.Common.{rules, ◌≡◌, ◌<◌, map, option_map, Ok, sym, ◌∙◌, ap, subst}
use Rattle.capnp_records.specs.NodeViews.{node_of}
use Rattle.capnp_wire.specs.Views.{StructView, seen_list, element_as_struct}
use Rattle.capnp_relay_requests.specs.Annotations.{context_view}
use Rattle.capnp_relay_requests.specs.Nodes.{request_node, with_node}
use Rattle.capnp_relay_requests.specs.Steps.{IsRequestRefusal}
use Rattle.capnp_relay_requests.proofs.Gathered.{refused_at}
use Rattle.capnp_relay_requests.proofs.NodesRead.{next_nodes}
use Rattle.capnp_relay_requests.proofs.nodes.nodes_of.Goals as goal

pub returns-in_err-record-clause-refused : goal.returns-in_err-record-clause-refused
returns-in_err-record-clause-refused g c =
    let l = seen_list g.A.ReaderArena.segments c.args.list.now in
    let e = c.in_err-record.field-0.0 in
    let G = context_view c.args.context.now in
    let here : IsRequestRefusal (request_node G (element_as_struct l c.loop-i.i)) e = subst (λ (v : StructView). IsRequestRefusal (request_node G v) e) c.get_struct_element-node.ensures c.in_err-record.ensures.refused in
    let before : c.loop-i.i < c.args.list.now.count = search rules in
    let told = refused_at with_node (λ i. request_node G (element_as_struct l i)) c.loop-i.i c.args.list.now.count (map node_of c.loop-i.nodes.items) e before c.loop-i.invariant here in
    search rules

pub loop-i-preserved : goal.loop-i-preserved
loop-i-preserved g c =
    let l = seen_list g.A.ReaderArena.segments c.args.list.now in
    let G = context_view c.args.context.now in
    let read : request_node G (element_as_struct l c.loop-i.i) ≡ Ok (option_map node_of c.in_ok-record.record) =
    ap (request_node G) (sym c.get_struct_element-node.ensures) ∙ c.in_ok-record.ensures.ok in
    next_nodes G l c.loop-i.i (map node_of c.loop-i.nodes.items) (map node_of c.push_node.new.nodes.items) (option_map node_of c.in_ok-record.record) c.loop-i.invariant read c.in_ok-push_node.ensures
