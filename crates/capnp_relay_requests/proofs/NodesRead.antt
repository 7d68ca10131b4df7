-- Nodes read one by one.
use Rattle.std.proofs.Common.{◌≡◌, ℕ, ◌+◌, Option, List, Ok, sym, ◌∙◌, ap}
use Rattle.capnp_model.specs.Schemas.{Node}
use Rattle.capnp_wire.specs.Views.{ListView, element_as_struct}
use Rattle.capnp_relay_requests.specs.Annotations.{ContextView}
use Rattle.capnp_relay_requests.specs.Nodes.{request_node, with_node, nodes_among}
use Rattle.capnp_relay_requests.proofs.Gathered.{put_more}

pub next_nodes : (g : ContextView) (l : ListView) (i : ℕ) (ns now : List Node) (o : Option Node) → nodes_among g l i ≡ Ok ns → request_node g (element_as_struct l i) ≡ Ok o → now ≡ with_node ns o → nodes_among g l (i + 1) ≡ Ok now
next_nodes g l i ns now o h r is = put_more with_node (λ k. request_node g (element_as_struct l k)) i ns o h r ∙ ap Ok (sym is)
