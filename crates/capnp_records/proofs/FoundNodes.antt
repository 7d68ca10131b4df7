-- What stands at the place of a raw schema of the set.
use Rattle.std.proofs.Common.{◌≡◌, ℕ, Bool, true, false, ◌&&◌, ◌==◌, Option, Some, None, List, [], map, get_or, sym, ◌∙◌, ap}
use Rattle.capnp_model.specs.Schemas.{Enumerant, StructNode, Node}
use Rattle.capnp_model.specs.Accepted.{find_node, IsAccepted}
use Rattle.capnp_model.proofs.lemmas.Tests.{same_number, and_left}
use Rattle.capnp_records.specs.NodeViews.{node_of, node_kind}
use Rattle.capnp_records.specs.Sets.{is_at, struct_of_kind, enumerants_in, struct_found, enumerants_found}
use Rattle.capnp_records.specs.declared.node.NodeBody.{NodeBody}
use Rattle.capnp_records.specs.declared.node.NodeRecord.{NodeRecord}
use Rattle.capnp_records.proofs.lemmas.PlainStructs.{at_place, place_is_found}

-- the node at the place is the one that its id finds
pub node_found : (test : Node → Bool) (xs : List NodeRecord) → IsAccepted (map node_of xs) → (k id : ℕ) (x : NodeRecord) → is_at test (map node_of xs) k id ≡ true → x ≡ get_or xs k x → find_node (map node_of xs) id ≡ Some (node_of x)
node_found test xs accepted k id x h e =
    let there = at_place node_of xs k x (λ n. n.id == id && test n) e h in
    let is : x.id ≡ id = same_number x.id id (and_left (x.id == id) (test (node_of x)) there.1) in
    ap (find_node (map node_of xs)) (sym is) ∙ place_is_found (map node_of xs) accepted k (node_of x) there.0

pub struct_found_at : (test : Node → Bool) (xs : List NodeRecord) → IsAccepted (map node_of xs) → (k id : ℕ) (x : NodeRecord) (s : StructNode) → is_at test (map node_of xs) k id ≡ true → x ≡ get_or xs k x → struct_of_kind (node_kind x.body) ≡ Some s → struct_found (map node_of xs) id ≡ Some s
struct_found_at test xs accepted k id x s h e is =
    ap (λ (o : Option Node). elim o as (λ (p : Option Node). Option StructNode) [ None ↦ None | Some n ↦ struct_of_kind n.kind ]) (node_found test xs accepted k id x h e) ∙ is

pub enum_found_at : (test : Node → Bool) (xs : List NodeRecord) → IsAccepted (map node_of xs) → (k id : ℕ) (x : NodeRecord) (es : List Enumerant) → is_at test (map node_of xs) k id ≡ true → x ≡ get_or xs k x → enumerants_in (node_kind x.body) ≡ Some es → enumerants_found (map node_of xs) id ≡ Some es
enum_found_at test xs accepted k id x es h e is =
    ap (λ (o : Option Node). elim o as (λ (p : Option Node). Option (List Enumerant)) [ None ↦ None | Some n ↦ enumerants_in n.kind ]) (node_found test xs accepted k id x h e) ∙ is

-- ---- tests of nodes, by what they are

-- A node of no name that is this.
abbrev pub node_with : NodeBody → Node
node_with b = record { id = 0; name = []; annotations = []; kind = node_kind b }

-- What a test says of a node that was looked for.
abbrev pub passes : (Node → Bool) → Option Node → Bool
passes test None = false
passes test (Some n) = test n
