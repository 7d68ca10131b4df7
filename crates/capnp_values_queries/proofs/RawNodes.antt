-- Raw schemas of structs and of groups.
use Rattle.std.proofs.Common.{◌≡◌, ◌==◌, ◌&&◌, ℕ, Bool, true, false, not, Option, Some, None, List, slice_get, refl}
use Rattle.capnp_model.specs.Schemas.{StructNode, NodeKind, struct_node, enum_node, Node}
use Rattle.capnp_model.specs.Accepted.{is_struct_node}
use Rattle.capnp_records.specs.Sets.{has_struct, IsStructOf, IsNodeOf}
use Rattle.capnp_records.specs.declared.raw.RawBrandedStructSchema.{RawBrandedStructSchema}
use Rattle.capnp_model.proofs.lemmas.Tests.{both, and_left, and_right}

any_struct : (k : NodeKind) → (elim k as (λ (x : NodeKind). Bool) [ struct_node s ↦ not s.is_group | enum_node es ↦ false ]) ≡ true → (elim k as (λ (x : NodeKind). Bool) [ struct_node s ↦ true | enum_node es ↦ false ]) ≡ true
any_struct (struct_node s) e = refl
any_struct (enum_node es) e = e

pub struct_is_node : (nodes : List Node) (raw : RawBrandedStructSchema) → IsStructOf nodes raw → IsNodeOf nodes raw
struct_is_node nodes raw h = by (slice_get nodes raw.number) h
  where
    by : (o : Option Node) → (elim o as (λ (x : Option Node). Bool) [ None ↦ false | Some n ↦ n.id == raw.id && is_struct_node n ]) ≡ true → (elim o as (λ (x : Option Node). Bool) [ None ↦ false | Some n ↦ n.id == raw.id && has_struct n ]) ≡ true
    by None e = e
    by (Some n) e = both (n.id == raw.id) (has_struct n) (and_left (n.id == raw.id) (is_struct_node n) e) (any_struct n.kind (and_right (n.id == raw.id) (is_struct_node n) e))
