-- The struct of a raw schema is found by its id.
use Rattle.std.proofs.Common.{◌≡◌, ℕ, Bool, true, false, ◌&&◌, ◌==◌, Option, Some, None, List, slice_get, refl, sym, ◌∙◌, ap}
use Rattle.capnp_model.specs.Schemas.{Node}
use Rattle.capnp_model.specs.Accepted.{find_node, is_struct_node, names_a, IsAccepted}
use Rattle.capnp_model.proofs.lemmas.Tests.{same_number, and_left, and_right}
use Rattle.capnp_records.specs.Sets.{IsStructOf}
use Rattle.capnp_records.specs.declared.raw.RawBrandedStructSchema.{RawBrandedStructSchema}
use Rattle.capnp_records.proofs.lemmas.PlainStructs.{place_is_found}
use Rattle.capnp_records.proofs.laws.struct_is_named.Goals as goal

-- The node that stands at a place where a struct of an id is.
record Stands (o : Option Node) (id : ℕ) : Type 0 where
  node : Node
  there : o ≡ Some node
  same : node.id ≡ id
  is_struct : is_struct_node node ≡ true

stands : (o : Option Node) (id : ℕ) → (elim o as (λ (x : Option Node). Bool) [ None ↦ false | Some n ↦ n.id == id && is_struct_node n ]) ≡ true → Stands o id
stands None id h = absurd (cc h)
stands (Some n) id h = record { node = n; there = refl; same = same_number n.id id (and_left (n.id == id) (is_struct_node n) h); is_struct = and_right (n.id == id) (is_struct_node n) h }

struct_named : (nodes : List Node) (raw : RawBrandedStructSchema) → IsAccepted nodes → IsStructOf nodes raw → names_a is_struct_node nodes raw.id ≡ true
struct_named nodes raw accepted h =
    let s = stands (slice_get nodes raw.number) raw.id h in
    let found : find_node nodes raw.id ≡ Some s.node = ap (find_node nodes) (sym s.same) ∙ place_is_found nodes accepted raw.number s.node s.there in
    ap (λ (o : Option Node). elim o as (λ (x : Option Node). Bool) [ None ↦ false | Some n ↦ is_struct_node n ]) found ∙ s.is_struct

pub returns : goal.returns
returns c = struct_named
