-- What is known of the enumerants of an enum of an accepted set.
use Rattle.std.proofs.Common.{◌≡◌, ℕ, ◌<◌, Option, Some, None, List, [], map, length, get_or, slice_get, sym, ◌∙◌, ap}
use Rattle.capnp_model.specs.Schemas.{Enumerant as EnumerantNode, Node}
use Rattle.capnp_model.specs.Accepted.{IsAccepted}
use Rattle.capnp_records.specs.NodeViews.{enumerant_of}
use Rattle.capnp_records.specs.Sets.{enumerants_found}
use Rattle.capnp_records.specs.declared.node.EnumerantRecord.{EnumerantRecord}
use Rattle.capnp_values_queries.specs.Enums.{nodes_of_enum, enum_id, enumerants_recorded, is_named_enumerant, AreEnumerantsOf, IsEnumerantRecord}
use Rattle.capnp_values_queries.specs.declared.enums.EnumSchema.{EnumSchema}
use Rattle.capnp_values_queries.proofs.lemmas.Records.{enumerants_named, passed_at}

pub enumerants_known : (nodes : List Node) → IsAccepted nodes → (id : ℕ) (es : List EnumerantNode) → enumerants_found nodes id ≡ Some es → AreEnumerantsOf nodes id es
enumerants_known nodes accepted id es h = let k = enumerants_named nodes accepted id es h in record { found = h; named = k.0; few = k.1 }

pub recorded_are : (s : EnumSchema) (es : List EnumerantNode) → AreEnumerantsOf (nodes_of_enum s) (enum_id s) es → enumerants_recorded s ≡ es
recorded_are s es k = ap (λ (o : Option (List EnumerantNode)). elim o as (λ (p : Option (List EnumerantNode)). List EnumerantNode) [ None ↦ [] | Some xs ↦ xs ]) k.found

pub enumerant_known : (s : EnumSchema) (xs : List EnumerantRecord) → AreEnumerantsOf (nodes_of_enum s) (enum_id s) (map enumerant_of xs) → (i : ℕ) (x : EnumerantRecord) → i < length xs → x ≡ get_or xs i x → IsEnumerantRecord s i (enumerant_of x)
enumerant_known s xs k i x lt e =
    let at = passed_at enumerant_of (is_named_enumerant (nodes_of_enum s)) xs i x lt e k.named in
    record { recorded = ap (λ es. slice_get es i) (recorded_are s (map enumerant_of xs) k) ∙ at.0; named = at.1 }
