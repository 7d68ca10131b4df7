-- Plain values that were got.
use Rattle.std.proofs.Common.{◌≡◌, ℕ, List, Some, Result, Ok, ap, ◌∙◌}
use Rattle.capnp_model.specs.Kinds.{Kind}
use Rattle.capnp_model.specs.Segments.{Segments}
use Rattle.capnp_model.specs.Accepted.{schema_of}
use Rattle.capnp_model.specs.Schemas.{PlainType, width, Ty, plain, Node}
use Rattle.capnp_wire.specs.Views.{ListView, element_number}
use Rattle.capnp_records.specs.Sets.{nodes_of}
use Rattle.capnp_values_queries.specs.Types.{ty_of}
use Rattle.capnp_values_queries.specs.declared.introspect.«Type».{«Type» as SchemaType}
use Rattle.capnp_values.specs.Shown.{Shown, number_shown, element_shown, shown, shown_at}
use Rattle.capnp_values.specs.Sources.{list_seen}
use Rattle.capnp_values.specs.declared.dynamic_list.Reader as dynamic
use Rattle.capnp_values.specs.declared.dynamic_value.Reader.{Reader}
use Rattle.capnp_schema_values.specs.Built.{IsPlaced}
use Rattle.capnp_schema_values.specs.declared.placed.Placed.{Placed}
use Rattle.capnp_schema_values.specs.declared.placed.Placed.TheVariants as placed
use Rattle.capnp_schema_values.specs.Plain.{placed_shown}

-- it lies nowhere
pub plain_there : (s : Segments) (x : Placed) (y : Shown) → placed_shown x ≡ Some y → IsPlaced s x
plain_there s placed.Void y e = tt
plain_there s (placed.Bool b) y e = tt
plain_there s (placed.Int8 z) y e = tt
plain_there s (placed.Int16 z) y e = tt
plain_there s (placed.Int32 z) y e = tt
plain_there s (placed.Int64 z) y e = tt
plain_there s (placed.UInt8 n) y e = tt
plain_there s (placed.UInt16 n) y e = tt
plain_there s (placed.UInt32 n) y e = tt
plain_there s (placed.UInt64 n) y e = tt
plain_there s (placed.Enum v) y e = tt
plain_there s (placed.Text o) y e = absurd (cc e)
plain_there s (placed.Data o) y e = absurd (cc e)
plain_there s (placed.Struct part) y e = absurd (cc e)
plain_there s (placed.List part) y e = absurd (cc e)
plain_there s (placed.AnyPointer p) y e = absurd (cc e)
plain_there s (placed.Capability c) y e = tt

-- an element that was read
pub element_read : {A : Type 0} (bytes : A → List (List ℕ)) (x : Reader A) (l : dynamic.Reader A) (i : ℕ) (nodes : List Node) (ty : SchemaType) (v : ListView) (p : PlainType) → ◌≡◌ {A = Result Shown Kind} (Ok (shown bytes x)) (shown_at bytes l i)
    → nodes_of l.set.now ≡ nodes → l.element_type ≡ ty → list_seen bytes l.source ≡ v → ty_of ty ≡ plain p → shown bytes x ≡ number_shown (schema_of nodes) p (element_number v i (width p))
element_read bytes x l i nodes ty v p h same is seen is_plain =
    let e : ◌≡◌ {A = Result Shown Kind} (Ok (shown bytes x)) (Ok (number_shown (schema_of nodes) p (element_number v i (width p)))) =
    h ∙ ap (λ (ns : List Node). element_shown (schema_of ns) (ty_of l.element_type) (list_seen bytes l.source) i) same ∙ ap (λ (t : SchemaType). element_shown (schema_of nodes) (ty_of t) (list_seen bytes l.source) i) is ∙ ap (λ (w : ListView). element_shown (schema_of nodes) (ty_of ty) w i) seen ∙ ap (λ (t : Ty). element_shown (schema_of nodes) t v i) is_plain in
    cc e
