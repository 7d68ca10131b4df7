-- What types name in their set.
use Rattle.std.proofs.Common.{◌≡◌, ℕ, List, true, Option, Some, None, option_map, ap, sym, ◌∙◌}
use Rattle.capnp_model.specs.Trees.{Tree}
use Rattle.capnp_model.specs.Schemas.{Node, Ty, pointer_slot}
use Rattle.capnp_values_queries.specs.Fields.{Entry, type_of_body}
use Rattle.capnp_records.specs.Sets.{IsNodeOf}
use Rattle.capnp_records.specs.declared.raw.RawBrandedStructSchema.{RawBrandedStructSchema}
use Rattle.capnp_values_queries.specs.Types.{type_of_variant, is_type_of}
use Rattle.capnp_values_queries.specs.declared.introspect.«Type».{«Type» as SchemaType}
use Rattle.capnp_values_queries.specs.declared.introspect.TypeVariant.TheVariants as V

-- the struct that a type names is of the set
pub named_struct : (nodes : List Node) (ty : SchemaType) (raw : RawBrandedStructSchema) → is_type_of nodes ty ≡ true → type_of_variant (V.Struct raw) ≡ ty → IsNodeOf nodes raw
named_struct nodes ty raw h e = ap (is_type_of nodes) e ∙ h

-- the type of a field that lies behind a pointer
pub pointer_type : (o : Option Entry) (i : ℕ) (a b : Ty) (t : Option Tree) → option_map (λ e. e.body) o ≡ Some (pointer_slot i a t) → option_map (λ e. type_of_body e.body) o ≡ Some b → b ≡ a
pointer_type None i a b t h k = absurd (cc h)
pointer_type (Some e) i a b t h k =
    let is : e.body ≡ pointer_slot i a t = cc h in
    let of : type_of_body e.body ≡ b = cc k in
    sym of ∙ ap type_of_body is

-- the type of a list's elements is of the set as the list's type is
pub named_list : (nodes : List Node) (ty t : SchemaType) → is_type_of nodes ty ≡ true → type_of_variant (V.List t) ≡ ty → is_type_of nodes t ≡ true
named_list nodes ty t h e = ap (is_type_of nodes) e ∙ h

pub ruleset named_rules = (named_struct, named_list)
