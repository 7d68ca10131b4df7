-- How elements of a type lie in a list. (Encoding, "Lists")
use Rattle.std.specs.Prelude.{◌≡◌}
use Rattle.capnp_model.specs.Schemas.{Ty, void, plain, text, blob, untyped, interface, struct, list, Schema}
use Rattle.capnp_values_queries.specs.Structs.{schema_around, id_of}
use Rattle.capnp_schema_values.specs.Plain.{IsPlainType}
use Rattle.capnp_schema_values.specs.declared.elements.Kind.{Kind}
use Rattle.capnp_schema_values.specs.declared.elements.Kind.TheVariants as kind

-- They lie behind pointers.
abbrev pub AreBehindPointers : Ty → Type 0
AreBehindPointers void = ⊥
AreBehindPointers (plain p) = ⊥
AreBehindPointers text = Unit {0}
AreBehindPointers blob = Unit {0}
AreBehindPointers untyped = Unit {0}
AreBehindPointers interface = Unit {0}
AreBehindPointers (struct id) = ⊥
AreBehindPointers (list ty) = Unit {0}

-- Elements of the type lie so.
abbrev pub IsKind : Schema → Ty → Kind → Type 0
IsKind around ty kind.Void = ty ≡ void
IsKind around ty kind.Plain = IsPlainType ty
IsKind around ty (kind.Struct g) = (schema_around g ≡ around) × (struct (id_of g) ≡ ty)
IsKind around ty kind.Behind = AreBehindPointers ty
