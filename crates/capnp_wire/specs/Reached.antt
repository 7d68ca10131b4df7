-- Where what pointers lead to begins.
use Rattle.std.specs.Prelude.{ℕ}
use Rattle.capnp_wire_objects.specs.declared.object.Object.{Object}
use Rattle.capnp_wire_objects.specs.declared.object.Object.TheVariants as object

-- The number of the segment in which an object begins, 0 where it has no place.
abbrev pub begins_in : Object → ℕ
begins_in object.Null = 0
begins_in (object.Struct p d k) = p.segment
begins_in (object.List p size n) = p.segment
begins_in (object.PointerList p n) = p.segment
begins_in (object.StructList p words n d k) = p.segment
begins_in (object.Capability i) = 0

-- The object has a place: it is no null pointer's, and no capability.
abbrev pub IsSomewhere : Object → Type 0
IsSomewhere object.Null = ⊥
IsSomewhere (object.Capability i) = ⊥
IsSomewhere _ = Unit {0}
