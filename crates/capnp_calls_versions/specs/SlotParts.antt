-- What a slot says: its type, its place and its default.
use Rattle.std.specs.Prelude.{ℕ, zero, Bool, true, false, ◌==◌, Option, Some, None}
use Rattle.capnp_model.specs.Schemas.{Ty, void, plain, Body, void_slot, plain_slot, pointer_slot, group_slot}
use Rattle.capnp_model.specs.Compatible.{same_default}

-- The body is a group.
abbrev pub is_group_slot : Body → Bool
is_group_slot (group_slot g) = true
is_group_slot (void_slot i) = false
is_group_slot (plain_slot p at d) = false
is_group_slot (pointer_slot i ty d) = false

-- The type of a slot.
abbrev pub type_if_slot : Body → Option Ty
type_if_slot (void_slot i) = Some void
type_if_slot (plain_slot p at d) = Some (plain p)
type_if_slot (pointer_slot i ty d) = Some ty
type_if_slot (group_slot g) = None

-- Where a slot lies: a plain one by its first bit, any other by its place.
abbrev pub slot_place : Body → ℕ
slot_place (void_slot i) = i
slot_place (plain_slot p at d) = at
slot_place (pointer_slot i ty d) = i
slot_place (group_slot g) = zero

-- Slots of related types have equal defaults.
abbrev pub same_defaults : Body → Body → Bool
same_defaults (plain_slot p at d) (plain_slot q at' d') = d == d'
same_defaults (pointer_slot i ty d) (pointer_slot j ty' d') = same_default d d'
same_defaults b b' = true
