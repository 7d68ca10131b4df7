-- What slots of types say.
use Rattle.std.proofs.Common.{◌≡◌, ℕ, true, false, ◌==◌, Option, Some, refl}
use Rattle.capnp_model.specs.Schemas.{Ty, void, plain, text, blob, untyped, interface, struct, list, Value, Schema}
use Rattle.capnp_model.specs.Accepted.{slot_body}
use Rattle.capnp_model.specs.Compatible.{Pairs, related}
use Rattle.capnp_calls_versions.specs.SlotParts.{is_group_slot, type_if_slot, slot_place, same_defaults}
use Rattle.capnp_calls_versions.proofs.EqualDefaults.{same_slot_default}
use Rattle.capnp_calls_versions.proofs.Slots.{IsWide, same_place}

pub slot_is_no_group : (a : ℕ) (t : Ty) (d : Option Value) → is_group_slot (slot_body a t d) ≡ false
slot_is_no_group a void d = refl
slot_is_no_group a (plain p) d = refl
slot_is_no_group a text d = refl
slot_is_no_group a blob d = refl
slot_is_no_group a untyped d = refl
slot_is_no_group a interface d = refl
slot_is_no_group a (struct i) d = refl
slot_is_no_group a (list ty) d = refl

pub type_is : (a : ℕ) (t : Ty) (d : Option Value) → type_if_slot (slot_body a t d) ≡ Some t
type_is a void d = refl
type_is a (plain p) d = refl
type_is a text d = refl
type_is a blob d = refl
type_is a untyped d = refl
type_is a interface d = refl
type_is a (struct i) d = refl
type_is a (list ty) d = refl

-- slots of related types lie at one place where their offsets are equal
pub places_are : (o n : Schema) (pairs : Pairs) (a b : ℕ) (t u : Ty) (d e : Option Value) → IsWide t → related o n pairs t u ≡ true → (slot_place (slot_body a t d) == slot_place (slot_body b u e)) ≡ (a == b)
places_are o n pairs a b void void d e wide r = refl
places_are o n pairs a b void (plain q) d e wide r = absurd (cc r)
places_are o n pairs a b void text d e wide r = absurd (cc r)
places_are o n pairs a b void blob d e wide r = absurd (cc r)
places_are o n pairs a b void untyped d e wide r = absurd (cc r)
places_are o n pairs a b void interface d e wide r = absurd (cc r)
places_are o n pairs a b void (struct j) d e wide r = absurd (cc r)
places_are o n pairs a b void (list uy) d e wide r = absurd (cc r)
places_are o n pairs a b (plain p) void d e wide r = absurd (cc r)
places_are o n pairs a b (plain p) (plain q) d e wide r = same_place o n p q a b wide r
places_are o n pairs a b (plain p) text d e wide r = absurd (cc r)
places_are o n pairs a b (plain p) blob d e wide r = absurd (cc r)
places_are o n pairs a b (plain p) untyped d e wide r = absurd (cc r)
places_are o n pairs a b (plain p) interface d e wide r = absurd (cc r)
places_are o n pairs a b (plain p) (struct j) d e wide r = absurd (cc r)
places_are o n pairs a b (plain p) (list uy) d e wide r = absurd (cc r)
places_are o n pairs a b text void d e wide r = absurd (cc r)
places_are o n pairs a b text (plain q) d e wide r = absurd (cc r)
places_are o n pairs a b text text d e wide r = refl
places_are o n pairs a b text blob d e wide r = absurd (cc r)
places_are o n pairs a b text untyped d e wide r = absurd (cc r)
places_are o n pairs a b text interface d e wide r = absurd (cc r)
places_are o n pairs a b text (struct j) d e wide r = absurd (cc r)
places_are o n pairs a b text (list uy) d e wide r = absurd (cc r)
places_are o n pairs a b blob void d e wide r = absurd (cc r)
places_are o n pairs a b blob (plain q) d e wide r = absurd (cc r)
places_are o n pairs a b blob text d e wide r = absurd (cc r)
places_are o n pairs a b blob blob d e wide r = refl
places_are o n pairs a b blob untyped d e wide r = absurd (cc r)
places_are o n pairs a b blob interface d e wide r = absurd (cc r)
places_are o n pairs a b blob (struct j) d e wide r = absurd (cc r)
places_are o n pairs a b blob (list uy) d e wide r = absurd (cc r)
places_are o n pairs a b untyped void d e wide r = absurd (cc r)
places_are o n pairs a b untyped (plain q) d e wide r = absurd (cc r)
places_are o n pairs a b untyped text d e wide r = absurd (cc r)
places_are o n pairs a b untyped blob d e wide r = absurd (cc r)
places_are o n pairs a b untyped untyped d e wide r = refl
places_are o n pairs a b untyped interface d e wide r = absurd (cc r)
places_are o n pairs a b untyped (struct j) d e wide r = absurd (cc r)
places_are o n pairs a b untyped (list uy) d e wide r = absurd (cc r)
places_are o n pairs a b interface void d e wide r = absurd (cc r)
places_are o n pairs a b interface (plain q) d e wide r = absurd (cc r)
places_are o n pairs a b interface text d e wide r = absurd (cc r)
places_are o n pairs a b interface blob d e wide r = absurd (cc r)
places_are o n pairs a b interface untyped d e wide r = absurd (cc r)
places_are o n pairs a b interface interface d e wide r = refl
places_are o n pairs a b interface (struct j) d e wide r = absurd (cc r)
places_are o n pairs a b interface (list uy) d e wide r = absurd (cc r)
places_are o n pairs a b (struct i) void d e wide r = absurd (cc r)
places_are o n pairs a b (struct i) (plain q) d e wide r = absurd (cc r)
places_are o n pairs a b (struct i) text d e wide r = absurd (cc r)
places_are o n pairs a b (struct i) blob d e wide r = absurd (cc r)
places_are o n pairs a b (struct i) untyped d e wide r = absurd (cc r)
places_are o n pairs a b (struct i) interface d e wide r = absurd (cc r)
places_are o n pairs a b (struct i) (struct j) d e wide r = refl
places_are o n pairs a b (struct i) (list uy) d e wide r = absurd (cc r)
places_are o n pairs a b (list ty) void d e wide r = absurd (cc r)
places_are o n pairs a b (list ty) (plain q) d e wide r = absurd (cc r)
places_are o n pairs a b (list ty) text d e wide r = absurd (cc r)
places_are o n pairs a b (list ty) blob d e wide r = absurd (cc r)
places_are o n pairs a b (list ty) untyped d e wide r = absurd (cc r)
places_are o n pairs a b (list ty) interface d e wide r = absurd (cc r)
places_are o n pairs a b (list ty) (struct j) d e wide r = absurd (cc r)
places_are o n pairs a b (list ty) (list uy) d e wide r = refl

-- slots of related types have equal defaults where their values are equal
pub defaults_are : (o n : Schema) (pairs : Pairs) (a b : ℕ) (t u : Ty) (d e : Option Value) → related o n pairs t u ≡ true → same_defaults (slot_body a t d) (slot_body b u e) ≡ same_slot_default t d e
defaults_are o n pairs a b void void d e r = refl
defaults_are o n pairs a b void (plain q) d e r = absurd (cc r)
defaults_are o n pairs a b void text d e r = absurd (cc r)
defaults_are o n pairs a b void blob d e r = absurd (cc r)
defaults_are o n pairs a b void untyped d e r = absurd (cc r)
defaults_are o n pairs a b void interface d e r = absurd (cc r)
defaults_are o n pairs a b void (struct j) d e r = absurd (cc r)
defaults_are o n pairs a b void (list uy) d e r = absurd (cc r)
defaults_are o n pairs a b (plain p) void d e r = absurd (cc r)
defaults_are o n pairs a b (plain p) (plain q) d e r = refl
defaults_are o n pairs a b (plain p) text d e r = absurd (cc r)
defaults_are o n pairs a b (plain p) blob d e r = absurd (cc r)
defaults_are o n pairs a b (plain p) untyped d e r = absurd (cc r)
defaults_are o n pairs a b (plain p) interface d e r = absurd (cc r)
defaults_are o n pairs a b (plain p) (struct j) d e r = absurd (cc r)
defaults_are o n pairs a b (plain p) (list uy) d e r = absurd (cc r)
defaults_are o n pairs a b text void d e r = absurd (cc r)
defaults_are o n pairs a b text (plain q) d e r = absurd (cc r)
defaults_are o n pairs a b text text d e r = refl
defaults_are o n pairs a b text blob d e r = absurd (cc r)
defaults_are o n pairs a b text untyped d e r = absurd (cc r)
defaults_are o n pairs a b text interface d e r = absurd (cc r)
defaults_are o n pairs a b text (struct j) d e r = absurd (cc r)
defaults_are o n pairs a b text (list uy) d e r = absurd (cc r)
defaults_are o n pairs a b blob void d e r = absurd (cc r)
defaults_are o n pairs a b blob (plain q) d e r = absurd (cc r)
defaults_are o n pairs a b blob text d e r = absurd (cc r)
defaults_are o n pairs a b blob blob d e r = refl
defaults_are o n pairs a b blob untyped d e r = absurd (cc r)
defaults_are o n pairs a b blob interface d e r = absurd (cc r)
defaults_are o n pairs a b blob (struct j) d e r = absurd (cc r)
defaults_are o n pairs a b blob (list uy) d e r = absurd (cc r)
defaults_are o n pairs a b untyped void d e r = absurd (cc r)
defaults_are o n pairs a b untyped (plain q) d e r = absurd (cc r)
defaults_are o n pairs a b untyped text d e r = absurd (cc r)
defaults_are o n pairs a b untyped blob d e r = absurd (cc r)
defaults_are o n pairs a b untyped untyped d e r = refl
defaults_are o n pairs a b untyped interface d e r = absurd (cc r)
defaults_are o n pairs a b untyped (struct j) d e r = absurd (cc r)
defaults_are o n pairs a b untyped (list uy) d e r = absurd (cc r)
defaults_are o n pairs a b interface void d e r = absurd (cc r)
defaults_are o n pairs a b interface (plain q) d e r = absurd (cc r)
defaults_are o n pairs a b interface text d e r = absurd (cc r)
defaults_are o n pairs a b interface blob d e r = absurd (cc r)
defaults_are o n pairs a b interface untyped d e r = absurd (cc r)
defaults_are o n pairs a b interface interface d e r = refl
defaults_are o n pairs a b interface (struct j) d e r = absurd (cc r)
defaults_are o n pairs a b interface (list uy) d e r = absurd (cc r)
defaults_are o n pairs a b (struct i) void d e r = absurd (cc r)
defaults_are o n pairs a b (struct i) (plain q) d e r = absurd (cc r)
defaults_are o n pairs a b (struct i) text d e r = absurd (cc r)
defaults_are o n pairs a b (struct i) blob d e r = absurd (cc r)
defaults_are o n pairs a b (struct i) untyped d e r = absurd (cc r)
defaults_are o n pairs a b (struct i) interface d e r = absurd (cc r)
defaults_are o n pairs a b (struct i) (struct j) d e r = refl
defaults_are o n pairs a b (struct i) (list uy) d e r = absurd (cc r)
defaults_are o n pairs a b (list ty) void d e r = absurd (cc r)
defaults_are o n pairs a b (list ty) (plain q) d e r = absurd (cc r)
defaults_are o n pairs a b (list ty) text d e r = absurd (cc r)
defaults_are o n pairs a b (list ty) blob d e r = absurd (cc r)
defaults_are o n pairs a b (list ty) untyped d e r = absurd (cc r)
defaults_are o n pairs a b (list ty) interface d e r = absurd (cc r)
defaults_are o n pairs a b (list ty) (struct j) d e r = absurd (cc r)
defaults_are o n pairs a b (list ty) (list uy) d e r = refl
