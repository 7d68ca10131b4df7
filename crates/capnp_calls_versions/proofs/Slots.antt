-- Slots of a newer version that keep those of an older.
use Rattle.std.proofs.Common.{◌≡◌, ℕ, zero, suc, ◌*◌, ◌<◌, Bool, true, false, ◌&&◌, ◌||◌, ◌==◌, nat_le, if◌then◌else◌, Option, Some, None, refl, sym, ◌∙◌, ap, arith}
use Rattle.capnp_model.specs.Schemas.{PlainType, bool, int, uint, «enum», width, base_type, Ty, void, plain, text, blob, untyped, interface, struct, list, lists_of, type_of, Value, Shape, group_slot, Schema}
use Rattle.capnp_model.specs.Accepted.{default_bits, default_tree, is_default_of, opens_as, is_good_value, slot_body}
use Rattle.capnp_model.specs.Compatible.{Pairs, related_plain, related, same_option, is_new, same_default, keeps, keeps_body}
use Rattle.capnp_records.specs.NodeViews.{member_of, type_record_of, base_of}
use Rattle.capnp_records.specs.declared.node.BaseType.TheVariants as B
use Rattle.capnp_records.specs.declared.node.BaseType.{BaseType as RustBase}
use Rattle.capnp_records.specs.declared.node.TypeRecord.{TypeRecord as RustType}
use Rattle.capnp_model.proofs.lemmas.Tests.{same_number, and_false, test_is_true}
use Rattle.capnp_calls_versions.specs.Defaults.{AllBytes, default_value_bytes, same_value}
use Rattle.capnp_calls_versions.proofs.Relations.{is_base}
use Rattle.capnp_calls_versions.proofs.EqualDefaults.{defaults_equal}

pointers : (x r m v : Bool) → (r ≡ true → m ≡ v) → ((x && r) && m) ≡ ((x && v) && r)
pointers true true m true h = h refl
pointers true true m false h = h refl
pointers true false m v h = sym (and_false v)
pointers false r m v h = refl

plains : (r x y m v : Bool) → (r ≡ true → x ≡ y) → (r ≡ true → m ≡ v) → ((r && x) && m) ≡ ((y && v) && r)
plains true x y m true h k = ap (λ b. b && m) (h refl) ∙ ap (λ b. y && b) (k refl) ∙ back y
  where
    back : (b : Bool) → (b && true) ≡ ((b && true) && true)
    back true = refl
    back false = refl
plains true x y m false h k = ap (λ b. b && m) (h refl) ∙ ap (λ b. y && b) (k refl) ∙ back y
  where
    back : (b : Bool) → (b && false) ≡ ((b && false) && true)
    back true = refl
    back false = refl
plains false x y m v h k = sym (and_false (y && v))

thrice : (b : Bool) → b ≡ ((b && true) && true)
thrice true = refl
thrice false = refl

-- values of a type take some bits, if they are plain
abbrev pub IsWide : Ty → Type 0
IsWide (plain p) = 0 < width p
IsWide _ = Unit {0}

same_width : (o n : Schema) (p q : PlainType) → related_plain o n p q ≡ true → width p ≡ width q
same_width o n bool bool h = refl
same_width o n bool (int w) h = absurd (cc h)
same_width o n bool (uint w) h = absurd (cc h)
same_width o n bool («enum» j) h = absurd (cc h)
same_width o n (int v) bool h = absurd (cc h)
same_width o n (int v) (int w) h = same_number v w h
same_width o n (int v) (uint w) h = absurd (cc h)
same_width o n (int v) («enum» j) h = absurd (cc h)
same_width o n (uint v) bool h = absurd (cc h)
same_width o n (uint v) (int w) h = absurd (cc h)
same_width o n (uint v) (uint w) h = same_number v w h
same_width o n (uint v) («enum» j) h = absurd (cc h)
same_width o n («enum» i) bool h = absurd (cc h)
same_width o n («enum» i) (int w) h = absurd (cc h)
same_width o n («enum» i) (uint w) h = absurd (cc h)
same_width o n («enum» i) («enum» j) h = refl

by_truth : (x y : Bool) → (x ≡ true → y ≡ true) → (y ≡ true → x ≡ true) → x ≡ y
by_truth true true f g = refl
by_truth false false f g = refl
by_truth true false f g = sym (f refl)
by_truth false true f g = g refl

cancelled : (w a b : ℕ) → 0 < w → w * a ≡ w * b → a ≡ b
cancelled w zero zero h e = refl
cancelled w zero (suc b) h e = absurd (omega arith)
cancelled w (suc a) zero h e = absurd (omega arith)
cancelled w (suc a) (suc b) h e = ap suc (cancelled w a b h (omega arith))

pub same_place : (o n : Schema) (p q : PlainType) (a b : ℕ) → 0 < width p → related_plain o n p q ≡ true → (width p * a == width q * b) ≡ (a == b)
same_place o n p q a b wide r =
    let w = same_width o n p q r in
    by_truth (width p * a == width q * b) (a == b)
    (λ h. test_is_true a b (cancelled (width p) a b wide (same_number (width p * a) (width q * b) h ∙ ap (λ v. v * b) (sym w))))
    (λ h. test_is_true (width p * a) (width q * b) (ap (λ x. width p * x) (same_number a b h) ∙ ap (λ v. v * b) w))

no_number : (a b : ℕ) → (a == b) ≡ false → a ≡ b → ⊥
no_number a b h e = absurd (cc (sym h ∙ test_is_true a b e))

-- the newer slot keeps the older just where places, values of defaults and types agree
pub slots_kept : (o n : Schema) (pairs : Pairs) (a b : ℕ) (t u : Ty) (d e : Option Value) → IsWide t → is_default_of t d ≡ true → is_default_of u e ≡ true
    → is_good_value (λ x. opens_as x t) d ≡ true → is_good_value (λ x. opens_as x u) e ≡ true → AllBytes (default_value_bytes d) → AllBytes (default_value_bytes e)
    → keeps_body o n pairs (slot_body a t d) (slot_body b u e) ≡ ((a == b && same_value d e) && related o n pairs t u)
unfolding keeps
slots_kept o n pairs a b void void d e wide h k g l x y = let s : true ≡ same_value d e = defaults_equal o n pairs void void d e refl h k g l x y in thrice (a == b) ∙ ap (λ z. (a == b && z) && true) s
slots_kept o n pairs a b void (plain q) d e wide h k g l x y = sym (and_false (a == b && same_value d e))
slots_kept o n pairs a b void text d e wide h k g l x y = sym (and_false (a == b && same_value d e))
slots_kept o n pairs a b void blob d e wide h k g l x y = sym (and_false (a == b && same_value d e))
slots_kept o n pairs a b void untyped d e wide h k g l x y = sym (and_false (a == b && same_value d e))
slots_kept o n pairs a b void interface d e wide h k g l x y = sym (and_false (a == b && same_value d e))
slots_kept o n pairs a b void (struct j) d e wide h k g l x y = sym (and_false (a == b && same_value d e))
slots_kept o n pairs a b void (list u) d e wide h k g l x y = sym (and_false (a == b && same_value d e))
slots_kept o n pairs a b (plain p) void d e wide h k g l x y = sym (and_false (a == b && same_value d e))
slots_kept o n pairs a b (plain p) (plain q) d e wide h k g l x y = plains (related_plain o n p q) (width p * a == width q * b) (a == b) (default_bits d == default_bits e) (same_value d e) (λ r. same_place o n p q a b wide r) (λ r. defaults_equal o n pairs (plain p) (plain q) d e r h k g l x y)
slots_kept o n pairs a b (plain p) text d e wide h k g l x y = sym (and_false (a == b && same_value d e))
slots_kept o n pairs a b (plain p) blob d e wide h k g l x y = sym (and_false (a == b && same_value d e))
slots_kept o n pairs a b (plain p) untyped d e wide h k g l x y = sym (and_false (a == b && same_value d e))
slots_kept o n pairs a b (plain p) interface d e wide h k g l x y = sym (and_false (a == b && same_value d e))
slots_kept o n pairs a b (plain p) (struct j) d e wide h k g l x y = sym (and_false (a == b && same_value d e))
slots_kept o n pairs a b (plain p) (list u) d e wide h k g l x y = sym (and_false (a == b && same_value d e))
slots_kept o n pairs a b text void d e wide h k g l x y = sym (and_false (a == b && same_value d e))
slots_kept o n pairs a b text (plain q) d e wide h k g l x y = sym (and_false (a == b && same_value d e))
slots_kept o n pairs a b text text d e wide h k g l x y = pointers (a == b) (related o n pairs text text) (same_default (default_tree d) (default_tree e)) (same_value d e) (λ r. defaults_equal o n pairs text text d e r h k g l x y)
slots_kept o n pairs a b text blob d e wide h k g l x y = pointers (a == b) (related o n pairs text blob) (same_default (default_tree d) (default_tree e)) (same_value d e) (λ r. defaults_equal o n pairs text blob d e r h k g l x y)
slots_kept o n pairs a b text untyped d e wide h k g l x y = pointers (a == b) (related o n pairs text untyped) (same_default (default_tree d) (default_tree e)) (same_value d e) (λ r. defaults_equal o n pairs text untyped d e r h k g l x y)
slots_kept o n pairs a b text interface d e wide h k g l x y = pointers (a == b) (related o n pairs text interface) (same_default (default_tree d) (default_tree e)) (same_value d e) (λ r. defaults_equal o n pairs text interface d e r h k g l x y)
slots_kept o n pairs a b text (struct j) d e wide h k g l x y = pointers (a == b) (related o n pairs text (struct j)) (same_default (default_tree d) (default_tree e)) (same_value d e) (λ r. defaults_equal o n pairs text (struct j) d e r h k g l x y)
slots_kept o n pairs a b text (list u) d e wide h k g l x y = pointers (a == b) (related o n pairs text (list u)) (same_default (default_tree d) (default_tree e)) (same_value d e) (λ r. defaults_equal o n pairs text (list u) d e r h k g l x y)
slots_kept o n pairs a b blob void d e wide h k g l x y = sym (and_false (a == b && same_value d e))
slots_kept o n pairs a b blob (plain q) d e wide h k g l x y = sym (and_false (a == b && same_value d e))
slots_kept o n pairs a b blob text d e wide h k g l x y = pointers (a == b) (related o n pairs blob text) (same_default (default_tree d) (default_tree e)) (same_value d e) (λ r. defaults_equal o n pairs blob text d e r h k g l x y)
slots_kept o n pairs a b blob blob d e wide h k g l x y = pointers (a == b) (related o n pairs blob blob) (same_default (default_tree d) (default_tree e)) (same_value d e) (λ r. defaults_equal o n pairs blob blob d e r h k g l x y)
slots_kept o n pairs a b blob untyped d e wide h k g l x y = pointers (a == b) (related o n pairs blob untyped) (same_default (default_tree d) (default_tree e)) (same_value d e) (λ r. defaults_equal o n pairs blob untyped d e r h k g l x y)
slots_kept o n pairs a b blob interface d e wide h k g l x y = pointers (a == b) (related o n pairs blob interface) (same_default (default_tree d) (default_tree e)) (same_value d e) (λ r. defaults_equal o n pairs blob interface d e r h k g l x y)
slots_kept o n pairs a b blob (struct j) d e wide h k g l x y = pointers (a == b) (related o n pairs blob (struct j)) (same_default (default_tree d) (default_tree e)) (same_value d e) (λ r. defaults_equal o n pairs blob (struct j) d e r h k g l x y)
slots_kept o n pairs a b blob (list u) d e wide h k g l x y = pointers (a == b) (related o n pairs blob (list u)) (same_default (default_tree d) (default_tree e)) (same_value d e) (λ r. defaults_equal o n pairs blob (list u) d e r h k g l x y)
slots_kept o n pairs a b untyped void d e wide h k g l x y = sym (and_false (a == b && same_value d e))
slots_kept o n pairs a b untyped (plain q) d e wide h k g l x y = sym (and_false (a == b && same_value d e))
slots_kept o n pairs a b untyped text d e wide h k g l x y = pointers (a == b) (related o n pairs untyped text) (same_default (default_tree d) (default_tree e)) (same_value d e) (λ r. defaults_equal o n pairs untyped text d e r h k g l x y)
slots_kept o n pairs a b untyped blob d e wide h k g l x y = pointers (a == b) (related o n pairs untyped blob) (same_default (default_tree d) (default_tree e)) (same_value d e) (λ r. defaults_equal o n pairs untyped blob d e r h k g l x y)
slots_kept o n pairs a b untyped untyped d e wide h k g l x y = pointers (a == b) (related o n pairs untyped untyped) (same_default (default_tree d) (default_tree e)) (same_value d e) (λ r. defaults_equal o n pairs untyped untyped d e r h k g l x y)
slots_kept o n pairs a b untyped interface d e wide h k g l x y = pointers (a == b) (related o n pairs untyped interface) (same_default (default_tree d) (default_tree e)) (same_value d e) (λ r. defaults_equal o n pairs untyped interface d e r h k g l x y)
slots_kept o n pairs a b untyped (struct j) d e wide h k g l x y = pointers (a == b) (related o n pairs untyped (struct j)) (same_default (default_tree d) (default_tree e)) (same_value d e) (λ r. defaults_equal o n pairs untyped (struct j) d e r h k g l x y)
slots_kept o n pairs a b untyped (list u) d e wide h k g l x y = pointers (a == b) (related o n pairs untyped (list u)) (same_default (default_tree d) (default_tree e)) (same_value d e) (λ r. defaults_equal o n pairs untyped (list u) d e r h k g l x y)
slots_kept o n pairs a b interface void d e wide h k g l x y = sym (and_false (a == b && same_value d e))
slots_kept o n pairs a b interface (plain q) d e wide h k g l x y = sym (and_false (a == b && same_value d e))
slots_kept o n pairs a b interface text d e wide h k g l x y = pointers (a == b) (related o n pairs interface text) (same_default (default_tree d) (default_tree e)) (same_value d e) (λ r. defaults_equal o n pairs interface text d e r h k g l x y)
slots_kept o n pairs a b interface blob d e wide h k g l x y = pointers (a == b) (related o n pairs interface blob) (same_default (default_tree d) (default_tree e)) (same_value d e) (λ r. defaults_equal o n pairs interface blob d e r h k g l x y)
slots_kept o n pairs a b interface untyped d e wide h k g l x y = pointers (a == b) (related o n pairs interface untyped) (same_default (default_tree d) (default_tree e)) (same_value d e) (λ r. defaults_equal o n pairs interface untyped d e r h k g l x y)
slots_kept o n pairs a b interface interface d e wide h k g l x y = pointers (a == b) (related o n pairs interface interface) (same_default (default_tree d) (default_tree e)) (same_value d e) (λ r. defaults_equal o n pairs interface interface d e r h k g l x y)
slots_kept o n pairs a b interface (struct j) d e wide h k g l x y = pointers (a == b) (related o n pairs interface (struct j)) (same_default (default_tree d) (default_tree e)) (same_value d e) (λ r. defaults_equal o n pairs interface (struct j) d e r h k g l x y)
slots_kept o n pairs a b interface (list u) d e wide h k g l x y = pointers (a == b) (related o n pairs interface (list u)) (same_default (default_tree d) (default_tree e)) (same_value d e) (λ r. defaults_equal o n pairs interface (list u) d e r h k g l x y)
slots_kept o n pairs a b (struct i) void d e wide h k g l x y = sym (and_false (a == b && same_value d e))
slots_kept o n pairs a b (struct i) (plain q) d e wide h k g l x y = sym (and_false (a == b && same_value d e))
slots_kept o n pairs a b (struct i) text d e wide h k g l x y = pointers (a == b) (related o n pairs (struct i) text) (same_default (default_tree d) (default_tree e)) (same_value d e) (λ r. defaults_equal o n pairs (struct i) text d e r h k g l x y)
slots_kept o n pairs a b (struct i) blob d e wide h k g l x y = pointers (a == b) (related o n pairs (struct i) blob) (same_default (default_tree d) (default_tree e)) (same_value d e) (λ r. defaults_equal o n pairs (struct i) blob d e r h k g l x y)
slots_kept o n pairs a b (struct i) untyped d e wide h k g l x y = pointers (a == b) (related o n pairs (struct i) untyped) (same_default (default_tree d) (default_tree e)) (same_value d e) (λ r. defaults_equal o n pairs (struct i) untyped d e r h k g l x y)
slots_kept o n pairs a b (struct i) interface d e wide h k g l x y = pointers (a == b) (related o n pairs (struct i) interface) (same_default (default_tree d) (default_tree e)) (same_value d e) (λ r. defaults_equal o n pairs (struct i) interface d e r h k g l x y)
slots_kept o n pairs a b (struct i) (struct j) d e wide h k g l x y = pointers (a == b) (related o n pairs (struct i) (struct j)) (same_default (default_tree d) (default_tree e)) (same_value d e) (λ r. defaults_equal o n pairs (struct i) (struct j) d e r h k g l x y)
slots_kept o n pairs a b (struct i) (list u) d e wide h k g l x y = pointers (a == b) (related o n pairs (struct i) (list u)) (same_default (default_tree d) (default_tree e)) (same_value d e) (λ r. defaults_equal o n pairs (struct i) (list u) d e r h k g l x y)
slots_kept o n pairs a b (list t) void d e wide h k g l x y = sym (and_false (a == b && same_value d e))
slots_kept o n pairs a b (list t) (plain q) d e wide h k g l x y = sym (and_false (a == b && same_value d e))
slots_kept o n pairs a b (list t) text d e wide h k g l x y = pointers (a == b) (related o n pairs (list t) text) (same_default (default_tree d) (default_tree e)) (same_value d e) (λ r. defaults_equal o n pairs (list t) text d e r h k g l x y)
slots_kept o n pairs a b (list t) blob d e wide h k g l x y = pointers (a == b) (related o n pairs (list t) blob) (same_default (default_tree d) (default_tree e)) (same_value d e) (λ r. defaults_equal o n pairs (list t) blob d e r h k g l x y)
slots_kept o n pairs a b (list t) untyped d e wide h k g l x y = pointers (a == b) (related o n pairs (list t) untyped) (same_default (default_tree d) (default_tree e)) (same_value d e) (λ r. defaults_equal o n pairs (list t) untyped d e r h k g l x y)
slots_kept o n pairs a b (list t) interface d e wide h k g l x y = pointers (a == b) (related o n pairs (list t) interface) (same_default (default_tree d) (default_tree e)) (same_value d e) (λ r. defaults_equal o n pairs (list t) interface d e r h k g l x y)
slots_kept o n pairs a b (list t) (struct j) d e wide h k g l x y = pointers (a == b) (related o n pairs (list t) (struct j)) (same_default (default_tree d) (default_tree e)) (same_value d e) (λ r. defaults_equal o n pairs (list t) (struct j) d e r h k g l x y)
slots_kept o n pairs a b (list t) (list u) d e wide h k g l x y = pointers (a == b) (related o n pairs (list t) (list u)) (same_default (default_tree d) (default_tree e)) (same_value d e) (λ r. defaults_equal o n pairs (list t) (list u) d e r h k g l x y)

-- a slot is no group
pub slot_no_group : (o n : Schema) (pairs : Pairs) (g : Shape) (b : ℕ) (u : Ty) (e : Option Value) → keeps_body o n pairs (group_slot g) (slot_body b u e) ≡ false
unfolding keeps
slot_no_group o n pairs g b void e = refl
slot_no_group o n pairs g b (plain q) e = refl
slot_no_group o n pairs g b text e = refl
slot_no_group o n pairs g b blob e = refl
slot_no_group o n pairs g b untyped e = refl
slot_no_group o n pairs g b interface e = refl
slot_no_group o n pairs g b (struct j) e = refl
slot_no_group o n pairs g b (list u) e = refl

pub group_no_slot : (o n : Schema) (pairs : Pairs) (g : Shape) (a : ℕ) (t : Ty) (d : Option Value) → keeps_body o n pairs (slot_body a t d) (group_slot g) ≡ false
unfolding keeps
group_no_slot o n pairs g a void d = refl
group_no_slot o n pairs g a (plain p) d = refl
group_no_slot o n pairs g a text d = refl
group_no_slot o n pairs g a blob d = refl
group_no_slot o n pairs g a untyped d = refl
group_no_slot o n pairs g a interface d = refl
group_no_slot o n pairs g a (struct i) d = refl
group_no_slot o n pairs g a (list t) d = refl

pub groups_kept : (o n : Schema) (pairs : Pairs) (g h : Shape) → keeps_body o n pairs (group_slot g) (group_slot h) ≡ keeps o n pairs g h
unfolding keeps
groups_kept o n pairs g h = refl

-- ---- the types of records

pub base_wide : (b : RustBase) → IsWide (base_type (base_of b))
base_wide B.Void = tt
base_wide B.Bool = omega arith
base_wide B.Int8 = omega arith
base_wide B.Int16 = omega arith
base_wide B.Int32 = omega arith
base_wide B.Int64 = omega arith
base_wide B.UInt8 = omega arith
base_wide B.UInt16 = omega arith
base_wide B.UInt32 = omega arith
base_wide B.UInt64 = omega arith
base_wide B.Float32 = tt
base_wide B.Float64 = tt
base_wide B.Text = tt
base_wide B.Data = tt
base_wide (B.Enum i) = omega arith
base_wide (B.Struct i) = tt
base_wide B.AnyPointer = tt
base_wide B.Capability = tt

pub base_is : (b : RustBase) → is_base (base_type (base_of b)) ≡ true
base_is B.Void = refl
base_is B.Bool = refl
base_is B.Int8 = refl
base_is B.Int16 = refl
base_is B.Int32 = refl
base_is B.Int64 = refl
base_is B.UInt8 = refl
base_is B.UInt16 = refl
base_is B.UInt32 = refl
base_is B.UInt64 = refl
base_is B.Float32 = refl
base_is B.Float64 = refl
base_is B.Text = refl
base_is B.Data = refl
base_is (B.Enum i) = refl
base_is (B.Struct i) = refl
base_is B.AnyPointer = refl
base_is B.Capability = refl

lists_wide : (c : ℕ) (t : Ty) → IsWide t → IsWide (lists_of c t)
lists_wide zero t h = h
lists_wide (suc c) t h = tt

pub type_wide : (t : RustType) → IsWide (type_of (type_record_of t))
type_wide t = lists_wide t.list_count (base_type (base_of t.base)) (base_wide t.base)

-- ---- members

pub same_members : (d e : ℕ) → same_option (member_of d) (member_of e) ≡ (d == e)
same_members d e = by (d == 65535) (e == 65535) refl refl
  where
    by : (x y : Bool) → (d == 65535) ≡ x → (e == 65535) ≡ y → same_option (if x then None else Some d) (if y then None else Some e) ≡ (d == e)
    by true true p q = sym (test_is_true d e (same_number d 65535 p ∙ sym (same_number e 65535 q)))
    by true false p q = by_truth false (d == e) (λ h. absurd (cc h)) (λ h. absurd (no_number e 65535 q (sym (same_number d e h) ∙ same_number d 65535 p)))
    by false true p q = by_truth false (d == e) (λ h. absurd (cc h)) (λ h. absurd (no_number d 65535 p (same_number d e h ∙ same_number e 65535 q)))
    by false false p q = refl

pub new_members : (count d : ℕ) → is_new count (member_of d) ≡ (d == 65535 || nat_le count d)
new_members count d = by (d == 65535)
  where
    by : (x : Bool) → is_new count (if x then None else Some d) ≡ (x || nat_le count d)
    by true = refl
    by false = refl
