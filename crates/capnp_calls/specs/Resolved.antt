-- Calls that are resolved under the schema of a root, once for all messages.
use Rattle.std.specs.Prelude.{◌≡◌, ◌^◌, ◌≤◌, ◌↔◌, Bool, true, false, List, [], ◌∷◌, map, ⊤, IfSome}
use Rattle.std.specs.Coded.{Coded-set, coded_bool, le_prop, ×_prop, →_prop, Unit-prop}
use Rattle.capnp_model.specs.Calls.{CallValue, set_to, Call}
use Rattle.capnp_values_queries.specs.Structs.{schema_around, shape_of_struct}
use Rattle.capnp_values_queries.specs.declared.structs.StructSchema.{StructSchema}
use Rattle.capnp_calls.specs.CallViews.{call_view}
use Rattle.capnp_calls.specs.LongLists.{content_put, sets_message}
use Rattle.capnp_calls.specs.Sizes.{content_len}
use Rattle.capnp_calls.specs.Splices.{PathLeadsTo}
use Rattle.capnp_calls.specs.Ways.{IsWay, IsWay-prop}
use Rattle.capnp_calls_splice.specs.declared.splice.Splice.{Splice}
use Rattle.capnp_calls.specs.declared.resolved.Resolved.{Resolved}

-- The call.
abbrev pub call_of : Resolved → Call
call_of r = call_view r.call.now

-- The calls, in turn.
abbrev pub calls_of : List Resolved → List Call
calls_of rs = map call_of rs

-- It is told whether the call puts a list that is too long; one that sets a message's value isn't
-- looked at.
abbrev pub TellsLong : StructSchema → Call → Bool → Type 0
TellsLong root c told =
    (sets_message c.verb ≡ false → (told ≡ true) ↔ (2 ^ 29 ≤ content_len (content_put root c)))
    × (sets_message c.verb ≡ true → told ≡ false)

-- What is kept of the call is so under the schema of the root.
abbrev pub IsResolved : StructSchema → Resolved → Type 0
IsResolved root r = IsWay (schema_around root) (call_of r).path r.fields.items × TellsLong root (call_of r) r.is_long

-- So it is of each.
abbrev pub AreResolved : StructSchema → List Resolved → Type 0
AreResolved root [] = ⊤
AreResolved root (r ∷ rs) = IsResolved root r × AreResolved root rs

-- ---- what is put into canonical words where they stand

-- The call sets a slot to a value by what is put, and its path leads to the slot by the hops.
abbrev pub IsSpliceOf : StructSchema → Call → Splice → Type 0
IsSpliceOf root c p = (v : CallValue) × (c.verb ≡ set_to v) × PathLeadsTo (schema_around root) v p.put p.hops.items (shape_of_struct root) c.path

-- What is kept of that, if anything, is so under the schema of the root.
abbrev pub KnowsSplice : StructSchema → Resolved → Type 0
KnowsSplice root r = IfSome r.splice (IsSpliceOf root (call_of r))

-- So it is of each.
abbrev pub KnowSplices : StructSchema → List Resolved → Type 0
KnowSplices root [] = ⊤
KnowSplices root (r ∷ rs) = KnowsSplice root r × KnowSplices root rs

-- ---- each of these facts has at most one proof, so a struct can keep it

pub TellsLong-prop : (root : StructSchema) (c : Call) (told : Bool) → IsProp (TellsLong root c told)
TellsLong-prop root c told =
    ×_prop (→_prop (×_prop (→_prop le_prop) (→_prop (Coded-set coded_bool told true)))) (→_prop (Coded-set coded_bool told false))

pub IsResolved-prop : (root : StructSchema) (r : Resolved) → IsProp (IsResolved root r)
IsResolved-prop root r = ×_prop (IsWay-prop (schema_around root) (call_of r).path r.fields.items) (TellsLong-prop root (call_of r) r.is_long)

pub AreResolved-prop : (root : StructSchema) (rs : List Resolved) → IsProp (AreResolved root rs)
AreResolved-prop root [] = Unit-prop
AreResolved-prop root (r ∷ rs) = ×_prop (IsResolved-prop root r) (AreResolved-prop root rs)
