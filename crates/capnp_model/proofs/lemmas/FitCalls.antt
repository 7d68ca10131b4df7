-- What a call puts into a slot fits the slot.
use Rattle.std.proofs.Common.{◌≡◌, ℕ, suc, ◌-◌, ◌^◌, ◌<◌, ◌≤◌, Bool, true, false, nat_lt, if◌then◌else◌, Option, refl, arith}
use Rattle.std.specs.Prelude.{pos, negsuc}
use Rattle.std.proofs.lemmas.Nat.{pow_pos}
use lib.Pow as pow
use Rattle.capnp_model.specs.Trees.{Tree, null, capability, structure, plain_list, pointer_list, struct_list}
use Rattle.capnp_model.specs.Schemas.{PlainType, bool, int, uint, «enum», width, Ty, void, plain, text, blob, untyped, interface, struct, list, Body, void_slot, plain_slot, pointer_slot, group_slot, Schema}
use Rattle.capnp_model.specs.Readings.{is_list_of}
use Rattle.capnp_model.specs.Calls.{CallValue, whole_number, truth, enumerant, text_value, blob_value, message, Verb, get, set_to, init, initn, clear, refused_by, bits_of, object, plain_content, struct_content, message_root, value_content, init_content, initn_content, slot_content}
use Rattle.capnp_model.specs.Kinds.{Kind, TypeMismatch, InitnIsOnlyValidForListTextOrDataFields}
use Rattle.capnp_model.specs.NamedPaths.{IsInRange}
use Rattle.capnp_model.proofs.lemmas.SoundShapes.{FitsSlot}

-- a type of a pointer slot
abbrev pub IsPointer : Ty → Type 0
IsPointer void = ⊥
IsPointer (plain p) = ⊥
IsPointer _ = Unit {0}

if_below : (n m : ℕ) (p : PlainType) (at d : ℕ) (x : ℕ) → (n < m → x < 2 ^ width p) → d < 2 ^ width p → FitsSlot (plain_slot p at d) (if nat_lt n m then bits_of x else refused_by TypeMismatch)
if_below n m p at d x h small = by (nat_lt n m) refl
  where
    by : (b : Bool) → nat_lt n m ≡ b → FitsSlot (plain_slot p at d) (if b then bits_of x else refused_by TypeMismatch)
    by true e = (h (grind arith), small)
    by false e = tt

half_lt : (n w : ℕ) → n < 2 ^ (w - 1) → n < 2 ^ w
half_lt n w h = let power : 2 ^ (w - 1) ≤ 2 ^ w = pow.pow_mono {i = w - 1} {j = w} (omega arith) in omega arith

negative_lt : (n w : ℕ) → 2 ^ w - suc n < 2 ^ w
negative_lt n w = let some = pow_pos w in omega arith

bool_fits : (b : Bool) (at d : ℕ) → d < 2 ^ 1 → FitsSlot (plain_slot bool at d) (bits_of (if b then 1 else 0))
bool_fits true at d h = (omega arith, h)
bool_fits false at d h = (omega arith, h)

pub plain_fits : (p : PlainType) (v : CallValue) (at d : ℕ) → IsInRange (set_to v) → d < 2 ^ width p → FitsSlot (plain_slot p at d) (plain_content p v)
plain_fits bool (truth b) at d r h = bool_fits b at d h
plain_fits (uint w) (whole_number (pos n)) at d r h = if_below n (2 ^ w) (uint w) at d n (λ l. l) h
plain_fits (int w) (whole_number (pos n)) at d r h = if_below n (2 ^ (w - 1)) (int w) at d n (half_lt n w) h
plain_fits (int w) (whole_number (negsuc n)) at d r h = if_below n (2 ^ (w - 1)) (int w) at d (2 ^ w - suc n) (λ l. negative_lt n w) h
plain_fits («enum» id) (enumerant n) at d r h = (r, h)
plain_fits _ _ at d r h = tt

struct_fits : (t : Tree) (i id : ℕ) (d : Option Tree) → FitsSlot (pointer_slot i (struct id) d) (struct_content t)
struct_fits (structure w n ts) i id d = tt
struct_fits null i id d = tt
struct_fits (capability k) i id d = tt
struct_fits (plain_list z n k) i id d = tt
struct_fits (pointer_list ts) i id d = tt
struct_fits (struct_list w p es) i id d = tt

list_fits : (b : Bool) (t : Tree) (i : ℕ) (ty : Ty) (d : Option Tree) → FitsSlot (pointer_slot i ty d) (if b then object t else refused_by TypeMismatch)
list_fits true t i ty d = tt
list_fits false t i ty d = tt

value_fits : (v : CallValue) (ty : Ty) (i : ℕ) (d : Option Tree) → IsPointer ty → FitsSlot (pointer_slot i ty d) (value_content v ty)
value_fits v void i d h = absurd h
value_fits v (plain p) i d h = absurd h
value_fits (whole_number z) text i d h = tt
value_fits (truth b) text i d h = tt
value_fits (enumerant n) text i d h = tt
value_fits (text_value bs) text i d h = tt
value_fits (blob_value bs) text i d h = tt
value_fits (message t) text i d h = tt
value_fits (whole_number z) blob i d h = tt
value_fits (truth b) blob i d h = tt
value_fits (enumerant n) blob i d h = tt
value_fits (text_value bs) blob i d h = tt
value_fits (blob_value bs) blob i d h = tt
value_fits (message t) blob i d h = tt
value_fits (whole_number z) untyped i d h = tt
value_fits (truth b) untyped i d h = tt
value_fits (enumerant n) untyped i d h = tt
value_fits (text_value bs) untyped i d h = tt
value_fits (blob_value bs) untyped i d h = tt
value_fits (message t) untyped i d h = tt
value_fits (whole_number z) interface i d h = tt
value_fits (truth b) interface i d h = tt
value_fits (enumerant n) interface i d h = tt
value_fits (text_value bs) interface i d h = tt
value_fits (blob_value bs) interface i d h = tt
value_fits (message t) interface i d h = tt
value_fits (whole_number z) (struct id) i d h = tt
value_fits (truth b) (struct id) i d h = tt
value_fits (enumerant n) (struct id) i d h = tt
value_fits (text_value bs) (struct id) i d h = tt
value_fits (blob_value bs) (struct id) i d h = tt
value_fits (message t) (struct id) i d h = struct_fits (message_root t) i id d
value_fits (whole_number z) (list ty) i d h = tt
value_fits (truth b) (list ty) i d h = tt
value_fits (enumerant n) (list ty) i d h = tt
value_fits (text_value bs) (list ty) i d h = tt
value_fits (blob_value bs) (list ty) i d h = tt
value_fits (message t) (list ty) i d h = list_fits (is_list_of t ty) t i (list ty) d

init_fits : (s : Schema) (ty : Ty) (i : ℕ) (d : Option Tree) → FitsSlot (pointer_slot i ty d) (init_content s ty)
init_fits s (struct id) i d = tt
init_fits s untyped i d = tt
init_fits s _ i d = tt

initn_fits : (s : Schema) (n : ℕ) (ty : Ty) (k : Kind) (i : ℕ) (d : Option Tree) → FitsSlot (pointer_slot i ty d) (initn_content s n ty k)
initn_fits s n text k i d = tt
initn_fits s n blob k i d = tt
initn_fits s n (list ty) k i d = tt
initn_fits s n _ k i d = tt

-- the default of a slot fits, and a pointer slot is one of a pointer's type
abbrev pub IsGoodSlot : Body → Type 0
IsGoodSlot (void_slot j) = Unit {0}
IsGoodSlot (plain_slot p at d) = d < 2 ^ width p
IsGoodSlot (pointer_slot i ty d) = IsPointer ty
IsGoodSlot (group_slot g) = Unit {0}

pub contents_fit : (s : Schema) (body : Body) → IsGoodSlot body → (verb : Verb) → IsInRange verb → FitsSlot body (slot_content s verb body)
contents_fit s body h get r = absurd r
contents_fit s (void_slot j) h (set_to v) r = refl
contents_fit s (void_slot j) h init r = tt
contents_fit s (void_slot j) h (initn n) r = tt
contents_fit s (void_slot j) h clear r = refl
contents_fit s (plain_slot p at d) h (set_to v) r = plain_fits p v at d r h
contents_fit s (plain_slot p at d) h init r = tt
contents_fit s (plain_slot p at d) h (initn n) r = tt
contents_fit s (plain_slot p at d) h clear r = (h, h)
contents_fit s (pointer_slot i ty d) h (set_to v) r = value_fits v ty i d h
contents_fit s (pointer_slot i ty d) h init r = init_fits s ty i d
contents_fit s (pointer_slot i ty d) h (initn n) r = initn_fits s n ty InitnIsOnlyValidForListTextOrDataFields i d
contents_fit s (pointer_slot i ty d) h clear r = tt
contents_fit s (group_slot g) h (set_to v) r = tt
contents_fit s (group_slot g) h init r = tt
contents_fit s (group_slot g) h (initn n) r = tt
contents_fit s (group_slot g) h clear r = tt
