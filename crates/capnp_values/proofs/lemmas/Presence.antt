-- What isn't null is there.
use Rattle.std.proofs.Common.{◌≡◌, ℕ, ◌==◌, Bool, true, false, if◌then◌else◌, List, [], ◌∷◌, length, take, refl}
use Rattle.std.specs.Prelude.{slice_index}
use Rattle.capnp_model.specs.Kinds.{TextWithoutZeroByte, WrongElementSize}
use Rattle.capnp_model.specs.Trees.{Tree, null, capability, structure, plain_list, pointer_list, struct_list, is_null, plain_elements}
use Rattle.capnp_model.specs.Schemas.{Ty, void, plain, text, blob, untyped, interface, struct, list, Schema}
use Rattle.capnp_model.specs.Readings.{Reading, fault, text_of, blob_of, Readings, read, text_reading, list_reading, is_list_of}
use Rattle.capnp_values.specs.Records.{is_there}

text_there : (xs : List ℕ) → is_there (text_reading xs) ≡ true
text_there [] = refl
text_there (b ∷ bs) = by (slice_index (b ∷ bs) (length bs) == 0)
  where
    by : (z : Bool) → is_there (if z then text_of (take (length bs) (b ∷ bs)) else fault TextWithoutZeroByte) ≡ true
    by true = refl
    by false = refl

if_there : (z : Bool) (x y : Reading) → is_there x ≡ true → is_there y ≡ true → is_there (if z then x else y) ≡ true
if_there true x y h k = h
if_there false x y h k = k

list_there : (z : Bool) (rs : Readings) → is_there (list_reading z rs) ≡ true
list_there true rs = refl
list_there false rs = refl

-- what a pointer that isn't null reads as is there
pub there : (s : Schema) (ty : Ty) (t : Tree) → is_null t ≡ false → is_there (read s t ty) ≡ true
unfolding read
there s ty null h = absurd cc
there s void (capability i) h = refl
there s (plain q) (capability i) h = refl
there s text (capability i) h = refl
there s blob (capability i) h = refl
there s untyped (capability i) h = refl
there s interface (capability i) h = refl
there s (struct id) (capability i) h = refl
there s (list ty) (capability i) h = refl
there s void (structure w n ts) h = refl
there s (plain q) (structure w n ts) h = refl
there s text (structure w n ts) h = refl
there s blob (structure w n ts) h = refl
there s untyped (structure w n ts) h = refl
there s interface (structure w n ts) h = refl
there s (struct id) (structure w n ts) h = refl
there s (list ty) (structure w n ts) h = refl
there s void (plain_list size n section) h = refl
there s (plain q) (plain_list size n section) h = refl
there s text (plain_list size n section) h = if_there (size == 2) (text_reading (plain_elements size n section)) (fault WrongElementSize) (text_there (plain_elements size n section)) refl
there s blob (plain_list size n section) h = if_there (size == 2) (blob_of (plain_elements size n section)) (fault WrongElementSize) refl refl
there s untyped (plain_list size n section) h = refl
there s interface (plain_list size n section) h = refl
there s (struct id) (plain_list size n section) h = refl
there s (list ty) (plain_list size n section) h = list_there (is_list_of (plain_list size n section) ty) _
there s void (pointer_list ts) h = refl
there s (plain q) (pointer_list ts) h = refl
there s text (pointer_list ts) h = refl
there s blob (pointer_list ts) h = refl
there s untyped (pointer_list ts) h = refl
there s interface (pointer_list ts) h = refl
there s (struct id) (pointer_list ts) h = refl
there s (list ty) (pointer_list ts) h = list_there (is_list_of (pointer_list ts) ty) _
there s void (struct_list w k es) h = refl
there s (plain q) (struct_list w k es) h = refl
there s text (struct_list w k es) h = refl
there s blob (struct_list w k es) h = refl
there s untyped (struct_list w k es) h = refl
there s interface (struct_list w k es) h = refl
there s (struct id) (struct_list w k es) h = refl
there s (list ty) (struct_list w k es) h = list_there (is_list_of (struct_list w k es) ty) _
