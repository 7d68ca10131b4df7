-- Related types, and the room that lists have for the elements of a type.
use Rattle.std.proofs.Common.{◌≡◌, ℕ, ◌*◌, ◌≤◌, Bool, true, false, not, ◌&&◌, ◌==◌, nat_le, if◌then◌else◌, refl, subst, arith}
use Rattle.capnp_model.specs.Trees.{Tree, struct_list, Elements, size_of_width}
use Rattle.capnp_model.specs.Schemas.{PlainType, width, Ty, void, plain, text, blob, untyped, interface, struct, list, Schema}
use Rattle.capnp_model.specs.Readings.{have_room, is_list_of}
use Rattle.capnp_model.specs.Edits.{as_list}
use Rattle.capnp_model.specs.Admitted.{is_struct_type}
use Rattle.capnp_model.proofs.lemmas.OlderReading.{same_bool, same_int, same_uint, same_enum, Related, related_void, related_plain', related_text, related_blob, related_untyped, related_interface, related_struct, related_list}
use Rattle.capnp_model.proofs.lemmas.Tests.{same_number, le_is, and_left}
use Rattle.capnp_model_versions.proofs.SameShapes.{AnyPair}
use Rattle.capnp_model_versions.proofs.SameContents.{element_bits}
use Rattle.capnp_model_versions.proofs.Follows.{IsNarrow}
use Rattle.capnp_model.specs.Compatible.{Pairs, has_pair, related_plain, related}
use Rattle.capnp_model.specs.Schemas.{bool, int, uint, «enum»}
use Rattle.capnp_model.proofs.lemmas.OlderReading.{SamePlain}

-- ---- types that are related

module _ (o n : Schema) where
  pub plain_is : (p q : PlainType) → related_plain o n p q ≡ true → SamePlain p q
  plain_is bool bool h = same_bool
  plain_is (int v) (int w) h = subst (λ z. SamePlain (int v) (int z)) (same_number v w h) (same_int v)
  plain_is (uint v) (uint w) h = subst (λ z. SamePlain (uint v) (uint z)) (same_number v w h) (same_uint v)
  plain_is («enum» i) («enum» j) h = same_enum i j
  plain_is _ _ h = absurd (cc h)

  pub same_sort : (ty ty' : Ty) → Related o n AnyPair ty ty' → is_struct_type ty ≡ is_struct_type ty'
  same_sort ty ty' related_void = refl
  same_sort ty ty' (related_plain' r) = refl
  same_sort ty ty' related_text = refl
  same_sort ty ty' related_blob = refl
  same_sort ty ty' related_untyped = refl
  same_sort ty ty' related_interface = refl
  same_sort ty ty' (related_struct r) = refl
  same_sort ty ty' (related_list r) = refl

  pub same_bits : (ty ty' : Ty) → Related o n AnyPair ty ty' → is_struct_type ty ≡ false → IsNarrow ty → (element_bits o ty ≡ element_bits n ty') × IsNarrow ty'
  same_bits ty ty' related_void e k = (refl, tt)
  same_bits ty ty' (related_plain' same_bool) e k = (refl, k)
  same_bits ty ty' (related_plain' (same_int w)) e k = (refl, k)
  same_bits ty ty' (related_plain' (same_uint w)) e k = (refl, k)
  same_bits ty ty' (related_plain' (same_enum i j)) e k = (refl, k)
  same_bits ty ty' related_text e k = (refl, tt)
  same_bits ty ty' related_blob e k = (refl, tt)
  same_bits ty ty' related_untyped e k = (refl, tt)
  same_bits ty ty' related_interface e k = (refl, tt)
  same_bits ty ty' (related_struct r) e k = absurd (cc e)
  same_bits ty ty' (related_list r) e k = (refl, tt)

-- types that compatible schemas relate, under any relation that their pairs of structs have
module _ (o n : Schema) (pairs : Pairs) (R : ℕ → ℕ → Type 0) (each : (i j : ℕ) → has_pair pairs i j ≡ true → R i j) where
  pub related-by : (a b : Ty) → related o n pairs a b ≡ true → Related o n R a b
  related-by void void h = related_void
  related-by (plain p) (plain q) h = related_plain' (plain_is o n p q h)
  related-by text text h = related_text
  related-by blob blob h = related_blob
  related-by untyped untyped h = related_untyped
  related-by interface interface h = related_interface
  related-by (struct i) (struct j) h = related_struct (each i j h)
  related-by (list a) (list b) h = related_list (related-by a b h)
  related-by _ _ h = absurd (cc h)

-- ---- lists

pub not_struct : (s : Schema) (ty : Ty) (t : Tree) → is_struct_type ty ≡ false → as_list s ty t ≡ t
not_struct s void t e = refl
not_struct s (plain p) t e = refl
not_struct s text t e = refl
not_struct s blob t e = refl
not_struct s untyped t e = refl
not_struct s interface t e = refl
not_struct s (struct i) t e = absurd (cc e)
not_struct s (list ty) t e = refl

-- a list of structs that is read as one of plain elements has a word
pub a-word : (v w p : ℕ) → (not (size_of_width v == 1) && have_room (64 * w) p (size_of_width v)) ≡ true → 1 ≤ w
a-word v w p = by (v == 1) (v == 8) (v == 16) (v == 32)
  where
    some : (bits : ℕ) → 1 ≤ bits → nat_le bits (64 * w) ≡ true → 1 ≤ w
    some bits l h = let g = le_is bits (64 * w) h in omega arith

    by : (a b c d : Bool) → (not ((if a then 1 else (if b then 2 else (if c then 3 else (if d then 4 else 5)))) == 1) && have_room (64 * w) p (if a then 1 else (if b then 2 else (if c then 3 else (if d then 4 else 5))))) ≡ true → 1 ≤ w
    by true b c d h = absurd (cc h)
    by false true c d h = some 8 (omega arith) (and_left (nat_le 8 (64 * w)) (nat_le 0 p) h)
    by false false true d h = some 16 (omega arith) (and_left (nat_le 16 (64 * w)) (nat_le 0 p) h)
    by false false false true h = some 32 (omega arith) (and_left (nat_le 32 (64 * w)) (nat_le 0 p) h)
    by false false false false h = some 64 (omega arith) (and_left (nat_le 64 (64 * w)) (nat_le 0 p) h)

-- elements have the bits that are written
pub roomy : (s : Schema) (ty : Ty) (w q : ℕ) (es : Elements) → is_struct_type ty ≡ false → IsNarrow ty → is_list_of (struct_list w q es) ty ≡ true → element_bits s ty ≤ 64 * w
roomy s void w q es e k h = omega arith
roomy s (plain p) w q es e k h = let some = a-word (width p) w q h in let l : width p ≤ 64 = k in omega arith
roomy s text w q es e k h = omega arith
roomy s blob w q es e k h = omega arith
roomy s untyped w q es e k h = omega arith
roomy s interface w q es e k h = omega arith
roomy s (struct i) w q es e k h = absurd (cc e)
roomy s (list ty) w q es e k h = omega arith
