-- What the model says of places and areas, by the storage of a slot's type.
use Rattle.std.proofs.Common.{◌≡◌, ℕ, zero, suc, ◌+◌, ◌-◌, ◌*◌, ◌<◌, ◌≤◌, Bool, true, nat_le, nat_lt, Option, List, [], ◌∷◌, refl, sym, ap, arith}
use Rattle.capnp_model.specs.Schemas.{Ty, void, plain, text, blob, untyped, interface, struct, list, lists_of, Value, StructNode, group_slot}
use Rattle.capnp_model.specs.Accepted.{is_inside, no_shape, slot_body, Area, bit_area, pointer_area, areas_of_body, areas_of}
use Rattle.capnp_records.specs.declared.storage.Storage.{Storage}
use Rattle.capnp_records.specs.declared.storage.Storage.TheVariants.{Nothing, Bits, Pointer}
use Rattle.capnp_records.specs.Storage.{storage_of}

pub storage_of_list : (n : ℕ) (t : Ty) → 0 < n → storage_of (lists_of n t) ≡ Pointer
storage_of_list zero t h = absurd (omega arith)
storage_of_list (suc n) t h = refl

pub no_list : (n : ℕ) (t : Ty) → n ≤ 0 → lists_of n t ≡ t
no_list zero t h = refl
no_list (suc n) t h = absurd (omega arith)

pub is_list : (n : ℕ) (t : Ty) → 0 < n → lists_of n t ≡ list (lists_of (n - 1) t)
is_list zero t h = absurd (omega arith)
is_list (suc n) t h = let less : suc n - 1 ≡ n = omega arith in ap (λ k. list (lists_of k t)) (sym less)

pub ruleset types = (storage_of_list, no_list, is_list)

-- whether a slot that is stored so lies in its section
abbrev pub lies_inside : StructNode → ℕ → Storage → Bool
lies_inside s offset Nothing = true
lies_inside s offset (Bits count) = nat_le (count * (offset + 1)) (64 * s.words)
lies_inside s offset Pointer = nat_lt offset s.pointers

pub is_inside_by : (s : StructNode) (offset : ℕ) (t : Ty) (how : Storage) → how ≡ storage_of t → is_inside s offset t ≡ lies_inside s offset how
is_inside_by s offset void how h = rw h refl
is_inside_by s offset (plain p) how h = rw h refl
is_inside_by s offset text how h = rw h refl
is_inside_by s offset blob how h = rw h refl
is_inside_by s offset untyped how h = rw h refl
is_inside_by s offset interface how h = rw h refl
is_inside_by s offset (struct id) how h = rw h refl
is_inside_by s offset (list t) how h = rw h refl

pub ruleset places = (is_inside_by)

-- the areas of a slot that is stored so
abbrev pub areas_at : ℕ → Storage → List Area
areas_at offset Nothing = []
areas_at offset (Bits count) = bit_area (count * offset) count ∷ []
areas_at offset Pointer = pointer_area offset ∷ []

pub areas_by : (offset : ℕ) (t : Ty) (d : Option Value) (how : Storage) → how ≡ storage_of t → areas_of_body (slot_body offset t d) ≡ areas_at offset how
unfolding areas_of_body areas_of
areas_by offset void d how h = rw h refl
areas_by offset (plain p) d how h = rw h refl
areas_by offset text d how h = rw h refl
areas_by offset blob d how h = rw h refl
areas_by offset untyped d how h = rw h refl
areas_by offset interface d how h = rw h refl
areas_by offset (struct id) d how h = rw h refl
areas_by offset (list t) d how h = rw h refl

pub areas_of_group : areas_of_body (group_slot no_shape) ≡ []
unfolding areas_of_body areas_of
areas_of_group = refl

pub ruleset areas = (areas_by, areas_of_group)
