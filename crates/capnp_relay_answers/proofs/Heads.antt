-- The first word of a value tells whether calls can run at it.
use Rattle.std.proofs.Common.{◌≡◌, ℕ, zero, suc, ◌+◌, ◌*◌, ◌%◌, ◌<◌, ◌≤◌, ◌^◌, true, false, List, [], ◌∷◌, length, refl, ap, sym, ◌∙◌, arith}
use Rattle.std.specs.Prelude.{nat_eq, ◌-◌, slice_index_or}
use Rattle.std.specs.Int.{from_le_bytes, w64}
use Rattle.capnp_model.specs.Trees.{Tree, null, capability, structure, plain_list, pointer_list, struct_list, none, ◌▸◌, is_null}
use Rattle.capnp_model.specs.Encoding.{canonical_words, pointer, body}
use Rattle.capnp_wire_canonical.specs.Writes.{filled}
use Rattle.capnp_relay_answers.specs.Reading.{can_be_opened}

list_is_odd : (x y : ℕ) → (1 + 4 * 0 + 2 ^ 32 * x + 2 ^ 35 * y) % 4 ≡ 1
list_is_odd x y = omega arith

struct_is_even : (o d k : ℕ) → (4 * o + 2 ^ 32 * d + 2 ^ 48 * k) % 4 ≡ 0
struct_is_even o d k = omega arith

abbrev kind_of_first : Tree → ℕ
kind_of_first null = 0
kind_of_first (structure words section kids) = 0
kind_of_first (capability i) = 3
kind_of_first _ = 1

first_kind : (t : Tree) → pointer 0 t % 4 ≡ kind_of_first t
first_kind null = refl
first_kind (structure zero section none) = struct_is_even (2 ^ 30 - 1) 0 0
first_kind (structure zero section (t ▸ ts)) = struct_is_even 0 0 _
first_kind (structure (suc words) section kids) = struct_is_even 0 (suc words) _
first_kind (plain_list size n section) = list_is_odd size n
first_kind (pointer_list ts) = list_is_odd 6 _
first_kind (struct_list d k es) = list_is_odd 7 _
first_kind (capability i) = omega arith

kind_opens : (t : Tree) → nat_eq (kind_of_first t) 0 ≡ can_be_opened t
kind_opens null = refl
kind_opens (structure words section kids) = refl
kind_opens (capability i) = refl
kind_opens (plain_list size n section) = refl
kind_opens (pointer_list ts) = refl
kind_opens (struct_list d k es) = refl

head_is : (x y : ℕ) (xs ys : List ℕ) → x ∷ xs ≡ y ∷ ys → x ≡ y
head_is x y xs ys e = cc

first_opens : (t : Tree) (w : ℕ) (ws : List ℕ) → w ∷ ws ≡ canonical_words t → nat_eq (w % 4) 0 ≡ can_be_opened t
unfolding canonical_words
first_opens t w ws is = ap (λ n. nat_eq (n % 4) 0) (head_is w (pointer 0 t) ws (body t) is) ∙ ap (λ n. nat_eq n 0) (first_kind t) ∙ kind_opens t

pub front_opens : (count : ℕ) (words : List (List ℕ)) (t : Tree) → 0 < count → count ≤ length words → filled count words ≡ canonical_words t → nat_eq (from_le_bytes w64 (slice_index_or words 0 []) % 4) 0 ≡ can_be_opened t
front_opens zero words t some inside is = absurd (omega (arith, some))
front_opens (suc n) [] t some inside is = absurd (omega (arith, inside))
front_opens (suc n) (w ∷ ws) t some inside is = first_opens t (from_le_bytes w64 w) _ is

-- a word that isn't zero begins no null
first_some : (t : Tree) (w : ℕ) (ws : List ℕ) → w ∷ ws ≡ canonical_words t → nat_eq w 0 ≡ false → is_null t ≡ false
unfolding canonical_words
first_some null w ws is other =
    let zeros : nat_eq w 0 ≡ true = ap (λ n. nat_eq n 0) (head_is w (pointer 0 null) ws (body null) is) in
    absurd (let both : true ≡ false = sym zeros ∙ other in cc both)
first_some (structure words section kids) w ws is other = refl
first_some (capability i) w ws is other = refl
first_some (plain_list size n section) w ws is other = refl
first_some (pointer_list ts) w ws is other = refl
first_some (struct_list d k es) w ws is other = refl

pub front_some : (count : ℕ) (words : List (List ℕ)) (t : Tree) → 0 < count → count ≤ length words → filled count words ≡ canonical_words t → nat_eq (from_le_bytes w64 (slice_index_or words 0 [])) 0 ≡ false → is_null t ≡ false
front_some zero words t some inside is other = absurd (omega (arith, some))
front_some (suc n) [] t some inside is other = absurd (omega (arith, inside))
front_some (suc n) (w ∷ ws) t some inside is other = first_some t (from_le_bytes w64 w) _ is other
