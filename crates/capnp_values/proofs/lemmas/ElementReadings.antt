-- What elements of lists show is what the model reads.
use Rattle.std.proofs.Common.{◌≡◌, ℕ, zero, suc, ◌+◌, ◌-◌, ◌*◌, ◌/◌, ◌%◌, ◌^◌, ◌<◌, ◌≤◌, ◌==◌, ◌⊎◌, inl, inr, nat_le, Bool, true, false, ◌&&◌, if◌then◌else◌, List, [], ◌∷◌, length, Some, refl, ap, sym, ◌∙◌, subst, arith}
use Rattle.std.specs.Prelude.{slice_index}
use Rattle.std.proofs.Math.Nat.{mod-lt}
use Rattle.std.proofs.lemmas.Nat.{pow_pos}
use Rattle.std.proofs.lemmas.Bool.Decides.{nat_tests}
use lib.Pow as pow
use Rattle.capnp_model.specs.Sections.{bits_at}
use Rattle.capnp_model.specs.Trees.{Tree, null, capability, structure, plain_list, pointer_list, struct_list, Trees, none, ◌▸◌, child, tree_count, Elements, no_elements, element, element_count, size_bits, size_of_width, plain_elements}
use Rattle.capnp_model.specs.Traversal.{tree_at}
use Rattle.capnp_model.specs.Schemas.{PlainType, width, TypeRecord, type_of, Ty, void, plain, text, blob, untyped, interface, struct, list, Schema}
use Rattle.capnp_model.specs.Readings.{Reading, inactive, null_pointer, list_of, record_as, Readings, no_readings, ◌▹◌, Extent, whole_words, just_bits, Children, no_children, only_child, shape_record, have_room, is_list_of, element_as, list_reading, plain_readings, read, read_child, pointer_elements, struct_elements}
use Rattle.capnp_model.specs.ActiveMembers.{element_of as reading_of}
use Rattle.capnp_model.proofs.lemmas.Numbers.{length-numbers_in}
use Rattle.capnp_wire.specs.Views.{ListView, element_as_struct, element_number}
use Rattle.capnp_wire.specs.Laws.{ShowsElement, ShowsElements, ShowsList}
use Rattle.capnp_model.proofs.lemmas.WordBits.{low_bits}
use Rattle.capnp_model.proofs.lemmas.Tests.{both_true}
use Rattle.capnp_values.specs.Shown.{element_shown}
use Rattle.capnp_values.specs.Standing.{IsExtent, HasSectionAndChildren, AreItems, null_as_empty, Answers, PointersAreRead, ElementsAreRead}
use Rattle.capnp_values.proofs.lemmas.FieldReadings.{plain_base, plain_type, number_read, pointer_read}

-- ---- numbers at the front of elements

front_bits : (a e w x : ℕ) → nat_le w e ≡ true → bits_at a w x ≡ bits_at 0 w (bits_at a e x)
front_bits a e w x h =
    let one : x / 2 ^ a % 2 ^ e / 2 ^ 0 ≡ x / 2 ^ a % 2 ^ e = omega arith in
    let within : w ≤ e = grind (arith, nat_tests) in
    sym (ap (λ (n : ℕ). n % 2 ^ w) one ∙ low_bits (x / 2 ^ a) w e within)

number_there : (a e w x section : ℕ) → bits_at a e x ≡ section → nat_le w e ≡ true → (if nat_le w e then bits_at a w x else 0) ≡ bits_at 0 w section
number_there a e w x section same h = ap (λ b. if b then bits_at a w x else 0) h ∙ front_bits a e w x h ∙ ap (bits_at 0 w) same

-- the widths of plain types
abbrev IsWidth : ℕ → Type 0
IsWidth w = (w ≡ 1) ⊎ (w ≡ 8) ⊎ (w ≡ 16) ⊎ (w ≡ 32) ⊎ (w ≡ 64)

-- elements with room for so many bits have them
room : (w bits k : ℕ) → IsWidth w → have_room bits k (size_of_width w) ≡ true → nat_le w bits ≡ true
room w bits k (inl e) = subst (λ w. have_room bits k (size_of_width w) ≡ true → nat_le w bits ≡ true) (sym e) (λ h. (both_true _ _ h).0)
room w bits k (inr (inl e)) = subst (λ w. have_room bits k (size_of_width w) ≡ true → nat_le w bits ≡ true) (sym e) (λ h. (both_true _ _ h).0)
room w bits k (inr (inr (inl e))) = subst (λ w. have_room bits k (size_of_width w) ≡ true → nat_le w bits ≡ true) (sym e) (λ h. (both_true _ _ h).0)
room w bits k (inr (inr (inr (inl e)))) = subst (λ w. have_room bits k (size_of_width w) ≡ true → nat_le w bits ≡ true) (sym e) (λ h. (both_true _ _ h).0)
room w bits k (inr (inr (inr (inr e)))) = subst (λ w. have_room bits k (size_of_width w) ≡ true → nat_le w bits ≡ true) (sym e) (λ h. (both_true _ _ h).0)

plain_room : (size w : ℕ) → IsWidth w → (if size == 1 then size_of_width w == 1 else have_room (size_bits size) 0 (size_of_width w)) ≡ true → nat_le w (size_bits size) ≡ true
plain_room size w wide = by (size == 1) refl
  where
    single : (v : ℕ) → IsWidth v → (size_of_width v == 1) ≡ true → v ≡ 1
    single v (inl e) h = e
    single v (inr (inl e)) h = let no : (size_of_width 8 == 1) ≡ true = ap (λ x. size_of_width x == 1) (sym e) ∙ h in absurd cc
    single v (inr (inr (inl e))) h = let no : (size_of_width 16 == 1) ≡ true = ap (λ x. size_of_width x == 1) (sym e) ∙ h in absurd cc
    single v (inr (inr (inr (inl e)))) h = let no : (size_of_width 32 == 1) ≡ true = ap (λ x. size_of_width x == 1) (sym e) ∙ h in absurd cc
    single v (inr (inr (inr (inr e)))) h = let no : (size_of_width 64 == 1) ≡ true = ap (λ x. size_of_width x == 1) (sym e) ∙ h in absurd cc

    by : (b : Bool) → (size == 1) ≡ b → (if b then size_of_width w == 1 else have_room (size_bits size) 0 (size_of_width w)) ≡ true → nat_le w (size_bits size) ≡ true
    by true f h =
        let one : size ≡ 1 = grind (arith, nat_tests) in
        ap (λ x. nat_le x (size_bits size)) (single w wide h) ∙ ap (λ x. nat_le 1 (size_bits x)) one
    by false f h = room w (size_bits size) 0 wide h

-- plain elements of the type have room in so many bits
abbrev HasRoom : Ty → ℕ → Type 0
HasRoom ty bits = (p : PlainType) → ty ≡ plain p → nat_le (width p) bits ≡ true

width_of : (ty : TypeRecord) (p : PlainType) → type_of ty ≡ plain p → IsWidth (width p)
width_of ty p is = plain_base ty.base p (plain_type ty.list_count ty.base p is)

accepted_as : (t : Tree) (ty : Ty) (p : PlainType) → ty ≡ plain p → is_list_of t ty ≡ true → is_list_of t (plain p) ≡ true
accepted_as t ty p is h = ap (is_list_of t) (sym is) ∙ h

plain_has_room : (ty : TypeRecord) (size n section : ℕ) → is_list_of (plain_list size n section) (type_of ty) ≡ true → HasRoom (type_of ty) (size_bits size)
plain_has_room ty size n section h p is = plain_room size (width p) (width_of ty p is) (accepted_as (plain_list size n section) (type_of ty) p is h)

pointers_have_room : (ty : TypeRecord) (ts : Trees) → is_list_of (pointer_list ts) (type_of ty) ≡ true → HasRoom (type_of ty) 0
pointers_have_room ty ts h p is = room (width p) 0 1 (width_of ty p is) (accepted_as (pointer_list ts) (type_of ty) p is h)

structs_have_room : (ty : TypeRecord) (words k : ℕ) (es : Elements) → is_list_of (struct_list words k es) (type_of ty) ≡ true → HasRoom (type_of ty) (64 * words)
structs_have_room ty words k es h p is = room (width p) (64 * words) k (width_of ty p is) (both_true _ _ (accepted_as (struct_list words k es) (type_of ty) p is h)).1

-- ---- what lists read as, by their indices

listed : (s : Schema) (ty : Ty) (b : Bool) (rs items : Readings) → null_as_empty s ty (list_reading b rs) ≡ list_of items → (b ≡ true) × (rs ≡ items)
listed s ty true rs items e = (refl, cc)
listed s ty false rs items e = absurd cc

plain_at : (s : Schema) (size : ℕ) (xs : List ℕ) (ty : Ty) (i : ℕ) → i < length xs → element_as s ty (just_bits size) (slice_index xs i) no_children ≡ reading_of i (plain_readings s size xs ty)
plain_at s size [] ty i h = absurd (omega arith)
plain_at s size (x ∷ xs) ty zero h = refl
plain_at s size (x ∷ xs) ty (suc i) h = plain_at s size xs ty i (omega arith)

pointer_at : (s : Schema) (ts : Trees) (ty : Ty) (i : ℕ) → i < tree_count ts → element_as s ty (just_bits 0) 0 (only_child (read s (child ts i))) ≡ reading_of i (pointer_elements s ts ty)
unfolding read
pointer_at s none ty i h = absurd (omega arith)
pointer_at s (t ▸ ts) ty zero h = refl
pointer_at s (t ▸ ts) ty (suc i) h = pointer_at s ts ty i (omega arith)

-- how many there are
unfoldable pub item_count : Readings → ℕ
item_count no_readings = 0
item_count (r ▹ rs) = suc (item_count rs)

past_items : (rs : Readings) (i : ℕ) → item_count rs ≤ i → reading_of i rs ≡ inactive
unfolding item_count
past_items no_readings i h = refl
past_items (r ▹ rs) zero h = absurd (omega arith)
past_items (r ▹ rs) (suc i) h = past_items rs i (omega arith)

plain_count : (s : Schema) (size : ℕ) (xs : List ℕ) (ty : Ty) → item_count (plain_readings s size xs ty) ≡ length xs
unfolding item_count
plain_count s size [] ty = refl
plain_count s size (x ∷ xs) ty = ap (λ (n : ℕ). suc n) (plain_count s size xs ty)

pointer_count : (s : Schema) (ts : Trees) (ty : Ty) → item_count (pointer_elements s ts ty) ≡ tree_count ts
unfolding read item_count
pointer_count s none ty = refl
pointer_count s (t ▸ ts) ty = ap (λ (n : ℕ). suc n) (pointer_count s ts ty)

struct_count : (s : Schema) (es : Elements) (ty : Ty) → item_count (struct_elements s es ty) ≡ element_count es
unfolding read item_count
struct_count s no_elements ty = refl
struct_count s (element section kids es) ty = ap (λ (n : ℕ). suc n) (struct_count s es ty)

one_child : (s : Schema) (t : Tree) (j : ℕ) (ty : Ty) → only_child (read s t) j ty ≡ read_child s (t ▸ none) j ty
unfolding read
one_child s t zero ty = refl
one_child s t (suc j) ty = refl

-- ---- one element

-- An element stands where a reading is.
pub record IsElement (n : ℕ) (l : ListView) (s : Schema) (ty : Ty) (i : ℕ) (r : Reading) : Type 0 where
  pub extent : Extent
  pub section : ℕ
  pub kids : Trees
  pub stands : HasSectionAndChildren n (element_as_struct l i) extent section kids
  pub number : (p : PlainType) → ty ≡ plain p → element_number l i (width p) ≡ bits_at 0 (width p) section
  pub is : r ≡ element_as s ty extent section (read_child s kids)

module _ (s : Schema) (n : ℕ) (l : ListView) (left : ℕ) (levels : l.levels ≡ Some left) (enough : n ≤ left) where
  element_stands : (ty : Ty) (i bits : ℕ) (e : Extent) (section : ℕ) (kids : Trees) (below : Children) → below ≡ read_child s kids → IsExtent e (element_as_struct l i) → HasRoom ty bits → ShowsElement (tree_at n l.basis.segments) (element_as_struct l i) bits section kids
      → IsElement n l s ty i (element_as s ty e section below)
  element_stands ty i bits e section kids below same extent roomy shows = record {
    extent = e;
    section = section;
    kids = kids;
    stands = record { extent = extent; same = shows.0; children = λ j. record { left = left; levels = levels; enough = enough; tree = shows.2 j } };
    number = λ p is. number_there _ (element_as_struct l i).bits (width p) l.section section shows.0 (ap (nat_le (width p)) shows.1 ∙ roomy p is);
    is = ap (element_as s ty e section) same;
  }

  -- ---- each kind of list

  plain_stands : (ty : Ty) (size section i : ℕ) → HasRoom ty (size_bits size) → ShowsElement (tree_at n l.basis.segments) (element_as_struct l i) (size_bits size) section none
      → IsElement n l s ty i (element_as s ty (just_bits (size_bits size)) section no_children)
  unfolding read
  plain_stands ty size section i roomy shows = element_stands ty i (size_bits size) (just_bits (size_bits size)) section none no_children (λ k j t. null_pointer) shows.1 roomy shows

  child_stands : (ty : Ty) (t : Tree) (i : ℕ) → HasRoom ty 0 → ShowsElement (tree_at n l.basis.segments) (element_as_struct l i) 0 0 (t ▸ none)
      → IsElement n l s ty i (element_as s ty (just_bits 0) 0 (only_child (read s t)))
  child_stands ty t i roomy shows = element_stands ty i 0 (just_bits 0) 0 (t ▸ none) (only_child (read s t)) (λ k j u. one_child s t j u k) shows.1 roomy shows

  struct_stands : (ty : Ty) (words section i : ℕ) (kids : Trees) → HasRoom ty (64 * words) → ShowsElement (tree_at n l.basis.segments) (element_as_struct l i) (64 * words) section kids
      → IsElement n l s ty i (element_as s ty whole_words section (read_child s kids))
  struct_stands ty words section i kids roomy shows =
      let bound : (element_as_struct l i).section < 2 ^ (element_as_struct l i).bits = mod-lt _ (pow_pos (element_as_struct l i).bits) in
      let inside : (element_as_struct l i).section < 2 ^ (64 * words) = subst (λ b. (element_as_struct l i).section < 2 ^ b) shows.1 bound in
      element_stands ty i (64 * words) whole_words section kids (read_child s kids) refl (words, shows.1, inside) roomy shows

  structs_stand : (ty : Ty) → HasRoom ty (64 * l.data_words) → (es : Elements) (k : ℕ) → ShowsElements (tree_at n l.basis.segments) l k es → (i j : ℕ) → j ≡ k + i → i < element_count es → IsElement n l s ty j (reading_of i (struct_elements s es ty))
  unfolding read
  structs_stand ty roomy no_elements k shows i j e h = absurd (omega arith)
  structs_stand ty roomy (element section kids es) k shows zero j e h =
      let at : j ≡ k = omega arith in
      let P : ℕ → Type 0 = λ x. IsElement n l s ty x (element_as s ty whole_words section (read_child s kids)) in
      subst P (sym at) (struct_stands ty l.data_words section k kids roomy shows.0)
  structs_stand ty roomy (element section kids es) k shows (suc i) j e h = structs_stand ty roomy es (suc k) shows.1 i j (omega arith) (omega arith)

-- ---- any list

-- The elements of a list stand where the items are, of which there are as many.
pub record AreElements (n : ℕ) (l : ListView) (s : Schema) (ty : Ty) (items : Readings) : Type 0 where
  pub count : item_count items ≡ l.count
  pub each : (i : ℕ) → i < l.count → IsElement n l s ty i (reading_of i items)

module _ (s : Schema) (ty : TypeRecord) (n : ℕ) (l : ListView) (items : Readings) (left : ℕ) (levels : l.levels ≡ Some left) (enough : n ≤ left) where
  tree_elements : (t : Tree) → ShowsList (tree_at n l.basis.segments) l t → null_as_empty s (list (type_of ty)) (read s t (list (type_of ty))) ≡ list_of items → AreElements n l s (type_of ty) items
  unfolding read item_count
  tree_elements null shows e =
      let empty : no_readings ≡ items = cc in
      subst (AreElements n l s (type_of ty)) empty (record { count = sym shows; each = λ i h. absurd (omega (arith, shows)) })
  tree_elements (capability c) shows e = absurd shows
  tree_elements (structure words section kids) shows e = absurd shows
  tree_elements (plain_list size count section) shows e =
      let xs = plain_elements size count section in
      let are = listed s (list (type_of ty)) (is_list_of (plain_list size count section) (type_of ty)) (plain_readings s (size_bits size) xs (type_of ty)) items e in
      let many : length xs ≡ count = length-numbers_in (size_bits size) count section in
      let counted : l.count ≡ count = shows.1 in
      subst (AreElements n l s (type_of ty)) are.1 (record {
        count = plain_count s (size_bits size) xs (type_of ty) ∙ many ∙ sym counted;
        each = λ i h. subst (IsElement n l s (type_of ty) i) (plain_at s (size_bits size) xs (type_of ty) i (omega arith))
            (plain_stands s n l left levels enough (type_of ty) size (slice_index xs i) i (plain_has_room ty size count section are.0) (shows.2 i (omega arith)));
      })
  tree_elements (pointer_list ts) shows e =
      let are = listed s (list (type_of ty)) (is_list_of (pointer_list ts) (type_of ty)) (pointer_elements s ts (type_of ty)) items e in
      let counted : l.count ≡ tree_count ts = shows.1 in
      subst (AreElements n l s (type_of ty)) are.1 (record {
        count = pointer_count s ts (type_of ty) ∙ sym counted;
        each = λ i h. subst (IsElement n l s (type_of ty) i) (pointer_at s ts (type_of ty) i (omega arith))
            (child_stands s n l left levels enough (type_of ty) (child ts i) i (pointers_have_room ty ts are.0) (shows.2 i (omega arith)));
      })
  tree_elements (struct_list words k es) shows e =
      let are = listed s (list (type_of ty)) (is_list_of (struct_list words k es) (type_of ty)) (struct_elements s es (type_of ty)) items e in
      let counted : l.count ≡ element_count es = shows.1 in
      let roomy : HasRoom (type_of ty) (64 * l.data_words) = subst (λ w. HasRoom (type_of ty) (64 * w)) (sym shows.2) (structs_have_room ty words k es are.0) in
      subst (AreElements n l s (type_of ty)) are.1 (record {
        count = struct_count s es (type_of ty) ∙ sym counted;
        each = λ i h. structs_stand s n l left levels enough (type_of ty) roomy es 0 shows.3 i i (omega arith) (omega arith);
      })

-- the elements of a list stand where they are read
pub elements_stand : (s : Schema) (ty : TypeRecord) (l : ListView) (r : Reading) (are : AreItems s (type_of ty) l r) → AreElements are.levels l s (type_of ty) are.items
elements_stand s ty l r are = tree_elements s ty are.levels l are.items are.lists.left are.lists.levels are.lists.enough are.tree are.lists.shows are.reads

-- ---- what they show

module _ (pointers : PointersAreRead) (s : Schema) (n : ℕ) (l : ListView) where
  element_read : (ty : Ty) (i : ℕ) (e : Extent) (section : ℕ) (kids : Trees) → HasSectionAndChildren n (element_as_struct l i) e section kids
      → ((p : PlainType) → ty ≡ plain p → element_number l i (width p) ≡ bits_at 0 (width p) section) → Answers s (element_shown s ty l i) (null_as_empty s ty (element_as s ty e section (read_child s kids)))
  element_read void i e section kids stands h = refl
  element_read (plain p) i e section kids stands h = number_read s p _ _ (h p refl)
  element_read (struct id) i e section kids stands h = (refl, record { levels = n; extent = e; section = section; kids = kids; stands = stands; is = refl })
  element_read text i e section kids stands h = pointer_read pointers n (element_as_struct l i) e section kids s stands 0 text tt
  element_read blob i e section kids stands h = pointer_read pointers n (element_as_struct l i) e section kids s stands 0 blob tt
  element_read untyped i e section kids stands h = pointer_read pointers n (element_as_struct l i) e section kids s stands 0 untyped tt
  element_read interface i e section kids stands h = pointer_read pointers n (element_as_struct l i) e section kids s stands 0 interface tt
  element_read (list ty) i e section kids stands h = pointer_read pointers n (element_as_struct l i) e section kids s stands 0 (list ty) tt

pub elements : PointersAreRead → ElementsAreRead
elements pointers s ty l r are i =
    let all = elements_stand s ty l r are in (
      (λ h. let x = all.each i h in
          subst (λ z. Answers s (element_shown s (type_of ty) l i) (null_as_empty s (type_of ty) z)) (sym x.is) (element_read pointers s are.levels l (type_of ty) i x.extent x.section x.kids x.stands x.number)),
      (λ h. past_items are.items i (omega (arith, all.count, h))),
    )
