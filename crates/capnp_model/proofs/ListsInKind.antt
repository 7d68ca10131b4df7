-- A change of one element of a list in kind, under the list's type.
use Rattle.std.proofs.Common.{◌≡◌, ℕ, max, ◌*◌, ◌^◌, ◌<◌, ◌≤◌, ◌==◌, Bool, true, false, nat_le, ◌&&◌, List, [], ◌∷◌, Option, refl, sym, ◌∙◌, ap, subst, arith}
use Rattle.std.specs.List.{AllByRecursion}
use Rattle.capnp_model.specs.Sections.{numbers_in, number_of}
use Rattle.capnp_model.specs.Trees.{Tree, null, capability, structure, plain_list, pointer_list, struct_list, Trees, none, Elements, resized, size_bits, size_of_width, plain_elements}
use Rattle.capnp_model.specs.Schemas.{PlainType, width, Ty, void, plain, text, blob, untyped, interface, struct, list, Shape, shape, Fields, Schema}
use Rattle.capnp_model.specs.Readings.{Reading, record_as, list_of, Readings, ◌▹◌, whole_words, just_bits, no_children, shape_record, expected_size, is_accepted_as, is_list_of, list_reading, plain_readings, read, read_child, pointer_elements, struct_elements}
use Rattle.capnp_model.specs.Steps.{Outcome, done, on_index}
use Rattle.capnp_model.specs.Edits.{Edit, as_list, elements_of_plain, widened_list, padded_elements, on_plain, on_pointers, on_elements, edit_list}
use Rattle.capnp_model.specs.InKind.{in_kind, child_in_kind, children_in_kind, elements_in_kind}
use Rattle.capnp_model.proofs.lemmas.Numbers.{numbers_in_lt}
use Rattle.capnp_model.proofs.CopiedFields.{quiet_shape, quiet_child}
use Rattle.capnp_model.proofs.lemmas.ListElements.{ChangesElement, HasRoom, IsPlain, IsPointed, IsReal, no_size, on_children, on_section, on_structs, padded_in_kind, padded_reads, room, w}
use Rattle.capnp_model.proofs.lemmas.Tests.{both, and_left, and_right}

-- ---- a list under its type

list_read : (b : Bool) (rs old : Readings) → list_reading b rs ≡ list_of old → (b ≡ true) × (rs ≡ old)
list_read true rs old h = (refl, cc h)
list_read false rs old h = absurd (cc h)

same_size : (n z : ℕ) → (n == z && true) ≡ true → z ≡ n
same_size n z h = same n z (and_left (n == z) true h)
  where
    same : (n z : ℕ) → (n == z) ≡ true → z ≡ n
    same n z h = grind arith

-- elements as wide as a word read as the structs that are made of them
abbrev pub ReadsStraight : Schema → ℕ → Type 0
ReadsStraight s id = (x p : ℕ) → x < 2 ^ 64 → shape_record (s.shape_of id) (just_bits 64) x no_children ≡ shape_record (s.shape_of id) whole_words x (read_child s (resized p none))

-- wide plain elements as structs
module _ (s : Schema) (id : ℕ) (straight : ReadsStraight s id) (p : ℕ) where
  straight_reads : (xs : List ℕ) → AllByRecursion (λ x. x < 2 ^ 64) xs → plain_readings s 64 xs (struct id) ≡ struct_elements s (elements_of_plain p xs) (struct id)
  unfolding read
  straight_reads [] h = refl
  straight_reads (x ∷ xs) h =
      ap (λ z. record_as z ▹ plain_readings s 64 xs (struct id)) (straight x p h.0)
      ∙ ap (λ z. record_as (shape_record (s.shape_of id) whole_words x (read_child s (resized p none))) ▹ z) (straight_reads xs h.1)

  straight_in_kind : (xs : List ℕ) → elements_in_kind s (elements_of_plain p xs) (struct id) ≡ true
  unfolding in_kind
  straight_in_kind [] = refl
  straight_in_kind (x ∷ xs) = both _ _ (quiet_shape (s.shape_of id) x (child_in_kind s (resized p none)) (quiet_child s p)) (straight_in_kind xs)

no_less : (n : ℕ) → nat_le 0 n ≡ true
no_less n = grind arith

structs_accepted : (id words pointers : ℕ) (es : Elements) → is_list_of (struct_list words pointers es) (struct id) ≡ true
structs_accepted id words pointers es = ap (λ z. z && nat_le 0 pointers) (no_less (64 * words)) ∙ no_less pointers

module _ (s : Schema) (R : ℕ → Type 0) (f : Reading → Outcome Reading) (change : ℕ → ℕ → Edit) where
  -- what the list owes after the change
  abbrev Changed : Ty → Tree → Readings → Type 0
  Changed ty t rs = (read s t (list ty) ≡ list_of rs) × (in_kind s t (list ty) ≡ true)

  plain_law : (ty : Ty) → IsPlain ty → IsReal R ty → ChangesElement s ty f change → (k z n section : ℕ) (old rs : Readings) → z ≡ expected_size ty
      → read s (plain_list z n section) (list ty) ≡ list_of old → in_kind s (plain_list z n section) (list ty) ≡ true → on_index f k old ≡ done rs → Changed ty (edit_list change k (plain_list z n section)) rs
  unfolding read in_kind
  plain_law ty is_plain real meets k z n section old rs size is kind h =
      let two = list_read (is_list_of (plain_list z n section) ty) (plain_readings s (size_bits z) (plain_elements z n section) ty) old is in
      let now : on_index f k (plain_readings s (size_bits (expected_size ty)) (numbers_in (size_bits (expected_size ty)) n section) ty) ≡ done rs =
      ap (λ y. on_index f k (plain_readings s (size_bits y) (numbers_in (size_bits y) n section) ty)) (sym size) ∙ ap (on_index f k) two.1 ∙ h in
      let now_reads = on_section s ty is_plain R real f change meets k n section rs now in (
        ap (λ b. list_reading b (plain_readings s (size_bits z) (numbers_in (size_bits z) n (number_of (size_bits z) (on_plain (change 1 0) k (numbers_in (size_bits z) n section)))) ty)) two.0
            ∙ ap (λ y. list_of (plain_readings s (size_bits y) (numbers_in (size_bits y) n (number_of (size_bits y) (on_plain (change 1 0) k (numbers_in (size_bits y) n section)))) ty)) size
            ∙ ap list_of now_reads,
        kind,
      )

  pointer_law : (ty : Ty) → IsPointed ty → ChangesElement s ty f change → (k : ℕ) (ts : Trees) (old rs : Readings)
      → read s (pointer_list ts) (list ty) ≡ list_of old → in_kind s (pointer_list ts) (list ty) ≡ true → on_index f k old ≡ done rs → Changed ty (edit_list change k (pointer_list ts)) rs
  unfolding read in_kind
  pointer_law ty pointed meets k ts old rs is kind h =
      let two = list_read (is_list_of (pointer_list ts) ty) (pointer_elements s ts ty) old is in
      let d = on_children s ty f change meets pointed k ts rs (and_right (expected_size ty == 6) (children_in_kind s ts ty) kind) (ap (on_index f k) two.1 ∙ h) in
      let same : is_list_of (pointer_list (on_pointers (change 0 1) k ts)) ty ≡ true = two.0 in (
        ap (λ b. list_reading b (pointer_elements s (on_pointers (change 0 1) k ts) ty)) same ∙ ap list_of d.0,
        both _ _ (and_left (expected_size ty == 6) (children_in_kind s ts ty) kind) d.1,
      )

  struct_law : (id : ℕ) → ChangesElement s (struct id) f change → (k words pointers : ℕ) (es : Elements) (rs : Readings) → HasRoom (s.shape_of id) words pointers
      → elements_in_kind s es (struct id) ≡ true → on_index f k (struct_elements s es (struct id)) ≡ done rs → Changed (struct id) (edit_list change k (struct_list words pointers es)) rs
  unfolding read in_kind
  struct_law id meets k words pointers es rs room kind h =
      let d = on_structs s (struct id) f change meets words pointers room k es rs kind h in
      (ap (λ b. list_reading b (struct_elements s (on_elements (change words pointers) k es) (struct id))) (structs_accepted id words pointers (on_elements (change words pointers) k es)) ∙ ap list_of d.0, d.1)

  widened_room : (nid w p : ℕ) (u : Option ℕ) (fs : Fields) (id a b : ℕ) → s.shape_of id ≡ shape nid w p u fs → w ≤ a → p ≤ b → HasRoom (s.shape_of id) a b
  widened_room nid w p u fs id a b e h k = subst (λ g. HasRoom g a b) (sym e) (h, k)

  struct_list_law : (id : ℕ) → ChangesElement s (struct id) f change → (k w p : ℕ) (es : Elements) (old rs : Readings)
      → read s (struct_list w p es) (list (struct id)) ≡ list_of old → in_kind s (struct_list w p es) (list (struct id)) ≡ true → on_index f k old ≡ done rs
      → (g : Shape) → s.shape_of id ≡ g → Changed (struct id) (edit_list change k (widened_list g (struct_list w p es))) rs
  unfolding read in_kind
  struct_list_law id meets k w p es old rs is kind h (shape nid words pointers u fs) e =
      let two = list_read (is_list_of (struct_list w p es) (struct id)) (struct_elements s es (struct id)) old is in
      struct_law id meets k (max words w) (max pointers p) (padded_elements pointers es) rs
      (widened_room nid words pointers u fs id (max words w) (max pointers p) e (omega arith) (omega arith))
      (padded_in_kind s (struct id) pointers es ∙ kind)
      (ap (on_index f k) (padded_reads s (struct id) pointers es ∙ two.1) ∙ h)

  wide_list_law : (id : ℕ) → ReadsStraight s id → ChangesElement s (struct id) f change → (k n section : ℕ) (old rs : Readings)
      → read s (plain_list 7 n section) (list (struct id)) ≡ list_of old → on_index f k old ≡ done rs
      → (g : Shape) → s.shape_of id ≡ g → Changed (struct id) (edit_list change k (widened_list g (plain_list 7 n section))) rs
  unfolding read in_kind
  wide_list_law id straight meets k n section old rs is h (shape nid words pointers u fs) e =
      let xs = numbers_in 64 n section in
      let two = list_read true (plain_readings s 64 xs (struct id)) old is in
      struct_law id meets k (max words 1) pointers (elements_of_plain pointers xs) rs
      (widened_room nid words pointers u fs id (max words 1) pointers e (omega arith) (omega arith))
      (straight_in_kind s id straight pointers xs)
      (ap (on_index f k) (sym (straight_reads s id straight pointers xs (numbers_in_lt 64 n section)) ∙ two.1) ∙ h)

  plain_no_kind : (p : PlainType) (z : ℕ) (b : Bool) → 5 < z → (expected_size (plain p) == z && b) ≡ true → ⊥
  plain_no_kind p z b h k = absurd (cc (and_left (size_of_width (width p) == z) b k, no_size (width p) z h))

  -- a list of pointers' size is none of plain elements
  no_plain : (ty : Ty) (z n section : ℕ) (old : Readings) → expected_size ty ≡ 6 → z ≡ 6 → read s (plain_list z n section) (list ty) ≡ list_of old → ⊥
  unfolding read
  no_plain ty z n section old e size h =
      let two = list_read (is_list_of (plain_list z n section) ty) (plain_readings s (size_bits z) (plain_elements z n section) ty) old h in
      let wrong : is_list_of (plain_list 6 n section) ty ≡ true = subst (λ y. is_list_of (plain_list y n section) ty ≡ true) size two.0 in
      let none' : is_accepted_as 6 (plain_list 6 n section) ≡ true = subst (λ y. is_accepted_as y (plain_list 6 n section) ≡ true) e wrong in
      cc none'

  pub list_law : (ty : Ty) → IsReal R ty → ((id : ℕ) → R id → ReadsStraight s id) → ChangesElement s ty f change → (k : ℕ) (t : Tree) (old rs : Readings) → read s t (list ty) ≡ list_of old → in_kind s t (list ty) ≡ true → on_index f k old ≡ done rs
      → Changed ty (edit_list change k (as_list s ty t)) rs
  unfolding read in_kind
  list_law ty real straight meets k null old rs is kind h = absurd (cc is)
  list_law ty real straight meets k (capability i) old rs is kind h = absurd (cc is)
  list_law ty real straight meets k (structure w n ts) old rs is kind h = absurd (cc is)
  list_law void real straight meets k (plain_list z n section) old rs is kind h = plain_law void tt real meets k z n section old rs (same_size 0 z kind) is kind h
  list_law (plain p) real straight meets k (plain_list z n section) old rs is kind h = plain_law (plain p) tt real meets k z n section old rs (same_size (size_of_width (width p)) z kind) is kind h
  list_law text real straight meets k (plain_list z n section) old rs is kind h = absurd (no_plain text z n section old refl (same_size 6 z kind) is)
  list_law blob real straight meets k (plain_list z n section) old rs is kind h = absurd (no_plain blob z n section old refl (same_size 6 z kind) is)
  list_law untyped real straight meets k (plain_list z n section) old rs is kind h = absurd (no_plain untyped z n section old refl (same_size 6 z kind) is)
  list_law interface real straight meets k (plain_list z n section) old rs is kind h = absurd (no_plain interface z n section old refl (same_size 6 z kind) is)
  list_law (list e) real straight meets k (plain_list z n section) old rs is kind h = absurd (no_plain (list e) z n section old refl (same_size 6 z kind) is)
  list_law (struct id) real straight meets k (plain_list z n section) old rs is kind h =
      let size : z ≡ 7 = same_size 7 z kind in
      subst (λ y. Changed (struct id) (edit_list change k (widened_list (s.shape_of id) (plain_list y n section))) rs) (sym size)
      (wide_list_law id (straight id real) meets k n section old rs (subst (λ y. read s (plain_list y n section) (list (struct id)) ≡ list_of old) size is) h (s.shape_of id) refl)
  list_law void real straight meets k (pointer_list ts) old rs is kind h = absurd (cc kind)
  list_law (plain p) real straight meets k (pointer_list ts) old rs is kind h = absurd (plain_no_kind p 6 (children_in_kind s ts (plain p)) (omega arith) kind)
  list_law (struct id) real straight meets k (pointer_list ts) old rs is kind h = absurd (cc kind)
  list_law text real straight meets k (pointer_list ts) old rs is kind h = pointer_law text tt meets k ts old rs is kind h
  list_law blob real straight meets k (pointer_list ts) old rs is kind h = pointer_law blob tt meets k ts old rs is kind h
  list_law untyped real straight meets k (pointer_list ts) old rs is kind h = pointer_law untyped tt meets k ts old rs is kind h
  list_law interface real straight meets k (pointer_list ts) old rs is kind h = pointer_law interface tt meets k ts old rs is kind h
  list_law (list e) real straight meets k (pointer_list ts) old rs is kind h = pointer_law (list e) tt meets k ts old rs is kind h
  list_law (plain p) real straight meets k (struct_list w q es) old rs is kind h = absurd (plain_no_kind p 7 (elements_in_kind s es (plain p)) (omega arith) kind)
  list_law (struct id) real straight meets k (struct_list w q es) old rs is kind h = struct_list_law id meets k w q es old rs is kind h (s.shape_of id) refl
  list_law void real straight meets k (struct_list w q es) old rs is kind h = absurd (cc kind)
  list_law _ real straight meets k (struct_list w q es) old rs is kind h = absurd (cc kind)
