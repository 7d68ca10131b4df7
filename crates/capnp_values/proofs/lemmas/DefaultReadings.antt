-- What defaults show in place of null pointers is what the model reads of them, and so of all fields.
use Rattle.std.proofs.Common.{◌≡◌, ℕ, zero, suc, ◌*◌, ◌/◌, ◌^◌, ◌<◌, ◌==◌, Bool, true, false, not, if◌then◌else◌, List, [], ◌∷◌, ◌++◌, length, take, drop, replicate, Option, Some, None, refl, ap, sym, ◌∙◌, subst, arith}
use Rattle.std.specs.Prelude.{slice_index, bit_xor, nat_lt}
use Rattle.std.specs.List.{flat_map, AllByRecursion}
use Rattle.std.specs.Simd.{first_chunks}
use Rattle.std.specs.Str.{bytes_eq}
use Rattle.std.proofs.lemmas.Slice.Eq.{bytes_eq-Decides}
use Rattle.std.proofs.lemmas.List.{length-append, length-drop, take-append-drop, take_at}
use Rattle.capnp_model.specs.Kinds.{TextWithoutZeroByte}
use Rattle.capnp_model.specs.Bytes.{bytes_of_words, words_in_bytes}
use Rattle.capnp_model.specs.Segments.{root}
use Rattle.capnp_model.specs.Trees.{Tree, null, Trees, child, is_null as is_null_tree, has_capability}
use Rattle.capnp_model.specs.Trimming.{trim}
use Rattle.capnp_model.specs.Traversal.{tree_at}
use Rattle.capnp_model.specs.Encoding.{canonical_words}
use Rattle.capnp_model.specs.Decoding.{decode}
use Rattle.capnp_model.specs.Calls.{text_tree, blob_tree}
use Rattle.capnp_model.specs.Schemas.{width, TypeRecord, type_of, Ty, void, plain, text, blob, untyped, interface, struct, list, Value, no_value, bits, text_bytes, blob_bytes, list_segment, struct_segment, untyped_value, interface_value, FieldKind, slot, group, Schema, default_or_null}
use Rattle.capnp_model.specs.Readings.{Reading, inactive, null_pointer, fault, number, text_of, blob_of, list_of, record_as, opaque, Extent, body_of, read, read_child, text_reading}
use Rattle.capnp_model.specs.Accepted.{default_bits, default_tree, slot_body, field_body, is_default_of, opens_as, is_good_segment}
use Rattle.capnp_model.proofs.lemmas.Chaining.{bind_some, provided_some}
use Rattle.capnp_model.proofs.lemmas.Numbers.{numbers_in-number_of}
use Rattle.capnp_model.proofs.lemmas.ByteWords.{bytes_length}
use Rattle.capnp_units.specs.Segments.{words_in}
use Rattle.capnp_wire.specs.Views.{PointerView, StructView, pointer_field}
use Rattle.capnp_wire.specs.Reads.{is_null_pointer, default_root}
use Rattle.capnp_model.proofs.lemmas.Paths.{read_child-is}
use Rattle.capnp_model.proofs.lemmas.Tests.{and_right}
use Rattle.capnp_values.specs.Sources.{null_default, default_pointer}
use Rattle.capnp_values.specs.GoodDefaults.{IsGoodDefault}
use Rattle.capnp_values.specs.Shown.{shown_behind, default_opened, slot_opened, slot_shown, kind_shown}
use Rattle.capnp_values.specs.Standing.{LeadsToValue, HasSectionAndChildren, null_as_empty, or_default, defaulted_field, HasGoodDefault, Answers, IsPointerType, PointersAreRead, FieldsAreRead}
use Rattle.capnp_values.specs.Records.{is_there}
use Rattle.capnp_values.proofs.lemmas.FieldReadings.{plain_base, plain_type, aligned_by, bits_shown, word_null, null_tree, null_behind, number_read, pointer_read}
use Rattle.capnp_values.proofs.lemmas.Nulls.{nulls}
use Rattle.capnp_values.proofs.lemmas.Presence.{there}

-- ---- texts and data

pub last_is : (bs : List ℕ) → slice_index (bs ++ 0 ∷ []) (length bs) ≡ 0
last_is [] = refl
last_is (b ∷ bs) = last_is bs

pub text_is : (bs : List ℕ) → text_reading (bs ++ 0 ∷ []) ≡ text_of bs
text_is [] = refl
text_is (b ∷ bs) =
    let whole : List ℕ = b ∷ (bs ++ 0 ∷ []) in
    let long : length (bs ++ 0 ∷ []) ≡ suc (length bs) = omega (arith, length-append bs (0 ∷ [])) in
    let cut : take (suc (length bs)) whole ≡ b ∷ bs = take_at (b ∷ bs) (0 ∷ []) (suc (length bs)) refl in
    ap (λ (k : ℕ). if slice_index whole k == 0 then text_of (take k whole) else fault TextWithoutZeroByte) long
    ∙ ap (λ (x : ℕ). if x == 0 then text_of (take (suc (length bs)) whole) else fault TextWithoutZeroByte) (last_is (b ∷ bs))
    ∙ ap text_of cut

pub with_zero : (bs : List ℕ) → AllByRecursion (λ b. b < 2 ^ 8) bs → AllByRecursion (λ b. b < 2 ^ 8) (bs ++ 0 ∷ [])
with_zero [] h = (omega arith, tt)
with_zero (b ∷ bs) h = (h.0, with_zero bs h.1)

text_default : (s : Schema) (bs : List ℕ) → AllByRecursion (λ b. b < 2 ^ 8) bs → null_as_empty s text (read s (text_tree bs) text) ≡ text_of bs
unfolding read
text_default s bs h = ap (λ xs. null_as_empty s text (text_reading xs)) (numbers_in-number_of 8 (bs ++ 0 ∷ []) (with_zero bs h)) ∙ ap (null_as_empty s text) (text_is bs)

blob_default : (s : Schema) (bs : List ℕ) → AllByRecursion (λ b. b < 2 ^ 8) bs → null_as_empty s blob (read s (blob_tree bs) blob) ≡ blob_of bs
unfolding read
blob_default s bs h = ap blob_of (numbers_in-number_of 8 bs h)

-- ---- structs and lists

pub found : (test : Tree → Bool) (o : Option Tree) → (elim o as (λ (x : Option Tree). Bool) [ None ↦ false | Some t ↦ test t ]) ≡ true → (t : Tree) × (o ≡ Some t)
found test None h = absurd cc
found test (Some t) h = (t, refl)

pub decoded : (test : Tree → Bool) (bs : List ℕ) → is_good_segment test bs ≡ true → (t : Tree) × (decode bs ≡ Some t)
decoded test bs h = found test (decode bs) (and_right (nat_lt (length bs) (8 * 2 ^ 29)) _ h)

-- the words of a default stand in one segment
pub record Encoded (bs : List ℕ) (t : Tree) : Type 0 where
  pub tree : tree_at 64 (words_in_bytes (length bs / 8) bs ∷ []) root ≡ Some t
  pub words : ℕ
  pub long : length bs ≡ 8 * words
  pub same : bytes_of_words (canonical_words (trim t)) ≡ bs

pub encoded : (bs : List ℕ) (t : Tree) → decode bs ≡ Some t → Encoded bs t
unfolding decode
encoded bs t e =
    let a = bind_some (tree_at 64 (words_in_bytes (length bs / 8) bs ∷ []) root) _ t e in
    let b = provided_some a.0 t _ a.2 in
    let ws : List ℕ = canonical_words (trim a.0) in
    let same : bytes_of_words ws ≡ bs = (bytes_eq-Decides (bytes_of_words ws) bs).0 (and_right (not (has_capability a.0)) (bytes_eq (bytes_of_words ws) bs) b.0) in
    record { tree = a.1 ∙ ap (λ (x : Tree). Some x) b.1; words = length ws; long = ap length (sym same) ∙ bytes_length ws; same = ap (λ (x : Tree). bytes_of_words (canonical_words (trim x))) (sym b.1) ∙ same }

pub joined : (n : ℕ) (bs : List ℕ) → length bs ≡ 8 * n → flat_map (λ w. w) (first_chunks 8 n bs) ≡ bs
joined zero [] h = refl
joined zero (b ∷ bs) h = absurd (omega arith)
joined (suc n) bs h =
    let less : length (drop 8 bs) ≡ 8 * n = omega (arith, length-drop 8 bs) in
    ap (λ (x : List ℕ). take 8 bs ++ x) (joined n (drop 8 bs) less) ∙ take-append-drop 8 bs

pub null_leads : LeadsToValue 64 null_default null
null_leads = record { left = 64; levels = refl; enough = omega arith; tree = null_tree 64 (words_in (replicate 8 0 ∷ [])) root (word_null (words_in (replicate 8 0 ∷ [])) root refl) }

module _ (bs : List ℕ) (t : Tree) (is : Encoded bs t) where
  default_words : PointerView
  default_words = default_root (first_chunks 8 (length bs / 8) bs) (Some 64)

  same_words : flat_map (λ w. w) (first_chunks 8 (length bs / 8) bs) ≡ bs
  same_words =
      let eighth : length bs / 8 ≡ is.words = omega (arith, is.long) in
      ap (λ (k : ℕ). flat_map (λ w. w) (first_chunks 8 k bs)) eighth ∙ joined is.words bs is.long

  words_lead : LeadsToValue 64 default_words t
  unfolding default_words
  words_lead = record { left = 64; levels = refl; enough = omega arith; tree = ap (λ (x : List ℕ). tree_at 64 (words_in (x ∷ [])) root) same_words ∙ is.tree }

  -- a default's pointer leads to its value, with 64 levels
  default_leads : LeadsToValue 64 (default_pointer bs) t
  unfolding default_words
  default_leads = by (is_null_pointer default_words) refl
    where
      by : (b : Bool) → is_null_pointer default_words ≡ b → LeadsToValue 64 (if b then null_default else default_words) t
      by true e = let none : t ≡ null = null_behind 64 default_words t words_lead e in subst (LeadsToValue 64 null_default) (sym none) null_leads
      by false e = words_lead

-- ---- each default

module _ (pointers : PointersAreRead) (s : Schema) where
  pub segment_read : (test : Tree → Bool) (ty : Ty) (bs : List ℕ) → IsPointerType ty → is_good_segment test bs ≡ true → Answers s (shown_behind s ty (default_pointer bs)) (null_as_empty s ty (read s (default_or_null (decode bs)) ty))
  segment_read test ty bs pointer good =
      let d = decoded test bs good in
      let P : Option Tree → Type 0 = λ o. Answers s (shown_behind s ty (default_pointer bs)) (null_as_empty s ty (read s (default_or_null o) ty)) in
      subst P (sym d.1) (pointers 64 (default_pointer bs) d.0 s ty pointer (default_leads bs d.0 (encoded bs d.0 d.1)))

  default_read : (ty : Ty) (p : PointerView) (d : Value) → IsPointerType ty → IsGoodDefault ty (Some d) → Answers s (default_opened s ty p d) (null_as_empty s ty (read s (default_or_null (default_tree (Some d))) ty))
  default_read void p d pointer good = absurd pointer
  default_read (plain q) p d pointer good = absurd pointer
  default_read text p (text_bytes bs) pointer good = text_default s bs good.2
  default_read text p no_value pointer good = absurd (cc (good.0))
  default_read text p (bits q n) pointer good = absurd (cc (good.0))
  default_read text p (blob_bytes bs) pointer good = absurd (cc (good.0))
  default_read text p (list_segment bs) pointer good = absurd (cc (good.0))
  default_read text p (struct_segment bs) pointer good = absurd (cc (good.0))
  default_read text p untyped_value pointer good = absurd (cc (good.0))
  default_read text p interface_value pointer good = absurd (cc (good.0))
  default_read blob p (blob_bytes bs) pointer good = blob_default s bs good.2
  default_read blob p no_value pointer good = absurd (cc (good.0))
  default_read blob p (bits q n) pointer good = absurd (cc (good.0))
  default_read blob p (text_bytes bs) pointer good = absurd (cc (good.0))
  default_read blob p (list_segment bs) pointer good = absurd (cc (good.0))
  default_read blob p (struct_segment bs) pointer good = absurd (cc (good.0))
  default_read blob p untyped_value pointer good = absurd (cc (good.0))
  default_read blob p interface_value pointer good = absurd (cc (good.0))
  default_read untyped p d pointer good = absurd (untyped_has_none d good.0)
    where
      untyped_has_none : (d : Value) → is_default_of untyped (Some d) ≡ true → ⊥
      untyped_has_none no_value h = absurd (cc h)
      untyped_has_none (bits q n) h = absurd (cc h)
      untyped_has_none (text_bytes bs) h = absurd (cc h)
      untyped_has_none (blob_bytes bs) h = absurd (cc h)
      untyped_has_none (list_segment bs) h = absurd (cc h)
      untyped_has_none (struct_segment bs) h = absurd (cc h)
      untyped_has_none untyped_value h = absurd (cc h)
      untyped_has_none interface_value h = absurd (cc h)
  default_read interface p d pointer good = absurd (interface_has_none d good.0)
    where
      interface_has_none : (d : Value) → is_default_of interface (Some d) ≡ true → ⊥
      interface_has_none no_value h = absurd (cc h)
      interface_has_none (bits q n) h = absurd (cc h)
      interface_has_none (text_bytes bs) h = absurd (cc h)
      interface_has_none (blob_bytes bs) h = absurd (cc h)
      interface_has_none (list_segment bs) h = absurd (cc h)
      interface_has_none (struct_segment bs) h = absurd (cc h)
      interface_has_none untyped_value h = absurd (cc h)
      interface_has_none interface_value h = absurd (cc h)
  default_read (struct id) p (struct_segment bs) pointer good = segment_read (λ t. opens_as t (struct id)) (struct id) bs tt good.1
  default_read (struct id) p no_value pointer good = absurd (cc (good.0))
  default_read (struct id) p (bits q n) pointer good = absurd (cc (good.0))
  default_read (struct id) p (text_bytes bs) pointer good = absurd (cc (good.0))
  default_read (struct id) p (blob_bytes bs) pointer good = absurd (cc (good.0))
  default_read (struct id) p (list_segment bs) pointer good = absurd (cc (good.0))
  default_read (struct id) p untyped_value pointer good = absurd (cc (good.0))
  default_read (struct id) p interface_value pointer good = absurd (cc (good.0))
  default_read (list ty) p (list_segment bs) pointer good = segment_read (λ t. opens_as t (list ty)) (list ty) bs tt good.1
  default_read (list ty) p no_value pointer good = absurd (cc (good.0))
  default_read (list ty) p (bits q n) pointer good = absurd (cc (good.0))
  default_read (list ty) p (text_bytes bs) pointer good = absurd (cc (good.0))
  default_read (list ty) p (blob_bytes bs) pointer good = absurd (cc (good.0))
  default_read (list ty) p (struct_segment bs) pointer good = absurd (cc (good.0))
  default_read (list ty) p untyped_value pointer good = absurd (cc (good.0))
  default_read (list ty) p interface_value pointer good = absurd (cc (good.0))

-- ---- readings that aren't null

module _ (s : Schema) where
  no_default : (ty : Ty) (r : Reading) → or_default s ty null r ≡ null_as_empty s ty r
  unfolding read
  no_default ty inactive = refl
  no_default ty null_pointer = refl
  no_default ty (fault kind) = refl
  no_default ty (number n) = refl
  no_default ty (text_of bytes) = refl
  no_default ty (blob_of bytes) = refl
  no_default ty (list_of rs) = refl
  no_default ty (record_as r) = refl
  no_default ty (opaque t) = refl

  -- what is there is read without its default
  stays : (ty : Ty) (d : Tree) (r : Reading) → is_there r ≡ true → or_default s ty d r ≡ null_as_empty s ty r
  stays ty d inactive h = absurd cc
  stays ty d null_pointer h = absurd cc
  stays ty d (fault kind) h = refl
  stays ty d (number n) h = refl
  stays ty d (text_of bytes) h = refl
  stays ty d (blob_of bytes) h = refl
  stays ty d (list_of rs) h = refl
  stays ty d (record_as r) h = refl
  stays ty d (opaque t) h = refl

  null_read : (ty : Ty) (d t : Tree) → t ≡ null → or_default s ty d (read s t ty) ≡ null_as_empty s ty (read s d ty)
  unfolding read
  null_read ty d t is = ap (λ u. or_default s ty d (read s u ty)) is

-- ---- slots

module _ (pointers : PointersAreRead) (n : ℕ) (v : StructView) (e : Extent) (section : ℕ) (kids : Trees) (s : Schema) (stands : HasSectionAndChildren n v e section kids) where
  slot_read : (i : ℕ) (ty : Ty) (d : Option Value) → IsPointerType ty → (child kids i ≡ null → IsGoodDefault ty d) → Answers s (slot_opened s ty d (pointer_field v i)) (or_default s ty (default_or_null (default_tree d)) (read_child s kids i ty))
  slot_read i ty None pointer h =
      let P : Reading → Type 0 = λ r. Answers s (shown_behind s ty (pointer_field v i)) r in
      subst P (sym (no_default s ty (read_child s kids i ty))) (pointer_read pointers n v e section kids s stands i ty pointer)
  slot_read i ty (Some d) pointer h = by (is_null_pointer (pointer_field v i)) refl
    where
      to : Tree
      to = default_or_null (default_tree (Some d))

      by : (b : Bool) → is_null_pointer (pointer_field v i) ≡ b → Answers s (if b then default_opened s ty (pointer_field v i) d else shown_behind s ty (pointer_field v i)) (or_default s ty to (read_child s kids i ty))
      by true f =
          let none : child kids i ≡ null = null_behind n (pointer_field v i) (child kids i) (stands.children i) f in
          let same : or_default s ty to (read_child s kids i ty) ≡ null_as_empty s ty (read s to ty) = ap (or_default s ty to) (read_child-is s kids i ty) ∙ null_read s ty to (child kids i) none in
          let P : Reading → Type 0 = λ r. Answers s (default_opened s ty (pointer_field v i) d) r in
          subst P (sym same) (default_read pointers s ty (pointer_field v i) d pointer (h none))
      by false f =
          let some : is_null_tree (child kids i) ≡ false = sym (nulls n (pointer_field v i) (child kids i) (stands.children i)) ∙ f in
          let same : or_default s ty to (read_child s kids i ty) ≡ null_as_empty s ty (read_child s kids i ty) = ap (or_default s ty to) (read_child-is s kids i ty) ∙ stays s ty to (read s (child kids i) ty) (there s ty (child kids i) some) ∙ ap (null_as_empty s ty) (sym (read_child-is s kids i ty)) in
          let P : Reading → Type 0 = λ r. Answers s (shown_behind s ty (pointer_field v i)) r in
          subst P (sym same) (pointer_read pointers n v e section kids s stands i ty pointer)

  slot_type_read : (o : ℕ) (ty : TypeRecord) (d : Option Value) (t : Ty) → type_of ty ≡ t → (child kids o ≡ null → IsGoodDefault t d) → Answers s (slot_shown s v o t d) (defaulted_field s (slot_body o t d) (body_of (slot_body o t d) e section (read_child s kids)))
  unfolding body_of
  slot_type_read o ty d void is h = refl
  slot_type_read o ty d (plain p) is h =
      number_read s p _ _ (ap (λ x. bit_xor x (default_bits d)) (bits_shown v e section (width p) o stands.extent stands.same (aligned_by (width p) (plain_base ty.base p (plain_type ty.list_count ty.base p is)))))
  slot_type_read o ty d text is h = slot_read o text d tt h
  slot_type_read o ty d blob is h = slot_read o blob d tt h
  slot_type_read o ty d untyped is h = slot_read o untyped d tt h
  slot_type_read o ty d interface is h = slot_read o interface d tt h
  slot_type_read o ty d (struct id) is h = slot_read o (struct id) d tt h
  slot_type_read o ty d (list t) is h = slot_read o (list t) d tt h

  field_read : (k : FieldKind) → HasGoodDefault kids k → Answers s (kind_shown s v k) (defaulted_field s (field_body s.shape_of k) (body_of (field_body s.shape_of k) e section (read_child s kids)))
  unfolding body_of
  field_read (slot o ty d) h = slot_type_read o ty d (type_of ty) refl h
  field_read (group id) h = (refl, record { levels = n; extent = e; section = section; kids = kids; stands = stands; is = refl })

pub fields : PointersAreRead → FieldsAreRead
fields pointers n v e section kids s k stands h = field_read pointers n v e section kids s stands k h
