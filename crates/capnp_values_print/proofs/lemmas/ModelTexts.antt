-- What is shown prints as the model prints what it reads.
use Rattle.std.proofs.Common.{◌≡◌, ℕ, zero, suc, ◌==◌, Bool, true, false, if◌then◌else◌, Option, Some, None, option_map, List, [], ◌∷◌, ◌++◌, length, take, Result, Ok, Err, inl, inr, refl, ap, sym, ◌∙◌, subst}
use Rattle.std.specs.Prelude.{slice_index, codes}
use Rattle.capnp_model.specs.Kinds.{Kind, NestingLimitExceeded, WrongElementSize, TextWithoutZeroByte}
use Rattle.capnp_model.specs.Trees.{Tree, null, capability, structure, plain_list, pointer_list, struct_list, plain_elements, is_null}
use Rattle.capnp_model.specs.Trimming.{trim}
use Rattle.capnp_model.specs.Encoding.{canonical_words}
use Rattle.capnp_model.specs.Bytes.{bytes_of_words}
use Rattle.capnp_model.specs.Decoding.{decode}
use Rattle.capnp_model.specs.Schemas.{Ty, void, plain, text, blob, untyped, interface, struct, list, Shape, shape, Fields, no_fields, field, Body, void_slot, plain_slot, pointer_slot, group_slot, Schema, Node, default_or_null}
use Rattle.capnp_model.specs.Readings.{Reading, inactive, null_pointer, fault, number, text_of, blob_of, list_of, record_as, opaque, Readings, no_readings, ◌▹◌, Record, no_more, entry, read, text_reading}
use Rattle.capnp_model.specs.Printing.{Style, inner, As, as_type, as_group, as_body, type_of_as, default_of_as, element_type, shape_as, is_shown, Nulls, print, print_items, print_fields, empty_text, nulls_as, as_it_is}
use Rattle.capnp_model.specs.Accepted.{is_good_segment, schema_of, IsAccepted}
use Rattle.capnp_wire.specs.Reads.{read_struct, read_list}
use Rattle.capnp_values.specs.ListSizes.{size_of}
use Rattle.capnp_values.specs.Sources.{default_pointer}
use Rattle.capnp_values.specs.Shown.{Shown, a_number, an_enum, a_text, a_blob, a_struct, a_list, a_pointer, a_capability, shown_behind}
use Rattle.capnp_values.specs.Standing.{IsPointerType, IsReading, IsRecord, Answers, null_as_empty, PointersAreRead}
use Rattle.capnp_values.proofs.lemmas.DefaultReadings.{segment_read, encoded}
use Rattle.capnp_values.proofs.lemmas.Presence.{there}
use Rattle.capnp_values_print.specs.ShownReadings.{reading_of}
use Rattle.capnp_values_print.specs.Printed.{Text, NullTexts, text_if_any, field_and_rest, item_mark, printed, items_printed, fields_printed, empty_printed, no_schema, schema_shown, as_shown, bytes_shown, default_shown, text_shown, null_printed, shown_text}
use Rattle.capnp_values_print.specs.Models.{unopened, unopened_each, unopened_fields, IsOfNodes, TextsAreModels}
use Rattle.capnp_values_print.proofs.lemmas.Children.{within}
use Rattle.capnp_values_print.proofs.lemmas.Models.{marked, list_is, struct_is, item_is, field_is, no_fields_shown, printed_print}
use Rattle.capnp_values_print.proofs.lemmas.SoundShapes.{IsNamed, IsDefault, no_default_is, SoundShape, SoundFields, SoundBody, shapes_sound}
use Rattle.capnp_values_print.proofs.WholeReadings.{Sound, element_named, behind, there_is, read_whole, of_nodes, wholes}

-- ---- readings that are unopened

shown_same : (m : Option ℕ) (r : Reading) → is_shown m (unopened r) ≡ is_shown m r
shown_same None inactive = refl
shown_same None null_pointer = refl
shown_same None (fault kind) = refl
shown_same None (number n) = refl
shown_same None (text_of bytes) = refl
shown_same None (blob_of bytes) = refl
shown_same None (list_of rs) = refl
shown_same None (record_as r) = refl
shown_same None (opaque t) = refl
shown_same (Some zero) inactive = refl
shown_same (Some zero) null_pointer = refl
shown_same (Some zero) (fault kind) = refl
shown_same (Some zero) (number n) = refl
shown_same (Some zero) (text_of bytes) = refl
shown_same (Some zero) (blob_of bytes) = refl
shown_same (Some zero) (list_of rs) = refl
shown_same (Some zero) (record_as r) = refl
shown_same (Some zero) (opaque t) = refl
shown_same (Some (suc m)) inactive = refl
shown_same (Some (suc m)) null_pointer = refl
shown_same (Some (suc m)) (fault kind) = refl
shown_same (Some (suc m)) (number n) = refl
shown_same (Some (suc m)) (text_of bytes) = refl
shown_same (Some (suc m)) (blob_of bytes) = refl
shown_same (Some (suc m)) (list_of rs) = refl
shown_same (Some (suc m)) (record_as r) = refl
shown_same (Some (suc m)) (opaque t) = refl

-- How a reading is understood: with a default that may stand there, or by a sound shape.
abbrev pub SoundAs : As → Type 0
SoundAs (as_type ty d) = IsDefault ty d
SoundAs (as_group g) = SoundShape g

null_as : (how : As) → SoundAs how → IsDefault (type_of_as how) (default_of_as how)
null_as (as_type ty d) h = h
null_as (as_group g) h = refl

pub fields_of_shape : (g : Shape) → SoundShape g → SoundFields (shape_as no_schema (as_group g))
fields_of_shape (shape nid w p u fs) h = h.1

pub body_as : (b : Body) → SoundBody b → SoundAs (as_body b)
body_as (void_slot j) h = refl
body_as (plain_slot p at d) h = refl
body_as (pointer_slot i ty d) h = h.2
body_as (group_slot g) h = h

module _ (s : Schema) (sound : (id : ℕ) → SoundShape (s.shape_of id)) where
  fields_as : (how : As) → SoundAs how → SoundFields (shape_as s how)
  fields_as (as_group g) h = fields_of_shape g h
  fields_as (as_type (struct id) d) h = fields_of_shape (s.shape_of id) (sound id)
  fields_as (as_type void d) h = tt
  fields_as (as_type (plain p) d) h = tt
  fields_as (as_type text d) h = tt
  fields_as (as_type blob d) h = tt
  fields_as (as_type untyped d) h = tt
  fields_as (as_type interface d) h = tt
  fields_as (as_type (list ty) d) h = tt

  module _ (quoted : List ℕ → List ℕ) (nulls' : NullTexts) (nulls : Nulls) (same : (style : Style) (ty : Ty) (d : Tree) → IsDefault ty d → text_if_any (nulls' style ty d) ≡ nulls style ty d) where
    mutual
      unfolding printed print

      printed_model : (style : Style) (how : As) (r : Reading) → SoundAs how → text_if_any (printed s quoted nulls' style how (unopened r)) ≡ print s quoted nulls style how r
      printed_model style how inactive h = refl
      printed_model style how null_pointer h = same style _ _ (null_as how h)
      printed_model style how (fault kind) h = refl
      printed_model style how (number n) h = refl
      printed_model style how (text_of bytes) h = refl
      printed_model style how (blob_of bytes) h = refl
      printed_model style how (list_of no_readings) h = refl
      printed_model style how (list_of (r ▹ rs)) h =
          let how' = as_type (element_type (type_of_as how)) null in
          list_is style (unopened r) (unopened_each rs) _ (print s quoted nulls (inner style) how' r) (print_items s quoted nulls (inner style) how' rs) (items_model style how' true (r ▹ rs) (no_default_is (element_type (type_of_as how))))
      printed_model style how (record_as r) h =
          struct_is style (shape_as s how) _ (print_fields s quoted nulls (inner style) (shape_as s how) r) (fields_model style true (shape_as s how) r (fields_as how h)) (no_fields_shown s quoted nulls (inner style) (shape_as s how) r)
      printed_model style how (opaque t) h = refl

      items_model : (style : Style) (how : As) (first : Bool) (rs : Readings) → SoundAs how → text_if_any (items_printed s quoted nulls' style how first (unopened_each rs)) ≡ option_map (marked style first) (print_items s quoted nulls (inner style) how rs)
      items_model style how first no_readings h = refl
      items_model style how first (r ▹ rs) h = item_is style first _ _ _ _ (printed_model (inner style) how r h) (items_model style how false rs h)

      fields_model : (style : Style) (first : Bool) (fs : Fields) (r : Record) → SoundFields fs → text_if_any (fields_printed s quoted nulls' style first fs (unopened_fields r)) ≡ option_map (marked style first) (print_fields s quoted nulls (inner style) fs r)
      fields_model style first no_fields r h = refl
      fields_model style first (field n m b fs) no_more h = refl
      fields_model style first (field n m b fs) (entry k r rest) h =
          ap (λ c. text_if_any (field_and_rest c (item_mark style first ++ n ++ codes " = ") (printed s quoted nulls' (inner style) (as_body b) (unopened r)) (λ d. fields_printed s quoted nulls' style d fs (unopened_fields rest)) first)) (shown_same m r)
          ∙ field_is style first (is_shown m r) n _ _ _ _ (printed_model (inner style) (as_body b) r (body_as b h.0)) (λ c. fields_model style c fs rest h.1)

-- ---- defaults

-- A text or data, or a fault.
abbrev IsBytes : Reading → Type 0
IsBytes (text_of bytes) = Unit {0}
IsBytes (blob_of bytes) = Unit {0}
IsBytes (fault kind) = Unit {0}
IsBytes _ = ⊥

if_bytes : (b : Bool) (x y : Reading) → IsBytes x → IsBytes y → IsBytes (if b then x else y)
if_bytes true x y h k = h
if_bytes false x y h k = k

text_bytes_read : (xs : List ℕ) → IsBytes (text_reading xs)
text_bytes_read [] = tt
text_bytes_read (b ∷ bs) = if_bytes (slice_index (b ∷ bs) (length bs) == 0) (text_of (take (length bs) (b ∷ bs))) (fault TextWithoutZeroByte) tt tt

text_bytes : (s : Schema) (d : Tree) → is_null d ≡ false → IsBytes (read s d text)
unfolding read
text_bytes s null h = absurd cc
text_bytes s (capability i) h = tt
text_bytes s (structure w n ts) h = tt
text_bytes s (plain_list size n section) h = if_bytes (size == 2) (text_reading (plain_elements size n section)) (fault WrongElementSize) (text_bytes_read (plain_elements size n section)) tt
text_bytes s (pointer_list ts) h = tt
text_bytes s (struct_list w k es) h = tt

blob_bytes : (s : Schema) (d : Tree) → is_null d ≡ false → IsBytes (read s d blob)
unfolding read
blob_bytes s null h = absurd cc
blob_bytes s (capability i) h = tt
blob_bytes s (structure w n ts) h = tt
blob_bytes s (plain_list size n section) h = if_bytes (size == 2) (blob_of (plain_elements size n section)) (fault WrongElementSize) tt tt
blob_bytes s (pointer_list ts) h = tt
blob_bytes s (struct_list w k es) h = tt

empty_model : (s : Schema) (style : Style) (ty : Ty) → text_if_any (empty_printed s as_it_is style ty) ≡ empty_text s as_it_is style ty
empty_model s style text = refl
empty_model s style blob = refl
empty_model s style (list ty) = refl
empty_model s style (struct id) = printed_print s as_it_is (λ st ty d. Err NestingLimitExceeded) (λ st ty d. None) (λ st ty d. refl) style (as_type (struct id) null) _
empty_model s style void = refl
empty_model s style (plain p) = refl
empty_model s style untyped = refl
empty_model s style interface = refl

is_not_null : (d : Tree) → d ≡ null → is_null d ≡ false → ⊥
is_not_null d e h = let no : true ≡ false = sym (ap is_null e) ∙ h in absurd cc

module _ (pointers : PointersAreRead) (s : Schema) (sound : (id : ℕ) → SoundShape (s.shape_of id)) where
  -- The nulls of a number of defaults that may be entered are those of the model.
  abbrev NullsAre : ℕ → Type 0
  NullsAre left = (style : Style) (ty : Ty) (d : Tree) → IsDefault ty d → text_if_any (null_printed s as_it_is left style ty d) ≡ nulls_as s as_it_is left style ty d

  module _ (left : ℕ) (nulls : NullsAre left) (style : Style) where
    -- What a default shows prints as what it reads as.
    abbrev PrintsDefault : Ty → Reading → Result Shown Kind → Type 0
    PrintsDefault ty r o = text_if_any (text_shown (λ around. null_printed around as_it_is left) as_it_is style o) ≡ print s as_it_is (nulls_as s as_it_is left) style (as_type ty null) r

    bytes_model : (ty : Ty) (r : Reading) → IsBytes r → PrintsDefault ty r (bytes_shown r)
    unfolding printed print
    bytes_model ty (text_of bytes) h = ap (λ z. text_if_any (printed no_schema as_it_is (null_printed no_schema as_it_is left) style (as_type text null) z)) (within 0 (a_text bytes))
    bytes_model ty (blob_of bytes) h = ap (λ z. text_if_any (printed no_schema as_it_is (null_printed no_schema as_it_is left) style (as_type blob null) z)) (within 0 (a_blob bytes))
    bytes_model ty (fault kind) h = refl
    bytes_model ty inactive h = absurd h
    bytes_model ty null_pointer h = absurd h
    bytes_model ty (number n) h = absurd h
    bytes_model ty (list_of rs) h = absurd h
    bytes_model ty (record_as r) h = absurd h
    bytes_model ty (opaque t) h = absurd h

    shown_model : (how : As) (x : Shown) (r : Reading) → SoundAs how → Sound x → IsReading s x r → text_if_any (printed s as_it_is (null_printed s as_it_is left) style how (reading_of x)) ≡ print s as_it_is (nulls_as s as_it_is left) style how r
    shown_model how x r h shaped is =
        ap (λ z. text_if_any (printed s as_it_is (null_printed s as_it_is left) style how z)) (read_whole pointers s sound x r shaped is)
        ∙ printed_model s sound as_it_is (null_printed s as_it_is left) (nulls_as s as_it_is left) nulls style how r h

    -- a struct or a list, by its own type
    struct_model : (id : ℕ) (r : Reading) (o : Result Shown Kind) (bs : List ℕ) → shown_behind s (struct id) (default_pointer bs) ≡ o → Answers s o r → PrintsDefault (struct id) r o
    unfolding print
    struct_model id r (Err kind) bs e h = sym (ap (print s as_it_is (nulls_as s as_it_is left) style (as_type (struct id) null)) h)
    struct_model id r (Ok x) bs e h =
        let p = default_pointer bs in
        let a = behind p (read_struct p.basis p.levels) (a_struct s (s.shape_of id)) x e in
        let g = s.shape_of id in
        let y = a_struct s g a.0 in
        let is : IsReading s y r = subst (λ z. IsReading s z r) (sym a.3) h in
        let rec : IsRecord s g a.0 r = is.1 in
        let P : Reading → Type 0 = λ z. print s as_it_is (nulls_as s as_it_is left) style (as_group g) z ≡ print s as_it_is (nulls_as s as_it_is left) style (as_type (struct id) null) z in
        subst (λ z. PrintsDefault (struct id) r (Ok z)) a.3
        (shown_model (as_group g) y r (sound id) (sound id) is ∙ subst P (sym rec.is) refl)

    list_model : (ty : Ty) (r : Reading) (o : Result Shown Kind) (bs : List ℕ) → IsNamed ty → shown_behind s (list ty) (default_pointer bs) ≡ o → Answers s o r → PrintsDefault (list ty) r o
    unfolding print
    list_model ty r (Err kind) bs named e h = sym (ap (print s as_it_is (nulls_as s as_it_is left) style (as_type (list ty) null)) h)
    list_model ty r (Ok x) bs named e h =
        let p = default_pointer bs in
        let a = behind p (read_list p.basis p.levels (size_of ty)) (a_list s ty) x e in
        let y = a_list s ty a.0 in
        subst (λ z. PrintsDefault (list ty) r (Ok z)) a.3
        (shown_model (as_type (list ty) null) y r (inl refl) named (subst (λ z. IsReading s z r) (sym a.3) h))

    segment_answers : (ty : Ty) (d : Tree) (test : Tree → Bool) (bs : List ℕ) → IsPointerType ty → is_good_segment test bs ≡ true → decode bs ≡ Some d → is_null d ≡ false → Answers s (shown_behind s ty (default_pointer bs)) (read s d ty)
    segment_answers ty d test bs pointer good e some =
        let P : Option Tree → Type 0 = λ o. Answers s (shown_behind s ty (default_pointer bs)) (null_as_empty s ty (read s (default_or_null o) ty)) in
        subst (Answers s (shown_behind s ty (default_pointer bs))) (there_is s ty (read s d ty) (there s ty d some)) (subst P e (segment_read pointers s test ty bs pointer good))

    segment_same : (bs : List ℕ) (d : Tree) → decode bs ≡ Some d → bytes_of_words (canonical_words (trim d)) ≡ bs
    segment_same bs d e = (encoded bs d e).same

    -- a default that isn't null
    default_model : (ty : Ty) (d : Tree) → IsDefault ty d → is_null d ≡ false → PrintsDefault ty (read s d ty) (default_shown s ty d)
    default_model void d h some = absurd (is_not_null d h some)
    default_model (plain p) d h some = absurd (is_not_null d h some)
    default_model untyped d h some = absurd (is_not_null d h some)
    default_model interface d h some = absurd (is_not_null d h some)
    default_model text d h some = bytes_model text (read s d text) (text_bytes s d some)
    default_model blob d h some = bytes_model blob (read s d blob) (blob_bytes s d some)
    default_model (struct id) d (inl h) some = absurd (is_not_null d h some)
    default_model (struct id) d (inr h) some =
        let same = segment_same h.2 d h.4 in
        let shows = segment_answers (struct id) d h.1 h.2 tt h.3 h.4 some in
        subst (λ (b : List ℕ). PrintsDefault (struct id) (read s d (struct id)) (shown_behind s (struct id) (default_pointer b))) (sym same) (struct_model id (read s d (struct id)) (shown_behind s (struct id) (default_pointer h.2)) h.2 refl shows)
    default_model (list ty) d (inl h) some = absurd (is_not_null d h some)
    default_model (list ty) d (inr h) some =
        let same = segment_same h.2 d h.4 in
        let shows = segment_answers (list ty) d h.1 h.2 tt h.3 h.4 some in
        subst (λ (b : List ℕ). PrintsDefault (list ty) (read s d (list ty)) (shown_behind s (list ty) (default_pointer b))) (sym same) (list_model ty (read s d (list ty)) (shown_behind s (list ty) (default_pointer h.2)) h.2 (element_named ty h.0) refl shows)

  -- nulls print as the model's do
  nulls_model : (left : ℕ) → NullsAre left
  unfolding null_printed nulls_as
  nulls_model zero style ty d h = by (is_null d)
    where
      by : (b : Bool) → text_if_any (elim b as (λ _. Text) [ true ↦ empty_printed s as_it_is style ty | false ↦ Err NestingLimitExceeded ]) ≡ (elim b as (λ _. Option (List ℕ)) [ true ↦ empty_text s as_it_is style ty | false ↦ None ])
      by true = empty_model s style ty
      by false = refl
  nulls_model (suc left) style ty d h = by (default_model left (nulls_model left) style ty d h) (is_null d) refl
    where
      by : (is_null d ≡ false → text_if_any (text_shown (λ around. null_printed around as_it_is left) as_it_is style (default_shown s ty d)) ≡ print s as_it_is (nulls_as s as_it_is left) style (as_type ty null) (read s d ty)) → (b : Bool) → is_null d ≡ b
          → text_if_any (elim b as (λ _. Text) [ true ↦ empty_printed s as_it_is style ty | false ↦ text_shown (λ around. null_printed around as_it_is left) as_it_is style (default_shown s ty d) ])
          ≡ (elim b as (λ _. Option (List ℕ)) [ true ↦ empty_text s as_it_is style ty | false ↦ print s as_it_is (nulls_as s as_it_is left) style (as_type ty null) (read s d ty) ])
      by shows true e = empty_model s style ty
      by shows false e = shows e

  -- what is shown prints as what it reads as
  pub whole_model : (style : Style) (how : As) (r : Reading) → SoundAs how → text_if_any (printed s as_it_is (null_printed s as_it_is 64) style how (unopened r)) ≡ print s as_it_is (nulls_as s as_it_is 64) style how r
  whole_model style how r h = printed_model s sound as_it_is (null_printed s as_it_is 64) (nulls_as s as_it_is 64) (nulls_model 64) style how r h

-- ---- what is shown

no_schema_sound : (id : ℕ) → SoundShape (no_schema.shape_of id)
no_schema_sound id = ((None, refl), tt)

module _ (pointers : PointersAreRead) (nodes : List Node) (accepted : IsAccepted nodes) where
  sound_around : (x : Shown) (r : Reading) → IsReading (schema_of nodes) x r → (id : ℕ) → SoundShape ((schema_shown x).shape_of id)
  sound_around (a_number ty n) r is id = no_schema_sound id
  sound_around (an_enum s i n) r is id = subst (λ (z : Schema). SoundShape (z.shape_of id)) (sym is.0) (shapes_sound nodes accepted id)
  sound_around (a_text bytes) r is id = no_schema_sound id
  sound_around (a_blob bytes) r is id = no_schema_sound id
  sound_around (a_struct s g v) r is id = subst (λ (z : Schema). SoundShape (z.shape_of id)) (sym is.0) (shapes_sound nodes accepted id)
  sound_around (a_list s ty l) r is id = subst (λ (z : Schema). SoundShape (z.shape_of id)) (sym is.0) (shapes_sound nodes accepted id)
  sound_around (a_pointer p) r is id = no_schema_sound id
  sound_around a_capability r is id = no_schema_sound id

  as_sound : (x : Shown) → Sound x → SoundAs (as_shown x)
  as_sound (a_number ty n) h = no_default_is ty
  as_sound (an_enum s id n) h = refl
  as_sound (a_text bytes) h = tt
  as_sound (a_blob bytes) h = tt
  as_sound (a_struct s g v) h = h
  as_sound (a_list s ty l) h = inl refl
  as_sound (a_pointer p) h = refl
  as_sound a_capability h = refl

-- the text or fault is the model's text or none
model_text : PointersAreRead → (nodes : List Node) (x : Shown) (r : Reading) → IsAccepted nodes → IsOfNodes nodes x → IsReading (schema_of nodes) x r → (style : Style)
    → text_if_any (shown_text 64 style x) ≡ print (schema_shown x) as_it_is (nulls_as (schema_shown x) as_it_is 64) style (as_shown x) r
model_text pointers nodes x r accepted of is style =
    let s = schema_shown x in
    ap (λ z. text_if_any (printed s as_it_is (null_printed s as_it_is 64) style (as_shown x) z)) (wholes pointers nodes x r accepted of is)
    ∙ whole_model pointers s (sound_around pointers nodes accepted x r is) style (as_shown x) r (as_sound pointers nodes accepted x (of_nodes nodes accepted x of))

pub texts : PointersAreRead → TextsAreModels
texts pointers nodes x r accepted of is style =
    let s = schema_shown x in
    let same = sym (model_text pointers nodes x r accepted of is style) in (
      (λ bytes h. same ∙ printed_print s as_it_is (null_printed s as_it_is 64) (λ st ty d. text_if_any (null_printed s as_it_is 64 st ty d)) (λ st ty d. refl) style (as_shown x) (reading_of x) ∙ h),
      (λ kind h. same ∙ ap text_if_any h),
    )
