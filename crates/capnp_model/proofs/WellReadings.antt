-- Records that values read as have an entry for each field of the schema.
use Rattle.std.proofs.Common.{◌≡◌, ℕ, zero, suc, ◌==◌, Bool, true, false, if◌then◌else◌, Option, None, List, [], ◌∷◌, length, take, slice_index, refl}
use Rattle.capnp_model.specs.Kinds.{WrongElementSize, TextWithoutZeroByte}
use Rattle.capnp_model.specs.Trees.{Tree, null, capability, structure, plain_list, pointer_list, struct_list, Trees, none, ◌▸◌, Elements, no_elements, element, size_bits, plain_elements}
use Rattle.capnp_model.specs.Schemas.{Ty, void, plain, text, blob, untyped, interface, struct, list, Shape, shape, Fields, no_fields, field, Body, void_slot, plain_slot, pointer_slot, group_slot, Schema}
use Rattle.capnp_model.specs.Readings.{Reading, inactive, null_pointer, fault, number, text_of, blob_of, list_of, record_as, opaque, Readings, no_readings, ◌▹◌, Record, no_more, entry, Children, no_children, only_child, Extent, whole_words, just_bits, discriminant, is_active, only_if, shape_record, fields_of, body_of, is_list_of, element_as, text_reading, list_reading, plain_readings, read, read_child, pointer_elements, struct_elements, record_by_shape}
use Rattle.capnp_model.specs.Printing.{fields_in}

-- ---- what stands in records: an entry for each field, those of inactive members inactive

-- A field of a pointer's type.
abbrev pub typed : Ty → Body
typed ty = pointer_slot 0 ty None

abbrev pub IsEntry : Bool → Reading → Type 0 → Type 0
IsEntry true x well = (x ≡ inactive → ⊥) × well
IsEntry false x well = x ≡ inactive

abbrev mutual
  pub IsBody : Schema → Body → Reading → Type 0
  IsBody s (pointer_slot i ty d) (record_as r) = (id : ℕ) × (ty ≡ struct id) × (active : Option ℕ) × AreEntries s (fields_in (s.shape_of id)) active r
  IsBody s (pointer_slot i ty d) (list_of rs) = (e : Ty) × (ty ≡ list e) × AreElements s e rs
  IsBody s (group_slot g) (record_as r) = (active : Option ℕ) × AreEntries s (fields_in g) active r
  IsBody s b x = Unit {0}

  pub AreElements : Schema → Ty → Readings → Type 0
  AreElements s e no_readings = Unit {0}
  AreElements s e (r ▹ rs) = IsBody s (typed e) r × AreElements s e rs

  pub AreEntries : Schema → Fields → Option ℕ → Record → Type 0
  AreEntries s no_fields a no_more = Unit {0}
  AreEntries s (field n m b fs) a (entry l x rest) = (l ≡ n) × IsEntry (is_active m a) x (IsBody s b x) × AreEntries s fs a rest
  AreEntries s fs a r = ⊥

-- A reading of a pointer's type that is there.
abbrev pub IsThere : Schema → Ty → Reading → Type 0
IsThere s ty x = IsBody s (typed ty) x × (x ≡ inactive → ⊥)

pub same_slot : (s : Schema) (i j : ℕ) (ty : Ty) (d e : Option Tree) (x : Reading) → IsBody s (pointer_slot i ty d) x → IsBody s (pointer_slot j ty e) x
same_slot s i j ty d e inactive h = tt
same_slot s i j ty d e null_pointer h = tt
same_slot s i j ty d e (fault k) h = tt
same_slot s i j ty d e (number k) h = tt
same_slot s i j ty d e (text_of k) h = tt
same_slot s i j ty d e (blob_of k) h = tt
same_slot s i j ty d e (list_of k) h = h
same_slot s i j ty d e (record_as k) h = h
same_slot s i j ty d e (opaque k) h = tt

module _ (s : Schema) where
  module _ (size : Extent) (section : ℕ) (kids : Children) (h : (i : ℕ) (ty : Ty) → IsThere s ty (kids i ty)) where
    pub entry_well : (b : Bool) (body : Body) (x : Reading) → IsBody s body x → (x ≡ inactive → ⊥) → IsEntry b (only_if b x) (IsBody s body (only_if b x))
    entry_well true body x w there = (there, w)
    entry_well false body x w there = refl

    mutual
      unfolding shape_record

      pub shape_well : (g : Shape) → (active : Option ℕ) × AreEntries s (fields_in g) active (shape_record g size section kids)
      shape_well (shape nid w p u fs) = (discriminant u size section, fields_well fs (discriminant u size section))

      pub fields_well : (fs : Fields) (a : Option ℕ) → AreEntries s fs a (fields_of fs a size section kids)
      fields_well no_fields a = tt
      fields_well (field n m b fs) a = (refl, entry_well (is_active m a) b (body_of b size section kids) (body_well b) (body_there b), fields_well fs a)

      pub body_well : (b : Body) → IsBody s b (body_of b size section kids)
      body_well (void_slot j) = tt
      body_well (plain_slot p at d) = tt
      body_well (pointer_slot i ty d) = same_slot s 0 i ty None d (kids i ty) (h i ty).0
      body_well (group_slot g) = shape_well g

      pub body_there : (b : Body) → body_of b size section kids ≡ inactive → ⊥
      body_there (void_slot j) e = absurd (cc e)
      body_there (plain_slot p at d) e = absurd (cc e)
      body_there (pointer_slot i ty d) e = (h i ty).1 e
      body_there (group_slot g) e = absurd (cc e)

    pub element_well : (ty : Ty) → IsThere s ty (element_as s ty size section kids)
    element_well void = (tt, λ x. absurd (cc x))
    element_well (plain p) = (tt, λ x. absurd (cc x))
    element_well text = h 0 text
    element_well blob = h 0 blob
    element_well untyped = h 0 untyped
    element_well interface = h 0 interface
    element_well (struct id) = let g = shape_well (s.shape_of id) in ((id, refl, g.0, g.1), λ x. absurd (cc x))
    element_well (list e) = h 0 (list e)

  pub none_well : (i : ℕ) (ty : Ty) → IsThere s ty (no_children i ty)
  none_well i ty = (tt, λ x. absurd (cc x))

  pub plain_well : (size : ℕ) (xs : List ℕ) (ty : Ty) → AreElements s ty (plain_readings s size xs ty)
  plain_well size [] ty = tt
  plain_well size (x ∷ xs) ty = ((element_well (just_bits size) x no_children none_well ty).0, plain_well size xs ty)

  pub only_well : (r : Ty → Reading) → ((ty : Ty) → IsThere s ty (r ty)) → (i : ℕ) (ty : Ty) → IsThere s ty (only_child r i ty)
  only_well r h zero ty = h ty
  only_well r h (suc i) ty = (tt, λ x. absurd (cc x))

  pub if_well : (ty : Ty) (b : Bool) (x y : Reading) → IsThere s ty x → IsThere s ty y → IsThere s ty (if b then x else y)
  if_well ty true x y h k = h
  if_well ty false x y h k = k

  pub list_well : (e : Ty) (b : Bool) (rs : Readings) → AreElements s e rs → IsThere s (list e) (list_reading b rs)
  list_well e true rs h = ((e, refl, h), λ x. absurd (cc x))
  list_well e false rs h = (tt, λ x. absurd (cc x))

  pub text_well : (xs : List ℕ) → IsThere s text (text_reading xs)
  text_well [] = (tt, λ x. absurd (cc x))
  text_well (b ∷ bs) = if_well text (slice_index (b ∷ bs) (length bs) == 0) (text_of (take (length bs) (b ∷ bs))) (fault TextWithoutZeroByte) (tt, λ x. absurd (cc x)) (tt, λ x. absurd (cc x))

  mutual
    unfolding read

    pub read_well : (t : Tree) (ty : Ty) → IsThere s ty (read s t ty)
    read_well null ty = (tt, λ x. absurd (cc x))
    read_well (capability i) void = (tt, λ x. absurd (cc x))
    read_well (capability i) (plain p) = (tt, λ x. absurd (cc x))
    read_well (capability i) text = (tt, λ x. absurd (cc x))
    read_well (capability i) blob = (tt, λ x. absurd (cc x))
    read_well (capability i) untyped = (tt, λ x. absurd (cc x))
    read_well (capability i) interface = (tt, λ x. absurd (cc x))
    read_well (capability i) (struct id) = (tt, λ x. absurd (cc x))
    read_well (capability i) (list e) = (tt, λ x. absurd (cc x))
    read_well (structure w n ts) void = (tt, λ x. absurd (cc x))
    read_well (structure w n ts) (plain p) = (tt, λ x. absurd (cc x))
    read_well (structure w n ts) text = (tt, λ x. absurd (cc x))
    read_well (structure w n ts) blob = (tt, λ x. absurd (cc x))
    read_well (structure w n ts) untyped = (tt, λ x. absurd (cc x))
    read_well (structure w n ts) interface = (tt, λ x. absurd (cc x))
    read_well (structure w n ts) (struct id) = let g = shape_well whole_words n (read_child s ts) (child_well ts) (s.shape_of id) in ((id, refl, g.0, g.1), λ x. absurd (cc x))
    read_well (structure w n ts) (list e) = (tt, λ x. absurd (cc x))
    read_well (plain_list z n k) void = (tt, λ x. absurd (cc x))
    read_well (plain_list z n k) (plain p) = (tt, λ x. absurd (cc x))
    read_well (plain_list z n k) text = if_well text (z == 2) (text_reading (plain_elements z n k)) (fault WrongElementSize) (text_well (plain_elements z n k)) (tt, λ x. absurd (cc x))
    read_well (plain_list z n k) blob = if_well blob (z == 2) (blob_of (plain_elements z n k)) (fault WrongElementSize) (tt, λ x. absurd (cc x)) (tt, λ x. absurd (cc x))
    read_well (plain_list z n k) untyped = (tt, λ x. absurd (cc x))
    read_well (plain_list z n k) interface = (tt, λ x. absurd (cc x))
    read_well (plain_list z n k) (struct id) = (tt, λ x. absurd (cc x))
    read_well (plain_list z n k) (list e) = list_well e (is_list_of (plain_list z n k) e) (plain_readings s (size_bits z) (plain_elements z n k) e) (plain_well (size_bits z) (plain_elements z n k) e)
    read_well (pointer_list ts) void = (tt, λ x. absurd (cc x))
    read_well (pointer_list ts) (plain p) = (tt, λ x. absurd (cc x))
    read_well (pointer_list ts) text = (tt, λ x. absurd (cc x))
    read_well (pointer_list ts) blob = (tt, λ x. absurd (cc x))
    read_well (pointer_list ts) untyped = (tt, λ x. absurd (cc x))
    read_well (pointer_list ts) interface = (tt, λ x. absurd (cc x))
    read_well (pointer_list ts) (struct id) = (tt, λ x. absurd (cc x))
    read_well (pointer_list ts) (list e) = list_well e (is_list_of (pointer_list ts) e) (pointer_elements s ts e) (pointers_well ts e)
    read_well (struct_list d k es) void = (tt, λ x. absurd (cc x))
    read_well (struct_list d k es) (plain p) = (tt, λ x. absurd (cc x))
    read_well (struct_list d k es) text = (tt, λ x. absurd (cc x))
    read_well (struct_list d k es) blob = (tt, λ x. absurd (cc x))
    read_well (struct_list d k es) untyped = (tt, λ x. absurd (cc x))
    read_well (struct_list d k es) interface = (tt, λ x. absurd (cc x))
    read_well (struct_list d k es) (struct id) = (tt, λ x. absurd (cc x))
    read_well (struct_list d k es) (list e) = list_well e (is_list_of (struct_list d k es) e) (struct_elements s es e) (structs_well es e)

    pub child_well : (ts : Trees) (i : ℕ) (ty : Ty) → IsThere s ty (read_child s ts i ty)
    child_well none i ty = (tt, λ x. absurd (cc x))
    child_well (t ▸ ts) zero ty = read_well t ty
    child_well (t ▸ ts) (suc i) ty = child_well ts i ty

    pub pointers_well : (ts : Trees) (ty : Ty) → AreElements s ty (pointer_elements s ts ty)
    pointers_well none ty = tt
    pointers_well (t ▸ ts) ty = ((element_well (just_bits 0) 0 (only_child (read s t)) (only_well (read s t) (read_well t)) ty).0, pointers_well ts ty)

    pub structs_well : (es : Elements) (ty : Ty) → AreElements s ty (struct_elements s es ty)
    structs_well no_elements ty = tt
    structs_well (element n ts es) ty = ((element_well whole_words n (read_child s ts) (child_well ts) ty).0, structs_well es ty)

  pub record_well : (g : Shape) (t : Tree) → (active : Option ℕ) × AreEntries s (fields_in g) active (record_by_shape s g t)
  unfolding record_by_shape
  record_well g null = shape_well whole_words 0 no_children none_well g
  record_well g (capability i) = shape_well whole_words 0 no_children none_well g
  record_well g (structure w n ts) = shape_well whole_words n (read_child s ts) (child_well ts) g
  record_well g (plain_list z n k) = shape_well whole_words 0 no_children none_well g
  record_well g (pointer_list ts) = shape_well whole_words 0 no_children none_well g
  record_well g (struct_list w p es) = shape_well whole_words 0 no_children none_well g
