-- In accepted schemas every slot and every discriminant lies within its struct, and defaults fit their spelling.
use Rattle.std.proofs.Common.{◌≡◌, ℕ, zero, suc, ◌+◌, ◌-◌, ◌*◌, ◌/◌, ◌^◌, ◌<◌, ◌≤◌, Bool, true, false, not, ◌&&◌, ◌||◌, ◌==◌, nat_le, nat_lt, if◌then◌else◌, Option, Some, None, List, [], ◌∷◌, ◌++◌, length, refl, sym, ◌∙◌, ap, subst, arith}
use Rattle.std.specs.List.{list_all, list_any, flat_map, filter_map, cons_option}
use Rattle.std.specs.Str.{bytes_eq}
use Rattle.std.proofs.lemmas.Bool.{or_left, or_right}
use Rattle.std.proofs.lemmas.Slice.Eq.{bytes_eq-Decides}
use Rattle.std.proofs.lemmas.List.{length-append, append-nil}
use Rattle.std.proofs.lemmas.List.Folds.{list_any-append}
use Rattle.capnp_model.specs.Chains.{◌provided◌}
use Rattle.capnp_model.specs.Segments.{root}
use Rattle.capnp_model.specs.Sections.{number_of, words_for}
use Rattle.capnp_model.specs.Trees.{Tree, depth, has_capability}
use Rattle.capnp_model.specs.Trimming.{trim}
use Rattle.capnp_model.specs.Traversal.{tree_at}
use Rattle.capnp_model.specs.Fits.{Fits}
use Rattle.capnp_model.specs.Encoding.{canonical_words}
use Rattle.capnp_model.specs.Bytes.{bytes_of_words, words_in_bytes}
use Rattle.capnp_model.specs.Decoding.{decode}
use Rattle.capnp_model.specs.Schemas.{width, Ty, void, plain, text, blob, untyped, interface, struct, list, BaseType, base_type, lists_of, type_of, Value, no_value, bits, text_bytes, blob_bytes, list_segment, struct_segment, untyped_value, interface_value, FieldKind, slot, group, Field, StructNode, NodeKind, struct_node, enum_node, Node, Shape, shape, Fields, no_fields, field, Body, void_slot, plain_slot, pointer_slot, group_slot, words_of_shape}
use Rattle.capnp_model.specs.Calls.{text_tree, blob_tree}
use Rattle.capnp_model.specs.Accepted.{find_node, fields_of_kind, on_struct, groups_of_field, sizes_of, default_tree, slot_body, field_body, fields_from, union_place, no_shape, shape_of_node, shape_in, schema_of, members_of, are_once, has_good_union, is_inside, has_its_place, has_places, is_default_of, has_good_default, opens_as, is_good_segment, is_good_value, default_reads, IsAccepted}
use Rattle.capnp_model.proofs.lemmas.Chaining.{bind_some, provided_some, some_is}
use Rattle.capnp_model.proofs.lemmas.TrimFits.{Fits-trim, depth-trim}
use Rattle.capnp_model.proofs.lemmas.ByteWords.{words_back, bytes_length}
use Rattle.capnp_model.proofs.lemmas.CanonicalWords.{canonical_words_are}
use Rattle.capnp_model.proofs.lemmas.Depth.{tree_at_deep}
use Rattle.capnp_model.proofs.lemmas.Numbers.{length-numbers_in, number_of_lt}
use Rattle.capnp_model.proofs.lemmas.ReadFits.{tree_at_fits}
use Rattle.capnp_model.proofs.lemmas.RoundTrip.{enc_means}
use Rattle.capnp_model.proofs.lemmas.KeptRules.{and_three, found_passes}
use Rattle.capnp_model.proofs.lemmas.SoundRules.{RulesKept, rules_kept}
use Rattle.capnp_model.proofs.lemmas.Tests.{lt_is, le_is, and_left, and_right}
use Rattle.capnp_model_versions.proofs.SameShapes.{UnionWithin}
use Rattle.capnp_model_versions.proofs.Holders.{PlacesKept, places_kept, uses, group_fits}

-- ---- what holds of a shape

-- a default fits its spelling
abbrev pub FitsDefault : Option Tree → Type 0
FitsDefault None = Unit {0}
FitsDefault (Some t) = Fits t × (length (canonical_words t) ≤ 2 ^ 29)

-- the plain types in a type are at most a word
abbrev pub AllNarrow : Ty → Type 0
AllNarrow (plain p) = width p ≤ 64
AllNarrow (list ty) = AllNarrow ty
AllNarrow ty = Unit {0}

-- a union has a member
abbrev pub HasMember : Option ℕ → Fields → Type 0
HasMember None fs = Unit {0}
HasMember (Some at) no_fields = ⊥
HasMember (Some at) (field l None b fs) = HasMember (Some at) fs
HasMember (Some at) (field l (Some k) b fs) = Unit {0}

abbrev mutual
  -- all lies within so many bits
  pub IsWithin : ℕ → Shape → Type 0
  IsWithin room (shape nid w p u fs) = UnionWithin room u × HasMember u fs × AreWithin room fs

  pub AreWithin : ℕ → Fields → Type 0
  AreWithin room no_fields = Unit {0}
  AreWithin room (field l m b fs) = BodyWithin room b × AreWithin room fs

  pub BodyWithin : ℕ → Body → Type 0
  BodyWithin room (void_slot j) = Unit {0}
  BodyWithin room (plain_slot p at d) = at + width p ≤ room
  BodyWithin room (pointer_slot i ty d) = AllNarrow ty × FitsDefault d
  BodyWithin room (group_slot g) = IsWithin room g

-- ---- defaults

blob_fits : (bs : List ℕ) → length bs < 2 ^ 29 → FitsDefault (Some (blob_tree bs))
unfolding canonical_words
blob_fits bs h =
    let n = length-numbers_in 64 (words_for (8 * length bs)) in
    ((omega arith, h, number_of_lt 8 bs), short (length bs) _ h (n (number_of 8 bs)))
  where
    short : (k : ℕ) (ws : List ℕ) → k < 2 ^ 29 → length ws ≡ words_for (8 * k) → suc (length ws) ≤ 2 ^ 29
    short k ws h e = omega arith

text_fits : (bs : List ℕ) → length bs < 2 ^ 29 - 1 → FitsDefault (Some (text_tree bs))
text_fits bs h = blob_fits (bs ++ 0 ∷ []) (let e = length-append bs (0 ∷ []) in omega arith)

-- bytes that are decoded are those of the canonical words of a trimmed value
module _ (bs : List ℕ) (v : Tree) (short : length bs < 8 * 2 ^ 29) (read : tree_at 64 (words_in_bytes (length bs / 8) bs ∷ []) root ≡ Some v) (same : bytes_of_words (canonical_words (trim v)) ≡ bs) where
  abbrev words : List ℕ
  words = canonical_words (trim v)

  fits : Fits (trim v)
  fits = Fits-trim v (tree_at_fits 64 (words_in_bytes (length bs / 8) bs ∷ []) root v read)

  size : 8 * length words ≡ length bs
  size = sym (bytes_length words) ∙ ap length same

  small : length words ≤ 2 ^ 29
  small = let e = size in omega arith

  back : words_in_bytes (length bs / 8) bs ≡ words
  back =
      let count : length bs / 8 ≡ length words = let e = size in omega arith in
      ap (λ k. words_in_bytes k bs) count ∙ ap (words_in_bytes (length words)) (sym (append-nil bs) ∙ ap (λ z. z ++ []) (sym same)) ∙ words_back words [] (canonical_words_are (trim v) fits small)

  trimmed : v ≡ trim v
  trimmed =
      let deep : depth v ≤ 64 = tree_at_deep 64 (words_in_bytes (length bs / 8) bs ∷ []) root v read in
      let here : tree_at 64 (words ∷ []) root ≡ Some v = ap (λ z. tree_at 64 (z ∷ []) root) (sym back) ∙ read in
      let there : tree_at 64 (words ∷ []) root ≡ Some (trim v) = enc_means (trim v) 64 fits (let less = depth-trim v in omega arith) small in
      some_is v (trim v) (sym here ∙ there)

  segment_fits : FitsDefault (Some v)
  segment_fits = subst (λ z. FitsDefault (Some z)) (sym trimmed) (fits, small)

decoded_fits : (bs : List ℕ) (t : Tree) → length bs < 8 * 2 ^ 29 → decode bs ≡ Some t → FitsDefault (Some t)
unfolding decode
decoded_fits bs t short h =
    let found = bind_some (tree_at 64 (words_in_bytes (length bs / 8) bs ∷ []) root) (λ v. v provided (not (has_capability v) && bytes_eq (bytes_of_words (canonical_words (trim v))) bs)) t h in
    let kept = provided_some found.0 t (not (has_capability found.0) && bytes_eq (bytes_of_words (canonical_words (trim found.0))) bs) found.2 in
    let same = (bytes_eq-Decides (bytes_of_words (canonical_words (trim found.0))) bs).0 (and_right (not (has_capability found.0)) (bytes_eq (bytes_of_words (canonical_words (trim found.0))) bs) kept.0) in
    subst (λ z. FitsDefault (Some z)) kept.1 (segment_fits bs found.0 short found.1 same)

good_segment_fits : (test : Tree → Bool) (bs : List ℕ) → is_good_segment test bs ≡ true → FitsDefault (decode bs)
good_segment_fits test bs h = by (decode bs) refl
  where
    by : (o : Option Tree) → decode bs ≡ o → FitsDefault o
    by None e = tt
    by (Some t) e = decoded_fits bs t (lt_is (length bs) (8 * 2 ^ 29) (and_left (nat_lt (length bs) (8 * 2 ^ 29)) _ h)) e

pointer_default_fits : (ty : Ty) (d : Option Value) (test : Tree → Bool) → is_default_of ty d ≡ true → is_good_value test d ≡ true → FitsDefault (default_tree d)
pointer_default_fits ty None test h k = tt
pointer_default_fits ty (Some no_value) test h k = tt
pointer_default_fits ty (Some (bits p n)) test h k = tt
pointer_default_fits text (Some (text_bytes bs)) test h k = text_fits bs (lt_is (length bs) (2 ^ 29 - 1) h)
pointer_default_fits ty (Some (text_bytes bs)) test h k = absurd (cc h)
pointer_default_fits blob (Some (blob_bytes bs)) test h k = blob_fits bs (lt_is (length bs) (2 ^ 29) h)
pointer_default_fits ty (Some (blob_bytes bs)) test h k = absurd (cc h)
pointer_default_fits ty (Some (list_segment bs)) test h k = good_segment_fits test bs k
pointer_default_fits ty (Some (struct_segment bs)) test h k = good_segment_fits test bs k
pointer_default_fits ty (Some untyped_value) test h k = tt
pointer_default_fits ty (Some interface_value) test h k = tt

-- ---- types

base_narrow : (b : BaseType) → AllNarrow (base_type b)
base_narrow BaseType.Void = tt
base_narrow BaseType.Boolean = omega arith
base_narrow BaseType.Int8 = omega arith
base_narrow BaseType.Int16 = omega arith
base_narrow BaseType.Int32 = omega arith
base_narrow BaseType.Int64 = omega arith
base_narrow BaseType.UInt8 = omega arith
base_narrow BaseType.UInt16 = omega arith
base_narrow BaseType.UInt32 = omega arith
base_narrow BaseType.UInt64 = omega arith
base_narrow BaseType.Float32 = tt
base_narrow BaseType.Float64 = tt
base_narrow BaseType.Text = tt
base_narrow BaseType.Data = tt
base_narrow (BaseType.Enum i) = omega arith
base_narrow (BaseType.Struct i) = tt
base_narrow BaseType.AnyPointer = tt
base_narrow BaseType.Capability = tt

all_narrow : (c : ℕ) (b : BaseType) → AllNarrow (lists_of c (base_type b))
all_narrow zero b = base_narrow b
all_narrow (suc c) b = all_narrow c b

-- ---- fields

slot_within : (s : StructNode) (room offset : ℕ) (ty : Ty) (d : Option Value) → 64 * s.words ≤ room → is_inside s offset ty ≡ true → AllNarrow ty → is_default_of ty d ≡ true → is_good_value (λ t. opens_as t ty) d ≡ true → BodyWithin room (slot_body offset ty d)
slot_within s room offset void d le h n k r = tt
slot_within s room offset (plain p) d le h n k r = let x : width p * (offset + 1) ≤ 64 * s.words = le_is (width p * (offset + 1)) (64 * s.words) h in end (width p) offset x
  where
    end : (w i : ℕ) → w * (i + 1) ≤ 64 * s.words → w * i + w ≤ room
    end w i x = let e : w * (i + 1) ≡ w * i + w = omega arith in omega arith
slot_within s room offset text d le h n k r = (tt, pointer_default_fits text d _ k r)
slot_within s room offset blob d le h n k r = (tt, pointer_default_fits blob d _ k r)
slot_within s room offset untyped d le h n k r = (tt, pointer_default_fits untyped d _ k r)
slot_within s room offset interface d le h n k r = (tt, pointer_default_fits interface d _ k r)
slot_within s room offset (struct id) d le h n k r = (tt, pointer_default_fits (struct id) d _ k r)
slot_within s room offset (list ty) d le h n k r = (n, pointer_default_fits (list ty) d _ k r)

module _ (groups : ℕ → Shape) (s : StructNode) (room : ℕ) (le : 64 * s.words ≤ room) where
  kind_within : (k : FieldKind) → ((g : ℕ) → list_any (λ x. x == g) (groups_of_field k) ≡ true → IsWithin room (groups g)) → has_its_place s k ≡ true → has_good_default k ≡ true → default_reads k ≡ true → BodyWithin room (field_body groups k)
  kind_within (slot offset ty d) good h k r = slot_within s room offset (type_of ty) d le h (all_narrow ty.list_count ty.base) k r
  kind_within (group g) good h k r = good g (or_left (g == g) false (self g))
    where
      self : (g : ℕ) → (g == g) ≡ true
      self g = grind arith

  fields_within : (fs : List Field) → ((g : ℕ) → list_any (λ x. x == g) (flat_map (λ (f : Field). groups_of_field f.kind) fs) ≡ true → IsWithin room (groups g)) → list_all (λ (f : Field). has_its_place s f.kind) fs ≡ true
      → list_all (λ (f : Field). has_good_default f.kind) fs ≡ true → list_all (λ (f : Field). default_reads f.kind) fs ≡ true → AreWithin room (fields_from groups fs)
  fields_within [] good h k r = tt
  fields_within (f ∷ fs) good h k r =
      let rest = flat_map (λ (g : Field). groups_of_field g.kind) fs in (
        kind_within f.kind (λ g x. good g (list_any-append (λ y. y == g) (groups_of_field f.kind) rest ∙ or_left (list_any (λ y. y == g) (groups_of_field f.kind)) (list_any (λ y. y == g) rest) x))
            (and_left (has_its_place s f.kind) _ h) (and_left (has_good_default f.kind) _ k) (and_left (default_reads f.kind) _ r),
        fields_within fs (λ g x. good g (list_any-append (λ y. y == g) (groups_of_field f.kind) rest ∙ or_right (list_any (λ y. y == g) (groups_of_field f.kind)) (list_any (λ y. y == g) rest) x))
            (and_right (has_its_place s f.kind) _ h) (and_right (has_good_default f.kind) _ k) (and_right (default_reads f.kind) _ r),
      )

  some_member : (at : ℕ) (fs : List Field) → 0 < length (filter_map (λ (f : Field). f.member) fs) → HasMember (Some at) (fields_from groups fs)
  some_member at [] h = absurd (omega arith)
  some_member at (f ∷ fs) h = by f.member (some_member at fs) h
    where
      by : (m : Option ℕ) → (0 < length (filter_map (λ (g : Field). g.member) fs) → HasMember (Some at) (fields_from groups fs)) → 0 < length (cons_option m (filter_map (λ (g : Field). g.member) fs)) → HasMember (Some at) (field f.name m (field_body groups f.kind) (fields_from groups fs))
      by None more k = more k
      by (Some j) more k = tt

  union_within : has_good_union s ≡ true → UnionWithin room (union_place s) × HasMember (union_place s) (fields_from groups s.fields)
  union_within h = by (s.discriminant_count == 0) refl three.2
    where
      three : ((length (members_of s) == s.discriminant_count) ≡ true) × ((list_all (λ m. nat_lt m s.discriminant_count) (members_of s) && are_once (members_of s)) ≡ true) × ((s.discriminant_count == 0 || nat_le (16 * (s.discriminant_offset + 1)) (64 * s.words)) ≡ true)
      three = and_three (length (members_of s) == s.discriminant_count) (list_all (λ m. nat_lt m s.discriminant_count) (members_of s) && are_once (members_of s)) (s.discriminant_count == 0 || nat_le (16 * (s.discriminant_offset + 1)) (64 * s.words)) h

      counts : (a c : ℕ) → (a == c) ≡ true → (c == 0) ≡ false → 0 < a
      counts a c e f = grind arith

      by : (b : Bool) → (s.discriminant_count == 0) ≡ b → (b || nat_le (16 * (s.discriminant_offset + 1)) (64 * s.words)) ≡ true
          → UnionWithin room (if b then None else Some (16 * s.discriminant_offset)) × HasMember (if b then None else Some (16 * s.discriminant_offset)) (fields_from groups s.fields)
      by true e k = (tt, tt)
      by false e k =
          let x = le_is (16 * (s.discriminant_offset + 1)) (64 * s.words) k in
          (omega arith, some_member (16 * s.discriminant_offset) s.fields (counts (length (members_of s)) s.discriminant_count three.0 e))

-- ---- nodes

module _ (nodes : List Node) (r : RulesKept nodes) (q : PlacesKept nodes) where
  node_words : (groups : ℕ → Shape) (n : Node) → words_of_shape (shape_of_node groups (Some n)) ≡ (sizes_of n).0
  node_words groups n = by n.kind
    where
      by : (k : NodeKind) → words_of_shape (elim k as (λ (x : NodeKind). Shape) [ struct_node s ↦ shape n.id s.words s.pointers (union_place s) (fields_from groups s.fields) | enum_node es ↦ no_shape ]) ≡ (elim k as (λ (x : NodeKind). ℕ × ℕ) [ struct_node s ↦ (s.words, s.pointers) | enum_node es ↦ (0, 0) ]).0
      by (struct_node s) = refl
      by (enum_node es) = refl

  -- the words of a group's shape
  words_at : (levels id : ℕ) (n : Node) (g : ℕ) → find_node nodes id ≡ Some n → uses n g ≡ true → words_of_shape (shape_in nodes levels g) ≤ (sizes_of n).0
  unfolding shape_in
  words_at zero id n g e k = omega arith
  words_at (suc levels) id n g e k = by (find_node nodes g) refl
    where
      by : (o : Option Node) → find_node nodes g ≡ o → words_of_shape (shape_of_node (λ x. shape_in nodes levels x) o) ≤ (sizes_of n).0
      by None f = omega arith
      by (Some m) f = subst (λ z. z ≤ (sizes_of n).0) (sym (node_words (λ x. shape_in nodes levels x) m)) (group_fits nodes q r.ids id n g m e k f).0

  struct_within : (groups : ℕ → Shape) (room nid : ℕ) (k : NodeKind) → ((g : ℕ) → list_any (λ x. x == g) (flat_map (λ (f : Field). groups_of_field f.kind) (fields_of_kind k)) ≡ true → IsWithin room (groups g))
      → 64 * (elim k as (λ (x : NodeKind). ℕ × ℕ) [ struct_node s ↦ (s.words, s.pointers) | enum_node es ↦ (0, 0) ]).0 ≤ room
      → (elim k as (λ (x : NodeKind). Bool) [ struct_node s ↦ has_good_union s | enum_node es ↦ true ]) ≡ true → (elim k as (λ (x : NodeKind). Bool) [ struct_node s ↦ has_places s | enum_node es ↦ true ]) ≡ true
      → list_all (λ (f : Field). has_good_default f.kind) (fields_of_kind k) ≡ true → list_all (λ (f : Field). default_reads f.kind) (fields_of_kind k) ≡ true
      → IsWithin room (elim k as (λ (x : NodeKind). Shape) [ struct_node s ↦ shape nid s.words s.pointers (union_place s) (fields_from groups s.fields) | enum_node es ↦ no_shape ])
  struct_within groups room nid (struct_node s) good le u p d x = let both = union_within groups s room le u in (both.0, both.1, fields_within groups s room le s.fields good p d x)
  struct_within groups room nid (enum_node es) good le u p d x = (tt, tt, tt)

  pub shape-within : (levels id room : ℕ) → 64 * words_of_shape (shape_in nodes levels id) ≤ room → IsWithin room (shape_in nodes levels id)
  unfolding shape_in
  shape-within zero id room le = (tt, tt, tt)
  shape-within (suc levels) id room le = by (find_node nodes id) refl (shape-within levels) le
    where
      by : (o : Option Node) → find_node nodes id ≡ o → ((g b : ℕ) → 64 * words_of_shape (shape_in nodes levels g) ≤ b → IsWithin b (shape_in nodes levels g)) → 64 * words_of_shape (shape_of_node (λ g. shape_in nodes levels g) o) ≤ room → IsWithin room (shape_of_node (λ g. shape_in nodes levels g) o)
      by None e inner le = (tt, tt, tt)
      by (Some n) e inner le =
          let words : 64 * (sizes_of n).0 ≤ room = subst (λ z. 64 * z ≤ room) (node_words (λ g. shape_in nodes levels g) n) le in
          struct_within (λ g. shape_in nodes levels g) room n.id n.kind (λ g k. inner g room (let small = words_at levels id n g e k in omega arith)) words
          (found_passes (on_struct has_good_union) nodes id n r.unions e) (found_passes (on_struct has_places) nodes id n q.places e)
          (found_passes (λ m. list_all (λ f. has_good_default f.kind) (fields_of_kind m.kind)) nodes id n r.defaults e) (found_passes (λ m. list_all (λ f. default_reads f.kind) (fields_of_kind m.kind)) nodes id n q.reads e)

-- THE LAW: an accepted schema's slots lie within its structs
pub accepted-within : (nodes : List Node) → IsAccepted nodes → (id : ℕ) → IsWithin (64 * words_of_shape ((schema_of nodes).shape_of id)) ((schema_of nodes).shape_of id)
unfolding schema_of
accepted-within nodes h id = shape-within nodes (rules_kept nodes h) (places_kept nodes h) (length nodes) id _ (omega arith)
