-- A trimmed tree reads as the tree, where lists are in kind.
use Rattle.capnp_model.proofs.lemmas.Stripping.{resized-stripped}
use Rattle.capnp_model.proofs.lemmas.TrimTwice.{trim-trim}
use Rattle.std.proofs.Common.{◌≡◌, ℕ, zero, suc, ◌*◌, ◌≤◌, ◌==◌, ◌&&◌, ◌||◌, not, Option, Bool, true, false, if◌then◌else◌, refl, sym, ◌∙◌, ap, subst, arith}
use Rattle.capnp_model.specs.Trees.{Tree, null, capability, structure, plain_list, pointer_list, struct_list, Trees, none, ◌▸◌, Elements, no_elements, element, tree_count, resized}
use Rattle.capnp_model.specs.Trimming.{stripped, after_stripping, common_pointers, with_pointers, common_words, trim, trim_each, trim_elements}
use Rattle.capnp_model.specs.Schemas.{width, Ty, void, plain, text, blob, untyped, interface, struct, list, Shape, shape, Fields, no_fields, field, Body, void_slot, plain_slot, pointer_slot, group_slot, Schema}
use Rattle.capnp_model.specs.Readings.{expected_size, Reading, null_pointer, record_as, opaque, Readings, ◌▹◌, entry, Children, only_child, whole_words, just_bits, discriminant, is_active, only_if, shape_record, fields_of, body_of, is_list_of, have_room, element_as, list_reading, struct_reading, other_list_reading, read, read_child, pointer_elements, struct_elements}
use Rattle.capnp_model.specs.InKind.{Kinds, fields_in_kind, body_in_kind, shape_in_kind, element_kinds, struct_kinds, list_kinds, one_kind, in_kind, child_in_kind, children_in_kind, elements_in_kind}
use Rattle.capnp_model.proofs.lemmas.Paths.{nothing_in}
use Rattle.capnp_model.proofs.lemmas.Tests.{and_left, and_right}

-- the children that are in kind read alike
abbrev Alike : Kinds → Children → Children → Type 0
Alike k a b = (i : ℕ) (ty : Ty) → k i ty ≡ true → a i ty ≡ b i ty

if_active : (b : Bool) (k : Bool) (r r' : Reading) → (not b || k) ≡ true → (k ≡ true → r ≡ r') → only_if b r ≡ only_if b r'
if_active true k r r' h same = same h
if_active false k r r' h same = refl

mutual
  unfolding shape_record shape_in_kind

  shape_record-alike : (g : Shape) (section : ℕ) (k : Kinds) (a b : Children) → Alike k a b → shape_in_kind g section k ≡ true → shape_record g whole_words section a ≡ shape_record g whole_words section b
  shape_record-alike (shape nid w p u fs) section k a b same h = fields_of-alike fs (discriminant u whole_words section) section k a b same h

  fields_of-alike : (fs : Fields) (d : Option ℕ) (section : ℕ) (k : Kinds) (a b : Children) → Alike k a b → fields_in_kind fs d section k ≡ true → fields_of fs d whole_words section a ≡ fields_of fs d whole_words section b
  fields_of-alike no_fields d section k a b same h = refl
  fields_of-alike (field n m body fs) d section k a b same h =
      let one = if_active (is_active m d) (body_in_kind body section k) (body_of body whole_words section a) (body_of body whole_words section b)
      (and_left (not (is_active m d) || body_in_kind body section k) (fields_in_kind fs d section k) h) (body_of-alike body section k a b same) in
      let rest = fields_of-alike fs d section k a b same (and_right (not (is_active m d) || body_in_kind body section k) (fields_in_kind fs d section k) h) in
      ap (λ r. entry n r (fields_of fs d whole_words section a)) one ∙ ap (entry n (only_if (is_active m d) (body_of body whole_words section b))) rest

  body_of-alike : (body : Body) (section : ℕ) (k : Kinds) (a b : Children) → Alike k a b → body_in_kind body section k ≡ true → body_of body whole_words section a ≡ body_of body whole_words section b
  body_of-alike (void_slot j) section k a b same h = refl
  body_of-alike (plain_slot p at d) section k a b same h = refl
  body_of-alike (pointer_slot i ty d) section k a b same h = same i ty h
  body_of-alike (group_slot g) section k a b same h = ap record_as (shape_record-alike g section k a b same h)

-- ---- children

read_first : (s : Schema) (u : Tree) (rest : Trees) (ty : Ty) → read_child s (after_stripping u rest) zero ty ≡ read s u ty
unfolding read
read_first s null none ty = refl
read_first s null (a ▸ b) ty = refl
read_first s (capability k) rest ty = refl
read_first s (structure w n k) rest ty = refl
read_first s (plain_list z count k) rest ty = refl
read_first s (pointer_list k) rest ty = refl
read_first s (struct_list w p k) rest ty = refl

read_later : (s : Schema) (u : Tree) (rest : Trees) (i : ℕ) (ty : Ty) → read_child s (after_stripping u rest) (suc i) ty ≡ read_child s rest i ty
unfolding read
read_later s null none i ty = refl
read_later s null (a ▸ b) i ty = refl
read_later s (capability k) rest i ty = refl
read_later s (structure w n k) rest i ty = refl
read_later s (plain_list z count k) rest i ty = refl
read_later s (pointer_list k) rest i ty = refl
read_later s (struct_list w p k) rest i ty = refl

pub read_child-stripped : (s : Schema) (ts : Trees) (i : ℕ) (ty : Ty) → read_child s (stripped ts) i ty ≡ read_child s ts i ty
unfolding read
read_child-stripped s none i ty = refl
read_child-stripped s (t ▸ ts) zero ty = read_first s t (stripped ts) ty
read_child-stripped s (t ▸ ts) (suc i) ty = read_later s t (stripped ts) i ty ∙ read_child-stripped s ts i ty

-- cutting behind all children but nulls
read_child-resized : (s : Schema) (p : ℕ) (ts : Trees) (i : ℕ) (ty : Ty) → tree_count ts ≤ p → read_child s (resized p ts) i ty ≡ read_child s ts i ty
unfolding read
read_child-resized s p none i ty h = nothing_in s p i ty
read_child-resized s zero (t ▸ ts) i ty h = absurd (omega arith)
read_child-resized s (suc p) (t ▸ ts) zero ty h = refl
read_child-resized s (suc p) (t ▸ ts) (suc i) ty h = read_child-resized s p ts i ty (omega arith)

read_child-cut : (s : Schema) (p : ℕ) (ts : Trees) (i : ℕ) (ty : Ty) → tree_count (stripped ts) ≤ p → read_child s (resized p ts) i ty ≡ read_child s ts i ty
read_child-cut s p ts i ty h =
    ap (λ us. read_child s us i ty) (sym (resized-stripped p ts)) ∙ read_child-resized s p (stripped ts) i ty h ∙ read_child-stripped s ts i ty

-- ---- elements

element_as-alike : (s : Schema) (ty : Ty) (section : ℕ) (k : Kinds) (a b : Children) → Alike k a b → element_kinds s ty section k ≡ true → element_as s ty whole_words section a ≡ element_as s ty whole_words section b
element_as-alike s void section k a b same h = refl
element_as-alike s (plain p) section k a b same h = refl
element_as-alike s text section k a b same h = same 0 text h
element_as-alike s blob section k a b same h = same 0 blob h
element_as-alike s untyped section k a b same h = same 0 untyped h
element_as-alike s interface section k a b same h = same 0 interface h
element_as-alike s (struct id) section k a b same h = ap record_as (shape_record-alike (s.shape_of id) section k a b same h)
element_as-alike s (list ty) section k a b same h = same 0 (list ty) h

-- an element of a pointer list in kind is a pointer
pointer_as-alike : (s : Schema) (ty : Ty) (k : Kinds) (a b : Children) → Alike k a b → (expected_size ty == 6) ≡ true → element_kinds s ty 0 k ≡ true → element_as s ty (just_bits 0) 0 a ≡ element_as s ty (just_bits 0) 0 b
pointer_as-alike s void k a b same six h = refl
pointer_as-alike s (plain p) k a b same six h = refl
pointer_as-alike s text k a b same six h = same 0 text h
pointer_as-alike s blob k a b same six h = same 0 blob h
pointer_as-alike s untyped k a b same six h = same 0 untyped h
pointer_as-alike s interface k a b same six h = same 0 interface h
pointer_as-alike s (struct id) k a b same six h = absurd (cc six)
pointer_as-alike s (list ty) k a b same six h = same 0 (list ty) h

pub data IsStruct : Ty → Type 0 where
  is_struct : (id : ℕ) → IsStruct (struct id)

no_plain_size : (a b c d : Bool) → ((if a then 1 else (if b then 2 else (if c then 3 else (if d then 4 else 5)))) == 7) ≡ true → ⊥
no_plain_size true b c d h = cc
no_plain_size false true c d h = cc
no_plain_size false false true d h = cc
no_plain_size false false false true h = cc
no_plain_size false false false false h = cc

-- a list of structs in kind is one of a struct type
seven : (ty : Ty) → (expected_size ty == 7) ≡ true → IsStruct ty
seven void h = absurd (cc h)
seven (plain p) h = absurd (no_plain_size (width p == 1) (width p == 8) (width p == 16) (width p == 32) h)
seven text h = absurd (cc h)
seven blob h = absurd (cc h)
seven untyped h = absurd (cc h)
seven interface h = absurd (cc h)
seven (struct id) h = is_struct id
seven (list ty) h = absurd (cc h)

room_for_struct : (w p : ℕ) → have_room w p 7 ≡ true
room_for_struct w p = grind arith

struct_lists : (w p w' p' id : ℕ) (es es' : Elements) → is_list_of (struct_list w p es) (struct id) ≡ is_list_of (struct_list w' p' es') (struct id)
struct_lists w p w' p' id es es' = room_for_struct (64 * w) p ∙ sym (room_for_struct (64 * w') p')

same_room : (ts us : Trees) (ty : Ty) → is_list_of (pointer_list ts) ty ≡ is_list_of (pointer_list us) ty
same_room ts us ty = refl

module _ (s : Schema) where
  struct_reading-trim : (t t' : Tree) (section : ℕ) (k : Kinds) (a b : Children) → Alike k a b → trim t ≡ trim t' → (ty : Ty) → struct_kinds s ty section k ≡ true → struct_reading s t section a ty ≡ struct_reading s t' section b ty
  struct_reading-trim t t' section k a b same e void h = refl
  struct_reading-trim t t' section k a b same e (plain p) h = refl
  struct_reading-trim t t' section k a b same e text h = refl
  struct_reading-trim t t' section k a b same e blob h = refl
  struct_reading-trim t t' section k a b same e untyped h = ap opaque e
  struct_reading-trim t t' section k a b same e interface h = ap opaque e
  struct_reading-trim t t' section k a b same e (struct id) h = ap record_as (shape_record-alike (s.shape_of id) section k a b same h)
  struct_reading-trim t t' section k a b same e (list ty) h = refl

  other_reading-trim : (t t' : Tree) (ea eb : Ty → Readings) (ty : Ty) → trim t ≡ trim t' → ((e : Ty) → ty ≡ list e → list_reading (is_list_of t e) (ea e) ≡ list_reading (is_list_of t' e) (eb e)) → other_list_reading t ea ty ≡ other_list_reading t' eb ty
  other_reading-trim t t' ea eb void e h = refl
  other_reading-trim t t' ea eb (plain p) e h = refl
  other_reading-trim t t' ea eb text e h = refl
  other_reading-trim t t' ea eb blob e h = refl
  other_reading-trim t t' ea eb untyped e h = ap opaque e
  other_reading-trim t t' ea eb interface e h = ap opaque e
  other_reading-trim t t' ea eb (struct id) e h = refl
  other_reading-trim t t' ea eb (list ty) e h = h ty refl

  lists_by : (size : ℕ) (elements : Ty → Bool) (ty e : Ty) → ty ≡ list e → list_kinds size elements ty ≡ true → ((expected_size e == size) && elements e) ≡ true
  lists_by size elements ty e is h = subst (λ z. list_kinds size elements z ≡ true) is h

  alike_one : (t : Tree) → ((ty : Ty) → in_kind s t ty ≡ true → read s (trim t) ty ≡ read s t ty) → Alike (one_kind (in_kind s t)) (only_child (read s (trim t))) (only_child (read s t))
  alike_one t h zero ty k = h ty k
  alike_one t h (suc i) ty k = refl

  in_a_struct_list : (w p w' p' : ℕ) (es es' : Elements) (e : Ty) → IsStruct e → struct_elements s es' e ≡ struct_elements s es e → list_reading (is_list_of (struct_list w' p' es') e) (struct_elements s es' e) ≡ list_reading (is_list_of (struct_list w p es) e) (struct_elements s es e)
  in_a_struct_list w p w' p' es es' e (is_struct id) h =
      ap (λ b. list_reading b (struct_elements s es' (struct id))) (struct_lists w' p' w p id es' es) ∙ ap (list_reading (is_list_of (struct_list w p es) (struct id))) h

  mutual
    unfolding read trim in_kind

    pub read-trim : (t : Tree) (ty : Ty) → in_kind s t ty ≡ true → read s (trim t) ty ≡ read s t ty
    read-trim null ty h = refl
    read-trim (capability k) ty h = refl
    read-trim (structure w section kids) ty h =
        struct_reading-trim (trim (structure w section kids)) (structure w section kids) section (child_in_kind s kids) (read_child s (stripped (trim_each kids))) (read_child s kids)
        (λ i t k. read_child-stripped s (trim_each kids) i t ∙ read_child-trim kids i t k) (trim-trim (structure w section kids)) ty h
    read-trim (plain_list size count xs) ty h = refl
    read-trim (pointer_list ts) ty h =
        other_reading-trim (pointer_list (trim_each ts)) (pointer_list ts) (pointer_elements s (trim_each ts)) (pointer_elements s ts) ty (trim-trim (pointer_list ts))
        (λ e is. let both = lists_by 6 (children_in_kind s ts) ty e is h in
        ap (list_reading (is_list_of (pointer_list ts) e)) (pointer_elements-trim ts e (and_left _ (children_in_kind s ts e) both) (and_right (expected_size e == 6) _ both)))
    read-trim (struct_list w p es) ty h =
        let pointers : ℕ = common_pointers (trim_elements es) in
        let es' : Elements = with_pointers pointers (trim_elements es) in
        other_reading-trim (trim (struct_list w p es)) (struct_list w p es) (struct_elements s es') (struct_elements s es) ty (trim-trim (struct_list w p es))
        (λ e is. let both = lists_by 7 (elements_in_kind s es) ty e is h in
        in_a_struct_list w p (common_words w (trim_elements es)) pointers es es' e (seven e (and_left (expected_size e == 7) (elements_in_kind s es e) both))
        (struct_elements-trim es pointers e (omega arith) (and_right (expected_size e == 7) (elements_in_kind s es e) both)))

    pub read_child-trim : (ts : Trees) (i : ℕ) (ty : Ty) → child_in_kind s ts i ty ≡ true → read_child s (trim_each ts) i ty ≡ read_child s ts i ty
    read_child-trim none i ty h = refl
    read_child-trim (t ▸ ts) zero ty h = read-trim t ty h
    read_child-trim (t ▸ ts) (suc i) ty h = read_child-trim ts i ty h

    pub pointer_elements-trim : (ts : Trees) (ty : Ty) → (expected_size ty == 6) ≡ true → children_in_kind s ts ty ≡ true → pointer_elements s (trim_each ts) ty ≡ pointer_elements s ts ty
    pointer_elements-trim none ty six h = refl
    pointer_elements-trim (t ▸ ts) ty six h =
        ap (λ r. r ▹ pointer_elements s (trim_each ts) ty)
        (pointer_as-alike s ty (one_kind (in_kind s t)) (only_child (read s (trim t))) (only_child (read s t)) (alike_one t (read-trim t)) six (and_left (element_kinds s ty 0 (one_kind (in_kind s t))) (children_in_kind s ts ty) h))
        ∙ ap (λ rs. element_as s ty (just_bits 0) 0 (only_child (read s t)) ▹ rs) (pointer_elements-trim ts ty six (and_right (element_kinds s ty 0 (one_kind (in_kind s t))) (children_in_kind s ts ty) h))

    pub struct_elements-trim : (es : Elements) (p : ℕ) (ty : Ty) → common_pointers (trim_elements es) ≤ p → elements_in_kind s es ty ≡ true → struct_elements s (with_pointers p (trim_elements es)) ty ≡ struct_elements s es ty
    struct_elements-trim no_elements p ty le h = refl
    struct_elements-trim (element section kids es) p ty le h =
        ap (λ r. r ▹ struct_elements s (with_pointers p (trim_elements es)) ty)
        (element_as-alike s ty section (child_in_kind s kids) (read_child s (resized p (trim_each kids))) (read_child s kids)
        (λ i t k. read_child-cut s p (trim_each kids) i t (omega arith) ∙ read_child-trim kids i t k) (and_left (element_kinds s ty section (child_in_kind s kids)) (elements_in_kind s es ty) h))
        ∙ ap (λ rs. element_as s ty whole_words section (read_child s kids) ▹ rs) (struct_elements-trim es p ty (omega arith) (and_right (element_kinds s ty section (child_in_kind s kids)) (elements_in_kind s es ty) h))
