-- The writes that set a field of a group from another struct.
use Rattle.std.proofs.Common.{◌≡◌, ℕ, zero, suc, ◌/◌, ◌^◌, ◌<◌, ◌==◌, Bool, true, false, not, ◌&&◌, ◌||◌, ◌⊎◌, inl, inr, List, [], ◌∷◌, ◌++◌, Option, Some, None, slice_index, length, take, if◌then◌else◌, refl, sym, ◌∙◌, ap, subst, arith}
use Rattle.std.proofs.Math.Nat.{mod-lt}
use Rattle.std.proofs.lemmas.Nat.{pow_pos}
use lib.Bits.{bit_xor}
use Rattle.capnp_model.specs.Kinds.{TextWithoutZeroByte, WrongElementSize}
use Rattle.capnp_model.specs.Sections.{bits_at}
use Rattle.capnp_model.specs.Trees.{Tree, null, capability, structure, plain_list, pointer_list, struct_list, none, child, resized, size_of_width, plain_elements}
use Rattle.capnp_model.specs.Schemas.{PlainType, width, Ty, void, plain, text, blob, struct, list, Shape, shape, Fields, no_fields, field, Body, void_slot, plain_slot, pointer_slot, group_slot, Schema, default_or_null}
use Rattle.capnp_model.specs.Readings.{Reading, inactive, null_pointer, fault, number, text_of, record_as, Readings, Record, entry, whole_words, field_bits, discriminant, is_active, only_if, read, read_child, shape_record, fields_of, body_of, text_reading, list_reading}
use Rattle.capnp_model.specs.Accepted.{Area, pointer_area, union_area, areas_of_body}
use Rattle.capnp_model.specs.Groups.{empty_tree, source_tree, has_active, copied_record, copied_reading}
use Rattle.capnp_model.specs.Edits.{Cell, Edit, mark, put_bits, put_child, edit_if, pointer_writes, has_turn, group_writes, field_writes, body_writes, after_writes}
use Rattle.capnp_model.specs.InKind.{Kinds, in_kind, child_in_kind, fields_in_kind, body_in_kind, shape_in_kind}
use Rattle.capnp_model.proofs.lemmas.SoundShapes.{MarkApart, HasPlace, Apart}
use Rattle.capnp_model.proofs.lemmas.Bits.{bits_at-with_bits}
use Rattle.capnp_model.proofs.Writes.{discriminant_after}
use Rattle.capnp_model.proofs.Views.{body_of-same}
use Rattle.capnp_model.proofs.lemmas.Marks.{view_of}
use Rattle.capnp_model.proofs.lemmas.Paths.{read_child-is, marks_mark}
use Rattle.capnp_model.proofs.lemmas.KeptCells.{KeptAll, KeptAll-refl, KeptAll-trans, kept_views, child-with_child, kept_if_put, kept_if_written, kept_if_marked, child_in_kind-is, discriminant-kept, body_in_kind-kept}
use Rattle.capnp_model.proofs.FieldsApart.{IsIn, OfField, IsLocal, run}
use Rattle.capnp_model.proofs.ClearedGroups.{IsBlank, blank_kept, nothing_read}
use Rattle.capnp_model.proofs.lemmas.Tests.{number_is, both, or_right, and_left, and_right}

-- ---- values of the source

-- neither inactive nor null
abbrev pub IsValue : Reading → Type 0
IsValue inactive = ⊥
IsValue null_pointer = ⊥
IsValue _ = Unit {0}

abbrev pub IsPresent : Reading → Type 0
IsPresent inactive = ⊥
IsPresent _ = Unit {0}

text_value : (bs : List ℕ) → IsValue (text_reading bs)
text_value [] = tt
text_value (b ∷ bs) = by (slice_index (b ∷ bs) (length bs) == 0)
  where
    by : (t : Bool) → IsValue (if t then text_of (take (length bs) (b ∷ bs)) else fault TextWithoutZeroByte)
    by true = tt
    by false = tt

bytes_value : (t : Bool) (r : Reading) → IsValue r → IsValue (if t then r else fault WrongElementSize)
bytes_value true r h = h
bytes_value false r h = tt

list_value : (t : Bool) (rs : Readings) → IsValue (list_reading t rs)
list_value true rs = tt
list_value false rs = tt

pub read_value : (s : Schema) (t : Tree) (ty : Ty) → (t ≡ null) ⊎ IsValue (read s t ty)
unfolding read
read_value s null ty = inl refl
read_value s (capability i) void = inr tt
read_value s (capability i) _ = inr tt
read_value s (structure w n k) void = inr tt
read_value s (structure w n k) _ = inr tt
read_value s (plain_list z n k) text = inr (bytes_value (z == 2) _ (text_value (plain_elements z n k)))
read_value s (plain_list z n k) blob = inr (bytes_value (z == 2) _ tt)
read_value s (plain_list z n k) (list ty) = inr (list_value _ _)
read_value s (plain_list z n k) _ = inr tt
read_value s (pointer_list ts) (list ty) = inr (list_value _ _)
read_value s (pointer_list ts) _ = inr tt
read_value s (struct_list w p es) (list ty) = inr (list_value _ _)
read_value s (struct_list w p es) _ = inr tt

is_present : (r : Reading) → IsValue r → IsPresent r
is_present inactive h = h
is_present null_pointer h = tt
is_present _ h = tt

pub read_present : (s : Schema) (t : Tree) (ty : Ty) → IsPresent (read s t ty)
read_present s t ty = elim (read_value s t ty) [
  | inl e ↦ subst (λ z. IsPresent (read s z ty)) (sym e) (subst (λ z. IsPresent z) (sym (nothing_read s ty)) tt)
  | inr h ↦ is_present (read s t ty) h
]

body_present : (s : Schema) (b : Body) (c : Cell) → IsPresent (body_of b whole_words c.section (read_child s c.kids))
unfolding body_of
body_present s (void_slot j) c = tt
body_present s (plain_slot p at d) c = tt
body_present s (pointer_slot i ty d) c = subst (λ z. IsPresent z) (sym (read_child-is s c.kids i ty)) (read_present s (child c.kids i) ty)
body_present s (group_slot g) c = tt

-- ---- the value that is put for a pointer of the source

source_is : (s : Schema) (ty : Ty) (d t : Tree) → (t ≡ null) ⊎ (source_tree s ty d t ≡ t)
source_is s ty d null = inl refl
source_is s ty null (structure w n k) = inr refl
source_is s ty _ (structure w n k) = inr refl
source_is s ty null (capability i) = inr refl
source_is s ty _ (capability i) = inr refl
source_is s ty null (plain_list z n k) = inr refl
source_is s ty _ (plain_list z n k) = inr refl
source_is s ty null (pointer_list ts) = inr refl
source_is s ty _ (pointer_list ts) = inr refl
source_is s ty null (struct_list w p es) = inr refl
source_is s ty _ (struct_list w p es) = inr refl

mutual
  unfolding fields_in_kind

  -- where nothing below is out of kind
  pub quiet_shape : (g : Shape) (n : ℕ) (kids : Kinds) → ((i : ℕ) (ty : Ty) → kids i ty ≡ true) → shape_in_kind g n kids ≡ true
  quiet_shape (shape nid w p u fs) n kids h = quiet_fields fs (discriminant u whole_words n) n kids h

  quiet_fields : (fs : Fields) (d : Option ℕ) (n : ℕ) (kids : Kinds) → ((i : ℕ) (ty : Ty) → kids i ty ≡ true) → fields_in_kind fs d n kids ≡ true
  quiet_fields no_fields d n kids h = refl
  quiet_fields (field l m b fs) d n kids h = both _ _ (or_right (not (is_active m d)) _ (quiet_body b n kids h)) (quiet_fields fs d n kids h)

  quiet_body : (b : Body) (n : ℕ) (kids : Kinds) → ((i : ℕ) (ty : Ty) → kids i ty ≡ true) → body_in_kind b n kids ≡ true
  quiet_body (void_slot j) n kids h = refl
  quiet_body (plain_slot p at d) n kids h = refl
  quiet_body (pointer_slot i ty d) n kids h = h i ty
  quiet_body (group_slot g) n kids h = quiet_shape g n kids h

pub quiet_child : (s : Schema) (p i : ℕ) (ty : Ty) → child_in_kind s (resized p none) i ty ≡ true
unfolding in_kind
quiet_child s zero i ty = refl
quiet_child s (suc p) zero ty = refl
quiet_child s (suc p) (suc i) ty = quiet_child s p i ty

pub empty_in_kind : (s : Schema) (ty : Ty) → in_kind s (empty_tree s ty) ty ≡ true
unfolding in_kind
empty_in_kind s text = refl
empty_in_kind s blob = refl
empty_in_kind s (struct id) = quiet_shape (s.shape_of id) 0 (child_in_kind s none) (λ i e. quiet_child s 0 i e)
empty_in_kind s (list (struct id)) = refl
empty_in_kind s (list void) = refl
empty_in_kind s (list (plain p)) = ap (λ z. z && true) (number_is (size_of_width (width p)))
empty_in_kind s (list text) = refl
empty_in_kind s (list _) = refl
empty_in_kind s _ = refl

source_in_kind : (s : Schema) (ty : Ty) (d t : Tree) → in_kind s d ty ≡ true → in_kind s t ty ≡ true → in_kind s (source_tree s ty d t) ty ≡ true
source_in_kind s ty d t h k = elim (source_is s ty d t) [
  | inl e ↦ subst (λ z. in_kind s (source_tree s ty d z) ty ≡ true) (sym e) (by d h)
  | inr e ↦ subst (λ z. in_kind s z ty ≡ true) (sym e) k
]
  where
    by : (d : Tree) → in_kind s d ty ≡ true → in_kind s (source_tree s ty d null) ty ≡ true
    by null h = empty_in_kind s ty
    by _ h = h

-- ---- what a copied field is

abbrev pub copied_body : Schema → Option ℕ → Body → Cell → Reading
copied_body s m (void_slot j) from = number 0
copied_body s m (plain_slot p at d) from = number (bit_xor (bits_at at (width p) from.section) d)
copied_body s None (pointer_slot i ty d) from = read s (child from.kids i) ty
copied_body s (Some k) (pointer_slot i ty d) from = read s (source_tree s ty (default_or_null d) (child from.kids i)) ty
copied_body s m (group_slot g) from = record_as (copied_record s g (shape_record g whole_words from.section (read_child s from.kids)))

value_copied : (s : Schema) (known : Bool) (m : Option ℕ) (i : ℕ) (ty : Ty) (d : Option Tree) (x : Reading) → IsValue x → copied_reading s known m (pointer_slot i ty d) x ≡ x
unfolding copied_record
value_copied s known m i ty d inactive h = absurd h
value_copied s known m i ty d null_pointer h = absurd h
value_copied s known None i ty d (fault k) h = refl
value_copied s known (Some zero) i ty d (fault k) h = refl
value_copied s known (Some (suc j)) i ty d (fault k) h = refl
value_copied s known None i ty d _ h = refl
value_copied s known (Some zero) i ty d _ h = refl
value_copied s known (Some (suc j)) i ty d _ h = refl

null_copied : (s : Schema) (known : Bool) (k i : ℕ) (ty : Ty) (d : Option Tree) → copied_reading s known (Some k) (pointer_slot i ty d) null_pointer ≡ read s (source_tree s ty (default_or_null d) null) ty
unfolding copied_record
null_copied s known zero i ty d = refl
null_copied s known (suc k) i ty d = refl

pub copied_is : (s : Schema) (known : Bool) (m : Option ℕ) (b : Body) (from : Cell) → copied_reading s known m b (body_of b whole_words from.section (read_child s from.kids)) ≡ copied_body s m b from
unfolding copied_record body_of
copied_is s known None (void_slot j) from = refl
copied_is s known (Some zero) (void_slot j) from = refl
copied_is s known (Some (suc k)) (void_slot j) from = refl
copied_is s known None (plain_slot p at d) from = refl
copied_is s known (Some zero) (plain_slot p at d) from = refl
copied_is s known (Some (suc k)) (plain_slot p at d) from = refl
copied_is s known None (group_slot g) from = refl
copied_is s known (Some zero) (group_slot g) from = refl
copied_is s known (Some (suc k)) (group_slot g) from = refl
copied_is s known None (pointer_slot i ty d) from =
    ap (copied_reading s known None (pointer_slot i ty d)) (read_child-is s from.kids i ty) ∙ by (child from.kids i)
  where
    by : (t : Tree) → copied_reading s known None (pointer_slot i ty d) (read s t ty) ≡ read s t ty
    by t = elim (read_value s t ty) [
      | inl e ↦ subst (λ z. copied_reading s known None (pointer_slot i ty d) (read s z ty) ≡ read s z ty) (sym e)
          (subst (λ z. copied_reading s known None (pointer_slot i ty d) z ≡ z) (sym (nothing_read s ty)) refl)
      | inr h ↦ value_copied s known None i ty d (read s t ty) h
    ]
copied_is s known (Some k) (pointer_slot i ty d) from =
    ap (copied_reading s known (Some k) (pointer_slot i ty d)) (read_child-is s from.kids i ty) ∙ by (child from.kids i)
  where
    by : (t : Tree) → copied_reading s known (Some k) (pointer_slot i ty d) (read s t ty) ≡ read s (source_tree s ty (default_or_null d) t) ty
    by t = elim (read_value s t ty) [
      | inl e ↦ subst (λ z. copied_reading s known (Some k) (pointer_slot i ty d) (read s z ty) ≡ read s (source_tree s ty (default_or_null d) z) ty) (sym e)
          (ap (copied_reading s known (Some k) (pointer_slot i ty d)) (nothing_read s ty) ∙ null_copied s known k i ty d)
      | inr h ↦ value_copied s known (Some k) i ty d (read s t ty) h ∙ elim (source_is s ty (default_or_null d) t) [
        | inl e ↦ absurd (subst (λ z. IsValue z) (nothing_read s ty) (subst (λ z. IsValue (read s z ty)) e h))
        | inr e ↦ ap (λ z. read s z ty) (sym e)
      ]
    ]

pub record Copied (s : Schema) (from : Cell) (m : Option ℕ) (b : Body) (c : Cell) : Type 0 where
  pub reads : body_of b whole_words c.section (read_child s c.kids) ≡ copied_body s m b from
  pub kinds : body_in_kind b c.section (child_in_kind s c.kids) ≡ true

pub Copied-local : (s : Schema) (from : Cell) → IsLocal (Copied s from)
Copied-local s from m b c c' k h = record {
  reads = sym (body_of-same b (view_of s c) (view_of s c') (kept_views s (areas_of_body b) c c' k)) ∙ h.reads;
  kinds = sym (body_in_kind-kept s b c c' k) ∙ h.kinds;
}

-- a pointer that is no member's is null before
abbrev pub IsReady : OfField
IsReady None b c = IsBlank b c
IsReady (Some k) b c = Unit {0}

pub Ready-local : IsLocal IsReady
Ready-local None b c c' k h = blank_kept b c c' k h
Ready-local (Some j) b c c' k h = tt

-- ---- the writes of a field

abbrev pub put_tree : Schema → Ty → Tree → Option ℕ → Tree → Tree
put_tree s ty d None t = t
put_tree s ty d (Some k) t = source_tree s ty d t

-- what stands behind the mark
pub behind_mark : (s : Schema) (u m : Option ℕ) (b : Body) (c c' : Cell) → HasPlace u m whole_words → Apart (areas_of_body b) (union_area u)
    → ((ys : List Area) → Apart (areas_of_body b) ys → KeptAll ys (mark u m c) c')
    → ((ys : List Area) → MarkApart u m ys → Apart (areas_of_body b) ys → KeptAll ys c c') × (discriminant u whole_words c'.section ≡ discriminant_after m (discriminant u whole_words c.section))
behind_mark s u m b c c' place off keeps = (
  (λ ys h k. KeptAll-trans ys c (mark u m c) c' (kept_if_marked u m c place ys h) (keeps ys k)),
  sym (discriminant-kept u (mark u m c) c' (keeps (union_area u) off)) ∙ marks_mark s u m c place,
)

-- what the writes of a field do
abbrev pub CopiesBody : Schema → Option ℕ → Cell → Option ℕ → Body → Cell → Cell → Type 0
CopiesBody s u from m b c c' =
    Copied s from m b c' × ((ys : List Area) → MarkApart u m ys → Apart (areas_of_body b) ys → KeptAll ys c c') × (discriminant u whole_words c'.section ≡ discriminant_after m (discriminant u whole_words c.section))

none_marked : (u : Option ℕ) (c : Cell) → mark u None c ≡ c
none_marked None c = refl
none_marked (Some at) c = refl

-- the child after the writes of a pointer
module _ (s : Schema) (u : Option ℕ) (i : ℕ) (ty : Ty) (d : Tree) (c : Cell) where
  picked : (t : Tree) → (t ≡ null) ⊎ (source_tree s ty d t ≡ t) → (t ≡ null → ⊥) → source_tree s ty d t ≡ t
  picked t o other = elim o [ inl e ↦ absurd (other e) | inr e ↦ e ]

  abbrev PutsChild : Option ℕ → Tree → Cell → Type 0
  PutsChild m t c' = (child c'.kids i ≡ put_tree s ty d m t) × ((ys : List Area) → Apart (pointer_area i ∷ []) ys → KeptAll ys (mark u m c) c')

  puts_one : (m : Option ℕ) (t t' : Tree) → t' ≡ put_tree s ty d m t → PutsChild m t (put_child i t' (mark u m c))
  puts_one m t t' e = (child-with_child (mark u m c).kids i t' ∙ e, (λ ys k. kept_if_put (mark u m c) i t' ys k.0))

  puts_child : (m : Option ℕ) (t : Tree) → IsReady m (pointer_slot i ty None) c → PutsChild m t (after_writes (pointer_writes s m i ty d (mark u m) t) c)
  puts_child (Some k) t ready = puts_one (Some k) t (source_tree s ty d t) refl
  puts_child None null ready = (ready, (λ ys k. subst (λ z. KeptAll ys z c) (sym (none_marked u c)) (KeptAll-refl ys c)))
  puts_child None (capability j) ready = puts_one None (capability j) (source_tree s ty d (capability j)) (picked (capability j) (source_is s ty d (capability j)) (λ e. cc e))
  puts_child None (structure w n k) ready = puts_one None (structure w n k) (source_tree s ty d (structure w n k)) (picked (structure w n k) (source_is s ty d (structure w n k)) (λ e. cc e))
  puts_child None (plain_list z n k) ready = puts_one None (plain_list z n k) (source_tree s ty d (plain_list z n k)) (picked (plain_list z n k) (source_is s ty d (plain_list z n k)) (λ e. cc e))
  puts_child None (pointer_list ts) ready = puts_one None (pointer_list ts) (source_tree s ty d (pointer_list ts)) (picked (pointer_list ts) (source_is s ty d (pointer_list ts)) (λ e. cc e))
  puts_child None (struct_list w p es) ready = puts_one None (struct_list w p es) (source_tree s ty d (struct_list w p es)) (picked (struct_list w p es) (source_is s ty d (struct_list w p es)) (λ e. cc e))

body_fits : (at w : ℕ) (n : ℕ) → bits_at at w n < 2 ^ w
body_fits at w n = mod-lt (n / 2 ^ at) (pow_pos w)

pub plain_copied : (s : Schema) (u : Option ℕ) (from : Cell) (m : Option ℕ) (p : PlainType) (at d : ℕ) (c : Cell) → HasPlace u m whole_words → Apart (areas_of_body (plain_slot p at d)) (union_area u)
    → CopiesBody s u from m (plain_slot p at d) c (put_bits at (width p) (field_bits whole_words from.section at (width p)) (mark u m c))
unfolding body_of areas_of_body fields_in_kind
plain_copied s u from m p at d c place off =
    let w = width p in
    let x = bits_at at w from.section in
    let k = mark u m c in
    let rest = behind_mark s u m (plain_slot p at d) c (put_bits at w x k) place off (λ ys h. kept_if_written k at w x (body_fits at w from.section) ys h.0) in
    (record { reads = ap (λ z. number (bit_xor z d)) (bits_at-with_bits at w x k.section (body_fits at w from.section)); kinds = refl }, rest.0, rest.1)

put_in_kind : (s : Schema) (ty : Ty) (d : Tree) (m : Option ℕ) (t : Tree) → in_kind s d ty ≡ true → in_kind s t ty ≡ true → in_kind s (put_tree s ty d m t) ty ≡ true
put_in_kind s ty d None t h k = k
put_in_kind s ty d (Some j) t h k = source_in_kind s ty d t h k

put_reads : (s : Schema) (m : Option ℕ) (i : ℕ) (ty : Ty) (d : Option Tree) (from : Cell) → read s (put_tree s ty (default_or_null d) m (child from.kids i)) ty ≡ copied_body s m (pointer_slot i ty d) from
put_reads s None i ty d from = refl
put_reads s (Some k) i ty d from = refl

ready_at : (m : Option ℕ) (i : ℕ) (ty : Ty) (d : Option Tree) (c : Cell) → IsReady m (pointer_slot i ty d) c → IsReady m (pointer_slot i ty None) c
ready_at None i ty d c h = h
ready_at (Some k) i ty d c h = tt

pub pointer_copied : (s : Schema) (u : Option ℕ) (from : Cell) (m : Option ℕ) (i : ℕ) (ty : Ty) (d : Option Tree) (c : Cell) → HasPlace u m whole_words → Apart (areas_of_body (pointer_slot i ty d)) (union_area u)
    → in_kind s (default_or_null d) ty ≡ true → in_kind s (child from.kids i) ty ≡ true → IsReady m (pointer_slot i ty d) c
    → CopiesBody s u from m (pointer_slot i ty d) c (after_writes (pointer_writes s m i ty (default_or_null d) (mark u m) (child from.kids i)) c)
unfolding body_of areas_of_body fields_in_kind
pointer_copied s u from m i ty d c place off default_kind kind ready =
    let t = child from.kids i in
    let c' = after_writes (pointer_writes s m i ty (default_or_null d) (mark u m) t) c in
    let puts = puts_child s u i ty (default_or_null d) c m t (ready_at m i ty d c ready) in
    let rest = behind_mark s u m (pointer_slot i ty d) c c' place off puts.1 in (
      record {
        reads = read_child-is s c'.kids i ty ∙ ap (λ z. read s z ty) puts.0 ∙ put_reads s m i ty d from;
        kinds = child_in_kind-is s c'.kids i ty ∙ ap (λ z. in_kind s z ty) puts.0 ∙ put_in_kind s ty (default_or_null d) m t default_kind kind;
      },
      rest.0,
      rest.1,
    )

-- ---- the members that the source has

-- a field is the source's active member
abbrev pub knows : Fields → Option ℕ → Bool
knows no_fields d = false
knows (field n None b fs) d = knows fs d
knows (field n (Some k) b fs) d = is_active (Some k) d || knows fs d

active_if_present : (n l : List ℕ) (k : ℕ) (b : Body) (fs : Fields) (x : Reading) (rest : Record) → IsPresent x → has_active (field n (Some k) b fs) (entry l x rest) ≡ true
active_if_present n l k b fs inactive rest h = absurd h
active_if_present n l k b fs null_pointer rest h = refl
active_if_present n l k b fs _ rest h = refl

pub has_active-knows : (s : Schema) (fs : Fields) (d : Option ℕ) (c : Cell) → has_active fs (fields_of fs d whole_words c.section (read_child s c.kids)) ≡ knows fs d
unfolding shape_record
has_active-knows s no_fields d c = refl
has_active-knows s (field n None b fs) d c = has_active-knows s fs d c
has_active-knows s (field n (Some k) b fs) d c = by (is_active (Some k) d) (has_active-knows s fs d c)
  where
    x : Reading
    x = body_of b whole_words c.section (read_child s c.kids)

    rest : Record
    rest = fields_of fs d whole_words c.section (read_child s c.kids)

    by : (t : Bool) → has_active fs rest ≡ knows fs d → has_active (field n (Some k) b fs) (entry n (only_if t x) rest) ≡ (t || knows fs d)
    by true e = active_if_present n n k b fs x rest (body_present s b c)
    by false e = e

-- ---- the members' turn and the others'

member_turn : (m active : Option ℕ) → has_turn true m active ≡ true → is_active m active ≡ true
member_turn None active h = refl
member_turn (Some k) active h = h

pub turn_active : (t : Bool) (m active : Option ℕ) → has_turn t m active ≡ true → is_active m active ≡ true
turn_active true m active h = member_turn m active h
turn_active false None active h = refl
turn_active false (Some k) active h = absurd (cc h)

same_active : (active : Option ℕ) (k j : ℕ) → is_active (Some k) active ≡ true → is_active (Some j) active ≡ true → (k == j) ≡ true
same_active None k j h l = absurd (cc h)
same_active (Some a) k j h l = grind arith

pub one_turn : (t : Bool) (active : Option ℕ) (k j : ℕ) → has_turn t (Some k) active ≡ true → has_turn t (Some j) active ≡ true → (k == j) ≡ true
one_turn true active k j h l = same_active active k j h l
one_turn false active k j h l = absurd (cc h)

pub active_is : (active : Option ℕ) (k : ℕ) → is_active (Some k) active ≡ true → Some k ≡ active
active_is None k h = absurd (cc h)
active_is (Some a) k h = ap Some (same k a h)
  where
    same : (k a : ℕ) → (k == a) ≡ true → k ≡ a
    same k a h = grind arith

pub kind_in : (s : Schema) (fs : Fields) (d : Option ℕ) (c : Cell) (m : Option ℕ) (b : Body) → fields_in_kind fs d c.section (child_in_kind s c.kids) ≡ true → IsIn m b fs → is_active m d ≡ true → body_in_kind b c.section (child_in_kind s c.kids) ≡ true
unfolding fields_in_kind
kind_in s no_fields d c m b h i a = absurd i
kind_in s (field n k x fs) d c m b h (inl e) a =
    let first : (not (is_active k d) || body_in_kind x c.section (child_in_kind s c.kids)) ≡ true = and_left (not (is_active k d) || body_in_kind x c.section (child_in_kind s c.kids)) (fields_in_kind fs d c.section (child_in_kind s c.kids)) h in
    let on : is_active k d ≡ true = ap (λ z. is_active z d) (sym e.0) ∙ a in
    ap (λ z. body_in_kind z c.section (child_in_kind s c.kids)) e.1 ∙ ap (λ z. not z || body_in_kind x c.section (child_in_kind s c.kids)) (sym on) ∙ first
kind_in s (field n k x fs) d c m b h (inr i) a = kind_in s fs d c m b (and_right (not (is_active k d) || body_in_kind x c.section (child_in_kind s c.kids)) (fields_in_kind fs d c.section (child_in_kind s c.kids)) h) i a

pub after_both : (xs ys : List Edit) (c : Cell) → after_writes (xs ++ ys) c ≡ after_writes ys (after_writes xs c)
after_both [] ys c = refl
after_both (f ∷ xs) ys c = after_both xs ys (f c)

unfoldable pub copy_op : Schema → Option ℕ → Cell → Option ℕ → Body → Edit
copy_op s u from m b = after_writes (body_writes s b m (mark u m) from)

pub runs_written : (s : Schema) (t : Bool) (fs : Fields) (u active : Option ℕ) (from c : Cell) → after_writes (field_writes s t fs u active from) c ≡ run (λ m. has_turn t m active) (copy_op s u from) fs c
unfolding group_writes copy_op
runs_written s t no_fields u active from c = refl
runs_written s t (field n m b fs) u active from c = by (has_turn t m active) (λ d. runs_written s t fs u active from d)
  where
    by : (o : Bool) → ((d : Cell) → after_writes (field_writes s t fs u active from) d ≡ run (λ m. has_turn t m active) (copy_op s u from) fs d)
        → after_writes (elim o as (λ (x : Bool). List Edit) [ true ↦ body_writes s b m (mark u m) from ++ field_writes s t fs u active from | false ↦ field_writes s t fs u active from ]) c
        ≡ run (λ m. has_turn t m active) (copy_op s u from) fs (edit_if o (copy_op s u from m b) c)
    by true more = after_both (body_writes s b m (mark u m) from) (field_writes s t fs u active from) c ∙ more (after_writes (body_writes s b m (mark u m) from) c)
    by false more = more c
