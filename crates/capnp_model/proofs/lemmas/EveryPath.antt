-- Every call: where the record machine does not refuse, the record of the edited tree is its record, and lists stay in kind.
use Rattle.std.proofs.Common.{◌≡◌, ℕ, Bool, true, false, ◌⊎◌, inl, inr, List, [], ◌∷◌, Option, refl, sym, ◌∙◌, ap, subst, max}
use Rattle.capnp_model.specs.Trees.{Tree, null, capability, structure, plain_list, pointer_list, struct_list, Trees, none, child, with_child, resized, padded_to}
use Rattle.capnp_model.specs.Schemas.{Ty, void, plain, text, blob, untyped, interface, struct, list, Shape, shape, Fields, no_fields, field, Body, void_slot, plain_slot, pointer_slot, group_slot, Schema, default_or_null}
use Rattle.capnp_model.specs.Readings.{Reading, inactive, null_pointer, fault, list_of, record_as, Readings, no_readings, Record, whole_words, discriminant, is_active, only_if, shape_record, body_of, element_as, read, read_child, record_by_shape}
use Rattle.capnp_model.specs.Printing.{fields_in}
use Rattle.capnp_model.specs.Accepted.{Area, are_apart, union_area, areas_of, areas_of_fields, areas_of_body, has_no_overlap, fields_are_apart}
use Rattle.capnp_model.specs.Calls.{Step, name, index, Verb, element_content}
use Rattle.capnp_model.specs.Steps.{Outcome, done, Target, no_target, target, target_of, entry_of, replaced, at_target, on_name, on_index, or_empty, opened, through_value, through_field, step_field, step_element, step_path}
use Rattle.capnp_model.specs.Edits.{Cell, Edit, put_child, opened_tree, edit_target, edit_named, edit_struct, edit_value, edit_through, edit_through_element, edit_field, edit_element, write_path}
use Rattle.capnp_model.specs.InKind.{element_kinds, in_kind, child_in_kind, fields_in_kind, body_in_kind, shape_in_kind}
use Rattle.capnp_model.specs.InKindCalls.{defaults_in_kind, at_slot, at_value, end_at, step_into, next_end, end_of}
use Rattle.capnp_model.specs.NamedPaths.{IsOpen}
use Rattle.capnp_model.specs.CallRuns.{IsGiven, view_of_value}
use Rattle.capnp_model.specs.Views.{SameAll}
use Rattle.capnp_model.proofs.lemmas.SoundShapes.{Apart, IsFine}
use Rattle.capnp_model.proofs.lemmas.FineShapes.{fine_shape, found}
use Rattle.capnp_model.proofs.lemmas.Marks.{view_of, same_everywhere, SameAll-trans, read_child-padded_to}
use Rattle.capnp_model.proofs.lemmas.Paths.{struct-replaced, read_child-with_child, read_child-is, mark_apart, field_apart, unmap, IsMapped, mapped, Opens, open_default, record_is, entry_of-fields_of, nothing_in, still_active, IsThrough, through, to_through, Apart-left, Apart-right}
use Rattle.capnp_model.proofs.lemmas.KeptCells.{kept_views, KeptAll, child-with_child, kept_if_put, child_in_kind-is, discriminant-kept, IsPut, is_done, fields_stay_in_kind}
use Rattle.capnp_model.proofs.FieldsApart.{IsIn}
use Rattle.capnp_model.proofs.ClearedGroups.{nothing_read, nothing_in_kind}
use Rattle.capnp_model.proofs.CopiedFields.{IsValue, read_value, IsPresent, read_present, quiet_shape, quiet_child, kind_in}
use Rattle.capnp_model.proofs.lemmas.ListElements.{IsReal, IsElement, ChangesElement, child_in_kind-padded_to}
use Rattle.capnp_model.proofs.ListsInKind.{list_law}
use Rattle.capnp_model.proofs.lemmas.ReachedStructs.{IsReached, IsSound, IsSoundBody, IsWithin, sound_target}
use Rattle.capnp_model.proofs.KindsOfContents.{verb_in_kind}
use Rattle.capnp_model.proofs.ElementEnds.{element_after, element_content_kinds, element_fits, pointer_put, put_law}
use Rattle.capnp_model.proofs.FieldEnds.{field_leaf}
use Rattle.capnp_model.proofs.lemmas.Tests.{and_right}

-- ---- opened pointers

pub opened_null : (ty : Ty) (t : Tree) → opened_tree ty null t ≡ t
opened_null ty null = refl
opened_null ty _ = refl

value_opened : (s : Schema) (ty : Ty) (d : Tree) (x : Reading) → IsValue x → (opened s ty d x ≡ x) × (or_empty s ty x ≡ x)
value_opened s ty d inactive h = absurd h
value_opened s ty d null_pointer h = absurd h
value_opened s ty d (fault k) h = (refl, refl)
value_opened s ty d _ h = (refl, refl)

valued : (s : Schema) (ty : Ty) (d t : Tree) → (t ≡ null) ⊎ IsValue (read s t ty) → (t ≡ null → ⊥) → opened s ty d (read s t ty) ≡ or_empty s ty (read s t ty)
valued s ty d t o other = elim o [ inl e ↦ absurd (other e) | inr h ↦ let two = value_opened s ty d (read s t ty) h in two.0 ∙ sym two.1 ]

no_null : (s : Schema) (ty : Ty) (d t : Tree) → opened s ty d (read s t ty) ≡ or_empty s ty (read s (opened_tree ty d t) ty)
no_null s ty d null = ap (opened s ty d) (nothing_read s ty)
no_null s ty d (capability i) = valued s ty d (capability i) (read_value s (capability i) ty) (λ e. cc e)
no_null s ty d (structure w n k) = valued s ty d (structure w n k) (read_value s (structure w n k) ty) (λ e. cc e)
no_null s ty d (plain_list z n k) = valued s ty d (plain_list z n k) (read_value s (plain_list z n k) ty) (λ e. cc e)
no_null s ty d (pointer_list ts) = valued s ty d (pointer_list ts) (read_value s (pointer_list ts) ty) (λ e. cc e)
no_null s ty d (struct_list w p es) = valued s ty d (struct_list w p es) (read_value s (struct_list w p es) ty) (λ e. cc e)

opened_in_kind : (s : Schema) (ty : Ty) (d t : Tree) → in_kind s d ty ≡ true → in_kind s t ty ≡ true → in_kind s (opened_tree ty d t) ty ≡ true
opened_in_kind s ty d null h k = h
opened_in_kind s ty d _ h k = k

-- ---- a struct or a group on the way

target_in : (n : List ℕ) (fs : Fields) (member : Option ℕ) (body : Body) → target_of n fs ≡ target member body → IsIn member body fs
target_in n no_fields member body e = absurd (cc e)
target_in n (field l m b fs) member body e = found (λ k c. IsIn k c (field l m b fs)) n member body l m b fs e (inl (refl, refl)) (λ k. inr (target_in n fs member body k))

pub record IsWrittenCell (s : Schema) (g : Shape) (c c' : Cell) (r : Record) : Type 0 where
  pub reads : shape_record g whole_words c'.section (read_child s c'.kids) ≡ r
  pub keeps : (ys : List Area) → Apart (areas_of g) ys → KeptAll ys c c'
  pub kinds : shape_in_kind g c'.section (child_in_kind s c'.kids) ≡ true

-- a struct's lists are in kind; nothing is asked of a null
abbrev pub TreeInKind : Schema → Shape → Tree → Type 0
TreeInKind s g (structure w n k) = shape_in_kind g n (child_in_kind s k) ≡ true
TreeInKind s g _ = Unit {0}

-- what stands apart from the shape reads as before
abbrev pub IsBesideKept : Schema → Shape → Tree → Tree → Type 0
IsBesideKept s g t t' = (ys : List Area) → Apart (areas_of g) ys → SameAll ys (view_of_value s t) (view_of_value s t')

-- what the calls behind a step do to a field, and to an element
abbrev pub FieldMeets : Schema → (ℕ → Type 0) → Verb → List Step → Type 0
FieldMeets s R verb path = (n : List ℕ) (u member : Option ℕ) (body : Body) (fs : Fields) (c : Cell) (r : Reading) → IsFine s n u member body fs → IsSoundBody s R body
    → (is_active member (discriminant u whole_words c.section) ≡ true → body_in_kind body c.section (child_in_kind s c.kids) ≡ true)
    → verb_in_kind s verb (end_of s path (at_slot body)) ≡ true
    → step_field s path verb body (only_if (is_active member (discriminant u whole_words c.section)) (body_of body whole_words c.section (read_child s c.kids))) ≡ done r
    → IsPut s u member body c (edit_field s path verb u member body c) r

abbrev pub ElementMeets : Schema → (ℕ → Type 0) → Verb → List Step → Type 0
ElementMeets s R verb path = (ty : Ty) → IsReal R ty → verb_in_kind s verb (end_of s path (at_value ty)) ≡ true → ChangesElement s ty (step_element s path verb ty) (edit_element s path verb ty)

module _ (s : Schema) (R : ℕ → Type 0) (verb : Verb) (path : List Step) (meets : FieldMeets s R verb path) (n : List ℕ) where
  in_cell : (nid words pointers : ℕ) (u : Option ℕ) (fs : Fields) (c : Cell) (r : Record) → IsSound s R (shape nid words pointers u fs) → shape_in_kind (shape nid words pointers u fs) c.section (child_in_kind s c.kids) ≡ true
      → (t : Target) → target_of n fs ≡ t → verb_in_kind s verb (end_of s path (end_at t)) ≡ true
      → at_target (step_field s path verb) n fs (shape_record (shape nid words pointers u fs) whole_words c.section (read_child s c.kids)) t ≡ done r
      → IsWrittenCell s (shape nid words pointers u fs) c (edit_target (edit_field s path verb) u t c) r
  unfolding shape_record areas_of fields_in_kind has_no_overlap defaults_in_kind
  in_cell nid words pointers u fs c r sound kinds no_target e value h = absurd (cc h)
  in_cell nid words pointers u fs c r sound kinds (target member body) e value h = by_field (unmap _ _ _ h)
    where
      by_field : IsMapped (λ x. replaced n member x fs (shape_record (shape nid words pointers u fs) whole_words c.section (read_child s c.kids)))
          (step_field s path verb body (entry_of n (shape_record (shape nid words pointers u fs) whole_words c.section (read_child s c.kids)))) r
          → IsWrittenCell s (shape nid words pointers u fs) c (edit_field s path verb u member body c) r
      by_field (mapped x k l) =
          let c' = edit_field s path verb u member body c in
          let read_as = entry_of-fields_of n fs member body (discriminant u whole_words c.section) whole_words c.section (read_child s c.kids) e in
          let f = (fine_shape s (shape nid words pointers u fs) sound.good sound.apart).0 n member body e in
          let apart : fields_are_apart fs ≡ true = and_right (are_apart (union_area u) (areas_of_fields fs)) (fields_are_apart fs) sound.apart in
          let b = sound_target s R u n fs member body e sound.good apart sound.defaults sound.real in
          let d : IsPut s u member body c c' x =
          meets n u member body fs c x f b (λ on. kind_in s fs (discriminant u whole_words c.section) c member body kinds (target_in n fs member body e) on) value (ap (step_field s path verb body) (sym read_as) ∙ k) in
          record {
            reads = struct-replaced s u member body c c' x (is_done s u member body c c' x d) n nid words pointers fs f.alone ∙ l;
            keeps = λ ys off. d.keeps ys (mark_apart u member ys (Apart-left (union_area u) (areas_of_fields fs) ys off)) (field_apart n fs member body ys e (Apart-right (union_area u) (areas_of_fields fs) ys off));
            kinds = ap (λ z. fields_in_kind fs z c'.section (child_in_kind s c'.kids)) d.marks ∙ fields_stay_in_kind s u member body c c' x d n fs (discriminant u whole_words c.section) f.alone kinds;
          }

  -- null children behind the others, or a struct made of a null
  same_padded : (nid words pointers : ℕ) (u : Option ℕ) (fs : Fields) (section p : ℕ) (ts : Trees) → shape_record (shape nid words pointers u fs) whole_words section (read_child s (padded_to p ts)) ≡ shape_record (shape nid words pointers u fs) whole_words section (read_child s ts)
  same_padded nid words pointers u fs section p ts = ap (shape_record (shape nid words pointers u fs) whole_words section) (λ k i ty. read_child-padded_to s p ts i ty k)

  same_kinds : (g : Shape) (section p : ℕ) (ts : Trees) → shape_in_kind g section (child_in_kind s (padded_to p ts)) ≡ shape_in_kind g section (child_in_kind s ts)
  same_kinds g section p ts = ap (shape_in_kind g section) (λ k i ty. child_in_kind-padded_to s p ts i ty k)

  same_resized : (nid words pointers : ℕ) (u : Option ℕ) (fs : Fields) (p : ℕ) → shape_record (shape nid words pointers u fs) whole_words 0 (read_child s (resized p none)) ≡ record_by_shape s (shape nid words pointers u fs) null
  unfolding record_by_shape
  same_resized nid words pointers u fs p = ap (shape_record (shape nid words pointers u fs) whole_words 0) (λ k i ty. nothing_in s p i ty k)

  beside_nothing : (g : Shape) (words p : ℕ) (c' : Cell) → ((ys : List Area) → Apart (areas_of g) ys → KeptAll ys (record { section = 0; kids = resized p none }) c') → IsBesideKept s g null (structure words c'.section c'.kids)
  beside_nothing g words p c' keeps ys off =
      let c : Cell = record { section = 0; kids = resized p none } in
      SameAll-trans ys (view_of_value s null) (view_of s c) (view_of s c') (same_everywhere ys (view_of_value s null) (view_of s c) refl refl (λ i ty. sym (nothing_in s p i ty))) (kept_views s ys c c' (keeps ys off))

  beside_struct : (g : Shape) (w words section p : ℕ) (ts : Trees) (c' : Cell) → ((ys : List Area) → Apart (areas_of g) ys → KeptAll ys (record { section = section; kids = padded_to p ts }) c')
      → IsBesideKept s g (structure w section ts) (structure words c'.section c'.kids)
  beside_struct g w words section p ts c' keeps ys off =
      let c : Cell = record { section = section; kids = padded_to p ts } in
      SameAll-trans ys (view_of_value s (structure w section ts)) (view_of s c) (view_of s c') (same_everywhere ys (view_of_value s (structure w section ts)) (view_of s c) refl refl (λ i ty. sym (read_child-padded_to s p ts i ty))) (kept_views s ys c c' (keeps ys off))

  -- at an opened pointer
  in_tree : (g : Shape) (t : Tree) (r : Record) → IsSound s R g → IsOpen t → TreeInKind s g t → verb_in_kind s verb (end_of s path (end_at (target_of n (fields_in g)))) ≡ true
      → on_name (step_field s path verb) n (fields_in g) (record_by_shape s g t) ≡ done r
      → (record_by_shape s g (edit_struct (edit_field s path verb) n g t) ≡ r) × TreeInKind s g (edit_struct (edit_field s path verb) n g t) × IsBesideKept s g t (edit_struct (edit_field s path verb) n g t)
  unfolding record_by_shape
  in_tree (shape nid words pointers u fs) null r sound is_open kind value h =
      let d = in_cell nid words pointers u fs (record { section = 0; kids = resized pointers none }) r sound (quiet_shape (shape nid words pointers u fs) 0 (child_in_kind s (resized pointers none)) (quiet_child s pointers)) (target_of n fs) refl value
      (ap (λ z. at_target (step_field s path verb) n fs z (target_of n fs)) (same_resized nid words pointers u fs pointers) ∙ h) in
      (d.reads, d.kinds, beside_nothing (shape nid words pointers u fs) words pointers (edit_named (edit_field s path verb) n u fs (record { section = 0; kids = resized pointers none })) d.keeps)
  in_tree (shape nid words pointers u fs) (structure w section ts) r sound is_open kind value h =
      let d = in_cell nid words pointers u fs (record { section = section; kids = padded_to pointers ts }) r sound (same_kinds (shape nid words pointers u fs) section pointers ts ∙ kind) (target_of n fs) refl value
      (ap (λ z. at_target (step_field s path verb) n fs z (target_of n fs)) (same_padded nid words pointers u fs section pointers ts) ∙ h) in
      (d.reads, d.kinds, beside_struct (shape nid words pointers u fs) w (max words w) section pointers ts (edit_named (edit_field s path verb) n u fs (record { section = section; kids = padded_to pointers ts })) d.keeps)
  in_tree g (capability k) r sound is_open kind value h = absurd is_open
  in_tree g (plain_list k count xs) r sound is_open kind value h = absurd is_open
  in_tree g (pointer_list ts) r sound is_open kind value h = absurd is_open
  in_tree g (struct_list w p es) r sound is_open kind value h = absurd is_open

-- ---- through a value

-- an index into a list
pub data IsIndexed (s : Schema) (k : ℕ) (f : Ty → Reading → Outcome Reading) (ty : Ty) (x r : Reading) : Type 0 where
  indexed : (e : Ty) (old new : Readings) → ty ≡ list e → x ≡ list_of old → on_index (f e) k old ≡ done new → list_of new ≡ r → IsIndexed s k f ty x r

to_indexed : (s : Schema) (k : ℕ) (f : Body → Reading → Outcome Reading) (e : Ty → Reading → Outcome Reading) (ty : Ty) (x r : Reading) → through_value s (index k) f e ty x ≡ done r → IsIndexed s k e ty x r
to_indexed s k f e ty (fault y) r h = absurd (cc h)
to_indexed s k f e (list ty) (list_of old) r h = by (unmap list_of (on_index (e ty) k old) r h)
  where
    by : IsMapped list_of (on_index (e ty) k old) r → IsIndexed s k e (list ty) (list_of old) r
    by (mapped new l m) = indexed ty old new refl refl l m
to_indexed s k f e _ _ r h = absurd (cc h)

-- the list that is opened
list_opened : (s : Schema) (e : Ty) (t : Tree) (k : ℕ) (f : Reading → Outcome Reading) (old new : Readings) → or_empty s (list e) (read s t (list e)) ≡ list_of old → on_index f k old ≡ done new → read s t (list e) ≡ list_of old
list_opened s e t k f old new h is = elim (read_value s t (list e)) [
  | inl gone ↦ absurd (empty (ap (or_empty s (list e)) (sym (nothing_read s (list e)) ∙ ap (λ z. read s z (list e)) (sym gone)) ∙ h))
  | inr value ↦ sym (value_opened s (list e) null (read s t (list e)) value).1 ∙ h
]
  where
    empty : list_of no_readings ≡ list_of old → ⊥
    empty q = let none' : no_readings ≡ old = cc q in cc (ap (on_index f k) none' ∙ is)

pub record IsValueDone (s : Schema) (ty : Ty) (t : Tree) (r : Reading) : Type 0 where
  pub reads : read s t ty ≡ r
  pub kinds : in_kind s t ty ≡ true

edited_struct : (s : Schema) (id : ℕ) (f : Option ℕ → Option ℕ → Body → Edit) (l : List ℕ) (g : Shape) (t : Tree) → IsOpen t → TreeInKind s (s.shape_of id) (edit_struct f l g t)
    → (read s (edit_struct f l g t) (struct id) ≡ record_as (record_by_shape s (s.shape_of id) (edit_struct f l g t))) × (in_kind s (edit_struct f l g t) (struct id) ≡ true)
unfolding read record_by_shape in_kind
edited_struct s id f l (shape nid w p u fs) null h k = (refl, k)
edited_struct s id f l (shape nid w p u fs) (structure words n ts) h k = (refl, k)
edited_struct s id f l g (capability k) h kind = absurd h
edited_struct s id f l g (plain_list k count xs) h kind = absurd h
edited_struct s id f l g (pointer_list ts) h kind = absurd h
edited_struct s id f l g (struct_list w p es) h kind = absurd h

tree_kind : (s : Schema) (id : ℕ) (t : Tree) → IsOpen t → in_kind s t (struct id) ≡ true → TreeInKind s (s.shape_of id) t
unfolding in_kind
tree_kind s id null o h = tt
tree_kind s id (structure w n k) o h = h
tree_kind s id _ o h = absurd o

module _ (s : Schema) (R : ℕ → Type 0) (reached : (id : ℕ) → R id → IsReached s R id) (verb : Verb) (path : List Step) (fields_meet : FieldMeets s R verb path) (elements_meet : ElementMeets s R verb path) where
  abbrev value_after : Step → Ty → Tree → Tree
  value_after st ty t = edit_value s st (edit_field s path verb) (edit_element s path verb) ty t

  struct_value : (l : List ℕ) (ty : Ty) (t : Tree) (r : Reading) → IsReal R ty → in_kind s t ty ≡ true → verb_in_kind s verb (end_of s path (step_into s (name l) ty)) ≡ true
      → IsThrough s l (step_field s path verb) ty (or_empty s ty (read s t ty)) r → IsValueDone s ty (value_after (name l) ty t) r
  struct_value l ty t r real kind value (through id old new is_struct is_record walked gives) =
      subst (λ z. IsValueDone s z (value_after (name l) z t) r) (sym is_struct) done_struct
    where
      done_struct : IsValueDone s (struct id) (value_after (name l) (struct id) t) r
      done_struct =
          let real' : R id = subst (λ z. IsReal R z) is_struct real in
          let g = s.shape_of id in
          let opens : Opens s id t old = open_default s id t old (subst (λ z. or_empty s z (read s t z) ≡ record_as old) is_struct is_record) in
          let kind' : in_kind s t (struct id) ≡ true = subst (λ z. in_kind s t z ≡ true) is_struct kind in
          let value' = subst (λ z. verb_in_kind s verb (end_of s path (step_into s (name l) z)) ≡ true) is_struct value in
          let two = in_tree s R verb path fields_meet l (s.shape_of id) t new (reached id real').sound opens.open' (tree_kind s id t opens.open' kind') value' (ap (on_name (step_field s path verb) l (fields_in (s.shape_of id))) (sym opens.is) ∙ walked) in
          let ends = edited_struct s id (edit_field s path verb) l (s.shape_of id) t opens.open' two.1 in
          record { reads = ends.0 ∙ ap record_as two.0 ∙ gives; kinds = ends.1 }

  list_value_after : (k : ℕ) (ty : Ty) (t : Tree) (r : Reading) → IsReal R ty → in_kind s t ty ≡ true → verb_in_kind s verb (end_of s path (step_into s (index k) ty)) ≡ true
      → IsIndexed s k (step_element s path verb) ty (or_empty s ty (read s t ty)) r → IsValueDone s ty (value_after (index k) ty t) r
  list_value_after k ty t r real kind value (indexed e old new is_list is_old walked gives) =
      subst (λ z. IsValueDone s z (value_after (index k) z t) r) (sym is_list) done_list
    where
      done_list : IsValueDone s (list e) (value_after (index k) (list e) t) r
      done_list =
          let real' : IsReal R e = subst (λ z. IsReal R z) is_list real in
          let reads = list_opened s e t k (step_element s path verb e) old new (subst (λ z. or_empty s z (read s t z) ≡ list_of old) is_list is_old) walked in
          let value' = subst (λ z. verb_in_kind s verb (end_of s path (step_into s (index k) z)) ≡ true) is_list value in
          let two = list_law s R (step_element s path verb e) (edit_element s path verb e) e real' (λ id h. (reached id h).straight) (elements_meet e real' value') k t old new reads (subst (λ z. in_kind s t z ≡ true) is_list kind) walked in
          record { reads = two.0 ∙ gives; kinds = two.1 }

  value_law : (st : Step) (ty : Ty) (d t : Tree) (r : Reading) → IsReal R ty → in_kind s d ty ≡ true → in_kind s t ty ≡ true → verb_in_kind s verb (end_of s path (step_into s st ty)) ≡ true
      → through_value s st (step_field s path verb) (step_element s path verb) ty (opened s ty d (read s t ty)) ≡ done r → IsValueDone s ty (value_after st ty (opened_tree ty d t)) r
  value_law (name l) ty d t r real default_kind kind value h =
      struct_value l ty (opened_tree ty d t) r real (opened_in_kind s ty d t default_kind kind) value
      (to_through s l (step_field s path verb) (step_element s path verb) ty _ r (ap (through_value s (name l) (step_field s path verb) (step_element s path verb) ty) (sym (no_null s ty d t)) ∙ h))
  value_law (index k) ty d t r real default_kind kind value h =
      list_value_after k ty (opened_tree ty d t) r real (opened_in_kind s ty d t default_kind kind) value
      (to_indexed s k (step_field s path verb) (step_element s path verb) ty _ r (ap (through_value s (index k) (step_field s path verb) (step_element s path verb) ty) (sym (no_null s ty d t)) ∙ h))

  -- ---- a step from a field or an element

  present_through : (st : Step) (i : ℕ) (ty : Ty) (d : Option Tree) (x r : Reading) → IsPresent x → through_field s st (step_field s path verb) (step_element s path verb) (pointer_slot i ty d) x ≡ done r
      → through_value s st (step_field s path verb) (step_element s path verb) ty (opened s ty (default_or_null d) x) ≡ done r
  present_through (name l) i ty d inactive r p h = absurd p
  present_through (name l) i ty d null_pointer r p h = h
  present_through (name l) i ty d _ r p h = h
  present_through (index k) i ty d inactive r p h = absurd p
  present_through (index k) i ty d null_pointer r p h = h
  present_through (index k) i ty d _ r p h = h

  pointer_edit : (st : Step) (i : ℕ) (ty : Ty) (d : Option Tree) (c : Cell)
      → edit_through s st (edit_field s path verb) (edit_element s path verb) (pointer_slot i ty d) c ≡ put_child i (value_after st ty (opened_tree ty (default_or_null d) (child c.kids i))) c
  pointer_edit (name l) i ty d c = refl
  pointer_edit (index k) i ty d c = refl

  pointer_end : (st : Step) (i : ℕ) (ty : Ty) (d : Option Tree) → next_end s st (at_slot (pointer_slot i ty d)) ≡ step_into s st ty
  pointer_end (name l) i ty d = refl
  pointer_end (index k) i ty d = refl

  value_end : (st : Step) (ty : Ty) → next_end s st (at_value ty) ≡ step_into s st ty
  value_end (name l) ty = refl
  value_end (index k) ty = refl

  through_pointer : (st : Step) (u member : Option ℕ) (i : ℕ) (ty : Ty) (d : Option Tree) (c : Cell) (r : Reading) → IsSoundBody s R (pointer_slot i ty d)
      → is_active member (discriminant u whole_words c.section) ≡ true → body_in_kind (pointer_slot i ty d) c.section (child_in_kind s c.kids) ≡ true
      → verb_in_kind s verb (end_of s path (next_end s st (at_slot (pointer_slot i ty d)))) ≡ true
      → through_field s st (step_field s path verb) (step_element s path verb) (pointer_slot i ty d) (read_child s c.kids i ty) ≡ done r
      → IsPut s u member (pointer_slot i ty d) c (edit_through s st (edit_field s path verb) (edit_element s path verb) (pointer_slot i ty d) c) r
  unfolding body_of areas_of_body fields_in_kind defaults_in_kind
  through_pointer st u member i ty d c r sound active kind value h =
      let t = child c.kids i in
      let is = read_child-is s c.kids i ty in
      let present = subst (λ z. IsPresent z) (sym is) (read_present s t ty) in
      let walked = ap (λ z. through_value s st (step_field s path verb) (step_element s path verb) ty (opened s ty (default_or_null d) z)) (sym is) ∙ present_through st i ty d (read_child s c.kids i ty) r present h in
      let done_value = value_law st ty (default_or_null d) t r sound.real sound.default_kind (sym (child_in_kind-is s c.kids i ty) ∙ kind) (ap (λ z. verb_in_kind s verb (end_of s path z)) (sym (pointer_end st i ty d)) ∙ value) walked in
      let new = value_after st ty (opened_tree ty (default_or_null d) t) in
      subst (λ z. IsPut s u member (pointer_slot i ty d) c z r) (sym (pointer_edit st i ty d c)) (record {
        reads = read_child-with_child s c.kids i new ty ∙ done_value.reads;
        keeps = λ ys h k. kept_if_put c i new ys k.0;
        marks = still_active member (discriminant u whole_words c.section) active;
        kinds = child_in_kind-is s (with_child c.kids i new) i ty ∙ ap (λ z. in_kind s z ty) (child-with_child c.kids i new) ∙ done_value.kinds;
      })

  at_path : (st : Step) (n : List ℕ) (u member : Option ℕ) (body : Body) (fs : Fields) (c : Cell) (r : Reading) → IsFine s n u member body fs → IsSoundBody s R body
      → (b : Bool) → is_active member (discriminant u whole_words c.section) ≡ b → (b ≡ true → body_in_kind body c.section (child_in_kind s c.kids) ≡ true)
      → verb_in_kind s verb (end_of s path (next_end s st (at_slot body))) ≡ true
      → through_field s st (step_field s path verb) (step_element s path verb) body (only_if b (body_of body whole_words c.section (read_child s c.kids))) ≡ done r
      → IsPut s u member body c (edit_through s st (edit_field s path verb) (edit_element s path verb) body c) r
  unfolding body_of areas_of areas_of_body has_no_overlap fields_in_kind defaults_in_kind
  at_path st n u member body fs c r fine sound false active kind value h = absurd (nothing_through st body h)
    where
      nothing_through : (st : Step) (body : Body) → through_field s st (step_field s path verb) (step_element s path verb) body inactive ≡ done r → ⊥
      nothing_through (name l) (void_slot j) h = cc h
      nothing_through (name l) (plain_slot p at d) h = cc h
      nothing_through (name l) (pointer_slot i ty d) h = cc h
      nothing_through (name l) (group_slot g) h = cc h
      nothing_through (index k) (void_slot j) h = cc h
      nothing_through (index k) (plain_slot p at d) h = cc h
      nothing_through (index k) (pointer_slot i ty d) h = cc h
      nothing_through (index k) (group_slot g) h = cc h
  at_path (name l) n u member (void_slot j) fs c r fine sound true active kind value h = absurd (cc h)
  at_path (name l) n u member (plain_slot p at d) fs c r fine sound true active kind value h = absurd (cc h)
  at_path (index k) n u member (void_slot j) fs c r fine sound true active kind value h = absurd (cc h)
  at_path (index k) n u member (plain_slot p at d) fs c r fine sound true active kind value h = absurd (cc h)
  at_path (index k) n u member (group_slot g) fs c r fine sound true active kind value h = absurd (cc h)
  at_path (name l) n u member (pointer_slot i ty d) fs c r fine sound true active kind value h = through_pointer (name l) u member i ty d c r sound active (kind refl) value h
  at_path (index k) n u member (pointer_slot i ty d) fs c r fine sound true active kind value h = through_pointer (index k) u member i ty d c r sound active (kind refl) value h
  at_path (name l) n u member (group_slot (shape nid w p v gs)) fs c r fine sound true active kind value h = by (unmap _ _ _ h)
    where
      by : IsMapped record_as (on_name (step_field s path verb) l gs (shape_record (shape nid w p v gs) whole_words c.section (read_child s c.kids))) r
          → IsPut s u member (group_slot (shape nid w p v gs)) c (edit_target (edit_field s path verb) v (target_of l gs) c) r
      by (mapped x k gives) =
          let c' = edit_target (edit_field s path verb) v (target_of l gs) c in
          let d = in_cell s R verb path fields_meet l nid w p v gs c x (record { good = sound.good; apart = sound.apart; defaults = sound.default_kind; real = sound.real }) (kind refl) (target_of l gs) refl value k in
          record {
            reads = ap record_as d.reads ∙ gives;
            keeps = λ ys h k. d.keeps ys k;
            marks = sym (discriminant-kept u c c' (d.keeps (union_area u) fine.off_union)) ∙ still_active member (discriminant u whole_words c.section) active;
            kinds = d.kinds;
          }

  -- a pointer's element
  pointed_element : (st : Step) (ty : Ty) (c : Cell) (r : Reading) → IsReal R ty → in_kind s (child c.kids 0) ty ≡ true → verb_in_kind s verb (end_of s path (next_end s st (at_value ty))) ≡ true
      → through_value s st (step_field s path verb) (step_element s path verb) ty (opened s ty null (read_child s c.kids 0 ty)) ≡ done r
      → let c' = put_child 0 (value_after st ty (child c.kids 0)) c in (read_child s c'.kids 0 ty ≡ r) × (child_in_kind s c'.kids 0 ty ≡ true)
  pointed_element st ty c r real kind value h =
      let t = child c.kids 0 in
      let d = value_law st ty null t r real (nothing_in_kind s ty) kind (ap (λ z. verb_in_kind s verb (end_of s path z)) (sym (value_end st ty)) ∙ value)
      (ap (λ z. through_value s st (step_field s path verb) (step_element s path verb) ty (opened s ty null z)) (sym (read_child-is s c.kids 0 ty)) ∙ h) in
      let e = subst (λ z. IsValueDone s ty (value_after st ty z) r) (opened_null ty t) d in
      pointer_put s ty c (value_after st ty t) r e.kinds e.reads

  struct_element_at : (l : List ℕ) (id : ℕ) (words pointers : ℕ) (c : Cell) (r : Reading) → R id → element_kinds s (struct id) c.section (child_in_kind s c.kids) ≡ true
      → verb_in_kind s verb (end_of s path (end_at (target_of l (fields_in (s.shape_of id))))) ≡ true
      → IsThrough s l (step_field s path verb) (struct id) (record_as (shape_record (s.shape_of id) whole_words c.section (read_child s c.kids))) r
      → IsElement s (struct id) (edit_through_element s (name l) (edit_field s path verb) (edit_element s path verb) (struct id) c) r
  struct_element_at l id words pointers c r real kind value (through id' old new is_struct is_record walked gives) = by (s.shape_of id) refl (reached id real).sound kind value
    where
      same : id ≡ id'
      same = cc is_struct

      by : (g : Shape) → s.shape_of id ≡ g → IsSound s R g → shape_in_kind g c.section (child_in_kind s c.kids) ≡ true → verb_in_kind s verb (end_of s path (end_at (target_of l (fields_in g)))) ≡ true
          → IsElement s (struct id) (elim g as (λ (x : Shape). Cell) [ shape nid w p union fs ↦ edit_named (edit_field s path verb) l union fs c ]) r
      by (shape nid w p u fs) e sound kinds value' =
          let old_is : old ≡ shape_record (shape nid w p u fs) whole_words c.section (read_child s c.kids) = sym (record_is _ _ is_record) ∙ ap (λ g. shape_record g whole_words c.section (read_child s c.kids)) e in
          let on : on_name (step_field s path verb) l fs old ≡ done new = ap (λ g. on_name (step_field s path verb) l (fields_in g) old) (sym e) ∙ ap (λ z. on_name (step_field s path verb) l (fields_in (s.shape_of z)) old) same ∙ walked in
          let d = in_cell s R verb path fields_meet l nid w p u fs c new sound kinds (target_of l fs) refl value' (ap (on_name (step_field s path verb) l fs) (sym old_is) ∙ on) in
          let c' = edit_named (edit_field s path verb) l u fs c in
          record {
            reads = ap (λ g. record_as (shape_record g whole_words c'.section (read_child s c'.kids))) e ∙ ap record_as d.reads ∙ gives;
            kinds = ap (λ g. shape_in_kind g c'.section (child_in_kind s c'.kids)) e ∙ d.kinds;
          }

  at_element_path : (st : Step) (ty : Ty) → IsReal R ty → verb_in_kind s verb (end_of s path (next_end s st (at_value ty))) ≡ true → (words pointers : ℕ) (c : Cell) (r : Reading)
      → element_kinds s ty c.section (child_in_kind s c.kids) ≡ true
      → through_value s st (step_field s path verb) (step_element s path verb) ty (opened s ty null (element_as s ty whole_words c.section (read_child s c.kids))) ≡ done r
      → IsElement s ty (edit_through_element s st (edit_field s path verb) (edit_element s path verb) ty c) r
  at_element_path (name l) void real value words pointers c r kind h = absurd (cc h)
  at_element_path (index k) void real value words pointers c r kind h = absurd (cc h)
  at_element_path (name l) (plain p) real value words pointers c r kind h = absurd (cc h)
  at_element_path (index k) (plain p) real value words pointers c r kind h = absurd (cc h)
  at_element_path (index k) (struct id) real value words pointers c r kind h = absurd (cc h)
  at_element_path (name l) (struct id) real value words pointers c r kind h =
      struct_element_at l id words pointers c r real kind value (to_through s l (step_field s path verb) (step_element s path verb) (struct id) _ r h)
  at_element_path (name l) text real value words pointers c r kind h = let d = pointed_element (name l) text c r real (sym (child_in_kind-is s c.kids 0 text) ∙ kind) value h in record { reads = d.0; kinds = d.1 }
  at_element_path (index k) text real value words pointers c r kind h = let d = pointed_element (index k) text c r real (sym (child_in_kind-is s c.kids 0 text) ∙ kind) value h in record { reads = d.0; kinds = d.1 }
  at_element_path (name l) blob real value words pointers c r kind h = let d = pointed_element (name l) blob c r real (sym (child_in_kind-is s c.kids 0 blob) ∙ kind) value h in record { reads = d.0; kinds = d.1 }
  at_element_path (index k) blob real value words pointers c r kind h = let d = pointed_element (index k) blob c r real (sym (child_in_kind-is s c.kids 0 blob) ∙ kind) value h in record { reads = d.0; kinds = d.1 }
  at_element_path (name l) untyped real value words pointers c r kind h = let d = pointed_element (name l) untyped c r real (sym (child_in_kind-is s c.kids 0 untyped) ∙ kind) value h in record { reads = d.0; kinds = d.1 }
  at_element_path (index k) untyped real value words pointers c r kind h = let d = pointed_element (index k) untyped c r real (sym (child_in_kind-is s c.kids 0 untyped) ∙ kind) value h in record { reads = d.0; kinds = d.1 }
  at_element_path (name l) interface real value words pointers c r kind h = let d = pointed_element (name l) interface c r real (sym (child_in_kind-is s c.kids 0 interface) ∙ kind) value h in record { reads = d.0; kinds = d.1 }
  at_element_path (index k) interface real value words pointers c r kind h = let d = pointed_element (index k) interface c r real (sym (child_in_kind-is s c.kids 0 interface) ∙ kind) value h in record { reads = d.0; kinds = d.1 }
  at_element_path (name l) (list e) real value words pointers c r kind h = let d = pointed_element (name l) (list e) c r real (sym (child_in_kind-is s c.kids 0 (list e)) ∙ kind) value h in record { reads = d.0; kinds = d.1 }
  at_element_path (index k) (list e) real value words pointers c r kind h = let d = pointed_element (index k) (list e) c r real (sym (child_in_kind-is s c.kids 0 (list e)) ∙ kind) value h in record { reads = d.0; kinds = d.1 }

-- ---- all paths

module _ (s : Schema) (R : ℕ → Type 0) (reached : (id : ℕ) → R id → IsReached s R id) (verb : Verb) (given : IsGiven verb) where
  element_end : (ty : Ty) → IsReal R ty → (id : ℕ) → ty ≡ struct id → IsWithin (s.shape_of id)
  element_end ty real id e = (reached id (subst (λ z. IsReal R z) e real)).within

  -- calls do to the tree what they do to the record
  meets_all : (path : List Step) → FieldMeets s R verb path × ElementMeets s R verb path
  unfolding step_field edit_field end_of
  meets_all [] = (
    (λ n u member body fs c r fine sound kind value h. field_leaf s R verb given n u member body fs c _ r fine sound value h),
    (λ ty real value words pointers c r room kind h.
        put_law s ty words pointers c (element_content s verb ty) r room (element_end ty real) (element_fits s verb ty given) (element_content_kinds s verb ty value) (element_after s verb ty _ r h)),
  )
  meets_all (st ∷ path) =
      let more = meets_all path in (
        (λ n u member body fs c r fine sound kind value h.
            at_path s R reached verb path more.0 more.1 st n u member body fs c r fine sound (is_active member (discriminant u whole_words c.section)) refl kind value h),
        (λ ty real value words pointers c r room kind h. at_element_path s R reached verb path more.0 more.1 st ty real value words pointers c r kind h),
      )

  -- The reading clause, at an opened struct that is reached.
  pub path_law : (id : ℕ) → R id → (n : List ℕ) (path : List Step) (t : Tree) (r : Record) → IsOpen t → in_kind s t (struct id) ≡ true → verb_in_kind s verb (end_of s (name n ∷ path) (at_value (struct id))) ≡ true
      → step_path s (fields_in (s.shape_of id)) (name n ∷ path) verb (record_by_shape s (s.shape_of id) t) ≡ done r
      → (record_by_shape s (s.shape_of id) (write_path s (s.shape_of id) (name n ∷ path) verb t) ≡ r) × (in_kind s (write_path s (s.shape_of id) (name n ∷ path) verb t) (struct id) ≡ true) × IsBesideKept s (s.shape_of id) t (write_path s (s.shape_of id) (name n ∷ path) verb t)
  unfolding end_of
  path_law id root n path t r is_open kind value h =
      let two = in_tree s R verb path (meets_all path).0 n (s.shape_of id) t r (reached id root).sound is_open (tree_kind s id t is_open kind) value h in
      (two.0, (edited_struct s id (edit_field s path verb) n (s.shape_of id) t is_open two.1).1, two.2)
