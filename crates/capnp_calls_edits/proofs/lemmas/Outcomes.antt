-- Where a call is done, the rest of its path is done at the next step, and the edit goes the same way.
use Rattle.std.proofs.Common.{◌≡◌, ◌≢◌, ℕ, zero, suc, ◌<◌, max, Bool, true, false, if◌then◌else◌, Option, None, Some, List, [], ◌∷◌, refl, sym, subst, ap, ◌∙◌}
use Rattle.std.specs.Prelude.{option_map}
use Rattle.std.specs.Str.{bytes_eq}
use Rattle.capnp_model.specs.Segments.{Segments, Place, after}
use Rattle.capnp_model.specs.Trees.{Tree, null, capability, structure, plain_list, pointer_list, struct_list, Trees, none, ◌▸◌, child, padded_to, resized, widened}
use Rattle.capnp_model.specs.Accepted.{schema_of}
use Rattle.capnp_model.specs.Schemas.{Ty, struct, Shape, shape, Fields, no_fields, field, Field as FieldNode, Body, void_slot, plain_slot, pointer_slot, group_slot, Schema, default_or_null, words_of_shape, pointers_of_shape}
use Rattle.capnp_model.specs.Readings.{Reading, inactive, null_pointer, fault, number, text_of, blob_of, list_of, record_as, opaque, Record, Extent, whole_words, no_children, read, read_child, shape_record, body_of, only_if, is_active, discriminant}
use Rattle.capnp_model.specs.Printing.{fields_in}
use Rattle.capnp_model.specs.Calls.{Step, name, index, Verb, get, set_to, init, initn, clear}
use Rattle.capnp_model.specs.Steps.{Outcome, refused, shown, done, outcome_map, target, target_if, target_of, on_name, at_target, replaced, at_field, opened, through_value, through_field, step_path, step_field, step_element}
use Rattle.capnp_model.specs.Edits.{Cell, Edit, put_child, opened_tree, edit_target, edit_named, edit_struct, edit_field, in_struct}
use Rattle.capnp_model.proofs.lemmas.Marks.{read_child-padded_to}
use Rattle.capnp_model.proofs.lemmas.Paths.{entry_of-fields_of, read_child-is}
use Rattle.capnp_wire_objects.specs.Places.{place_view}
use Rattle.capnp_values_queries.specs.Fields.{Entry, field_at, place_of_name, union_in, entry_in}
use Rattle.capnp_values_queries.specs.Structs.{nodes_around, schema_around, shape_of_struct, fields_of_struct}
use Rattle.capnp_values_queries.specs.Handles.{entry_of_field, IsFieldRecord}
use Rattle.capnp_values_queries.specs.declared.structs.StructSchema.{StructSchema}
use Rattle.capnp_values_queries.specs.declared.fields.Field.{Field}
use Rattle.capnp_copy_arenas.specs.declared.fields.StructPlace.{StructPlace}
use Rattle.capnp_calls.specs.Replies.{is_active_in_cell}
use Rattle.capnp_calls.specs.Sizes.{IsDone}
use Rattle.capnp_calls.specs.Paths.{field_outcome, shape_outcome, shape_edit}
use Rattle.capnp_calls.proofs.lemmas.FieldSlots.{body_is}
use Rattle.capnp_calls_edits.specs.Elements.{IsDoneWithin, WritesWithin, IsFieldDone, WritesFieldWithin}
use Rattle.capnp_calls_edits.specs.Written.{EditsWhere, WritesPath, IsDoneAt, edit_at, WritesField, value_outcome, value_edit, EditsValueAt}
use Rattle.capnp_calls_edits.proofs.Lifting.{cell, edits_alike, through_child}

pub unmapped : {A B : Type 0} (f : A → B) (o : Outcome A) → IsDone (outcome_map f o) → IsDone o
unmapped f (refused k) h = absurd h
unmapped f (shown how r) h = absurd h
unmapped f (done x) h = tt

-- ---- a field by its name

none_mapped : (o : Option ℕ) (i : ℕ) → option_map (λ j. suc j) o ≡ Some (suc i) → o ≡ Some i
none_mapped None i h = absurd (cc h)
none_mapped (Some j) i h = let same : j ≡ i = cc h in ap (λ k. Some k) same

never_zero : (o : Option ℕ) → option_map (λ j. suc j) o ≡ Some 0 → ⊥
never_zero None h = cc h
never_zero (Some j) h = cc h

pub found_at : (n : List ℕ) (fs : Fields) (i : ℕ) (e : Entry) → place_of_name n fs ≡ Some i → field_at fs i ≡ Some e → target_of n fs ≡ target e.member e.body
found_at n no_fields i e p h = absurd (cc h)
found_at n (field m member body fs) zero e p h = by (bytes_eq m n) p
  where
    same : record { name = m; member = member; body = body } ≡ e
    same = cc h

    by : (b : Bool) → (if b then Some 0 else option_map (λ i. suc i) (place_of_name n fs)) ≡ Some 0 → target_if b (target member body) (target_of n fs) ≡ target e.member e.body
    by true k = ap (λ (x : Entry). target x.member x.body) same
    by false k = absurd (never_zero (place_of_name n fs) k)
found_at n (field m member body fs) (suc i) e p h = by (bytes_eq m n) (found_at n fs i e) p
  where
    by : (b : Bool) → (place_of_name n fs ≡ Some i → field_at fs i ≡ Some e → target_of n fs ≡ target e.member e.body) → (if b then Some 0 else option_map (λ j. suc j) (place_of_name n fs)) ≡ Some (suc i) → target_if b (target member body) (target_of n fs) ≡ target e.member e.body
    by true more k = absurd (cc k)
    by false more k = more (none_mapped (place_of_name n fs) i k) h

-- what a verb does at the end of a path isn't told by what stood there
any_end : (s : Schema) (verb : Verb) (body : Body) (q r : Reading) → IsDone (at_field s verb body q) → IsDone (at_field s verb body r)
any_end s get body inactive r h = absurd h
any_end s get body null_pointer r h = absurd h
any_end s get body (fault k) r h = absurd h
any_end s get body (number k) r h = absurd h
any_end s get body (text_of k) r h = absurd h
any_end s get body (blob_of k) r h = absurd h
any_end s get body (list_of k) r h = absurd h
any_end s get body (record_as k) r h = absurd h
any_end s get body (opaque k) r h = absurd h
any_end s (set_to v) (void_slot j) q r h = h
any_end s (set_to v) (plain_slot p at d) q r h = h
any_end s (set_to v) (pointer_slot i ty d) q r h = h
any_end s (set_to v) (group_slot g) q r h = h
any_end s init (void_slot j) q r h = h
any_end s init (plain_slot p at d) q r h = h
any_end s init (pointer_slot i ty d) q r h = h
any_end s init (group_slot g) q r h = h
any_end s (initn k) (void_slot j) q r h = h
any_end s (initn k) (plain_slot p at d) q r h = h
any_end s (initn k) (pointer_slot i ty d) q r h = h
any_end s (initn k) (group_slot g) q r h = h
any_end s clear (void_slot j) q r h = h
any_end s clear (plain_slot p at d) q r h = h
any_end s clear (pointer_slot i ty d) q r h = h
any_end s clear (group_slot g) q r h = h

-- what is done at a field, active or not, is done at the active one
active_done : (s : Schema) (path : List Step) (verb : Verb) (body : Body) (b : Bool) (r : Reading) → IsDone (step_field s path verb body (only_if b r)) → IsDone (step_field s path verb body r)
unfolding step_field
active_done s path verb body true r h = h
active_done s [] verb body false r h = any_end s verb body inactive r h
active_done s (st ∷ path) verb body false r h = absurd h

pub behind_within : (s : Schema) (g : Shape) (n : List ℕ) (rest : List Step) (verb : Verb) (member : Option ℕ) (body : Body) (c : Cell) (x : Extent) → target_of n (fields_in g) ≡ target member body
    → IsDone (step_path s (fields_in g) (name n ∷ rest) verb (shape_record g x c.section (read_child s c.kids))) → IsDone (step_field s rest verb body (body_of body x c.section (read_child s c.kids)))
unfolding shape_record
behind_within s (shape nid w p u fs) n rest verb member body c x found h =
    let kids = read_child s c.kids in
    let active = is_active member (discriminant u x c.section) in
    let r : Record = shape_record (shape nid w p u fs) x c.section kids in
    let f : Body → Reading → Outcome Reading = step_field s rest verb in
    let with_reading : Reading → Record = λ y. replaced n member y fs r in
    let outcome : at_target f n fs r (target_of n fs) ≡ outcome_map with_reading (f body (only_if active (body_of body x c.section kids))) =
    ap (at_target f n fs r) found ∙ ap (λ y. outcome_map with_reading (f body y)) (entry_of-fields_of n fs member body (discriminant u x c.section) x c.section kids found) in
    active_done s rest verb body active (body_of body x c.section kids) (unmapped with_reading (f body (only_if active (body_of body x c.section kids))) (subst IsDone outcome h))

module _ (s u : Segments) (p : StructPlace) (f : Field) (r : FieldNode) (is : IsFieldRecord f.parent f.index r) (n : List ℕ) (rest : List Step) (verb : Verb) where
  own_name : Some f.index ≡ place_of_name n (fields_of_struct f.parent) → WritesFieldWithin s u p f (record { path = rest; verb = verb }) → WritesWithin s u p f.parent (record { path = name n ∷ rest; verb = verb })
  own_name at h =
      let around = schema_around f.parent in
      let g = shape_of_struct f.parent in
      let e = entry_in around r in
      let found : target_of n (fields_of_struct f.parent) ≡ target e.member e.body = found_at n (fields_of_struct f.parent) f.index e (sym at) is.entry in
      edits_alike s u p (IsFieldDone f rest verb (entry_of_field f)) (IsDoneWithin around g (name n ∷ rest) verb) (edit_at f rest verb (entry_of_field f)) (shape_edit around g (name n ∷ rest) verb)
      (λ c all. (
      let here : IsDone (step_field around rest verb e.body (body_of e.body all.0 c.section (read_child around c.kids))) = behind_within around g n rest verb e.member e.body c all.0 found all.1 in
      (subst (λ o. IsFieldDone f rest verb o c) (sym is.entry) (all.0, here), ap (λ o. edit_at f rest verb o c) is.entry ∙ ap (λ t. edit_target (edit_field around rest verb) (union_in g) t c) (sym found))
      )) h

  pub by_name : (g : StructSchema) → f.parent ≡ g → Some f.index ≡ place_of_name n (fields_of_struct g) → WritesFieldWithin s u p f (record { path = rest; verb = verb }) → WritesWithin s u p g (record { path = name n ∷ rest; verb = verb })
  by_name g e = subst (λ x. Some f.index ≡ place_of_name n (fields_of_struct x) → WritesFieldWithin s u p f (record { path = rest; verb = verb }) → WritesWithin s u p x (record { path = name n ∷ rest; verb = verb })) e own_name

-- as it is read whole
pub whole_within : (s : Schema) (g : Shape) (path : List Step) (verb : Verb) (c : Cell) → IsDone (shape_outcome s g path verb c) → IsDoneWithin s g path verb c
unfolding shape_outcome
whole_within s g path verb c h = (whole_words, h)

pub path_within : (s u : Segments) (p : StructPlace) (g : StructSchema) (path : List Step) (verb : Verb) → WritesWithin s u p g (record { path = path; verb = verb }) → WritesPath s u p g (record { path = path; verb = verb })
path_within s u p g path verb h =
    let around = schema_around g in
    let own = shape_of_struct g in
    edits_alike s u p (IsDoneWithin around own path verb) (λ c. IsDone (shape_outcome around own path verb c)) (shape_edit around own path verb) (shape_edit around own path verb) (λ c all. (whole_within around own path verb c all, refl)) h

-- at the end
pub end_at : (f : Field) (verb : Verb) (o : Option Entry) (c : Cell) → IsFieldDone f [] verb o c → IsDoneAt f [] verb o c
unfolding step_field field_outcome
end_at f verb None c h = h
end_at f verb (Some e) c h =
    let s = schema_around f.parent in
    any_end s verb e.body (body_of e.body h.0 c.section (read_child s c.kids)) (only_if (is_active_in_cell (union_in (shape_of_struct f.parent)) e.member c) (body_of e.body whole_words c.section (read_child s c.kids))) h.1

pub end_within : (s u : Segments) (p : StructPlace) (f : Field) (verb : Verb) → WritesField s u p f (record { path = []; verb = verb }) → WritesFieldWithin s u p f (record { path = []; verb = verb })
end_within s u p f verb h =
    edits_alike s u p (IsDoneAt f [] verb (entry_of_field f)) (IsFieldDone f [] verb (entry_of_field f)) (edit_at f [] verb (entry_of_field f)) (edit_at f [] verb (entry_of_field f)) (λ c all. (end_at f verb (entry_of_field f) c all, refl)) h

-- ---- a field by its body

module _ (f : Field) (r : FieldNode) (is : IsFieldRecord f.parent f.index r) (b : Body) (same : option_map (λ e. e.body) (entry_of_field f) ≡ Some b) (path : List Step) (verb : Verb) where
  pub done_at : (c : Cell) → IsDoneAt f path verb (entry_of_field f) c → IsDone (field_outcome (schema_around f.parent) path verb (union_in (shape_of_struct f.parent)) r.member b c)
  done_at c h = subst (λ x. IsDone (field_outcome (schema_around f.parent) path verb (union_in (shape_of_struct f.parent)) r.member x c)) (body_is f r b is same) (subst (λ o. IsDoneAt f path verb o c) is.entry h)

  pub done_within : (c : Cell) → IsFieldDone f path verb (entry_of_field f) c → (x : Extent) × IsDone (step_field (schema_around f.parent) path verb b (body_of b x c.section (read_child (schema_around f.parent) c.kids)))
  done_within c h =
      let s = schema_around f.parent in
      subst (λ y. (x : Extent) × IsDone (step_field s path verb y (body_of y x c.section (read_child s c.kids)))) (body_is f r b is same) (subst (λ o. IsFieldDone f path verb o c) is.entry h)

  pub edit_is : (c : Cell) → edit_field (schema_around f.parent) path verb (union_in (shape_of_struct f.parent)) r.member b c ≡ edit_at f path verb (entry_of_field f) c
  edit_is c =
      ap (λ x. edit_field (schema_around f.parent) path verb (union_in (shape_of_struct f.parent)) r.member x c) (sym (body_is f r b is same))
      ∙ ap (λ o. edit_at f path verb o c) (sym is.entry)

-- ---- a group

pub group_done : (s : Schema) (g : Shape) (rest : List Step) (verb : Verb) (c : Cell) (x : Extent) (st : Step) → IsDone (step_field s (st ∷ rest) verb (group_slot g) (body_of (group_slot g) x c.section (read_child s c.kids))) → IsDone (step_path s (fields_in g) (st ∷ rest) verb (shape_record g x c.section (read_child s c.kids)))
unfolding step_field body_of
group_done s g rest verb c x (name n) h = unmapped record_as (on_name (step_field s rest verb) n (fields_in g) (shape_record g x c.section (read_child s c.kids))) h
group_done s g rest verb c x (index k) h = absurd h

pub group_edit : (s : Schema) (g : Shape) (rest : List Step) (verb : Verb) (c : Cell) (st : Step) (union member : Option ℕ) → shape_edit s g (st ∷ rest) verb c ≡ edit_field s (st ∷ rest) verb union member (group_slot g) c
unfolding edit_field
group_edit s (shape nid w p u fs) rest verb c (name n) union member = refl
group_edit s (shape nid w p u fs) rest verb c (index k) union member = refl

module _ (s u : Segments) (p : StructPlace) (f : Field) (r : FieldNode) (is : IsFieldRecord f.parent f.index r) (g : StructSchema) (same : option_map (λ e. e.body) (entry_of_field f) ≡ Some (group_slot (shape_of_struct g))) (nodes : nodes_around g ≡ nodes_around f.parent) (verb : Verb) where
  pub by_group : (path : List Step) → path ≢ [] → WritesWithin s u p g (record { path = path; verb = verb }) → WritesFieldWithin s u p f (record { path = path; verb = verb })
  by_group [] some h = absurd (some refl)
  by_group (st ∷ rest) some h =
      let around = schema_around f.parent in
      let own = shape_of_struct g in
      let b : Body = group_slot own in
      let union = union_in (shape_of_struct f.parent) in
      edits_alike s u p (IsDoneWithin around own (st ∷ rest) verb) (IsFieldDone f (st ∷ rest) verb (entry_of_field f)) (shape_edit around own (st ∷ rest) verb) (edit_at f (st ∷ rest) verb (entry_of_field f))
      (λ c all. (let x = done_within f r is b same (st ∷ rest) verb c all in (x.0, group_done around own rest verb c x.0 st x.1), group_edit around own rest verb c st union r.member ∙ edit_is f r is b same (st ∷ rest) verb c))
      (subst (λ ns. EditsWhere (IsDoneWithin (schema_of ns) own (st ∷ rest) verb) s u p (shape_edit (schema_of ns) own (st ∷ rest) verb)) nodes h)

-- ---- a pointer

module _ (s : Schema) (st : Step) (rest : List Step) (verb : Verb) (i : ℕ) (ty : Ty) (d : Option Tree) where
  -- what goes through a pointer's field goes through its value
  through_is : (r : Reading) → IsDone (through_field s st (step_field s rest verb) (step_element s rest verb) (pointer_slot i ty d) r) → IsDone (through_value s st (step_field s rest verb) (step_element s rest verb) ty (opened s ty (default_or_null d) r))
  through_is r h = by st r h
    where
      by : (st : Step) (r : Reading) → IsDone (through_field s st (step_field s rest verb) (step_element s rest verb) (pointer_slot i ty d) r) → IsDone (through_value s st (step_field s rest verb) (step_element s rest verb) ty (opened s ty (default_or_null d) r))
      by (name n) inactive h = absurd h
      by (name n) null_pointer h = h
      by (name n) (fault k) h = h
      by (name n) (number k) h = h
      by (name n) (text_of k) h = h
      by (name n) (blob_of k) h = h
      by (name n) (list_of k) h = h
      by (name n) (record_as k) h = h
      by (name n) (opaque k) h = h
      by (index j) inactive h = absurd h
      by (index j) null_pointer h = h
      by (index j) (fault k) h = h
      by (index j) (number k) h = h
      by (index j) (text_of k) h = h
      by (index j) (blob_of k) h = h
      by (index j) (list_of k) h = h
      by (index j) (record_as k) h = h
      by (index j) (opaque k) h = h

  pub pointer_done : (c : Cell) (x : Extent) → IsDone (step_field s (st ∷ rest) verb (pointer_slot i ty d) (body_of (pointer_slot i ty d) x c.section (read_child s c.kids))) → IsDone (value_outcome (record { around = s; ty = ty; default = default_or_null d }) (st ∷ rest) verb (child c.kids i))
  unfolding step_field body_of
  pointer_done c x h =
      subst (λ r. IsDone (through_value s st (step_field s rest verb) (step_element s rest verb) ty (opened s ty (default_or_null d) r))) (read_child-is s c.kids i ty) (through_is (read_child s c.kids i ty) h)

  pub pointer_edit : (union member : Option ℕ) (c : Cell) → put_child i (value_edit (record { around = s; ty = ty; default = default_or_null d }) (st ∷ rest) verb (child c.kids i)) c ≡ edit_field s (st ∷ rest) verb union member (pointer_slot i ty d) c
  unfolding edit_field
  pointer_edit union member c = by st
    where
      by : (st : Step) → put_child i (value_edit (record { around = s; ty = ty; default = default_or_null d }) (st ∷ rest) verb (child c.kids i)) c ≡ edit_field s (st ∷ rest) verb union member (pointer_slot i ty d) c
      by (name n) = refl
      by (index k) = refl

module _ (s u : Segments) (p : StructPlace) (f : Field) (r : FieldNode) (is : IsFieldRecord f.parent f.index r) (i : ℕ) (ty : Ty) (d : Option Tree) (same : option_map (λ e. e.body) (entry_of_field f) ≡ Some (pointer_slot i ty d)) (verb : Verb) where
  -- a change of the value behind a field's pointer is one of the struct at the field
  pub by_pointer : (q : Place) → i < p.pointers → q ≡ after (after (place_view p.start) p.data_words) i → (path : List Step) → path ≢ [] → EditsValueAt s u q (record { around = schema_around f.parent; ty = ty; default = default_or_null d }) (record { path = path; verb = verb }) → WritesFieldWithin s u p f (record { path = path; verb = verb })
  by_pointer q l e [] some h = absurd (some refl)
  by_pointer q l e (st ∷ rest) some h =
      let around = schema_around f.parent in
      let b : Body = pointer_slot i ty d in
      let union = union_in (shape_of_struct f.parent) in
      edits_alike s u p (λ c. IsDone (value_outcome (record { around = around; ty = ty; default = default_or_null d }) (st ∷ rest) verb (child c.kids i))) (IsFieldDone f (st ∷ rest) verb (entry_of_field f)) (λ c. put_child i (value_edit (record { around = around; ty = ty; default = default_or_null d }) (st ∷ rest) verb (child c.kids i)) c) (edit_at f (st ∷ rest) verb (entry_of_field f))
      (λ c all. (let x = done_within f r is b same (st ∷ rest) verb c all in pointer_done around st rest verb i ty d c x.0 x.1, pointer_edit around st rest verb i ty d union r.member c ∙ edit_is f r is b same (st ∷ rest) verb c))
      (through_child s u p i q around ty (default_or_null d) (st ∷ rest) verb l e h)

-- ---- the struct behind it

nothing_read : (s : Schema) (g : Shape) → shape_record g whole_words 0 no_children ≡ shape_record g whole_words 0 (read_child s none)
unfolding read
nothing_read s g = ap (shape_record g whole_words 0) (λ k i ty. null_pointer)

padded_nothing : (p : ℕ) → padded_to p none ≡ resized p none
padded_nothing zero = refl
padded_nothing (suc p) = ap (λ ts. null ▸ ts) (padded_nothing p)

module _ (s : Schema) (id : ℕ) (n : List ℕ) (rest : List Step) (verb : Verb) (words section : ℕ) (kids : Trees) where
  abbrev g : Shape
  g = s.shape_of id

  abbrev Done : Record → Type 0
  Done r = IsDone (on_name (step_field s rest verb) n (fields_in g) r)

  from_parts : (x : ℕ) (ts : Trees) (p : ℕ) → x ≡ section → padded_to p ts ≡ kids → Done (shape_record g whole_words x (read_child s ts)) → IsDone (shape_outcome s g (name n ∷ rest) verb (cell section kids))
  unfolding shape_outcome
  from_parts x ts p e h is_done =
      let same : read_child s (padded_to p ts) ≡ read_child s ts = λ k i ty. read_child-padded_to s p ts i ty k in
      let wide : Done (shape_record g whole_words x (read_child s (padded_to p ts))) = subst (λ kids. Done (shape_record g whole_words x kids)) (sym same) is_done in
      subst (λ us. Done (shape_record g whole_words section (read_child s us))) h (subst (λ y. Done (shape_record g whole_words y (read_child s (padded_to p ts)))) e wide)

  of_record : (r : Record) → IsDone (outcome_map record_as (on_name (step_field s rest verb) n (fields_in g) r)) → Done r
  of_record r h = unmapped record_as (on_name (step_field s rest verb) n (fields_in g) r) h

  of_struct : (w p w0 x : ℕ) (ts : Trees) → structure (max w w0) x (padded_to p ts) ≡ structure words section kids → Done (shape_record g whole_words x (read_child s ts)) → IsDone (shape_outcome s g (name n ∷ rest) verb (cell section kids))
  of_struct w p w0 x ts e is_done = from_parts x ts p (cc e) (cc e) is_done

  of_empty : (w p : ℕ) → structure w 0 (resized p none) ≡ structure words section kids → Done (shape_record g whole_words 0 no_children) → IsDone (shape_outcome s g (name n ∷ rest) verb (cell section kids))
  of_empty w p e is_done = from_parts 0 none p (cc e) (padded_nothing p ∙ cc e) (subst Done (nothing_read s g) is_done)

  -- where the steps into the value are done, the path is done at the widened struct
  pub struct_done : (w p : ℕ) (d t : Tree) → widened w p (opened_tree (struct id) d t) ≡ structure words section kids → IsDone (value_outcome (record { around = s; ty = struct id; default = d }) (name n ∷ rest) verb t) → IsDone (shape_outcome s g (name n ∷ rest) verb (cell section kids))
  unfolding read
  struct_done w p null null e h = of_empty w p e (of_record (shape_record g whole_words 0 no_children) h)
  struct_done w p (structure w0 x ts) null e h = of_struct w p w0 x ts e (of_record (shape_record g whole_words x (read_child s ts)) h)
  struct_done w p (capability i) null e h = absurd h
  struct_done w p (plain_list size k x) null e h = absurd h
  struct_done w p (pointer_list ts) null e h = absurd h
  struct_done w p (struct_list a b es) null e h = absurd h
  struct_done w p d (structure w0 x ts) e h = of_struct w p w0 x ts e (of_record (shape_record g whole_words x (read_child s ts)) h)
  struct_done w p d (capability i) e h = absurd h
  struct_done w p d (plain_list size k x) e h = absurd h
  struct_done w p d (pointer_list ts) e h = absurd h
  struct_done w p d (struct_list a b es) e h = absurd h

-- the value becomes the struct that the edit makes of the widened one
edit_of_struct : (f : Option ℕ → Option ℕ → Body → Edit) (n : List ℕ) (g : Shape) (t : Tree) (words section : ℕ) (kids : Trees) → widened (words_of_shape g) (pointers_of_shape g) t ≡ structure words section kids
    → edit_struct f n g t ≡ (let c = edit_named f n (union_in g) (fields_in g) (cell section kids) in structure words c.section c.kids)
edit_of_struct f n (shape nid w p u fs) t words section kids e = ap (in_struct w (edit_named f n u fs)) e

pub struct_edit : (s : Schema) (id : ℕ) (n : List ℕ) (rest : List Step) (verb : Verb) (d t : Tree) (words section : ℕ) (kids : Trees) → widened (words_of_shape (s.shape_of id)) (pointers_of_shape (s.shape_of id)) (opened_tree (struct id) d t) ≡ structure words section kids
    → value_edit (record { around = s; ty = struct id; default = d }) (name n ∷ rest) verb t ≡ (let c = shape_edit s (s.shape_of id) (name n ∷ rest) verb (cell section kids) in structure words c.section c.kids)
struct_edit s id n rest verb d t words section kids e = edit_of_struct (edit_field s rest verb) n (s.shape_of id) (opened_tree (struct id) d t) words section kids e
