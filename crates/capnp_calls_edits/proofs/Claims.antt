-- What is claimed where a call is done, at each step of its path.
use Rattle.std.proofs.Common.{◌≡◌, ◌≢◌, ℕ, suc, ◌<◌, Bool, true, false, if◌then◌else◌, Option, None, Some, List, [], ◌∷◌, Result, Ok, Err, IfErr, refl, sym, subst}
use Rattle.std.specs.Prelude.{option_map}
use Rattle.std.specs.Str.{bytes_eq}
use Rattle.capnp_model.specs.Segments.{Segments, Place, after}
use Rattle.capnp_model.specs.Accepted.{schema_of}
use Rattle.capnp_model.specs.Trees.{Tree, null, capability, structure, plain_list, pointer_list, struct_list, child}
use Rattle.capnp_model.specs.Schemas.{PlainType, Ty, void, plain, text, blob, untyped, interface, struct, list, Fields, no_fields, field, Field as FieldNode, Body, void_slot, plain_slot, pointer_slot, group_slot, Schema, default_or_null}
use Rattle.capnp_model.specs.Readings.{Reading, Readings, Extent, inactive, null_pointer, fault, number, text_of, blob_of, list_of, record_as, opaque, Record, shape_record, body_of, read, read_child}
use Rattle.capnp_model.specs.Printing.{fields_in}
use Rattle.capnp_model.specs.Calls.{Step, name, index, Verb}
use Rattle.capnp_model.specs.Steps.{Outcome, no_target, target, target_if, target_of, at_target, opened, or_empty, through_value, step_field, step_element}
use Rattle.capnp_model.specs.Edits.{Cell, opened_tree}
use Rattle.capnp_wire_objects.specs.Places.{place_view}
use Rattle.capnp_model_writes.specs.Footprints.{Owns}
use Rattle.capnp_model_writes.proofs.lemmas.Lift.{child_of_struct}
use Rattle.capnp_values_queries.specs.Fields.{place_of_name, entry_in}
use Rattle.capnp_values_queries.specs.Structs.{nodes_around, schema_around, shape_of_struct, fields_of_struct}
use Rattle.std.specs.Borrow.{Bor}
use Rattle.capnp_records.specs.declared.node.Value.{Value}
use Rattle.capnp_values_queries.specs.Handles.{entry_of_field, IsFieldRecord, body_of_place}
use Rattle.capnp_values_queries.specs.declared.introspect.«Type».{«Type» as SchemaType}
use Rattle.capnp_values_queries.specs.declared.slots.FieldPlace.{FieldPlace}
use Rattle.capnp_values_queries.specs.declared.slots.FieldPlace.TheVariants as F
use Rattle.capnp_values_queries.specs.declared.structs.StructSchema.{StructSchema}
use Rattle.capnp_values_queries.specs.declared.fields.Field.{Field}
use Rattle.capnp_copy_arenas.specs.declared.fields.StructPlace.{StructPlace}
use Rattle.capnp_calls.specs.Roots.{starts_with_name}
use Rattle.capnp_calls.specs.Steps.{BeginsWithIndex}
use Rattle.capnp_calls.specs.Sizes.{IsDone}
use Rattle.capnp_calls_edits.specs.Elements.{IsDoneWithin, WhereDoneWithin, IsFieldDone, WhereFieldDone}
use Rattle.capnp_calls_edits.specs.Written.{ClaimsWhere, WhereDone, WhereFieldTakes, WhereValueDone, WhereRead, HasNoFault, value_outcome}
use Rattle.capnp_calls_edits.proofs.Lifting.{cell}
use Rattle.capnp_calls_edits.proofs.lemmas.Outcomes.{found_at, behind_within, whole_within, end_at, done_within, group_done, pointer_done}

pub on_err : {X E : Type 0} (r : Result X E) (P Q : E → Type 0) → ((e : E) → P e → Q e) → IfErr r P → IfErr r Q
on_err (Ok x) P Q f h = tt
on_err (Err e) P Q f h = f e h

-- what isn't there
pub none_of : {A : Type 0} (o : Option A) → ((x : A) → o ≡ Some x → ⊥) → o ≡ None
none_of None h = refl
none_of (Some x) h = absurd (h x refl)

-- what is told where something is taken
pub if_taken : {X E C : Type 0} (r : Result X E) (told : E → Type 0) (Takes : C → Type 0) → ((c : C) → Takes c → IfErr r told) → IfErr r (λ e. (c : C) → Takes c → told e)
if_taken (Ok x) told Takes h = tt
if_taken (Err e) told Takes h = h

-- by another test
pub claims_alike : (s : Segments) (p : StructPlace) (A B : Cell → Type 0) (Claim : Type 0) → ((c : Cell) → B c → A c) → ClaimsWhere A s p Claim → ClaimsWhere B s p Claim
claims_alike s p A B Claim f h n section kids own b = h n section kids own (f (cell section kids) b)

pub path_claimed : (s : Segments) (p : StructPlace) (g : StructSchema) (path : List Step) (verb : Verb) (Claim : Type 0) → WhereDoneWithin s p g (record { path = path; verb = verb }) Claim → WhereDone s p g (record { path = path; verb = verb }) Claim
path_claimed s p g path verb Claim h n section kids own is_done = h n section kids own (whole_within (schema_around g) (shape_of_struct g) path verb (cell section kids) is_done)

-- ---- a field by its name

-- a path that begins with no name is done nowhere
pub no_name : (s : Segments) (p : StructPlace) (g : StructSchema) (path : List Step) (verb : Verb) (Claim : Type 0) → starts_with_name path ≡ false → WhereDoneWithin s p g (record { path = path; verb = verb }) Claim
no_name s p g [] verb Claim e = λ n section kids own h. absurd h.1
no_name s p g (index k ∷ rest) verb Claim e = λ n section kids own h. absurd h.1
no_name s p g (name m ∷ rest) verb Claim e = absurd (cc e)

missing : (n : List ℕ) (fs : Fields) → place_of_name n fs ≡ None → target_of n fs ≡ no_target
missing n no_fields e = refl
missing n (field m member body fs) e = by (bytes_eq m n) (missing n fs) e
  where
    unmapped : (o : Option ℕ) → option_map (λ i. suc i) o ≡ None → o ≡ None
    unmapped None h = refl
    unmapped (Some i) h = absurd (cc h)

    by : (b : Bool) → (place_of_name n fs ≡ None → target_of n fs ≡ no_target) → (if b then Some 0 else option_map (λ i. suc i) (place_of_name n fs)) ≡ None → target_if b (target member body) (target_of n fs) ≡ no_target
    by true more h = absurd (cc h)
    by false more h = more (unmapped (place_of_name n fs) h)

-- nor one that begins with a name that the struct lacks
pub no_field : (s : Segments) (p : StructPlace) (g : StructSchema) (n : List ℕ) (rest : List Step) (verb : Verb) (Claim : Type 0) → place_of_name n (fields_of_struct g) ≡ None → WhereDoneWithin s p g (record { path = name n ∷ rest; verb = verb }) Claim
no_field s p g n rest verb Claim none = λ m section kids own h. (
    let around = schema_around g in
    let r : Record = shape_record (shape_of_struct g) h.0 section (read_child around kids) in
    absurd (subst (λ t. IsDone (at_target (step_field around rest verb) n (fields_in (shape_of_struct g)) r t)) (missing n (fields_of_struct g) none) h.1)
    )

module _ (s : Segments) (p : StructPlace) (f : Field) (r : FieldNode) (is : IsFieldRecord f.parent f.index r) (n : List ℕ) (rest : List Step) (verb : Verb) (Claim : Type 0) where
  own_name : Some f.index ≡ place_of_name n (fields_of_struct f.parent) → WhereFieldDone s p f (record { path = rest; verb = verb }) Claim → WhereDoneWithin s p f.parent (record { path = name n ∷ rest; verb = verb }) Claim
  own_name at h =
      let around = schema_around f.parent in
      let g = shape_of_struct f.parent in
      let e = entry_in around r in
      let found : target_of n (fields_of_struct f.parent) ≡ target e.member e.body = found_at n (fields_of_struct f.parent) f.index e (sym at) is.entry in
      claims_alike s p (IsFieldDone f rest verb (entry_of_field f)) (IsDoneWithin around g (name n ∷ rest) verb) Claim
      (λ c all. (
      let here : IsDone (step_field around rest verb e.body (body_of e.body all.0 c.section (read_child around c.kids))) = behind_within around g n rest verb e.member e.body c all.0 found all.1 in
      subst (λ o. IsFieldDone f rest verb o c) (sym is.entry) (all.0, here)
      )) h

  pub name_claimed : (g : StructSchema) → f.parent ≡ g → Some f.index ≡ place_of_name n (fields_of_struct g) → WhereFieldDone s p f (record { path = rest; verb = verb }) Claim → WhereDoneWithin s p g (record { path = name n ∷ rest; verb = verb }) Claim
  name_claimed g e = subst (λ x. Some f.index ≡ place_of_name n (fields_of_struct x) → WhereFieldDone s p f (record { path = rest; verb = verb }) Claim → WhereDoneWithin s p x (record { path = name n ∷ rest; verb = verb }) Claim) e own_name

-- at the end
pub end_claimed : (s : Segments) (p : StructPlace) (f : Field) (verb : Verb) (Claim : Type 0) → WhereFieldTakes f verb Claim → WhereFieldDone s p f (record { path = []; verb = verb }) Claim
end_claimed s p f verb Claim h = λ n section kids own all. h (cell section kids) (end_at f verb (entry_of_field f) (cell section kids) all)

-- ---- a field by its body

module _ (s : Segments) (p : StructPlace) (f : Field) (r : FieldNode) (is : IsFieldRecord f.parent f.index r) (verb : Verb) (Claim : Type 0) where
  pub group_claimed : (g : StructSchema) → option_map (λ e. e.body) (entry_of_field f) ≡ Some (group_slot (shape_of_struct g)) → nodes_around g ≡ nodes_around f.parent → (path : List Step) → path ≢ [] → WhereDoneWithin s p g (record { path = path; verb = verb }) Claim → WhereFieldDone s p f (record { path = path; verb = verb }) Claim
  group_claimed g same nodes [] some h = absurd (some refl)
  group_claimed g same nodes (st ∷ rest) some h =
      let around = schema_around f.parent in
      let own = shape_of_struct g in
      let b : Body = group_slot own in
      claims_alike s p (IsDoneWithin around own (st ∷ rest) verb) (IsFieldDone f (st ∷ rest) verb (entry_of_field f)) Claim
      (λ c all. (let x = done_within f r is b same (st ∷ rest) verb c all in (x.0, group_done around own rest verb c x.0 st x.1)))
      (subst (λ ns. ClaimsWhere (IsDoneWithin (schema_of ns) own (st ∷ rest) verb) s p Claim) nodes h)

  pub pointer_claimed : (i : ℕ) (ty : Ty) (d : Option Tree) → option_map (λ e. e.body) (entry_of_field f) ≡ Some (pointer_slot i ty d) → (q : Place) → i < p.pointers → q ≡ after (after (place_view p.start) p.data_words) i → (path : List Step) → path ≢ []
      → WhereValueDone s q (record { around = schema_around f.parent; ty = ty; default = default_or_null d }) (record { path = path; verb = verb }) Claim → WhereFieldDone s p f (record { path = path; verb = verb }) Claim
  pointer_claimed i ty d same q l e [] some h = absurd (some refl)
  pointer_claimed i ty d same q l e (st ∷ rest) some h = λ n section kids own all. (
      let around = schema_around f.parent in
      let c : Cell = cell section kids in
      let x = done_within f r is (pointer_slot i ty d) same (st ∷ rest) verb c all in
      let owned = child_of_struct n s (place_view p.start) p.data_words p.pointers i p.data_words section kids l own in
      h n (child kids i) (subst (λ z. Owns n s z (child kids i)) (sym e) owned) (pointer_done around st rest verb i ty d c x.0 x.1)
      )

  -- no step goes into a slot without a pointer
  void_done : (j : ℕ) (st : Step) (rest : List Step) (x : Extent) (c : Cell) → IsDone (step_field (schema_around f.parent) (st ∷ rest) verb (void_slot j) (body_of (void_slot j) x c.section (read_child (schema_around f.parent) c.kids))) → ⊥
  unfolding step_field body_of
  void_done j (name n) rest x c h = h
  void_done j (index k) rest x c h = h

  plain_done : (q : PlainType) (at d : ℕ) (st : Step) (rest : List Step) (x : Extent) (c : Cell) → IsDone (step_field (schema_around f.parent) (st ∷ rest) verb (plain_slot q at d) (body_of (plain_slot q at d) x c.section (read_child (schema_around f.parent) c.kids))) → ⊥
  unfolding step_field body_of
  plain_done q at d (name n) rest x c h = h
  plain_done q at d (index k) rest x c h = h

  pub void_claimed : (j : ℕ) → option_map (λ e. e.body) (entry_of_field f) ≡ Some (void_slot j) → (path : List Step) → path ≢ [] → WhereFieldDone s p f (record { path = path; verb = verb }) Claim
  void_claimed j same [] some = absurd (some refl)
  void_claimed j same (st ∷ rest) some = λ n section kids own all. (
      let c : Cell = cell section kids in
      let x = done_within f r is (void_slot j) same (st ∷ rest) verb c all in
      absurd (void_done j st rest x.0 c x.1)
      )

  pub plain_claimed : (q : PlainType) (at d : ℕ) → option_map (λ e. e.body) (entry_of_field f) ≡ Some (plain_slot q at d) → (path : List Step) → path ≢ [] → WhereFieldDone s p f (record { path = path; verb = verb }) Claim
  plain_claimed q at d same [] some = absurd (some refl)
  plain_claimed q at d same (st ∷ rest) some = λ n section kids own all. (
      let c : Cell = cell section kids in
      let x = done_within f r is (plain_slot q at d) same (st ∷ rest) verb c all in
      absurd (plain_done q at d st rest x.0 c x.1)
      )

  -- at a field without a pointer
  pub place_claimed : (place : FieldPlace) → option_map (λ e. e.body) (entry_of_field f) ≡ Some (body_of_place place) → (path : List Step) → path ≢ [] → ((i : ℕ) (ty : SchemaType) (d : Option (Bor Value)) → place ≡ F.Pointer i ty d → ⊥) → ((g : StructSchema) → place ≡ F.Group g → ⊥) → WhereFieldDone s p f (record { path = path; verb = verb }) Claim
  place_claimed (F.Void o) body path some a b = void_claimed o body path some
  place_claimed (F.Plain ty o d) body path some a b = plain_claimed _ _ _ body path some
  place_claimed (F.Pointer i ty d) body path some a b = absurd (a i ty d refl)
  place_claimed (F.Group g) body path some a b = absurd (b g refl)

-- ---- a pointer's value

-- A step goes on inside a value of the type.
pub data GoesInto : Step → Ty → Type 0 where
  by_name : (n : List ℕ) (id : ℕ) → GoesInto (name n) (struct id)
  by_index : (k : ℕ) (e : Ty) → GoesInto (index k) (list e)

module _ (s : Schema) (f : Body → Reading → Outcome Reading) (e : Ty → Reading → Outcome Reading) where
  named_into : (n : List ℕ) (ty : Ty) (r : Record) → IsDone (through_value s (name n) f e ty (record_as r)) → GoesInto (name n) ty
  named_into n void r h = absurd h
  named_into n (plain p) r h = absurd h
  named_into n text r h = absurd h
  named_into n blob r h = absurd h
  named_into n untyped r h = absurd h
  named_into n interface r h = absurd h
  named_into n (struct id) r h = by_name n id
  named_into n (list t) r h = absurd h

  indexed_into : (k : ℕ) (ty : Ty) (rs : Readings) → IsDone (through_value s (index k) f e ty (list_of rs)) → GoesInto (index k) ty
  indexed_into k void rs h = absurd h
  indexed_into k (plain p) rs h = absurd h
  indexed_into k text rs h = absurd h
  indexed_into k blob rs h = absurd h
  indexed_into k untyped rs h = absurd h
  indexed_into k interface rs h = absurd h
  indexed_into k (struct id) rs h = absurd h
  indexed_into k (list t) rs h = by_index k t

  pub goes_into : (st : Step) (ty : Ty) (r : Reading) → IsDone (through_value s st f e ty r) → GoesInto st ty
  goes_into (name n) ty inactive h = absurd h
  goes_into (name n) ty null_pointer h = absurd h
  goes_into (name n) ty (fault k) h = absurd h
  goes_into (name n) ty (number k) h = absurd h
  goes_into (name n) ty (text_of bs) h = absurd h
  goes_into (name n) ty (blob_of bs) h = absurd h
  goes_into (name n) ty (list_of rs) h = absurd h
  goes_into (name n) ty (record_as r) h = named_into n ty r h
  goes_into (name n) ty (opaque t) h = absurd h
  goes_into (index j) ty inactive h = absurd h
  goes_into (index j) ty null_pointer h = absurd h
  goes_into (index j) ty (fault k) h = absurd h
  goes_into (index j) ty (number k) h = absurd h
  goes_into (index j) ty (text_of bs) h = absurd h
  goes_into (index j) ty (blob_of bs) h = absurd h
  goes_into (index j) ty (list_of rs) h = indexed_into j ty rs h
  goes_into (index j) ty (record_as r) h = absurd h
  goes_into (index j) ty (opaque t) h = absurd h

-- where the steps into a value are done, it can go on there
pub steps_into : (s : Schema) (ty : Ty) (d t : Tree) (st : Step) (rest : List Step) (verb : Verb) → IsDone (value_outcome (record { around = s; ty = ty; default = d }) (st ∷ rest) verb t) → GoesInto st ty
steps_into s ty d t st rest verb h = goes_into s (step_field s rest verb) (step_element s rest verb) st ty (opened s ty d (read s t ty)) h

-- and the value can be read
module _ (s : Schema) (ty : Ty) (d : Tree) (st : Step) (f : Body → Reading → Outcome Reading) (e : Ty → Reading → Outcome Reading) where
  sound_there : (r : Reading) → IsDone (through_value s st f e ty (opened s ty d r)) → HasNoFault r
  sound_there inactive h = tt
  sound_there null_pointer h = tt
  sound_there (fault k) h = absurd h
  sound_there (number n) h = tt
  sound_there (text_of bs) h = tt
  sound_there (blob_of bs) h = tt
  sound_there (list_of rs) h = tt
  sound_there (record_as r) h = tt
  sound_there (opaque t) h = tt

  sound_default : (r : Reading) → IsDone (through_value s st f e ty (or_empty s ty r)) → HasNoFault r
  sound_default inactive h = tt
  sound_default null_pointer h = tt
  sound_default (fault k) h = absurd h
  sound_default (number n) h = tt
  sound_default (text_of bs) h = tt
  sound_default (blob_of bs) h = tt
  sound_default (list_of rs) h = tt
  sound_default (record_as r) h = tt
  sound_default (opaque t) h = tt

pub steps_read : (s : Schema) (ty : Ty) (d t : Tree) (st : Step) (rest : List Step) (verb : Verb) → IsDone (value_outcome (record { around = s; ty = ty; default = d }) (st ∷ rest) verb t) → HasNoFault (read s (opened_tree ty d t) ty)
unfolding read
steps_read s ty d null st rest verb h = sound_default s ty d st (step_field s rest verb) (step_element s rest verb) (read s d ty) h
steps_read s ty d (capability i) st rest verb h = sound_there s ty d st (step_field s rest verb) (step_element s rest verb) (read s (capability i) ty) h
steps_read s ty d (structure w x ts) st rest verb h = sound_there s ty d st (step_field s rest verb) (step_element s rest verb) (read s (structure w x ts) ty) h
steps_read s ty d (plain_list size n x) st rest verb h = sound_there s ty d st (step_field s rest verb) (step_element s rest verb) (read s (plain_list size n x) ty) h
steps_read s ty d (pointer_list ts) st rest verb h = sound_there s ty d st (step_field s rest verb) (step_element s rest verb) (read s (pointer_list ts) ty) h
steps_read s ty d (struct_list w p es) st rest verb h = sound_there s ty d st (step_field s rest verb) (step_element s rest verb) (read s (struct_list w p es) ty) h

pub value_read : (s : Segments) (p : Place) (around : Schema) (ty : Ty) (d : Tree) (path : List Step) (verb : Verb) (Claim : Type 0) → WhereRead s p (record { around = around; ty = ty; default = d }) Claim → WhereValueDone s p (record { around = around; ty = ty; default = d }) (record { path = path; verb = verb }) Claim
value_read s p around ty d [] verb Claim h = λ n t own is_done. absurd is_done
value_read s p around ty d (st ∷ rest) verb Claim h = λ n t own is_done. h n t own (steps_read around ty d t st rest verb is_done)

-- a path that doesn't go into values of the type is done at none
pub not_into : (s : Segments) (p : Place) (around : Schema) (ty : Ty) (d : Tree) (path : List Step) (verb : Verb) (Claim : Type 0) → ((st : Step) (rest : List Step) → path ≡ st ∷ rest → GoesInto st ty → ⊥) → WhereValueDone s p (record { around = around; ty = ty; default = d }) (record { path = path; verb = verb }) Claim
not_into s p around ty d [] verb Claim never = λ n t own is_done. absurd is_done
not_into s p around ty d (st ∷ rest) verb Claim never = λ n t own is_done. absurd (never st rest refl (steps_into around ty d t st rest verb is_done))

-- a path that begins with no index doesn't go into lists
pub no_index : (path : List Step) (e : Ty) → BeginsWithIndex path None → (st : Step) (rest : List Step) → path ≡ st ∷ rest → GoesInto st (list e) → ⊥
no_index path e none st rest same (by_index k t) = none_begins k rest (subst (λ q. BeginsWithIndex q None) same none)
  where
    none_begins : (k : ℕ) (rest : List Step) → BeginsWithIndex (index k ∷ rest) None → ⊥
    none_begins k rest h = let no : true ≡ false = h in cc no
