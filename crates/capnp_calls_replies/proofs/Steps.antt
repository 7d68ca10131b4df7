-- Steps of a path, through what is shown.
use Rattle.std.proofs.Common.{◌≡◌, ℕ, zero, suc, ◌*◌, Bool, true, false, if◌then◌else◌, Option, Some, None, option_map, List, [], ◌∷◌, Result, Ok, Err, refl, ap, sym, ◌∙◌, subst}
use Rattle.std.specs.Str.{bytes_eq}
use Rattle.capnp_model.specs.Kinds.{Kind, WrongStep, FieldNotFound, InactiveMember, UnreadablePointer}
use Rattle.capnp_model.specs.Trees.{Tree, null}
use Rattle.capnp_model.specs.Schemas.{PlainType, width, bool, int, uint, «enum», Ty, void, plain, text, blob, untyped, interface, struct, list, type_of, Value, FieldKind, slot, group, Shape, Fields, no_fields, field, Body, void_slot, plain_slot, pointer_slot, group_slot, Schema, default_or_null}
use Rattle.capnp_model.specs.Accepted.{field_body, slot_body, default_tree, default_bits}
use Rattle.capnp_model.specs.Readings.{Reading, inactive, null_pointer, fault, number, text_of, blob_of, list_of, record_as, opaque, Readings, Record, discriminant, shape_record, read, read_child}
use Rattle.capnp_model.specs.Printing.{fields_in, as_it_is}
use Rattle.capnp_model.specs.Calls.{Step, name, index, Verb}
use Rattle.capnp_model.specs.Steps.{Outcome, Target, target, target_if, target_of, entry_of as reading_named, replaced, at_target, on_name, on_index, or_empty, opened, through_value, through_field, step_field, step_element}
use Rattle.capnp_model.specs.Answers.{Reply, reply_of, reply_refused}
use Rattle.capnp_model.proofs.lemmas.Paths.{entry_of-fields_of, record_is}
use Rattle.capnp_wire.specs.Views.{StructView}
use Rattle.capnp_values_queries.specs.Fields.{Entry, field_at, place_of_name, union_in}
use Rattle.capnp_values_queries.specs.Structs.{schema_around, shape_of_struct, fields_of_struct}
use Rattle.capnp_values_queries.specs.declared.structs.StructSchema.{StructSchema}
use Rattle.capnp_values_queries.specs.declared.fields.Field.{Field}
use Rattle.capnp_values.specs.Records.{reading_at_index, is_live}
use Rattle.capnp_values.specs.Sources.{masked_bits}
use Rattle.capnp_values.specs.Shown.{Shown, a_number, an_enum, a_text, a_blob, a_struct, a_list, a_pointer, a_capability, number_shown, slot_shown, kind_shown}
use Rattle.capnp_values.specs.Standing.{IsRecord, AreItems, IsReading, Answers, defaulted_field, or_default, null_as_empty as or_empty_value}
use Rattle.capnp_calls.specs.Roots.{starts_with_name}
use Rattle.capnp_calls.proofs.lemmas.OneStep.{reply_of-map}
use Rattle.capnp_calls.proofs.lemmas.NamedFields.{not_found}
use Rattle.capnp_calls.specs.Steps.{starts_with_index}
use Rattle.capnp_values.proofs.lemmas.RecordReadings.{shape_is, field_of_record}
use Rattle.capnp_calls_replies.specs.Parts.{record_reply, items_reply, RepliesAtStruct, RepliesAtList, RepliesBehind, OfField, IsFieldReply}
use Rattle.capnp_calls_replies.proofs.Records.{not_live}
use Rattle.capnp_calls_replies.proofs.Sorts.{IsSorted, slot_sorted}

-- ---- a field by its name

abbrev Found : Fields → Target → ℕ → Type 0
Found fs t i = (e : Entry) × (field_at fs i ≡ Some e) × (t ≡ target e.member e.body)

-- the field at the first index of a name is the one that the name finds
found : (n : List ℕ) (fs : Fields) (i : ℕ) → place_of_name n fs ≡ Some i → (e : Entry) × (field_at fs i ≡ Some e) × (target_of n fs ≡ target e.member e.body)
found n no_fields i h = absurd cc
found n (field m k b fs) i h = by (bytes_eq m n) (found n fs) (place_of_name n fs) refl i h
  where
    by : (t : Bool) → ((j : ℕ) → place_of_name n fs ≡ Some j → Found fs (target_of n fs) j) → (o : Option ℕ) → place_of_name n fs ≡ o
        → (i : ℕ) → (if t then Some 0 else option_map (λ j. suc j) o) ≡ Some i → Found (field m k b fs) (target_if t (target k b) (target_of n fs)) i
    by true again o g zero h = (record { name = m; member = k; body = b }, refl, refl)
    by true again o g (suc i) h = absurd cc
    by false again None g i h = absurd cc
    by false again (Some j) g zero h = absurd cc
    by false again (Some j) g (suc i) h = let same : j ≡ i = cc in again i (g ∙ ap (λ (x : ℕ). Some x) same)

-- a path that begins with no name
pub no_name : (s : Schema) (fs : Fields) (path : List Step) (verb : Verb) (r : Record) → starts_with_name path ≡ false → reply_refused WrongStep ≡ record_reply s fs path verb r
no_name s fs [] verb r h = refl
no_name s fs (name n ∷ path) verb r h = absurd cc
no_name s fs (index i ∷ path) verb r h = refl

-- the reply at a field is that along its name
pub named_reply : (f : Field) (root : StructSchema) (v : StructView) (n : List ℕ) (path whole : List Step) (verb : Verb) (answer : Reply) → f.parent ≡ root → Some f.index ≡ place_of_name n (fields_of_struct root)
    → whole ≡ name n ∷ path → OfField f v (IsFieldReply path verb answer) → RepliesAtStruct (schema_around root) (shape_of_struct root) v whole verb answer
named_reply f root v n path whole verb answer parent place split h =
    subst (λ (w : List Step). RepliesAtStruct (schema_around root) (shape_of_struct root) v w verb answer) (sym split)
    (subst (λ (q : StructSchema). Some f.index ≡ place_of_name n (fields_of_struct q) → RepliesAtStruct (schema_around q) (shape_of_struct q) v (name n ∷ path) verb answer) parent (λ at r rec. here at r rec) place)
  where
    here : Some f.index ≡ place_of_name n (fields_of_struct f.parent) → RepliesAtStruct (schema_around f.parent) (shape_of_struct f.parent) v (name n ∷ path) verb answer
    here at r rec =
        let s = schema_around f.parent in
        let g = shape_of_struct f.parent in
        let fs = fields_in g in
        let kids = read_child s rec.kids in
        let d = discriminant (union_in g) rec.extent rec.section in
        let there = found n fs f.index (sym at) in
        let e : Entry = there.0 in
        let same = record_is r (shape_record g rec.extent rec.section kids) rec.is ∙ shape_is g rec.extent rec.section kids in
        let reads : reading_named n r ≡ reading_at_index f.index r =
        ap (reading_named n) same ∙ entry_of-fields_of n fs e.member e.body d rec.extent rec.section kids there.2 ∙ sym (field_of_record fs f.index d rec.extent rec.section kids e there.1) ∙ ap (reading_at_index f.index) (sym same) in
        h e r there.1 rec
        ∙ ap (λ (x : Reading). reply_of s as_it_is (step_field s path verb e.body x)) (sym reads)
        ∙ sym (reply_of-map s (λ (x : Reading). replaced n e.member x fs r) (step_field s path verb e.body (reading_named n r)))
        ∙ ap (λ (t : Target). reply_of s as_it_is (at_target (step_field s path verb) n fs r t)) (sym there.2)

-- a name that no field has
pub missing_reply : (root : StructSchema) (v : StructView) (n : List ℕ) (path whole : List Step) (verb : Verb) → place_of_name n (fields_of_struct root) ≡ None → whole ≡ name n ∷ path
    → RepliesAtStruct (schema_around root) (shape_of_struct root) v whole verb (reply_refused FieldNotFound)
missing_reply root v n path whole verb place split =
    subst (λ (w : List Step). RepliesAtStruct (schema_around root) (shape_of_struct root) v w verb (reply_refused FieldNotFound)) (sym split)
    (λ r rec. ap (λ (t : Target). reply_of (schema_around root) as_it_is (at_target (step_field (schema_around root) path verb) n (fields_of_struct root) r t)) (sym (not_found n (fields_of_struct root) place)))

-- ---- an element by its index

-- a path that begins with no index
pub no_index : (s : Schema) (ty : Ty) (path : List Step) (verb : Verb) (rs : Readings) → starts_with_index path ≡ false → reply_refused WrongStep ≡ items_reply s ty path verb rs
no_index s ty [] verb rs h = refl
no_index s ty (index k ∷ path) verb rs h = absurd cc
no_index s ty (name n ∷ path) verb rs h = refl

-- ---- through what is shown

module _ (s : Schema) (path : List Step) (verb : Verb) where
  abbrev through : Step → Ty → Reading → Outcome Reading
  through st ty r = through_value s st (step_field s path verb) (step_element s path verb) ty r

  abbrev reply : Outcome Reading → Reply
  reply o = reply_of s as_it_is o

  struct_through : (st : Step) (id : ℕ) (r : Record) → record_reply s (fields_in (s.shape_of id)) (st ∷ path) verb r ≡ reply (through st (struct id) (record_as r))
  struct_through (name n) id r = sym (reply_of-map s record_as (on_name (step_field s path verb) n (fields_in (s.shape_of id)) r))
  struct_through (index k) id r = refl

  list_through : (st : Step) (ty : Ty) (rs : Readings) → items_reply s ty (st ∷ path) verb rs ≡ reply (through st (list ty) (list_of rs))
  list_through (name n) ty rs = refl
  list_through (index k) ty rs = sym (reply_of-map s list_of (on_index (step_element s path verb ty) k rs))

  through_shown : (st : Step) (ty : Ty) (x : Shown) (r : Reading) → IsReading s x r → IsSorted s ty x → (answer : Reply) → RepliesBehind x (st ∷ path) verb answer → answer ≡ reply (through st ty r)
  through_shown st ty (a_number t n) r is sorted answer h = h ∙ ap (λ z. reply (through st ty z)) (sym is)
  through_shown st ty (an_enum t id n) r is sorted answer h = h ∙ ap (λ z. reply (through st ty z)) (sym is.1)
  through_shown st ty (a_text bytes) r is sorted answer h = h ∙ ap (λ z. reply (through st ty z)) (sym is)
  through_shown st ty (a_blob bytes) r is sorted answer h = h ∙ ap (λ z. reply (through st ty z)) (sym is)
  through_shown st ty (a_struct t g v) r is sorted answer h =
      let rr = shape_record g is.1.extent is.1.section (read_child s is.1.kids) in
      let here : RepliesAtStruct s g v (st ∷ path) verb answer = subst (λ (z : Schema). RepliesAtStruct z g v (st ∷ path) verb answer) is.0 h in
      let reads : answer ≡ record_reply s (fields_in g) (st ∷ path) verb rr = here rr (subst (λ (z : Reading). IsRecord s g v z) is.1.is is.1) in
      reads ∙ ap (λ (z : Shape). record_reply s (fields_in z) (st ∷ path) verb rr) sorted.2 ∙ struct_through st sorted.0 rr
      ∙ ap (λ (z : Ty). reply (through st z (record_as rr))) (sym sorted.1) ∙ ap (λ z. reply (through st ty z)) (sym is.1.is)
  through_shown st ty (a_list t e l) r is sorted answer h =
      let rs = is.1.items in
      let here : RepliesAtList s e l (st ∷ path) verb answer = subst (λ (z : Schema). RepliesAtList z e l (st ∷ path) verb answer) is.0 h in
      let reads : answer ≡ items_reply s e (st ∷ path) verb rs = here rs (subst (λ (z : Reading). AreItems s e l z) is.1.is is.1) in
      reads ∙ list_through st e rs ∙ ap (λ (z : Ty). reply (through st z (list_of rs))) (sym sorted) ∙ ap (λ z. reply (through st ty z)) (sym is.1.is)
  through_shown st ty (a_pointer p) r is sorted answer h = h ∙ ap (λ z. reply (through st ty z)) (sym is.is)
  through_shown st ty a_capability r is sorted answer h = h ∙ ap (λ z. reply (through st ty z)) (sym is.1)

  -- a refusal, or the reply at what is shown
  abbrev pub RepliesThrough : Step → Result Shown Kind → Reply → Type 0
  RepliesThrough st (Ok x) answer = RepliesBehind x (st ∷ path) verb answer
  RepliesThrough st (Err kind) answer = answer ≡ reply_refused UnreadablePointer

  through_answer : (st : Step) (ty : Ty) (q : Result Shown Kind) (r : Reading) → Answers s q r → ((x : Shown) → q ≡ Ok x → IsSorted s ty x) → (answer : Reply) → RepliesThrough st q answer → answer ≡ reply (through st ty r)
  through_answer st ty (Ok x) r is sorted answer h = through_shown st ty x r is (sorted x refl) answer h
  through_answer st ty (Err kind) r is sorted answer h = h ∙ ap (λ z. reply (through st ty z)) (sym is)

  -- ---- nulls on the way

  empty_same : (st : Step) (ty : Ty) → through st ty (or_empty s ty null_pointer) ≡ through st ty (or_empty_value s ty null_pointer)
  empty_same st void = refl
  empty_same st (plain p) = refl
  empty_same st text = refl
  empty_same st blob = refl
  empty_same st untyped = refl
  empty_same st interface = refl
  empty_same st (struct id) = refl
  empty_same st (list ty) = refl

  or_empty_same : (st : Step) (ty : Ty) (z : Reading) → through st ty (or_empty s ty z) ≡ through st ty (or_empty_value s ty z)
  or_empty_same st ty null_pointer = empty_same st ty
  or_empty_same st ty inactive = refl
  or_empty_same st ty (fault kind) = refl
  or_empty_same st ty (number n) = refl
  or_empty_same st ty (text_of bytes) = refl
  or_empty_same st ty (blob_of bytes) = refl
  or_empty_same st ty (list_of rs) = refl
  or_empty_same st ty (record_as r) = refl
  or_empty_same st ty (opaque t) = refl

  opened_same : (st : Step) (ty : Ty) (d : Tree) (z : Reading) → through st ty (opened s ty d z) ≡ through st ty (or_default s ty d z)
  opened_same st ty d null_pointer = or_empty_same st ty (read s d ty)
  opened_same st ty d inactive = refl
  opened_same st ty d (fault kind) = refl
  opened_same st ty d (number n) = refl
  opened_same st ty d (text_of bytes) = refl
  opened_same st ty d (blob_of bytes) = refl
  opened_same st ty d (list_of rs) = refl
  opened_same st ty d (record_as r) = refl
  opened_same st ty d (opaque t) = refl

  element_same : (st : Step) (ty : Ty) (z : Reading) → through st ty (opened s ty null z) ≡ through st ty (or_empty_value s ty z)
  unfolding read
  element_same st ty null_pointer = or_empty_same st ty null_pointer
  element_same st ty inactive = refl
  element_same st ty (fault kind) = refl
  element_same st ty (number n) = refl
  element_same st ty (text_of bytes) = refl
  element_same st ty (blob_of bytes) = refl
  element_same st ty (list_of rs) = refl
  element_same st ty (record_as r) = refl
  element_same st ty (opaque t) = refl

  -- ---- a field

  abbrev field_through : Step → Body → Reading → Outcome Reading
  field_through st body r = through_field s st (step_field s path verb) (step_element s path verb) body r

  pointer_through : (st : Step) (i : ℕ) (ty : Ty) (d : Option Tree) (r : Reading) → is_live r ≡ true → field_through st (pointer_slot i ty d) r ≡ through st ty (opened s ty (default_or_null d) r)
  pointer_through st i ty d inactive live = absurd cc
  pointer_through st i ty d null_pointer live = refl
  pointer_through st i ty d (fault kind) live = refl
  pointer_through st i ty d (number n) live = refl
  pointer_through st i ty d (text_of bytes) live = refl
  pointer_through st i ty d (blob_of bytes) live = refl
  pointer_through st i ty d (list_of rs) live = refl
  pointer_through (name n) i ty d (record_as r) live = refl
  pointer_through (index k) i ty d (record_as r) live = refl
  pointer_through st i ty d (opaque t) live = refl

  group_through : (st : Step) (g : Shape) (r : Record) → record_reply s (fields_in g) (st ∷ path) verb r ≡ reply (field_through st (group_slot g) (record_as r))
  group_through (name n) g r = sym (reply_of-map s record_as (on_name (step_field s path verb) n (fields_in g) r))
  group_through (index k) g r = refl

  number_through : (st : Step) (p : PlainType) (at d n : ℕ) (r : Reading) → IsReading s (number_shown s p n) r → (answer : Reply) → RepliesBehind (number_shown s p n) (st ∷ path) verb answer → answer ≡ reply (field_through st (plain_slot p at d) r)
  number_through st bool at d n r is answer h = h ∙ ap (λ z. reply (field_through st (plain_slot bool at d) z)) (sym is)
  number_through st (int w) at d n r is answer h = h ∙ ap (λ z. reply (field_through st (plain_slot (int w) at d) z)) (sym is)
  number_through st (uint w) at d n r is answer h = h ∙ ap (λ z. reply (field_through st (plain_slot (uint w) at d) z)) (sym is)
  number_through st («enum» id) at d n r is answer h = h ∙ ap (λ z. reply (field_through st (plain_slot («enum» id) at d) z)) (sym is.1)

  behind_through : (st : Step) (v : StructView) (o : ℕ) (ty : Ty) (d : Option Value) (r : Reading) → is_live r ≡ true → Answers s (slot_shown s v o ty d) (or_default s ty (default_or_null (default_tree d)) r)
      → (answer : Reply) → RepliesThrough st (slot_shown s v o ty d) answer → answer ≡ reply (field_through st (pointer_slot o ty (default_tree d)) r)
  behind_through st v o ty d r live is answer h =
      through_answer st ty (slot_shown s v o ty d) (or_default s ty (default_or_null (default_tree d)) r) is (λ x e. slot_sorted s ty v o d x e) answer h
      ∙ ap reply (sym (opened_same st ty (default_or_null (default_tree d)) r) ∙ sym (pointer_through st o ty (default_tree d) r live))

  slot_through : (st : Step) (v : StructView) (o : ℕ) (ty : Ty) (d : Option Value) (r : Reading) → is_live r ≡ true → Answers s (slot_shown s v o ty d) (defaulted_field s (slot_body o ty d) r)
      → (answer : Reply) → RepliesThrough st (slot_shown s v o ty d) answer → answer ≡ reply (field_through st (slot_body o ty d) r)
  slot_through st v o void d r live is answer h = h ∙ ap (λ z. reply (field_through st (void_slot o) z)) (sym is)
  slot_through st v o (plain p) d r live is answer h = number_through st p (width p * o) (default_bits d) (masked_bits v (width p * o) (width p) (default_bits d)) r is answer h
  slot_through st v o text d r live is answer h = behind_through st v o text d r live is answer h
  slot_through st v o blob d r live is answer h = behind_through st v o blob d r live is answer h
  slot_through st v o untyped d r live is answer h = behind_through st v o untyped d r live is answer h
  slot_through st v o interface d r live is answer h = behind_through st v o interface d r live is answer h
  slot_through st v o (struct id) d r live is answer h = behind_through st v o (struct id) d r live is answer h
  slot_through st v o (list ty) d r live is answer h = behind_through st v o (list ty) d r live is answer h

  -- the reply at what a field shows is that through the field
  pub kind_through : (st : Step) (v : StructView) (k : FieldKind) (r : Reading) → is_live r ≡ true → Answers s (kind_shown s v k) (defaulted_field s (field_body s.shape_of k) r)
      → (answer : Reply) → RepliesThrough st (kind_shown s v k) answer → answer ≡ reply_of s as_it_is (step_field s (st ∷ path) verb (field_body s.shape_of k) r)
  unfolding step_field
  kind_through st v (slot o tr d) r live is answer h = slot_through st v o (type_of tr) d r live is answer h
  kind_through st v (group id) r live is answer h =
      let rr = shape_record (s.shape_of id) is.1.extent is.1.section (read_child s is.1.kids) in
      h rr (subst (λ (z : Reading). IsRecord s (s.shape_of id) v z) is.1.is is.1)
      ∙ group_through st (s.shape_of id) rr ∙ ap (λ z. reply (field_through st (group_slot (s.shape_of id)) z)) (sym is.1.is)

  -- a member that isn't active takes no step
  pub inactive_through : (st : Step) (body : Body) (r : Reading) → is_live r ≡ false → reply_refused InactiveMember ≡ reply_of s as_it_is (step_field s (st ∷ path) verb body r)
  unfolding step_field
  inactive_through st body r live = ap (λ z. reply (field_through st body z)) (sym (not_live r live))

  -- the reply at what an element shows is that through the element
  pub element_through : (st : Step) (ty : Ty) (q : Result Shown Kind) (r : Reading) → Answers s q (or_empty_value s ty r) → ((x : Shown) → q ≡ Ok x → IsSorted s ty x) → (answer : Reply) → RepliesThrough st q answer
      → answer ≡ reply_of s as_it_is (step_element s (st ∷ path) verb ty r)
  unfolding step_element
  element_through st ty q r is sorted answer h = through_answer st ty q (or_empty_value s ty r) is sorted answer h ∙ ap reply (sym (element_same st ty r))
