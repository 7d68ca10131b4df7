-- Where nothing in what a group is set to has a fault, only memory is refused.
use Rattle.std.proofs.Common.{◌≡◌, inl, inr, ℕ, zero, suc, ◌+◌, ◌≤◌, Bool, true, false, nat_lt, if◌then◌else◌, Option, Some, None, Result, Ok, Err, IfErr, refl, sym, ap, subst, ◌∙◌, arith}
use Rattle.std.specs.Prelude.{⊤, option_map, not}
use Rattle.capnp_model.specs.Kinds.{Kind}
use Rattle.capnp_model.specs.Segments.{Segments, Place, after}
use Rattle.capnp_model.specs.Traversal.{tree_at, cost_at}
use Rattle.capnp_model.specs.Trees.{Tree, null, capability, structure, plain_list, pointer_list, struct_list, is_null as is_null_tree, Trees, child}
use Rattle.capnp_model.specs.Visits.{visits}
use Rattle.capnp_model.specs.Schemas.{Ty, void, plain, text, blob, untyped, interface, struct, list, Shape, shape, Fields, no_fields, field, Field as FieldNode, Body, void_slot, plain_slot, pointer_slot, group_slot, Schema}
use Rattle.capnp_model.specs.Readings.{Reading, inactive, null_pointer, fault, number, text_of, blob_of, list_of, record_as, opaque, Extent, whole_words, just_bits, is_active, only_if, discriminant, shape_record, fields_of, body_of, read, read_child}
use Rattle.capnp_model.specs.Printing.{fields_in}
use Rattle.capnp_model.specs.Accepted.{schema_of}
use Rattle.capnp_model.specs.Groups.{or_else, pointer_fault, field_fault, is_turn, group_fault, fields_fault, body_fault}
use Rattle.capnp_model.specs.Edits.{has_turn}
use Rattle.capnp_model.proofs.lemmas.Chaining.{some_is}
use Rattle.capnp_model.proofs.lemmas.Depth.{tree_at_more}
use Rattle.capnp_model.proofs.lemmas.Paths.{read_child-is}
use Rattle.capnp_model.proofs.lemmas.Tests.{same_some}
use Rattle.capnp_model.proofs.lemmas.Visits.{values_tell}
use Rattle.capnp_units.specs.Limits.{left_of}
use Rattle.capnp_units.specs.declared.errors.Error.{Error}
use Rattle.capnp_units.specs.declared.limiter.ReadLimiter.{ReadLimiter}
use Rattle.capnp_wire_objects.specs.Walks.{Stopped}
use Rattle.capnp_wire_objects.proofs.lemmas.Walks.{unstopped}
use Rattle.capnp_wire.specs.Laws.{reads_behind}
use Rattle.capnp_wire.specs.Reads.{is_null_at, is_null_pointer}
use Rattle.capnp_wire.specs.Views.{StructView, pointer_field}
use Rattle.capnp_copy_values.specs.Copies.{IsStoppedOr}
use Rattle.capnp_values_queries.specs.Fields.{Entry, field_at, union_in}
use Rattle.capnp_values_queries.specs.Structs.{nodes_around, schema_around, shape_of_struct}
use Rattle.capnp_values_queries.specs.Handles.{entry_of_field, IsFieldRecord}
use Rattle.capnp_values_queries.specs.declared.structs.StructSchema.{StructSchema}
use Rattle.capnp_values_queries.specs.declared.fields.Field.{Field}
use Rattle.capnp_values.specs.Records.{is_live, is_there}
use Rattle.capnp_values.specs.Standing.{IsExtent, LeadsToValue, Answers, null_as_empty, PointersAreRead, IsPointerType}
use Rattle.capnp_values.specs.Shown.{shown_behind}
use Rattle.capnp_values.proofs.lemmas.RecordReadings.{pointer_live, pointer_there}
use Rattle.capnp_schema_structs.specs.GroupFaults.{StandsAt, is_member, IsFaultless, IsFieldFaultless, AreFaultless, IsGroupFaultless}
use Rattle.capnp_schema_structs.specs.GroupRefusals.{type_tested}
use Rattle.capnp_schema_structs.specs.GroupWrites.{GroupSource}
use Rattle.capnp_schema_structs.specs.GroupSets.{ReachesTo, IsSource, entry_turn}
use Rattle.capnp_schema_structs.proofs.lemmas.GroupFields.{body_is}

-- of an error
pub on_err : {X E : Type 0} (r : Result X E) (P Q : E → Type 0) → ((e : E) → P e → Q e) → IfErr r P → IfErr r Q
on_err (Ok x) P Q f h = tt
on_err (Err e) P Q f h = f e h

pub null_tree_is : (t : Tree) → is_null_tree t ≡ true → t ≡ null
null_tree_is null h = refl
null_tree_is (capability i) h = absurd (cc h)
null_tree_is (structure w x ts) h = absurd (cc h)
null_tree_is (plain_list size n x) h = absurd (cc h)
null_tree_is (pointer_list ts) h = absurd (cc h)
null_tree_is (struct_list w p es) h = absurd (cc h)

-- ---- the source

read_alike : (n m : ℕ) (s : Segments) (p : Place) (a b : Tree) → tree_at n s p ≡ Some a → tree_at m s p ≡ Some b → a ≡ b
read_alike n m s p a b e f = some_is a b (sym (tree_at_more n (n + m) s p a (omega arith) e) ∙ tree_at_more m (n + m) s p b (omega arith) f)

behind_alike : (n m : ℕ) (s : Segments) (o : Option Place) (a b : Tree) → reads_behind (tree_at n s) o ≡ Some a → reads_behind (tree_at m s) o ≡ Some b → a ≡ b
behind_alike n m s None a b e f = some_is a b (sym e ∙ f)
behind_alike n m s (Some p) a b e f = read_alike n m s p a b e f

reaches_to : (e : Extent) (v : StructView) → IsExtent e v → ReachesTo e v
reaches_to (just_bits size) v h = h
reaches_to whole_words v h = (h.0, h.1)

pub source_of : (v : StructView) (from : GroupSource) → StandsAt v from → IsSource v from
source_of v from h = record {
  extent = reaches_to from.extent v h.1.extent;
  section = h.1.same;
  children = λ levels i t e. behind_alike h.0 levels v.basis.segments (pointer_field v i).place (child from.kids i) t (h.1.children i).tree e;
}

-- ---- a child

-- one that can be read is copied unless memory is refused
pub child_told : (levels n : ℕ) (v : StructView) (i : ℕ) (t : Tree) → is_null_pointer (pointer_field v i) ≡ false → v.levels ≡ Some levels → LeadsToValue n (pointer_field v i) t → (old new : ReadLimiter) (told : Error → Type 0) (r : Result ⊤ Error) → left_of old ≡ None
    → IsStoppedOr (visits levels v.basis.segments (after v.first i)) old new told r → IfErr r told
child_told levels n v i t some same leads old new told (Ok x) none h = tt
child_told levels n v i t some same leads old new told (Err e) none h =
    elim h [ inl stop ↦ absurd (by (nat_lt i v.pointers) some leads.tree stop) | inr x ↦ x ]
  where
    enough : n ≤ levels
    enough = let left : leads.left ≡ levels = same_some (sym leads.levels ∙ same) in let l = leads.enough in omega (arith, l, left)

    by : (b : Bool) → is_null_at v.basis.segments (if b then Some (after v.first i) else None) ≡ false → reads_behind (tree_at n v.basis.segments) (if b then Some (after v.first i) else None) ≡ Some t → Stopped (visits levels v.basis.segments (after v.first i)) old e new → ⊥
    by true e' f stop =
        let tree = tree_at_more n levels v.basis.segments (after v.first i) t enough f in
        unstopped (visits levels v.basis.segments (after v.first i)) (cost_at levels v.basis.segments (after v.first i)) old new e (values_tell levels v.basis.segments (after v.first i) t tree).0 none stop
    by false e' f stop = cc e'

pub no_levels : (n : ℕ) (v : StructView) (i : ℕ) (t : Tree) → v.levels ≡ None → LeadsToValue n (pointer_field v i) t → ⊥
no_levels n v i t none leads = let no : None ≡ Some leads.left = sym none ∙ leads.levels in cc no

-- ---- faults of pointers

-- a type that isn't set has a fault whatever it reads as
pub untaken : (ty : Ty) (k : Kind) (z : Reading) → type_tested ty ≡ Err k → pointer_fault ty z ≡ None → ⊥
untaken void k z h f = cc h
untaken (plain p) k z h f = cc h
untaken text k z h f = cc h
untaken blob k z h f = cc h
untaken untyped k z h f = cc f
untaken interface k z h f = cc f
untaken (struct id) k z h f = cc h
untaken (list ty) k z h f = cc h

no_empty_fault : (s : Schema) (ty : Ty) (k : Kind) → null_as_empty s ty null_pointer ≡ fault k → ⊥
no_empty_fault s void k h = cc h
no_empty_fault s (plain p) k h = cc h
no_empty_fault s text k h = cc h
no_empty_fault s blob k h = cc h
no_empty_fault s untyped k h = cc h
no_empty_fault s interface k h = cc h
no_empty_fault s (struct id) k h = cc h
no_empty_fault s (list ty) k h = cc h

fault_faults : (ty : Ty) (k : Kind) → pointer_fault ty (fault k) ≡ None → ⊥
fault_faults void k h = cc h
fault_faults (plain p) k h = cc h
fault_faults text k h = cc h
fault_faults blob k h = cc h
fault_faults untyped k h = cc h
fault_faults interface k h = cc h
fault_faults (struct id) k h = cc h
fault_faults (list ty) k h = cc h

unread : (s : Schema) (ty : Ty) (k : Kind) (z : Reading) → null_as_empty s ty z ≡ fault k → pointer_fault ty z ≡ None → ⊥
unread s ty k inactive h f = cc h
unread s ty k null_pointer h f = no_empty_fault s ty k h
unread s ty k (fault j) h f = fault_faults ty j f
unread s ty k (number n) h f = cc h
unread s ty k (text_of bytes) h f = cc h
unread s ty k (blob_of bytes) h f = cc h
unread s ty k (list_of rs) h f = cc h
unread s ty k (record_as r) h f = cc h
unread s ty k (opaque t) h f = cc h

pub unreadable : PointersAreRead → (n : ℕ) (v : StructView) (i : ℕ) (t : Tree) (s : Schema) (ty : Ty) (k : Kind) → IsPointerType ty → LeadsToValue n (pointer_field v i) t → shown_behind s ty (pointer_field v i) ≡ Err k → pointer_fault ty (read s t ty) ≡ None → ⊥
unreadable law n v i t s ty k behind leads h f =
    unread s ty k (read s t ty) (subst (λ q. Answers s q (null_as_empty s ty (read s t ty))) h (law n (pointer_field v i) t s ty behind leads)) f

-- what is there and has no fault as a field has none as a pointer
there_fault : (members : Bool) (ty : Ty) (z : Reading) → is_there z ≡ true → field_fault members ty z ≡ None → pointer_fault ty z ≡ None
there_fault true ty z there h = h
there_fault false ty inactive there h = absurd (cc there)
there_fault false ty null_pointer there h = absurd (cc there)
there_fault false ty (fault k) there h = h
there_fault false ty (number n) there h = h
there_fault false ty (text_of bytes) there h = h
there_fault false ty (blob_of bytes) there h = h
there_fault false ty (list_of rs) there h = h
there_fault false ty (record_as r) there h = h
there_fault false ty (opaque t) there h = h

-- ---- the field

module _ (f : Field) (r : FieldNode) (is : IsFieldRecord f.parent f.index r) (b : Body) (same : option_map (λ e. e.body) (entry_of_field f) ≡ Some b) (from : GroupSource) where
  pub faultless_is : IsFieldFaultless f from → body_fault (is_member r.member) b (body_of b from.extent from.section (read_child (schema_around f.parent) from.kids)) ≡ None
  faultless_is h =
      let s = schema_around f.parent in
      subst (λ y. body_fault (is_member r.member) y (body_of y from.extent from.section (read_child s from.kids)) ≡ None) (body_is f r is b same) (subst (λ o. IsFaultless s o from) is.entry h)

  -- a pointer that is null, of a member
  pub null_faultless : (i : ℕ) (ty : Ty) (d : Option Tree) (m : ℕ) → b ≡ pointer_slot i ty d → r.member ≡ Some m → child from.kids i ≡ null → IsFieldFaultless f from → pointer_fault ty null_pointer ≡ None
  unfolding read body_of group_fault
  null_faultless i ty d m e member empty h =
      let s = schema_around f.parent in
      let here : body_fault true (pointer_slot i ty d) (read_child s from.kids i ty) ≡ None =
      subst (λ z. body_fault z (pointer_slot i ty d) (read_child s from.kids i ty) ≡ None) (ap is_member member) (subst (λ y. body_fault (is_member r.member) y (body_of y from.extent from.section (read_child s from.kids)) ≡ None) e (faultless_is h)) in
      let null_there : read_child s from.kids i ty ≡ null_pointer = read_child-is s from.kids i ty ∙ ap (λ t. read s t ty) empty in
      subst (λ z. pointer_fault ty z ≡ None) null_there here

  -- one that isn't
  pub some_faultless : (i : ℕ) (ty : Ty) (d : Option Tree) → b ≡ pointer_slot i ty d → not (is_null_tree (child from.kids i)) ≡ true → IsFieldFaultless f from → pointer_fault ty (read (schema_around f.parent) (child from.kids i) ty) ≡ None
  unfolding body_of group_fault
  some_faultless i ty d e some h =
      let s = schema_around f.parent in
      let here : field_fault (is_member r.member) ty (read_child s from.kids i ty) ≡ None = subst (λ y. body_fault (is_member r.member) y (body_of y from.extent from.section (read_child s from.kids)) ≡ None) e (faultless_is h) in
      let at : read_child s from.kids i ty ≡ read s (child from.kids i) ty = read_child-is s from.kids i ty in
      there_fault (is_member r.member) ty (read s (child from.kids i) ty) (pointer_there s ty (child from.kids i) ∙ some) (subst (λ z. field_fault (is_member r.member) ty z ≡ None) at here)

  pub group_faultless : (g : StructSchema) → b ≡ group_slot (shape_of_struct g) → nodes_around g ≡ nodes_around f.parent → IsFieldFaultless f from → IsGroupFaultless (schema_around g) (shape_of_struct g) from
  unfolding body_of group_fault
  group_faultless g e nodes h =
      let own = shape_of_struct g in
      let here : body_fault (is_member r.member) (group_slot own) (body_of (group_slot own) from.extent from.section (read_child (schema_around f.parent) from.kids)) ≡ None = subst (λ y. body_fault (is_member r.member) y (body_of y from.extent from.section (read_child (schema_around f.parent) from.kids)) ≡ None) e (faultless_is h) in
      subst (λ ns. group_fault own (shape_record own from.extent from.section (read_child (schema_of ns) from.kids)) ≡ None) (sym nodes) here

-- ---- turns

first_none : (a b : Option Kind) → or_else a b ≡ None → a ≡ None
first_none None b h = refl
first_none (Some k) b h = absurd (cc h)

second_none : (a b : Option Kind) → or_else a b ≡ None → b ≡ None
second_none None b h = h
second_none (Some k) b h = absurd (cc h)

in_turn : (members : Bool) (m : Option ℕ) (x : Reading) → is_member m ≡ members → is_live x ≡ true → is_turn members m x ≡ true
in_turn true None x h live = absurd (cc h)
in_turn true (Some m) inactive h live = absurd (cc live)
in_turn true (Some m) null_pointer h live = refl
in_turn true (Some m) (fault kind) h live = refl
in_turn true (Some m) (number n) h live = refl
in_turn true (Some m) (text_of bytes) h live = refl
in_turn true (Some m) (blob_of bytes) h live = refl
in_turn true (Some m) (list_of rs) h live = refl
in_turn true (Some m) (record_as r) h live = refl
in_turn true (Some m) (opaque t) h live = refl
in_turn false (Some m) x h live = absurd (cc h)
in_turn false None inactive h live = absurd (cc live)
in_turn false None null_pointer h live = refl
in_turn false None (fault kind) h live = refl
in_turn false None (number n) h live = refl
in_turn false None (text_of bytes) h live = refl
in_turn false None (blob_of bytes) h live = refl
in_turn false None (list_of rs) h live = refl
in_turn false None (record_as r) h live = refl
in_turn false None (opaque t) h live = refl

abbrev by_turn : Bool → Bool → Body → Reading → Option Kind
by_turn b members body x = elim b as (λ (z : Bool). Option Kind) [ true ↦ body_fault members body x | false ↦ None ]

turn_member : (members : Bool) (m d : Option ℕ) → has_turn members m d ≡ true → is_member m ≡ members
turn_member true None d h = absurd (cc h)
turn_member true (Some m) d h = refl
turn_member false None d h = refl
turn_member false (Some m) d h = absurd (cc h)

turn_active : (members : Bool) (m d : Option ℕ) → has_turn members m d ≡ true → is_active m d ≡ true
turn_active true None d h = absurd (cc h)
turn_active true (Some m) d h = h
turn_active false None d h = refl
turn_active false (Some m) d h = absurd (cc h)

turn_body : (members : Bool) (m d : Option ℕ) (b : Body) (x : Reading) → has_turn members m d ≡ true → is_live x ≡ true → by_turn (is_turn members m (only_if (is_active m d) x)) members b (only_if (is_active m d) x) ≡ None → body_fault (is_member m) b x ≡ None
turn_body members m d b x turn live h =
    let member = turn_member members m d turn in
    let active : only_if (is_active m d) x ≡ x = ap (λ (a : Bool). only_if a x) (turn_active members m d turn) in
    let here : by_turn (is_turn members m x) members b x ≡ None = subst (λ z. by_turn (is_turn members m z) members b z ≡ None) active h in
    let there : body_fault members b x ≡ None = subst (λ (a : Bool). by_turn a members b x ≡ None) (in_turn members m x member live) here in
    subst (λ (a : Bool). body_fault a b x ≡ None) (sym member) there

body_live : (s : Schema) (kids : Trees) (size : Extent) (section : ℕ) (b : Body) → is_live (body_of b size section (read_child s kids)) ≡ true
unfolding body_of
body_live s kids size section (void_slot j) = refl
body_live s kids size section (plain_slot p at d) = refl
body_live s kids size section (pointer_slot i ty d) = ap is_live (read_child-is s kids i ty) ∙ pointer_live s ty (child kids i)
body_live s kids size section (group_slot g) = refl

one_of : (s : Schema) (members : Bool) (d : Option ℕ) (size : Extent) (section : ℕ) (kids : Trees) (fs : Fields) (i : ℕ) (x : Entry) → fields_fault members fs (fields_of fs d size section (read_child s kids)) ≡ None → field_at fs i ≡ Some x → has_turn members x.member d ≡ true
    → body_fault (is_member x.member) x.body (body_of x.body size section (read_child s kids)) ≡ None
unfolding group_fault shape_record
one_of s members d size section kids no_fields zero x h at turn = absurd (cc at)
one_of s members d size section kids no_fields (suc i) x h at turn = absurd (cc at)
one_of s members d size section kids (field n m b fs) zero x h at turn =
    let e : record { name = n; member = m; body = b } ≡ x = same_some at in
    let turn' : has_turn members m d ≡ true = subst (λ (y : Entry). has_turn members y.member d ≡ true) (sym e) turn in
    subst (λ (y : Entry). body_fault (is_member y.member) y.body (body_of y.body size section (read_child s kids)) ≡ None) e
    (turn_body members m d b (body_of b size section (read_child s kids)) turn' (body_live s kids size section b) (first_none _ _ h))
one_of s members d size section kids (field n m b fs) (suc i) x h at turn = one_of s members d size section kids fs i x (second_none _ _ h) at turn

shape_one : (s : Schema) (members : Bool) (g : Shape) (from : GroupSource) (i : ℕ) (o : Option Entry) → AreFaultless s members g from → field_at (fields_in g) i ≡ o → entry_turn members (union_in g) o from ≡ true → IsFaultless s o from
unfolding shape_record
shape_one s members (shape nid w p u fs) from i None h at turn = tt
shape_one s members (shape nid w p u fs) from i (Some x) h at turn = one_of s members (discriminant u from.extent from.section) from.extent from.section from.kids fs i x h at turn

pub one_faultless : (g : StructSchema) (f : Field) → f.parent ≡ g → (members : Bool) (from : GroupSource) → AreFaultless (schema_around g) members (shape_of_struct g) from → entry_turn members (union_in (shape_of_struct f.parent)) (entry_of_field f) from ≡ true → IsFieldFaultless f from
one_faultless g f parent members from h turn =
    shape_one (schema_around f.parent) members (shape_of_struct f.parent) from f.index (entry_of_field f) (subst (λ (y : StructSchema). AreFaultless (schema_around y) members (shape_of_struct y) from) (sym parent) h) refl turn

pub first_turn : (s : Schema) (g : Shape) (from : GroupSource) → IsGroupFaultless s g from → AreFaultless s true g from
unfolding group_fault
first_turn s (shape nid w p u fs) from h = first_none _ _ h

pub second_turn : (s : Schema) (g : Shape) (from : GroupSource) → IsGroupFaultless s g from → AreFaultless s false g from
unfolding group_fault
second_turn s (shape nid w p u fs) from h = second_none _ _ h
