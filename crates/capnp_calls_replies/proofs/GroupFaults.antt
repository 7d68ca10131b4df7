-- Faults of groups that are set to structs, field by field.
use Rattle.std.proofs.Common.{◌≡◌, ℕ, zero, suc, ◌<◌, Bool, true, false, Option, Some, None, option_map, refl, ap, sym, subst, ◌∙◌, arith}
use Rattle.std.specs.Prelude.{not}
use Rattle.std.specs.Bool.{beq}
use Rattle.std.specs.Option.{is_some}
use Rattle.capnp_model.specs.Kinds.{Kind}
use Rattle.capnp_model.specs.Schemas.{Shape, shape, Fields, no_fields, field, Body, group_slot, Schema}
use Rattle.capnp_model.specs.Accepted.{schema_of}
use Rattle.capnp_model.specs.Readings.{Reading, inactive, null_pointer, fault, number, text_of, blob_of, list_of, record_as, opaque, Record, no_more, entry, discriminant, is_active, only_if, shape_record, body_of, read_child}
use Rattle.capnp_model.specs.Printing.{fields_in}
use Rattle.capnp_model.specs.Groups.{or_else, is_turn, group_fault, fields_fault, body_fault}
use Rattle.capnp_units.specs.Errors.{kind_of}
use Rattle.capnp_units.specs.declared.kinds.ErrorKind.{ErrorKind}
use Rattle.capnp_wire.specs.Views.{StructView}
use Rattle.capnp_values_queries.specs.Fields.{Entry, field_at, field_count, union_in}
use Rattle.capnp_values_queries.specs.Structs.{nodes_around, schema_around, shape_of_struct, fields_of_struct}
use Rattle.capnp_values_queries.specs.Handles.{entry_of_field}
use Rattle.capnp_values_queries.specs.declared.structs.StructSchema.{StructSchema}
use Rattle.capnp_values_queries.specs.declared.fields.Field.{Field}
use Rattle.capnp_values.specs.Records.{reading_at_index, is_live}
use Rattle.capnp_values.specs.Standing.{IsRecord}
use Rattle.capnp_values.proofs.lemmas.RecordReadings.{shape_is, field_of_record, only_live}
use Rattle.capnp_model.proofs.lemmas.Paths.{record_is}
use Rattle.capnp_calls_replies.specs.Faults.{OfRecord, OfEntry, entry_fault}
use Rattle.capnp_calls_replies.proofs.Records.{not_live}

-- ---- whose turn it is

pub other : (a b : Bool) → not (beq a b) ≡ true → a ≡ b → ⊥
other true true h e = absurd cc
other true false h e = absurd cc
other false true h e = absurd cc
other false false h e = absurd cc

pub same : (a b : Bool) → not (beq a b) ≡ false → a ≡ b
same true true h = refl
same true false h = absurd cc
same false true h = absurd cc
same false false h = refl

not_turn : (members : Bool) (m : Option ℕ) (x : Reading) → (is_some m ≡ members → ⊥) → is_turn members m x ≡ false
not_turn true (Some m) x h = absurd (h refl)
not_turn true None inactive h = refl
not_turn true None null_pointer h = refl
not_turn true None (fault kind) h = refl
not_turn true None (number n) h = refl
not_turn true None (text_of bytes) h = refl
not_turn true None (blob_of bytes) h = refl
not_turn true None (list_of rs) h = refl
not_turn true None (record_as r) h = refl
not_turn true None (opaque t) h = refl
not_turn false None x h = absurd (h refl)
not_turn false (Some m) inactive h = refl
not_turn false (Some m) null_pointer h = refl
not_turn false (Some m) (fault kind) h = refl
not_turn false (Some m) (number n) h = refl
not_turn false (Some m) (text_of bytes) h = refl
not_turn false (Some m) (blob_of bytes) h = refl
not_turn false (Some m) (list_of rs) h = refl
not_turn false (Some m) (record_as r) h = refl
not_turn false (Some m) (opaque t) h = refl

in_turn : (members : Bool) (m : Option ℕ) (x : Reading) → is_some m ≡ members → is_live x ≡ true → is_turn members m x ≡ true
in_turn true None x h live = absurd cc
in_turn true (Some m) inactive h live = absurd cc
in_turn true (Some m) null_pointer h live = refl
in_turn true (Some m) (fault kind) h live = refl
in_turn true (Some m) (number n) h live = refl
in_turn true (Some m) (text_of bytes) h live = refl
in_turn true (Some m) (blob_of bytes) h live = refl
in_turn true (Some m) (list_of rs) h live = refl
in_turn true (Some m) (record_as r) h live = refl
in_turn true (Some m) (opaque t) h live = refl
in_turn false (Some m) x h live = absurd cc
in_turn false None inactive h live = absurd cc
in_turn false None null_pointer h live = refl
in_turn false None (fault kind) h live = refl
in_turn false None (number n) h live = refl
in_turn false None (text_of bytes) h live = refl
in_turn false None (blob_of bytes) h live = refl
in_turn false None (list_of rs) h live = refl
in_turn false None (record_as r) h live = refl
in_turn false None (opaque t) h live = refl

never_turn : (members : Bool) (m : Option ℕ) → is_turn members m inactive ≡ false
never_turn true None = refl
never_turn true (Some m) = refl
never_turn false None = refl
never_turn false (Some m) = refl

abbrev by_turn : Bool → Bool → Body → Reading → Option Kind
by_turn b members body x = elim b as (λ (z : Bool). Option Kind) [ true ↦ body_fault members body x | false ↦ None ]

-- a field out of turn has no fault
pub out_of_turn : (members : Bool) (e : Entry) (x : Reading) → (is_some e.member ≡ members → ⊥) → None ≡ entry_fault members e x
out_of_turn members e x h = ap (λ (b : Bool). by_turn b members e.body x) (sym (not_turn members e.member x h))

inactive_fault : (members : Bool) (e : Entry) → None ≡ entry_fault members e inactive
inactive_fault members e = ap (λ (b : Bool). by_turn b members e.body inactive) (sym (never_turn members e.member))

-- nor has a member that isn't active
pub not_active : (members : Bool) (e : Entry) (x : Reading) → is_live x ≡ false → None ≡ entry_fault members e x
not_active members e x live = inactive_fault members e ∙ ap (entry_fault members e) (sym (not_live x live))

-- in turn it has that of its body
pub turned : (members : Bool) (e : Entry) (x : Reading) (k : Option Kind) → is_some e.member ≡ members → is_live x ≡ true → k ≡ body_fault members e.body x → k ≡ entry_fault members e x
turned members e x k h live is = is ∙ ap (λ (b : Bool). by_turn b members e.body x) (sym (in_turn members e.member x h live))

-- ---- the fields one by one

-- the first fault from an index on
unfoldable pub fault_from : ℕ → Bool → Fields → Record → Option Kind
fault_from zero members fs r = fields_fault members fs r
fault_from (suc i) members no_fields r = None
fault_from (suc i) members (field n m b fs) no_more = None
fault_from (suc i) members (field n m b fs) (entry l x rest) = fault_from i members fs rest

pub from_first : (members : Bool) (fs : Fields) (r : Record) → fields_fault members fs r ≡ fault_from 0 members fs r
unfolding fault_from
from_first members fs r = refl

fault_next : (members : Bool) (i : ℕ) (fs : Fields) (r : Record) (e : Entry) → field_at fs i ≡ Some e → fault_from i members fs r ≡ or_else (entry_fault members e (reading_at_index i r)) (fault_from (suc i) members fs r)
unfolding fault_from group_fault
fault_next members i no_fields r e h = absurd cc
fault_next members zero (field n m b fs) no_more e h = ap (λ (k : Option Kind). or_else k None) (inactive_fault members e)
fault_next members zero (field n m b fs) (entry l x rest) e h =
    let is : ◌≡◌ {A = Entry} (record { name = n; member = m; body = b }) e = cc in
    ap (λ (y : Entry). or_else (entry_fault members y x) (fields_fault members fs rest)) is
fault_next members (suc i) (field n m b fs) no_more e h = ap (λ (k : Option Kind). or_else k None) (inactive_fault members e)
fault_next members (suc i) (field n m b fs) (entry l x rest) e h = fault_next members i fs rest e h

-- past the last there is none
pub none_past : (members : Bool) (i : ℕ) (fs : Fields) (r : Record) → i ≡ field_count fs → None ≡ fault_from i members fs r
unfolding fault_from group_fault
none_past members zero no_fields r h = refl
none_past members zero (field n m b fs) r h = absurd (omega (arith, h))
none_past members (suc i) no_fields r h = refl
none_past members (suc i) (field n m b fs) no_more h = refl
none_past members (suc i) (field n m b fs) (entry l x rest) h = none_past members i fs rest (omega (arith, h))

entry_there : (fs : Fields) (i : ℕ) → i < field_count fs → (e : Entry) × (field_at fs i ≡ Some e)
entry_there no_fields i h = absurd (omega (arith, h))
entry_there (field n m b fs) zero h = (record { name = n; member = m; body = b }, refl)
entry_there (field n m b fs) (suc i) h = entry_there fs i (omega (arith, h))

-- the first fault from a field on is its own, else that from the next on
pub one_more : (f : Field) (root : StructSchema) (v : StructView) (members : Bool) (i : ℕ) (told : Option Kind) → f.parent ≡ root → f.index ≡ i → i < field_count (fields_of_struct root) → OfEntry f v (λ e x. told ≡ entry_fault members e x)
    → OfRecord root v (λ r. fields_fault members (fields_of_struct root) r ≡ fault_from i members (fields_of_struct root) r)
    → OfRecord root v (λ r. fields_fault members (fields_of_struct root) r ≡ or_else told (fault_from (suc i) members (fields_of_struct root) r))
one_more f root v members i told parent index inside h so r rec =
    let P : StructSchema → ℕ → Type 0 = λ q j. (e : Entry) (r : Record) → field_at (fields_of_struct q) j ≡ Some e → IsRecord (schema_around q) (shape_of_struct q) v (record_as r) → told ≡ entry_fault members e (reading_at_index j r) in
    let here : P root i = subst (λ (q : StructSchema). P q i) parent (subst (λ (j : ℕ). P f.parent j) index h) in
    let e = entry_there (fields_of_struct root) i inside in
    so r rec ∙ fault_next members i (fields_of_struct root) r e.0 e.1 ∙ ap (λ (k : Option Kind). or_else k (fault_from (suc i) members (fields_of_struct root) r)) (sym (here e.0 r e.1 rec))

pub none_told : (o : Option ErrorKind) → ((kind : ErrorKind) → o ≡ Some kind → ⊥) → option_map kind_of o ≡ None
none_told None h = refl
none_told (Some kind) h = absurd (h kind refl)

-- first the members, then the others
pub both_turns : (g : Shape) (r : Record) (a b : Option Kind) → a ≡ fields_fault true (fields_in g) r → b ≡ fields_fault false (fields_in g) r → or_else a b ≡ group_fault g r
unfolding group_fault
both_turns (shape nid w p u fs) r a b h k = ap (λ (x : Option Kind). or_else x b) h ∙ ap (or_else (fields_fault true fs r)) k

pub first_turn : (g : Shape) (r : Record) (k : Kind) → Some k ≡ fields_fault true (fields_in g) r → Some k ≡ group_fault g r
first_turn g r k h = both_turns g r (Some k) (fields_fault false (fields_in g) r) h refl

-- ---- a field that is a group

record_of_group : (g : Shape) (b : Body) (rec : Record) (x : Reading) → b ≡ group_slot g → x ≡ record_as rec → group_fault g rec ≡ body_fault true b x × (group_fault g rec ≡ body_fault false b x)
unfolding group_fault
record_of_group g b rec x is as' =
    (ap (λ (c : Body). body_fault true c (record_as rec)) (sym is) ∙ ap (body_fault true b) (sym as'), ap (λ (c : Body). body_fault false c (record_as rec)) (sym is) ∙ ap (body_fault false b) (sym as'))

same_fault : (members : Bool) (g : Shape) (b : Body) (rec : Record) (x : Reading) → b ≡ group_slot g → x ≡ record_as rec → group_fault g rec ≡ body_fault members b x
same_fault true g b rec x is as' = (record_of_group g b rec x is as').0
same_fault false g b rec x is as' = (record_of_group g b rec x is as').1

group_body : (g : Shape) (b : Body) → b ≡ group_slot g → (s : Schema) (v : StructView) (root : Shape) (r : Record) (rec : IsRecord s root v (record_as r)) → body_of b rec.extent rec.section (read_child s rec.kids) ≡ record_as (shape_record g rec.extent rec.section (read_child s rec.kids))
unfolding body_of
group_body g b is s v root r rec = ap (λ (c : Body). body_of c rec.extent rec.section (read_child s rec.kids)) is

some_body : (o : Option Entry) (e : Entry) (b : Body) → o ≡ Some e → option_map (λ x. x.body) o ≡ Some b → e.body ≡ b
some_body o e b at there = let both : ◌≡◌ {A = Option Body} (Some e.body) (Some b) = ap (option_map (λ (x : Entry). x.body)) (sym at) ∙ there in cc

-- the fault of a group is that of its record
pub inner_fault : (f : Field) (inner : StructSchema) (v : StructView) (members : Bool) (told : Option Kind) (e : Entry) (r : Record) → option_map (λ x. x.body) (entry_of_field f) ≡ Some (group_slot (shape_of_struct inner)) → nodes_around inner ≡ nodes_around f.parent
    → OfRecord inner v (λ r. told ≡ group_fault (shape_of_struct inner) r) → entry_of_field f ≡ Some e → IsRecord (schema_around f.parent) (shape_of_struct f.parent) v (record_as r) → is_live (reading_at_index f.index r) ≡ true
    → told ≡ body_fault members e.body (reading_at_index f.index r)
inner_fault f inner v members told e r body around h at rec live =
    let s = schema_around f.parent in
    let root = shape_of_struct f.parent in
    let g = shape_of_struct inner in
    let kids = read_child s rec.kids in
    let d = discriminant (union_in root) rec.extent rec.section in
    let is : e.body ≡ group_slot g = some_body (entry_of_field f) e (group_slot g) at body in
    let whole = body_of e.body rec.extent rec.section kids in
    let same = record_is r (shape_record root rec.extent rec.section kids) rec.is ∙ shape_is root rec.extent rec.section kids in
    let reads : reading_at_index f.index r ≡ only_if (is_active e.member d) whole = ap (reading_at_index f.index) same ∙ field_of_record (fields_in root) f.index d rec.extent rec.section kids e at in
    let rr = shape_record g rec.extent rec.section kids in
    let x : reading_at_index f.index r ≡ record_as rr = reads ∙ only_live (is_active e.member d) whole (ap is_live (sym reads) ∙ live) ∙ group_body g e.body is s v root r rec in
    let there : IsRecord s g v (record_as rr) = record { levels = rec.levels; extent = rec.extent; section = rec.section; kids = rec.kids; stands = rec.stands; is = refl } in
    h rr (subst (λ (z : Schema). IsRecord z g v (record_as rr)) (sym (ap schema_of around)) there) ∙ same_fault members g e.body rr (reading_at_index f.index r) is x
