-- What the fields of a struct that is read have in its record.
use Rattle.std.proofs.Common.{◌≡◌, ℕ, ◌==◌, Bool, true, false, if◌then◌else◌, Some, None, refl, ap, sym, ◌∙◌, subst, arith}
use Rattle.std.proofs.lemmas.Bool.Decides.{nat_tests}
use Rattle.capnp_model.specs.Trees.{Trees, child}
use Rattle.capnp_model.specs.Schemas.{Body, void_slot, plain_slot, pointer_slot, group_slot, Schema}
use Rattle.capnp_model.specs.Readings.{Reading, inactive, null_pointer, fault, number, text_of, blob_of, list_of, record_as, opaque, Record, no_more, Extent, just_bits, discriminant, is_active, only_if, shape_record, body_of, read_child}
use Rattle.capnp_model.specs.Printing.{fields_in}
use Rattle.capnp_wire.specs.Views.{StructView}
use Rattle.capnp_values_queries.specs.Fields.{Entry, union_in}
use Rattle.capnp_values_queries.specs.Structs.{nodes_around, schema_around, id_of, shape_of_struct, fields_of_struct}
use Rattle.capnp_values_queries.specs.Handles.{entry_of_field}
use Rattle.capnp_values_queries.specs.declared.structs.StructSchema.{StructSchema}
use Rattle.capnp_values_queries.specs.declared.fields.Field.{Field}
use Rattle.capnp_values.specs.Records.{reading_at_index, is_live}
use Rattle.capnp_values.specs.Shown.{discriminant_shown, active_index}
use Rattle.capnp_values_print.proofs.lemmas.Shows.{none_active, value_active}
use Rattle.capnp_values.specs.Standing.{HasSectionAndChildren, IsRecord, DiscriminantsAreRead}
use Rattle.capnp_values.proofs.lemmas.RecordReadings.{pointer_live, counted, shape_is, field_of_record}
use Rattle.capnp_model.proofs.lemmas.Paths.{read_child-is, record_is}

-- ---- the discriminant

pub discriminant_read : DiscriminantsAreRead → (sch : StructSchema) (n : ℕ) (v : StructView) (e : Extent) (section : ℕ) (kids : Trees) → HasSectionAndChildren n v e section kids → discriminant_shown sch v ≡ discriminant (union_in (shape_of_struct sch)) e section
discriminant_read law sch n v e section kids stands =
    let u = counted (nodes_around sch) (id_of sch) in
    ap (λ o. discriminant o (just_bits v.bits) v.section) u.1 ∙ law n v e section kids u.0 stands ∙ ap (λ o. discriminant o e section) (sym u.1)

-- ---- records

record_in : Reading → Record
record_in (record_as r) = r
record_in inactive = no_more
record_in null_pointer = no_more
record_in (fault k) = no_more
record_in (number n) = no_more
record_in (text_of bs) = no_more
record_in (blob_of bs) = no_more
record_in (list_of rs) = no_more
record_in (opaque t) = no_more

body_live : (s : Schema) (kids : Trees) (b : Body) (e : Extent) (section : ℕ) → is_live (body_of b e section (read_child s kids)) ≡ true
unfolding body_of
body_live s kids (void_slot j) e section = refl
body_live s kids (plain_slot p at d) e section = refl
body_live s kids (pointer_slot i ty d) e section = ap is_live (read_child-is s kids i ty) ∙ pointer_live s ty (child kids i)
body_live s kids (group_slot g) e section = refl

only_live : (a : Bool) (r : Reading) → is_live r ≡ true → is_live (only_if a r) ≡ a
only_live true r h = h
only_live false r h = refl

-- a field is live where its member's value is the discriminant
pub live_is : DiscriminantsAreRead → (f : Field) (v : StructView) (e : Entry) (r : Record) → entry_of_field f ≡ Some e → IsRecord (schema_around f.parent) (shape_of_struct f.parent) v (record_as r)
    → is_live (reading_at_index f.index r) ≡ is_active e.member (discriminant_shown f.parent v)
live_is law f v e r at rec =
    let s = schema_around f.parent in
    let g = shape_of_struct f.parent in
    let kids = read_child s rec.kids in
    let d = discriminant (union_in g) rec.extent rec.section in
    let same = record_is r (shape_record g rec.extent rec.section kids) rec.is ∙ shape_is g rec.extent rec.section kids in
    let reads = ap (reading_at_index f.index) same ∙ field_of_record (fields_in g) f.index d rec.extent rec.section kids e at in
    ap is_live reads ∙ only_live (is_active e.member d) (body_of e.body rec.extent rec.section kids) (body_live s rec.kids e.body rec.extent rec.section)
    ∙ ap (is_active e.member) (sym (discriminant_read law f.parent rec.levels v rec.extent rec.section rec.kids rec.stands))

-- what isn't live is inactive
pub not_live : (r : Reading) → is_live r ≡ false → r ≡ inactive
not_live inactive h = refl
not_live null_pointer h = absurd cc
not_live (fault kind) h = absurd cc
not_live (number n) h = absurd cc
not_live (text_of bytes) h = absurd cc
not_live (blob_of bytes) h = absurd cc
not_live (list_of rs) h = absurd cc
not_live (record_as r) h = absurd cc
not_live (opaque t) h = absurd cc

-- a member's value, as a node says it
pub member_said : (n : ℕ) → (n ≡ 65535 → ⊥) → (if n == 65535 then None else Some n) ≡ Some n
member_said n h = by (n == 65535) refl
  where
    by : (b : Bool) → (n == 65535) ≡ b → (if b then None else Some n) ≡ Some n
    by true e = let same : n ≡ 65535 = grind (arith, nat_tests) in absurd (h same)
    by false e = refl

-- ---- the active member

-- where the union has none, no member is active
pub nothing_active : (f : Field) (root : StructSchema) (v : StructView) (e : Entry) → f.parent ≡ root → entry_of_field f ≡ Some e → None ≡ active_index root v → is_active e.member None ≡ is_active e.member (discriminant_shown f.parent v)
nothing_active f root v e parent at h =
    let here : None ≡ active_index f.parent v = subst (λ (q : StructSchema). None ≡ active_index q v) (sym parent) h in
    none_active (fields_of_struct f.parent) (discriminant_shown f.parent v) (sym here) f.index e at

-- the discriminant is the value of the active member
pub value_shown : (f a : Field) (root : StructSchema) (v : StructView) (value : ℕ) (e : Entry) → f.parent ≡ root → a.parent ≡ root → entry_of_field a ≡ Some e → Some a.index ≡ active_index root v
    → e.member ≡ (if value == 65535 then None else Some value) → discriminant_shown f.parent v ≡ Some value
value_shown f a root v value e parent parent' at h said =
    let there : Some a.index ≡ active_index a.parent v = subst (λ (q : StructSchema). Some a.index ≡ active_index q v) (sym parent') h in
    let is : discriminant_shown a.parent v ≡ Some value = value_active (fields_of_struct a.parent) (discriminant_shown a.parent v) a.index value e (sym there) at said in
    ap (λ (q : StructSchema). discriminant_shown q v) (parent ∙ sym parent') ∙ is
