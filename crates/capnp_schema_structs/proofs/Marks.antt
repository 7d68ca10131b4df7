-- The member that a field's record says.
use Rattle.std.proofs.Common.{◌≡◌, ℕ, Bool, true, false, ◌==◌, if◌then◌else◌, Option, Some, None, refl, sym, ap, ◌∙◌, arith}
use Rattle.capnp_model.specs.Segments.{Segments}
use Rattle.capnp_model.specs.Edits.{mark}
use Rattle.capnp_records.specs.declared.node.FieldRecord.{FieldRecord}
use Rattle.capnp_records.specs.NodeViews.{field_of, member_of}
use Rattle.capnp_values_queries.specs.Fields.{union_in}
use Rattle.capnp_values_queries.specs.Structs.{shape_of_struct}
use Rattle.capnp_values_queries.specs.Handles.{IsFieldRecord}
use Rattle.capnp_values_queries.specs.declared.structs.StructSchema.{StructSchema}
use Rattle.capnp_values_queries.specs.declared.fields.Field.{Field}
use Rattle.capnp_copy_arenas.specs.declared.fields.StructPlace.{StructPlace}
use Rattle.capnp_schema_structs.specs.Edits.{Edits, marked, marked_in}
use Rattle.capnp_schema_structs.proofs.lemmas.Writes.{edits_none, edits_alike}

pub member_there : (d : ℕ) → (d ≡ 65535 → ⊥) → member_of d ≡ Some d
member_there d h = by (d == 65535) refl
  where
    by : (b : Bool) → (d == 65535) ≡ b → (if b then None else Some d) ≡ Some d
    by true e = let x : d ≡ 65535 = grind arith in absurd (h x)
    by false e = refl

pub member_none : (d : ℕ) → d ≡ 65535 → member_of d ≡ None
member_none d h = ap member_of h

pub marks_as : (f : Field) (r : FieldRecord) → IsFieldRecord f.parent f.index (field_of r) → (m : Option ℕ) → member_of r.discriminant_value ≡ m → mark (union_in (shape_of_struct f.parent)) m ≡ marked f
marks_as f r is m e = ap (mark (union_in (shape_of_struct f.parent))) (sym e) ∙ ap (marked_in (union_in (shape_of_struct f.parent))) (sym is.entry)

pub marks_member : (s u : Segments) (p : StructPlace) (f : Field) (r : FieldRecord) → IsFieldRecord f.parent f.index (field_of r) → (r.discriminant_value ≡ 65535 → ⊥) → (h : StructSchema) → h ≡ f.parent
    → Edits s u p (mark (union_in (shape_of_struct h)) (Some r.discriminant_value)) → Edits s u p (marked f)
marks_member s u p f r is there h same e =
    edits_alike s u p _ (marked f) (ap (λ x. mark (union_in (shape_of_struct x)) (Some r.discriminant_value)) same ∙ marks_as f r is (Some r.discriminant_value) (member_there r.discriminant_value there)) e

pub marks_none : (s : Segments) (p : StructPlace) (f : Field) (r : FieldRecord) → IsFieldRecord f.parent f.index (field_of r) → r.discriminant_value ≡ 65535 → Edits s s p (marked f)
marks_none s p f r is e =
    edits_alike s s p (mark (union_in (shape_of_struct f.parent)) None) (marked f) (marks_as f r is None (member_none r.discriminant_value e)) (by (union_in (shape_of_struct f.parent)))
  where
    by : (o : Option ℕ) → Edits s s p (mark o None)
    by None = edits_none s p
    by (Some at) = edits_none s p
