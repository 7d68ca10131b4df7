-- What a field shows that is opened.
use Rattle.std.proofs.Common.{◌≡◌, ℕ, Bool, true, false, List, Some, Result, Err, refl, ap, sym, ◌∙◌, subst}
use Rattle.std.specs.Prelude.{IsErrAnd}
use Rattle.std.proofs.lemmas.Result.{err_from_is_err_and}
use Rattle.capnp_model.specs.Kinds.{InactiveMember}
use Rattle.capnp_model.specs.Readings.{is_active, only_if}
use Rattle.capnp_model.specs.Printing.{Style, as_body, as_it_is}
use Rattle.capnp_units.specs.declared.errors.Error.{Error}
use Rattle.capnp_units.specs.Errors.{kind_of}
use Rattle.capnp_values_queries.specs.Fields.{Entry}
use Rattle.capnp_values_queries.specs.Handles.{entry_of_field}
use Rattle.capnp_values_queries.specs.Structs.{schema_around}
use Rattle.capnp_values_queries.specs.declared.structs.StructSchema.{StructSchema}
use Rattle.capnp_values_queries.specs.declared.fields.Field.{Field}
use Rattle.capnp_wire.specs.Views.{StructView}
use Rattle.capnp_values.specs.Standing.{NullsAreRead}
use Rattle.capnp_values.specs.Shown.{Shown, discriminant_shown}
use Rattle.capnp_values_print.specs.declared.fields.Opened.{Opened}
use Rattle.capnp_values_print.specs.Printed.{printed, null_printed, shown_text}
use Rattle.capnp_values_print.specs.Parts.{member_text, IsActive, enters_there, defaults_entered, ShowsMember, OpensMember}
use Rattle.capnp_values_print.specs.ShownReadings.{levels_left}
use Rattle.capnp_values_print.proofs.lemmas.ElementTexts.{text_or_fault}
use Rattle.capnp_values_print.proofs.lemmas.Shows.{Read}
use Rattle.capnp_values_print.proofs.Wholes.{member_here, member_entered}

pub fails : {A : Type 0} (bytes : A → List (List ℕ)) (left : ℕ) (s : StructSchema) (v : StructView) (f : Field) (r : Result (Opened A) Error) (err : Error) → IsErrAnd r (λ y. y ≡ err)
    → ((e : Entry) → entry_of_field f ≡ Some e → (style : Style) → member_text left style s v e ≡ Err (kind_of err.kind)) → OpensMember bytes left s v f r
fails bytes left s v f r err h why =
    let a = err_from_is_err_and r h in
    subst (OpensMember bytes left s v f) (sym (a.1 ∙ ap (λ y. Err y) a.2)) why

-- a member that isn't active has no text
pub inactive_text : (left : ℕ) (style : Style) (s : StructSchema) (v : StructView) (e : Entry) → is_active e.member (discriminant_shown s v) ≡ false → member_text left style s v e ≡ Err InactiveMember
unfolding printed
inactive_text left style s v e h = ap (λ a. printed (schema_around s) as_it_is (null_printed (schema_around s) as_it_is left) style (as_body e.body) (only_if a (Read (levels_left v.levels) (schema_around s) v e.body))) h

module _ (nulls : NullsAreRead) (s : StructSchema) (v : StructView) (f : Field) (parent : f.parent ≡ s) (left : ℕ) (x : Shown) (n : ℕ) (o : ShowsMember left v f x n) where
  entered : Bool
  entered = enters_there v (schema_around f.parent) o.said.kind

  counts_as : (b : Bool) → enters_there v (schema_around f.parent) o.said.kind ≡ b → left ≡ defaults_entered b n
  counts_as b e = o.counts ∙ ap (λ b. defaults_entered b n) e

  -- it prints as the field
  pub opened_text : IsActive s v f → (e : Entry) → entry_of_field f ≡ Some e → (style : Style) → shown_text n style x ≡ member_text left style s v e
  opened_text active e h style = by (enters_there v (schema_around f.parent) o.said.kind) refl
    where
      by : (b : Bool) → enters_there v (schema_around f.parent) o.said.kind ≡ b → shown_text n style x ≡ member_text left style s v e
      by false is = ap (λ k. shown_text k style x) (sym (counts_as false is)) ∙ ap (text_or_fault left style) (sym o.shows) ∙ member_here nulls s v f o.said parent o.is o.default e h left style (active e h) is
      by true is = ap (text_or_fault n style) (sym o.shows) ∙ member_entered nulls s v f o.said parent o.is o.default e h n style (active e h) is ∙ ap (λ k. member_text k style s v e) (sym (counts_as true is))
