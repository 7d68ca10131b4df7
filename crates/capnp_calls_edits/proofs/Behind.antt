-- The struct behind a pointer: a call written there is written at the pointer.
use Rattle.std.proofs.Common.{◌≡◌, ℕ, ◌+◌, ◌≤◌, true, List, [], ◌∷◌, Option, Result, Ok, Err, OnOk, sym, subst, ap, ◌∙◌}
use Rattle.capnp_model.specs.Segments.{Segments, Place}
use Rattle.capnp_model.specs.Trees.{Tree, widened}
use Rattle.capnp_model.specs.Schemas.{struct, words_of_shape, pointers_of_shape}
use Rattle.capnp_model.specs.Calls.{Step, name, index, Verb}
use Rattle.capnp_model.specs.Edits.{opened_tree}
use Rattle.capnp_units.specs.declared.sizes.StructSize.{StructSize}
use Rattle.capnp_model_writes.specs.Changes.{Replaces}
use Rattle.capnp_copy_arenas.specs.declared.fields.StructPlace.{StructPlace}
use Rattle.capnp_layout_builders.specs.Gets.{StructGot}
use Rattle.capnp_values_queries.specs.Structs.{schema_around, shape_of_struct, id_of}
use Rattle.capnp_values_queries.specs.declared.structs.StructSchema.{StructSchema}
use Rattle.capnp_schema_structs.specs.Edits.{HoldsShape}
use Rattle.capnp_calls.specs.Roots.{starts_with_name}
use Rattle.capnp_calls.specs.Paths.{shape_edit}
use Rattle.capnp_calls_edits.specs.Written.{EditsValueAt, HoldsDefaultOrNull}
use Rattle.capnp_calls_edits.specs.Elements.{IsDoneWithin, WritesWithin}
use Rattle.capnp_calls_edits.proofs.Lifting.{cell, behind_pointer}
use Rattle.capnp_calls_edits.proofs.Begun.{begun_opened}
use Rattle.capnp_calls_edits.proofs.lemmas.Outcomes.{whole_within, struct_done, struct_edit}

pub on_ok : {X E : Type 0} (r : Result X E) (P Q : Type 0) → (P → Q) → OnOk r P → OnOk r Q
on_ok (Ok x) P Q f h = f h
on_ok (Err e) P Q f h = tt

module _ (s u v : Segments) (p : Place) (schema : StructSchema) (default : Option (List (List ℕ))) (size : StructSize) (o : StructPlace) (words : size.data_words ≡ words_of_shape (shape_of_struct schema)) (pointers : size.pointers ≡ pointers_of_shape (shape_of_struct schema)) (got : StructGot default s u p size o) (d : Tree) (holds : HoldsDefaultOrNull default d) (verb : Verb) where
  pub struct_written : (path : List Step) → starts_with_name path ≡ true → WritesWithin u v o schema (record { path = path; verb = verb }) → EditsValueAt s v p (record { around = schema_around schema; ty = struct (id_of schema); default = d }) (record { path = path; verb = verb })
  struct_written [] named h = absurd (cc named)
  struct_written (index k ∷ rest) named h = absurd (cc named)
  struct_written (name n ∷ rest) named h = λ k t own is_done. (
      let around = schema_around schema in
      let id = id_of schema in
      let g = shape_of_struct schema in
      let x = got.value k t own in
      let opened : x.0 ≡ opened_tree (struct id) d t = begun_opened (struct id) k s p t own.means d x.0 default holds x.1 in
      let wide : Tree = widened (words_of_shape g) (pointers_of_shape g) (opened_tree (struct id) d t) in
      let same : widened size.data_words size.pointers x.0 ≡ wide =
      ap (λ w. widened w size.pointers x.0) words ∙ ap (λ q. widened (words_of_shape g) q x.0) pointers ∙ ap (widened (words_of_shape g) (pointers_of_shape g)) opened in
      let replaced : Replaces (k + 65) s u p wide = subst (λ y. Replaces (k + 65) s u p y) same x.2 in
      let lifted = behind_pointer s u v p o (IsDoneWithin around g (name n ∷ rest) verb) (shape_edit around g (name n ∷ rest) verb) k t wide own got.object replaced h
      (λ section kids e. whole_within around g (name n ∷ rest) verb (cell section kids) (struct_done around id n rest verb o.data_words section kids (words_of_shape g) (pointers_of_shape g) d t e is_done)) in
      (lifted.more, subst (λ y. Replaces (k + lifted.more) s v p y) (sym (struct_edit around id n rest verb d t o.data_words lifted.section lifted.kids lifted.is)) lifted.replaces)
      )

  pub inner_wide : HoldsShape o (shape_of_struct schema)
  inner_wide = record { words = subst (λ k. k ≤ o.data_words) words got.enough.0; pointers = subst (λ k. k ≤ o.pointers) pointers got.enough.1 }
