-- A list, text or data that is put into an element, as the model puts it.
use Rattle.std.proofs.Common.{◌≡◌, ℕ, [], Result, OnOk, IfErr, refl, sym, ap, subst, ◌∙◌}
use Rattle.std.specs.Prelude.{⊤}
use Rattle.capnp_model.specs.Kinds.{InitnIsOnlyValidForListTextOrDataFields}
use Rattle.capnp_model.specs.Schemas.{Ty, void, plain, text, blob, untyped, interface, struct, list, Schema}
use Rattle.capnp_model.specs.Sizes.{object_words}
use Rattle.capnp_model.specs.Trees.{Tree}
use Rattle.capnp_model.specs.Calls.{Content, refused_by, object, initn, initn_content, element_content}
use Rattle.capnp_model.specs.Edits.{Edit, put_child, put_in_element, edit_element}
use Rattle.capnp_units.specs.declared.errors.Error.{Error}
use Rattle.capnp_copy_arenas.specs.declared.init.ListPlace.{ListPlace}
use Rattle.capnp_layout_builders.specs.Making.{ArenaState}
use Rattle.capnp_schema_structs.specs.Puts.{NewObjectRefused}
use Rattle.capnp_schema_lists.specs.Lists.{HasPointer}
use Rattle.capnp_schema_lists.specs.Elements.{Holds, no_new_element}
use Rattle.capnp_schema_lists.specs.Puts.{PutsElementObject, PutsElementContent}

-- what `initn` puts into a slot of the type
abbrev slot_of : Schema → ℕ → Ty → Content
slot_of s n ty = initn_content s n ty InitnIsOnlyValidForListTextOrDataFields

pub no_list : (s : Schema) (n : ℕ) (ty : Ty) → refused_by InitnIsOnlyValidForListTextOrDataFields ≡ slot_of s n ty → element_content s (initn n) ty ≡ refused_by (no_new_element ty)
no_list s n void e = refl
no_list s n (plain p) e = refl
no_list s n untyped e = refl
no_list s n interface e = refl
no_list s n (struct id) e = refl
no_list s n text e = absurd (cc e)
no_list s n blob e = absurd (cc e)
no_list s n (list ty) e = absurd (cc e)

module _ (s : Schema) (n : ℕ) (t : Tree) where
  pub same_content : (ty : Ty) → object t ≡ slot_of s n ty → element_content s (initn n) ty ≡ object t
  same_content text e = sym e
  same_content blob e = sym e
  same_content (list ty) e = sym e
  same_content void e = absurd (cc e)
  same_content (plain p) e = absurd (cc e)
  same_content untyped e = absurd (cc e)
  same_content interface e = absurd (cc e)
  same_content (struct id) e = absurd (cc e)

  pub pointers_held : (o : ListPlace) (ty : Ty) → object t ≡ slot_of s n ty → Holds o ty → HasPointer o
  pointers_held o text e h = h
  pointers_held o blob e h = h
  pointers_held o (list ty) e h = h
  pointers_held o void e h = absurd (cc e)
  pointers_held o (plain p) e h = absurd (cc e)
  pointers_held o untyped e h = absurd (cc e)
  pointers_held o interface e h = absurd (cc e)
  pointers_held o (struct id) e h = absurd (cc e)

  child_put : (ty : Ty) → object t ≡ slot_of s n ty → ◌≡◌ {A = ℕ → ℕ → Edit} (λ words pointers. put_in_element words pointers ty (object t)) (λ words pointers. put_child 0 t)
  child_put text e = refl
  child_put blob e = refl
  child_put (list ty) e = refl
  child_put void e = absurd (cc e)
  child_put (plain p) e = absurd (cc e)
  child_put untyped e = absurd (cc e)
  child_put interface e = absurd (cc e)
  child_put (struct id) e = absurd (cc e)

-- the last step of a path
last_step : (s : Schema) (n : ℕ) (ty : Ty) → ◌≡◌ {A = ℕ → ℕ → Edit} (edit_element s [] (initn n) ty) (λ words pointers. put_in_element words pointers ty (element_content s (initn n) ty))
unfolding edit_element
last_step s n ty = refl

module _ (s : Schema) (n : ℕ) (ty : Ty) (old new : ArenaState) (o : ListPlace) (i : ℕ) (r : Result ⊤ Error) where
  pub puts_new : (t : Tree) → object t ≡ slot_of s n ty → OnOk r (PutsElementObject old new o (λ words pointers. put_child 0 t) i (object_words t)) → IfErr r (NewObjectRefused old o.start.segment t)
      → PutsElementContent old new (record { place = o; at = i; edit = edit_element s [] (initn n) ty }) (element_content s (initn n) ty) r
  puts_new t e made refused =
      let content = same_content s n t ty e in
      let f : edit_element s [] (initn n) ty ≡ (λ words pointers. put_child 0 t) = last_step s n ty ∙ ap (λ k. λ words pointers. put_in_element words pointers ty k) content ∙ child_put s n t ty e in
      let as_edit = subst (λ g. OnOk r (PutsElementObject old new o g i (object_words t))) (sym f) made in
      subst (λ k. PutsElementContent old new (record { place = o; at = i; edit = edit_element s [] (initn n) ty }) k r) (sym content) (as_edit, refused)
