-- What a call that is carried out met at an element of a list.
use Rattle.std.proofs.Common.{◌≡◌, ℕ, zero, suc, List, [], ◌∷◌}
use Rattle.capnp_model.specs.Trees.{Tree, Trees, none, ◌▸◌, Elements, no_elements, element, child, padded_to}
use Rattle.capnp_model.specs.Schemas.{Ty, Schema}
use Rattle.capnp_model.specs.Readings.{no_children, only_child, whole_words, just_bits, plain_readings, read, read_child, pointer_elements, struct_elements}
use Rattle.capnp_model.specs.Calls.{Step, Verb}
use Rattle.capnp_model.specs.Steps.{on_index, step_element}
use Rattle.capnp_model.specs.Edits.{Cell, elements_of_plain, elements_of_pointers, padded_elements}
use Rattle.capnp_model.proofs.lemmas.Paths.{read_child-is}
use Rattle.capnp_model_versions.proofs.SameLists.{AtElement}
use Rattle.capnp_model_versions.proofs.Wrote.{Wrote, wrote-map, WritesElement, reads-nothing, reads-padded}

-- what holds of the cell of a plain element, and of a child in a list
abbrev pub AtPlain : (Cell → Type 0) → ℕ → List ℕ → Type 0
AtPlain P k [] = ⊥
AtPlain P zero (x ∷ xs) = P (record { section = x; kids = none })
AtPlain P (suc k) (x ∷ xs) = AtPlain P k xs

abbrev pub AtChild : (Cell → Type 0) → ℕ → Trees → Type 0
AtChild P k none = ⊥
AtChild P zero (t ▸ ts) = P (record { section = 0; kids = t ▸ none })
AtChild P (suc k) (t ▸ ts) = AtChild P k ts

module _ (s : Schema) (verb : Verb) (path : List Step) (ty : Ty) where
  only_reads : (p : ℕ) (t : Tree) (i : ℕ) (ty : Ty) → only_child (read s t) i ty ≡ read s (child (padded_to p (t ▸ none)) i) ty
  unfolding read
  only_reads p t zero ty = reads-padded s p (t ▸ none) zero ty
  only_reads p t (suc i) ty = reads-padded s p (t ▸ none) (suc i) ty

  pub at-plain : (size k : ℕ) (xs : List ℕ) → Wrote (on_index (step_element s path verb ty) k (plain_readings s size xs ty)) → AtPlain (WritesElement s verb path ty) k xs
  at-plain size zero [] h = h
  at-plain size (suc k) [] h = h
  at-plain size zero (x ∷ xs) h = record { size = just_bits size; section = x; kids = no_children; reads = λ i t. reads-nothing s 0 i t; wrote = wrote-map _ _ h }
  at-plain size (suc k) (x ∷ xs) h = at-plain size k xs (wrote-map _ _ h)

  pub at-plain-element : (size p k : ℕ) (xs : List ℕ) → Wrote (on_index (step_element s path verb ty) k (plain_readings s size xs ty)) → AtElement (WritesElement s verb path ty) k (elements_of_plain p xs)
  at-plain-element size p zero [] h = h
  at-plain-element size p (suc k) [] h = h
  at-plain-element size p zero (x ∷ xs) h = record { size = just_bits size; section = x; kids = no_children; reads = λ i t. reads-nothing s p i t; wrote = wrote-map _ _ h }
  at-plain-element size p (suc k) (x ∷ xs) h = at-plain-element size p k xs (wrote-map _ _ h)

  pub at-child : (k : ℕ) (ts : Trees) → Wrote (on_index (step_element s path verb ty) k (pointer_elements s ts ty)) → AtChild (WritesElement s verb path ty) k ts
  unfolding read
  at-child zero none h = h
  at-child (suc k) none h = h
  at-child zero (t ▸ ts) h = record { size = just_bits 0; section = 0; kids = only_child (read s t); reads = λ i x. only_reads 0 t i x; wrote = wrote-map _ _ h }
  at-child (suc k) (t ▸ ts) h = at-child k ts (wrote-map _ _ h)

  pub at-pointer-element : (p k : ℕ) (ts : Trees) → Wrote (on_index (step_element s path verb ty) k (pointer_elements s ts ty)) → AtElement (WritesElement s verb path ty) k (elements_of_pointers p ts)
  unfolding read
  at-pointer-element p zero none h = h
  at-pointer-element p (suc k) none h = h
  at-pointer-element p zero (t ▸ ts) h = record { size = just_bits 0; section = 0; kids = only_child (read s t); reads = λ i x. only_reads p t i x; wrote = wrote-map _ _ h }
  at-pointer-element p (suc k) (t ▸ ts) h = at-pointer-element p k ts (wrote-map _ _ h)

  pub at-element : (k : ℕ) (es : Elements) → Wrote (on_index (step_element s path verb ty) k (struct_elements s es ty)) → AtElement (WritesElement s verb path ty) k es
  unfolding read
  at-element zero no_elements h = h
  at-element (suc k) no_elements h = h
  at-element zero (element n ts es) h = record { size = whole_words; section = n; kids = read_child s ts; reads = λ i t. read_child-is s ts i t; wrote = wrote-map _ _ h }
  at-element (suc k) (element n ts es) h = at-element k es (wrote-map _ _ h)

  pub at-padded-element : (p k : ℕ) (es : Elements) → Wrote (on_index (step_element s path verb ty) k (struct_elements s es ty)) → AtElement (WritesElement s verb path ty) k (padded_elements p es)
  unfolding read
  at-padded-element p zero no_elements h = h
  at-padded-element p (suc k) no_elements h = h
  at-padded-element p zero (element n ts es) h = record { size = whole_words; section = n; kids = read_child s ts; reads = λ i t. reads-padded s p ts i t; wrote = wrote-map _ _ h }
  at-padded-element p (suc k) (element n ts es) h = at-padded-element p k es (wrote-map _ _ h)
