-- Where a call is done at a list, the rest of its path is done at the element, in the list as it stands and as it is widened.
use Rattle.std.proofs.Common.{◌≡◌, ℕ, zero, suc, Bool, true, false, List, [], ◌∷◌, refl, sym, subst, ◌∙◌}
use Rattle.capnp_model.specs.Trees.{Tree, null, capability, structure, plain_list, pointer_list, struct_list, Trees, none, ◌▸◌, Elements, no_elements, element, child, padded_to, resized, size_bits, plain_elements}
use Rattle.capnp_model.specs.Schemas.{Ty, void, plain, text, blob, untyped, interface, struct, list, Shape, shape, Schema}
use Rattle.capnp_model.specs.Readings.{Reading, Readings, Extent, whole_words, just_bits, Children, no_children, only_child, read, read_child, element_as, list_reading, is_list_of, plain_readings, pointer_elements, struct_elements}
use Rattle.capnp_model.specs.Calls.{Step, index, Verb}
use Rattle.capnp_model.specs.Steps.{Outcome, on_index, step_field, step_element, or_empty, opened, through_value}
use Rattle.capnp_model.specs.Edits.{Cell, opened_tree, elements_of_plain, elements_of_pointers, padded_elements, widened_list, as_list}
use Rattle.capnp_model.proofs.lemmas.Marks.{read_child-padded_to}
use Rattle.capnp_model.proofs.lemmas.Paths.{nothing_in}
use Rattle.capnp_schema_lists.specs.Parts.{plain_cell, struct_cell, cell_in}
use Rattle.capnp_calls.specs.Sizes.{IsDone}
use Rattle.capnp_calls_edits.specs.Written.{value_outcome}
use Rattle.capnp_calls_edits.specs.Elements.{IsElementDone}
use Rattle.capnp_calls_edits.proofs.Lifting.{cell}
use Rattle.capnp_calls_edits.proofs.lemmas.Outcomes.{unmapped}

module _ (s : Schema) (ty : Ty) (rest : List Step) (verb : Verb) where
  abbrev f : Reading → Outcome Reading
  f = step_element s rest verb ty

  abbrev Done : Cell → Type 0
  Done c = IsElementDone s ty rest verb c

  -- children that read the same
  from_kids : (e : Extent) (section : ℕ) (kids : Children) (ts : Trees) → ((i : ℕ) (t : Ty) → kids i t ≡ read_child s ts i t) → IsDone (f (element_as s ty e section kids)) → Done (cell section ts)
  from_kids e section kids ts same h = (e, subst (λ (k : Children). IsDone (f (element_as s ty e section k))) (λ k i t. same i t k) h)

  nothing_reads : (p i : ℕ) (t : Ty) → no_children i t ≡ read_child s (resized p none) i t
  nothing_reads p i t = sym (nothing_in s p i t)

  only_reads : (t : Tree) (i : ℕ) (x : Ty) → only_child (read s t) i x ≡ read_child s (t ▸ none) i x
  unfolding read
  only_reads t zero x = refl
  only_reads t (suc i) x = refl

  only_padded : (p : ℕ) (t : Tree) (i : ℕ) (x : Ty) → only_child (read s t) i x ≡ read_child s (padded_to p (t ▸ none)) i x
  only_padded p t i x = only_reads t i x ∙ sym (read_child-padded_to s p (t ▸ none) i x)

  -- ---- the elements of each kind

  at_plain : (size k : ℕ) (xs : List ℕ) → IsDone (on_index f k (plain_readings s size xs ty)) → Done (plain_cell xs k)
  at_plain size zero [] h = absurd h
  at_plain size (suc k) [] h = absurd h
  at_plain size zero (x ∷ xs) h = from_kids (just_bits size) x no_children none (nothing_reads 0) (unmapped _ _ h)
  at_plain size (suc k) (x ∷ xs) h = at_plain size k xs (unmapped _ _ h)

  at_plain_wide : (size p k : ℕ) (xs : List ℕ) → IsDone (on_index f k (plain_readings s size xs ty)) → Done (struct_cell (elements_of_plain p xs) k)
  at_plain_wide size p zero [] h = absurd h
  at_plain_wide size p (suc k) [] h = absurd h
  at_plain_wide size p zero (x ∷ xs) h = from_kids (just_bits size) x no_children (resized p none) (nothing_reads p) (unmapped _ _ h)
  at_plain_wide size p (suc k) (x ∷ xs) h = at_plain_wide size p k xs (unmapped _ _ h)

  at_child : (k : ℕ) (ts : Trees) → IsDone (on_index f k (pointer_elements s ts ty)) → Done (cell 0 (child ts k ▸ none))
  unfolding read
  at_child zero none h = absurd h
  at_child (suc k) none h = absurd h
  at_child zero (t ▸ ts) h = from_kids (just_bits 0) 0 (only_child (read s t)) (t ▸ none) (only_reads t) (unmapped _ _ h)
  at_child (suc k) (t ▸ ts) h = at_child k ts (unmapped _ _ h)

  at_child_wide : (p k : ℕ) (ts : Trees) → IsDone (on_index f k (pointer_elements s ts ty)) → Done (struct_cell (elements_of_pointers p ts) k)
  unfolding read
  at_child_wide p zero none h = absurd h
  at_child_wide p (suc k) none h = absurd h
  at_child_wide p zero (t ▸ ts) h = from_kids (just_bits 0) 0 (only_child (read s t)) (padded_to p (t ▸ none)) (only_padded p t) (unmapped _ _ h)
  at_child_wide p (suc k) (t ▸ ts) h = at_child_wide p k ts (unmapped _ _ h)

  at_struct : (k : ℕ) (es : Elements) → IsDone (on_index f k (struct_elements s es ty)) → Done (struct_cell es k)
  unfolding read
  at_struct zero no_elements h = absurd h
  at_struct (suc k) no_elements h = absurd h
  at_struct zero (element x ts es) h = (whole_words, unmapped _ _ h)
  at_struct (suc k) (element x ts es) h = at_struct k es (unmapped _ _ h)

  at_struct_wide : (p k : ℕ) (es : Elements) → IsDone (on_index f k (struct_elements s es ty)) → Done (struct_cell (padded_elements p es) k)
  unfolding read
  at_struct_wide p zero no_elements h = absurd h
  at_struct_wide p (suc k) no_elements h = absurd h
  at_struct_wide p zero (element x ts es) h = from_kids whole_words x (read_child s ts) (padded_to p ts) (λ i t. sym (read_child-padded_to s p ts i t)) (unmapped _ _ h)
  at_struct_wide p (suc k) (element x ts es) h = at_struct_wide p k es (unmapped _ _ h)

  -- ---- the list as it is got

  plain_as : (g : Ty) (size n section k : ℕ) → IsDone (on_index f k (plain_readings s (size_bits size) (plain_elements size n section) ty)) → Done (cell_in (as_list s g (plain_list size n section)) k)
  plain_as void size n section k h = at_plain (size_bits size) k (plain_elements size n section) h
  plain_as (plain q) size n section k h = at_plain (size_bits size) k (plain_elements size n section) h
  plain_as text size n section k h = at_plain (size_bits size) k (plain_elements size n section) h
  plain_as blob size n section k h = at_plain (size_bits size) k (plain_elements size n section) h
  plain_as untyped size n section k h = at_plain (size_bits size) k (plain_elements size n section) h
  plain_as interface size n section k h = at_plain (size_bits size) k (plain_elements size n section) h
  plain_as (list e) size n section k h = at_plain (size_bits size) k (plain_elements size n section) h
  plain_as (struct id) size n section k h = by (s.shape_of id)
    where
      by : (g : Shape) → Done (cell_in (widened_list g (plain_list size n section)) k)
      by (shape nid w p u fs) = at_plain_wide (size_bits size) p k (plain_elements size n section) h

  pointers_as : (g : Ty) (ts : Trees) (k : ℕ) → IsDone (on_index f k (pointer_elements s ts ty)) → Done (cell_in (as_list s g (pointer_list ts)) k)
  pointers_as void ts k h = at_child k ts h
  pointers_as (plain q) ts k h = at_child k ts h
  pointers_as text ts k h = at_child k ts h
  pointers_as blob ts k h = at_child k ts h
  pointers_as untyped ts k h = at_child k ts h
  pointers_as interface ts k h = at_child k ts h
  pointers_as (list e) ts k h = at_child k ts h
  pointers_as (struct id) ts k h = by (s.shape_of id)
    where
      by : (g : Shape) → Done (cell_in (widened_list g (pointer_list ts)) k)
      by (shape nid w p u fs) = at_child_wide p k ts h

  structs_as : (g : Ty) (w0 p0 : ℕ) (es : Elements) (k : ℕ) → IsDone (on_index f k (struct_elements s es ty)) → Done (cell_in (as_list s g (struct_list w0 p0 es)) k)
  structs_as void w0 p0 es k h = at_struct k es h
  structs_as (plain q) w0 p0 es k h = at_struct k es h
  structs_as text w0 p0 es k h = at_struct k es h
  structs_as blob w0 p0 es k h = at_struct k es h
  structs_as untyped w0 p0 es k h = at_struct k es h
  structs_as interface w0 p0 es k h = at_struct k es h
  structs_as (list e) w0 p0 es k h = at_struct k es h
  structs_as (struct id) w0 p0 es k h = by (s.shape_of id)
    where
      by : (g : Shape) → Done (cell_in (widened_list g (struct_list w0 p0 es)) k)
      by (shape nid w p u fs) = at_struct_wide p k es h

  -- ---- null or not

  abbrev Through : ℕ → Reading → Type 0
  Through k r = IsDone (through_value s (index k) (step_field s rest verb) (step_element s rest verb) (list ty) r)

  pub listed : (d : Tree) (k : ℕ) (b : Bool) (rs : Readings) → Through k (opened s (list ty) d (list_reading b rs)) → IsDone (on_index f k rs)
  listed d k true rs h = unmapped _ _ h
  listed d k false rs h = absurd h

  pub defaulted : (k : ℕ) (b : Bool) (rs : Readings) → Through k (or_empty s (list ty) (list_reading b rs)) → IsDone (on_index f k rs)
  defaulted k true rs h = unmapped _ _ h
  defaulted k false rs h = absurd h

  of_default : (d : Tree) (k : ℕ) → Through k (or_empty s (list ty) (read s d (list ty))) → Done (cell_in (as_list s ty d) k)
  unfolding read
  of_default null zero h = absurd h
  of_default null (suc k) h = absurd h
  of_default (capability i) k h = absurd h
  of_default (structure w x ts) k h = absurd h
  of_default (plain_list size n x) k h = plain_as ty size n x k (defaulted k (is_list_of (plain_list size n x) ty) _ h)
  of_default (pointer_list ts) k h = pointers_as ty ts k (defaulted k (is_list_of (pointer_list ts) ty) _ h)
  of_default (struct_list w p es) k h = structs_as ty w p es k (defaulted k (is_list_of (struct_list w p es) ty) _ h)

  -- where the steps into the value are done, the rest is done at the element of the list that is got
  pub element_done : (d t : Tree) (k : ℕ) → IsDone (value_outcome (record { around = s; ty = list ty; default = d }) (index k ∷ rest) verb t) → Done (cell_in (as_list s ty (opened_tree (list ty) d t)) k)
  unfolding read
  element_done d null k h = of_default d k h
  element_done d (capability i) k h = absurd h
  element_done d (structure w x ts) k h = absurd h
  element_done d (plain_list size n x) k h = plain_as ty size n x k (listed d k (is_list_of (plain_list size n x) ty) _ h)
  element_done d (pointer_list ts) k h = pointers_as ty ts k (listed d k (is_list_of (pointer_list ts) ty) _ h)
  element_done d (struct_list w p es) k h = structs_as ty w p es k (listed d k (is_list_of (struct_list w p es) ty) _ h)
