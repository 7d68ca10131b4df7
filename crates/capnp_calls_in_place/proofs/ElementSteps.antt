-- The record machine does what is put at an index of a list of plain elements, or of texts or data.
use Rattle.std.proofs.Common.{◌≡◌, ℕ, zero, suc, ◌*◌, ◌<◌, Bool, true, false, ◌==◌, if◌then◌else◌, Option, List, [], ◌∷◌, length, refl, ap, sym, subst, ◌∙◌, arith}
use Rattle.capnp_model.specs.Trees.{Tree, null, capability, structure, plain_list, pointer_list, struct_list, Trees, none, ◌▸◌, tree_count, child, size_bits, size_of_width, plain_elements}
use Rattle.capnp_model.specs.Fits.{Fits}
use Rattle.capnp_model.specs.Trimming.{trim}
use Rattle.capnp_model.specs.Schemas.{PlainType, width, Ty, void, plain, text, blob, untyped, interface, struct, list, Body, pointer_slot, Schema, default_or_null}
use Rattle.capnp_model.specs.Readings.{Reading, inactive, null_pointer, fault, number, text_of, blob_of, opaque, list_of, record_as, Readings, ◌▹◌, whole_words, just_bits, no_children, only_child, read, read_child, pointer_elements, plain_readings, element_as, list_reading, have_room, is_accepted_as, is_list_of, body_of}
use Rattle.capnp_model.specs.Calls.{Step, index, set_to, CallValue, Content}
use Rattle.capnp_model.specs.Steps.{Outcome, refused, shown, done, outcome_map, on_index, reading_after, opened, through_value, step_field, step_element}
use Rattle.capnp_model.specs.Edits.{Cell, put_child}
use Rattle.capnp_model.proofs.lemmas.Numbers.{length-numbers_in}
use Rattle.capnp_model.proofs.lemmas.Paths.{read_child-is}
use Rattle.capnp_calls.specs.Sizes.{IsDone}
use Rattle.capnp_calls_splice.specs.Splices.{PutsBlobAt, set_element, PutsIntoCell}
use Rattle.capnp_calls_splice.specs.declared.blob.Blob.{Blob}
use Rattle.capnp_calls_splice.specs.declared.plain.PlainSet.{PlainSet}
use Rattle.capnp_calls_splice.specs.declared.splice.Put.TheVariants as puts
use Rattle.capnp_calls.specs.PlainFields.{SetsPlainSlot}
use Rattle.capnp_calls.specs.Splices.{IsBlobOf, IsElementPut}
use Rattle.capnp_calls_in_place.proofs.SplicedKids.{child_same, child_fits}
use Rattle.capnp_calls_in_place.proofs.SplicedCells.{IsCut}
use Rattle.capnp_calls_in_place.proofs.SplicedElements.{slot_inside, PutsElement}

-- What is done stays done with another value.
pub mapped : {A B : Type 0} (f : A → B) (o : Outcome A) → IsDone o → IsDone (outcome_map f o)
mapped f (refused k) h = absurd h
mapped f (shown how r) h = absurd h
mapped f (done x) h = tt

-- What is done behind a child, where something is put into the trimmed one.
pub child_done : (P : Tree → Tree → Type 0) (D : Tree → Type 0) (i words more : ℕ) (cut new old : Cell) → ((t u : Tree) → Fits (trim t) → P (trim t) u → D t) → IsCut words cut old → (more ≡ words) × (t : Tree) × P (child cut.kids i) t × (new ≡ put_child i t cut) → D (child old.kids i)
child_done P D i words more cut new old h is p =
    let same : child cut.kids i ≡ trim (child old.kids i) = child_same old.kids cut.kids i is.kids in
    h (child old.kids i) p.1 (subst Fits same (child_fits cut.kids i is.fit)) (subst (λ (u : Tree). P u p.1) same p.2)

-- ---- elements

-- What is done at any element is done at those that there are.
module _ (s : Schema) (ty : Ty) (f : Reading → Outcome Reading) (all : (r : Reading) → IsDone (f r)) where
  pointers_done : (k : ℕ) (ts : Trees) → k < tree_count ts → IsDone (on_index f k (pointer_elements s ts ty))
  unfolding read
  pointers_done k none l = absurd (omega (arith, l))
  pointers_done zero (t ▸ ts) l =
      let first : Reading = element_as s ty (just_bits 0) 0 (only_child (read s t)) in
      mapped (λ (x : Reading). x ▹ pointer_elements s ts ty) (f first) (all first)
  pointers_done (suc k) (t ▸ ts) l =
      let first : Reading = element_as s ty (just_bits 0) 0 (only_child (read s t)) in
      mapped (λ (xs : Readings). first ▹ xs) (on_index f k (pointer_elements s ts ty)) (pointers_done k ts (omega (arith, l)))

  numbers_done : (size k : ℕ) (xs : List ℕ) → k < length xs → IsDone (on_index f k (plain_readings s size xs ty))
  numbers_done size k [] below = absurd (omega (arith, below))
  numbers_done size zero (x ∷ xs) below =
      let first : Reading = element_as s ty (just_bits size) x no_children in
      mapped (λ (y : Reading). y ▹ plain_readings s size xs ty) (f first) (all first)
  numbers_done size (suc k) (x ∷ xs) below =
      let first : Reading = element_as s ty (just_bits size) x no_children in
      mapped (λ (ys : Readings). first ▹ ys) (on_index f k (plain_readings s size xs ty)) (numbers_done size k xs (omega (arith, below)))

-- Elements of a type's width are accepted as those of the type.
sized : (size n section : ℕ) → 0 < size_bits size → is_accepted_as (size_of_width (size_bits size)) (plain_list size n section) ≡ true
sized zero n section some = absurd (omega (arith, some))
sized (suc zero) n section some = refl
sized (suc (suc zero)) n section some = refl
sized (suc (suc (suc zero))) n section some = refl
sized (suc (suc (suc (suc zero)))) n section some = refl
sized (suc (suc (suc (suc (suc size))))) n section some =
    let more : (suc (suc (suc (suc (suc size)))) == 1) ≡ false = grind arith in
    ap (λ (b : Bool). if b then 5 == 1 else have_room 64 0 5) more

plain_accepted : (q : PlainType) (size n section : ℕ) → size_bits size ≡ width q → 0 < width q → is_list_of (plain_list size n section) (plain q) ≡ true
plain_accepted q size n section same some =
    subst (λ (w : ℕ). is_accepted_as (size_of_width w) (plain_list size n section) ≡ true) same (sized size n section (subst (λ (w : ℕ). 0 < w) (sym same) some))

-- ---- lists

module _ (s : Schema) (v : CallValue) where
  -- The rest of a path goes through the value of a pointer to a list.
  abbrev pub IsThrough : Ty → ℕ → List Step → Tree → Reading → Type 0
  IsThrough ty k rest d r = IsDone (through_value s (index k) (step_field s rest (set_to v)) (step_element s rest (set_to v)) (list ty) (opened s (list ty) d r))

  indexed_through : (j : ℕ) (rest : List Step) (i : ℕ) (ty : Ty) (d : Option Tree) (r : Reading) → IsThrough ty j rest (default_or_null d) r → IsDone (step_field s (index j ∷ rest) (set_to v) (pointer_slot i (list ty) d) r)
  unfolding step_field
  indexed_through j rest i ty d inactive h = absurd h
  indexed_through j rest i ty d null_pointer h = h
  indexed_through j rest i ty d (fault k) h = h
  indexed_through j rest i ty d (number k) h = h
  indexed_through j rest i ty d (text_of k) h = h
  indexed_through j rest i ty d (blob_of k) h = h
  indexed_through j rest i ty d (list_of k) h = h
  indexed_through j rest i ty d (record_as k) h = h
  indexed_through j rest i ty d (opaque k) h = h

  -- So it goes through a slot of such a pointer.
  pub slot_through : (i k : ℕ) (rest : List Step) (ty : Ty) (d : Option Tree) (body : Body) (section : ℕ) (kids : Trees) → body ≡ pointer_slot i (list ty) d → IsThrough ty k rest (default_or_null d) (read s (child kids i) (list ty))
      → IsDone (step_field s (index k ∷ rest) (set_to v) body (body_of body whole_words section (read_child s kids)))
  unfolding body_of
  slot_through i k rest ty d body section kids is h =
      let at : IsDone (step_field s (index k ∷ rest) (set_to v) (pointer_slot i (list ty) d) (read_child s kids i (list ty))) =
      indexed_through k rest i ty d (read_child s kids i (list ty)) (subst (IsThrough ty k rest (default_or_null d)) (sym (read_child-is s kids i (list ty))) h) in
      subst (λ (x : Body). IsDone (step_field s (index k ∷ rest) (set_to v) x (body_of x whole_words section (read_child s kids)))) (sym is) at

  -- A list of bytes is put at an element of its type.
  abbrev BlobEnds : Ty → Type 0
  BlobEnds ty = ((r : Reading) → IsDone (step_element s [] (set_to v) ty r)) × ((ts : Trees) → is_list_of (pointer_list ts) ty ≡ true)

  blob_ends : (b : Blob) (ty : Ty) → IsBlobOf b ty v → BlobEnds ty
  unfolding step_element
  blob_ends b void h = absurd h.0
  blob_ends b (plain q) h = absurd h.0
  blob_ends b text h = (λ r. subst (λ (x : Content). IsDone (reading_after s text x)) (sym h.1) tt, λ ts. refl)
  blob_ends b blob h = (λ r. subst (λ (x : Content). IsDone (reading_after s blob x)) (sym h.1) tt, λ ts. refl)
  blob_ends b untyped h = absurd h.0
  blob_ends b interface h = absurd h.0
  blob_ends b (struct id) h = absurd h.0
  blob_ends b (list ty) h = absurd h.0

  blob_through : (b : Blob) (k : ℕ) (ty : Ty) (d : Tree) → BlobEnds ty → (old new : Tree) → Fits (trim old) → PutsBlobAt k b (trim old) new → IsThrough ty k [] d (read s old (list ty))
  unfolding read trim
  blob_through b k ty d ends null new fit p = absurd p
  blob_through b k ty d ends (capability i) new fit p = absurd p
  blob_through b k ty d ends (structure w section kids) new fit p = absurd p
  blob_through b k ty d ends (plain_list z n section) new fit p = absurd p
  blob_through b k ty d ends (pointer_list ts) new fit p =
      let rs : Readings = pointer_elements s ts ty in
      let e : Reading → Outcome Reading = step_element s [] (set_to v) ty in
      let there : IsDone (outcome_map list_of (on_index e k rs)) = mapped list_of (on_index e k rs) (pointers_done s ty e ends.0 k ts (slot_inside ts k p.0)) in
      subst (λ (b : Bool). IsThrough ty k [] d (list_reading b rs)) (sym (ends.1 ts)) there
  blob_through b k ty d ends (struct_list w q es) new fit p = absurd p

  number_ends : (q : PlainType) (at default : ℕ) (p : PlainSet) → SetsPlainSlot q at default v p → (r : Reading) → IsDone (step_element s [] (set_to v) (plain q) r)
  unfolding step_element
  number_ends q at default p h r = subst (λ (x : Content). IsDone (reading_after s (plain q) x)) (sym h.value) tt

  number_through : (p : PlainSet) (k : ℕ) (q : PlainType) (d : Tree) → ((r : Reading) → IsDone (step_element s [] (set_to v) (plain q) r)) → p.width ≡ width q → (old new : Tree) → Fits (trim old) → PutsElement k p (trim old) new
      → IsThrough (plain q) k [] d (read s old (list (plain q)))
  unfolding read trim
  number_through p k q d ends wide null new fit h = absurd h.0
  number_through p k q d ends wide (capability i) new fit h = absurd h.0
  number_through p k q d ends wide (structure w section kids) new fit h = absurd h.0
  number_through p k q d ends wide (plain_list z n section) new fit h =
      let xs : List ℕ = plain_elements z n section in
      let rs : Readings = plain_readings s (size_bits z) xs (plain q) in
      let e : Reading → Outcome Reading = step_element s [] (set_to v) (plain q) in
      let below : k < length xs = subst (λ (m : ℕ). k < m) (sym (length-numbers_in (size_bits z) n section)) h.0.1 in
      let there : IsDone (outcome_map list_of (on_index e k rs)) = mapped list_of (on_index e k rs) (numbers_done s (plain q) e ends (size_bits z) k xs below) in
      let accepted : is_list_of (plain_list z n section) (plain q) ≡ true = plain_accepted q z n section (h.0.0 ∙ wide) (subst (λ (w : ℕ). 0 < w) wide p.some) in
      subst (λ (b : Bool). IsThrough (plain q) k [] d (list_reading b rs)) (sym accepted) there
  number_through p k q d ends wide (pointer_list ts) new fit h = absurd h.0
  number_through p k q d ends wide (struct_list w m es) new fit h = absurd h.0

  -- ---- at the end of a path

  -- A list of bytes at an index.
  pub blob_at_done : (j k : ℕ) (b : Blob) (body : Body) → IsElementPut (puts.BlobAt j k b) body v → (words more : ℕ) (cut new old : Cell) → IsCut words cut old → PutsIntoCell (puts.BlobAt j k b) words more cut new
      → IsDone (step_field s (index k ∷ []) (set_to v) body (body_of body whole_words old.section (read_child s old.kids)))
  blob_at_done j k b body h words more cut new old is p =
      let ty : Ty = h.0 in
      let d : Tree = default_or_null h.1 in
      slot_through j k [] ty h.1 body old.section old.kids h.2
      (child_done (PutsBlobAt k b) (λ t. IsThrough ty k [] d (read s t (list ty))) j words more cut new old (blob_through b k ty d (blob_ends b ty h.3)) is p)

  -- A number at an index.
  pub number_at_done : (j k : ℕ) (m : PlainSet) (body : Body) → IsElementPut (puts.NumberAt j k m) body v → (words more : ℕ) (cut new old : Cell) → IsCut words cut old → PutsIntoCell (puts.NumberAt j k m) words more cut new
      → IsDone (step_field s (index k ∷ []) (set_to v) body (body_of body whole_words old.section (read_child s old.kids)))
  number_at_done j k m body h words more cut new old is p =
      let q : PlainType = h.0 in
      let d : Tree = default_or_null h.1 in
      slot_through j k [] (plain q) h.1 body old.section old.kids h.2
      (child_done (PutsElement k m) (λ t. IsThrough (plain q) k [] d (read s t (list (plain q)))) j words more cut new old
      (number_through m k q d (number_ends q (width q * k) 0 m h.3) h.3.width) is (p.0, set_element m (child cut.kids j), (p.1, refl), p.2))
