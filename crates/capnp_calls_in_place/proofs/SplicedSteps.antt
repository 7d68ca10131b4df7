-- The record machine does the calls along paths, where what they put is put by way of hops.
use Rattle.std.proofs.Common.{◌≡◌, ℕ, zero, suc, ◌*◌, ◌≤◌, Bool, true, ◌&&◌, nat_le, Option, Some, None, List, [], ◌∷◌, refl, ap, sym, subst, ◌∙◌, arith}
use Rattle.capnp_model.specs.Sections.{needed_words}
use Rattle.capnp_model.specs.Trees.{Tree, null, capability, structure, plain_list, pointer_list, struct_list, Trees, Elements, no_elements, element, child, tree_count, resized}
use Rattle.capnp_model.specs.Fits.{Fits, FitElements}
use Rattle.capnp_model.specs.Trimming.{stripped, trim, trim_each, trim_elements, common_words, common_pointers, with_pointers}
use Rattle.capnp_model.specs.Schemas.{plain, struct, list, Shape, shape, Body, void_slot, plain_slot, pointer_slot, group_slot, Schema, default_or_null}
use Rattle.capnp_model.specs.Readings.{Reading, inactive, null_pointer, fault, number, text_of, blob_of, opaque, list_of, record_as, Readings, ◌▹◌, Record, whole_words, read, read_child, struct_elements, element_as, list_reading, is_list_of, discriminant, shape_record, body_of}
use Rattle.capnp_model.specs.Printing.{fields_in}
use Rattle.capnp_model.specs.Calls.{Step, name, index, Verb, set_to, CallValue, Content}
use Rattle.capnp_model.specs.Steps.{Outcome, outcome_map, Target, target, target_of, entry_of, replaced, at_target, on_name, on_index, reading_after, opened, through_value, step_path, step_field, step_element}
use Rattle.capnp_model.specs.Edits.{Cell}
use Rattle.capnp_model.proofs.lemmas.Paths.{entry_of-fields_of, read_child-is}
use Rattle.capnp_model.proofs.lemmas.Stripping.{stripped-stripped, stripped-resized}
use Rattle.capnp_values_queries.specs.Fields.{union_in}
use Rattle.capnp_calls.specs.Sizes.{IsDone}
use Rattle.capnp_calls_splice.specs.Splices.{PutsIntoCell, InStruct, InElements, InList, PutsBehind}
use Rattle.capnp_calls_splice.specs.declared.blob.Blob.{Blob}
use Rattle.capnp_calls_splice.specs.declared.plain.PlainSet.{PlainSet}
use Rattle.capnp_calls_splice.specs.declared.splice.Hop.{Hop}
use Rattle.capnp_calls_splice.specs.declared.splice.Hop.TheVariants as hops
use Rattle.capnp_calls_splice.specs.declared.splice.Put.{Put}
use Rattle.capnp_calls_splice.specs.declared.splice.Put.TheVariants as puts
use Rattle.capnp_calls.specs.PlainFields.{PutsInto}
use Rattle.capnp_calls.specs.Splices.{IsPutOf, IsNumberOf, IsPutAt, steps_to, FindsPlainField, Enters, PathLeadsTo}
use Rattle.capnp_calls_in_place.proofs.SplicedCells.{IsCut}
use Rattle.capnp_calls_in_place.proofs.ElementSteps.{mapped, child_done, IsThrough, slot_through, blob_at_done, number_at_done}
use Rattle.capnp_calls_in_place.proofs.SplicedPaths.{begins}

module _ (s : Schema) (v : CallValue) (put : Put) where
  abbrev verb : Verb
  verb = set_to v

  -- The rest of a path at a struct.
  abbrev record_at : Shape → ℕ → Trees → Record
  record_at g section kids = shape_record g whole_words section (read_child s kids)

  -- It is done where it is done at the field that the name finds.
  named_done : (g : Shape) (n : List ℕ) (rest : List Step) (body : Body) (section : ℕ) (kids : Trees) → FindsPlainField g n body
      → IsDone (step_field s rest verb body (body_of body whole_words section (read_child s kids))) → IsDone (step_path s (fields_in g) (name n ∷ rest) verb (record_at g section kids))
  unfolding shape_record
  named_done (shape nid w p u fs) n rest body section kids found h =
      let r : Record = record_at (shape nid w p u fs) section kids in
      let f : Body → Reading → Outcome Reading = step_field s rest verb in
      let with_reading : Reading → Record = λ y. replaced n None y fs r in
      let outcome : at_target f n fs r (target_of n fs) ≡ outcome_map with_reading (f body (body_of body whole_words section (read_child s kids))) =
      ap (at_target f n fs r) found ∙ ap (λ y. outcome_map with_reading (f body y)) (entry_of-fields_of n fs None body (discriminant u whole_words section) whole_words section (read_child s kids) found) in
      subst IsDone (sym outcome) (mapped with_reading (f body (body_of body whole_words section (read_child s kids))) h)

  -- At the end, whatever the field reads as.
  named_end : (g : Shape) (n : List ℕ) (member : Option ℕ) (body : Body) (r : Record) → target_of n (fields_in g) ≡ target member body → ((x : Reading) → IsDone (step_field s [] verb body x)) → IsDone (step_path s (fields_in g) (name n ∷ []) verb r)
  named_end g n member body r found h =
      let f : Body → Reading → Outcome Reading = step_field s [] verb in
      let fs = fields_in g in
      subst (λ (t : Target). IsDone (at_target f n fs r t)) (sym found) (mapped (λ (x : Reading). replaced n member x fs r) (f body (entry_of n r)) (h (entry_of n r)))

  -- There what is put is done.
  number_done : (p : PlainSet) (body : Body) (r : Reading) → PutsInto body v p → IsDone (step_field s [] verb body r)
  unfolding step_field
  number_done p (void_slot j) r h = absurd h
  number_done p (plain_slot q at d) r h = subst (λ (k : Content). IsDone (reading_after s (plain q) k)) (sym h.value) tt
  number_done p (pointer_slot i ty d) r h = absurd h
  number_done p (group_slot g) r h = absurd h

  blob_done : (j : ℕ) (b : Blob) (body : Body) (r : Reading) → IsPutOf (puts.Blob j b) body v → IsDone (step_field s [] verb body r)
  unfolding step_field
  blob_done j b (void_slot k) r h = absurd h
  blob_done j b (plain_slot q at d) r h = absurd h
  blob_done j b (pointer_slot i ty d) r h = subst (λ (k : Content). IsDone (reading_after s ty k)) (sym h.1) tt
  blob_done j b (group_slot g) r h = absurd h

  any_done : (p : Option PlainSet) (body : Body) (r : Reading) → IsNumberOf p body v → IsDone (step_field s [] verb body r)
  unfolding step_field
  any_done None (void_slot j) r h = tt
  any_done None (plain_slot q at d) r h = absurd h
  any_done None (pointer_slot i ty d) r h = absurd h
  any_done None (group_slot g) r h = absurd h
  any_done (Some p) body r h = number_done p body r h

  -- What is done at a struct, whenever something is put into the trimmed one.
  abbrev DoneWhere : (ℕ → ℕ → Cell → Cell → Type 0) → Shape → List Step → Type 0
  DoneWhere puts g path = (words more : ℕ) (cut new old : Cell) → IsCut words cut old → puts words more cut new → IsDone (step_path s (fields_in g) path verb (record_at g old.section old.kids))

  -- At the end, whatever is put.
  end_done : (put : Put) (g : Shape) (n : List ℕ) (member : Option ℕ) (body : Body) → target_of n (fields_in g) ≡ target member body → IsPutAt put (union_in g) member body v → DoneWhere (PutsIntoCell put) g (name n ∷ steps_to put)
  end_done (puts.Number p) g n member body found h words more cut new old is q = named_end g n member body (record_at g old.section old.kids) found (λ x. number_done p body x h.1)
  end_done (puts.Blob j b) g n member body found h words more cut new old is q = named_end g n member body (record_at g old.section old.kids) found (λ x. blob_done j b body x h.1)
  end_done (puts.Member m p) g n member body found h words more cut new old is q = named_end g n member body (record_at g old.section old.kids) found (λ x. any_done p body x h.1)
  end_done (puts.BlobAt j k b) g n member body found h words more cut new old is q =
      named_done g n (index k ∷ []) body old.section old.kids (found ∙ ap (λ (m : Option ℕ). target m body) h.0) (blob_at_done s v j k b body h.1 words more cut new old is q)
  end_done (puts.NumberAt j k p) g n member body found h words more cut new old is q =
      named_done g n (index k ∷ []) body old.section old.kids (found ∙ ap (λ (m : Option ℕ). target m body) h.0) (number_at_done s v j k p body h.1 words more cut new old is q)

  -- Through the value of a pointer to a struct.
  struct_done : (puts : ℕ → ℕ → Cell → Cell → Type 0) (id : ℕ) (d : Tree) (n : List ℕ) (rest : List Step) → DoneWhere puts (s.shape_of id) (name n ∷ rest) → (old new : Tree) → Fits (trim old) → InStruct puts (trim old) new
      → IsDone (through_value s (name n) (step_field s rest verb) (step_element s rest verb) (struct id) (opened s (struct id) d (read s old (struct id))))
  unfolding read trim
  struct_done puts id d n rest h null new fit p = absurd p
  struct_done puts id d n rest h (capability i) new fit p = absurd p
  struct_done puts id d n rest h (structure words section kids) new fit p =
      let cut : Cell = record { section = section; kids = stripped (trim_each kids) } in
      let cuts : IsCut (needed_words words section) cut (record { section = section; kids = kids }) = record { section = refl; kids = sym (stripped-stripped (trim_each kids)); inside = fit.2; fit = fit.3 } in
      mapped record_as (on_name (step_field s rest verb) n (fields_in (s.shape_of id)) (record_at (s.shape_of id) section kids)) (h (needed_words words section) p.0 cut p.1 (record { section = section; kids = kids }) cuts p.2)
  struct_done puts id d n rest h (plain_list z m section) new fit p = absurd p
  struct_done puts id d n rest h (pointer_list ts) new fit p = absurd p
  struct_done puts id d n rest h (struct_list w k es) new fit p = absurd p

  -- Through an element of a list of structs.
  element_done : (puts : ℕ → ℕ → Cell → Cell → Type 0) (id : ℕ) (n : List ℕ) (rest : List Step) → DoneWhere puts (s.shape_of id) (name n ∷ rest) → (words pointers k : ℕ) (es new : Elements)
      → FitElements words pointers (with_pointers pointers (trim_elements es)) → common_pointers (trim_elements es) ≤ pointers → InElements (puts words words) k (with_pointers pointers (trim_elements es)) new
      → IsDone (on_index (step_element s (name n ∷ rest) verb (struct id)) k (struct_elements s es (struct id)))
  unfolding step_element read trim
  element_done puts id n rest h words pointers zero no_elements new fit few p = absurd p
  element_done puts id n rest h words pointers (suc k) no_elements new fit few p = absurd p
  element_done puts id n rest h words pointers zero (element section kids es) new fit few p =
      let most : tree_count (stripped (trim_each kids)) ≤ pointers = omega (arith, few) in
      let cut : Cell = record { section = section; kids = resized pointers (trim_each kids) } in
      let old : Cell = record { section = section; kids = kids } in
      let cuts : IsCut words cut old = record { section = refl; kids = sym (stripped-resized pointers (trim_each kids) most); inside = fit.0; fit = fit.2 } in
      let g = s.shape_of id in
      let behind : Outcome Record = on_name (step_field s rest verb) n (fields_in g) (record_at g section kids) in
      mapped (λ (x : Reading). x ▹ struct_elements s es (struct id)) (outcome_map record_as behind) (mapped record_as behind (h words words cut p.0 old cuts p.1))
  element_done puts id n rest h words pointers (suc k) (element section kids es) new fit few p =
      let first : Reading = element_as s (struct id) whole_words section (read_child s kids) in
      mapped (λ (xs : Readings). first ▹ xs) (on_index (step_element s (name n ∷ rest) verb (struct id)) k (struct_elements s es (struct id)))
      (element_done puts id n rest h words pointers k es p.0 fit.3 (omega (arith, few)) p.1)

  -- Any list of structs is one of a struct's type.
  accepted : (id w p : ℕ) (es : Elements) → is_list_of (struct_list w p es) (struct id) ≡ true
  accepted id w p es =
      let words : nat_le 0 (64 * w) ≡ true = grind arith in
      let pointers : nat_le 0 p ≡ true = grind arith in
      ap (λ (b : Bool). b && nat_le 0 p) words ∙ pointers

  -- Through the value of a pointer to a list.
  list_done : (puts : ℕ → ℕ → Cell → Cell → Type 0) (id : ℕ) (d : Tree) (k : ℕ) (n : List ℕ) (rest : List Step) → DoneWhere puts (s.shape_of id) (name n ∷ rest) → (old new : Tree) → Fits (trim old) → InList puts k (trim old) new
      → IsDone (through_value s (index k) (step_field s (name n ∷ rest) verb) (step_element s (name n ∷ rest) verb) (list (struct id)) (opened s (list (struct id)) d (read s old (list (struct id)))))
  unfolding read trim
  list_done puts id d k n rest h null new fit p = absurd p
  list_done puts id d k n rest h (capability i) new fit p = absurd p
  list_done puts id d k n rest h (structure w section kids) new fit p = absurd p
  list_done puts id d k n rest h (plain_list z m section) new fit p = absurd p
  list_done puts id d k n rest h (pointer_list ts) new fit p = absurd p
  list_done puts id d k n rest h (struct_list w q es) new fit p =
      let rs : Readings = struct_elements s es (struct id) in
      let e = step_element s (name n ∷ rest) verb (struct id) in
      let there : IsDone (outcome_map list_of (on_index e k rs)) = mapped list_of (on_index e k rs) (element_done puts id n rest h (common_words w (trim_elements es)) (common_pointers (trim_elements es)) k es p.0 fit.4 (omega arith) p.1) in
      let through : Bool → Type 0 = λ b. IsDone (through_value s (index k) (step_field s (name n ∷ rest) verb) (step_element s (name n ∷ rest) verb) (list (struct id)) (opened s (list (struct id)) d (list_reading b rs))) in
      subst through (sym (accepted id w q es)) there

  -- A field's step through a pointer is one through its value.
  named_through : (n : List ℕ) (rest : List Step) (i id : ℕ) (d : Option Tree) (r : Reading) → IsDone (through_value s (name n) (step_field s rest verb) (step_element s rest verb) (struct id) (opened s (struct id) (default_or_null d) r))
      → IsDone (step_field s (name n ∷ rest) verb (pointer_slot i (struct id) d) r)
  unfolding step_field
  named_through n rest i id d inactive h = absurd h
  named_through n rest i id d null_pointer h = h
  named_through n rest i id d (fault k) h = h
  named_through n rest i id d (number k) h = h
  named_through n rest i id d (text_of k) h = h
  named_through n rest i id d (blob_of k) h = h
  named_through n rest i id d (list_of k) h = h
  named_through n rest i id d (record_as k) h = h
  named_through n rest i id d (opaque k) h = h

  -- A field's step into a group.
  grouped_through : (n : List ℕ) (rest : List Step) (g : Shape) (r : Record) → IsDone (step_path s (fields_in g) (name n ∷ rest) verb r) → IsDone (step_field s (name n ∷ rest) verb (group_slot g) (record_as r))
  unfolding step_field
  grouped_through n rest g r h = mapped record_as (on_name (step_field s rest verb) n (fields_in g) r) h

  -- The slot of a hop, where what is behind it is done.
  enters_done : (hop : Hop) (way : List Hop) (body : Body) (front : List Step) (inner : Shape) (n : List ℕ) (rest : List Step) → Enters s hop body front inner (name n ∷ rest) → DoneWhere (PutsBehind put way) inner (name n ∷ rest)
      → (words more : ℕ) (cut new old : Cell) → IsCut words cut old → PutsBehind put (hop ∷ way) words more cut new → IsDone (step_field s front verb body (body_of body whole_words old.section (read_child s old.kids)))
  unfolding body_of
  enters_done (hops.Pointer i) way body front inner n rest h known words more cut new old is p =
      let id = h.0 in
      let d = default_or_null h.1 in
      let behind : DoneWhere (PutsBehind put way) (s.shape_of id) (name n ∷ rest) = subst (λ (g : Shape). DoneWhere (PutsBehind put way) g (name n ∷ rest)) h.4 known in
      let through : Reading → Type 0 = λ r. IsDone (through_value s (name n) (step_field s rest verb) (step_element s rest verb) (struct id) (opened s (struct id) d r)) in
      let there : through (read s (child old.kids i) (struct id)) = child_done (InStruct (PutsBehind put way)) (λ t. through (read s t (struct id))) i words more cut new old (struct_done (PutsBehind put way) id d n rest behind) is p in
      let at : IsDone (step_field s (name n ∷ rest) verb (pointer_slot i (struct id) h.1) (read_child s old.kids i (struct id))) =
      named_through n rest i id h.1 (read_child s old.kids i (struct id)) (subst through (sym (read_child-is s old.kids i (struct id))) there) in
      let whole : Body → List Step → Type 0 = λ b way. IsDone (step_field s way verb b (body_of b whole_words old.section (read_child s old.kids))) in
      subst (λ (b : Body). whole b front) (sym h.2) (subst (whole (pointer_slot i (struct id) h.1)) (sym h.3) at)
  enters_done (hops.Element i k) way body front inner n rest h known words more cut new old is p =
      let id = h.0 in
      let d = default_or_null h.1 in
      let behind : DoneWhere (PutsBehind put way) (s.shape_of id) (name n ∷ rest) = subst (λ (g : Shape). DoneWhere (PutsBehind put way) g (name n ∷ rest)) h.4 known in
      let after : Reading → Type 0 = IsThrough s v (struct id) k (name n ∷ rest) d in
      let there : after (read s (child old.kids i) (list (struct id))) = child_done (InList (PutsBehind put way) k) (λ t. after (read s t (list (struct id)))) i words more cut new old (list_done (PutsBehind put way) id d k n rest behind) is p in
      let whole : List Step → Type 0 = λ way. IsDone (step_field s way verb body (body_of body whole_words old.section (read_child s old.kids))) in
      subst whole (sym h.3) (slot_through s v i k (name n ∷ rest) (struct id) h.1 body old.section old.kids h.2 there)
  enters_done hops.Group way body front inner n rest h known words more cut new old is p =
      let whole : Body → List Step → Type 0 = λ b way. IsDone (step_field s way verb b (body_of b whole_words old.section (read_child s old.kids))) in
      let at : whole (group_slot inner) (name n ∷ rest) = grouped_through n rest inner (record_at inner old.section old.kids) (known words more cut new old is p) in
      subst (λ (b : Body). whole b front) (sym h.0) (subst (whole (group_slot inner)) (sym h.1) at)

  -- The record machine does the rest of a path.
  pub path_done : (way : List Hop) (g : Shape) (path : List Step) → PathLeadsTo s v put way g path → DoneWhere (PutsBehind put way) g path
  path_done [] g path h words more cut new old is p =
      subst (λ (way : List Step). IsDone (step_path s (fields_in g) way verb (record_at g old.section old.kids))) (sym h.3) (end_done put g h.0 h.1 h.2 h.4 h.5 words more cut new old is p)
  path_done (hop ∷ way) g path h words more cut new old is p =
      let b = begins s v put way h.3 h.4 h.8 in
      let behind : DoneWhere (PutsBehind put way) h.3 (name b.0 ∷ b.1) = subst (DoneWhere (PutsBehind put way) h.3) b.2 (path_done way h.3 h.4 h.8) in
      let into : Enters s hop h.2 h.1 h.3 (name b.0 ∷ b.1) = subst (λ (rest : List Step). Enters s hop h.2 h.1 h.3 rest) b.2 h.7 in
      subst (λ (way : List Step). IsDone (step_path s (fields_in g) way verb (record_at g old.section old.kids))) (sym h.5)
      (named_done g h.0 h.1 h.2 old.section old.kids h.6 (enters_done hop way h.2 h.1 h.3 b.0 b.1 into behind words more cut new old is p))
