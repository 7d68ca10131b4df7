-- The edits along paths do what is put by way of hops.
use Rattle.std.proofs.Common.{◌≡◌, ℕ, Option, None, List, [], ◌∷◌, ap, sym, subst, ◌∙◌}
use Rattle.capnp_model.specs.Trees.{Tree}
use Rattle.capnp_model.specs.Schemas.{struct, list, Shape, shape, Body, pointer_slot, group_slot, Schema, default_or_null, words_of_shape, pointers_of_shape}
use Rattle.capnp_model.specs.Accepted.{union_area, areas_of, areas_of_body}
use Rattle.capnp_model.specs.Printing.{fields_in}
use Rattle.capnp_model.specs.Calls.{Step, name, index, Verb, set_to, CallValue}
use Rattle.capnp_model.specs.Steps.{Target, target, target_of}
use Rattle.capnp_model.specs.Edits.{Cell, Edit, put_field, opened_tree, edit_target, edit_named, edit_struct, edit_list, as_list, edit_field, edit_element}
use Rattle.capnp_model.proofs.lemmas.ReachedStructs.{AllInside, IsWithin}
use Rattle.capnp_values_queries.specs.Fields.{union_in}
use Rattle.capnp_calls_splice.specs.Splices.{PutsIntoCell, InStruct, InList, PutsBehind}
use Rattle.capnp_calls_splice.specs.declared.plain.PlainSet.{PlainSet}
use Rattle.capnp_calls_splice.specs.declared.splice.Hop.{Hop}
use Rattle.capnp_calls_splice.specs.declared.splice.Hop.TheVariants as hops
use Rattle.capnp_calls_splice.specs.declared.splice.Put.{Put}
use Rattle.capnp_calls_splice.specs.declared.splice.Put.TheVariants as puts
use Rattle.capnp_calls.specs.Splices.{IsPutOf, MarksMember, IsNumberOf, IsPutAt, steps_to, Enters, PathLeadsTo}
use Rattle.capnp_calls_in_place.proofs.InsideShapes.{shape_inside, union_inside, body_inside, group_inside, any_below, mark_below}
use Rattle.capnp_calls_in_place.proofs.SplicedCells.{IsEditOf, IsChangeOf, with_number, with_any, member_is, child_is}
use Rattle.capnp_calls_in_place.proofs.SplicedEnds.{edits_alike, opened_is, put_is, any_put, unmarked, marked_is}
use Rattle.capnp_calls_in_place.proofs.SplicedElements.{blob_at_is, number_at_is}
use Rattle.capnp_calls_in_place.proofs.SplicedStructs.{struct_is}
use Rattle.capnp_calls_in_place.proofs.SplicedLists.{list_is}

-- ---- on the way

struct_behind : (puts : ℕ → ℕ → Cell → Cell → Type 0) (f : Option ℕ → Option ℕ → Body → Edit) (n : List ℕ) (g : Shape) → IsEditOf (words_of_shape g) puts (edit_named f n (union_in g) (fields_in g)) → IsChangeOf (InStruct puts) (edit_struct f n g)
struct_behind puts f n (shape nid w p u fs) is = struct_is w puts (edit_named f n u fs) is p

-- The edit of the cell of a struct, or of a group in it, by a path.
abbrev edit_way : Schema → Verb → Shape → List Step → Edit
edit_way s verb g [] c = c
edit_way s verb g (name n ∷ rest) c = edit_named (edit_field s rest verb) n (union_in g) (fields_in g) c
edit_way s verb g (index k ∷ rest) c = c

named_is : (limit : ℕ) (s : Schema) (verb : Verb) (g : Shape) (n : List ℕ) (rest : List Step) (member : Option ℕ) (body : Body) (puts : ℕ → ℕ → Cell → Cell → Type 0) → target_of n (fields_in g) ≡ target member body
    → IsEditOf limit puts (edit_field s rest verb (union_in g) member body) → IsEditOf limit puts (edit_way s verb g (name n ∷ rest))
named_is limit s verb g n rest member body puts found h =
    edits_alike limit puts (edit_field s rest verb (union_in g) member body) (edit_way s verb g (name n ∷ rest)) (λ c. sym (ap (λ (t : Target). edit_target (edit_field s rest verb) (union_in g) t c) found)) h

-- The edit of an element by a path that begins with a name.
element_is : (limit : ℕ) (s : Schema) (verb : Verb) (id : ℕ) (n : List ℕ) (rest : List Step) (puts : ℕ → ℕ → Cell → Cell → Type 0) → IsEditOf limit puts (edit_way s verb (s.shape_of id) (name n ∷ rest))
    → (w p : ℕ) → IsEditOf limit puts (edit_element s (name n ∷ rest) verb (struct id) w p)
unfolding edit_element
element_is limit s verb id n rest puts h w p = by (s.shape_of id) h
  where
    by : (g : Shape) → IsEditOf limit puts (edit_way s verb g (name n ∷ rest)) → IsEditOf limit puts (λ c. elim g [ shape nid a b u fs ↦ edit_named (edit_field s rest verb) n u fs c ])
    by (shape nid a b u fs) k = k

module _ (s : Schema) (v : CallValue) (put : Put) where
  abbrev verb : Verb
  verb = set_to v

  -- Such a path begins with a name.
  pub begins : (way : List Hop) (g : Shape) (path : List Step) → PathLeadsTo s v put way g path → (n : List ℕ) × (rest : List Step) × (path ≡ name n ∷ rest)
  begins [] g path h = (h.0, steps_to put, h.3)
  begins (hop ∷ way) g path h = (h.0, h.1, h.5)

  -- What is put behind hops is what the edit of a path does, from a struct or a group that gets no wider than a limit.
  abbrev PutsAlong : ℕ → List Hop → Shape → List Step → Type 0
  PutsAlong limit way g path = IsEditOf limit (PutsBehind put way) (edit_way s verb g path)

  -- At the end: a field that is no member of a union.
  alone_is : (limit q : ℕ) (union member : Option ℕ) (body : Body) → member ≡ None → IsPutOf put body v → AllInside limit q (areas_of_body body) → IsEditOf limit (PutsIntoCell put) (edit_field s [] verb union member body)
  unfolding edit_field
  alone_is limit q union member body alone h inside =
      let none : IsEditOf limit (PutsIntoCell put) (edit_field s [] verb union None body) =
      edits_alike limit (PutsIntoCell put) (put_field s verb body) (edit_field s [] verb union None body) (λ c. sym (ap (put_field s verb body) (unmarked union c))) (put_is s v limit q put body h inside) in
      subst (λ (m : Option ℕ). IsEditOf limit (PutsIntoCell put) (edit_field s [] verb union m body)) (sym alone) none

  through_struct : (limit : ℕ) (way : List Hop) (i id : ℕ) (d : Option Tree) (n : List ℕ) (rest : List Step) (union : Option ℕ) → PutsAlong (words_of_shape (s.shape_of id)) way (s.shape_of id) (name n ∷ rest)
      → IsEditOf limit (PutsBehind put (hops.Pointer i ∷ way)) (edit_field s (name n ∷ rest) verb union None (pointer_slot i (struct id) d))
  unfolding edit_field
  through_struct limit way i id d n rest union h =
      let f : Tree → Tree = edit_struct (edit_field s rest verb) n (s.shape_of id) in
      child_is limit (InStruct (PutsBehind put way)) (λ t. f (opened_tree (struct id) (default_or_null d) t)) i
      (opened_is (InStruct (PutsBehind put way)) f (struct id) (default_or_null d) (struct_behind (PutsBehind put way) (edit_field s rest verb) n (s.shape_of id) h))

  through_element : (limit : ℕ) (way : List Hop) (i k id : ℕ) (d : Option Tree) (n : List ℕ) (rest : List Step) (union : Option ℕ) → PutsAlong (words_of_shape (s.shape_of id)) way (s.shape_of id) (name n ∷ rest)
      → IsEditOf limit (PutsBehind put (hops.Element i k ∷ way)) (edit_field s (index k ∷ name n ∷ rest) verb union None (pointer_slot i (list (struct id)) d))
  unfolding edit_field
  through_element limit way i k id d n rest union h =
      let most : ℕ = words_of_shape (s.shape_of id) in
      let e : ℕ → ℕ → Edit = edit_element s (name n ∷ rest) verb (struct id) in
      let f : Tree → Tree = λ t. edit_list e k (as_list s (struct id) t) in
      child_is limit (InList (PutsBehind put way) k) (λ t. f (opened_tree (list (struct id)) (default_or_null d) t)) i
      (opened_is (InList (PutsBehind put way) k) f (list (struct id)) (default_or_null d) (list_is most (PutsBehind put way) e (element_is most s verb id n rest (PutsBehind put way) h) k (s.shape_of id)))

  -- A group's fields lie in the same cell.
  through_group : (limit : ℕ) (way : List Hop) (g : Shape) (n : List ℕ) (rest : List Step) (union : Option ℕ) → PutsAlong limit way g (name n ∷ rest) → IsEditOf limit (PutsBehind put (hops.Group ∷ way)) (edit_field s (name n ∷ rest) verb union None (group_slot g))
  unfolding edit_field
  through_group limit way (shape nid w p u fs) n rest union h = h

-- At the end: a member.
member_end : (limit q : ℕ) (s : Schema) (v : CallValue) (m : PlainSet) (p : Option PlainSet) (union member : Option ℕ) (body : Body) → MarksMember m union member → IsNumberOf p body v → AllInside limit q (union_area union) → AllInside limit q (areas_of_body body)
    → IsEditOf limit (PutsIntoCell (puts.Member m p)) (edit_field s [] (set_to v) union member body)
unfolding edit_field
member_end limit q s v m p union member body marks h places inside =
    edits_alike limit (PutsIntoCell (puts.Member m p)) (λ c. with_any p (with_number m c)) (edit_field s [] (set_to v) union member body)
    (λ c. any_put s v p body h (with_number m c) ∙ ap (put_field s (set_to v) body) (marked_is m union member marks c))
    (member_is limit m p (mark_below limit q m union member marks places) (any_below limit q p body v h inside))

-- At the end, whatever is put.
end_is : (limit q : ℕ) (s : Schema) (v : CallValue) (put : Put) (union member : Option ℕ) (body : Body) → IsPutAt put union member body v → AllInside limit q (union_area union) → AllInside limit q (areas_of_body body)
    → IsEditOf limit (PutsIntoCell put) (edit_field s (steps_to put) (set_to v) union member body)
end_is limit q s v (puts.Number p) union member body h places inside = alone_is s v (puts.Number p) limit q union member body h.0 h.1 inside
end_is limit q s v (puts.Blob j b) union member body h places inside = alone_is s v (puts.Blob j b) limit q union member body h.0 h.1 inside
end_is limit q s v (puts.Member m p) union member body h places inside = member_end limit q s v m p union member body h.0 h.1 places inside
end_is limit q s v (puts.BlobAt j k b) union member body h places inside =
    subst (λ (m : Option ℕ). IsEditOf limit (PutsIntoCell (puts.BlobAt j k b)) (edit_field s (index k ∷ []) (set_to v) union m body)) (sym h.0) (blob_at_is s v limit j k b union body h.1)
end_is limit q s v (puts.NumberAt j k p) union member body h places inside =
    subst (λ (m : Option ℕ). IsEditOf limit (PutsIntoCell (puts.NumberAt j k p)) (edit_field s (index k ∷ []) (set_to v) union m body)) (sym h.0) (number_at_is s v limit j k p union body h.1)

module _ (s : Schema) (v : CallValue) (put : Put) where
  -- What is known of a path from a struct or a group whose areas lie inside the words of a limit.
  abbrev IsAlong : List Hop → Shape → List Step → Type 0
  IsAlong way g path = (limit q : ℕ) → AllInside limit q (areas_of g) → PutsAlong s v put limit way g path

  module _ (within : (id : ℕ) → IsWithin (s.shape_of id)) where
    -- A struct behind a pointer.
    entered : (way : List Hop) (id : ℕ) (inner : Shape) (path : List Step) → inner ≡ s.shape_of id → IsAlong way inner path → PutsAlong s v put (words_of_shape (s.shape_of id)) way (s.shape_of id) path
    entered way id inner path is behind =
        let g : Shape = s.shape_of id in
        subst (λ (x : Shape). IsAlong way x path) is behind (words_of_shape g) (pointers_of_shape g) (shape_inside g (within id))

    -- The slot of a hop, where the change behind it is known.
    enters_is : (hop : Hop) (way : List Hop) (body : Body) (front : List Step) (inner : Shape) (n : List ℕ) (rest : List Step) (union : Option ℕ) → Enters s hop body front inner (name n ∷ rest) → IsAlong way inner (name n ∷ rest)
        → (limit q : ℕ) → AllInside limit q (areas_of_body body) → IsEditOf limit (PutsBehind put (hop ∷ way)) (edit_field s front (set_to v) union None body)
    enters_is (hops.Pointer i) way body front inner n rest union h behind limit q inside =
        let there = entered way h.0 inner (name n ∷ rest) h.4 behind in
        let whole : Body → List Step → Type 0 = λ b p. IsEditOf limit (PutsBehind put (hops.Pointer i ∷ way)) (edit_field s p (set_to v) union None b) in
        subst (λ (b : Body). whole b front) (sym h.2) (subst (whole (pointer_slot i (struct h.0) h.1)) (sym h.3) (through_struct s v put limit way i h.0 h.1 n rest union there))
    enters_is (hops.Element i k) way body front inner n rest union h behind limit q inside =
        let there = entered way h.0 inner (name n ∷ rest) h.4 behind in
        let whole : Body → List Step → Type 0 = λ b p. IsEditOf limit (PutsBehind put (hops.Element i k ∷ way)) (edit_field s p (set_to v) union None b) in
        subst (λ (b : Body). whole b front) (sym h.2) (subst (whole (pointer_slot i (list (struct h.0)) h.1)) (sym h.3) (through_element s v put limit way i k h.0 h.1 n rest union there))
    enters_is hops.Group way body front inner n rest union h behind limit q inside =
        let within_group : AllInside limit q (areas_of inner) = group_inside limit q inner (subst (λ (b : Body). AllInside limit q (areas_of_body b)) h.0 inside) in
        let whole : Body → List Step → Type 0 = λ b p. IsEditOf limit (PutsBehind put (hops.Group ∷ way)) (edit_field s p (set_to v) union None b) in
        subst (λ (b : Body). whole b front) (sym h.0) (subst (whole (group_slot inner)) (sym h.1) (through_group s v put limit way inner n rest union (behind limit q within_group)))

    -- A path from a struct or a group.
    path_is : (way : List Hop) (g : Shape) (path : List Step) → PathLeadsTo s v put way g path → IsAlong way g path
    path_is [] g path h limit q inside =
        subst (λ (way : List Step). PutsAlong s v put limit [] g way) (sym h.3)
        (named_is limit s (set_to v) g h.0 (steps_to put) h.1 h.2 (PutsBehind put []) h.4 (end_is limit q s v put (union_in g) h.1 h.2 h.5 (union_inside limit q g inside) (body_inside limit q g h.0 h.1 h.2 h.4 inside)))
    path_is (hop ∷ way) g path h limit q inside =
        let b = begins s v put way h.3 h.4 h.8 in
        let behind : IsAlong way h.3 (name b.0 ∷ b.1) = subst (λ (rest : List Step). IsAlong way h.3 rest) b.2 (path_is way h.3 h.4 h.8) in
        let into : Enters s hop h.2 h.1 h.3 (name b.0 ∷ b.1) = subst (λ (rest : List Step). Enters s hop h.2 h.1 h.3 rest) b.2 h.7 in
        subst (λ (p : List Step). PutsAlong s v put limit (hop ∷ way) g p) (sym h.5)
        (named_is limit s (set_to v) g h.0 h.1 None h.2 (PutsBehind put (hop ∷ way)) h.6 (enters_is hop way h.2 h.1 h.3 b.0 b.1 (union_in g) into behind limit q (body_inside limit q g h.0 None h.2 h.6 inside)))

    -- The edit of a root does what is put into the trimmed one.
    pub root_is : (way : List Hop) (id : ℕ) (n : List ℕ) (rest : List Step) → PathLeadsTo s v put way (s.shape_of id) (name n ∷ rest) → IsChangeOf (InStruct (PutsBehind put way)) (edit_struct (edit_field s rest (set_to v)) n (s.shape_of id))
    root_is way id n rest h =
        let g : Shape = s.shape_of id in
        struct_behind (PutsBehind put way) (edit_field s rest (set_to v)) n g (path_is way g (name n ∷ rest) h (words_of_shape g) (pointers_of_shape g) (shape_inside g (within id)))
