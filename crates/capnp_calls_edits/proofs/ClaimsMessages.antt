-- What is claimed where the value of a message is put: it can be read, so that memory alone is refused.
use Rattle.std.proofs.Common.{◌≡◌, inl, inr, ℕ, zero, suc, ◌+◌, ◌*◌, ◌^◌, ◌<◌, ◌≤◌, Bool, true, false, List, [], Option, Some, None, Result, Ok, Err, IfErr, refl, sym, ap, subst, ◌∙◌, arith}
use Rattle.std.specs.Prelude.{⊤, option_map}
use Rattle.capnp_model.specs.Kinds.{Kind}
use Rattle.capnp_model.specs.Coverage.{from_each}
use Rattle.capnp_model.specs.Segments.{Segments, Place, root, after}
use Rattle.capnp_model.specs.Trees.{Tree, null, capability, structure, plain_list, pointer_list, struct_list, Trees, none, ◌▸◌}
use Rattle.capnp_model.specs.Traversal.{tree_at, cost_at, each}
use Rattle.capnp_model.specs.Visits.{visits, visits_cost}
use Rattle.capnp_model.specs.Fits.{Fits}
use Rattle.capnp_model.specs.Schemas.{struct, Shape, group_slot, Schema}
use Rattle.capnp_model.specs.Readings.{Reading, fault, read, Record, record_by_shape, shape_record, body_of, read_child, whole_words}
use Rattle.capnp_model.specs.Calls.{set_to, message, message_root}
use Rattle.capnp_model.specs.Groups.{group_fault, body_fault}
use Rattle.capnp_model.specs.Steps.{at_field, copied_or_refused, set_group_from}
use Rattle.capnp_model.specs.Edits.{Cell}
use Rattle.capnp_model.proofs.lemmas.Chaining.{bind_some, bind_ok, ok_is}
use Rattle.capnp_model.proofs.lemmas.ReadFits.{tree_at_fits}
use Rattle.capnp_model.proofs.lemmas.Tests.{same_some}
use Rattle.capnp_model.proofs.lemmas.Visits.{values_tell, cost_together}
use Rattle.capnp_units.specs.Errors.{kind_of}
use Rattle.capnp_units.specs.Limits.{left_of, IsPassed}
use Rattle.capnp_units.specs.declared.errors.Error.{Error}
use Rattle.capnp_units.specs.declared.limiter.ReadLimiter.{ReadLimiter}
use Rattle.capnp_wire_objects.specs.declared.object.Found.{Found}
use Rattle.capnp_wire_objects.specs.declared.object.Object.{Object}
use Rattle.capnp_wire_objects.specs.declared.object.Object.TheVariants as object
use Rattle.capnp_wire_objects.proofs.lemmas.Walks.{unstopped}
use Rattle.capnp_wire.specs.Levels.{level_below}
use Rattle.capnp_wire.specs.Views.{Ground, StructView, PointerView}
use Rattle.capnp_wire.specs.Reads.{read_struct, object_behind, found_behind, is_charged, IsTooDear, GetGives}
use Rattle.capnp_wire.specs.Laws.{ShowsStruct, IsRead, StructsAreRead}
use Rattle.capnp_copy_values.specs.Copies.{IsStoppedOr}
use Rattle.capnp_copy_values.specs.Defaults.{default_segments}
use Rattle.capnp_values_queries.specs.Fields.{Entry}
use Rattle.capnp_values_queries.specs.Structs.{schema_around}
use Rattle.capnp_values_queries.specs.Handles.{entry_of_field}
use Rattle.capnp_values_queries.specs.declared.fields.Field.{Field}
use Rattle.capnp_schema_structs.specs.GroupRefusals.{CopyRefused}
use Rattle.capnp_schema_structs.specs.GroupWrites.{in_words}
use Rattle.capnp_schema_structs.specs.GroupFaults.{StandsAt, is_member, IsFaultless, IsFieldFaultless}
use Rattle.capnp_calls.specs.Sizes.{IsDone}
use Rattle.capnp_calls_edits.specs.Written.{IsDoneAt}
use Rattle.capnp_calls_edits.specs.Elements.{IsOfStruct}
use Rattle.capnp_calls_edits.proofs.GroupRoots.{basis_is}
use Rattle.capnp_calls_edits.proofs.ClaimsEnds.{at_end}
use Rattle.capnp_calls_edits.proofs.Lifting.{cell}
use Rattle.capnp_calls_edits.proofs.ThereObjects.{object_there}

-- ---- copies

-- the copy of a root that words hold is refused for memory alone
pub root_told : (told : Error → Type 0) (ws : List (List ℕ)) (t : Tree) (u : Segments) (r : Result ⊤ Error) → tree_at 64 (default_segments ws) root ≡ Some t → IfErr r (CopyRefused told 64 (default_segments ws) root u) → IfErr r told
root_told told ws t u (Ok x) holds h = tt
root_told told ws t u (Err e) holds h =
    let from = default_segments ws in
    elim h.why [ inl x ↦ absurd (unstopped (visits 64 from root) (cost_at 64 from root) h.old h.new e (values_tell 64 from root t holds).0 h.unlimited x) | inr x ↦ x.1 ]

row_costs : (n : ℕ) (s : Segments) (p : Place) (k : ℕ) (ts : Trees) → each (tree_at n s) p k ≡ Some ts → (cost : ℕ) × (visits_cost (from_each (visits n s) p k) ≡ Some cost)
row_costs n s p zero ts e = (0, refl)
row_costs n s p (suc k) ts e =
    let a = bind_some (tree_at n s p) _ ts e in
    let b = bind_some (each (tree_at n s) (after p 1) k) _ ts a.2 in
    let rest = row_costs n s (after p 1) k b.0 b.1 in
    (cost_at n s p + rest.0, cost_together (visits n s p) (from_each (visits n s) (after p 1) k) (cost_at n s p) rest.0 (values_tell n s p a.0 a.1).0 rest.1)

front_of : (f : Place → Option Tree) (p : Place) (k j : ℕ) (ts : Trees) → j ≤ k → each f p k ≡ Some ts → (us : Trees) × (each f p j ≡ Some us)
front_of f p k zero ts l e = (none, refl)
front_of f p zero (suc j) ts l e = absurd (omega (arith, l))
front_of f p (suc k) (suc j) ts l e =
    let a = bind_some (f p) _ ts e in
    let b = bind_some (each f (after p 1) k) _ ts a.2 in
    let rest = front_of f (after p 1) k j b.0 (omega (arith, l)) b.1 in
    (_, row_there f p j a.0 rest.0 a.1 rest.1)
  where
    row_there : (f : Place → Option Tree) (p : Place) (j : ℕ) (t : Tree) (us : Trees) → f p ≡ Some t → each f (after p 1) j ≡ Some us → each f p (suc j) ≡ Some (t ▸ us)
    row_there f p j t us x y = rw (x, y) refl

-- copies of children that can be read are refused for memory alone
pub row_told : (n : ℕ) (s : Segments) (p : Place) (k j : ℕ) (ts : Trees) → each (tree_at n s) p k ≡ Some ts → j ≤ k → (old new : ReadLimiter) (told : Error → Type 0) (r : Result ⊤ Error) → left_of old ≡ None → IsStoppedOr (from_each (visits n s) p j) old new told r → IfErr r told
row_told n s p k j ts e l old new told (Ok x) free h = tt
row_told n s p k j ts e l old new told (Err x) free h =
    let front = front_of (tree_at n s) p k j ts l e in
    let cost = row_costs n s p j front.0 front.1 in
    elim h [ inl stop ↦ absurd (unstopped (from_each (visits n s) p j) cost.0 old new x cost.1 free stop) | inr y ↦ y ]

pub no_row_told : (n : ℕ) (s : Segments) (p : Place) (j : ℕ) → j ≡ 0 → (old new : ReadLimiter) (told : Error → Type 0) (r : Result ⊤ Error) → left_of old ≡ None → IsStoppedOr (from_each (visits n s) p j) old new told r → IfErr r told
no_row_told n s p j none_there old new told r free h = row_told n s p 0 j none refl (omega (arith, none_there)) old new told r free h

-- ---- the struct of a root

-- the data and the children of a root that is read, null among them
pub record RootStands (v : StructView) (t : Tree) : Type 0 where
  pub from : Cell
  pub words : ℕ
  pub root_is : message_root t ≡ structure words from.section from.kids
  pub stands : StandsAt v (in_words from)

stands_of : (v : StructView) (l : ℕ) → v.levels ≡ Some l → 63 ≤ l → (t : Tree) → Fits t → ShowsStruct (tree_at 63 v.basis.segments) v t → RootStands v t
stands_of v l levels enough null fits h = record {
  from = cell 0 none;
  words = 0;
  root_is = refl;
  stands = (63, record { extent = (0, h.1, subst (λ x. x < 2 ^ (64 * 0)) (sym h.0) (omega arith)); same = h.0; children = λ i. record { left = l; levels = levels; enough = enough; tree = h.2 i } });
}
stands_of v l levels enough (capability i) fits h = absurd h
stands_of v l levels enough (structure w section kids) fits h = record {
  from = cell section kids;
  words = w;
  root_is = refl;
  stands = (63, record { extent = (w, h.1, subst (λ x. x < 2 ^ (64 * w)) (sym h.0) fits.2); same = h.0; children = λ i. record { left = l; levels = levels; enough = enough; tree = h.2 i } });
}
stands_of v l levels enough (plain_list size n x) fits h = absurd h
stands_of v l levels enough (pointer_list ts) fits h = absurd h
stands_of v l levels enough (struct_list w p es) fits h = absurd h

-- the levels of a struct that is read
levels_of : (g : Ground) (l : ℕ) (o : Object) (v : StructView) → read_struct g (Some (suc l)) o ≡ Ok v → level_below (Some (suc l)) ≡ Ok (Some l) → (m : ℕ) × (v.levels ≡ Some m) × (l ≤ m)
levels_of g l object.Null v h below = (suc l, ap (λ (x : StructView). x.levels) (sym (ok_is _ v h)), omega arith)
levels_of g l (object.Struct p d k) v h below =
    let a = bind_ok (level_below (Some (suc l))) _ v h in
    let same : a.0 ≡ Some l = ok_is _ _ (sym a.1 ∙ below) in
    (l, ap (λ (x : StructView). x.levels) (sym (ok_is _ v a.2)) ∙ same, omega arith)
levels_of g l (object.List p size n) v h below = absurd cc
levels_of g l (object.PointerList p n) v h below = absurd cc
levels_of g l (object.StructList p words n d k) v h below = absurd cc
levels_of g l (object.Capability i) v h below = absurd cc

no_fault : (s : Schema) (t : Tree) (id : ℕ) (k : Kind) → IsOfStruct t → read s t (struct id) ≡ fault k → ⊥
unfolding read
no_fault s null id k is h = cc h
no_fault s (capability i) id k is h = is
no_fault s (structure w x ts) id k is h = cc h
no_fault s (plain_list size n x) id k is h = is
no_fault s (pointer_list ts) id k is h = is
no_fault s (struct_list w p es) id k is h = is

too_dear : (b : Bool) (old : ReadLimiter) (words : ℕ) → left_of old ≡ None → IsTooDear b old words → ⊥
too_dear true old words free h = subst (λ o. IsPassed o words) free h
too_dear false old words free h = h

module _ (law : StructsAreRead) (p : PointerView) (s : Segments) (l : ℕ) (place : p.place ≡ Some root) (segs : p.basis.segments ≡ s) (levels : p.levels ≡ Some (suc l)) (below : level_below (Some (suc l)) ≡ Ok (Some l)) (t : Tree) (tree : tree_at 64 s root ≡ Some t) where
  tree_here : tree_at 64 p.basis.segments root ≡ Some t
  tree_here = subst (λ x. tree_at 64 x root ≡ Some t) (sym segs) tree

  is_read : (f : Found) → object_behind p ≡ Ok f → IsRead 63 root f t p.basis p.levels
  is_read f found = record { found = ap (found_behind p.basis.segments) (sym place) ∙ found; tree = tree_here; below = Some l; level = ap level_below levels ∙ below }

  -- it isn't refused
  pub root_got : (sch : Schema) → IsOfStruct t → (old new : ReadLimiter) (e : Error) → left_of old ≡ None → GetGives (λ (x : StructView). x) (read_struct p.basis p.levels) p old (Err e) new → ⊥
  root_got sch is old new e free (inl a) =
      let x = object_there 63 p.basis.segments root t tree_here in
      let no = sym a.0 ∙ (ap (found_behind p.basis.segments) place ∙ x.1) in
      cc no
  root_got sch is old new e free (inr (inl b)) = too_dear (is_charged p) old _ free b.3
  root_got sch is old new e free (inr (inr c)) = no_fault sch t 0 (kind_of e.kind) is ((law 63 root c.0 t p.basis p.levels (is_read c.0 c.1)).1 (kind_of e.kind) sch 0 c.3)

  pub root_stands : 63 ≤ l → (f : Found) → object_behind p ≡ Ok f → (v : StructView) → read_struct p.basis p.levels f.object ≡ Ok v → RootStands v t
  root_stands enough f found v read =
      let shows : ShowsStruct (tree_at 63 p.basis.segments) v t = (law 63 root f t p.basis p.levels (is_read f found)).0 v read in
      let m = levels_of p.basis l f.object v (subst (λ x. read_struct p.basis x f.object ≡ Ok v) levels read) below in
      let le = m.2 in
      stands_of v m.0 m.1 (omega (arith, enough, le)) t (tree_at_fits 64 p.basis.segments root t tree_here) (subst (λ (x : Ground). ShowsStruct (tree_at 63 x.segments) v t) (sym (basis_is p.basis p.levels f.object v read)) shows)

-- ---- a group

module _ (s : Schema) (g : Shape) where
  group_struct : (t : Tree) (x : Reading) → IsDone (at_field s (set_to (message t)) (group_slot g) x) → IsOfStruct t
  group_struct null x h = tt
  group_struct (capability i) x h = absurd h
  group_struct (structure w y ts) x h = tt
  group_struct (plain_list size n y) x h = absurd h
  group_struct (pointer_list ts) x h = absurd h
  group_struct (struct_list w p es) x h = absurd h

  none_of : (r : Record) (o : Option Kind) → IsDone (copied_or_refused s g r o) → o ≡ None
  none_of r None h = refl
  none_of r (Some k) h = absurd h

  group_faultless : (t : Tree) (words : ℕ) (from : Cell) → message_root t ≡ structure words from.section from.kids → (x : Reading) → IsDone (at_field s (set_to (message t)) (group_slot g) x) → group_fault g (shape_record g whole_words from.section (read_child s from.kids)) ≡ None
  unfolding record_by_shape
  group_faultless t words from is x h =
      let r : Record = shape_record g whole_words from.section (read_child s from.kids) in
      none_of r (group_fault g r) (subst (λ y. IsDone (set_group_from s g y)) is h)

module _ (f : Field) (g : Shape) (body : option_map (λ e. e.body) (entry_of_field f) ≡ Some (group_slot g)) (t : Tree) (c : Cell) where
  abbrev s : Schema
  s = schema_around f.parent

  done_at : IsDoneAt f [] (set_to (message t)) (entry_of_field f) c → (e : Entry) × (entry_of_field f ≡ Some e) × (e.body ≡ group_slot g) × (x : Reading) × IsDone (at_field s (set_to (message t)) (group_slot g) x)
  done_at h = by (entry_of_field f) refl body h
    where
      by : (o : Option Entry) → entry_of_field f ≡ o → option_map (λ e. e.body) o ≡ Some (group_slot g) → IsDoneAt f [] (set_to (message t)) o c → (e : Entry) × (entry_of_field f ≡ Some e) × (e.body ≡ group_slot g) × (x : Reading) × IsDone (at_field s (set_to (message t)) (group_slot g) x)
      by None e b h = absurd (cc b)
      by (Some e) is b h =
          let same = same_some b in
          let y = at_end f (set_to (message t)) e c h in
          (e, is, same, y.0, subst (λ z. IsDone (at_field s (set_to (message t)) z y.0)) same y.1)

  pub field_struct : IsDoneAt f [] (set_to (message t)) (entry_of_field f) c → IsOfStruct t
  field_struct h = let x = done_at h in group_struct s g t x.3 x.4

  pub field_faultless : (words : ℕ) (from : Cell) → message_root t ≡ structure words from.section from.kids → IsDoneAt f [] (set_to (message t)) (entry_of_field f) c → IsFieldFaultless f (in_words from)
  unfolding body_of group_fault
  field_faultless words from is h =
      let x = done_at h in
      let none = group_faultless s g t words from is x.3 x.4 in
      let here : IsFaultless s (Some x.0) (in_words from) = subst (λ b. body_fault (is_member x.0.member) b (body_of b whole_words from.section (read_child s from.kids)) ≡ None) (sym x.2) none in
      subst (λ o. IsFaultless s o (in_words from)) (sym x.1) here
