-- Paths that go by hops, step by step.
use Rattle.std.proofs.Common.{◌≡◌, ℕ, Bool, true, false, Option, Some, None, List, [], ◌∷◌, ◌++◌, ◌⊎◌, inl, inr, refl, ap, sym, subst, ◌∙◌, append_assoc, append-nil}
use Rattle.std.specs.Prelude.{IfSome}
use Rattle.capnp_model.specs.Trees.{Tree}
use Rattle.capnp_model.specs.Schemas.{Ty, void, plain, text, blob, untyped, interface, struct, list, Shape, Body, void_slot, plain_slot, pointer_slot, group_slot, Schema}
use Rattle.capnp_model.specs.Printing.{fields_in}
use Rattle.capnp_model.specs.Calls.{Step, name, index, CallValue, Verb, get, set_to, init, initn, clear, Call}
use Rattle.capnp_model.specs.InKindCalls.{PathEnd, at_slot, at_value, nowhere, end_at, step_into, next_end}
use Rattle.capnp_model.specs.Steps.{Target, no_target, target, target_of}
use Rattle.capnp_values_queries.specs.Fields.{union_in}
use Rattle.capnp_values_queries.specs.Structs.{schema_around, shape_of_struct}
use Rattle.capnp_values_queries.specs.declared.structs.StructSchema.{StructSchema}
use Rattle.capnp_calls_splice.specs.declared.plain.PlainSet.{PlainSet}
use Rattle.capnp_calls_splice.specs.declared.splice.Hop.{Hop}
use Rattle.capnp_calls_splice.specs.declared.splice.Hop.TheVariants as hops
use Rattle.capnp_calls_splice.specs.declared.splice.Put.{Put}
use Rattle.capnp_calls_splice.specs.declared.splice.Put.TheVariants as puts
use Rattle.capnp_calls_splice.specs.declared.splice.Splice.{Splice}
use Rattle.capnp_calls.specs.Splices.{IsPutOf, IsPutAt, steps_to, Enters, PathLeadsTo}
use Rattle.capnp_calls.specs.Hops.{IsAlone, FindsAlone, StepsAlone, HopsFrom, GoesOn, goes_straight, hops_made, onward_if, MarksTarget, MarksInto, MarksStep, IsElementOf, SetsAt, SetsMemberAt, SetsElementAt, SetsEnd, LeadsToEnd, LeadsToMember, LeadsToElement}
use Rattle.capnp_calls.specs.Resolved.{IsSpliceOf}
use Rattle.capnp_calls.specs.declared.splices.Course.{Course}
use Rattle.capnp_calls.specs.declared.splices.ListPlace.{ListPlace}
use Rattle.capnp_calls.specs.declared.splices.Onward.{Onward}
use Rattle.capnp_calls.specs.declared.splices.Onward.TheVariants as ways

-- The rest of a path leads on from a slot that is no member of a union, to what is put there or behind it.
abbrev LeadsFromSlot : Schema → CallValue → Put → List Hop → Body → List Step → Type 0
LeadsFromSlot s v put [] body path = (path ≡ steps_to put) × IsPutAt put None None body v
LeadsFromSlot s v put (hop ∷ way) body path = (inner : Shape) × (rest : List Step) × Enters s hop body path inner rest × PathLeadsTo s v put way inner rest

-- It leads on from a value of a type.
abbrev LeadsFromType : Schema → CallValue → Put → List Hop → Ty → List Step → Type 0
LeadsFromType s v put way (struct id) path = PathLeadsTo s v put way (s.shape_of id) path
LeadsFromType s v put way _ path = ⊥

-- It leads on from where a path stands.
abbrev LeadsFrom : Schema → CallValue → Put → List Hop → PathEnd → List Step → Type 0
LeadsFrom s v put way (at_slot body) path = LeadsFromSlot s v put way body path
LeadsFrom s v put way (at_value ty) path = LeadsFromType s v put way ty path
LeadsFrom s v put way nowhere path = ⊥

-- What sets a field that is no member sets it in any struct.
at_plain : (put : Put) (union : Option ℕ) (body : Body) (v : CallValue) → IsPutAt put None None body v → IsPutAt put union None body v
at_plain (puts.Number p) union body v h = h
at_plain (puts.Blob j b) union body v h = h
at_plain (puts.Member m p) union body v h = absurd h.0
at_plain (puts.BlobAt j k b) union body v h = h
at_plain (puts.NumberAt j k p) union body v h = h

-- What sets a slot sets such a field, with no step behind its name.
at_slot_put : (put : Put) (body : Body) (v : CallValue) → IsPutOf put body v → ([] ≡ steps_to put) × IsPutAt put None None body v
at_slot_put (puts.Number p) body v h = (refl, (refl, h))
at_slot_put (puts.Blob j b) body v h = (refl, (refl, h))
at_slot_put (puts.Member m p) body v h = absurd h
at_slot_put (puts.BlobAt j k b) body v h = absurd h
at_slot_put (puts.NumberAt j k p) body v h = absurd h

-- What sets an element of a list sets the slot of the list, with one step behind its name.
at_element_put : (put : Put) (place : ListPlace) (ty : Ty) (d : Option Tree) (v : CallValue) → IsElementOf put place ty v → (index place.index ∷ [] ≡ steps_to put) × IsPutAt put None None (pointer_slot place.pointer (list ty) d) v
at_element_put (puts.Number p) place ty d v h = absurd h
at_element_put (puts.Blob j b) place ty d v h = absurd h
at_element_put (puts.Member m p) place ty d v h = absurd h
at_element_put (puts.BlobAt j k b) place ty d v h = (ap (λ n. index n ∷ []) (sym h.1), (refl, (ty, d, ap (λ n. pointer_slot n (list ty) d) (sym h.0), h.2)))
at_element_put (puts.NumberAt j k p) place ty d v h = (ap (λ n. index n ∷ []) (sym h.2), (refl, (h.0, d, ap (λ n. pointer_slot n (list ty) d) (sym h.1) ∙ ap (λ t. pointer_slot j (list t) d) h.3, h.4)))

-- ---- a step

module _ (s : Schema) (v : CallValue) (put : Put) (way : List Hop) (rest : List Step) where
  -- What a name finds leads on: a field that is no member by the rest of the path, a member at its end.
  abbrev Through : Option ℕ → Target → Type 0
  Through union no_target = ⊥
  Through union (target member body) = ((member ≡ None) × LeadsFromSlot s v put way body rest) ⊎ ((way ≡ []) × (rest ≡ steps_to put) × IsPutAt put union member body v)

  -- So does what a step finds in a value of a type, or from where a path stands.
  abbrev OnType : Step → Ty → Type 0
  OnType (name n) (struct id) = Through (union_in (s.shape_of id)) (target_of n (fields_in (s.shape_of id)))
  OnType (index k) (list ty) = LeadsFromType s v put way ty rest
  OnType _ _ = ⊥

  abbrev OnGroup : Step → Shape → Type 0
  OnGroup (name n) g = Through (union_in g) (target_of n (fields_in g))
  OnGroup (index k) g = ⊥

  abbrev pub OnStep : Step → PathEnd → Type 0
  OnStep st (at_slot (pointer_slot i ty d)) = OnType st ty
  OnStep st (at_slot (group_slot g)) = OnGroup st g
  OnStep st (at_slot _) = ⊥
  OnStep st (at_value ty) = OnType st ty
  OnStep st nowhere = ⊥

  alone_through : (g : Shape) (n : List ℕ) (body : Body) (hs : List Hop) → target_of n (fields_in g) ≡ target None body → LeadsFromSlot s v put hs body rest → PathLeadsTo s v put hs g (name n ∷ rest)
  alone_through g n body [] found h = (n, None, body, ap (λ (xs : List Step). name n ∷ xs) h.0, found, at_plain put (union_in g) body v h.1)
  alone_through g n body (hop ∷ hs) found h = (n, rest, body, h.0, h.1, refl, found, h.2, h.3)

  through : (g : Shape) (n : List ℕ) (t : Target) → target_of n (fields_in g) ≡ t → Through (union_in g) t → PathLeadsTo s v put way g (name n ∷ rest)
  through g n no_target is h = absurd h
  through g n (target member body) is (inl h) = alone_through g n body way (is ∙ ap (λ (m : Option ℕ). target m body) h.0) h.1
  through g n (target member body) is (inr h) =
      subst (λ (hs : List Hop). PathLeadsTo s v put hs g (name n ∷ rest)) (sym h.0) (n, member, body, ap (λ (xs : List Step). name n ∷ xs) h.1, is, h.2)

  named : (g : Shape) (n : List ℕ) → Through (union_in g) (target_of n (fields_in g)) → PathLeadsTo s v put way g (name n ∷ rest)
  named g n h = through g n (target_of n (fields_in g)) refl h

  from_type : (ty : Ty) (n : List ℕ) → OnType (name n) ty → LeadsFromType s v put way ty (name n ∷ rest)
  from_type void n h = absurd h
  from_type (plain q) n h = absurd h
  from_type text n h = absurd h
  from_type blob n h = absurd h
  from_type untyped n h = absurd h
  from_type interface n h = absurd h
  from_type (struct id) n h = named (s.shape_of id) n h
  from_type (list ty) n h = absurd h

  -- The hop and what follows it.
  abbrev Behind : Hop → ℕ → Option Tree → Ty → Step → Type 0
  Behind hop i d ty st = OnType st ty → LeadsFromSlot s v put (hop ∷ way) (pointer_slot i ty d) (st ∷ rest)

  behind : (hop : Hop) (i : ℕ) (d : Option Tree) (ty : Ty) (st : Step) → HopsFrom hop i ty st → Behind hop i d ty st
  behind (hops.Pointer j) i d ty st h =
      let id = h.0 in
      let n = h.1 in
      let here : Behind (hops.Pointer j) i d (struct id) (name n) = λ on. (s.shape_of id, name n ∷ rest, (id, d, ap (λ k. pointer_slot k (struct id) d) (sym h.2), refl, refl), named (s.shape_of id) n on) in
      subst (λ (t : Ty). Behind (hops.Pointer j) i d t st) (sym h.3) (subst (λ (x : Step). Behind (hops.Pointer j) i d (struct id) x) (sym h.4) here)
  behind (hops.Element j k) i d ty st h =
      let id = h.0 in
      let here : Behind (hops.Element j k) i d (list (struct id)) (index k) = λ on. (s.shape_of id, rest, (id, d, ap (λ m. pointer_slot m (list (struct id)) d) (sym h.1), refl, refl), on) in
      subst (λ (t : Ty). Behind (hops.Element j k) i d t st) (sym h.2) (subst (λ (x : Step). Behind (hops.Element j k) i d (list (struct id)) x) (sym h.3) here)
  behind hops.Group i d ty st h = absurd h

  into_group : (hop : Hop) (g : Shape) (st : Step) → GoesOn (ways.Behind hop) (at_slot (group_slot g)) st → OnGroup st g → LeadsFromSlot s v put (hop ∷ way) (group_slot g) (st ∷ rest)
  into_group (hops.Pointer j) g st h on = absurd h
  into_group (hops.Element j k) g st h on = absurd h
  into_group hops.Group g (name n) h on = (g, name n ∷ rest, (refl, refl), named g n on)
  into_group hops.Group g (index k) h on = absurd h

  -- A step by which a path goes on.
  pub goes : (o : Onward) (at : PathEnd) (st : Step) → GoesOn o at st → goes_straight o ≡ true → OnStep st at → LeadsFrom s v put (hops_made o ++ way) at (st ∷ rest)
  goes ways.Here (at_slot (void_slot j)) st h on leads = absurd h
  goes ways.Here (at_slot (plain_slot q at d)) st h on leads = absurd h
  goes ways.Here (at_slot (pointer_slot i ty d)) st h on leads = absurd h
  goes ways.Here (at_slot (group_slot g)) st h on leads = absurd h
  goes ways.Here (at_value ty) (name n) h on leads = from_type ty n leads
  goes ways.Here (at_value ty) (index k) h on leads = absurd h
  goes ways.Here nowhere st h on leads = absurd h
  goes (ways.Behind hop) (at_slot (void_slot j)) st h on leads = absurd h
  goes (ways.Behind hop) (at_slot (plain_slot q at d)) st h on leads = absurd h
  goes (ways.Behind hop) (at_slot (pointer_slot i ty d)) st h on leads = behind hop i d ty st h leads
  goes (ways.Behind hop) (at_slot (group_slot g)) st h on leads = into_group hop g st h leads
  goes (ways.Behind hop) (at_value ty) st h on leads = absurd h
  goes (ways.Behind hop) nowhere st h on leads = absurd h
  goes (ways.Into place) at st h on leads = absurd (cc on)
  goes ways.Astray at st h on leads = absurd (cc on)

  -- ---- to a field that is no member

  found_alone : (union : Option ℕ) (t : Target) → IsAlone t → LeadsFrom s v put way (end_at t) rest → Through union t
  found_alone union no_target alone h = absurd h
  found_alone union (target None body) alone h = inl (refl, h)
  found_alone union (target (Some d) body) alone h = absurd alone

  into_alone : (ty : Ty) (st : Step) → FindsAlone s st ty → LeadsFrom s v put way (step_into s st ty) rest → OnType st ty
  into_alone void (name n) alone h = absurd h
  into_alone (plain q) (name n) alone h = absurd h
  into_alone text (name n) alone h = absurd h
  into_alone blob (name n) alone h = absurd h
  into_alone untyped (name n) alone h = absurd h
  into_alone interface (name n) alone h = absurd h
  into_alone (struct id) (name n) alone h = found_alone (union_in (s.shape_of id)) (target_of n (fields_in (s.shape_of id))) alone h
  into_alone (list ty) (name n) alone h = absurd h
  into_alone void (index k) alone h = absurd h
  into_alone (plain q) (index k) alone h = absurd h
  into_alone text (index k) alone h = absurd h
  into_alone blob (index k) alone h = absurd h
  into_alone untyped (index k) alone h = absurd h
  into_alone interface (index k) alone h = absurd h
  into_alone (struct id) (index k) alone h = absurd h
  into_alone (list ty) (index k) alone h = h

  pub step_alone : (at : PathEnd) (st : Step) → StepsAlone s st at → LeadsFrom s v put way (next_end s st at) rest → OnStep st at
  step_alone (at_slot (void_slot j)) (name n) alone h = absurd h
  step_alone (at_slot (void_slot j)) (index k) alone h = absurd h
  step_alone (at_slot (plain_slot q at d)) (name n) alone h = absurd h
  step_alone (at_slot (plain_slot q at d)) (index k) alone h = absurd h
  step_alone (at_slot (pointer_slot i ty d)) (name n) alone h = into_alone ty (name n) alone h
  step_alone (at_slot (pointer_slot i ty d)) (index k) alone h = into_alone ty (index k) alone h
  step_alone (at_slot (group_slot g)) (name n) alone h = found_alone (union_in g) (target_of n (fields_in g)) alone h
  step_alone (at_slot (group_slot g)) (index k) alone h = absurd h
  step_alone (at_value ty) (name n) alone h = into_alone ty (name n) alone h
  step_alone (at_value ty) (index k) alone h = into_alone ty (index k) alone h
  step_alone nowhere (name n) alone h = absurd h
  step_alone nowhere (index k) alone h = absurd h

-- ---- to a member

module _ (s : Schema) (v : CallValue) (m : PlainSet) (p : Option PlainSet) where
  found_member : (union : Option ℕ) (t : Target) → MarksTarget m union t → SetsMemberAt p (end_at t) (set_to v) → Through s v (puts.Member m p) [] [] union t
  found_member union no_target marks h = absurd marks
  found_member union (target member body) marks h = inr (refl, refl, (marks, h))

  into_member : (ty : Ty) (st : Step) → MarksInto s m st ty → SetsMemberAt p (step_into s st ty) (set_to v) → OnType s v (puts.Member m p) [] [] st ty
  into_member void (name n) marks h = absurd marks
  into_member (plain q) (name n) marks h = absurd marks
  into_member text (name n) marks h = absurd marks
  into_member blob (name n) marks h = absurd marks
  into_member untyped (name n) marks h = absurd marks
  into_member interface (name n) marks h = absurd marks
  into_member (struct id) (name n) marks h = found_member (union_in (s.shape_of id)) (target_of n (fields_in (s.shape_of id))) marks h
  into_member (list ty) (name n) marks h = absurd marks
  into_member ty (index k) marks h = absurd marks

  pub step_member : (at : PathEnd) (st : Step) → MarksStep s m st at → SetsMemberAt p (next_end s st at) (set_to v) → OnStep s v (puts.Member m p) [] [] st at
  step_member (at_slot (void_slot j)) st marks h = absurd marks
  step_member (at_slot (plain_slot q at d)) st marks h = absurd marks
  step_member (at_slot (pointer_slot i ty d)) (name n) marks h = into_member ty (name n) marks h
  step_member (at_slot (pointer_slot i ty d)) (index k) marks h = absurd marks
  step_member (at_slot (group_slot g)) (name n) marks h = found_member (union_in g) (target_of n (fields_in g)) marks h
  step_member (at_slot (group_slot g)) (index k) marks h = absurd marks
  step_member (at_value ty) (name n) marks h = into_member ty (name n) marks h
  step_member (at_value ty) (index k) marks h = absurd marks
  step_member nowhere st marks h = absurd marks

-- ---- along a path

module _ (root : StructSchema) (whole : List Step) where
  -- Wherever the rest of a path leads from where it stands, the path leads from the root, by the hops so far and those of the rest.
  abbrev pub StraightTo : List Hop → PathEnd → List Step → Type 0
  StraightTo made at rest = (v : CallValue) (put : Put) (way : List Hop) → LeadsFrom (schema_around root) v put way at rest → PathLeadsTo (schema_around root) v put (made ++ way) (shape_of_struct root) whole

  -- A step by hops, whatever leads on.
  onward : (made more : List Hop) (o : Onward) (at : PathEnd) (st : Step) (rest : List Step) → StraightTo made at (st ∷ rest) → more ≡ made ++ hops_made o → GoesOn o at st → goes_straight o ≡ true
      → (v : CallValue) (put : Put) (way : List Hop) → OnStep (schema_around root) v put way rest st at → PathLeadsTo (schema_around root) v put (more ++ way) (shape_of_struct root) whole
  onward made more o at st rest straight is on forth v put way leads =
      let s = schema_around root in
      let all = straight v put (hops_made o ++ way) (goes s v put way rest o at st on forth leads) in
      subst (λ (hs : List Hop). PathLeadsTo s v put hs (shape_of_struct root) whole) (sym (ap (λ hs. hs ++ way) is ∙ append_assoc made (hops_made o) way)) all

  pub one_more : (made more : List Hop) (o : Onward) (at next : PathEnd) (st : Step) (rest : List Step) → StraightTo made at (st ∷ rest) → more ≡ made ++ hops_made o → GoesOn o at st → goes_straight o ≡ true → StepsAlone (schema_around root) st at → next ≡ next_end (schema_around root) st at
      → StraightTo more next rest
  one_more made more o at next st rest straight is on forth alone to v put way leads =
      let s = schema_around root in
      let here : LeadsFrom s v put way (next_end s st at) rest = subst (λ (e : PathEnd). LeadsFrom s v put way e rest) to leads in
      onward made more o at st rest straight is on forth v put way (step_alone s v put way rest at st alone here)

  -- A last step to a member.
  pub one_member : (made more : List Hop) (o : Onward) (at next : PathEnd) (st : Step) (rest : List Step) (mark : PlainSet) → StraightTo made at (st ∷ rest) → more ≡ made ++ hops_made o → GoesOn o at st → goes_straight o ≡ true → MarksStep (schema_around root) mark st at → next ≡ next_end (schema_around root) st at
      → rest ≡ [] → LeadsToMember root more whole next mark
  one_member made more o at next st rest mark straight is on forth marks to none v p h =
      let s = schema_around root in
      let put : Put = puts.Member mark p in
      let sets : SetsMemberAt p (next_end s st at) (set_to v) = subst (λ (e : PathEnd). SetsMemberAt p e (set_to v)) to h in
      let last : StraightTo made at (st ∷ []) = subst (λ (xs : List Step). StraightTo made at (st ∷ xs)) none straight in
      subst (λ (hs : List Hop). PathLeadsTo s v put hs (shape_of_struct root) whole) (append-nil more) (onward made more o at st [] last is on forth v put [] (step_member s v mark p at st marks sets))

  -- A last step to an element of a list.
  last_index : (made : List Hop) (place : ListPlace) (at : PathEnd) (st : Step) → StraightTo made at (st ∷ []) → GoesOn (ways.Into place) at st → LeadsToElement root made whole (next_end (schema_around root) st at) place
  last_index made place (at_slot (void_slot j)) st straight on = absurd on
  last_index made place (at_slot (plain_slot q at d)) st straight on = absurd on
  last_index made place (at_slot (pointer_slot i ty d)) st straight on =
      let k = place.index in
      let e : Ty = on.0 in
      let Leads : ℕ → Ty → Step → Type 0 = λ j t x. StraightTo made (at_slot (pointer_slot j t d)) (x ∷ []) → LeadsToElement root made whole (next_end (schema_around root) x (at_slot (pointer_slot j t d))) place in
      let here : Leads place.pointer (list e) (index k) = λ straight v put h. subst (λ (hs : List Hop). PathLeadsTo (schema_around root) v put hs (shape_of_struct root) whole) (append-nil made) (straight v put [] (at_element_put put place e d v h)) in
      subst (λ (j : ℕ). Leads j ty st) on.1 (subst (λ (t : Ty). Leads place.pointer t st) (sym on.2) (subst (λ (x : Step). Leads place.pointer (list e) x) (sym on.3) here)) straight
  last_index made place (at_slot (group_slot g)) st straight on = absurd on
  last_index made place (at_value ty) st straight on = absurd on
  last_index made place nowhere st straight on = absurd on

  pub one_element : (made : List Hop) (place : ListPlace) (at next : PathEnd) (st : Step) (rest : List Step) → StraightTo made at (st ∷ rest) → GoesOn (ways.Into place) at st → next ≡ next_end (schema_around root) st at
      → rest ≡ [] → LeadsToElement root made whole next place
  one_element made place at next st rest straight on to none =
      let last : StraightTo made at (st ∷ []) = subst (λ (xs : List Step). StraightTo made at (st ∷ xs)) none straight in
      subst (λ (e : PathEnd). LeadsToElement root made whole e place) (sym to) (last_index made place at st last on)

  pub at_end : (made : List Hop) (at : PathEnd) → StraightTo made at [] → LeadsToEnd root made whole at
  at_end made (at_slot body) straight v put h = subst (λ (hs : List Hop). PathLeadsTo (schema_around root) v put hs (shape_of_struct root) whole) (append-nil made) (straight v put [] (at_slot_put put body v h))
  at_end made (at_value ty) straight v put h = absurd h
  at_end made nowhere straight v put h = absurd h

-- ---- what a step makes of a path that was straight, or not

-- A path goes on by hops only where it was straight.
pub went_straight : (b : Bool) (o whole : Onward) → whole ≡ onward_if b o → goes_straight whole ≡ true → (b ≡ true) × (o ≡ whole)
went_straight true o whole is on = (refl, sym is)
went_straight false o whole is on = absurd (cc (is, on))

-- So it goes to an element.
pub went_into : (b : Bool) (o whole : Onward) (place : ListPlace) → whole ≡ onward_if b o → whole ≡ ways.Into place → (b ≡ true) × (o ≡ ways.Into place)
went_into true o whole place is into = (refl, sym is ∙ into)
went_into false o whole place is into = absurd (cc (is, into))

-- ---- calls

sets_value : (put : Put) (at : PathEnd) (verb : Verb) → SetsAt put at verb → (v : CallValue) × (verb ≡ set_to v)
sets_value put (at_slot body) get h = absurd h
sets_value put (at_slot body) (set_to v) h = (v, refl)
sets_value put (at_slot body) init h = absurd h
sets_value put (at_slot body) (initn n) h = absurd h
sets_value put (at_slot body) clear h = absurd h
sets_value put (at_value ty) verb h = absurd h
sets_value put nowhere verb h = absurd h

sets_member : (p : Option PlainSet) (at : PathEnd) (verb : Verb) → SetsMemberAt p at verb → (v : CallValue) × (verb ≡ set_to v)
sets_member p (at_slot body) get h = absurd h
sets_member p (at_slot body) (set_to v) h = (v, refl)
sets_member p (at_slot body) init h = absurd h
sets_member p (at_slot body) (initn n) h = absurd h
sets_member p (at_slot body) clear h = absurd h
sets_member p (at_value ty) verb h = absurd h
sets_member p nowhere verb h = absurd h

sets_element : (put : Put) (place : ListPlace) (at : PathEnd) (verb : Verb) → SetsElementAt put place at verb → (v : CallValue) × (verb ≡ set_to v)
sets_element put place (at_slot body) verb h = absurd h
sets_element put place (at_value ty) get h = absurd h
sets_element put place (at_value ty) (set_to v) h = (v, refl)
sets_element put place (at_value ty) init h = absurd h
sets_element put place (at_value ty) (initn n) h = absurd h
sets_element put place (at_value ty) clear h = absurd h
sets_element put place nowhere verb h = absurd h

module _ (root : StructSchema) (c : Call) (made : List Hop) (at : PathEnd) (course : Course) (leads : course.is_straight ≡ true → LeadsToEnd root made c.path at) (member : IfSome course.mark (LeadsToMember root made c.path at)) (element : IfSome course.element (LeadsToElement root made c.path at)) where
  by_end : (put : Put) → SetsEnd put course at c.verb → (v : CallValue) × (c.verb ≡ set_to v) × PathLeadsTo (schema_around root) v put made (shape_of_struct root) c.path
  by_end put (inl h) =
      let given = sets_value put at c.verb h.1 in
      (given.0, given.1, leads h.0 given.0 put (subst (SetsAt put at) given.1 h.1))
  by_end put (inr (inl h)) =
      let m : PlainSet = h.0 in
      let p : Option PlainSet = h.1 in
      let given = sets_member p at c.verb h.4 in
      let there : LeadsToMember root made c.path at m = subst (λ (o : Option PlainSet). IfSome o (LeadsToMember root made c.path at)) h.2 member in
      (given.0, given.1, subst (λ (x : Put). PathLeadsTo (schema_around root) given.0 x made (shape_of_struct root) c.path) (sym h.3) (there given.0 p (subst (SetsMemberAt p at) given.1 h.4)))
  by_end put (inr (inr h)) =
      let place : ListPlace = h.0 in
      let given = sets_element put place at c.verb h.2 in
      let there : LeadsToElement root made c.path at place = subst (λ (o : Option ListPlace). IfSome o (LeadsToElement root made c.path at)) h.1 element in
      (given.0, given.1, there given.0 put (subst (SetsElementAt put place at) given.1 h.2))

  -- What is put where a call's path ends, and the hops to it.
  pub call_splice : (o : Option Splice) → IfSome o (λ p. p.hops.items ≡ made) → IfSome o (λ p. SetsEnd p.put course at c.verb) → IfSome o (IsSpliceOf root c)
  call_splice None same puts = tt
  call_splice (Some p) same puts =
      let found = by_end p.put puts in
      (found.0, found.1, subst (λ (hs : List Hop). PathLeadsTo (schema_around root) found.0 p.put hs (shape_of_struct root) c.path) (sym same) found.2)
