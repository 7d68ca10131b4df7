-- A call that is admitted beside a compatible newer schema, with renamed fields, is admitted in the newer's words, and its names find the same fields in both.
use Rattle.std.proofs.Common.{◌≡◌, ℕ, Bool, true, false, not, ◌&&◌, ◌==◌, nat_le, List, [], ◌∷◌, Option, refl, sym, ◌∙◌, ap}
use Rattle.std.specs.Str.{bytes_eq}
use Rattle.capnp_model.specs.Trees.{Tree}
use Rattle.capnp_model.specs.Schemas.{Ty, void, plain, text, blob, untyped, interface, struct, list, Shape, shape, id_of_shape, Fields, no_fields, field, Body, void_slot, plain_slot, pointer_slot, group_slot, Schema}
use Rattle.capnp_model.specs.Partners.{Renaming, partner_name, renamed_shape, renamed_fields, renamed_body, renamed}
use Rattle.capnp_model.specs.RenamedCalls.{renamed_path, renamed_step, node_at}
use Rattle.capnp_model.specs.InKindCalls.{at_slot, at_value, end_at, step_into}
use Rattle.capnp_model.specs.Printing.{fields_in}
use Rattle.capnp_model.specs.Calls.{Step, name, index, Verb}
use Rattle.capnp_model.specs.Steps.{Target, no_target, target, target_if, target_of}
use Rattle.capnp_model.specs.Compatible.{Pairs, has_pair, related, member_count, keeps_union, same_default, keeps, keeps_fields, keeps_body}
use Rattle.capnp_model.specs.Admitted.{is_extended, is_group_write, At, at_body, at_element, nowhere, into_fields, into_type, into_at, is_admitted_from}
use Rattle.capnp_model.proofs.lemmas.KeptRules.{and_three, and_four}
use Rattle.capnp_model.proofs.lemmas.FineShapes.{IsNewName, IsGood, AreGood, IsGoodBody}
use Rattle.capnp_model.proofs.lemmas.NewerWords.{newer-words}
use Rattle.capnp_model_versions.proofs.Partners.{not_found, absent, partner}
use Rattle.capnp_model_versions.proofs.SelfFollows.{AllFields, all-found}
use Rattle.capnp_model_versions.proofs.RenamedTwins.{NameTwin, ValueTwin, FieldTwin, ElementTwin}
use Rattle.capnp_model_versions.proofs.RenamedPaths.{found-renamed, kept-apart}

-- a name that finds nothing is new
new_name : (l : List ℕ) (fs : Fields) → target_of l fs ≡ no_target → IsNewName l fs
new_name l no_fields e = tt
new_name l (field k m b fs) e = by (bytes_eq k l) refl (new_name l fs) e
  where
    by : (x : Bool) → bytes_eq k l ≡ x → (target_of l fs ≡ no_target → IsNewName l fs) → target_if x (target m b) (target_of l fs) ≡ no_target → (bytes_eq k l ≡ false) × IsNewName l fs
    by true f more g = absurd (cc g)
    by false f more g = (f, more g)

good_fields : (n : Schema) (u : Option ℕ) (fs : Fields) → AreGood n u fs → AllFields (λ m b. IsGoodBody n b) fs
good_fields n u no_fields h = tt
good_fields n u (field l m b fs) h = (h.3, good_fields n u fs h.4)

module _ (rs : List Renaming) (o n : Schema) (pairs : Pairs) (verb : Verb) where
  abbrev o' : Schema
  o' = renamed rs o

  module _ (closed : (i j : ℕ) → has_pair pairs i j ≡ true → keeps o' n pairs (o'.shape_of i) (n.shape_of j) ≡ true) (good' : (id : ℕ) → IsGood n (n.shape_of id)) where
    abbrev go : List Step → At → Bool
    go path at = is_admitted_from rs o n path verb at

    abbrev FieldTwins : List Step → Type 0
    FieldTwins path =
        (b b' : Body) → keeps_body o' n pairs (renamed_body rs b) b' ≡ true → go path (at_body b b') ≡ true → IsGoodBody n b'
        → FieldTwin rs o path b × (is_admitted_from [] o' n (renamed_path rs o path (at_slot b)) verb (at_body (renamed_body rs b) b') ≡ true)

    abbrev ElementTwins : List Step → Type 0
    ElementTwins path =
        (ty ty' : Ty) → related o' n pairs ty ty' ≡ true → go path (at_element ty ty') ≡ true
        → ElementTwin rs o path ty × (is_admitted_from [] o' n (renamed_path rs o path (at_value ty)) verb (at_element ty ty') ≡ true)

    kept_words : (i j : ℕ) → has_pair pairs i j ≡ true → keeps o' n pairs (renamed_shape rs (o.shape_of i)) (n.shape_of j) ≡ true
    kept_words i j h = sym (ap (λ (g : Shape). keeps o' n pairs g (n.shape_of j)) (newer-words rs (o.shape_of i))) ∙ closed i j h

    -- a step through a pointer and from an element goes into the value
    at_pointer : (m : Schema) (st : Step) (i j : ℕ) (ty ty' : Ty) (d d' : Option Tree) (f : At → Bool) → into_at [] m n st (at_body (pointer_slot i ty d) (pointer_slot j ty' d')) f ≡ into_type [] m n st ty ty' f
    at_pointer m (name l) i j ty ty' d d' f = refl
    at_pointer m (index k) i j ty ty' d d' f = refl

    at_value_step : (m : Schema) (st : Step) (ty ty' : Ty) (f : At → Bool) → into_at [] m n st (at_element ty ty') f ≡ into_type [] m n st ty ty' f
    at_value_step m (name l) ty ty' f = refl
    at_value_step m (index k) ty ty' f = refl

    -- ---- the end of a path

    end_twins : FieldTwins []
    unfolding is_admitted_from renamed_path
    end_twins (group_slot g) (group_slot g') h k good = (tt, sym (ap (λ (z : Shape). not (is_group_write verb && is_extended z g')) (newer-words rs g)) ∙ k)
    end_twins (void_slot j) b' h k good = (tt, refl)
    end_twins (plain_slot p at d) b' h k good = (tt, refl)
    end_twins (pointer_slot i ty d) b' h k good = (tt, refl)
    end_twins (group_slot g) b' h k good = (tt, refl)

    element_ends : ElementTwins []
    unfolding is_admitted_from renamed_path
    element_ends ty ty' h k = (tt, k)

    -- ---- a step

    module _ (path : List Step) (fields : FieldTwins path) (elements : ElementTwins path) where
      abbrev newer_go : List ℕ → Fields → At → Bool
      newer_go l fs at = is_admitted_from [] o' n (renamed_path rs o path (end_at (target_of l fs))) verb at

      record NamesMeet (l : List ℕ) (g g' : Shape) : Type 0 where
        pub twin : NameTwin rs o (FieldTwin rs o path) l g
        pub admitted : into_fields [] 0 (partner_name rs (id_of_shape g) l) (fields_in (renamed_shape rs g)) (fields_in g') (newer_go l (fields_in g)) ≡ true

      name_twins : (l : List ℕ) (g g' : Shape) → keeps o' n pairs (renamed_shape rs g) g' ≡ true → into_fields rs (id_of_shape g) l (fields_in g) (fields_in g') (go path) ≡ true → IsGood n g' → NamesMeet l g g'
      unfolding keeps
      name_twins l (shape nid w p u fs) (shape nid' w' p' u' fs') h k good = by (target_of l fs) (target_of (partner_name rs nid l) fs') refl refl k
        where
          all : Fields
          all = renamed_fields rs nid fs

          newer_name : List ℕ
          newer_name = partner_name rs nid l

          kept : keeps_fields o' n pairs (member_count all) all fs' ≡ true
          kept = (and_four (nat_le w w') (nat_le p p') (keeps_union u u') (keeps_fields o' n pairs (member_count all) all fs') h).3

          by : (t t' : Target) → target_of l fs ≡ t → target_of newer_name fs' ≡ t'
              → (elim t as (λ (z : Target). Bool) [ no_target ↦ false | target m b ↦ elim t' as (λ (z : Target). Bool) [ no_target ↦ go path nowhere | target m' b' ↦ go path (at_body b b') ] ]) ≡ true
              → NamesMeet l (shape nid w p u fs) (shape nid' w' p' u' fs')
          by no_target t' e e' g = absurd (cc g)
          by (target m b) no_target e e' g =
              let found = found-renamed rs nid l fs m b (kept-apart o' n pairs u' (member_count all) all fs' kept good) e in
              absurd (cc (sym (not_found newer_name all (absent o' n pairs newer_name (member_count all) all fs' kept (new_name newer_name fs' e'))) ∙ found))
          by (target m b) (target m' b') e e' g =
              let found = found-renamed rs nid l fs m b (kept-apart o' n pairs u' (member_count all) all fs' kept good) e in
              let both = partner o' n pairs u' newer_name (member_count all) all fs' m m' (renamed_body rs b) b' kept good found e' in
              let rest = fields b b' both.1 g (all-found (λ m b. IsGoodBody n b) newer_name fs' m' b' (good_fields n u' fs' good) e') in
              record {
                twin = (m, b, e, found, rest.0);
                admitted =
                    ap (λ (t : Target). elim t as (λ (z : Target). Bool) [ no_target ↦ false | target i c ↦ elim (target_of newer_name fs') as (λ (z : Target). Bool) [ no_target ↦ newer_go l fs nowhere | target i' c' ↦ newer_go l fs (at_body c c') ] ]) found
                    ∙ ap (λ (t : Target). elim t as (λ (z : Target). Bool) [ no_target ↦ newer_go l fs nowhere | target i' c' ↦ newer_go l fs (at_body (renamed_body rs b) c') ]) e'
                    ∙ ap (λ (t : Target). is_admitted_from [] o' n (renamed_path rs o path (end_at t)) verb (at_body (renamed_body rs b) b')) e
                    ∙ rest.1;
              }

      -- behind a pointer
      record ValuesMeet (st : Step) (ty ty' : Ty) : Type 0 where
        pub twin : ValueTwin rs o st (FieldTwin rs o path) (ElementTwin rs o path) ty
        pub admitted : into_type [] o' n (renamed_step rs (node_at o (at_value ty)) st) ty ty' (λ at. is_admitted_from [] o' n (renamed_path rs o path (step_into o st ty)) verb at) ≡ true

      value_twins : (st : Step) (ty ty' : Ty) → related o' n pairs ty ty' ≡ true → into_type rs o n st ty ty' (go path) ≡ true → ValuesMeet st ty ty'
      value_twins (name l) (struct i) (struct j) h k =
          let meet = name_twins l (o.shape_of i) (n.shape_of j) (kept_words i j h) k (good' j) in
          record {
            twin = meet.twin;
            admitted = ap (λ (g : Shape). into_fields [] 0 (partner_name rs (id_of_shape (o.shape_of i)) l) (fields_in g) (fields_in (n.shape_of j)) (newer_go l (fields_in (o.shape_of i)))) (newer-words rs (o.shape_of i)) ∙ meet.admitted;
          }
      value_twins (index k) (list ty) (list ty') h g = let rest = elements ty ty' h g in record { twin = rest.0; admitted = rest.1 }
      value_twins (name l) void void h k = record { twin = tt; admitted = refl }
      value_twins (name l) (plain p) (plain q) h k = record { twin = tt; admitted = refl }
      value_twins (name l) text text h k = record { twin = tt; admitted = refl }
      value_twins (name l) blob blob h k = record { twin = tt; admitted = refl }
      value_twins (name l) untyped untyped h k = record { twin = tt; admitted = refl }
      value_twins (name l) interface interface h k = record { twin = tt; admitted = refl }
      value_twins (name l) (list ty) (list ty') h k = record { twin = tt; admitted = refl }
      value_twins (index k) void void h g = record { twin = tt; admitted = refl }
      value_twins (index k) (plain p) (plain q) h g = record { twin = tt; admitted = refl }
      value_twins (index k) text text h g = record { twin = tt; admitted = refl }
      value_twins (index k) blob blob h g = record { twin = tt; admitted = refl }
      value_twins (index k) untyped untyped h g = record { twin = tt; admitted = refl }
      value_twins (index k) interface interface h g = record { twin = tt; admitted = refl }
      value_twins (index k) (struct i) (struct j) h g = record { twin = tt; admitted = refl }
      value_twins st ty ty' h k = absurd (cc h)

      node_same : (i : ℕ) (ty : Ty) (d : Option Tree) → node_at o (at_slot (pointer_slot i ty d)) ≡ node_at o (at_value ty)
      node_same i void d = refl
      node_same i (plain q) d = refl
      node_same i text d = refl
      node_same i blob d = refl
      node_same i untyped d = refl
      node_same i interface d = refl
      node_same i (struct id) d = refl
      node_same i (list ty) d = refl

      pointer_twins : (st : Step) (i j : ℕ) (ty ty' : Ty) (d d' : Option Tree) → keeps_body o' n pairs (pointer_slot i ty d) (pointer_slot j ty' d') ≡ true → into_type rs o n st ty ty' (go path) ≡ true
          → ValueTwin rs o st (FieldTwin rs o path) (ElementTwin rs o path) ty
          × (into_type [] o' n (renamed_step rs (node_at o (at_slot (pointer_slot i ty d))) st) ty ty' (λ at. is_admitted_from [] o' n (renamed_path rs o path (step_into o st ty)) verb at) ≡ true)
      unfolding keeps
      pointer_twins st i j ty ty' d d' h k =
          let meet = value_twins st ty ty' (and_three (i == j) (related o' n pairs ty ty') (same_default d d') h).1 k in
          (meet.twin, ap (λ (node : Option ℕ). into_type [] o' n (renamed_step rs node st) ty ty' (λ at. is_admitted_from [] o' n (renamed_path rs o path (step_into o st ty)) verb at)) (node_same i ty d) ∙ meet.admitted)

      field_twins : (st : Step) → FieldTwins (st ∷ path)
      unfolding keeps is_admitted_from renamed_path
      field_twins (name l) (group_slot g) (group_slot g') h k good = let meet = name_twins l g g' h k good in (meet.twin, meet.admitted)
      field_twins (index i) (group_slot g) (group_slot g') h k good = (tt, refl)
      field_twins (name l) (void_slot i) (void_slot j) h k good = (tt, refl)
      field_twins (index z) (void_slot i) (void_slot j) h k good = (tt, refl)
      field_twins (name l) (plain_slot p at d) (plain_slot q at' d') h k good = (tt, refl)
      field_twins (index z) (plain_slot p at d) (plain_slot q at' d') h k good = (tt, refl)
      field_twins (name l) (pointer_slot i ty d) (pointer_slot j ty' d') h k good = let meet = pointer_twins (name l) i j ty ty' d d' h k in (meet.0, at_pointer o' (renamed_step rs (node_at o (at_slot (pointer_slot i ty d))) (name l)) i j ty ty' d d' _ ∙ meet.1)
      field_twins (index z) (pointer_slot i ty d) (pointer_slot j ty' d') h k good = let meet = pointer_twins (index z) i j ty ty' d d' h k in (meet.0, at_pointer o' (renamed_step rs (node_at o (at_slot (pointer_slot i ty d))) (index z)) i j ty ty' d d' _ ∙ meet.1)
      field_twins st b b' h k good = absurd (cc h)

    mutual
      unfolding is_admitted_from renamed_path

      fields_meet : (path : List Step) → FieldTwins path
      fields_meet [] = end_twins
      fields_meet (st ∷ path) = field_twins path (fields_meet path) (elements_meet path) st

      elements_meet : (path : List Step) → ElementTwins path
      elements_meet [] = element_ends
      elements_meet (name l ∷ path) = λ ty ty' h k. let meet = value_twins path (fields_meet path) (elements_meet path) (name l) ty ty' h k in (meet.twin, at_value_step o' (renamed_step rs (node_at o (at_value ty)) (name l)) ty ty' _ ∙ meet.admitted)
      elements_meet (index i ∷ path) = λ ty ty' h k. let meet = value_twins path (fields_meet path) (elements_meet path) (index i) ty ty' h k in (meet.twin, at_value_step o' (renamed_step rs (node_at o (at_value ty)) (index i)) ty ty' _ ∙ meet.admitted)

    -- THE LAW, from the roots on
    pub admitted-twins : (path : List Step) (i j : ℕ) → has_pair pairs i j ≡ true → go path (at_element (struct i) (struct j)) ≡ true
        → ElementTwin rs o path (struct i) × (is_admitted_from [] o' n (renamed_path rs o path (at_value (struct i))) verb (at_element (struct i) (struct j)) ≡ true)
    admitted-twins path i j h k = elements_meet path (struct i) (struct j) h k
