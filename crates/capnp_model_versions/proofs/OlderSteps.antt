-- The older record machine at the older view of a newer record makes the older view of what the newer machine makes.
use Rattle.std.proofs.Common.{◌≡◌, ℕ, zero, suc, ◌*◌, ◌==◌, nat_le, Bool, true, false, List, [], ◌∷◌, Option, Some, None, refl, sym, ◌∙◌, ap}
use Rattle.std.specs.Str.{bytes_eq}
use Rattle.capnp_model.specs.Trees.{Tree, null}
use Rattle.capnp_model.specs.Schemas.{PlainType, Ty, void, plain, text, blob, untyped, interface, struct, list, Shape, shape, Fields, no_fields, field, Body, void_slot, plain_slot, pointer_slot, group_slot, Schema, default_or_null, words_of_shape}
use Rattle.capnp_model.specs.Readings.{Reading, inactive, null_pointer, fault, number, text_of, blob_of, list_of, record_as, opaque, Readings, no_readings, ◌▹◌, Record, no_children, Extent, whole_words, discriminant, is_active, only_if, shape_record, fields_of, body_of, element_as, read}
use Rattle.capnp_model.specs.Printing.{As, as_type, as_body, as_group, fields_in}
use Rattle.capnp_model.specs.Projection.{project, project_items, project_fields}
use Rattle.capnp_model.specs.Calls.{Step, name, index, Verb}
use Rattle.capnp_model.specs.Steps.{Outcome, refused, shown, done, outcome_map, Target, no_target, target, target_if, target_of, entry_of, replaced, at_target, on_name, on_index, empty_reading, opened, or_empty, through_value, through_field, step_field, step_element}
use Rattle.capnp_model.specs.Compatible.{Pairs, has_pair, related, member_count, keeps_union, same_default, keeps, keeps_fields, keeps_body}
use Rattle.capnp_model.specs.Admitted.{At, at_body, at_element, nowhere, into_fields, into_type, is_admitted_from}
use Rattle.capnp_model.proofs.lemmas.KeptRules.{and_three, and_four}
use Rattle.capnp_model.proofs.lemmas.KeptShapes.{option_is, HasPair}
use Rattle.capnp_model.proofs.lemmas.FineShapes.{IsGoodMember, IsNewName, IsGood, IsGoodBody}
use Rattle.capnp_model.proofs.lemmas.OlderReading.{SamePlain, Related, related_void, related_plain', related_text, related_blob, related_untyped, related_interface, related_struct, related_list, KeptShape, kept, KeptBody, kept_plain, KidsAgree, shape_record-project, body_of-project, no_children_agree, read-project}
use Rattle.capnp_model.proofs.lemmas.Paths.{entry_of-fields_of}
use Rattle.capnp_model_versions.proofs.SameShapes.{SameShape, SameBody, same_group}
use Rattle.capnp_model_versions.specs.SameReplies.{IsWrite}
use Rattle.capnp_model_versions.proofs.Within.{FitsDefault, IsWithin, BodyWithin}
use Rattle.capnp_model_versions.proofs.SelfFollows.{all-found}
use Rattle.capnp_model_versions.proofs.SeenValues.{kids_of, SeenStruct, seen_struct, seen_fault, SeenItem, seen_item, SeenItems, SeenList, seen_list, seen_no_list, opened-struct-seen, opened-list-seen}
use Rattle.capnp_model_versions.proofs.Partners.{not_found, absent, partner}
use Rattle.capnp_model_versions.proofs.KeptFollows.{default-same, IsOlder, all_older, IsNewer, all_newer, field-kept}
use Rattle.capnp_model_versions.proofs.ReplacedViews.{NamedIs, named-is, view-only_if, replaced-view}
use Rattle.capnp_model_versions.proofs.OlderContents.{pointer-view, plain-view, void-view, element-view}
use Rattle.capnp_model_versions.proofs.KeptViews.{related-pairs, shape-kept, body-kept}
use Rattle.capnp_model_versions.proofs.GroupViews.{group-view}

-- ---- outcomes

map_both : {A B C D : Type 0} (f : B → D) (g : A → B) (h : C → D) (k : A → C) → ((y : A) → f (g y) ≡ h (k y)) → (x : Outcome A) → outcome_map f (outcome_map g x) ≡ outcome_map h (outcome_map k x)
map_both f g h k e (refused z) = refl
map_both f g h k e (shown how r) = refl
map_both f g h k e (done y) = ap done (e y)

-- a name that is not found is new
new_if_not_found : (l : List ℕ) (fs : Fields) → target_of l fs ≡ no_target → IsNewName l fs
new_if_not_found l no_fields e = tt
new_if_not_found l (field k m b fs) e = by (bytes_eq k l) refl (new_if_not_found l fs) e
  where
    by : (x : Bool) → bytes_eq k l ≡ x → (target_of l fs ≡ no_target → IsNewName l fs) → target_if x (target m b) (target_of l fs) ≡ no_target → (bytes_eq k l ≡ false) × IsNewName l fs
    by true f more g = absurd (cc g)
    by false f more g = (f, more g)

-- ---- steps

module _ (o n : Schema) (pairs : Pairs) (verb : Verb) (write : IsWrite verb) (closed : (i j : ℕ) → has_pair pairs i j ≡ true → keeps o n pairs (o.shape_of i) (n.shape_of j) ≡ true)
    (within : (id : ℕ) → IsWithin (64 * words_of_shape (o.shape_of id)) (o.shape_of id)) (within' : (id : ℕ) → IsWithin (64 * words_of_shape (n.shape_of id)) (n.shape_of id))
    (good : (i j : ℕ) → has_pair pairs i j ≡ true → IsGood o (o.shape_of i)) (good' : (id : ℕ) → IsGood n (n.shape_of id)) where
  abbrev R : ℕ → ℕ → Type 0
  R i j = HasPair o n pairs i j

  shapes : (i j : ℕ) → R i j → KeptShape o n R (o.shape_of i) (n.shape_of j)
  shapes i j h = shape-kept o n pairs (o.shape_of i) (n.shape_of j) (closed i j h) (good i j h)

  kids_agree : (f : ℕ → Tree) → KidsAgree o n R (kids_of o f) (kids_of n f)
  kids_agree f i ty ty' d h = read-project o n R shapes (f i) ty ty' d h

  -- ---- nulls

  empty_view : (ty ty' : Ty) (d : Tree) → Related o n R ty ty' → empty_reading o ty ≡ project o (as_type ty d) (empty_reading n ty')
  unfolding project
  empty_view ty ty' d related_void = refl
  empty_view ty ty' d (related_plain' same) = refl
  empty_view ty ty' d related_text = refl
  empty_view ty ty' d related_blob = refl
  empty_view ty ty' d related_untyped = refl
  empty_view ty ty' d related_interface = refl
  empty_view ty ty' d (related_struct {i = i} {j = j} r) = ap record_as (shape_record-project o n R (o.shape_of i) (n.shape_of j) whole_words 0 no_children no_children (no_children_agree o n R shapes) (shapes i j r))
  empty_view ty ty' d (related_list r) = refl

  or_empty_view : (ty ty' : Ty) (d : Tree) (z : Reading) → Related o n R ty ty' → or_empty o ty (project o (as_type ty d) z) ≡ project o (as_type ty d) (or_empty n ty' z)
  unfolding project
  or_empty_view ty ty' d null_pointer r = empty_view ty ty' d r
  or_empty_view ty ty' d inactive r = refl
  or_empty_view ty ty' d (fault k) r = refl
  or_empty_view ty ty' d (number k) r = refl
  or_empty_view ty ty' d (text_of k) r = refl
  or_empty_view ty ty' d (blob_of k) r = refl
  or_empty_view ty ty' d (list_of k) r = refl
  or_empty_view ty ty' d (record_as k) r = refl
  or_empty_view ty ty' d (opaque k) r = refl

  opened_view : (ty ty' : Ty) (d : Tree) (z : Reading) → Related o n R ty ty' → opened o ty d (project o (as_type ty d) z) ≡ project o (as_type ty d) (opened n ty' d z)
  unfolding project
  opened_view ty ty' d null_pointer r = ap (or_empty o ty) (read-project o n R shapes d ty ty' d r) ∙ or_empty_view ty ty' d (read n d ty') r
  opened_view ty ty' d inactive r = refl
  opened_view ty ty' d (fault k) r = refl
  opened_view ty ty' d (number k) r = refl
  opened_view ty ty' d (text_of k) r = refl
  opened_view ty ty' d (blob_of k) r = refl
  opened_view ty ty' d (list_of k) r = refl
  opened_view ty ty' d (record_as k) r = refl
  opened_view ty ty' d (opaque k) r = refl

  -- ---- what the rest of a path does

  abbrev FieldView : List Step → Type 0
  FieldView path =
      (bits bits' : ℕ) (b b' : Body) → keeps_body o n pairs b b' ≡ true → is_admitted_from [] o n path verb (at_body b b') ≡ true → BodyWithin bits b → BodyWithin bits' b' → IsGoodBody o b → IsGoodBody n b' → (a : Bool) (size : Extent) (section : ℕ) (f : ℕ → Tree)
      → let x : Reading = only_if a (body_of b' size section (kids_of n f)) in step_field o path verb b (project o (as_body b) x) ≡ outcome_map (project o (as_body b)) (step_field n path verb b' x)

  abbrev ElementView : List Step → Type 0
  ElementView path =
      (ty ty' : Ty) → related o n pairs ty ty' ≡ true → is_admitted_from [] o n path verb (at_element ty ty') ≡ true → (size : Extent) (section : ℕ) (f : ℕ → Tree)
      → let x : Reading = element_as n ty' size section (kids_of n f) in step_element o path verb ty (project o (as_type ty null) x) ≡ outcome_map (project o (as_type ty null)) (step_element n path verb ty' x)

  plain_parts : (p q : PlainType) (at d at' d' : ℕ) → KeptBody o n R (plain_slot p at d) (plain_slot q at' d') → SamePlain p q × (d ≡ d')
  plain_parts p q at d at' d' (kept_plain s) = (s, refl)

  end_view : FieldView []
  unfolding step_field keeps
  end_view bits bits' (void_slot i) (void_slot j) h k x y g g' a size section f = void-view o n R shapes verb i j _ _ write
  end_view bits bits' (plain_slot p at d) (plain_slot q at' d') h k x y g g' a size section f =
      let parts = plain_parts p q at d at' d' (body-kept o n pairs (plain_slot p at d) (plain_slot q at' d') h g) in
      plain-view o n R shapes verb p q at d at' d' _ _ parts.0 parts.1 write
  end_view bits bits' (pointer_slot i ty d) (pointer_slot j ty' d') h k x y g g' a size section f =
      pointer-view o n R shapes verb i j ty ty' d d' _ _ (related-pairs o n pairs ty ty' (and_three (i == j) (related o n pairs ty ty') (same_default d d') h).1) write
  end_view bits bits' (group_slot z) (group_slot z') h k x y g g' a size section f =
      group-view o n pairs shapes bits verb z z' _ _ (λ w. the_shapes (field-kept o n pairs verb closed within within' good good' [] bits bits' (group_slot z) (group_slot z') h k x y g g' w)) h g write
    where
      the_shapes : SameBody o n bits (group_slot z) (group_slot z') → SameShape o n bits z z'
      the_shapes (same_group s) = s
  end_view bits bits' b b' h k x y g g' a size section f = absurd (cc h)

  element_end_view : ElementView []
  unfolding step_element
  element_end_view ty ty' h k size section f = element-view o n R shapes verb ty ty' _ _ (related-pairs o n pairs ty ty' h) write

  -- ---- a step

  module _ (path : List Step) (fields : FieldView path) (elements : ElementView path) where
    abbrev go : At → Bool
    go at = is_admitted_from [] o n path verb at

    active_alike : (u u' m : Option ℕ) (size : Extent) (section : ℕ) → keeps_union u u' ≡ true → IsGoodMember u m → is_active m (discriminant u size section) ≡ is_active m (discriminant u' size section)
    active_alike u u' None size section h g = refl
    active_alike (Some a) u' (Some k) size section h g = ap (λ z. is_active (Some k) (discriminant z size section)) (option_is (Some a) u' h)
    active_alike None u' (Some k) size section h g = absurd g.0

    name_view : (l : List ℕ) (bits bits' : ℕ) (g g' : Shape) → keeps o n pairs g g' ≡ true → into_fields [] 0 l (fields_in g) (fields_in g') go ≡ true → IsWithin bits g → IsWithin bits' g' → IsGood o g → IsGood n g' → (size : Extent) (section : ℕ) (f : ℕ → Tree)
        → let r : Record = shape_record g' size section (kids_of n f) in
        on_name (step_field o path verb) l (fields_in g) (project_fields o (fields_in g) r) ≡ outcome_map (project_fields o (fields_in g)) (on_name (step_field n path verb) l (fields_in g') r)
    unfolding shape_record keeps
    name_view l bits bits' (shape nid w p u fs) (shape nid' w' p' u' fs') h k x y good good' size section f = by (target_of l fs) (target_of l fs') refl refl k
      where
        four : (nat_le w w' ≡ true) × (nat_le p p' ≡ true) × (keeps_union u u' ≡ true) × (keeps_fields o n pairs (member_count fs) fs fs' ≡ true)
        four = and_four (nat_le w w') (nat_le p p') (keeps_union u u') (keeps_fields o n pairs (member_count fs) fs fs') h

        older : Record
        older = fields_of fs (discriminant u size section) size section (kids_of o f)

        newer : Record
        newer = fields_of fs' (discriminant u' size section) size section (kids_of n f)

        is_kept : KeptShape o n R (shape nid w p u fs) (shape nid' w' p' u' fs')
        is_kept = shape-kept o n pairs (shape nid w p u fs) (shape nid' w' p' u' fs') h good

        seen : older ≡ project_fields o fs newer
        seen = shape_record-project o n R (shape nid w p u fs) (shape nid' w' p' u' fs') size section (kids_of o f) (kids_of n f) (kids_agree f) is_kept

        fields_kept : (g g' : Shape) → KeptShape o n R g g' → (l : List ℕ) (m : Option ℕ) (b : Body) (z : Reading) → NamedIs l b (fields_in g)
            → replaced l m (project o (as_body b) z) (fields_in g) (shape_record g size section (kids_of o f)) ≡ project_fields o (fields_in g) (replaced l m z (fields_in g') (shape_record g' size section (kids_of n f)))
        fields_kept g g' (kept {u = v} {u' = v'} {fs = gs} {fs' = gs'} q) l m b z named = replaced-view o n R l m b z v v' gs gs' size section (kids_of o f) (kids_of n f) (kids_agree f) q named

        found : (m m' : Option ℕ) (b b' : Body) → target_of l fs ≡ target m b → target_of l fs' ≡ target m' b' → go (at_body b b') ≡ true
            → at_target (step_field o path verb) l fs (project_fields o fs newer) (target m b) ≡ outcome_map (project_fields o fs) (at_target (step_field n path verb) l fs' newer (target m' b'))
        found m m' b b' e e' admitted =
            let both = partner o n pairs u' l (member_count fs) fs fs' m m' b b' four.3 good' e e' in
            let here = all-found (IsOlder o n pairs bits u) l fs m b (all_older o n pairs bits u fs x.2 good) e in
            let there = all-found (IsNewer o n pairs bits') l fs' m' b' (all_newer o n pairs bits' u' fs' y.2 good') e' in
            let a : Bool = is_active m' (discriminant u' size section) in
            let value : Reading = only_if a (body_of b' size section (kids_of n f)) in
            let active : is_active m (discriminant u size section) ≡ a = active_alike u u' m size section four.2 here.0 ∙ ap (λ z. is_active z (discriminant u' size section)) both.0 in
            let reads : only_if (is_active m (discriminant u size section)) (body_of b size section (kids_of o f)) ≡ project o (as_body b) value =
            ap (only_if (is_active m (discriminant u size section))) (body_of-project o n R b b' size section (kids_of o f) (kids_of n f) (kids_agree f) (body-kept o n pairs b b' both.1 here.2))
            ∙ ap (λ z. only_if z (project o (as_body b) (body_of b' size section (kids_of n f)))) active ∙ sym (view-only_if o n R a b (body_of b' size section (kids_of n f))) in
            let entry_is : entry_of l (project_fields o fs newer) ≡ project o (as_body b) value =
            ap (entry_of l) (sym seen) ∙ entry_of-fields_of l fs m b (discriminant u size section) size section (kids_of o f) e ∙ reads in
            let entry_is' : entry_of l newer ≡ value = entry_of-fields_of l fs' m' b' (discriminant u' size section) size section (kids_of n f) e' in
            let inner : step_field o path verb b (entry_of l (project_fields o fs newer)) ≡ outcome_map (project o (as_body b)) (step_field n path verb b' (entry_of l newer)) =
            ap (step_field o path verb b) entry_is ∙ fields bits bits' b b' both.1 admitted here.1 there.0 here.2 there.1 a size section f ∙ ap (λ z. outcome_map (project o (as_body b)) (step_field n path verb b' z)) (sym entry_is') in
            let replaces : (z : Reading) → replaced l m (project o (as_body b) z) fs (project_fields o fs newer) ≡ project_fields o fs (replaced l m' z fs' newer) = λ z.
            ap (replaced l m (project o (as_body b) z) fs) (sym seen) ∙ fields_kept (shape nid w p u fs) (shape nid' w' p' u' fs') is_kept l m b z (named-is o u l fs m b good e) ∙ ap (λ v. project_fields o fs (replaced l v z fs' newer)) both.0 in
            ap (outcome_map (λ z. replaced l m z fs (project_fields o fs newer))) inner
            ∙ map_both (λ z. replaced l m z fs (project_fields o fs newer)) (project o (as_body b)) (project_fields o fs) (λ z. replaced l m' z fs' newer) replaces (step_field n path verb b' (entry_of l newer))

        by : (t t' : Target) → target_of l fs ≡ t → target_of l fs' ≡ t'
            → (elim t as (λ (z : Target). Bool) [ no_target ↦ false | target m b ↦ elim t' as (λ (z : Target). Bool) [ no_target ↦ go nowhere | target m' b' ↦ go (at_body b b') ] ]) ≡ true
            → at_target (step_field o path verb) l fs (project_fields o fs newer) t ≡ outcome_map (project_fields o fs) (at_target (step_field n path verb) l fs' newer t')
        by no_target t' e e' q = absurd (cc q)
        by (target m b) no_target e e' q = absurd (cc (sym (not_found l fs (absent o n pairs l (member_count fs) fs fs' four.3 (new_if_not_found l fs' e'))) ∙ e))
        by (target m b) (target m' b') e e' q = found m m' b b' e e' q

    -- ---- into a value

    abbrev fieldO : Body → Reading → Outcome Reading
    fieldO = step_field o path verb

    abbrev elementO : Ty → Reading → Outcome Reading
    elementO = step_element o path verb

    abbrev fieldN : Body → Reading → Outcome Reading
    fieldN = step_field n path verb

    abbrev elementN : Ty → Reading → Outcome Reading
    elementN = step_element n path verb

    struct_name : (l : List ℕ) (i j : ℕ) (d : Tree) (z : Reading) → has_pair pairs i j ≡ true → into_fields [] 0 l (fields_in (o.shape_of i)) (fields_in (n.shape_of j)) go ≡ true → SeenStruct n j z
        → through_value o (name l) fieldO elementO (struct i) (project o (as_type (struct i) d) z) ≡ outcome_map (project o (as_type (struct i) d)) (through_value n (name l) fieldN elementN (struct j) z)
    unfolding project
    struct_name l i j d z h k (seen_fault x) = refl
    struct_name l i j d z h k (seen_struct size section f) =
        let r : Record = shape_record (n.shape_of j) size section (kids_of n f) in
        ap (outcome_map record_as) (name_view l (64 * words_of_shape (o.shape_of i)) (64 * words_of_shape (n.shape_of j)) (o.shape_of i) (n.shape_of j) (closed i j h) k (within i) (within' j) (good i j h) (good' j) size section f)
        ∙ map_both record_as (project_fields o (fields_in (o.shape_of i))) (project o (as_type (struct i) d)) record_as (λ y. refl) (on_name fieldN l (fields_in (n.shape_of j)) r)

    items_view : (i : ℕ) (a b : Ty) (rs : Readings) → related o n pairs a b ≡ true → go (at_element a b) ≡ true → SeenItems n b rs
        → on_index (elementO a) i (project_items o (as_type a null) rs) ≡ outcome_map (project_items o (as_type a null)) (on_index (elementN b) i rs)
    unfolding project
    items_view zero a b no_readings h k s = refl
    items_view (suc i) a b no_readings h k s = refl
    items_view zero a b (r ▹ rs) h k s = ap (outcome_map (λ x. x ▹ project_items o (as_type a null) rs)) (one r s.0) ∙ map_both (λ x. x ▹ project_items o (as_type a null) rs) (project o (as_type a null)) (project_items o (as_type a null)) (λ x. x ▹ rs) (λ y. refl) (elementN b r)
      where
        one : (r : Reading) → SeenItem n b r → elementO a (project o (as_type a null) r) ≡ outcome_map (project o (as_type a null)) (elementN b r)
        one r (seen_item size section f) = elements a b h k size section f
    items_view (suc i) a b (r ▹ rs) h k s =
        ap (outcome_map (λ xs. project o (as_type a null) r ▹ xs)) (items_view i a b rs h k s.1)
        ∙ map_both (λ xs. project o (as_type a null) r ▹ xs) (project_items o (as_type a null)) (project_items o (as_type a null)) (λ xs. r ▹ xs) (λ y. refl) (on_index (elementN b) i rs)

    list_index : (i : ℕ) (a b : Ty) (d : Tree) (z : Reading) → related o n pairs a b ≡ true → go (at_element a b) ≡ true → SeenList n b z
        → through_value o (index i) fieldO elementO (list a) (project o (as_type (list a) d) z) ≡ outcome_map (project o (as_type (list a) d)) (through_value n (index i) fieldN elementN (list b) z)
    unfolding project
    list_index i a b d z h k (seen_no_list x) = refl
    list_index i a b d z h k (seen_list rs s) =
        ap (outcome_map list_of) (items_view i a b rs h k s)
        ∙ map_both list_of (project_items o (as_type a null)) (project o (as_type (list a) d)) list_of (λ y. refl) (on_index (elementN b) i rs)

    -- a step that does not fit
    no_name : (l : List ℕ) (ty ty' : Ty) (how : As) (z : Reading) → Related o n R ty ty' → ((i : ℕ) → ty ≡ struct i → ⊥) → through_value o (name l) fieldO elementO ty (project o how z) ≡ outcome_map (project o how) (through_value n (name l) fieldN elementN ty' z)
    unfolding project
    no_name l ty ty' how z (related_struct {i = i} r) h = absurd (h i refl)
    no_name l ty ty' how (fault k) related_void h = refl
    no_name l ty ty' how z related_void h = refl
    no_name l ty ty' how (fault k) (related_plain' s) h = refl
    no_name l ty ty' how z (related_plain' s) h = refl
    no_name l ty ty' how (fault k) related_text h = refl
    no_name l ty ty' how z related_text h = refl
    no_name l ty ty' how (fault k) related_blob h = refl
    no_name l ty ty' how z related_blob h = refl
    no_name l ty ty' how (fault k) related_untyped h = refl
    no_name l ty ty' how z related_untyped h = refl
    no_name l ty ty' how (fault k) related_interface h = refl
    no_name l ty ty' how z related_interface h = refl
    no_name l ty ty' how (fault k) (related_list r) h = refl
    no_name l ty ty' how z (related_list r) h = refl

    no_index : (j : ℕ) (ty ty' : Ty) (how : As) (z : Reading) → Related o n R ty ty' → ((e : Ty) → ty ≡ list e → ⊥) → through_value o (index j) fieldO elementO ty (project o how z) ≡ outcome_map (project o how) (through_value n (index j) fieldN elementN ty' z)
    unfolding project
    no_index j ty ty' how z (related_list {a = a} r) h = absurd (h a refl)
    no_index j ty ty' how (fault k) related_void h = refl
    no_index j ty ty' how z related_void h = refl
    no_index j ty ty' how (fault k) (related_plain' s) h = refl
    no_index j ty ty' how z (related_plain' s) h = refl
    no_index j ty ty' how (fault k) related_text h = refl
    no_index j ty ty' how z related_text h = refl
    no_index j ty ty' how (fault k) related_blob h = refl
    no_index j ty ty' how z related_blob h = refl
    no_index j ty ty' how (fault k) related_untyped h = refl
    no_index j ty ty' how z related_untyped h = refl
    no_index j ty ty' how (fault k) related_interface h = refl
    no_index j ty ty' how z related_interface h = refl
    no_index j ty ty' how (fault k) (related_struct r) h = refl
    no_index j ty ty' how z (related_struct r) h = refl

    -- an opened value
    opened_step : (st : Step) (ty ty' : Ty) (d t : Tree) → related o n pairs ty ty' ≡ true → into_type [] o n st ty ty' go ≡ true
        → let z : Reading = opened n ty' d (read n t ty') in through_value o st fieldO elementO ty (project o (as_type ty d) z) ≡ outcome_map (project o (as_type ty d)) (through_value n st fieldN elementN ty' z)
    opened_step (name l) (struct i) (struct j) d t h k = struct_name l i j d _ h k (opened-struct-seen n j d t)
    opened_step (index i) (list a) (list b) d t h k = list_index i a b d _ h k (opened-list-seen n b d t)
    opened_step (name l) void ty' d t h k = no_name l void ty' (as_type void d) _ (related-pairs o n pairs void ty' h) (λ i e. cc e)
    opened_step (name l) (plain p) ty' d t h k = no_name l (plain p) ty' (as_type (plain p) d) _ (related-pairs o n pairs (plain p) ty' h) (λ i e. cc e)
    opened_step (name l) text ty' d t h k = no_name l text ty' (as_type text d) _ (related-pairs o n pairs text ty' h) (λ i e. cc e)
    opened_step (name l) blob ty' d t h k = no_name l blob ty' (as_type blob d) _ (related-pairs o n pairs blob ty' h) (λ i e. cc e)
    opened_step (name l) untyped ty' d t h k = no_name l untyped ty' (as_type untyped d) _ (related-pairs o n pairs untyped ty' h) (λ i e. cc e)
    opened_step (name l) interface ty' d t h k = no_name l interface ty' (as_type interface d) _ (related-pairs o n pairs interface ty' h) (λ i e. cc e)
    opened_step (name l) (list a) ty' d t h k = no_name l (list a) ty' (as_type (list a) d) _ (related-pairs o n pairs (list a) ty' h) (λ i e. cc e)
    opened_step (index i) void ty' d t h k = no_index i void ty' (as_type void d) _ (related-pairs o n pairs void ty' h) (λ x e. cc e)
    opened_step (index i) (plain p) ty' d t h k = no_index i (plain p) ty' (as_type (plain p) d) _ (related-pairs o n pairs (plain p) ty' h) (λ x e. cc e)
    opened_step (index i) text ty' d t h k = no_index i text ty' (as_type text d) _ (related-pairs o n pairs text ty' h) (λ x e. cc e)
    opened_step (index i) blob ty' d t h k = no_index i blob ty' (as_type blob d) _ (related-pairs o n pairs blob ty' h) (λ x e. cc e)
    opened_step (index i) untyped ty' d t h k = no_index i untyped ty' (as_type untyped d) _ (related-pairs o n pairs untyped ty' h) (λ x e. cc e)
    opened_step (index i) interface ty' d t h k = no_index i interface ty' (as_type interface d) _ (related-pairs o n pairs interface ty' h) (λ x e. cc e)
    opened_step (index i) (struct j) ty' d t h k = no_index i (struct j) ty' (as_type (struct j) d) _ (related-pairs o n pairs (struct j) ty' h) (λ x e. cc e)
    opened_step st ty ty' d t h k = absurd (cc h)

    value_step : (st : Step) (ty ty' : Ty) (d t : Tree) → related o n pairs ty ty' ≡ true → into_type [] o n st ty ty' go ≡ true
        → through_value o st fieldO elementO ty (opened o ty d (project o (as_type ty d) (read n t ty'))) ≡ outcome_map (project o (as_type ty d)) (through_value n st fieldN elementN ty' (opened n ty' d (read n t ty')))
    value_step st ty ty' d t h k = ap (through_value o st fieldO elementO ty) (opened_view ty ty' d (read n t ty') (related-pairs o n pairs ty ty' h)) ∙ opened_step st ty ty' d t h k

    -- ---- through a field

    pointer_field : (st : Step) (i j : ℕ) (ty ty' : Ty) (d d' : Option Tree) (z : Reading)
        → through_value o st fieldO elementO ty (opened o ty (default_or_null d) (project o (as_type ty (default_or_null d)) z)) ≡ outcome_map (project o (as_type ty (default_or_null d))) (through_value n st fieldN elementN ty' (opened n ty' (default_or_null d') z))
        → through_field o st fieldO elementO (pointer_slot i ty d) (project o (as_type ty (default_or_null d)) z) ≡ outcome_map (project o (as_type ty (default_or_null d))) (through_field n st fieldN elementN (pointer_slot j ty' d') z)
    unfolding project
    pointer_field (name l) i j ty ty' d d' inactive h = refl
    pointer_field (name l) i j ty ty' d d' null_pointer h = h
    pointer_field (name l) i j ty ty' d d' (fault k) h = h
    pointer_field (name l) i j ty ty' d d' (number k) h = h
    pointer_field (name l) i j ty ty' d d' (text_of k) h = h
    pointer_field (name l) i j ty ty' d d' (blob_of k) h = h
    pointer_field (name l) i j ty ty' d d' (list_of k) h = h
    pointer_field (name l) i j ty ty' d d' (record_as k) h = h
    pointer_field (name l) i j ty ty' d d' (opaque k) h = h
    pointer_field (index x) i j ty ty' d d' inactive h = refl
    pointer_field (index x) i j ty ty' d d' null_pointer h = h
    pointer_field (index x) i j ty ty' d d' (fault k) h = h
    pointer_field (index x) i j ty ty' d d' (number k) h = h
    pointer_field (index x) i j ty ty' d d' (text_of k) h = h
    pointer_field (index x) i j ty ty' d d' (blob_of k) h = h
    pointer_field (index x) i j ty ty' d d' (list_of k) h = h
    pointer_field (index x) i j ty ty' d d' (record_as k) h = h
    pointer_field (index x) i j ty ty' d d' (opaque k) h = h

    inactive_pointer : (st : Step) (i j : ℕ) (ty ty' : Ty) (d d' : Option Tree) → through_field o st fieldO elementO (pointer_slot i ty d) inactive ≡ outcome_map (project o (as_type ty (default_or_null d))) (through_field n st fieldN elementN (pointer_slot j ty' d') inactive)
    inactive_pointer (name l) i j ty ty' d d' = refl
    inactive_pointer (index x) i j ty ty' d d' = refl

    pointer_step : (st : Step) (i j : ℕ) (ty ty' : Ty) (d d' : Option Tree) → keeps_body o n pairs (pointer_slot i ty d) (pointer_slot j ty' d') ≡ true → into_type [] o n st ty ty' go ≡ true → FitsDefault d → FitsDefault d' → (a : Bool) (f : ℕ → Tree)
        → let z : Reading = only_if a (read n (f j) ty') in through_field o st fieldO elementO (pointer_slot i ty d) (project o (as_type ty (default_or_null d)) z) ≡ outcome_map (project o (as_type ty (default_or_null d))) (through_field n st fieldN elementN (pointer_slot j ty' d') z)
    unfolding keeps project
    pointer_step st i j ty ty' d d' h k x y false f = inactive_pointer st i j ty ty' d d'
    pointer_step st i j ty ty' d d' h k x y true f =
        let three = and_three (i == j) (related o n pairs ty ty') (same_default d d') h in
        let same : default_or_null d ≡ default_or_null d' = ap default_or_null (default-same d d' three.2 x y) in
        pointer_field st i j ty ty' d d' (read n (f j) ty')
        (value_step st ty ty' (default_or_null d) (f j) three.1 k ∙ ap (λ z. outcome_map (project o (as_type ty (default_or_null d))) (through_value n st fieldN elementN ty' (opened n ty' z (read n (f j) ty')))) same)

    field_step : (st : Step) → FieldView (st ∷ path)
    unfolding keeps is_admitted_from step_field body_of project
    field_step (name l) bits bits' (void_slot i) (void_slot j) h k x y g g' true size section f = refl
    field_step (name l) bits bits' (void_slot i) (void_slot j) h k x y g g' false size section f = refl
    field_step (index z) bits bits' (void_slot i) (void_slot j) h k x y g g' true size section f = refl
    field_step (index z) bits bits' (void_slot i) (void_slot j) h k x y g g' false size section f = refl
    field_step (name l) bits bits' (plain_slot p at d) (plain_slot q at' d') h k x y g g' true size section f = refl
    field_step (name l) bits bits' (plain_slot p at d) (plain_slot q at' d') h k x y g g' false size section f = refl
    field_step (index z) bits bits' (plain_slot p at d) (plain_slot q at' d') h k x y g g' true size section f = refl
    field_step (index z) bits bits' (plain_slot p at d) (plain_slot q at' d') h k x y g g' false size section f = refl
    field_step (name l) bits bits' (group_slot z) (group_slot z') h k x y g g' false size section f = refl
    field_step (name l) bits bits' (group_slot z) (group_slot z') h k x y g g' true size section f =
        ap (outcome_map record_as) (name_view l bits bits' z z' h k x y g g' size section f)
        ∙ map_both record_as (project_fields o (fields_in z)) (project o (as_group z)) record_as (λ v. refl) (on_name fieldN l (fields_in z') (shape_record z' size section (kids_of n f)))
    field_step (index i) bits bits' (group_slot z) (group_slot z') h k x y g g' true size section f = refl
    field_step (index i) bits bits' (group_slot z) (group_slot z') h k x y g g' false size section f = refl
    field_step (name l) bits bits' (pointer_slot i ty d) (pointer_slot j ty' d') h k x y g g' a size section f = pointer_step (name l) i j ty ty' d d' h k x.1 y.1 a f
    field_step (index z) bits bits' (pointer_slot i ty d) (pointer_slot j ty' d') h k x y g g' a size section f = pointer_step (index z) i j ty ty' d d' h k x.1 y.1 a f
    field_step st bits bits' b b' h k x y g g' a size section f = absurd (cc h)

    -- ---- through an element

    element_step : (st : Step) (ty ty' : Ty) → related o n pairs ty ty' ≡ true → into_type [] o n st ty ty' go ≡ true → (size : Extent) (section : ℕ) (f : ℕ → Tree)
        → let x : Reading = element_as n ty' size section (kids_of n f) in through_value o st fieldO elementO ty (opened o ty null (project o (as_type ty null) x)) ≡ outcome_map (project o (as_type ty null)) (through_value n st fieldN elementN ty' (opened n ty' null x))
    unfolding project
    element_step (name l) (struct i) (struct j) h k size section f = struct_name l i j null _ h k (seen_struct size section f)
    element_step (index i) (struct x) (struct y) h k size section f = refl
    element_step (name l) void void h k size section f = refl
    element_step (index i) void void h k size section f = refl
    element_step (name l) (plain p) (plain q) h k size section f = refl
    element_step (index i) (plain p) (plain q) h k size section f = refl
    element_step st text text h k size section f = value_step st text text null (f 0) h k
    element_step st blob blob h k size section f = value_step st blob blob null (f 0) h k
    element_step st untyped untyped h k size section f = value_step st untyped untyped null (f 0) h k
    element_step st interface interface h k size section f = value_step st interface interface null (f 0) h k
    element_step st (list a) (list b) h k size section f = value_step st (list a) (list b) null (f 0) h k
    element_step st ty ty' h k size section f = absurd (cc h)

  mutual
    unfolding step_field step_element is_admitted_from

    pub field-view : (path : List Step) → FieldView path
    field-view [] = end_view
    field-view (st ∷ path) = field_step path (field-view path) (element-view' path) st

    pub element-view' : (path : List Step) → ElementView path
    element-view' [] = element_end_view
    element-view' (name l ∷ path) = λ ty ty' h k size section f. element_step path (field-view path) (element-view' path) (name l) ty ty' h k size section f
    element-view' (index i ∷ path) = λ ty ty' h k size section f. element_step path (field-view path) (element-view' path) (index i) ty ty' h k size section f

  -- THE LAW, from the root on
  pub root-view : (path : List Step) (l : List ℕ) (i j : ℕ) → has_pair pairs i j ≡ true → is_admitted_from [] o n (name l ∷ path) verb (at_element (struct i) (struct j)) ≡ true → (size : Extent) (section : ℕ) (f : ℕ → Tree)
      → let r : Record = shape_record (n.shape_of j) size section (kids_of n f) in
      on_name (step_field o path verb) l (fields_in (o.shape_of i)) (project_fields o (fields_in (o.shape_of i)) r) ≡ outcome_map (project_fields o (fields_in (o.shape_of i))) (on_name (step_field n path verb) l (fields_in (n.shape_of j)) r)
  unfolding is_admitted_from
  root-view path l i j h k size section f =
      name_view path (field-view path) (element-view' path) l (64 * words_of_shape (o.shape_of i)) (64 * words_of_shape (n.shape_of j)) (o.shape_of i) (n.shape_of j) (closed i j h) k (within i) (within' j) (good i j h) (good' j) size section f
