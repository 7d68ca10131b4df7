-- A compatible newer schema keeps the older shapes, and so its records, seen as the older, are the older's.
use Rattle.std.proofs.Common.{◌≡◌, ℕ, Bool, true, false, ◌&&◌, ◌||◌, ◌==◌, nat_le, Option, Some, None, List, [], ◌∷◌, length, refl, sym, ◌∙◌, ap, subst, arith}
use Rattle.std.specs.List.{list_all}
use Rattle.std.specs.Str.{bytes_eq}
use Rattle.capnp_model.specs.Trees.{Tree, null, capability, structure, plain_list, pointer_list, struct_list}
use Rattle.capnp_model.specs.Schemas.{PlainType, bool, int, uint, «enum», Ty, void, plain, text, blob, untyped, interface, struct, list, Node, Shape, shape, Fields, no_fields, field, Body, void_slot, plain_slot, pointer_slot, group_slot, Schema}
use Rattle.capnp_model.specs.Readings.{Children, whole_words, no_children, read_child, shape_record, discriminant, is_active, record_by_shape, record_of}
use Rattle.capnp_model.specs.Accepted.{schema_of, IsAccepted}
use Rattle.capnp_model.specs.Compatible.{Pairs, has_pair, related_plain, related, same_option, member_count, is_new, keeps_union, same_default, keeps, keeps_fields, keeps_body, IsCompatible}
use Rattle.capnp_model.specs.Projection.{project_fields, projected}
use Rattle.capnp_model.specs.Printing.{fields_in}
use Rattle.capnp_model.proofs.lemmas.KeptRules.{and_three, and_four, MembersIn, OwnsMembers, AllOwn, OwnBody, unions_are_good, shape_owns}
use Rattle.capnp_model.proofs.lemmas.OlderReading.{SamePlain, same_bool, same_int, same_uint, same_enum, Related, related_void, related_plain', related_text, related_blob, related_untyped, related_interface, related_struct, related_list, SameActive, KeptShape, kept, KeptFields, kept_all, kept_added, kept_field, KeptBody, kept_void, kept_plain, kept_pointer, kept_group, KidsAgree, shape_record-project, read_child-project, no_children_agree}
use Rattle.capnp_model.proofs.lemmas.Tests.{same_number, and_left, and_right}

pub option_is : (a b : Option ℕ) → same_option a b ≡ true → a ≡ b
option_is None None h = refl
option_is (Some a) (Some b) h = ap Some (same_number a b h)
option_is None (Some b) h = absurd (cc h)
option_is (Some a) None h = absurd (cc h)

module _ (o n : Schema) (pairs : Pairs) where
  abbrev pub HasPair : ℕ → ℕ → Type 0
  HasPair i j = has_pair pairs i j ≡ true

  plain_is : (p q : PlainType) → related_plain o n p q ≡ true → SamePlain p q
  plain_is bool bool h = same_bool
  plain_is (int v) (int w) h = subst (λ z. SamePlain (int v) (int z)) (same_number v w h) (same_int v)
  plain_is (uint v) (uint w) h = subst (λ z. SamePlain (uint v) (uint z)) (same_number v w h) (same_uint v)
  plain_is («enum» i) («enum» j) h = same_enum i j
  plain_is _ _ h = absurd (cc h)

  related_is : (a b : Ty) → related o n pairs a b ≡ true → Related o n HasPair a b
  related_is void void h = related_void
  related_is (plain p) (plain q) h = related_plain' (plain_is p q h)
  related_is text text h = related_text
  related_is blob blob h = related_blob
  related_is untyped untyped h = related_untyped
  related_is interface interface h = related_interface
  related_is (struct i) (struct j) h = related_struct h
  related_is (list a) (list b) h = related_list (related_is a b h)
  related_is _ _ h = absurd (cc h)

  -- under unions of which the newer keeps the older, the older's fields are active alike
  active_alike : (u u' m : Option ℕ) → keeps_union u u' ≡ true → (u ≡ None → m ≡ None) → SameActive o n HasPair u u' m
  active_alike (Some a) u' m h own size section = ap (λ z. is_active m (discriminant z size section)) (option_is (Some a) u' h)
  active_alike None u' m h own size section = by m (own refl)
    where
      by : (k : Option ℕ) → k ≡ None → is_active k (discriminant None size section) ≡ is_active k (discriminant u' size section)
      by None e = refl
      by (Some k) e = absurd (cc e)

  owns_field : (u : Option ℕ) (l : List ℕ) (m : Option ℕ) (b : Body) (fs : Fields) → MembersIn u (field l m b fs) → (u ≡ None → m ≡ None) × MembersIn u fs
  owns_field (Some a) l m b fs h = ((λ e. absurd (cc e)), tt)
  owns_field None l m b fs h = ((λ e. h.0), h.1)

  mutual
    unfolding keeps

    pub shape_is_kept : (g g' : Shape) → keeps o n pairs g g' ≡ true → OwnsMembers g → KeptShape o n HasPair g g'
    shape_is_kept (shape nid w p u fs) (shape nid' w' p' u' fs') h own =
        let all = and_four (nat_le w w') (nat_le p p') (keeps_union u u') (keeps_fields o n pairs (member_count fs) fs fs') h in
        kept (fields_are_kept u u' fs fs' (member_count fs) all.2 own.0 own.1 all.3)

    fields_are_kept : (u u' : Option ℕ) (fs fs' : Fields) (count : ℕ) → keeps_union u u' ≡ true → MembersIn u fs → AllOwn fs → keeps_fields o n pairs count fs fs' ≡ true → KeptFields o n HasPair u u' fs fs'
    fields_are_kept u u' no_fields no_fields count k own all h = kept_all
    fields_are_kept u u' (field l m b fs) no_fields count k own all h = absurd (cc h)
    fields_are_kept u u' no_fields (field l' m' b' fs') count k own all h = kept_added tt (fields_are_kept u u' no_fields fs' count k own all (and_right (is_new count m') (keeps_fields o n pairs count no_fields fs') h))
    fields_are_kept u u' (field l m b fs) (field l' m' b' fs') count k own all h =
        by (bytes_eq l l') refl (λ x. fields_are_kept u u' fs fs' count k (owns_field u l m b fs own).1 all.1 x) (λ x. fields_are_kept u u' (field l m b fs) fs' count k own all x) (λ x. body_is_kept b b' x all.0) h
      where
        by : (c : Bool) → bytes_eq l l' ≡ c → (keeps_fields o n pairs count fs fs' ≡ true → KeptFields o n HasPair u u' fs fs') → (keeps_fields o n pairs count (field l m b fs) fs' ≡ true → KeptFields o n HasPair u u' (field l m b fs) fs')
            → (keeps_body o n pairs b b' ≡ true → KeptBody o n HasPair b b')
            → (elim c as (λ (x : Bool). Bool) [ true ↦ same_option m m' && keeps_body o n pairs b b' && keeps_fields o n pairs count fs fs' | false ↦ is_new count m' && keeps_fields o n pairs count (field l m b fs) fs' ]) ≡ true
            → KeptFields o n HasPair u u' (field l m b fs) (field l' m' b' fs')
        by true e rest added body x =
            let three = and_three (same_option m m') (keeps_body o n pairs b b') (keeps_fields o n pairs count fs fs') x in
            subst (λ z. KeptFields o n HasPair u u' (field l m b fs) (field l' z b' fs')) (option_is m m' three.0)
            (kept_field e (active_alike u u' m k (owns_field u l m b fs own).0) (body three.1) (rest three.2))
        by false e rest added body x = kept_added e (added (and_right (is_new count m') (keeps_fields o n pairs count (field l m b fs) fs') x))

    body_is_kept : (b b' : Body) → keeps_body o n pairs b b' ≡ true → OwnBody b → KeptBody o n HasPair b b'
    body_is_kept (void_slot i) (void_slot j) h own = subst (λ z. KeptBody o n HasPair (void_slot i) (void_slot z)) (same_number i j h) kept_void
    body_is_kept (plain_slot p at d) (void_slot j) h own = absurd (cc h)
    body_is_kept (pointer_slot i ty d) (void_slot j) h own = absurd (cc h)
    body_is_kept (group_slot g) (void_slot j) h own = absurd (cc h)
    body_is_kept (plain_slot p at d) (plain_slot q at' d') h own =
        let three = and_three (related_plain o n p q) (at == at') (d == d') h in
        subst (λ z. KeptBody o n HasPair (plain_slot p at d) (plain_slot q z d')) (same_number at at' three.1)
        (subst (λ z. KeptBody o n HasPair (plain_slot p at d) (plain_slot q at z)) (same_number d d' three.2) (kept_plain (plain_is p q three.0)))
    body_is_kept (void_slot j) (plain_slot q at' d') h own = absurd (cc h)
    body_is_kept (pointer_slot i ty d) (plain_slot q at' d') h own = absurd (cc h)
    body_is_kept (group_slot g) (plain_slot q at' d') h own = absurd (cc h)
    body_is_kept (pointer_slot i ty d) (pointer_slot j ty' d') h own =
        let three = and_three (i == j) (related o n pairs ty ty') (same_default d d') h in
        subst (λ z. KeptBody o n HasPair (pointer_slot i ty d) (pointer_slot z ty' d')) (same_number i j three.0) (kept_pointer (related_is ty ty' three.1))
    body_is_kept (void_slot i) (pointer_slot j ty' d') h own = absurd (cc h)
    body_is_kept (plain_slot p at d) (pointer_slot j ty' d') h own = absurd (cc h)
    body_is_kept (group_slot g) (pointer_slot j ty' d') h own = absurd (cc h)
    body_is_kept (group_slot g) (group_slot g') h own = kept_group (shape_is_kept g g' h own)
    body_is_kept (void_slot j) (group_slot g') h own = absurd (cc h)
    body_is_kept (plain_slot p at d) (group_slot g') h own = absurd (cc h)
    body_is_kept (pointer_slot i ty d) (group_slot g') h own = absurd (cc h)

  -- a pair among them is kept
  pub pair_is_kept : (qs : Pairs) (i j : ℕ) → list_all (λ p. keeps o n pairs (o.shape_of p.0) (n.shape_of p.1)) qs ≡ true → has_pair qs i j ≡ true → keeps o n pairs (o.shape_of i) (n.shape_of j) ≡ true
  pair_is_kept [] i j h k = absurd (cc k)
  pair_is_kept (q ∷ qs) i j h k = by (q.0 == i) (q.1 == j) refl refl (pair_is_kept qs i j (and_right (keeps o n pairs (o.shape_of q.0) (n.shape_of q.1)) _ h)) k
    where
      by : (a b : Bool) → (q.0 == i) ≡ a → (q.1 == j) ≡ b → (has_pair qs i j ≡ true → keeps o n pairs (o.shape_of i) (n.shape_of j) ≡ true) → ((a && b) || has_pair qs i j) ≡ true → keeps o n pairs (o.shape_of i) (n.shape_of j) ≡ true
      by true true e e' more x =
          ap (λ z. keeps o n pairs (o.shape_of z) (n.shape_of j)) (sym (same_number q.0 i e)) ∙ ap (λ z. keeps o n pairs (o.shape_of q.0) (n.shape_of z)) (sym (same_number q.1 j e'))
          ∙ and_left (keeps o n pairs (o.shape_of q.0) (n.shape_of q.1)) _ h
      by true false e e' more x = more x
      by false b e e' more x = more x

-- THE LAW: the record under an older schema is the older view of the record under a compatible newer one.
pub older_record : (nodes nodes' : List Node) (older newer : ℕ) (t : Tree) → IsAccepted nodes → IsCompatible (schema_of nodes) (schema_of nodes') older newer
    → record_of (schema_of nodes) older t ≡ projected (schema_of nodes) older (record_of (schema_of nodes') newer t)
unfolding schema_of record_of record_by_shape projected
older_record nodes nodes' older newer t accepted c = by t
  where
    o : Schema
    o = schema_of nodes

    n : Schema
    n = schema_of nodes'

    R : ℕ → ℕ → Type 0
    R = HasPair o n c.pairs

    closed : (i j : ℕ) → R i j → KeptShape o n R (o.shape_of i) (n.shape_of j)
    closed i j h = shape_is_kept o n c.pairs (o.shape_of i) (n.shape_of j) (pair_is_kept o n c.pairs c.pairs i j c.are_kept h) (shape_owns nodes (unions_are_good nodes accepted) (length nodes) i)

    seen : (section : ℕ) (ko kn : Children) → KidsAgree o n R ko kn → shape_record (o.shape_of older) whole_words section ko ≡ project_fields o (fields_in (o.shape_of older)) (shape_record (n.shape_of newer) whole_words section kn)
    seen section ko kn agree = shape_record-project o n R (o.shape_of older) (n.shape_of newer) whole_words section ko kn agree (closed older newer c.has_roots)

    bare : shape_record (o.shape_of older) whole_words 0 no_children ≡ project_fields o (fields_in (o.shape_of older)) (shape_record (n.shape_of newer) whole_words 0 no_children)
    bare = seen 0 no_children no_children (no_children_agree o n R closed)

    by : (t : Tree) → record_by_shape o (o.shape_of older) t ≡ project_fields o (fields_in (o.shape_of older)) (record_by_shape n (n.shape_of newer) t)
    by null = bare
    by (capability i) = bare
    by (structure words section kids) = seen section (read_child o kids) (read_child n kids) (read_child-project o n R closed kids)
    by (plain_list size count section) = bare
    by (pointer_list ts) = bare
    by (struct_list w p es) = bare
