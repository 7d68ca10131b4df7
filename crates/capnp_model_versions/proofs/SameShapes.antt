-- Groups of two versions with the same fields: cleared, or set from one message, they leave the same.
use Rattle.std.proofs.Common.{◌≡◌, ℕ, ◌+◌, ◌^◌, ◌<◌, ◌≤◌, Bool, true, false, List, [], ◌∷◌, ◌++◌, Option, Some, None, refl, sym, ◌∙◌, ap, subst, arith}
use Rattle.std.proofs.lemmas.Nat.{pow_pos}
use Rattle.capnp_model.specs.Trees.{Tree, null, capability, structure, plain_list, pointer_list, struct_list, none, no_elements, child, is_null}
use Rattle.capnp_model.specs.Sections.{bits_at}
use Rattle.capnp_model.specs.Trimming.{trim}
use Rattle.capnp_model.specs.Schemas.{PlainType, bool, int, uint, «enum», width, Ty, plain, text, blob, list, Shape, shape, Fields, no_fields, field, Body, void_slot, plain_slot, pointer_slot, group_slot, Schema, default_or_null}
use Rattle.capnp_model.specs.Readings.{whole_words, discriminant}
use Rattle.capnp_model.specs.Groups.{empty_tree, source_tree}
use Rattle.capnp_model.specs.Edits.{Cell, Edit, put_bits, put_child, mark, is_kept, edit_if, cleared, cleared_fields, cleared_body, pointer_writes, has_turn, group_writes, field_writes, body_writes, after_writes, from_message}
use Rattle.capnp_model.proofs.lemmas.OlderReading.{SamePlain, same_bool, same_int, same_uint, same_enum, Related, related_void, related_plain', related_text, related_blob, related_untyped, related_interface, related_struct, related_list}
use Rattle.capnp_model_versions.specs.Whole.{IsWhole, AreWhole}
use Rattle.capnp_model_versions.proofs.lemmas.WholeValues.{whole-child}
use Rattle.capnp_model_versions.proofs.Alike.{alike-self, Alike, SameCell, Agree, agree-same, agree-more, agree-then, agree-put_bits, agree-put_child}

-- ---- edits that do the same

abbrev pub Congruent : ℕ → Edit → Edit → Type 0
Congruent bits f g = (c d : Cell) → SameCell c d → Agree bits c (f c) (g d)

abbrev pub AllCongruent : ℕ → List Edit → List Edit → Type 0
AllCongruent bits [] [] = Unit {0}
AllCongruent bits (f ∷ fs) (g ∷ gs) = Congruent bits f g × AllCongruent bits fs gs
AllCongruent bits _ _ = ⊥

pub congruent-then : (bits : ℕ) (f g f' g' : Edit) → Congruent bits f g → Congruent bits f' g' → Congruent bits (λ c. f' (f c)) (λ c. g' (g c))
congruent-then bits f g f' g' h k c d s = let a = h c d s in agree-then bits c (f c) (g d) (f' (f c)) (g' (g d)) a (k (f c) (g d) a.same)

pub no_change : (bits : ℕ) → Congruent bits (λ c. c) (λ c. c)
no_change bits c d s = agree-more 0 bits c c d (omega arith) (agree-same c d s)

congruent-append : (bits : ℕ) (fs gs fs' gs' : List Edit) → AllCongruent bits fs gs → AllCongruent bits fs' gs' → AllCongruent bits (fs ++ fs') (gs ++ gs')
congruent-append bits [] [] fs' gs' h k = k
congruent-append bits [] (g ∷ gs) fs' gs' h k = absurd h
congruent-append bits (f ∷ fs) [] fs' gs' h k = absurd h
congruent-append bits (f ∷ fs) (g ∷ gs) fs' gs' h k = (h.0, congruent-append bits fs gs fs' gs' h.1 k)

congruent-writes : (bits : ℕ) (fs gs : List Edit) → AllCongruent bits fs gs → Congruent bits (after_writes fs) (after_writes gs)
congruent-writes bits [] [] h = no_change bits
congruent-writes bits [] (g ∷ gs) h = absurd h
congruent-writes bits (f ∷ fs) [] h = absurd h
congruent-writes bits (f ∷ fs) (g ∷ gs) h = congruent-then bits f g (after_writes fs) (after_writes gs) h.0 (congruent-writes bits fs gs h.1)

-- ---- unions

-- the discriminant lies within so many bits
abbrev pub UnionWithin : ℕ → Option ℕ → Type 0
UnionWithin bits None = Unit {0}
UnionWithin bits (Some at) = at + 16 ≤ bits

-- a member is one of a union, and its value fits
abbrev pub MarkWithin : ℕ → Option ℕ → Option ℕ → Type 0
MarkWithin bits u None = Unit {0}
MarkWithin bits (Some at) (Some k) = (at + 16 ≤ bits) × (k < 2 ^ 16)
MarkWithin bits None (Some k) = ⊥

pub congruent-mark : (bits : ℕ) (u m : Option ℕ) → MarkWithin bits u m → Congruent bits (mark u m) (mark u m)
congruent-mark bits (Some at) (Some k) h c d s = agree-put_bits bits at 16 k c d h.1 h.0 s
congruent-mark bits None (Some k) h c d s = absurd h
congruent-mark bits (Some at) None h c d s = no_change bits c d s
congruent-mark bits None None h c d s = no_change bits c d s

congruent-first : (bits : ℕ) (u : Option ℕ) → UnionWithin bits u → Congruent bits (mark u (Some 0)) (mark u (Some 0))
congruent-first bits (Some at) h c d s = agree-put_bits bits at 16 0 c d (omega arith) h s
congruent-first bits None h c d s = no_change bits c d s

-- ---- shapes

-- any two structs may stand for one another
abbrev pub AnyPair : ℕ → ℕ → Type 0
AnyPair i j = Unit {0}

module _ (o n : Schema) (bits : ℕ) where
  abbrev pub SameType : Ty → Ty → Type 0
  SameType ty ty' = Related o n AnyPair ty ty'

  mutual
    -- just the same fields, all within so many bits
    pub data SameShape : Shape → Shape → Type 0 where
      same_shape : {nid nid' w w' p p' : ℕ} {u : Option ℕ} {fs fs' : Fields} → UnionWithin bits u → SameFields u fs fs' → SameShape (shape nid w p u fs) (shape nid' w' p' u fs')

    pub data SameFields : Option ℕ → Fields → Fields → Type 0 where
      same_none : {u : Option ℕ} → SameFields u no_fields no_fields
      same_field : {u m : Option ℕ} {l l' : List ℕ} {b b' : Body} {fs fs' : Fields} → MarkWithin bits u m → SameBody b b' → SameFields u fs fs' → SameFields u (field l m b fs) (field l' m b' fs')

    pub data SameBody : Body → Body → Type 0 where
      same_void : {i j : ℕ} → SameBody (void_slot i) (void_slot j)
      same_plain' : {p q : PlainType} {at d : ℕ} → SamePlain p q → at + width p ≤ bits → d < 2 ^ width p → SameBody (plain_slot p at d) (plain_slot q at d)
      same_pointer : {i : ℕ} {ty ty' : Ty} {d d' : Option Tree} → SameType ty ty' → default_or_null d ≡ default_or_null d' → IsWhole (default_or_null d) → SameBody (pointer_slot i ty d) (pointer_slot i ty' d')
      same_group : {g g' : Shape} → SameShape g g' → SameBody (group_slot g) (group_slot g')

  pub width-same : {p q : PlainType} → SamePlain p q → width p ≡ width q
  width-same same_bool = refl
  width-same (same_int w) = refl
  width-same (same_uint w) = refl
  width-same (same_enum i j) = refl

  -- ---- cleared groups

  alike-null : Alike null null
  alike-null = record { trims = refl; whole = tt; whole' = tt }

  same_if : (b : Bool) (f g : Edit) → Congruent bits f g → Congruent bits (edit_if b f) (edit_if b g)
  same_if true f g h = h
  same_if false f g h = no_change bits

  mutual
    unfolding cleared

    pub congruent-cleared : (g g' : Shape) → SameShape g g' → Congruent bits (cleared g) (cleared g')
    congruent-cleared g g' (same_shape {u = u} {fs = fs} {fs' = fs'} h k) c d s =
        let a = congruent-first bits u h c d s in
        agree-then bits c (mark u (Some 0) c) (mark u (Some 0) d) _ _ a (congruent-cleared_fields u fs fs' k (mark u (Some 0) c) (mark u (Some 0) d) a.same)

    congruent-cleared_fields : (u : Option ℕ) (fs fs' : Fields) → SameFields u fs fs' → Congruent bits (cleared_fields fs) (cleared_fields fs')
    congruent-cleared_fields u fs fs' same_none c d s = no_change bits c d s
    congruent-cleared_fields u fs fs' (same_field {m = m} {b = b} {b' = b'} {fs = gs} {fs' = gs'} mark' same rest) c d s =
        let a = same_if (is_kept m) (cleared_body b) (cleared_body b') (congruent-cleared_body b b' same) c d s in
        agree-then bits c (edit_if (is_kept m) (cleared_body b) c) (edit_if (is_kept m) (cleared_body b') d) _ _ a (congruent-cleared_fields u gs gs' rest _ _ a.same)

    congruent-cleared_body : (b b' : Body) → SameBody b b' → Congruent bits (cleared_body b) (cleared_body b')
    congruent-cleared_body b b' same_void c d s = no_change bits c d s
    congruent-cleared_body b b' (same_plain' {p = p} {q = q} {at = at} same le small) c d s =
        subst (λ z. Agree bits c (put_bits at (width p) 0 c) (put_bits at z 0 d)) (width-same same) (agree-put_bits bits at (width p) 0 c d (pow_pos (width p)) le s)
    congruent-cleared_body b b' (same_pointer {i = i} types defaults whole) c d s = agree-more 0 bits c _ _ (omega arith) (agree-put_child i null null c d alike-null s)
    congruent-cleared_body b b' (same_group {g = g} {g' = g'} h) c d s = congruent-cleared g g' h c d s

  -- ---- what is set for a pointer

  alike-empty : (ty ty' : Ty) → SameType ty ty' → Alike (empty_tree o ty) (empty_tree n ty')
  alike-empty ty ty' related_void = alike-null
  alike-empty ty ty' (related_plain' same) = alike-null
  alike-empty ty ty' related_text = alike-self (empty_tree o text) tt
  alike-empty ty ty' related_blob = alike-self (empty_tree o blob) tt
  alike-empty ty ty' related_untyped = alike-null
  alike-empty ty ty' related_interface = alike-null
  alike-empty ty ty' (related_struct r) = alike-self (structure 0 0 none) (omega arith, tt)
  alike-empty ty ty' (related_list related_void) = alike-self (plain_list 0 0 0) tt
  alike-empty ty ty' (related_list (related_plain' same_bool)) = alike-self (empty_tree o (list (plain bool))) tt
  alike-empty ty ty' (related_list (related_plain' (same_int w))) = alike-self (empty_tree o (list (plain (int w)))) tt
  alike-empty ty ty' (related_list (related_plain' (same_uint w))) = alike-self (empty_tree o (list (plain (uint w)))) tt
  alike-empty ty ty' (related_list (related_plain' (same_enum i j))) = alike-self (empty_tree o (list (plain («enum» i)))) tt
  alike-empty ty ty' (related_list related_text) = alike-self (pointer_list none) tt
  alike-empty ty ty' (related_list related_blob) = alike-self (pointer_list none) tt
  alike-empty ty ty' (related_list related_untyped) = alike-self (pointer_list none) tt
  alike-empty ty ty' (related_list related_interface) = alike-self (pointer_list none) tt
  alike-empty ty ty' (related_list (related_struct r)) = alike-self (struct_list 0 0 no_elements) tt
  alike-empty ty ty' (related_list (related_list h)) = alike-self (pointer_list none) tt

  alike-default : (ty ty' : Ty) (d : Tree) → SameType ty ty' → IsWhole d → Alike (source_tree o ty d null) (source_tree n ty' d null)
  alike-default ty ty' null h k = alike-empty ty ty' h
  alike-default ty ty' (capability i) h k = alike-self (capability i) k
  alike-default ty ty' (structure w m ts) h k = alike-self (structure w m ts) k
  alike-default ty ty' (plain_list z m x) h k = alike-self (plain_list z m x) k
  alike-default ty ty' (pointer_list ts) h k = alike-self (pointer_list ts) k
  alike-default ty ty' (struct_list w p es) h k = alike-self (struct_list w p es) k

  source_given : (s : Schema) (ty : Ty) (d t : Tree) → is_null t ≡ false → source_tree s ty d t ≡ t
  source_given s ty null null h = absurd (cc h)
  source_given s ty d null h = absurd (cc h)
  source_given s ty null t h = refl
  source_given s ty d t h = refl

  alike-given : (ty ty' : Ty) (d t : Tree) → is_null t ≡ false → IsWhole t → Alike (source_tree o ty d t) (source_tree n ty' d t)
  alike-given ty ty' d t h k =
      let e : source_tree o ty d t ≡ t = source_given o ty d t h in
      let e' : source_tree n ty' d t ≡ t = source_given n ty' d t h in
      record { trims = ap trim (e ∙ sym e'); whole = subst IsWhole (sym e) k; whole' = subst IsWhole (sym e') k }

  alike-source : (ty ty' : Ty) (d t : Tree) → SameType ty ty' → IsWhole d → IsWhole t → Alike (source_tree o ty d t) (source_tree n ty' d t)
  alike-source ty ty' d null h k l = alike-default ty ty' d h k
  alike-source ty ty' d (capability i) h k l = alike-given ty ty' d (capability i) refl l
  alike-source ty ty' d (structure w m ts) h k l = alike-given ty ty' d (structure w m ts) refl l
  alike-source ty ty' d (plain_list z m x) h k l = alike-given ty ty' d (plain_list z m x) refl l
  alike-source ty ty' d (pointer_list ts) h k l = alike-given ty ty' d (pointer_list ts) refl l
  alike-source ty ty' d (struct_list w p es) h k l = alike-given ty ty' d (struct_list w p es) refl l

  congruent-source : (i : ℕ) (ty ty' : Ty) (d t : Tree) (f g : Edit) → SameType ty ty' → IsWhole d → IsWhole t → Congruent bits f g → Congruent bits (λ c. put_child i (source_tree o ty d t) (f c)) (λ c. put_child i (source_tree n ty' d t) (g c))
  congruent-source i ty ty' d t f g h k l same c e s =
      let a = same c e s in
      agree-then bits c (f c) (g e) _ _ a (agree-more 0 bits (f c) _ _ (omega arith) (agree-put_child i (source_tree o ty d t) (source_tree n ty' d t) (f c) (g e) (alike-source ty ty' d t h k l) a.same))

  pointer_writes-same : (m : Option ℕ) (i : ℕ) (ty ty' : Ty) (d t : Tree) (f g : Edit) → SameType ty ty' → IsWhole d → IsWhole t → Congruent bits f g → AllCongruent bits (pointer_writes o m i ty d f t) (pointer_writes n m i ty' d g t)
  pointer_writes-same None i ty ty' d null f g h k l same = tt
  pointer_writes-same None i ty ty' d (capability j) f g h k l same = (congruent-source i ty ty' d (capability j) f g h k l same, tt)
  pointer_writes-same None i ty ty' d (structure w x ts) f g h k l same = (congruent-source i ty ty' d (structure w x ts) f g h k l same, tt)
  pointer_writes-same None i ty ty' d (plain_list z x y) f g h k l same = (congruent-source i ty ty' d (plain_list z x y) f g h k l same, tt)
  pointer_writes-same None i ty ty' d (pointer_list ts) f g h k l same = (congruent-source i ty ty' d (pointer_list ts) f g h k l same, tt)
  pointer_writes-same None i ty ty' d (struct_list w p es) f g h k l same = (congruent-source i ty ty' d (struct_list w p es) f g h k l same, tt)
  pointer_writes-same (Some m) i ty ty' d t f g h k l same = (congruent-source i ty ty' d t f g h k l same, tt)

  -- ---- groups that are set

  section_bits : (at w section : ℕ) → bits_at at w section < 2 ^ w
  section_bits at w section = let some = pow_pos w in omega arith

  module _ (from : Cell) (whole : AreWhole from.kids) where
    mutual
      unfolding group_writes

      pub group_writes-same : (g g' : Shape) (before before' : Edit) → SameShape g g' → Congruent bits before before' → AllCongruent bits (group_writes o g before from) (group_writes n g' before' from)
      group_writes-same g g' before before' (same_shape {nid = nid} {nid' = nid'} {w = w} {w' = w'} {p = p} {p' = p'} {u = u} {fs = fs} {fs' = fs'} h k) b =
          let active : Option ℕ = discriminant u whole_words from.section in (
            congruent-then bits before before' (cleared (shape nid w p u fs)) (cleared (shape nid' w' p' u fs')) b (congruent-cleared (shape nid w p u fs) (shape nid' w' p' u fs') (same_shape h k)),
            congruent-append bits _ _ _ _ (field_writes-same true u active fs fs' k) (field_writes-same false u active fs fs' k),
          )

      field_writes-same : (members : Bool) (u active : Option ℕ) (fs fs' : Fields) → SameFields u fs fs' → AllCongruent bits (field_writes o members fs u active from) (field_writes n members fs' u active from)
      field_writes-same members u active fs fs' same_none = tt
      field_writes-same members u active fs fs' (same_field {m = m} {b = b} {b' = b'} {fs = gs} {fs' = gs'} mark' same rest) =
          by (has_turn members m active) (body_writes-same b b' m (mark u m) (mark u m) same (congruent-mark bits u m mark')) (field_writes-same members u active gs gs' rest)
        where
          by : (turn : Bool) → AllCongruent bits (body_writes o b m (mark u m) from) (body_writes n b' m (mark u m) from) → AllCongruent bits (field_writes o members gs u active from) (field_writes n members gs' u active from)
              → AllCongruent bits
              (elim turn as (λ (x : Bool). List Edit) [ true ↦ body_writes o b m (mark u m) from ++ field_writes o members gs u active from | false ↦ field_writes o members gs u active from ])
              (elim turn as (λ (x : Bool). List Edit) [ true ↦ body_writes n b' m (mark u m) from ++ field_writes n members gs' u active from | false ↦ field_writes n members gs' u active from ])
          by true x y = congruent-append bits _ _ _ _ x y
          by false x y = y

      body_writes-same : (b b' : Body) (m : Option ℕ) (before before' : Edit) → SameBody b b' → Congruent bits before before' → AllCongruent bits (body_writes o b m before from) (body_writes n b' m before' from)
      body_writes-same b b' m before before' same_void k = (k, tt)
      body_writes-same b b' m before before' (same_plain' {p = p} {q = q} {at = at} {d = d} same le small) k = (
        (λ c e s.
            let a = k c e s in
            let value : ℕ = bits_at at (width p) from.section in
            agree-then bits c (before c) (before' e) (put_bits at (width p) value (before c)) (put_bits at (width q) (bits_at at (width q) from.section) (before' e)) a
            (subst (λ z. Agree bits (before c) (put_bits at (width p) value (before c)) (put_bits at z (bits_at at z from.section) (before' e))) (width-same same)
            (agree-put_bits bits at (width p) value (before c) (before' e) (section_bits at (width p) from.section) le a.same))),
        tt,
      )
      body_writes-same b b' m before before' (same_pointer {i = i} {ty = ty} {ty' = ty'} {d = d} {d' = d'} types defaults whole') k =
          subst (λ z. AllCongruent bits (pointer_writes o m i ty (default_or_null d) before (child from.kids i)) (pointer_writes n m i ty' z before' (child from.kids i))) defaults
          (pointer_writes-same m i ty ty' (default_or_null d) (child from.kids i) before before' types whole' (whole-child from.kids i whole) k)
      body_writes-same b b' m before before' (same_group {g = g} {g' = g'} h) k = group_writes-same g g' before before' h k

  -- a group set from a message
  pub congruent-message : (g g' : Shape) (t : Tree) → SameShape g g' → IsWhole t → Congruent bits (from_message o g t) (from_message n g' t)
  congruent-message g g' null h k = no_change bits
  congruent-message g g' (capability i) h k = no_change bits
  congruent-message g g' (structure w x ts) h k =
      let from : Cell = record { section = x; kids = ts } in
      congruent-writes bits (group_writes o g (λ c. c) from) (group_writes n g' (λ c. c) from) (group_writes-same from k.1 g g' (λ c. c) (λ c. c) h (no_change bits))
  congruent-message g g' (plain_list z x y) h k = no_change bits
  congruent-message g g' (pointer_list ts) h k = no_change bits
  congruent-message g g' (struct_list w p es) h k = no_change bits
