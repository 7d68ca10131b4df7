-- The writes of a group, field by field.
use Rattle.std.proofs.Common.{◌≡◌, ℕ, zero, suc, Bool, true, false, List, [], ◌∷◌, ◌++◌, Option, Some, None, refl, sym, ap, ◌∙◌}
use Rattle.std.proofs.lemmas.List.{append_assoc, append-nil}
use Rattle.capnp_model.specs.Trees.{Tree, null, capability, structure, plain_list, pointer_list, struct_list, child}
use Rattle.capnp_model.specs.Schemas.{width, PlainType, Ty, Shape, shape, Fields, no_fields, field, Body, void_slot, plain_slot, pointer_slot, group_slot, Schema, default_or_null}
use Rattle.capnp_model.specs.Readings.{discriminant, field_bits, whole_words}
use Rattle.capnp_model.specs.Groups.{source_tree}
use Rattle.capnp_model.specs.Edits.{Cell, Edit, mark, put_bits, put_child, cleared, has_turn, pointer_writes, group_writes, field_writes, body_writes}
use Rattle.capnp_values_queries.specs.Fields.{Entry, field_at, field_count}
use Rattle.capnp_schema_structs.specs.GroupWrites.{GroupSource, in_words, writes_of_group, writes_of_fields, writes_of_body}
use Rattle.capnp_schema_structs.specs.GroupSets.{writes_if, entry_writes, turn_writes, copied_group}

-- the writes of the first i fields
unfoldable pub front_writes : Schema → Bool → ℕ → Fields → Option ℕ → GroupSource → List Edit
front_writes s members zero fs union from = []
front_writes s members (suc i) no_fields union from = []
front_writes s members (suc i) (field n m b fs) union from =
    writes_if (has_turn members m (discriminant union from.extent from.section)) (writes_of_body s b m (mark union m) from) ++ front_writes s members i fs union from

module _ (s : Schema) (members : Bool) (union : Option ℕ) (from : GroupSource) where
  pub front_none : (fs : Fields) → front_writes s members 0 fs union from ≡ []
  unfolding front_writes
  front_none fs = refl

  pub front_next : (i : ℕ) (fs : Fields) → front_writes s members (suc i) fs union from ≡ front_writes s members i fs union from ++ turn_writes s members union (field_at fs i) from
  unfolding front_writes
  front_next zero no_fields = refl
  front_next (suc i) no_fields = refl
  front_next zero (field n m b fs) = append-nil (writes_if (has_turn members m (discriminant union from.extent from.section)) (writes_of_body s b m (mark union m) from))
  front_next (suc i) (field n m b fs) =
      let own : List Edit = writes_if (has_turn members m (discriminant union from.extent from.section)) (writes_of_body s b m (mark union m) from) in
      ap (λ (xs : List Edit). own ++ xs) (front_next i fs) ∙ sym (append_assoc own (front_writes s members i fs union from) (turn_writes s members union (field_at fs i) from))

  by_turn : (t : Bool) (own rest all : List Edit) → all ≡ rest → writes_if t own ++ rest ≡ elim t [ true ↦ own ++ all | false ↦ all ]
  by_turn true own rest all e = ap (λ (xs : List Edit). own ++ xs) (sym e)
  by_turn false own rest all e = sym e

  pub front_all : (fs : Fields) → front_writes s members (field_count fs) fs union from ≡ writes_of_fields s members fs union (discriminant union from.extent from.section) from
  unfolding front_writes writes_of_group
  front_all no_fields = refl
  front_all (field n m b fs) =
      by_turn (has_turn members m (discriminant union from.extent from.section)) (writes_of_body s b m (mark union m) from) (front_writes s members (field_count fs) fs union from) (writes_of_fields s members fs union (discriminant union from.extent from.section) from) (sym (front_all fs))

  -- the writes of the other fields
  pub record Rest (i : ℕ) (fs : Fields) : Type 0 where
    pub rest : List Edit
    pub whole : writes_of_fields s members fs union (discriminant union from.extent from.section) from ≡ front_writes s members i fs union from ++ rest

  rest_by : (t : Bool) (own all front rest : List Edit) → all ≡ front ++ rest → elim t [ true ↦ own ++ all | false ↦ all ] ≡ (writes_if t own ++ front) ++ rest
  rest_by true own all front rest e = ap (λ (xs : List Edit). own ++ xs) e ∙ sym (append_assoc own front rest)
  rest_by false own all front rest e = e

  pub front_rest : (i : ℕ) (fs : Fields) → Rest i fs
  unfolding front_writes writes_of_group
  front_rest zero fs = record { rest = writes_of_fields s members fs union (discriminant union from.extent from.section) from; whole = refl }
  front_rest (suc i) no_fields = record { rest = []; whole = refl }
  front_rest (suc i) (field n m b fs) =
      let x = front_rest i fs in
      record { rest = x.rest; whole = rest_by (has_turn members m (discriminant union from.extent from.section)) (writes_of_body s b m (mark union m) from) (writes_of_fields s members fs union (discriminant union from.extent from.section) from) (front_writes s members i fs union from) x.rest x.whole }

-- ---- fields

module _ (s : Schema) (member : Option ℕ) (before : Edit) (from : GroupSource) where
  pub void_writes : (j : ℕ) → before ∷ [] ≡ writes_of_body s (void_slot j) member before from
  unfolding writes_of_group
  void_writes j = refl

  pub plain_writes : (q : PlainType) (at d : ℕ) → (λ c. put_bits at (width q) (field_bits from.extent from.section at (width q)) (before c)) ∷ [] ≡ writes_of_body s (plain_slot q at d) member before from
  unfolding writes_of_group
  plain_writes q at d = refl

  pub group_written : (g : Shape) → (λ c. cleared g (before c)) ∷ copied_group s g from ≡ writes_of_body s (group_slot g) member before from
  unfolding writes_of_group
  group_written (shape nid w p u fs) = refl

  pub pointer_written : (i : ℕ) (ty : Ty) (d : Option Tree) → pointer_writes s member i ty (default_or_null d) before (child from.kids i) ≡ writes_of_body s (pointer_slot i ty d) member before from
  unfolding writes_of_group
  pointer_written i ty d = refl

some_stands : (s : Schema) (ty : Ty) (d t : Tree) → (t ≡ null → ⊥) → source_tree s ty d t ≡ t
some_stands s ty null null h = absurd (h refl)
some_stands s ty null (capability k) h = refl
some_stands s ty null (structure w x us) h = refl
some_stands s ty null (plain_list z n x) h = refl
some_stands s ty null (pointer_list us) h = refl
some_stands s ty null (struct_list w q fs) h = refl
some_stands s ty (capability k) null h = absurd (h refl)
some_stands s ty (capability k) (capability k') h = refl
some_stands s ty (capability k) (structure w' x' us) h = refl
some_stands s ty (capability k) (plain_list z' n' x') h = refl
some_stands s ty (capability k) (pointer_list us) h = refl
some_stands s ty (capability k) (struct_list w' q' fs) h = refl
some_stands s ty (structure w x ts) null h = absurd (h refl)
some_stands s ty (structure w x ts) (capability k') h = refl
some_stands s ty (structure w x ts) (structure w' x' us) h = refl
some_stands s ty (structure w x ts) (plain_list z' n' x') h = refl
some_stands s ty (structure w x ts) (pointer_list us) h = refl
some_stands s ty (structure w x ts) (struct_list w' q' fs) h = refl
some_stands s ty (plain_list z n x) null h = absurd (h refl)
some_stands s ty (plain_list z n x) (capability k') h = refl
some_stands s ty (plain_list z n x) (structure w' x' us) h = refl
some_stands s ty (plain_list z n x) (plain_list z' n' x') h = refl
some_stands s ty (plain_list z n x) (pointer_list us) h = refl
some_stands s ty (plain_list z n x) (struct_list w' q' fs) h = refl
some_stands s ty (pointer_list ts) null h = absurd (h refl)
some_stands s ty (pointer_list ts) (capability k') h = refl
some_stands s ty (pointer_list ts) (structure w' x' us) h = refl
some_stands s ty (pointer_list ts) (plain_list z' n' x') h = refl
some_stands s ty (pointer_list ts) (pointer_list us) h = refl
some_stands s ty (pointer_list ts) (struct_list w' q' fs) h = refl
some_stands s ty (struct_list w q es) null h = absurd (h refl)
some_stands s ty (struct_list w q es) (capability k') h = refl
some_stands s ty (struct_list w q es) (structure w' x' us) h = refl
some_stands s ty (struct_list w q es) (plain_list z' n' x') h = refl
some_stands s ty (struct_list w q es) (pointer_list us) h = refl
some_stands s ty (struct_list w q es) (struct_list w' q' fs) h = refl

-- a pointer that isn't null
some_writes : (s : Schema) (member : Option ℕ) (i : ℕ) (ty : Ty) (d : Tree) (before : Edit) (t : Tree) → (t ≡ null → ⊥) → (λ c. put_child i (source_tree s ty d t) (before c)) ∷ [] ≡ pointer_writes s member i ty d before t
some_writes s None i ty d before null h = absurd (h refl)
some_writes s None i ty d before (capability k) h = refl
some_writes s None i ty d before (structure w x us) h = refl
some_writes s None i ty d before (plain_list z n x) h = refl
some_writes s None i ty d before (pointer_list us) h = refl
some_writes s None i ty d before (struct_list w q fs) h = refl
some_writes s (Some m) i ty d before null h = absurd (h refl)
some_writes s (Some m) i ty d before (capability k) h = refl
some_writes s (Some m) i ty d before (structure w x us) h = refl
some_writes s (Some m) i ty d before (plain_list z n x) h = refl
some_writes s (Some m) i ty d before (pointer_list us) h = refl
some_writes s (Some m) i ty d before (struct_list w q fs) h = refl

module _ (s : Schema) (before : Edit) (from : GroupSource) (i : ℕ) (ty : Ty) (d : Option Tree) where
  pub some_written : (member : Option ℕ) → (child from.kids i ≡ null → ⊥) → (λ c. put_child i (child from.kids i) (before c)) ∷ [] ≡ writes_of_body s (pointer_slot i ty d) member before from
  some_written member h =
      ap (λ t. (λ c. put_child i t (before c)) ∷ []) (sym (some_stands s ty (default_or_null d) (child from.kids i) h))
      ∙ some_writes s member i ty (default_or_null d) before (child from.kids i) h ∙ pointer_written s member before from i ty d

  pub null_written : child from.kids i ≡ null → [] ≡ writes_of_body s (pointer_slot i ty d) None before from
  null_written h = ap (λ t. pointer_writes s None i ty (default_or_null d) before t) (sym h) ∙ pointer_written s None before from i ty d

  pub member_written : (m : ℕ) → child from.kids i ≡ null → (λ c. put_child i (source_tree s ty (default_or_null d) null) (before c)) ∷ [] ≡ writes_of_body s (pointer_slot i ty d) (Some m) before from
  member_written m h = ap (λ t. pointer_writes s (Some m) i ty (default_or_null d) before t) (sym h) ∙ pointer_written s (Some m) before from i ty d

-- ---- whole words

by_turn_alike : (t : Bool) (own own' all all' : List Edit) → own ≡ own' → all ≡ all' → elim t as (λ (z : Bool). List Edit) [ true ↦ own ++ all | false ↦ all ] ≡ elim t as (λ (z : Bool). List Edit) [ true ↦ own' ++ all' | false ↦ all' ]
by_turn_alike true own own' all all' e f = ap (λ (xs : List Edit). xs ++ all) e ∙ ap (λ (xs : List Edit). own' ++ xs) f
by_turn_alike false own own' all all' e f = f

mutual
  unfolding writes_of_group group_writes

  whole_group : (s : Schema) (g : Shape) (before : Edit) (c : Cell) → writes_of_group s g before (in_words c) ≡ group_writes s g before c
  whole_group s (shape nid w p u fs) before c =
      let active : Option ℕ = discriminant u whole_words c.section in
      let first : Edit = λ d. cleared (shape nid w p u fs) (before d) in
      ap (λ (xs : List Edit). first ∷ (xs ++ writes_of_fields s false fs u active (in_words c))) (whole_fields s true fs u active c)
      ∙ ap (λ (xs : List Edit). first ∷ (field_writes s true fs u active c ++ xs)) (whole_fields s false fs u active c)

  whole_fields : (s : Schema) (members : Bool) (fs : Fields) (union active : Option ℕ) (c : Cell) → writes_of_fields s members fs union active (in_words c) ≡ field_writes s members fs union active c
  whole_fields s members no_fields union active c = refl
  whole_fields s members (field n m b fs) union active c =
      by_turn_alike (has_turn members m active) (writes_of_body s b m (mark union m) (in_words c)) (body_writes s b m (mark union m) c) (writes_of_fields s members fs union active (in_words c)) (field_writes s members fs union active c)
      (whole_body s b m (mark union m) c) (whole_fields s members fs union active c)

  whole_body : (s : Schema) (b : Body) (member : Option ℕ) (before : Edit) (c : Cell) → writes_of_body s b member before (in_words c) ≡ body_writes s b member before c
  whole_body s (void_slot j) member before c = refl
  whole_body s (plain_slot q at d) member before c = refl
  whole_body s (pointer_slot i ty d) member before c = refl
  whole_body s (group_slot g) member before c = whole_group s g before c

-- ---- a field that is a group

group_body : (s : Schema) (g : Shape) (member : Option ℕ) (before : Edit) (from : GroupSource) → writes_of_body s (group_slot g) member before from ≡ writes_of_group s g before from
unfolding writes_of_group
group_body s g member before from = refl

pub group_writes_are : (s : Schema) (union : Option ℕ) (e : Entry) (g : Shape) → e.body ≡ group_slot g → (c : Cell) → entry_writes s union (Some e) (in_words c) ≡ group_writes s g (mark union e.member) c
group_writes_are s union e g body c =
    ap (λ (b : Body). writes_of_body s b e.member (mark union e.member) (in_words c)) body ∙ group_body s g e.member (mark union e.member) (in_words c) ∙ whole_group s g (mark union e.member) c
