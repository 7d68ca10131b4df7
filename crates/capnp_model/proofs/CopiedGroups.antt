-- A group that is set from another struct reads as what the record machine makes of that, and nothing beside it changes.
use Rattle.std.proofs.Common.{◌≡◌, ℕ, zero, suc, Bool, true, false, not, ◌||◌, inl, inr, List, [], ◌++◌, Option, Some, None, refl, sym, ◌∙◌, ap, subst}
use Rattle.capnp_model.specs.Trees.{structure}
use Rattle.capnp_model.specs.Schemas.{Shape, shape, Fields, no_fields, field, Body, void_slot, plain_slot, pointer_slot, group_slot, Schema}
use Rattle.capnp_model.specs.Readings.{Reading, inactive, record_as, entry, no_children, whole_words, discriminant, is_active, only_if, read_child, shape_record, fields_of, body_of}
use Rattle.capnp_model.specs.Accepted.{Area, union_area, areas_of, areas_of_fields, areas_of_body, are_apart, is_apart_from, has_no_overlap, fields_are_apart, body_has_no_overlap}
use Rattle.std.proofs.lemmas.List.{append-nil}
use Rattle.capnp_model.specs.Calls.{set_to, message}
use Rattle.capnp_model.specs.Groups.{copied_record, copied_entries, copied_reading}
use Rattle.capnp_model.specs.Edits.{Cell, Edit, mark, edit_if, cleared, cleared_fields, has_turn, group_writes, field_writes, after_writes, IsBegun, edit_field}
use Rattle.capnp_model.specs.InKind.{child_in_kind, fields_in_kind, body_in_kind, shape_in_kind}
use Rattle.capnp_model.specs.InKindCalls.{defaults_in_kind, field_defaults_in_kind, body_default_in_kind}
use Rattle.capnp_model.proofs.lemmas.SoundShapes.{MarkApart, HasPlace, Apart}
use Rattle.capnp_model.proofs.lemmas.KeptRules.{and_three}
use Rattle.capnp_model.proofs.ApartAreas.{Apart-sym}
use Rattle.capnp_model.proofs.lemmas.FineShapes.{HasUnion, IsGoodMember, IsGood, AreGood, IsGoodBody, place_of, back_of}
use Rattle.capnp_model.proofs.lemmas.Paths.{Apart-left, Apart-right, mark_apart}
use Rattle.capnp_model.proofs.lemmas.KeptCells.{KeptAll, KeptAll-refl, KeptAll-trans, child_in_kind-is, discriminant-kept}
use Rattle.capnp_model.proofs.FieldsApart.{IsIn, off_union_in, apart_in, AllChosen, IsBeside, run, run_meets}
use Rattle.capnp_model.proofs.ClearedGroups.{Blank, Blank-local, blank_kept, first_member, AreCleared, fields_cleared, all_apart_in, union_apart}
use Rattle.capnp_model.proofs.CopiedFields.{Copied, Copied-local, CopiesBody, IsReady, Ready-local, active_is, after_both, behind_mark, copied_is, copy_op, has_active-knows, kind_in, knows, one_turn, plain_copied, pointer_copied, runs_written, turn_active}
use Rattle.capnp_model.proofs.lemmas.Tests.{both, or_right, and_left, and_right, not_zero}

-- ---- a whole group

pub record IsCopied (s : Schema) (g : Shape) (from c c' : Cell) : Type 0 where
  pub reads : shape_record g whole_words c'.section (read_child s c'.kids) ≡ copied_record s g (shape_record g whole_words from.section (read_child s from.kids))
  pub keeps : (ys : List Area) → Apart (areas_of g) ys → KeptAll ys c c'
  pub kinds : shape_in_kind g c'.section (child_in_kind s c'.kids) ≡ true

mark_none : (u : Option ℕ) (ys : List Area) → MarkApart u None ys
mark_none None ys = tt
mark_none (Some at) ys = tt

-- what the writes of a field do, where it is its turn
abbrev WorksOn : Schema → Option ℕ → Cell → Fields → Type 0
WorksOn s u from fs = (m : Option ℕ) (b : Body) → IsIn m b fs → is_active m (discriminant u whole_words from.section) ≡ true → (c : Cell) → IsReady m b c → CopiesBody s u from m b c (copy_op s u from m b c)

module _ (s : Schema) (u active : Option ℕ) (from : Cell) where
  -- no member is the source's active one
  none_run : (fs : Fields) (c : Cell) → knows fs active ≡ false → run (λ m. has_turn true m active) (copy_op s u from) fs c ≡ c
  none_run no_fields c h = refl
  none_run (field n None b fs) c h = none_run fs c h
  none_run (field n (Some k) b fs) c h = by (is_active (Some k) active) h (λ e. none_run fs c e)
    where
      by : (t : Bool) → (t || knows fs active) ≡ false → (knows fs active ≡ false → run (λ m. has_turn true m active) (copy_op s u from) fs c ≡ c) → run (λ m. has_turn true m active) (copy_op s u from) fs (edit_if t (copy_op s u from (Some k) b) c) ≡ c
      by true e more = absurd (cc e)
      by false e more = more e

  abbrev MarksOn : Fields → Type 0
  MarksOn fs = (k : ℕ) (b : Body) → IsIn (Some k) b fs → is_active (Some k) active ≡ true → (c : Cell) → discriminant u whole_words (copy_op s u from (Some k) b c).section ≡ active

  still_marked : (fs : Fields) → MarksOn fs → (c : Cell) → discriminant u whole_words c.section ≡ active → discriminant u whole_words (run (λ m. has_turn true m active) (copy_op s u from) fs c).section ≡ active
  still_marked no_fields works c h = h
  still_marked (field n None b fs) works c h = still_marked fs (λ k x i. works k x (inr i)) c h
  still_marked (field n (Some k) b fs) works c h = by (is_active (Some k) active) refl (λ d l. still_marked fs (λ j x i. works j x (inr i)) d l)
    where
      by : (t : Bool) → is_active (Some k) active ≡ t → ((d : Cell) → discriminant u whole_words d.section ≡ active → discriminant u whole_words (run (λ m. has_turn true m active) (copy_op s u from) fs d).section ≡ active) → discriminant u whole_words (run (λ m. has_turn true m active) (copy_op s u from) fs (edit_if t (copy_op s u from (Some k) b) c)).section ≡ active
      by true e more = more (copy_op s u from (Some k) b c) (works k b (inl (refl, refl)) e c)
      by false e more = more c h

  then_marked : (fs : Fields) → MarksOn fs → (c : Cell) → knows fs active ≡ true → discriminant u whole_words (run (λ m. has_turn true m active) (copy_op s u from) fs c).section ≡ active
  then_marked no_fields works c h = absurd (cc h)
  then_marked (field n None b fs) works c h = then_marked fs (λ k x i. works k x (inr i)) c h
  then_marked (field n (Some k) b fs) works c h = by (is_active (Some k) active) refl h (λ l. then_marked fs (λ j x i. works j x (inr i)) c l) (λ d l. still_marked fs (λ j x i. works j x (inr i)) d l)
    where
      by : (t : Bool) → is_active (Some k) active ≡ t → (t || knows fs active) ≡ true
          → (knows fs active ≡ true → discriminant u whole_words (run (λ m. has_turn true m active) (copy_op s u from) fs c).section ≡ active)
          → ((d : Cell) → discriminant u whole_words d.section ≡ active → discriminant u whole_words (run (λ m. has_turn true m active) (copy_op s u from) fs d).section ≡ active)
          → discriminant u whole_words (run (λ m. has_turn true m active) (copy_op s u from) fs (edit_if t (copy_op s u from (Some k) b) c)).section ≡ active
      by true e l later more = more (copy_op s u from (Some k) b c) (works k b (inl (refl, refl)) e c)
      by false e l later more = later l

  -- what stands in the end, field by field
  pub record AreCopied (fs : Fields) (known : Bool) (c : Cell) : Type 0 where
    pub others : (b : Body) → IsIn None b fs → Copied s from None b c
    pub members : (k : ℕ) (b : Body) → IsIn (Some k) b fs → is_active (Some k) active ≡ true → Copied s from (Some k) b c
    pub first : known ≡ false → (b : Body) → IsIn (Some 0) b fs → Blank s (Some 0) b c

  rest_copied : (n : List ℕ) (m : Option ℕ) (b : Body) (fs : Fields) (known : Bool) (c : Cell) → AreCopied (field n m b fs) known c → AreCopied fs known c
  rest_copied n m b fs known c h = record { others = λ x i. h.others x (inr i); members = λ k x i. h.members k x (inr i); first = λ e x i. h.first e x (inr i) }

  -- the record, where the source's member is known
  known_reads : (fs : Fields) (c : Cell) → AreCopied fs true c → fields_of fs active whole_words c.section (read_child s c.kids) ≡ copied_entries s fs true (fields_of fs active whole_words from.section (read_child s from.kids))
  unfolding shape_record copied_record
  known_reads no_fields c h = refl
  known_reads (field n m b fs) c h = two m h (known_reads fs c (rest_copied n m b fs true c h))
    where
      x : Reading
      x = body_of b whole_words from.section (read_child s from.kids)

      y : Reading
      y = body_of b whole_words c.section (read_child s c.kids)

      member : (k : ℕ) (t : Bool) → (t ≡ true → Copied s from (Some k) b c) → only_if t y ≡ copied_reading s true (Some k) b (only_if t x)
      member k true f = (f refl).reads ∙ sym (copied_is s true (Some k) b from)
      member zero false f = refl
      member (suc k) false f = refl

      here : (m : Option ℕ) → AreCopied (field n m b fs) true c → only_if (is_active m active) y ≡ copied_reading s true m b (only_if (is_active m active) x)
      here None h = (h.others b (inl (refl, refl))).reads ∙ sym (copied_is s true None b from)
      here (Some k) h = member k (is_active (Some k) active) (λ e. h.members k b (inl (refl, refl)) e)

      two : (m : Option ℕ) → AreCopied (field n m b fs) true c → fields_of fs active whole_words c.section (read_child s c.kids) ≡ copied_entries s fs true (fields_of fs active whole_words from.section (read_child s from.kids))
          → entry n (only_if (is_active m active) y) (fields_of fs active whole_words c.section (read_child s c.kids))
          ≡ entry n (copied_reading s true m b (only_if (is_active m active) x)) (copied_entries s fs true (fields_of fs active whole_words from.section (read_child s from.kids)))
      two m h e = ap (λ z. entry n z (fields_of fs active whole_words c.section (read_child s c.kids))) (here m h) ∙ ap (entry n (copied_reading s true m b (only_if (is_active m active) x))) e

  known_in_kind : (fs : Fields) (c : Cell) → AreCopied fs true c → fields_in_kind fs active c.section (child_in_kind s c.kids) ≡ true
  unfolding fields_in_kind
  known_in_kind no_fields c h = refl
  known_in_kind (field n m b fs) c h = both _ _ (here m h) (known_in_kind fs c (rest_copied n m b fs true c h))
    where
      member : (k : ℕ) (t : Bool) → (t ≡ true → Copied s from (Some k) b c) → (not t || body_in_kind b c.section (child_in_kind s c.kids)) ≡ true
      member k true f = (f refl).kinds
      member k false f = refl

      here : (m : Option ℕ) → AreCopied (field n m b fs) true c → (not (is_active m active) || body_in_kind b c.section (child_in_kind s c.kids)) ≡ true
      here None h = (h.others b (inl (refl, refl))).kinds
      here (Some k) h = member k (is_active (Some k) active) (λ e. h.members k b (inl (refl, refl)) e)

  -- and where it is not
  first_known : (k : ℕ) (b : Body) (n : List ℕ) (fs : Fields) → knows (field n (Some k) b fs) active ≡ false → (is_active (Some k) active ≡ false) × (knows fs active ≡ false)
  first_known k b n fs h = by (is_active (Some k) active) h
    where
      by : (t : Bool) → (t || knows fs active) ≡ false → (t ≡ false) × (knows fs active ≡ false)
      by true e = absurd (cc e)
      by false e = (refl, e)

  rest_known : (n : List ℕ) (m : Option ℕ) (b : Body) (fs : Fields) → knows (field n m b fs) active ≡ false → knows fs active ≡ false
  rest_known n None b fs h = h
  rest_known n (Some k) b fs h = (first_known k b n fs h).1

  unknown_reads : (fs : Fields) (c : Cell) → AreGood s u fs → knows fs active ≡ false → AreCopied fs false c
      → fields_of fs (first_member u) whole_words c.section (read_child s c.kids) ≡ copied_entries s fs false (fields_of fs active whole_words from.section (read_child s from.kids))
  unfolding shape_record copied_record
  unknown_reads no_fields c good unknown h = refl
  unknown_reads (field n m b fs) c good unknown h =
      ap (λ z. entry n z (fields_of fs (first_member u) whole_words c.section (read_child s c.kids))) (here m good.0 unknown h)
      ∙ ap (entry n (copied_reading s false m b (only_if (is_active m active) x))) (unknown_reads fs c good.4 (rest_known n m b fs unknown) (rest_copied n m b fs false c h))
    where
      x : Reading
      x = body_of b whole_words from.section (read_child s from.kids)

      y : Reading
      y = body_of b whole_words c.section (read_child s c.kids)

      zero_reads : (v : Option ℕ) → HasUnion v → y ≡ body_of b whole_words 0 no_children → only_if (is_active (Some 0) (first_member v)) y ≡ body_of b whole_words 0 no_children
      zero_reads None union e = absurd union
      zero_reads (Some at) union e = e

      later_reads : (v : Option ℕ) (k : ℕ) → only_if (is_active (Some (suc k)) (first_member v)) y ≡ inactive
      later_reads None k = refl
      later_reads (Some at) k = ap (λ z. only_if z y) (not_zero k)

      here : (m : Option ℕ) → IsGoodMember u m → knows (field n m b fs) active ≡ false → AreCopied (field n m b fs) false c → only_if (is_active m (first_member u)) y ≡ copied_reading s false m b (only_if (is_active m active) x)
      here None g e h = (h.others b (inl (refl, refl))).reads ∙ sym (copied_is s false None b from)
      here (Some zero) g e h = zero_reads u g.0 (h.first refl b (inl (refl, refl))).reads ∙ ap (λ z. copied_reading s false (Some zero) b (only_if z x)) (sym (first_known zero b n fs e).0)
      here (Some (suc k)) g e h = later_reads u k ∙ ap (λ z. copied_reading s false (Some (suc k)) b (only_if z x)) (sym (first_known (suc k) b n fs e).0)

  unknown_in_kind : (fs : Fields) (c : Cell) → AreCopied fs false c → fields_in_kind fs (first_member u) c.section (child_in_kind s c.kids) ≡ true
  unfolding fields_in_kind
  unknown_in_kind no_fields c h = refl
  unknown_in_kind (field n m b fs) c h = both _ _ (here m h) (unknown_in_kind fs c (rest_copied n m b fs false c h))
    where
      later_kind : (v : Option ℕ) (k : ℕ) (z : Bool) → (not (is_active (Some (suc k)) (first_member v)) || z) ≡ true
      later_kind None k z = refl
      later_kind (Some at) k z = ap (λ t. not t || z) (not_zero k)

      here : (m : Option ℕ) → AreCopied (field n m b fs) false c → (not (is_active m (first_member u)) || body_in_kind b c.section (child_in_kind s c.kids)) ≡ true
      here None h = (h.others b (inl (refl, refl))).kinds
      here (Some zero) h = or_right (not (is_active (Some zero) (first_member u))) _ (h.first refl b (inl (refl, refl))).kinds
      here (Some (suc k)) h = later_kind u k _

-- the group is cleared, its active member is set, then its other fields
module _ (s : Schema) (nid w p : ℕ) (u : Option ℕ) (fs : Fields) (good : AreGood s u fs) (apart : fields_are_apart fs ≡ true) (off : Apart (union_area u) (areas_of_fields fs)) (from : Cell) (works : WorksOn s u from fs) (c : Cell) where
  abbrev source : Option ℕ
  source = discriminant u whole_words from.section

  abbrev cleared_cell : Cell
  cleared_cell = cleared_fields fs (mark u (Some 0) c)

  abbrev member_cell : Cell
  member_cell = run (λ m. has_turn true m source) (copy_op s u from) fs cleared_cell

  abbrev whole_cell : Cell
  whole_cell = run (λ m. has_turn false m source) (copy_op s u from) fs member_cell

  clears : AreCleared s u fs c cleared_cell
  clears = fields_cleared s u fs good apart off c

  to_turn : (t : Bool) (m : Option ℕ) (b : Body) → IsIn m b fs → has_turn t m source ≡ true → (d : Cell) → IsReady m b d
      → Copied s from m b (copy_op s u from m b d) × ((ys : List Area) → MarkApart u m ys → Apart (areas_of_body b) ys → KeptAll ys d (copy_op s u from m b d))
  to_turn t m b i h d ready = let all = works m b i (turn_active t m source h) d ready in (all.0, all.1)

  members_ready : (m : Option ℕ) (b : Body) → IsIn m b fs → has_turn true m source ≡ true → IsReady m b cleared_cell
  members_ready None b i h = absurd (cc h)
  members_ready (Some k) b i h = tt

  first_phase : AllChosen (λ m. has_turn true m source) (Copied s from) fs member_cell × ((ys : List Area) → IsBeside u (λ m. has_turn true m source) fs ys → KeptAll ys cleared_cell member_cell)
  first_phase = run_meets s u u (λ m. has_turn true m source) (one_turn true source) (copy_op s u from) IsReady (Copied s from) Ready-local (Copied-local s from) fs good apart off (to_turn true) cleared_cell members_ready

  -- the first phase leaves the fields that are no members
  beside_members : (b : Body) → IsIn None b fs → IsBeside u (λ m. has_turn true m source) fs (areas_of_body b)
  beside_members b i None x j h = absurd (cc h)
  beside_members b i (Some k) x j h = (mark_apart u (Some k) (areas_of_body b) (off_union_in u fs None b off i), Apart-sym (areas_of_body b) (areas_of_body x) (apart_in fs b k x apart i j))

  others_ready : (m : Option ℕ) (b : Body) → IsIn m b fs → has_turn false m source ≡ true → IsReady m b member_cell
  others_ready (Some k) b i h = tt
  others_ready None b i h = blank_kept b cleared_cell member_cell (first_phase.1 (areas_of_body b) (beside_members b i)) (clears.blank None b i refl).blank

  second_phase : AllChosen (λ m. has_turn false m source) (Copied s from) fs whole_cell × ((ys : List Area) → IsBeside u (λ m. has_turn false m source) fs ys → KeptAll ys member_cell whole_cell)
  second_phase = run_meets s u u (λ m. has_turn false m source) (one_turn false source) (copy_op s u from) IsReady (Copied s from) Ready-local (Copied-local s from) fs good apart off (to_turn false) member_cell others_ready

  -- the second phase leaves the members and the discriminant
  beside_others : (k : ℕ) (b : Body) → IsIn (Some k) b fs → IsBeside u (λ m. has_turn false m source) fs (areas_of_body b)
  beside_others k b i None x j h = (mark_none u (areas_of_body b), apart_in fs x k b apart j i)
  beside_others k b i (Some l) x j h = absurd (cc h)

  beside_union : IsBeside u (λ m. has_turn false m source) fs (union_area u)
  beside_union None x j h = (mark_none u (union_area u), Apart-sym (union_area u) (areas_of_body x) (off_union_in u fs None x off j))
  beside_union (Some l) x j h = absurd (cc h)

  marks_on : MarksOn s u source from fs
  marks_on k b i h d = (works (Some k) b i h d tt).2 ∙ active_is source k h

  -- without a known member the first phase does nothing
  same_if_unknown : knows fs source ≡ false → member_cell ≡ cleared_cell
  same_if_unknown h = none_run s u source from fs cleared_cell h

  first_blank : knows fs source ≡ false → (b : Body) → IsIn (Some 0) b fs → Blank s (Some 0) b whole_cell
  first_blank h b i =
      Blank-local s (Some 0) b member_cell whole_cell (second_phase.1 (areas_of_body b) (beside_others 0 b i))
      (subst (λ z. Blank s (Some 0) b z) (sym (same_if_unknown h)) (clears.blank (Some 0) b i refl))

  copied_fields : AreCopied s u source from fs (knows fs source) whole_cell
  copied_fields = record {
    others = λ b i. second_phase.0 None b i refl;
    members = λ k b i h. Copied-local s from (Some k) b member_cell whole_cell (second_phase.1 (areas_of_body b) (beside_others k b i)) (first_phase.0 (Some k) b i h);
    first = first_blank;
  }

  same_mark : discriminant u whole_words whole_cell.section ≡ discriminant u whole_words member_cell.section
  same_mark = sym (discriminant-kept u member_cell whole_cell (second_phase.1 (union_area u) beside_union))

  known_mark : knows fs source ≡ true → discriminant u whole_words whole_cell.section ≡ source
  known_mark h = same_mark ∙ then_marked s u source from fs marks_on cleared_cell h

  unknown_mark : knows fs source ≡ false → discriminant u whole_words whole_cell.section ≡ first_member u
  unknown_mark h = same_mark ∙ ap (λ z. discriminant u whole_words z.section) (same_if_unknown h) ∙ clears.first

  abbrev Result : Type 0
  Result = (fields_of fs (discriminant u whole_words whole_cell.section) whole_words whole_cell.section (read_child s whole_cell.kids)
      ≡ copied_entries s fs (knows fs source) (fields_of fs source whole_words from.section (read_child s from.kids)))
      × (fields_in_kind fs (discriminant u whole_words whole_cell.section) whole_cell.section (child_in_kind s whole_cell.kids) ≡ true)

  by_knowledge : (t : Bool) → knows fs source ≡ t → Result
  by_knowledge true e =
      let h = subst (λ z. AreCopied s u source from fs z whole_cell) e copied_fields in (
        ap (λ z. fields_of fs z whole_words whole_cell.section (read_child s whole_cell.kids)) (known_mark e) ∙ known_reads s u source from fs whole_cell h
            ∙ ap (λ z. copied_entries s fs z (fields_of fs source whole_words from.section (read_child s from.kids))) (sym e),
        ap (λ z. fields_in_kind fs z whole_cell.section (child_in_kind s whole_cell.kids)) (known_mark e) ∙ known_in_kind s u source from fs whole_cell h,
      )
  by_knowledge false e =
      let h = subst (λ z. AreCopied s u source from fs z whole_cell) e copied_fields in (
        ap (λ z. fields_of fs z whole_words whole_cell.section (read_child s whole_cell.kids)) (unknown_mark e) ∙ unknown_reads s u source from fs whole_cell good e h
            ∙ ap (λ z. copied_entries s fs z (fields_of fs source whole_words from.section (read_child s from.kids))) (sym e),
        ap (λ z. fields_in_kind fs z whole_cell.section (child_in_kind s whole_cell.kids)) (unknown_mark e) ∙ unknown_in_kind s u source from fs whole_cell h,
      )

  keeps_rest : (ys : List Area) → Apart (union_area u) ys → Apart (areas_of_fields fs) ys → KeptAll ys c whole_cell
  keeps_rest ys h k =
      KeptAll-trans ys c cleared_cell whole_cell (clears.keeps ys h k)
      (KeptAll-trans ys cleared_cell member_cell whole_cell
      (first_phase.1 ys (λ m b i l. (mark_apart u m ys h, all_apart_in fs ys k m b i)))
      (second_phase.1 ys (λ m b i l. (mark_apart u m ys h, all_apart_in fs ys k m b i))))

  group_copy : IsCopied s (shape nid w p u fs) from c whole_cell
  unfolding shape_record copied_record areas_of fields_in_kind
  group_copy =
      let both = by_knowledge (knows fs source) refl in
      record {
        reads = both.0 ∙ ap (λ z. copied_entries s fs z (fields_of fs source whole_words from.section (read_child s from.kids))) (sym (has_active-knows s fs source from));
        keeps = λ ys h. keeps_rest ys (Apart-left (union_area u) (areas_of_fields fs) ys h) (Apart-right (union_area u) (areas_of_fields fs) ys h);
        kinds = both.1;
      }

  writes_are : (before : Edit) (d : Cell) → before d ≡ c → after_writes (group_writes s (shape nid w p u fs) before from) d ≡ whole_cell
  unfolding group_writes cleared
  writes_are before d e =
      ap (λ z. after_writes (field_writes s true fs u source from ++ field_writes s false fs u source from) (cleared_fields fs (mark u (Some 0) z))) e
      ∙ after_both (field_writes s true fs u source from) (field_writes s false fs u source from) cleared_cell
      ∙ ap (after_writes (field_writes s false fs u source from)) (runs_written s true fs u source from cleared_cell)
      ∙ runs_written s false fs u source from member_cell

mutual
  unfolding areas_of has_no_overlap body_of fields_in_kind group_writes defaults_in_kind copy_op

  pub group_copied : (s : Schema) (g : Shape) → IsGood s g → has_no_overlap g ≡ true → defaults_in_kind s g ≡ true → (from : Cell) → shape_in_kind g from.section (child_in_kind s from.kids) ≡ true
      → (before : Edit) (c : Cell) → IsCopied s g from (before c) (after_writes (group_writes s g before from) c)
  group_copied s (shape nid w p u fs) good apart defaults from kinds before c =
      let fields = and_right (are_apart (union_area u) (areas_of_fields fs)) (fields_are_apart fs) apart in
      let off = union_apart u fs apart in
      let works : WorksOn s u from fs =
      λ m b i on d ready. field_copied s u fs good fields off defaults from m b i (kind_in s fs (discriminant u whole_words from.section) from m b kinds i on) d ready in
      subst (λ z. IsCopied s (shape nid w p u fs) from (before c) z) (sym (writes_are s nid w p u fs good fields off from works (before c) before c refl))
      (group_copy s nid w p u fs good fields off from works (before c))

  field_copied : (s : Schema) (u : Option ℕ) (fs : Fields) → AreGood s u fs → fields_are_apart fs ≡ true → Apart (union_area u) (areas_of_fields fs) → field_defaults_in_kind s fs ≡ true → (from : Cell)
      → (m : Option ℕ) (b : Body) → IsIn m b fs → body_in_kind b from.section (child_in_kind s from.kids) ≡ true → (c : Cell) → IsReady m b c → CopiesBody s u from m b c (copy_op s u from m b c)
  field_copied s u no_fields good apart off defaults from m b i kind c ready = absurd i
  field_copied s u (field n k x fs) good apart off defaults from m b (inl e) kind c ready =
      let three = and_three (is_apart_from k (areas_of_body x) fs) (body_has_no_overlap x) (fields_are_apart fs) apart in
      let here : CopiesBody s u from k x c (copy_op s u from k x c) =
      body_copied s u k x (place_of u k good.0) (Apart-sym (union_area u) (areas_of_body x) (off_union_in u (field n k x fs) k x off (inl (refl, refl)))) good.3 three.1
      (and_left (body_default_in_kind s x) (field_defaults_in_kind s fs) defaults) from (ap (λ z. body_in_kind z from.section (child_in_kind s from.kids)) (sym e.1) ∙ kind) c
      (subst (λ z. IsReady z x c) e.0 (subst (λ z. IsReady m z c) e.1 ready)) in
      subst (λ z. CopiesBody s u from z b c (copy_op s u from z b c)) (sym e.0) (subst (λ z. CopiesBody s u from k z c (copy_op s u from k z c)) (sym e.1) here)
  field_copied s u (field n k x fs) good apart off defaults from m b (inr i) kind c ready =
      field_copied s u fs good.4 (and_three (is_apart_from k (areas_of_body x) fs) (body_has_no_overlap x) (fields_are_apart fs) apart).2 (back_of u (areas_of_body x) (areas_of_fields fs) off)
      (and_right (body_default_in_kind s x) (field_defaults_in_kind s fs) defaults) from m b i kind c ready

  body_copied : (s : Schema) (u m : Option ℕ) (b : Body) → HasPlace u m whole_words → Apart (areas_of_body b) (union_area u) → IsGoodBody s b → body_has_no_overlap b ≡ true → body_default_in_kind s b ≡ true → (from : Cell)
      → body_in_kind b from.section (child_in_kind s from.kids) ≡ true → (c : Cell) → IsReady m b c → CopiesBody s u from m b c (copy_op s u from m b c)
  body_copied s u m (void_slot j) place off good apart default_kind from kind c ready =
      let rest = behind_mark s u m (void_slot j) c (mark u m c) place off (λ ys h. KeptAll-refl ys (mark u m c)) in
      (record { reads = refl; kinds = refl }, rest.0, rest.1)
  body_copied s u m (plain_slot p at d) place off good apart default_kind from kind c ready = plain_copied s u from m p at d c place off
  body_copied s u m (pointer_slot i ty d) place off good apart default_kind from kind c ready =
      pointer_copied s u from m i ty d c place off default_kind (sym (child_in_kind-is s from.kids i ty) ∙ kind) ready
  body_copied s u m (group_slot g) place off good apart default_kind from kind c ready =
      let d = group_copied s g good apart default_kind from kind (mark u m) c in
      let c' = after_writes (group_writes s g (mark u m) from) c in
      let rest = behind_mark s u m (group_slot g) c c' place off (λ ys h. d.keeps ys h) in
      (record { reads = ap record_as d.reads; kinds = d.kinds }, rest.0, rest.1)

-- the edit is the last beginning
pub set_by_writes : (s : Schema) (u member : Option ℕ) (g : Shape) (words : ℕ) (from c : Cell) → edit_field s [] (set_to (message (structure words from.section from.kids))) u member (group_slot g) c ≡ after_writes (group_writes s g (mark u member) from) c
unfolding edit_field group_writes
set_by_writes s u member (shape nid w p v fs) words from c = refl

pub begun_whole : (s : Schema) (u member : Option ℕ) (g : Shape) (words : ℕ) (from c : Cell) → IsBegun s u member g from c (edit_field s [] (set_to (message (structure words from.section from.kids))) u member (group_slot g) c)
begun_whole s u member g words from c = (group_writes s g (mark u member) from, [], sym (append-nil (group_writes s g (mark u member) from)), set_by_writes s u member g words from c)
