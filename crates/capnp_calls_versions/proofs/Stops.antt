-- Where the walk over the fields of two nodes stops, and what breaks there.
use Rattle.std.proofs.Common.{◌≡◌, ℕ, ◌+◌, ◌-◌, ◌≤◌, Bool, true, false, ◌||◌, ◌==◌, inl, inr, Option, Some, None, IfSome, List, [], ◌∷◌, ◌++◌, append_assoc, length, string_bytes, refl, sym, ◌∙◌, ap, subst, arith}
use Rattle.std.specs.List.{list_any}
use Rattle.std.specs.Str.{bytes_eq}
use Rattle.capnp_model.specs.Schemas.{Shape, shape, Fields, Body, void_slot, plain_slot, pointer_slot, group_slot, Schema}
use Rattle.capnp_model.specs.Partners.{Renaming, partner_name, renamed_shape}
use Rattle.capnp_model.specs.Accepted.{shape_in}
use Rattle.capnp_model.specs.Compatible.{member_count, is_new, is_no_fields}
use Rattle.capnp_records.specs.NodeViews.{field_of, member_of}
use Rattle.capnp_records.specs.declared.node.FieldRecord.{FieldRecord}
use Rattle.capnp_calls_versions.specs.declared.breaks.Fault.{Fault}
use Rattle.capnp_calls_versions.specs.declared.breaks.Fault.TheVariants as fault
use Rattle.capnp_calls_versions.specs.declared.breaks.FieldRule.{FieldRule}
use Rattle.capnp_calls_versions.specs.declared.breaks.Rule.{Rule}
use Rattle.capnp_calls_versions.specs.declared.breaks.Rule.TheVariants as rule
use Rattle.capnp_calls_versions.specs.declared.breaks.Break.{Break}
use Rattle.capnp_calls_versions.specs.declared.nodes.Holder.{Holder}
use Rattle.capnp_calls_versions.specs.declared.keeps.Versions.{Versions}
use Rattle.capnp_calls_versions.specs.declared.keeps.Levels.{Levels}
use Rattle.capnp_calls_versions.specs.Holders.{held_nodes, held_schema, shape_by, are_sound}
use Rattle.capnp_calls_versions.specs.Renamed.{names_in}
use Rattle.capnp_calls_versions.specs.Walks.{older_schema, kept_shape, kept_field, begins_with, older_fields, newer_fields}
use Rattle.capnp_calls_versions.specs.DueFields.{first_fields, fields_behind, due_behind, due, IsDue}
use Rattle.capnp_calls_versions.specs.Breaks.{BreaksFirst, IsTaken, AreFirstGroups, BreaksRule, IsBreak, breaks_here, breaks_inside}
use Rattle.capnp_calls_versions.specs.Faults.{taken_rule, break_of, BreaksSections, IsInner, IsFaultOf, IsPartnersFault, IsNextFault, Passes, IsBreakOfFields, IsBreakAt}
use Rattle.capnp_calls_versions.proofs.DueFields.{firsts_are, behind_are, due_in_turn, partners_are, due_for_all}
use Rattle.capnp_calls_versions.proofs.RenamedHolders.{renamed_holder}
use Rattle.capnp_calls_versions.proofs.Bodies.{rest_sound}

-- ---- where the walk stands

-- behind some fields of both nodes these older ones are due, and these newer ones are left
pub record Stands (v : Versions) (levels : Levels) (node : ℕ) (older newer left rest : List FieldRecord) : Type 0 where
  pub front : List FieldRecord
  pub passed : List FieldRecord
  pub older_is : older ≡ front ++ left
  pub newer_is : newer ≡ passed ++ rest
  pub is_due : due (older_fields v levels node older) (newer_fields v levels passed) ≡ older_fields v levels node left

pub stands_first : (v : Versions) (levels : Levels) (node : ℕ) (older newer : List FieldRecord) → Stands v levels node older newer older newer
stands_first v levels node older newer = record { front = []; passed = []; older_is = refl; newer_is = refl; is_due = refl }

passes_due : (v : Versions) (levels : Levels) (node : ℕ) (left : List FieldRecord) (next : FieldRecord) (others : List FieldRecord) → Passes (names_in v.names) node left next others
    → due_behind (older_fields v levels node left) (string_bytes next.name) ≡ older_fields v levels node others
passes_due v levels node [] next others (inl p) = ap (older_fields v levels node) (sym p.1)
passes_due v levels node [] next others (inr p) = let clash : false ≡ true = p.0 in absurd (cc clash)
passes_due v levels node (f ∷ fs) next others (inl p) = by (bytes_eq (partner_name (names_in v.names) node (string_bytes f.name)) (string_bytes next.name)) p.0 ∙ ap (older_fields v levels node) (sym p.1)
  where
    by : (b : Bool) → b ≡ false → elim b as (λ (z : Bool). Fields) [ true ↦ older_fields v levels node fs | false ↦ older_fields v levels node (f ∷ fs) ] ≡ older_fields v levels node (f ∷ fs)
    by true e = absurd (cc e)
    by false e = refl
passes_due v levels node (f ∷ fs) next others (inr p) = by (bytes_eq (partner_name (names_in v.names) node (string_bytes f.name)) (string_bytes next.name)) p.0 ∙ ap (older_fields v levels node) same
  where
    same : fs ≡ others
    same = let e : f ∷ fs ≡ p.1 ∷ others = p.2 in cc e

    by : (b : Bool) → b ≡ true → elim b as (λ (z : Bool). Fields) [ true ↦ older_fields v levels node fs | false ↦ older_fields v levels node (f ∷ fs) ] ≡ older_fields v levels node fs
    by true e = refl
    by false e = absurd (cc e)

pub stands_on : (v : Versions) (levels : Levels) (node : ℕ) (older newer left rest : List FieldRecord) (next : FieldRecord) (more others : List FieldRecord)
    → Stands v levels node older newer left rest → rest ≡ next ∷ more → Passes (names_in v.names) node left next others → Stands v levels node older newer others more
stands_on v levels node older newer left rest next more others s e p =
    let f = fronts p in
    record {
      front = f.0;
      passed = s.passed ++ next ∷ [];
      older_is = f.1;
      newer_is = s.newer_is ∙ ap (λ (xs : List FieldRecord). s.passed ++ xs) e ∙ sym (append_assoc s.passed (next ∷ []) more);
      is_due =
          due_in_turn (λ g. shape_in (held_nodes v.newer) levels.newer g) field_of (older_fields v levels node older) s.passed (next ∷ [])
          ∙ ap (λ (fs : Fields). due_behind fs (string_bytes next.name)) s.is_due
          ∙ passes_due v levels node left next others p;
    }
  where
    fronts : Passes (names_in v.names) node left next others → (front : List FieldRecord) × (older ≡ front ++ others)
    fronts (inl q) = (s.front, s.older_is ∙ ap (λ (xs : List FieldRecord). s.front ++ xs) (sym q.1))
    fronts (inr q) = (s.front ++ q.1 ∷ [], s.older_is ∙ ap (λ (xs : List FieldRecord). s.front ++ xs) q.2 ∙ sym (append_assoc s.front (q.1 ∷ []) others))

-- the fields from some places on are due and left
pub record Places (v : Versions) (levels : Levels) (node : ℕ) (older newer left rest : List FieldRecord) (i k : ℕ) : Type 0 where
  pub is_due : IsDue (older_fields v levels node older) (newer_fields v levels newer) i k
  pub older_behind : fields_behind i (older_fields v levels node older) ≡ older_fields v levels node left
  pub newer_behind : fields_behind k (newer_fields v levels newer) ≡ newer_fields v levels rest
  pub all_due : due (older_fields v levels node older) (newer_fields v levels newer) ≡ due (older_fields v levels node left) (newer_fields v levels rest)

split_length : (xs ys : List FieldRecord) → length (xs ++ ys) ≡ length xs + length ys
split_length [] ys = omega arith
split_length (x ∷ xs) ys = let more = split_length xs ys in omega arith

pub place_is : (all front left : List FieldRecord) → all ≡ front ++ left → length all - length left ≡ length front
place_is all front left e =
    let n : length all ≡ length front + length left = ap (λ (xs : List FieldRecord). length xs) e ∙ split_length front left in
    omega arith

pub places_are : (v : Versions) (levels : Levels) (node : ℕ) (older newer left rest : List FieldRecord) → Stands v levels node older newer left rest
    → Places v levels node older newer left rest (length older - length left) (length newer - length rest)
places_are v levels node older newer left rest s =
    let groups : ℕ → Shape = λ g. kept_shape v levels g in
    let newer_groups : ℕ → Shape = λ g. shape_in (held_nodes v.newer) levels.newer g in
    let i = place_is older s.front left s.older_is in
    let k = place_is newer s.passed rest s.newer_is in
    let behind : fields_behind (length older - length left) (older_fields v levels node older) ≡ older_fields v levels node left =
    ap (λ (n : ℕ). fields_behind n (older_fields v levels node older)) i
    ∙ ap (λ (fs : List FieldRecord). fields_behind (length s.front) (older_fields v levels node fs)) s.older_is
    ∙ behind_are groups (kept_field (names_in v.names) node) s.front left
    in
    let firsts : first_fields (length newer - length rest) (newer_fields v levels newer) ≡ newer_fields v levels s.passed =
    ap (λ (n : ℕ). first_fields n (newer_fields v levels newer)) k
    ∙ ap (λ (fs : List FieldRecord). first_fields (length s.passed) (newer_fields v levels fs)) s.newer_is
    ∙ firsts_are newer_groups field_of s.passed rest
    in
    record {
      is_due = ap (due (older_fields v levels node older)) firsts ∙ s.is_due ∙ sym behind;
      older_behind = behind;
      newer_behind =
          ap (λ (n : ℕ). fields_behind n (newer_fields v levels newer)) k
          ∙ ap (λ (fs : List FieldRecord). fields_behind (length s.passed) (newer_fields v levels fs)) s.newer_is
          ∙ behind_are newer_groups field_of s.passed rest;
      all_due =
          ap (λ (fs : List FieldRecord). due (older_fields v levels node older) (newer_fields v levels fs)) s.newer_is
          ∙ due_in_turn newer_groups field_of (older_fields v levels node older) s.passed rest
          ∙ ap (λ (fs : Fields). due fs (newer_fields v levels rest)) s.is_due;
    }

-- ---- what breaks there

right_true : (a b : Bool) → a ≡ false → (a || b) ≡ true → b ≡ true
right_true true b e h = absurd (cc e)
right_true false b e h = h

module _ (v : Versions) (levels : Levels) (node other : ℕ) (older newer : List FieldRecord) (i k : ℕ) (w p : ℕ) (u : Option ℕ) (w' p' : ℕ) (u' : Option ℕ) where
  abbrev older_shape : Shape
  older_shape = shape node w p u (older_fields v levels node older)

  abbrev newer_shape : Shape
  newer_shape = shape other w' p' u' (newer_fields v levels newer)

  abbrev Broken : Rule → Type 0
  Broken r = BreaksRule (older_schema v) (held_schema v.newer) r older_shape newer_shape

  abbrev members : ℕ
  members = member_count (older_fields v levels node older)

  missing : (left rest : List FieldRecord) → Places v levels node older newer left rest i k → due (older_fields v levels node left) (newer_fields v levels rest) ≡ older_fields v levels node left
      → is_no_fields (older_fields v levels node left) ≡ false → Broken (rule.Missing i)
  missing left rest at d e = (at.all_due ∙ d ∙ sym at.older_behind, ap is_no_fields at.older_behind ∙ e)

  taken : (left : List FieldRecord) (next : FieldRecord) (more : List FieldRecord) → Places v levels node older newer left (next ∷ more) i k
      → IsTaken members (older_fields v levels node left) (newer_fields v levels (next ∷ more)) → Broken (rule.Taken i k)
  taken left next more at t = (
    at.is_due,
    subst (λ (fs : Fields). IsTaken members fs (fields_behind k (newer_fields v levels newer))) (sym at.older_behind)
        (subst (λ (fs : Fields). IsTaken members (older_fields v levels node left) fs) (sym at.newer_behind) t),
  )

  taken_or_missing : (left : List FieldRecord) (next : FieldRecord) (more : List FieldRecord) → Places v levels node older newer left (next ∷ more) i k
      → begins_with (names_in v.names) node left (string_bytes next.name) ≡ false → is_new members (member_of next.discriminant_value) ≡ false
      → Broken (taken_rule (names_in v.names) node left (next ∷ more) i k)
  taken_or_missing [] next more at b n = taken [] next more at n
  taken_or_missing (f ∷ fs) next more at b n = by (list_any (λ g. bytes_eq l (string_bytes g.name)) (next ∷ more)) refl
    where
      l : List ℕ
      l = partner_name (names_in v.names) node (string_bytes f.name)

      by : (x : Bool) → list_any (λ g. bytes_eq (partner_name (names_in v.names) node (string_bytes f.name)) (string_bytes g.name)) (next ∷ more) ≡ x
          → Broken (elim x as (λ (z : Bool). Rule) [ true ↦ rule.Taken i k | false ↦ rule.Missing i ])
      by true e = taken (f ∷ fs) next more at (b, partners_are (λ g. shape_in (held_nodes v.newer) levels.newer g) field_of (partner_name (names_in v.names) node (string_bytes f.name)) more ∙ right_true _ _ b e, n)
      by false e =
          missing (f ∷ fs) (next ∷ more) at
          (due_for_all (λ g. shape_in (held_nodes v.newer) levels.newer g) field_of (partner_name (names_in v.names) node (string_bytes f.name)) _ _ _ (next ∷ more) e)
          refl

  of_field : (f : FieldRecord) (fs : List FieldRecord) (next : FieldRecord) (more : List FieldRecord) (r : FieldRule) → Places v levels node older newer (f ∷ fs) (next ∷ more) i k
      → BreaksFirst (older_schema v) (held_schema v.newer) r (older_fields v levels node (f ∷ fs)) (newer_fields v levels (next ∷ more)) → Broken (rule.Field i k r)
  of_field f fs next more r at t = (
    at.is_due,
    subst (λ (gs : Fields). BreaksFirst (older_schema v) (held_schema v.newer) r gs (fields_behind k (newer_fields v levels newer))) (sym at.older_behind)
        (subst (λ (gs : Fields). BreaksFirst (older_schema v) (held_schema v.newer) r (older_fields v levels node (f ∷ fs)) gs) (sym at.newer_behind) t),
  )

  inside : (f : FieldRecord) (fs : List FieldRecord) (next : FieldRecord) (more : List FieldRecord) (h h' : Shape) (x : Break) → Places v levels node older newer (f ∷ fs) (next ∷ more) i k
      → AreFirstGroups (older_fields v levels node (f ∷ fs)) (newer_fields v levels (next ∷ more)) h h' → IsBreak (older_schema v) (held_schema v.newer) x h h'
      → IsBreak (older_schema v) (held_schema v.newer) x older_shape newer_shape
  inside f fs next more h h' x at t b =
      breaks_inside older_shape newer_shape h h' i k at.is_due
      (subst (λ (gs : Fields). AreFirstGroups gs (fields_behind k (newer_fields v levels newer)) h h') (sym at.older_behind)
      (subst (λ (gs : Fields). AreFirstGroups (older_fields v levels node (f ∷ fs)) gs h h') (sym at.newer_behind) t)) b

-- groups in which something breaks
two_groups : (o n : Schema) (x : Break) (b b' : Body) → IsInner o n x b b' → (g : Shape) × (g' : Shape) × (b ≡ group_slot g) × (b' ≡ group_slot g') × IsBreak o n x g g'
two_groups o n x (void_slot i) b' h = absurd h
two_groups o n x (plain_slot q at d) b' h = absurd h
two_groups o n x (pointer_slot i ty d) b' h = absurd h
two_groups o n x (group_slot g) (void_slot i) h = absurd h
two_groups o n x (group_slot g) (plain_slot q at d) h = absurd h
two_groups o n x (group_slot g) (pointer_slot i ty d) h = absurd h
two_groups o n x (group_slot g) (group_slot g') h = (g, g', refl, refl, h)

partners : (v : Versions) (levels : Levels) (node : ℕ) (left : List FieldRecord) (next : FieldRecord) (x : Fault) (h : IsPartnersFault v levels node left next x)
    → bytes_eq (partner_name (names_in v.names) node (string_bytes h.first.name)) (string_bytes next.name) ≡ true
partners v levels node left next x h = ap (λ (xs : List FieldRecord). begins_with (names_in v.names) node xs (string_bytes next.name)) (sym h.is) ∙ h.partners

-- a newer field with a fault is a break
fault_breaks : (v : Versions) (levels : Levels) (node other : ℕ) (older newer left : List FieldRecord) (next : FieldRecord) (more : List FieldRecord) (i k : ℕ) (x : Fault)
    → Places v levels node older newer left (next ∷ more) i k → IsNextFault v levels (member_count (older_fields v levels node older)) (record { id = node; fields = left }) next x
    → IsBreakOfFields v levels (record { id = node; fields = older }) (record { id = other; fields = newer }) (break_of (names_in v.names) node other (record { left = left; rest = next ∷ more; due = i; at = k }) x)
fault_breaks v levels node other older newer left next more i k fault.Taken at h = λ w p u w' p' u'.
    breaks_here _ _ refl refl (taken_or_missing v levels node other older newer i k w p u w' p' u' left next more at h.0 h.1)
fault_breaks v levels node other older newer left next more i k (fault.Field r) at h = λ w p u w' p' u'.
    let here : Places v levels node older newer (h.first ∷ h.others) (next ∷ more) i k = subst (λ (xs : List FieldRecord). Places v levels node older newer xs (next ∷ more) i k) h.is at in
    breaks_here _ _ refl refl (of_field v levels node other older newer i k w p u w' p' u' h.first h.others next more r here (partners v levels node left next (fault.Field r) h, h.between))
fault_breaks v levels node other older newer left next more i k (fault.Inner x) at h = λ w p u w' p' u'.
    let here : Places v levels node older newer (h.first ∷ h.others) (next ∷ more) i k = subst (λ (xs : List FieldRecord). Places v levels node older newer xs (next ∷ more) i k) h.is at in
    let gs = two_groups (older_schema v) (held_schema v.newer) x _ _ h.between in
    inside v levels node other older newer i k w p u w' p' u' h.first h.others next more gs.0 gs.1 x here (partners v levels node left next (fault.Inner x) h, gs.2, gs.3) gs.4

pub stops_at_fault : (v : Versions) (levels : Levels) (node other : ℕ) (older newer left rest : List FieldRecord) (next : FieldRecord) (more : List FieldRecord) (count i k : ℕ) (x : Fault)
    → Stands v levels node older newer left rest → rest ≡ next ∷ more → count ≡ member_count (older_fields v levels node older) → i ≡ length older - length left → k ≡ length newer - length rest
    → IsNextFault v levels count (record { id = node; fields = left }) next x → IsBreakOfFields v levels (record { id = node; fields = older }) (record { id = other; fields = newer }) (break_of (names_in v.names) node other (record { left = left; rest = rest; due = i; at = k }) x)
stops_at_fault v levels node other older newer left rest next more count i k x s e c ei ek h =
    let at : Places v levels node older newer left rest i k =
    subst (λ (n : ℕ). Places v levels node older newer left rest n k) (sym ei)
    (subst (λ (n : ℕ). Places v levels node older newer left rest (length older - length left) n) (sym ek) (places_are v levels node older newer left rest s))
    in
    subst (λ (xs : List FieldRecord). IsBreakOfFields v levels (record { id = node; fields = older }) (record { id = other; fields = newer }) (break_of (names_in v.names) node other (record { left = left; rest = xs; due = i; at = k }) x)) (sym e)
    (fault_breaks v levels node other older newer left next more i k x
    (subst (λ (xs : List FieldRecord). Places v levels node older newer left xs i k) e at)
    (subst (λ (n : ℕ). IsNextFault v levels n (record { id = node; fields = left }) next x) c h))

left_some : (v : Versions) (levels : Levels) (node : ℕ) (left : List FieldRecord) → (length left == 0) ≡ false → is_no_fields (older_fields v levels node left) ≡ false
left_some v levels node [] h = absurd (cc h)
left_some v levels node (f ∷ fs) h = refl

pub stops_at_end : (v : Versions) (levels : Levels) (node other : ℕ) (older newer left rest : List FieldRecord) (i : ℕ)
    → Stands v levels node older newer left rest → rest ≡ [] → (length left == 0) ≡ false → i ≡ length older - length left
    → IsBreakOfFields v levels (record { id = node; fields = older }) (record { id = other; fields = newer }) (record { older = node; newer = other; rule = rule.Missing i })
stops_at_end v levels node other older newer left rest i s e some ei = λ w p u w' p' u'.
    let at : Places v levels node older newer left rest i (length newer - length rest) =
    subst (λ (n : ℕ). Places v levels node older newer left rest n (length newer - length rest)) (sym ei) (places_are v levels node older newer left rest s)
    in
    breaks_here _ _ refl refl
    (missing v levels node other older newer i (length newer - length rest) w p u w' p' u' left rest at
    (ap (λ (xs : List FieldRecord). due (older_fields v levels node left) (newer_fields v levels xs)) e) (left_some v levels node left some))

-- ---- structs and groups

sections : (o n : Schema) (a b : Holder) (r : Rule) (fs gs : Fields) → BreaksSections a b r → BreaksRule o n r (shape a.id a.words a.pointers a.union fs) (shape b.id b.words b.pointers b.union gs)
sections o n a b rule.Roots fs gs h = absurd h
sections o n a b rule.Words fs gs h = h
sections o n a b rule.Pointers fs gs h = h
sections o n a b rule.Union fs gs h = h
sections o n a b (rule.Missing i) fs gs h = absurd h
sections o n a b (rule.Taken i k) fs gs h = absurd h
sections o n a b (rule.Field i k r) fs gs h = absurd h

module _ (v : Versions) (levels below : Levels) (i j : ℕ) (a b : Holder)
    (older : shape_in (held_nodes v.older) levels.older i ≡ shape_by (λ g. shape_in (held_nodes v.older) below.older g) a)
    (newer : shape_in (held_nodes v.newer) levels.newer j ≡ shape_by (λ g. shape_in (held_nodes v.newer) below.newer g) b) where
  kept : kept_shape v levels i ≡ shape a.id a.words a.pointers a.union (older_fields v below a.id a.fields.now)
  kept = ap (renamed_shape (names_in v.names)) older ∙ renamed_holder (names_in v.names) (λ g. shape_in (held_nodes v.older) below.older g) a

  at_holders : (x : Break) → IsBreak (older_schema v) (held_schema v.newer) x (shape a.id a.words a.pointers a.union (older_fields v below a.id a.fields.now)) (shape b.id b.words b.pointers b.union (newer_fields v below b.fields.now)) → IsBreakAt v levels i j x
  at_holders x h =
      subst (λ (g : Shape). IsBreak (older_schema v) (held_schema v.newer) x g (shape_in (held_nodes v.newer) levels.newer j)) (sym kept)
      (subst (λ (g : Shape). IsBreak (older_schema v) (held_schema v.newer) x (shape a.id a.words a.pointers a.union (older_fields v below a.id a.fields.now)) g) (sym newer) h)

  pub breaks_sections : (r : Rule) → BreaksSections a b r → IsBreakAt v levels i j (record { older = a.id; newer = b.id; rule = r })
  breaks_sections r h = at_holders _ (breaks_here _ _ refl refl (sections (older_schema v) (held_schema v.newer) a b r _ _ h))

  pub breaks_fields : (x : Break) → IsBreakOfFields v below (record { id = a.id; fields = a.fields.now }) (record { id = b.id; fields = b.fields.now }) x → IsBreakAt v levels i j x
  breaks_fields x h = at_holders x (h a.words a.pointers a.union b.words b.pointers b.union)

-- ---- what the walk tells of them

-- the field that is due has its partner further on, or has none
rule_by : (rs : List Renaming) (node : ℕ) (left : List FieldRecord) (f : FieldRecord) (fs rest : List FieldRecord) (due at : ℕ) (n : List ℕ) (b : Bool) → left ≡ f ∷ fs → n ≡ partner_name rs node (string_bytes f.name)
    → b ≡ list_any (λ g. bytes_eq n (string_bytes g.name)) rest → (elim b as (λ (z : Bool). Rule) [ true ↦ rule.Taken due at | false ↦ rule.Missing due ]) ≡ taken_rule rs node left rest due at
rule_by rs node left f fs rest due at n b e en eb =
    ap (λ (z : Bool). elim z as (λ (z : Bool). Rule) [ true ↦ rule.Taken due at | false ↦ rule.Missing due ]) (eb ∙ ap (λ (m : List ℕ). list_any (λ g. bytes_eq m (string_bytes g.name)) rest) en)
    ∙ ap (λ (xs : List FieldRecord). taken_rule rs node xs rest due at) (sym e)

pub further_on : (rs : List Renaming) (node : ℕ) (left : List FieldRecord) (f : FieldRecord) (fs rest : List FieldRecord) (due at : ℕ) (n : List ℕ) (b : Bool) → left ≡ f ∷ fs → n ≡ partner_name rs node (string_bytes f.name)
    → b ≡ list_any (λ g. bytes_eq n (string_bytes g.name)) rest → b ≡ true → rule.Taken due at ≡ taken_rule rs node left rest due at
further_on rs node left f fs rest due at n b e en eb h = rule_by rs node left f fs rest due at n true e en (sym h ∙ eb)

pub nowhere : (rs : List Renaming) (node : ℕ) (left : List FieldRecord) (f : FieldRecord) (fs rest : List FieldRecord) (due at : ℕ) (n : List ℕ) (b : Bool) → left ≡ f ∷ fs → n ≡ partner_name rs node (string_bytes f.name)
    → b ≡ list_any (λ g. bytes_eq n (string_bytes g.name)) rest → b ≡ false → rule.Missing due ≡ taken_rule rs node left rest due at
nowhere rs node left f fs rest due at n b e en eb h = rule_by rs node left f fs rest due at n false e en (sym h ∙ eb)

pub begins : (rs : List Renaming) (node : ℕ) (left : List FieldRecord) (f : FieldRecord) (fs : List FieldRecord) (n : List ℕ) → left ≡ f ∷ fs → bytes_eq (partner_name rs node (string_bytes f.name)) n ≡ true → begins_with rs node left n ≡ true
begins rs node left f fs n e h = ap (λ (xs : List FieldRecord). begins_with rs node xs n) e ∙ h

-- a fault of the field that is due
pub next_fault : (v : Versions) (levels : Levels) (node count : ℕ) (left : List FieldRecord) (f : FieldRecord) (fs : List FieldRecord) (next : FieldRecord) (x : Fault) → left ≡ f ∷ fs → bytes_eq (partner_name (names_in v.names) node (string_bytes f.name)) (string_bytes next.name) ≡ true
    → IsFaultOf v levels f next x → IsNextFault v levels count (record { id = node; fields = left }) next x
next_fault v levels node count left f fs next fault.Taken e h k = absurd k
next_fault v levels node count left f fs next (fault.Field r) e h k = record { first = f; others = fs; is = e; partners = begins (names_in v.names) node left f fs (string_bytes next.name) e h; between = k }
next_fault v levels node count left f fs next (fault.Inner b) e h k = record { first = f; others = fs; is = e; partners = begins (names_in v.names) node left f fs (string_bytes next.name) e h; between = k }

-- what passes is sound
pub passes_sound : (v : Versions) (node : ℕ) (left : List FieldRecord) (next : FieldRecord) (others : List FieldRecord) → Passes (names_in v.names) node left next others → are_sound left ≡ true → are_sound others ≡ true
passes_sound v node left next others (inl p) h = ap (λ (xs : List FieldRecord). are_sound xs) p.1 ∙ h
passes_sound v node left next others (inr p) h = rest_sound left p.1 others p.2 h

left_within : (all front left : List FieldRecord) → all ≡ front ++ left → length left ≤ length all
left_within all front left e =
    let n : length all ≡ length front + length left = ap (λ (xs : List FieldRecord). length xs) e ∙ split_length front left in
    omega arith

pub older_within : (v : Versions) (levels : Levels) (node : ℕ) (older newer left rest : List FieldRecord) → Stands v levels node older newer left rest → length left ≤ length older
older_within v levels node older newer left rest s = left_within older s.front left s.older_is

pub newer_within : (v : Versions) (levels : Levels) (node : ℕ) (older newer left rest : List FieldRecord) → Stands v levels node older newer left rest → length rest ≤ length newer
newer_within v levels node older newer left rest s = left_within newer s.passed rest s.newer_is

pub some_weaker : {T : Type 0} (o : Option T) (P Q : T → Type 0) → ((x : T) → P x → Q x) → IfSome o P → IfSome o Q
some_weaker None P Q f h = h
some_weaker (Some x) P Q f h = f x h
