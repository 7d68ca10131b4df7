-- Slots that were checked are apart.
use Rattle.std.proofs.Common.{◌≡◌, ◌≢◌, ℕ, zero, suc, ◌+◌, ◌-◌, ◌<◌, ◌≤◌, ◌⊎◌, inl, inr, Option, None, Some, List, ◌++◌, length, get_or, All, AllPairs, sym, ap, ◌∙◌, subst, arith, refl, length-append}
use Rattle.std.proofs.lemmas.Bool.{cases_eq, cases_order}
use Rattle.std.proofs.lemmas.List.{get_or_append_left, get_or_default}
use Rattle.capnp_source_layout.specs.declared.slots.Slot.{Slot}
use Rattle.capnp_source_layout.specs.declared.structs.Scope.{Scope}
use Rattle.capnp_source_layout.specs.Certificates.{slot_at, Precedes, AreInOrder, AreRanks, IsHeldBy, IsHeld, AreChecked, Extends}
use Rattle.capnp_source_layout.specs.Slots.{no_slot, union_at, around, outward, AreAlternatives, Overlap, AreApart}

-- of three slots in order the first comes before the last
later : (a b c : Slot) → b.start ≤ b.end → (a.scope < b.scope) ⊎ ((a.scope ≡ b.scope) × (a.end ≤ b.start)) → (b.scope < c.scope) ⊎ ((b.scope ≡ c.scope) × (b.end ≤ c.start)) → (a.scope < c.scope) ⊎ ((a.scope ≡ c.scope) × (a.end ≤ c.start))
later a b c some (inl l) (inl m) = inl (omega arith)
later a b c some (inl l) (inr m) = inl (omega (arith, m.0))
later a b c some (inr e) (inl m) = inl (omega (arith, e.0))
later a b c some (inr e) (inr m) = inr (e.0 ∙ m.0, omega (arith, e.1, m.1))

then_later : (a b c : Slot) → Precedes a b → Precedes b c → Precedes a c
then_later a b c ab bc = (ab.0, later a b c bc.0 ab.1 bc.1)

-- each slot of a list comes before all later ones
all_later : (slots : List Slot) (order : List ℕ) → AreInOrder slots order → (more k : ℕ) → k + 1 + more < length order → Precedes (slot_at slots (get_or order k 0)) (slot_at slots (get_or order (k + 1 + more) 0))
all_later slots order each zero k lt =
    let same : k + 1 ≡ k + 1 + 0 = omega arith in
    subst (λ n. Precedes (slot_at slots (get_or order k 0)) (slot_at slots (get_or order n 0))) same (each k (omega arith))
all_later slots order each (suc more) k lt =
    let same : k + 1 + 1 + more ≡ k + 1 + suc more = omega arith in
    subst (λ n. Precedes (slot_at slots (get_or order k 0)) (slot_at slots (get_or order n 0))) same
    (then_later (slot_at slots (get_or order k 0)) (slot_at slots (get_or order (k + 1) 0)) (slot_at slots (get_or order (k + 1 + 1 + more) 0)) (each k (omega arith)) (all_later slots order each more (k + 1) (omega arith)))

in_list : (slots : List Slot) (order : List ℕ) → AreInOrder slots order → (a b : ℕ) → a < b → b < length order → Precedes (slot_at slots (get_or order a 0)) (slot_at slots (get_or order b 0))
in_list slots order each a b lt end =
    let same : a + 1 + (b - (a + 1)) ≡ b = omega arith in
    subst (λ n. Precedes (slot_at slots (get_or order a 0)) (slot_at slots (get_or order n 0))) same (all_later slots order each (b - (a + 1)) a (omega arith))

-- of two slots one comes before the other
by_rank : (slots : List Slot) (order ranks : List ℕ) → AreInOrder slots order → AreRanks order ranks → (i j : ℕ) → i < length ranks → j < length ranks → get_or ranks i 0 < get_or ranks j 0 → Precedes (slot_at slots i) (slot_at slots j)
by_rank slots order ranks each at i j li lj lt =
    subst (λ n. Precedes (slot_at slots n) (slot_at slots j)) (at i li).1
    (subst (λ n. Precedes (slot_at slots (get_or order (get_or ranks i 0) 0)) (slot_at slots n)) (at j lj).1 (in_list slots order each (get_or ranks i 0) (get_or ranks j 0) lt (at j lj).0))

either_first : (slots : List Slot) (order ranks : List ℕ) → AreInOrder slots order → AreRanks order ranks → (i j : ℕ) → i < length ranks → j < length ranks → i ≢ j → (get_or ranks i 0 ≡ get_or ranks j 0) ⊎ ((get_or ranks i 0 < get_or ranks j 0) ⊎ (get_or ranks j 0 < get_or ranks i 0)) → Precedes (slot_at slots i) (slot_at slots j) ⊎ Precedes (slot_at slots j) (slot_at slots i)
either_first slots order ranks each at i j li lj ne (inl same) = absurd (ne (sym (at i li).1 ∙ ap (λ n. get_or order n 0) same ∙ (at j lj).1))
either_first slots order ranks each at i j li lj ne (inr (inl lt)) = inl (by_rank slots order ranks each at i j li lj lt)
either_first slots order ranks each at i j li lj ne (inr (inr lt)) = inr (by_rank slots order ranks each at j i lj li lt)

-- a bit of a slot
abbrev Covers : Slot → ℕ → Type 0
Covers s bit = (s.start ≤ bit) × (bit < s.end)

-- slots of one scope, the first before the other, have no bit in common
not_both : (a b : Slot) (bit : ℕ) → a.scope ≡ b.scope → Covers a bit → Covers b bit → (a.scope < b.scope) ⊎ ((a.scope ≡ b.scope) × (a.end ≤ b.start)) → ⊥
not_both a b bit same x y (inl lt) = omega arith
not_both a b bit same x y (inr e) = omega (arith, x.1, y.0, e.1)

one_scope : (slots : List Slot) (i j bit : ℕ) → (slot_at slots i).scope ≡ (slot_at slots j).scope → Covers (slot_at slots i) bit → Covers (slot_at slots j) bit → Precedes (slot_at slots i) (slot_at slots j) ⊎ Precedes (slot_at slots j) (slot_at slots i) → ⊥
one_scope slots i j bit same x y (inl p) = not_both (slot_at slots i) (slot_at slots j) bit same x y p.1
one_scope slots i j bit same x y (inr p) = not_both (slot_at slots j) (slot_at slots i) bit (sym same) y x p.1

-- the place that a slot lies in
Home : List Scope → List Slot → ℕ → Type 0
Home scopes slots i = (n : ℕ) × (n < length slots) × IsHeldBy scopes (slot_at slots i) (slot_at slots n)

home : (scopes : List Scope) (slots : List Slot) (i bit : ℕ) → Covers (slot_at slots i) bit → 0 < (slot_at slots i).scope → IsHeld scopes slots (slot_at slots i) → Home scopes slots i
unfolding Home
home scopes slots i bit x inner (inl outer) = absurd (omega arith)
home scopes slots i bit x inner (inr (inl none)) = absurd (omega (arith, x.0, x.1))
home scopes slots i bit x inner (inr (inr h)) = h

-- a slot lies in a place that lies in another, and so on, to a last one
abbrev Above : List Scope → List Slot → ℕ → ℕ → ℕ → Type 0
Above scopes slots zero i j = IsHeldBy scopes (slot_at slots i) (slot_at slots j)
Above scopes slots (suc more) i j = (m : ℕ) × IsHeldBy scopes (slot_at slots i) (slot_at slots m) × Above scopes slots more m j

record LastBelow (scopes : List Scope) (slots : List Slot) (more i j : ℕ) : Type 0 where
  last : ℕ
  scope : (slot_at slots last).scope ≡ outward scopes more (slot_at slots i).scope
  held : IsHeldBy scopes (slot_at slots last) (slot_at slots j)
  below : (slot_at slots last).scope ≤ (slot_at slots i).scope

last_below : (scopes : List Scope) (slots : List Slot) (more i j : ℕ) → Above scopes slots more i j → LastBelow scopes slots more i j
last_below scopes slots zero i j h = record { last = i; scope = refl; held = h; below = omega arith }
last_below scopes slots (suc more) i j h =
    let rest = last_below scopes slots more h.0 j h.2 in
    record { last = rest.last; scope = rest.scope ∙ ap (outward scopes more) h.1.is_around; held = rest.held; below = omega (arith, rest.below, h.1.is_before) }

-- two slots with a bit in common
abbrev Related : List Scope → List Slot → ℕ → ℕ → Type 0
Related scopes slots i j = AreAlternatives scopes (slot_at slots i).scope (slot_at slots j).scope ⊎ (((n : ℕ) × Above scopes slots n i j) ⊎ ((n : ℕ) × Above scopes slots n j i))

swapped : (scopes : List Scope) (slots : List Slot) (i j : ℕ) → Related scopes slots i j → Related scopes slots j i
swapped scopes slots i j (inl a) = inl (record { union = a.union; from_a = a.from_b; from_b = a.from_a; one = a.other; other = a.one; differ = λ e. a.differ (sym e) })
swapped scopes slots i j (inr (inl a)) = inr (inr a)
swapped scopes slots i j (inr (inr a)) = inr (inl a)

-- from the place of the inner slot to the slot
climbed : (scopes : List Scope) (slots : List Slot) (i j m : ℕ) → (slot_at slots j).scope < (slot_at slots i).scope → IsHeldBy scopes (slot_at slots i) (slot_at slots m) → (m ≡ j) ⊎ Related scopes slots m j → Related scopes slots i j
climbed scopes slots i j m lt h (inl e) = inr (inl (0, subst (λ n. IsHeldBy scopes (slot_at slots i) (slot_at slots n)) e h))
climbed scopes slots i j m lt h (inr (inl a)) = inl (record {
  union = a.union;
  from_a = suc a.from_a;
  from_b = a.from_b;
  one = subst (λ s. union_at scopes (outward scopes a.from_a s) ≡ Some a.union) h.is_around a.one;
  other = a.other;
  differ = subst (λ s. outward scopes a.from_a s ≢ outward scopes a.from_b (slot_at slots j).scope) h.is_around a.differ;
})
climbed scopes slots i j m lt h (inr (inr (inl a))) = inr (inl (suc a.0, (m, h, a.1)))
climbed scopes slots i j m lt h (inr (inr (inr a))) =
    let k = last_below scopes slots a.0 j m a.1 in
    inl (record {
      union = h.union;
      from_a = 0;
      from_b = a.0;
      one = h.is_member;
      other = ap (union_at scopes) (sym k.scope) ∙ k.held.is_member ∙ sym k.held.is_shared ∙ h.is_shared;
      differ = λ e. omega (arith, e, k.scope, k.below);
    })

-- what is known of slots whose scopes have a small sum
abbrev Below : List Scope → List Slot → ℕ → ℕ → Type 0
Below scopes slots bit n = (i j : ℕ) → i < length slots → j < length slots → (i ≡ j → ⊥) → Covers (slot_at slots i) bit → Covers (slot_at slots j) bit → (slot_at slots i).scope + (slot_at slots j).scope < n → Related scopes slots i j

same_or_related : (scopes : List Scope) (slots : List Slot) (bit n : ℕ) → Below scopes slots bit n → (m j : ℕ) → m < length slots → j < length slots → Covers (slot_at slots m) bit → Covers (slot_at slots j) bit → (slot_at slots m).scope + (slot_at slots j).scope < n → (m ≡ j) ⊎ (m ≡ j → ⊥) → (m ≡ j) ⊎ Related scopes slots m j
same_or_related scopes slots bit n below m j lm lj x y few (inl e) = inl e
same_or_related scopes slots bit n below m j lm lj x y few (inr ne) = inr (below m j lm lj ne x y few)

-- the inner of two slots lies in a place of a scope further out
up : (scopes : List Scope) (slots : List Slot) (bit n : ℕ) → Below scopes slots bit n → (i j : ℕ) → i < length slots → j < length slots → Covers (slot_at slots i) bit → Covers (slot_at slots j) bit → (slot_at slots i).scope + (slot_at slots j).scope < suc n → (slot_at slots j).scope < (slot_at slots i).scope → IsHeld scopes slots (slot_at slots i) → Related scopes slots i j
unfolding Home
up scopes slots bit n below i j li lj x y few lt held =
    let inner : 0 < (slot_at slots i).scope = omega arith in
    let h = home scopes slots i bit x inner held in
    let within : Covers (slot_at slots h.0) bit = (omega (arith, h.2.start, x.0), omega (arith, h.2.end, x.1)) in
    let less : (slot_at slots h.0).scope + (slot_at slots j).scope < n = omega (arith, h.2.is_before) in
    climbed scopes slots i j h.0 lt h.2 (same_or_related scopes slots bit n below h.0 j h.1 lj within y less (cases_eq h.0 j))

by_scopes : (scopes : List Scope) (slots : List Slot) (numbers places : List ℕ) → AreChecked scopes slots numbers places → (bit n : ℕ) → Below scopes slots bit n → (i j : ℕ) → i < length slots → j < length slots → (i ≡ j → ⊥) → Covers (slot_at slots i) bit → Covers (slot_at slots j) bit → (slot_at slots i).scope + (slot_at slots j).scope < suc n → ((slot_at slots i).scope ≡ (slot_at slots j).scope) ⊎ (((slot_at slots i).scope < (slot_at slots j).scope) ⊎ ((slot_at slots j).scope < (slot_at slots i).scope)) → Related scopes slots i j
by_scopes scopes slots numbers places c bit n below i j li lj ne x y few (inl same) =
    let first = either_first slots numbers places c.order c.ranks i j (omega (arith, c.all)) (omega (arith, c.all)) ne (cases_order (get_or places i 0) (get_or places j 0)) in
    absurd (one_scope slots i j bit same x y first)
by_scopes scopes slots numbers places c bit n below i j li lj ne x y few (inr (inl lt)) = swapped scopes slots j i (up scopes slots bit n below j i lj li y x (omega arith) lt (c.held j (no_slot 0) lj))
by_scopes scopes slots numbers places c bit n below i j li lj ne x y few (inr (inr lt)) = up scopes slots bit n below i j li lj x y few lt (c.held i (no_slot 0) li)

related : (scopes : List Scope) (slots : List Slot) (numbers places : List ℕ) → AreChecked scopes slots numbers places → (bit n : ℕ) → Below scopes slots bit n
related scopes slots numbers places c bit zero i j li lj ne x y few = absurd (omega arith)
related scopes slots numbers places c bit (suc n) i j li lj ne x y few = by_scopes scopes slots numbers places c bit n (related scopes slots numbers places c bit n) i j li lj ne x y few (cases_order (slot_at slots i).scope (slot_at slots j).scope)

elim_some : (n : ℕ) → ◌≡◌ {A = Option ℕ} (Some n) None → ⊥
elim_some n e = cc

-- slots that no members share lie above none
only_alternatives : (scopes : List Scope) (slots : List Slot) (i j : ℕ) → (slot_at slots i).shared_by ≡ None → (slot_at slots j).shared_by ≡ None → Related scopes slots i j → AreAlternatives scopes (slot_at slots i).scope (slot_at slots j).scope
only_alternatives scopes slots i j ni nj (inl a) = a
only_alternatives scopes slots i j ni nj (inr (inl a)) =
    let k = last_below scopes slots a.0 i j a.1 in
    let both : Some k.held.union ≡ None = sym k.held.is_shared ∙ nj in
    absurd (elim_some k.held.union both)
only_alternatives scopes slots i j ni nj (inr (inr a)) =
    let k = last_below scopes slots a.0 j i a.1 in
    let both : Some k.held.union ≡ None = sym k.held.is_shared ∙ ni in
    absurd (elim_some k.held.union both)

-- the slots of fields and discriminants, which come before the places of unions
pub apart : (scopes : List Scope) (own slots : List Slot) (numbers places : List ℕ) → Extends own slots → All (λ s. s.shared_by ≡ None) own → AreChecked scopes slots numbers places → AllPairs (AreApart scopes) own
apart scopes own slots numbers places longer none c i j d lt end o =
    let others = longer.0 in
    let at : (n : ℕ) → n < length own → slot_at slots n ≡ get_or own n d = λ n l.
    ap (λ (xs : List Slot). get_or xs n (no_slot 0)) longer.1 ∙ get_or_append_left own others (no_slot 0) n l ∙ get_or_default own n (no_slot 0) d l in
    let count : length own ≤ length slots = omega (arith, ap length longer.1, length-append own others) in
    let li : i < length own = omega arith in
    let x : Covers (slot_at slots i) o.0 = subst (λ s. Covers s o.0) (sym (at i li)) (o.1, o.2) in
    let y : Covers (slot_at slots j) o.0 = subst (λ s. Covers s o.0) (sym (at j end)) (o.3, o.4) in
    let ni : (slot_at slots i).shared_by ≡ None = ap (λ (s : Slot). s.shared_by) (at i li) ∙ none i d li in
    let nj : (slot_at slots j).shared_by ≡ None = ap (λ (s : Slot). s.shared_by) (at j end) ∙ none j d end in
    let r = related scopes slots numbers places c o.0 (suc ((slot_at slots i).scope + (slot_at slots j).scope)) i j (omega arith) (omega arith) (λ e. omega (arith, e)) x y (omega arith) in
    let a = only_alternatives scopes slots i j ni nj r in
    subst (λ s. AreAlternatives scopes s (get_or own j d).scope) (ap (λ (s : Slot). s.scope) (at i li)) (subst (λ s. AreAlternatives scopes (slot_at slots i).scope s) (ap (λ (s : Slot). s.scope) (at j end)) a)
