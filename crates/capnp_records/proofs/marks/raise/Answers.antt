use Rattle.std.proofs.Common.{◌≡◌, ◌==◌, ◌+◌, ◌<◌, ◌≤◌, ℕ, Bool, true, false, max, List, length, set, get_or, vec_len, refl, sym, ◌∙◌, ap, subst, arith}
use Rattle.std.proofs.lemmas.List.{get_or-set_same, get_or-set_other}
use Rattle.capnp_model.proofs.lemmas.Tests.{same_number, number_is}
use Rattle.capnp_records.specs.Marks.{Raised}
use Rattle.capnp_records.proofs.lemmas.ListTests.{default_any}
use Rattle.capnp_records.proofs.marks.raise.Goals as goal
use Rattle.capnp_records.proofs.marks.raise.Goals.{then-index-level, else-index-level}

differ : (a b : ℕ) → (a == b) ≡ false → a ≡ b → ⊥
differ a b e is = cc (sym e ∙ ap (λ x. a == x) (sym is) ∙ number_is a)

-- one place more is raised
raised_more : (old now new : List ℕ) (first k level : ℕ) → first ≤ k → Raised old now first k level → get_or new k 0 ≡ max level (get_or now k 0) → ((j : ℕ) → (j ≡ k → ⊥) → get_or new j 0 ≡ get_or now j 0)
    → Raised old new first (k + 1) level
raised_more old now new first k level from r here others = record {
  inside = λ j low high. at j (j == k) refl low high;
  below = λ j low. others j (λ e. omega (arith, e)) ∙ r.below j low;
  behind = λ j high. others j (λ e. omega (arith, e)) ∙ r.behind j (omega arith);
}
  where
    at : (j : ℕ) (b : Bool) → (j == k) ≡ b → first ≤ j → j < k + 1 → get_or new j 0 ≡ max level (get_or old j 0)
    at j true e low high =
        let same : j ≡ k = same_number j k e in
        ap (λ i. get_or new i 0) same ∙ here ∙ ap (max level) (r.behind k (omega arith)) ∙ ap (λ i. max level (get_or old i 0)) (sym same)
    at j false e low high =
        let other : (j ≡ k → ⊥) = differ j k e in
        others j other ∙ r.inside j low (omega (arith, other))

-- a lower mark becomes the level, a higher one is kept
raised_here : (now : List ℕ) (k level v : ℕ) → k < length now → v ≡ get_or now k v → v < level → get_or (set now k level) k 0 ≡ max level (get_or now k 0)
raised_here now k level v lt is low =
    let most : level ≡ max level v = omega arith in
    get_or-set_same now k level 0 lt ∙ most ∙ ap (max level) (is ∙ default_any now k v 0 lt)

kept_here : (now : List ℕ) (k level v : ℕ) → k < length now → v ≡ get_or now k v → level ≤ v → get_or now k 0 ≡ max level (get_or now k 0)
kept_here now k level v lt is high =
    let most : v ≡ max level v = omega arith in
    let same : v ≡ get_or now k 0 = is ∙ default_any now k v 0 lt in
    sym same ∙ most ∙ ap (max level) same

is_inside : (k end n len : ℕ) → k < end → end ≤ n → n ≡ len → k < len
is_inside k end n len lt le is = omega arith

pub loop-k-preserved : goal.loop-k-preserved
loop-k-preserved c =
    let now = c.loop-k.marks.items in
    let k = c.loop-k.k in
    let new = c.if-index-level.marks.items in
    let v = c.index.result.now in
    let more = raised_more c.args.marks.now.items now new c.args.first k c.args.level c.loop-k.auto.k c.loop-k.invariant.raised in
    let inside : k < length now = is_inside k c.args.end (vec_len c.loop-k.marks) (length now) c.loop-k-test.true c.loop-k.invariant.long c.loop-k.marks.ok.0 in
    elim c.if-index-level.branch [
      | then-index-level w ↦ record {
        raised = more (ap (λ v. get_or v.items k 0) w.marks-is ∙ raised_here now k c.args.level v inside c.index.ensures w.if-index-level.true) (λ j other. ap (λ v. get_or v.items j 0) w.marks-is ∙ get_or-set_other now k j c.args.level 0 other);
        long = subst (λ v. c.args.end ≤ vec_len v) (sym w.marks-is) c.loop-k.invariant.long;
      }
      | else-index-level w ↦ record {
        raised = more (ap (λ v. get_or v.items k 0) w.marks-is ∙ kept_here now k c.args.level v inside c.index.ensures w.if-index-level.false) (λ j other. ap (λ v. get_or v.items j 0) w.marks-is);
        long = subst (λ v. c.args.end ≤ vec_len v) (sym w.marks-is) c.loop-k.invariant.long;
      }
    ]
