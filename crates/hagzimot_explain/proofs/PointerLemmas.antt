-- Pointers that are added to others.
use Rattle.std.proofs.Common.{◌≡◌, ℕ, ◌+◌, ◌-◌, ◌*◌, ◌<◌, ◌≤◌, Bool, true, false, List, [], ◌∷◌, ◌++◌, length, take, get_or, Option, Some, None, Result, Ok, Err, Vec, refl, ap, sym, ◌∙◌, subst, inl, inr, arith, append-nil, append_assoc}
use Rattle.std.specs.Prelude.{if◌then◌else◌, nat_lt}
use Rattle.std.specs.List.{Contains, AllPairs, sum_by}
use Rattle.std.proofs.lemmas.List.Quantifiers.{all_pairs_push}
use Rattle.std.specs.Option.{option_map, unwrap_or}
use Rattle.std.specs.Result.{result_ok, IfOk}
use Rattle.std.specs.declared.alloc.Global.{Global}
use Rattle.std.proofs.lemmas.Bool.{cases_lt, both_ways}
use Rattle.std.proofs.lemmas.List.{take_more, take_all, take-append-le, length-append}
use Rattle.std.proofs.lemmas.List.Sums.{sum_by_more_le, sum_by-append}
use Rattle.std.proofs.lemmas.List.Elements.{Contains-get_or, Contains-append_left, Contains-push, Contains-push_cases, Contains-append_cases}
use Rattle.capnp_model.specs.Kinds.{Kind}
use Rattle.capnp_model.specs.Chains.{◌>>=◌, ◌provided◌}
use Rattle.capnp_model.specs.Segments.{Segments, Place, place, root, after, word_at}
use Rattle.capnp_model.proofs.lemmas.Chaining.{bind_some, bind_found, provided_some, some_is}
use Rattle.capnp_model.proofs.lemmas.Tests.{lt_is, is_lt, and_left, and_right, both}
use Rattle.capnp_wire_objects.specs.declared.object.Object.{Object}
use Rattle.capnp_wire_objects.specs.declared.object.Object.TheVariants as object
use Rattle.capnp_wire_objects.specs.declared.object.Found.{Found}
use Rattle.capnp_wire_objects.specs.declared.place.Place.{Place as Pointer}
use Rattle.capnp_wire_objects.specs.Places.{place_view, placed}
use Rattle.capnp_wire_objects.specs.Objects.{object_at}
use Rattle.hagzimot_faults.specs.declared.steps.Step.{Step}
use Rattle.hagzimot_faults.specs.declared.steps.Step.TheVariants as step
use Rattle.hagzimot_faults.specs.Located.{pointer_in, pointer_after}
use Rattle.hagzimot_explain.specs.Rows.{value_of, for_word, replaced, is_at}
use Rattle.hagzimot_explain.specs.Parts.{object_or_null, object_there, words_of}
use Rattle.hagzimot_explain.specs.Reached.{IsReached, AreListed, Adds, IsInRow, IsInElements, IsPointerOf, HasPointersOf, step_cost}
use Rattle.hagzimot_explain.proofs.RowLemmas.{same_when, is_itself}

-- ---- adding

pub adds_none : (P : Pointer → Type 0) (ps : List Pointer) (seen : List (Vec Bool Global)) → AreListed seen ps → Adds P ps ps seen seen
adds_none P ps seen listed = record { more = []; appends = sym (append-nil ps); each = λ p none. absurd (let some = none.1 in omega arith); listed = listed; kept = λ q e. e }

pub seen_is : (o : Option Bool) → unwrap_or o false ≡ true → o ≡ Some true
seen_is None e = absurd cc
seen_is (Some true) e = refl
seen_is (Some false) e = absurd cc

nothing_there : (o : Option Bool) → unwrap_or o false ≡ false → (o ≡ Some false → ⊥) → o ≡ None
nothing_there None e f = refl
nothing_there (Some true) e f = absurd cc
nothing_there (Some false) e f = absurd (f refl)

pub listed_none : (seen : List (Vec Bool Global)) (ps : List Pointer) → ps ≡ [] → ((p : Place) → value_of seen p ≡ Some true → ⊥) → AreListed seen ps
listed_none seen ps none never =
    let empty : length ps ≡ 0 = ap length none in
    record {
      seen_in = λ p h. absurd (never p h);
      in_seen = λ p among. absurd (let some = among.1 in omega arith);
      once = λ i j d lt len. absurd (omega arith);
    }

if_none : (b : Bool) (o : Option Bool) → o ≡ None → (if b then option_map (λ (x : Bool). true) o else o) ≡ None
if_none true o e = ap (option_map (λ (x : Bool). true)) e
if_none false o e = e

-- ---- one more

module _ (p : Pointer) (old : List Pointer) (before seen : List (Vec Bool Global)) (listed : AreListed before old) (changed : (q : Place) → value_of seen q ≡ replaced (place_view p) true q (value_of before q)) (new : unwrap_or (value_of before (place_view p)) false ≡ false) where
  kept_none : (q : Place) → value_of before q ≡ None → value_of seen q ≡ None
  kept_none q e = changed q ∙ if_none (is_at (place_view p) q) (value_of before q) e

  was_none : (q : Place) → value_of seen q ≡ None → value_of before q ≡ None
  was_none q e = by (is_at (place_view p) q) refl (value_of before q) refl
    where
      by : (b : Bool) → is_at (place_view p) q ≡ b → (o : Option Bool) → value_of before q ≡ o → value_of before q ≡ None
      by b f None g = g
      by true f (Some x) g = let not : Some true ≡ None = sym (changed q ∙ ap (λ (b : Bool). if b then option_map (λ _. true) (value_of before q) else value_of before q) f ∙ ap (option_map (λ _. true)) g) ∙ e in absurd cc
      by false f (Some x) g = let not : Some x ≡ None = sym (changed q ∙ ap (λ (b : Bool). if b then option_map (λ _. true) (value_of before q) else value_of before q) f ∙ g) ∙ e in absurd cc

  seen_true : (q : Place) → value_of seen q ≡ Some true → Contains (old ++ p ∷ []) (placed q)
  seen_true q h = by (is_at (place_view p) q) refl
    where
      by : (b : Bool) → is_at (place_view p) q ≡ b → Contains (old ++ p ∷ []) (placed q)
      by true e = subst (λ (x : Pointer). Contains (old ++ p ∷ []) x) (ap placed (same_when (place_view p) q e)) (Contains-push old p)
      by false e = Contains-append_left old (p ∷ []) (placed q) (listed.seen_in q (sym (changed q ∙ ap (λ (b : Bool). if b then option_map (λ _. true) (value_of before q) else value_of before q) e) ∙ h))

  not_false : (x : Pointer) → Contains (old ++ p ∷ []) x → value_of seen (place_view x) ≡ Some false → ⊥
  not_false x among h = by (is_at (place_view p) (place_view x)) refl (value_of before (place_view x)) refl
    where
      is : value_of seen (place_view x) ≡ replaced (place_view p) true (place_view x) (value_of before (place_view x))
      is = changed (place_view x)

      by : (b : Bool) → is_at (place_view p) (place_view x) ≡ b → (o : Option Bool) → value_of before (place_view x) ≡ o → ⊥
      by true e None f = let not : None ≡ Some false = sym (is ∙ ap (λ (b : Bool). if b then option_map (λ _. true) (value_of before (place_view x)) else value_of before (place_view x)) e ∙ ap (option_map (λ _. true)) f) ∙ h in absurd cc
      by true e (Some y) f = let not : Some true ≡ Some false = sym (is ∙ ap (λ (b : Bool). if b then option_map (λ _. true) (value_of before (place_view x)) else value_of before (place_view x)) e ∙ ap (option_map (λ _. true)) f) ∙ h in absurd cc
      by false e o f =
          let old_false = sym (is ∙ ap (λ (b : Bool). if b then option_map (λ _. true) (value_of before (place_view x)) else value_of before (place_view x)) e) ∙ h in
          elim (Contains-push_cases old p x among) [
            | inl there ↦ listed.in_seen x there old_false
            | inr same ↦ both_ways (is_at (place_view p) (place_view x)) e (ap (λ (t : Pointer). is_at (place_view p) (place_view t)) (sym same) ∙ is_itself (place_view p))
          ]

  once_more : AllPairs (λ a b. a ≡ b → value_of seen (place_view a) ≡ None) (old ++ p ∷ [])
  once_more = all_pairs_push (λ a b. a ≡ b → value_of seen (place_view a) ≡ None) old p (λ i j d lt len same. kept_none (place_view (get_or old i d)) (listed.once i j d lt len same)) each
    where
      each : (k : ℕ) (d : Pointer) → k < length old → get_or old k d ≡ p → value_of seen (place_view (get_or old k d)) ≡ None
      each k d h same =
          let here = ap (λ (t : Pointer). value_of before (place_view t)) same in
          let there = Contains-get_or old k d h in
          kept_none (place_view (get_or old k d)) (here ∙ nothing_there (value_of before (place_view p)) new (λ e. listed.in_seen (get_or old k d) there (here ∙ e)))

  pub adds_one : (now : List Pointer) → now ≡ old ++ p ∷ [] → Adds (λ x. x ≡ p) old now before seen
  adds_one now is = record {
    more = p ∷ [];
    appends = is;
    each = λ x among. elim (Contains-push_cases [] p x among) [ inl none ↦ absurd (let some = none.1 in omega arith) | inr same ↦ sym same ];
    listed = subst (AreListed seen) (sym is) (record { seen_in = seen_true; in_seen = not_false; once = once_more });
    kept = was_none;
  }

-- ---- one after the other

pub adds_then : (P Q R : Pointer → Type 0) (a b c : List Pointer) (r s t : List (Vec Bool Global)) → ((p : Pointer) → P p → R p) → ((p : Pointer) → Q p → R p) → Adds P a b r s → Adds Q b c s t → Adds R a c r t
adds_then P Q R a b c r s t from_p from_q x y = record {
  more = x.more ++ y.more;
  appends = y.appends ∙ ap (λ (ps : List Pointer). ps ++ y.more) x.appends ∙ append_assoc a x.more y.more;
  each = λ p among. elim (Contains-append_cases x.more y.more p among) [ inl first ↦ from_p p (x.each p first) | inr last ↦ from_q p (y.each p last) ];
  listed = y.listed;
  kept = λ q e. x.kept q (y.kept q e);
}

pub adds_as : (P R : Pointer → Type 0) (a b : List Pointer) (r s : List (Vec Bool Global)) → ((p : Pointer) → P p → R p) → Adds P a b r s → Adds R a b r s
adds_as P R a b r s from x = record { more = x.more; appends = x.appends; each = λ p among. from p (x.each p among); listed = x.listed; kept = x.kept }

pub still : (P : Pointer → Type 0) (a b : List Pointer) (r s : List (Vec Bool Global)) (p : Pointer) → Adds P a b r s → Contains a p → Contains b p
still P a b r s p x among = subst (λ (ps : List Pointer). Contains ps p) (sym x.appends) (Contains-append_left a x.more p among)

-- ---- rows

pub row_longer : (first : Place) (i : ℕ) (p : Pointer) → IsInRow first i p → IsInRow first (i + 1) p
row_longer first i p (k, lt, is) = (k, omega arith, is)

pub row_end : (first : Place) (i : ℕ) (p : Pointer) → p ≡ placed (after first i) → IsInRow first (i + 1) p
row_end first i p is = (i, omega arith, is)

pub row_has : (first : Place) (i : ℕ) (ps : List Pointer) → ((k : ℕ) → k < i → Contains ps (placed (after first k))) → Contains ps (placed (after first i)) → (k : ℕ) → k < i + 1 → Contains ps (placed (after first k))
row_has first i ps before here k h = elim (cases_lt k i) [
  | inl lt ↦ before k lt
  | inr ge ↦ let same : i ≡ k = omega arith in subst (λ (n : ℕ). Contains ps (placed (after first n))) same here
]

-- ---- elements

pub elements_longer : (start : Place) (n d k : ℕ) (p : Pointer) → IsInElements start n d k p → IsInElements start (n + 1) d k p
elements_longer start n d k p (e, i, lt, within, is) = (e, i, omega arith, within, is)

pub element_row : (start : Place) (n d k : ℕ) (p : Pointer) → IsInRow (place start.segment (start.position + n * (d + k) + d)) k p → IsInElements start (n + 1) d k p
element_row start n d k p (i, within, is) =
    let same : start.position + n * (d + k) + d + i ≡ start.position + (n * (d + k) + d + i) = omega arith in
    (n, i, omega arith, within, is ∙ ap (λ (m : ℕ). placed (place start.segment m)) same)

pub elements_have : (start : Place) (n d k : ℕ) (ps : List Pointer) → ((e i : ℕ) → e < n → i < k → Contains ps (placed (after start (e * (d + k) + d + i)))) → ((i : ℕ) → i < k → Contains ps (placed (after (place start.segment (start.position + n * (d + k) + d)) i))) → (e i : ℕ) → e < n + 1 → i < k → Contains ps (placed (after start (e * (d + k) + d + i)))
elements_have start n d k ps before here e i h within = elim (cases_lt e n) [
  | inl lt ↦ before e i lt within
  | inr ge ↦
      let same : n ≡ e = omega arith in
      let at : start.position + n * (d + k) + d + i ≡ start.position + (n * (d + k) + d + i) = omega arith in
      subst (λ (m : ℕ). Contains ps (placed (after start (m * (d + k) + d + i)))) same (subst (λ (m : ℕ). Contains ps (placed (place start.segment m))) at (here i within))
]

-- ---- objects

pub no_pointers : (o : Object) (ps : List Pointer) → ((x : Step) → pointer_in o x ≡ None) → HasPointersOf o ps
no_pointers o ps none x q h = let is : None ≡ Some q = sym (none x) ∙ h in absurd cc

provided_yes : {A : Type 0} → (x : A) (b : Bool) → b ≡ true → (x provided b) ≡ Some x
provided_yes x b e = ap (λ (t : Bool). x provided t) e

pub struct_pointer : (start : Pointer) (d k : ℕ) (p : Pointer) → IsInRow (place start.segment (start.position + d)) k p → IsPointerOf (object.Struct start d k) p
struct_pointer start d k p (i, within, is) =
    let same : start.position + (d + i) ≡ start.position + d + i = omega arith in
    (step.Pointer i, provided_yes _ (nat_lt i k) (is_lt i k within) ∙ ap (λ (m : ℕ). Some (place start.segment m)) same ∙ ap (λ (x : Pointer). Some (place_view x)) (sym is))

pub struct_has : (start : Pointer) (d k : ℕ) (ps : List Pointer) → ((i : ℕ) → i < k → Contains ps (placed (after (place start.segment (start.position + d)) i))) → HasPointersOf (object.Struct start d k) ps
struct_has start d k ps row (step.Pointer i) q h =
    let a = provided_some _ q (nat_lt i k) h in
    let same : start.position + d + i ≡ start.position + (d + i) = omega arith in
    subst (λ (t : Place). Contains ps (placed t)) (ap (place start.segment) same ∙ a.1) (row i (lt_is i k a.0))
struct_has start d k ps row (step.Item i) q h = absurd cc
struct_has start d k ps row (step.Element e i) q h = absurd cc

pub list_pointer : (start : Pointer) (n : ℕ) (p : Pointer) → IsInRow (place_view start) n p → IsPointerOf (object.PointerList start n) p
list_pointer start n p (i, within, is) = (step.Item i, provided_yes _ (nat_lt i n) (is_lt i n within) ∙ ap (λ (x : Pointer). Some (place_view x)) (sym is))

pub list_has : (start : Pointer) (n : ℕ) (ps : List Pointer) → ((i : ℕ) → i < n → Contains ps (placed (after (place_view start) i))) → HasPointersOf (object.PointerList start n) ps
list_has start n ps row (step.Pointer i) q h = absurd cc
list_has start n ps row (step.Item i) q h =
    let a = provided_some _ q (nat_lt i n) h in
    subst (λ (t : Place). Contains ps (placed t)) a.1 (row i (lt_is i n a.0))
list_has start n ps row (step.Element e i) q h = absurd cc

pub structs_pointer : (start : Pointer) (words n d k : ℕ) (p : Pointer) → IsInElements (place_view start) n d k p → IsPointerOf (object.StructList start words n d k) p
structs_pointer start words n d k p (e, i, lt, within, is) = (step.Element e i, provided_yes _ _ (both (nat_lt e n) (nat_lt i k) (is_lt e n lt) (is_lt i k within)) ∙ ap (λ (x : Pointer). Some (place_view x)) (sym is))

pub structs_have : (start : Pointer) (words n d k : ℕ) (ps : List Pointer) → ((e i : ℕ) → e < n → i < k → Contains ps (placed (after (place_view start) (e * (d + k) + d + i)))) → HasPointersOf (object.StructList start words n d k) ps
structs_have start words n d k ps elements (step.Pointer i) q h = absurd cc
structs_have start words n d k ps elements (step.Item i) q h = absurd cc
structs_have start words n d k ps elements (step.Element e i) q h =
    let a = provided_some _ q _ h in
    subst (λ (t : Place). Contains ps (placed t)) a.1 (elements e i (lt_is e n (and_left _ _ a.0)) (lt_is i k (and_right _ _ a.0)))

-- ---- steps

-- One more step, from the pointer that steps lead to.
pub one_step_on : (s : Segments) (p : Place) (xs : List Step) (q : Place) (x : Step) (t : Place) → pointer_after s p xs ≡ Some q → pointer_in (object_there s q) x ≡ Some t → pointer_after s p (xs ++ x ∷ []) ≡ Some t
unfolding pointer_after
one_step_on s p [] q x t leads inside =
    let same = some_is p q leads in
    by (object_at s p) refl (ap (λ (q : Place). pointer_in (object_there s q) x) same ∙ inside)
  where
    by : (r : Result Found Kind) → object_at s p ≡ r → pointer_in (object_or_null (object_at s p)) x ≡ Some t → (result_ok (object_at s p) >>= λ f. pointer_in f.object x >>= λ q. Some q) ≡ Some t
    by (Ok f) e h = ap (λ (r : Result Found Kind). result_ok r >>= λ f. pointer_in f.object x >>= λ q. Some q) e ∙ ap (λ (o : Option Place). o >>= λ q. Some q) (sym (ap (λ (r : Result Found Kind). pointer_in (object_or_null r) x) e) ∙ h)
    by (Err k) e h = let none : None ≡ Some t = sym (ap (λ (r : Result Found Kind). pointer_in (object_or_null r) x) e) ∙ h in absurd cc
one_step_on s p (y ∷ xs) q x t leads inside =
    let a = bind_found (object_at s p) _ q leads in
    let b = bind_some (pointer_in a.0.object y) _ q a.2 in
    ap (λ (r : Result Found Kind). result_ok r >>= λ f. pointer_in f.object y >>= λ t. pointer_after s t (xs ++ x ∷ [])) a.1 ∙ ap (λ (o : Option Place). o >>= λ t. pointer_after s t (xs ++ x ∷ [])) b.1 ∙ one_step_on s b.0 xs q x t b.2 inside

-- Pointers that have those of their objects among them have all that steps lead to.
pub all_led_to : (s : Segments) (ps : List Pointer) → ((p : Pointer) → Contains ps p → HasPointersOf (object_there s (place_view p)) ps) → (p : Place) → Contains ps (placed p) → (xs : List Step) (q : Place) → pointer_after s p xs ≡ Some q → Contains ps (placed q)
unfolding pointer_after
all_led_to s ps closed p among [] q leads = subst (λ (t : Place). Contains ps (placed t)) (some_is p q leads) among
all_led_to s ps closed p among (x ∷ xs) q leads =
    let a = bind_found (object_at s p) _ q leads in
    let b = bind_some (pointer_in a.0.object x) _ q a.2 in
    let inside : pointer_in (object_there s p) x ≡ Some b.0 = ap (λ (r : Result Found Kind). pointer_in (object_or_null r) x) a.1 ∙ b.1 in
    all_led_to s ps closed b.0 (closed (placed p) among x b.0 inside) xs q b.2

-- ---- calls

pub if_ok_as : {X E : Type 0} → (r : Result X E) (P Q : Type 0) → (P → Q) → IfOk r (λ _. P) → IfOk r (λ _. Q)
if_ok_as (Ok x) P Q f h = f h
if_ok_as (Err e) P Q f h = h

-- ---- the walk

root_reached : (s : Segments) → IsReached s root
unfolding pointer_after
root_reached s = ([], refl)

pub first_reached : (s : Segments) (old new : List Pointer) (before_seen seen : List (Vec Bool Global)) → old ≡ [] → Adds (λ p. p ≡ placed root) old new before_seen seen → (p : Pointer) → Contains new p → IsReached s (place_view p)
first_reached s old new before_seen seen none adds p among =
    let is : new ≡ adds.more = adds.appends ∙ ap (λ (ps : List Pointer). ps ++ adds.more) none in
    subst (λ (x : Pointer). IsReached s (place_view x)) (sym (adds.each p (subst (λ (ps : List Pointer). Contains ps p) is among))) (root_reached s)

pub more_reached : (s : Segments) (p : Pointer) (o : Object) (old new : List Pointer) (before_seen seen : List (Vec Bool Global)) → o ≡ object_there s (place_view p) → Contains old p → Adds (IsPointerOf o) old new before_seen seen → ((x : Pointer) → Contains old x → IsReached s (place_view x)) → (x : Pointer) → Contains new x → IsReached s (place_view x)
more_reached s p o old new before_seen seen its here adds before x among = elim (Contains-append_cases old adds.more x (subst (λ (ps : List Pointer). Contains ps x) adds.appends among)) [
  | inl there ↦ before x there
  | inr added ↦
      let a = adds.each x added in
      let b = before p here in
      (b.0 ++ a.0 ∷ [], one_step_on s root b.0 (place_view p) a.0 (place_view x) b.1 (ap (λ (o : Object). pointer_in o a.0) (sym its) ∙ a.1))
]

-- One more of the pointers so far.
one_more : (P : Pointer → Type 0) (old new : List Pointer) (before_seen seen : List (Vec Bool Global)) (i : ℕ) (p : Pointer) → i < length old → p ≡ get_or old i p → Adds P old new before_seen seen → take (i + 1) new ≡ take i old ++ p ∷ []
one_more P old new before_seen seen i p h is adds = ap (take (i + 1)) adds.appends ∙ take-append-le (i + 1) old adds.more (omega arith) ∙ take_more old i p h ∙ ap (λ (x : Pointer). take i old ++ x ∷ []) (sym is)

pub more_closed : (s : Segments) (i : ℕ) (p : Pointer) (o : Object) (old new : List Pointer) (before_seen seen : List (Vec Bool Global)) → i < length old → p ≡ get_or old i p → o ≡ object_there s (place_view p) → Adds (IsPointerOf o) old new before_seen seen → HasPointersOf o new → ((x : Pointer) → Contains (take i old) x → HasPointersOf (object_there s (place_view x)) old) → (x : Pointer) → Contains (take (i + 1) new) x → HasPointersOf (object_there s (place_view x)) new
more_closed s i p o old new before_seen seen h is its adds has before x among = elim (Contains-push_cases (take i old) p x (subst (λ (ps : List Pointer). Contains ps x) (one_more (IsPointerOf o) old new before_seen seen i p h is adds) among)) [
  | inl there ↦ λ y q inside. still (IsPointerOf o) old new before_seen seen (placed q) adds (before x there y q inside)
  | inr same ↦ subst (λ (t : Pointer). HasPointersOf (object_there s (place_view t)) new) same (subst (λ (o : Object). HasPointersOf o new) its has)
]

zero_first : (n : ℕ) → 0 + n ≡ n
zero_first n = omega arith

pub more_spent : (s : Segments) (P : Pointer → Type 0) (i : ℕ) (p : Pointer) (old new : List Pointer) (before_seen seen : List (Vec Bool Global)) (left cost words : ℕ) → i < length old → p ≡ get_or old i p → Adds P old new before_seen seen → cost ≡ step_cost s p → cost ≤ left → left + sum_by (step_cost s) (take i old) ≡ words → (left - cost) + sum_by (step_cost s) (take (i + 1) new) ≡ words
more_spent s P i p old new before_seen seen left cost words h is adds price enough before =
    let all = ap (sum_by (step_cost s)) (one_more P old new before_seen seen i p h is adds) ∙ sum_by-append (step_cost s) (take i old) (p ∷ []) in
    let one : sum_by (step_cost s) (p ∷ []) ≡ step_cost s p = zero_first (step_cost s p) in
    omega (arith, all, one)

pub more_within : (P : Pointer → Type 0) (i : ℕ) (old new : List Pointer) (before_seen seen : List (Vec Bool Global)) → i < length old → Adds P old new before_seen seen → i + 1 ≤ length new
more_within P i old new before_seen seen h adds = omega (arith, ap length adds.appends, length-append old adds.more)

pub too_dear : (s : Segments) (i : ℕ) (p : Pointer) (ps : List Pointer) (left cost words : ℕ) → i < length ps → p ≡ get_or ps i p → cost ≡ step_cost s p → left < cost → left + sum_by (step_cost s) (take i ps) ≡ words → words < sum_by (step_cost s) ps
too_dear s i p ps left cost words h is price dear before =
    let some = sum_by_more_le (step_cost s) ps i p h in
    let same = ap (step_cost s) is in
    omega (arith, some, same)

pub all_reached : (s : Segments) (ps : List Pointer) (i : ℕ) → length ps ≤ i → Contains ps (placed root) → ((p : Pointer) → Contains (take i ps) p → HasPointersOf (object_there s (place_view p)) ps) → (p : Place) → IsReached s p → Contains ps (placed p)
all_reached s ps i end at_root closed p reached =
    let whole : take i ps ≡ ps = take_all i ps end in
    all_led_to s ps (λ x among. closed x (subst (λ (xs : List Pointer). Contains xs x) (sym whole) among)) root at_root reached.0 p reached.1

pub found_there : (s t : Segments) (p : Place) (o : Object) → t ≡ s → o ≡ object_there t p → o ≡ object_there s p
found_there s t p o same its = its ∙ ap (λ (u : Segments). object_there u p) same

pub price_is : (s : Segments) (p : Pointer) (o : Object) (n : ℕ) → o ≡ object_there s (place_view p) → n ≡ words_of o → n + 1 ≡ step_cost s p
price_is s p o n its is = ap (λ (m : ℕ). m + 1) (is ∙ ap words_of its)

pub absent_first : (s : Segments) (n : ℕ) (rows seen : List (Vec Bool Global)) → ((q : Place) → q.segment < n → value_of rows q ≡ for_word s q false) → ((q : Place) → value_of seen q ≡ None → value_of rows q ≡ None) → (q : Place) → q.segment < n → value_of seen q ≡ None → word_at s q ≡ None
absent_first s n rows seen words kept q h e = by (word_at s q) refl
  where
    by : (o : Option ℕ) → word_at s q ≡ o → word_at s q ≡ None
    by None f = f
    by (Some w) f = let not : Some false ≡ None = sym (ap (λ (o : Option ℕ). o >>= λ _. Some false) f) ∙ sym (words q h) ∙ kept q e in absurd cc

pub once_there : (s : Segments) (n : ℕ) (seen : List (Vec Bool Global)) (ps : List Pointer) → AreListed seen ps → ((q : Place) → q.segment < n → value_of seen q ≡ None → word_at s q ≡ None) → AllPairs (λ p q. p ≡ q → p.segment < n → word_at s (place_view p) ≡ None) ps
once_there s n seen ps listed absent i j d lt len same small = absent (place_view (get_or ps i d)) small (listed.once i j d lt len same)
