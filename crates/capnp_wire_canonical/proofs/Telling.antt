-- What is told of values that stand, and of messages.
use Rattle.std.proofs.Common.{◌≡◌, ℕ, zero, suc, ◌+◌, ◌-◌, ◌≤◌, Bool, true, false, not, List, [], ◌∷◌, length, take, Option, Some, None, Ok, refl, ap, sym, ◌∙◌, subst, inl, inr, arith}
use Rattle.std.specs.Bool.{OnTrue, OnFalse}
use Rattle.std.specs.List.{slice_get}
use Rattle.std.specs.Option.{is_some}
use Rattle.std.specs.Prelude.{IfSome}
use Rattle.std.proofs.lemmas.Bool.{cases_lt}
use Rattle.std.proofs.Math.Seq.{take-length}
use Rattle.std.proofs.lemmas.List.{append-nil}
use Rattle.capnp_model.specs.Segments.{Segments, Place, place, root, after, words_at}
use Rattle.capnp_model.specs.Canonical.{is_canonical_message}
use Rattle.capnp_model.specs.Encoding.{pointer, body, canonical_words}
use Rattle.capnp_model.specs.Trees.{Tree, has_capability}
use Rattle.capnp_model.specs.Traversal.{tree_at}
use Rattle.capnp_model.specs.Trimming.{trim}
use Rattle.capnp_model.specs.Spelling.{AreWords}
use Rattle.capnp_model.specs.Visits.{Visit, visits}
use Rattle.capnp_model.proofs.lemmas.CanonicalTests.{message_test, test_message}
use Rattle.capnp_model.proofs.lemmas.Chaining.{some_is}
use Rattle.capnp_model.proofs.lemmas.Depth.{tree_at_more}
use Rattle.capnp_model.proofs.lemmas.Locality.{word_is, word_was}
use Rattle.capnp_units.specs.declared.limiter.ReadLimiter.{ReadLimiter}
use Rattle.capnp_wire_objects.specs.declared.place.Place as wire
use Rattle.capnp_wire_objects.specs.declared.object.Object.{Object}
use Rattle.capnp_wire_objects.specs.Places.{place_view}
use Rattle.capnp_wire_objects.specs.Near.{IsNear}
use Rattle.capnp_wire_objects.specs.Follow.{own_cost, Pays, levels_suffice}
use Rattle.capnp_wire_objects.specs.Inside.{met_in}
use Rattle.capnp_wire_objects.proofs.lemmas.Tags.{words_from, words_are}
use Rattle.capnp_wire_objects.proofs.lemmas.Walking.{object_found, link_visits, leaf_visited}
use Rattle.capnp_wire_objects.proofs.lemmas.Walks.{walked_one}
use Rattle.capnp_model.proofs.lemmas.Tests.{never_true}
use Rattle.capnp_wire_canonical.specs.Reaches.{reach}
use Rattle.capnp_wire_canonical.specs.Standing.{Hold, Stands, HasHead, segment_words}
use Rattle.capnp_wire_canonical.specs.Checks.{Began, Agrees, Differs, Tests, Tells, TellsMessage, IsBehind, head_state, value_test, value_from}
use Rattle.capnp_wire_canonical.proofs.lemmas.Checking.{began_none}
use Rattle.capnp_wire_canonical.proofs.Holding.{hold_parts, hold_both, hold_end}
use Rattle.capnp_wire_canonical.proofs.StandingObjects.{lead_word}
use Rattle.capnp_wire_canonical.proofs.StandingValues.{leaf_object}

-- ---- tests and what they tell

pub on_true : (P : Type 0) (b : Bool) → b ≡ true → OnTrue b P → P
on_true P true e h = h
on_true P false e h = absurd cc

pub on_false : (P : Type 0) (b : Bool) → b ≡ false → OnFalse b P → P
on_false P true e h = absurd cc
on_false P false e h = h

pub tells_moved : {X : Type 0} (there : Option X) (deeper : ℕ → Option X) (bad : X → Bool) (stands : X → ℕ → Type 0) (Q premise : Type 0) (path : List Visit) (h h' : Place) (l m : ReadLimiter) (end : Option ℕ) (b : Bool) → Q → OnTrue b ((end ≡ Some h'.position) × (h'.segment ≡ h.segment)) → OnFalse b ((end ≡ None) × (h' ≡ h))
    → Tests (record { there = there; deeper = deeper; bad = bad; stands = stands; premise = premise; path = path }) l (Ok end) m
    → Tells (record { there = there; deeper = deeper; bad = bad; stands = λ x e. Q × stands x e; premise = premise; path = path }) (head_state h l) (Ok b) (head_state h' m)
tells_moved there deeper bad stands Q premise path h h' l m end true given moved stayed x =
    let y = subst (λ (o : Option ℕ). Tests (record { there = there; deeper = deeper; bad = bad; stands = stands; premise = premise; path = path }) l (Ok o) m) moved.0 x in
    (moved.1, record { what = y.what; there_is = y.there_is; clean = y.clean; stand = (given, y.stand); near = y.near; walked = y.walked })
tells_moved there deeper bad stands Q premise path h h' l m end false given moved stayed x =
    let y = subst (λ (o : Option ℕ). Tests (record { there = there; deeper = deeper; bad = bad; stands = stands; premise = premise; path = path }) l (Ok o) m) stayed.0 x in
    (stayed.1, record { began = y.began; apart = λ small more z e is clean stand. y.apart small more z e is clean stand.1 })

-- the place that the code has
pub none_left : (b : Bool) (end : Option ℕ) (x y : wire.Place) → OnFalse b ((end ≡ None) × (x ≡ y)) → OnFalse b ((end ≡ None) × (place_view x ≡ place_view y))
none_left true end x y h = h
none_left false end x y h = (h.0, ap place_view h.1)

-- the first pointer was followed
pub first_began : (n : ℕ) (s : Segments) (p : Place) (o : Object) (l k : ReadLimiter) → Pays s p l o k → levels_suffice n o ≡ true → Began (visits n s p) l k
first_began zero s p o l k pay within =
    let found = object_found s p (record { pads = pay.pads; object = o }) pay.is in
    let leaf = leaf_object s found.0.object o found.2 within in
    let cost : ℕ = pay.pads + own_cost o in
    let path : visits 0 s p ≡ Ok cost ∷ [] = leaf_visited s p found.0 found.1 o found.2 leaf.1 ∙ ap (λ (j : ℕ). Ok (j + own_cost o) ∷ []) found.3 in
    record { before = Ok cost ∷ []; rest = []; path_is = path; walked = walked_one cost l k pay.spends pay.follows }
first_began (suc i) s p o l k pay within =
    let found = object_found s p (record { pads = pay.pads; object = o }) pay.is in
    let cost : ℕ = pay.pads + own_cost o in
    let rest = met_in (visits i s) o in
    let path : visits (suc i) s p ≡ Ok cost ∷ rest = link_visits s p found.0 found.1 o found.2 i ∙ ap (λ (j : ℕ). Ok (j + own_cost o) ∷ rest) found.3 in
    record { before = Ok cost ∷ []; rest = rest; path_is = path; walked = walked_one cost l k pay.spends pay.follows }

-- ---- canonical words, where the head is the next word

pub stands_words : (s : Segments) (p : Place) (t : Tree) (end : ℕ) → Stands s p (p.position + 1) t end → (Hold s p (canonical_words t)) × (end ≡ p.position + length (canonical_words t))
unfolding canonical_words
stands_words s p t end x =
    let none_between : p.position + 1 - p.position - 1 ≡ 0 = omega arith in
    let link = x.link ∙ ap (λ (g : ℕ). Some (pointer g t)) none_between in
    let last = x.ends in
    (hold_both s p (pointer 0 t ∷ []) (body t) (word_is s p _ link) x.targets, omega arith)

pub words_stand : (s : Segments) (p : Place) (t : Tree) → Hold s p (canonical_words t) → Stands s p (p.position + 1) t (p.position + length (canonical_words t))
unfolding canonical_words
words_stand s p t h =
    let none_between : 0 ≡ p.position + 1 - p.position - 1 = omega arith in
    let parts = hold_parts s p (pointer 0 t ∷ []) (body t) h in
    record { link = word_was s p _ parts.0 ∙ ap (λ (g : ℕ). Some (pointer g t)) none_between; targets = parts.1; ends = omega arith }

-- ---- messages

one_segment : (s : Segments) (ws : List ℕ) → slice_get s 0 ≡ Some ws → slice_get s 1 ≡ None → s ≡ ws ∷ []
one_segment [] ws e f = absurd cc
one_segment (x ∷ []) ws e f = ap (λ (y : List ℕ). y ∷ []) (some_is _ _ e)
one_segment (x ∷ y ∷ s) ws e f = absurd cc

-- one segment of canonical words holds them
segment_holds : (t : Tree) → Hold (canonical_words t ∷ []) root (canonical_words t)
segment_holds t = words_are (canonical_words t ∷ []) root (length (canonical_words t)) (canonical_words t) refl (omega arith) ∙ ap (λ (ws : List ℕ). Some ws) (take-length (canonical_words t))

pub message_stands : (n : ℕ) (s : Segments) → is_canonical_message n s ≡ true
    → (t : Tree) × (tree_at n s root ≡ Some t) × (has_capability t ≡ false) × (s ≡ canonical_words (trim t) ∷ []) × IsBehind s root 1 (place 0 1) × Stands s root 1 (trim t) (length (canonical_words (trim t)))
unfolding canonical_words
message_stands n s e =
    let a = message_test n s e in
    let u = trim a.0 in
    let held : Hold s root (canonical_words u) = subst (λ (x : Segments). Hold x root (canonical_words u)) (sym a.3) (segment_holds u) in
    let sum : 0 + length (canonical_words u) ≡ length (canonical_words u) = omega arith in
    let one : 0 + 1 ≡ 1 = omega arith in
    let stand = subst (λ (j : ℕ). Stands s root 1 u j) sum (subst (λ (j : ℕ). Stands s root j u (0 + length (canonical_words u))) one (words_stand s root u held)) in
    (a.0, a.1, a.2, a.3, (refl, omega arith, behind u held), stand)
  where
    behind : (u : Tree) → Hold s root (canonical_words u) → is_some (words_at s (place 0 1) 0) ≡ true
    behind u held = let parts = hold_parts s root (pointer 0 u ∷ []) (body u) held in hold_end s root (pointer 0 u ∷ []) parts.0

pub two_segments : (n : ℕ) (s : Segments) → (slice_get s 1 ≡ None → ⊥) → is_canonical_message n s ≡ false
two_segments n s more = never_true (is_canonical_message n s) (λ e. let a = message_test n s e in more (ap (λ (x : Segments). slice_get x 1) a.3))

-- the whole segment is read
pub message_is : (n : ℕ) (s : Segments) (t : Tree) (end : ℕ) → slice_get s 1 ≡ None → tree_at n s root ≡ Some t → has_capability t ≡ false → Stands s root 1 (trim t) end → is_some (words_at s (place 0 end) 1) ≡ false → is_canonical_message n s ≡ true
message_is n s t end alone is clean stand past =
    let u = trim t in
    let held = stands_words s root u end stand in
    let cw = canonical_words u in
    let a = words_from (slice_get s 0) 0 (length cw) (ap is_some held.0) in
    let ws : List ℕ = a.0 in
    let front : take (length cw) ws ≡ cw = some_is _ _ (sym (words_are s root (length cw) ws a.1 a.2) ∙ held.0) in
    let size : length ws ≤ length cw = by ws a.1 held.1 in
    let whole : ws ≡ cw = sym (take_all ws (length cw) size) ∙ front in
    test_message n s t is clean (one_segment s ws a.1 alone ∙ ap (λ (x : List ℕ). x ∷ []) whole)
  where
    take_all : (xs : List ℕ) (k : ℕ) → length xs ≤ k → take k xs ≡ xs
    take_all [] zero h = refl
    take_all [] (suc k) h = refl
    take_all (x ∷ xs) zero h = absurd (omega arith)
    take_all (x ∷ xs) (suc k) h = ap (λ (ys : List ℕ). x ∷ ys) (take_all xs k (omega arith))

    by : (ws : List ℕ) → slice_get s 0 ≡ Some ws → end ≡ 0 + length (canonical_words (trim t)) → length ws ≤ length (canonical_words (trim t))
    by ws e at = elim (cases_lt end (length ws)) [
      | inl more ↦ let there = ap is_some (words_are s (place 0 end) 1 ws e (omega arith)) in absurd cc
      | inr less ↦ omega arith
    ]

-- words are left behind those that stand
pub words_left : (n : ℕ) (s : Segments) (t : Tree) (end : ℕ) → tree_at n s root ≡ Some t → Stands s root 1 (trim t) end → is_some (words_at s (place 0 end) 1) ≡ true → is_canonical_message n s ≡ false
words_left n s t end is stand more = never_true (is_canonical_message n s) (λ e.
    let a = message_test n s e in
    let same : a.0 ≡ t = some_is _ _ (sym a.1 ∙ is) in
    let cw = canonical_words (trim t) in
    let held = stands_words s root (trim t) end stand in
    let b = words_from (slice_get s 0) end 1 more in
    let ws : List ℕ = b.0 in
    let bound = b.2 in
    let segment : canonical_words (trim a.0) ≡ ws = some_is _ _ (sym (ap (λ (x : Segments). slice_get x 0) a.3) ∙ b.1) in
    let size : length cw ≡ length ws = ap (λ (u : Tree). length (canonical_words (trim u))) (sym same) ∙ ap length segment in
    let at = held.1 in
    omega arith)

-- a second segment
pub second_there : (s : Segments) → is_some (words_at s (place 1 0) 0) ≡ true → slice_get s 1 ≡ None → ⊥
second_there s h e = let a = words_from (slice_get s 1) 0 0 h in absurd (let both = sym e ∙ a.1 in cc)

pub second_missing : (s : Segments) → is_some (words_at s (place 1 0) 0) ≡ false → slice_get s 1 ≡ None
second_missing s h = by (slice_get s 1) refl
  where
    by : (o : Option (List ℕ)) → slice_get s 1 ≡ o → slice_get s 1 ≡ None
    by None e = e
    by (Some ws) e = let there = ap is_some (words_are s (place 1 0) 0 ws e (omega arith)) in absurd cc

-- ---- what is told of a message

pub more_segments : (n : ℕ) (s : Segments) (l : ReadLimiter) → is_some (words_at s (place 1 0) 0) ≡ true → TellsMessage n s l (Ok false) l
more_segments n s l h = ((λ small m le. two_segments m s (second_there s h)), began_none (visits n s root) l, (λ _. refl))

pub message_tells : (n : ℕ) (s : Segments) (l m : ReadLimiter) (after : Place) (more : Bool) → is_some (words_at s (place 1 0) 0) ≡ false → more ≡ is_some (words_at s after 1) → after.segment ≡ 0
    → Agrees (value_from (reach n s) root (place 0 1)) l after.position m → TellsMessage n s l (Ok (not more)) m
message_tells n s l m after true alone is at x =
    let stand = x.stand in
    let there : is_some (words_at s (place 0 after.position) 1) ≡ true = ap (λ (i : ℕ). is_some (words_at s (place i after.position) 1)) (sym at) ∙ sym is in
    ((λ small k le. words_left k s x.what after.position (tree_at_more n k s root x.what le x.there_is) stand.1 there), record { before = visits n s root; rest = []; path_is = sym (append-nil (visits n s root)); walked = x.walked }, (λ second. absurd cc))
message_tells n s l m after false alone is at x =
    let stand = x.stand in
    let past : is_some (words_at s (place 0 after.position) 1) ≡ false = ap (λ (i : ℕ). is_some (words_at s (place i after.position) 1)) (sym at) ∙ sym is in
    (message_is n s x.what after.position (second_missing s alone) x.there_is x.clean stand.1 past, x.walked)

pub message_differs : (n : ℕ) (s : Segments) (l m : ReadLimiter) → is_some (words_at s (place 1 0) 0) ≡ false → Differs (value_from (reach n s) root (place 0 1)) l m → TellsMessage n s l (Ok false) m
message_differs n s l m alone x = (
  (λ small k le. never_true (is_canonical_message k s) (λ e.
      let a = message_stands k s e in
      let same : k - n + n ≡ k = omega (arith, le) in
      x.apart small (k - n) a.0 (length (canonical_words (trim a.0))) (ap (λ (j : ℕ). tree_at j s root) same ∙ a.1) a.2 (a.4, a.5))),
  x.began,
  (λ second. absurd cc),
)

-- the first word is there
pub first_head : (s : Segments) (o : Object) → IsNear s root o → AreWords (segment_words s 0) → HasHead s root 1 1
first_head s o near whole =
    let w = lead_word s root o (0, near.0) in
    let none_before : 0 + 1 ≤ 1 = omega arith in
    record { behind = none_before; there = (hold_end s root (w.0 ∷ []) (word_is s root w.0 w.1), omega arith); whole = whole }

-- what is told of the value at the root, from the next word on
pub message_ends : (n : ℕ) (s : Segments) (l m : ReadLimiter) (end : Option ℕ) (b : Bool) → is_some (words_at s (place 1 0) 0) ≡ false → HasHead s root 1 1 → IfSome end (λ i. b ≡ not (is_some (words_at s (place 0 i) 1))) → (end ≡ None → b ≡ false)
    → Tests (value_test (reach n s) root 1) l (Ok end) m → TellsMessage n s l (Ok b) m
message_ends n s l m (Some i) b alone given some none x =
    let there = given.there in
    let behind : IsBehind s root 1 (place 0 1) = (refl, omega arith, there.0) in
    subst (λ (c : Bool). TellsMessage n s l (Ok c) m) (sym some)
    (message_tells n s l m (place 0 i) (is_some (words_at s (place 0 i) 1)) alone refl refl (record { what = x.what; there_is = x.there_is; clean = x.clean; stand = (behind, x.stand); near = x.near; walked = x.walked }))
message_ends n s l m None b alone given some none x =
    subst (λ (c : Bool). TellsMessage n s l (Ok c) m) (sym (none refl))
    (message_differs n s l m alone (record { began = x.began; apart = λ small more t end is clean stand. x.apart small more t end is clean stand.1 }))
