-- The walk over all pairs that are reached.
use Rattle.std.proofs.Common.{◌≡◌, ℕ, zero, suc, ◌+◌, ◌<◌, Bool, true, false, not, ◌&&◌, ◌||◌, ◌==◌, inl, inr, IsTrue, Some, None, List, [], ◌∷◌, ◌++◌, length, take, slice_get, refl, sym, ◌∙◌, ap, subst, arith}
use Rattle.std.specs.List.{list_all}
use Rattle.std.specs.Bool.{MatchBool}
use Rattle.std.specs.Cmp.Derive.{both_true}
use Rattle.std.proofs.lemmas.Bool.{or_left, or_right, eq-eqb}
use Rattle.std.proofs.lemmas.List.Folds.{list_all-append}
use Rattle.capnp_model.specs.Compatible.{Pairs, has_pair, keeps, IsCompatible, IsCompatibleWith}
use Rattle.capnp_model.specs.Accepted.{schema_of, shape_in}
use Rattle.capnp_model.specs.Schemas.{Node, Shape}
use Rattle.capnp_model.proofs.lemmas.Tests.{same_number, and_left, and_right}
use Rattle.capnp_calls_versions.specs.declared.reached.Reached.{Reached}
use Rattle.capnp_calls_versions.specs.declared.keeps.Versions.{Versions}
use Rattle.capnp_calls_versions.specs.declared.keeps.Levels.{Levels}
use Rattle.capnp_calls_versions.specs.Pairs.{has_each, pairs_of}
use Rattle.capnp_calls_versions.specs.Holders.{held_nodes, held_schema}
use Rattle.capnp_calls_versions.specs.Walks.{IsSoundFor, Decides, older_schema, kept_shape, keeps_at, keeps_all, IsKeptFrom, AreEnough, are_alike}
use Rattle.capnp_calls_versions.specs.Breaks.{IsClosed, IsBreak, BreaksFrom}
use Rattle.capnp_calls_versions.specs.Faults.{IsBreakAt, IsClosedAt, IsBreakReached}
use Rattle.capnp_calls_versions.specs.declared.breaks.Break.{Break}
use Rattle.capnp_calls_versions.specs.declared.breaks.Rule.TheVariants as rule
use Rattle.capnp_model.specs.Partners.{Renaming, renamed, renamed_shape}
use Rattle.capnp_model.proofs.lemmas.NewerWords.{newer-words}
use Rattle.capnp_calls_versions.specs.Renamed.{names_in}
use Rattle.capnp_calls_versions.proofs.NodesFound.{shape_is}

-- ---- pairs among pairs

grown : (p : ℕ × ℕ) (ps xs : Pairs) → has_each ps xs ≡ true → has_each (p ∷ ps) xs ≡ true
grown p ps [] h = refl
grown p ps (x ∷ xs) h = both_true (or_right (p.0 == x.0 && p.1 == x.1) (has_pair ps x.0 x.1) (and_left (has_pair ps x.0 x.1) (has_each ps xs) h)) (grown p ps xs (and_right (has_pair ps x.0 x.1) (has_each ps xs) h))

pub each_itself : (ps : Pairs) → has_each ps ps ≡ true
each_itself [] = refl
each_itself (p ∷ ps) = both_true (or_left (p.0 == p.0 && p.1 == p.1) (has_pair ps p.0 p.1) (both_true (eq-eqb p.0 p.0 refl) (eq-eqb p.1 p.1 refl))) (grown p ps ps (each_itself ps))

pub passed : (test : ℕ × ℕ → Bool) (ps : Pairs) (a b : ℕ) → list_all test ps ≡ true → has_pair ps a b ≡ true → test (a, b) ≡ true
passed test [] a b h k = absurd (cc k)
passed test (p ∷ ps) a b h k = by (p.0 == a && p.1 == b) refl k (λ m. passed test ps a b (and_right (test p) (list_all test ps) h) m)
  where
    by : (x : Bool) → (p.0 == a && p.1 == b) ≡ x → (x || has_pair ps a b) ≡ true → (has_pair ps a b ≡ true → test (a, b) ≡ true) → test (a, b) ≡ true
    by true e g next =
        ap (λ z. test (z, b)) (sym (same_number p.0 a (and_left (p.0 == a) (p.1 == b) e)))
        ∙ ap (λ z. test (p.0, z)) (sym (same_number p.1 b (and_right (p.0 == a) (p.1 == b) e)))
        ∙ and_left (test p) (list_all test ps) h
    by false e g next = next g

pub pair_at : (pairs ps : Pairs) (i a b : ℕ) → slice_get ps i ≡ Some (a, b) → has_each pairs ps ≡ true → has_pair pairs a b ≡ true
pair_at pairs [] zero a b e h = absurd (cc e)
pair_at pairs [] (suc i) a b e h = absurd (cc e)
pair_at pairs (p ∷ ps) zero a b e h =
    let is : p ≡ (a, b) = cc e in
    ap (λ (q : ℕ × ℕ). has_pair pairs q.0 q.1) (sym is) ∙ and_left (has_pair pairs p.0 p.1) (has_each pairs ps) h
pair_at pairs (p ∷ ps) (suc i) a b e h = pair_at pairs ps i a b e (and_right (has_pair pairs p.0 p.1) (has_each pairs ps) h)

within : (ps : Pairs) (i : ℕ) (x : ℕ × ℕ) → slice_get ps i ≡ Some x → i < length ps
within [] zero x e = absurd (cc e)
within [] (suc i) x e = absurd (cc e)
within (p ∷ ps) zero x e = omega arith
within (p ∷ ps) (suc i) x e = let m = within ps i x e in omega arith

pub one_taken : (ps rest : Pairs) (i : ℕ) (x : ℕ × ℕ) → slice_get ps i ≡ Some x → take (i + 1) (ps ++ rest) ≡ take i ps ++ x ∷ []
one_taken [] rest zero x e = absurd (cc e)
one_taken [] rest (suc i) x e = absurd (cc e)
one_taken (p ∷ ps) rest zero x e = let is : p ≡ x = cc e in ap (λ (q : ℕ × ℕ). q ∷ []) is
one_taken (p ∷ ps) rest (suc i) x e = let more : suc i + 1 ≡ suc (i + 1) = omega arith in ap (λ k. take k (p ∷ (ps ++ rest))) more ∙ ap (λ qs. p ∷ qs) (one_taken ps rest i x e)

pub all_taken : (ps : Pairs) (i : ℕ) → slice_get ps i ≡ None → take i ps ≡ ps
all_taken [] zero e = refl
all_taken [] (suc i) e = refl
all_taken (p ∷ ps) zero e = absurd (cc e)
all_taken (p ∷ ps) (suc i) e = ap (λ qs. p ∷ qs) (all_taken ps i e)

-- ---- the walk

-- what is known where so many pairs are done
pub record Walked (v : Versions) (levels : Levels) (older newer i : ℕ) (r : Reached) : Type 0 where
  pub sound : IsSoundFor v r
  pub root : (pairs : Pairs) → has_each pairs (pairs_of r) ≡ true → has_pair pairs older newer ≡ true
  pub needed : (pairs : Pairs) → has_pair pairs older newer ≡ true → IsClosedAt v levels pairs → has_each pairs (pairs_of r) ≡ true
  pub done : (pairs : Pairs) → has_each pairs (pairs_of r) ≡ true → keeps_all v levels pairs (take i (pairs_of r)) ≡ true

pub begun : (v : Versions) (levels : Levels) (older newer : ℕ) (old new : Reached) → pairs_of old ≡ [] → ((pairs : Pairs) → (has_each pairs (pairs_of old) && has_pair pairs older newer) ≡ has_each pairs (pairs_of new)) → IsSoundFor v new → Walked v levels older newer 0 new
begun v levels older newer old new none h s =
    let same : (pairs : Pairs) → has_pair pairs older newer ≡ has_each pairs (pairs_of new) = λ pairs. ap (λ (ps : Pairs). has_each pairs ps && has_pair pairs older newer) (sym none) ∙ h pairs in
    record {
      sound = s;
      root = λ pairs k. same pairs ∙ k;
      needed = λ pairs k l. sym (same pairs) ∙ k;
      done = λ pairs k. refl;
    }

pub walked_on : (v : Versions) (levels : Levels) (older newer i a b : ℕ) (old new : Reached) → Walked v levels older newer i old → slice_get (pairs_of old) i ≡ Some (a, b) → Decides v old new true (keeps_at v levels a b) → Walked v levels older newer (i + 1) new
walked_on v levels older newer i a b old new w at d =
    let taken : take (i + 1) (pairs_of new) ≡ take i (pairs_of old) ++ (a, b) ∷ [] = ap (take (i + 1)) d.grows.parts ∙ one_taken (pairs_of old) d.grows.rest i (a, b) at in
    let both : (pairs : Pairs) → has_each pairs (pairs_of new) ≡ true → (has_each pairs (pairs_of old) && keeps_at v levels a b pairs) ≡ true = λ pairs k. d.tested pairs ∙ k in
    record {
      sound = d.sound;
      root = λ pairs k. w.root pairs (and_left (has_each pairs (pairs_of old)) (keeps_at v levels a b pairs) (both pairs k));
      needed = λ pairs k l.
          let before = w.needed pairs k l in
          let here : has_pair pairs a b ≡ true = pair_at pairs (pairs_of old) i a b at before in
          let alone : keeps_at v levels a b (pairs_of new) ≡ true
          = and_right (has_each (pairs_of new) (pairs_of old)) (keeps_at v levels a b (pairs_of new)) (d.tested (pairs_of new) ∙ each_itself (pairs_of new)) in
          sym (d.tested pairs) ∙ both_true before (l a b here (pairs_of new) alone);
      done = λ pairs k.
          let two = both pairs k in
          ap (keeps_all v levels pairs) taken
          ∙ list_all-append (λ p. keeps_at v levels p.0 p.1 pairs) (take i (pairs_of old)) ((a, b) ∷ [])
          ∙ both_true (w.done pairs (and_left (has_each pairs (pairs_of old)) (keeps_at v levels a b pairs) two)) (both_true (and_right (has_each pairs (pairs_of old)) (keeps_at v levels a b pairs) two) refl);
    }

pub walked_all : (v : Versions) (levels : Levels) (older newer i : ℕ) (r : Reached) → Walked v levels older newer i r → None ≡ slice_get (pairs_of r) i → IsKeptFrom v levels older newer
walked_all v levels older newer i r w e =
    let all = each_itself (pairs_of r) in
    record {
      pairs = pairs_of r;
      has_roots = w.root (pairs_of r) all;
      are_kept = ap (keeps_all v levels (pairs_of r)) (sym (all_taken (pairs_of r) i (sym e))) ∙ w.done (pairs_of r) all;
    }

-- a set whose pairs are kept is closed
pub kept_closed : (v : Versions) (levels : Levels) (pairs : Pairs) → keeps_all v levels pairs pairs ≡ true → IsClosedAt v levels pairs
kept_closed v levels pairs h i j k more l = passed (λ p. keeps_at v levels p.0 p.1 pairs) pairs i j h k

pub walked_into : (v : Versions) (levels : Levels) (older newer i a b : ℕ) (old new : Reached) → Walked v levels older newer i old → slice_get (pairs_of old) i ≡ Some (a, b) → Decides v old new false (keeps_at v levels a b) → IsKeptFrom v levels older newer → ⊥
walked_into v levels older newer i a b old new w at d k =
    let before = w.needed k.pairs k.has_roots (kept_closed v levels k.pairs k.are_kept) in
    let here : has_pair k.pairs a b ≡ true = pair_at k.pairs (pairs_of old) i a b at before in
    let kept : keeps_at v levels a b k.pairs ≡ true = passed (λ p. keeps_at v levels p.0 p.1 k.pairs) k.pairs a b k.are_kept here in
    let clash : true ≡ false = sym (both_true before kept) ∙ d.tested k.pairs in
    absurd (cc clash)

pub breaks_there : (v : Versions) (levels : Levels) (older newer i a b : ℕ) (r : Reached) (x : Break) → Walked v levels older newer i r → slice_get (pairs_of r) i ≡ Some (a, b) → IsBreakAt v levels a b x → IsBreakReached v levels older newer x
breaks_there v levels older newer i a b r x w at h = record {
  i = a;
  j = b;
  reached = λ pairs k l. pair_at pairs (pairs_of r) i a b at (w.needed pairs k l);
  breaks = h;
}

-- ---- compatible schemas

pub older_alike : (v : Versions) (levels : Levels) → AreEnough v levels → (i : ℕ) → (older_schema v).shape_of i ≡ kept_shape v levels i
older_alike v levels e i =
    newer-words (names_in v.names) ((held_schema v.older).shape_of i)
    ∙ ap (renamed_shape (names_in v.names)) (shape_is (held_nodes v.older) i ∙ ap (λ (k : ℕ). shape_in (held_nodes v.older) k i) (sym e.older))

pub newer_alike : (v : Versions) (levels : Levels) → AreEnough v levels → (j : ℕ) → (held_schema v.newer).shape_of j ≡ shape_in (held_nodes v.newer) levels.newer j
newer_alike v levels e j = shape_is (held_nodes v.newer) j ∙ ap (λ (k : ℕ). shape_in (held_nodes v.newer) k j) (sym e.newer)

pub keeps_alike : (v : Versions) (levels : Levels) → AreEnough v levels → (i j : ℕ) (pairs : Pairs)
    → keeps (older_schema v) (held_schema v.newer) pairs ((older_schema v).shape_of i) ((held_schema v.newer).shape_of j) ≡ keeps_at v levels i j pairs
keeps_alike v levels e i j pairs =
    ap (λ g. keeps (older_schema v) (held_schema v.newer) pairs g ((held_schema v.newer).shape_of j)) (older_alike v levels e i)
    ∙ ap (λ g. keeps (older_schema v) (held_schema v.newer) pairs (kept_shape v levels i) g) (newer_alike v levels e j)

-- a set that is closed is closed at so many levels
pub closed_alike : (v : Versions) (levels : Levels) → AreEnough v levels → (pairs : Pairs) → IsClosed (older_schema v) (held_schema v.newer) pairs → IsClosedAt v levels pairs
closed_alike v levels e pairs c i j h more k = sym (keeps_alike v levels e i j pairs) ∙ c i j h more (keeps_alike v levels e i j more ∙ k)

kept_alike : (v : Versions) (levels : Levels) → AreEnough v levels → (pairs some : Pairs)
    → list_all (λ p. keeps (older_schema v) (held_schema v.newer) pairs ((older_schema v).shape_of p.0) ((held_schema v.newer).shape_of p.1)) some ≡ keeps_all v levels pairs some
kept_alike v levels e pairs [] = refl
kept_alike v levels e pairs (p ∷ some) =
    let first = older_alike v levels e p.0 in
    let second = newer_alike v levels e p.1 in
    ap (λ g. keeps (older_schema v) (held_schema v.newer) pairs g ((held_schema v.newer).shape_of p.1) && list_all (λ q. keeps (older_schema v) (held_schema v.newer) pairs ((older_schema v).shape_of q.0) ((held_schema v.newer).shape_of q.1)) some) first
    ∙ ap (λ g. keeps (older_schema v) (held_schema v.newer) pairs (kept_shape v levels p.0) g && list_all (λ q. keeps (older_schema v) (held_schema v.newer) pairs ((older_schema v).shape_of q.0) ((held_schema v.newer).shape_of q.1)) some) second
    ∙ ap (λ z. keeps_at v levels p.0 p.1 pairs && z) (kept_alike v levels e pairs some)

truth : (b : Bool) → b ≡ true → IsTrue b
truth b h = h

untruth : (b : Bool) → IsTrue b → b ≡ true
untruth b h = h

pub compatible_if : (v : Versions) (levels : Levels) (i j : ℕ) → AreEnough v levels → (held_schema v.older).is_group i ≡ (held_schema v.newer).is_group j → IsKeptFrom v levels i j → IsCompatible (older_schema v) (held_schema v.newer) i j
compatible_if v levels i j e g k = record {
  pairs = k.pairs;
  same_sort = g;
  has_roots = truth (has_pair k.pairs i j) k.has_roots;
  are_kept = truth _ (kept_alike v levels e k.pairs k.pairs ∙ k.are_kept);
}

pub compatible_only_if : (v : Versions) (levels : Levels) (i j : ℕ) → AreEnough v levels → IsCompatible (older_schema v) (held_schema v.newer) i j → IsKeptFrom v levels i j
compatible_only_if v levels i j e k = record {
  pairs = k.pairs;
  has_roots = untruth (has_pair k.pairs i j) k.has_roots;
  are_kept = sym (kept_alike v levels e k.pairs k.pairs) ∙ untruth _ k.are_kept;
}

-- what is answered of the versions is answered of their nodes
pub answer_is : (v : Versions) (levels : Levels) (i j : ℕ) (b : Bool) (rs : List Renaming) (os ns : List Node) → names_in v.names ≡ rs → held_nodes v.older ≡ os → held_nodes v.newer ≡ ns → AreEnough v levels → (held_schema v.older).is_group i ≡ (held_schema v.newer).is_group j
    → MatchBool b (IsKeptFrom v levels i j) (IsKeptFrom v levels i j → ⊥) → MatchBool b (IsCompatibleWith rs (schema_of os) (schema_of ns) i j) (IsCompatibleWith rs (schema_of os) (schema_of ns) i j → ⊥)
answer_is v levels i j b rs os ns names h k e g m =
    subst (λ (zs : List Renaming). MatchBool b (IsCompatibleWith zs (schema_of os) (schema_of ns) i j) (IsCompatibleWith zs (schema_of os) (schema_of ns) i j → ⊥)) names
    (subst (λ (xs : List Node). MatchBool b (IsCompatibleWith (names_in v.names) (schema_of xs) (schema_of ns) i j) (IsCompatibleWith (names_in v.names) (schema_of xs) (schema_of ns) i j → ⊥)) h
    (subst (λ (ys : List Node). MatchBool b (IsCompatible (older_schema v) (schema_of ys) i j) (IsCompatible (older_schema v) (schema_of ys) i j → ⊥)) k (by b m)))
  where
    by : (x : Bool) → MatchBool x (IsKeptFrom v levels i j) (IsKeptFrom v levels i j → ⊥) → MatchBool x (IsCompatible (older_schema v) (held_schema v.newer) i j) (IsCompatible (older_schema v) (held_schema v.newer) i j → ⊥)
    by true y = compatible_if v levels i j e g y
    by false y = λ z. y (compatible_only_if v levels i j e z)

pub alike : (a b : Bool) → are_alike a b ≡ true → a ≡ b
alike true b h = sym h
alike false false h = refl
alike false true h = absurd (cc h)

apart : (a b : Bool) → are_alike a b ≡ false → a ≡ b → ⊥
apart true true h e = absurd (cc h)
apart true false h e = absurd (cc e)
apart false true h e = absurd (cc e)
apart false false h e = absurd (cc h)

-- a group and a struct that is none are not compatible
pub other_sorts_are_not : (v : Versions) (i j : ℕ) (rs : List Renaming) (os ns : List Node) → held_nodes v.older ≡ os → held_nodes v.newer ≡ ns → are_alike ((held_schema v.older).is_group i) ((held_schema v.newer).is_group j) ≡ false → IsCompatibleWith rs (schema_of os) (schema_of ns) i j → ⊥
other_sorts_are_not v i j rs os ns h k e c =
    apart ((held_schema v.older).is_group i) ((held_schema v.newer).is_group j) e
    (ap (λ (xs : List Node). (schema_of xs).is_group i) h ∙ c.same_sort ∙ ap (λ (xs : List Node). (schema_of xs).is_group j) (sym k))

pub not_back : (a b : Bool) → a ≡ not b → not a ≡ b
not_back a true e = ap not e
not_back a false e = ap not e

-- ---- what breaks

reached_from : (v : Versions) (levels : Levels) (i j : ℕ) (x : Break) → AreEnough v levels → IsBreakReached v levels i j x → BreaksFrom (older_schema v) (held_schema v.newer) i j x
reached_from v levels i j x e h =
    inr (record {
      i = h.i;
      j = h.j;
      reached = λ pairs k l. h.reached pairs k (closed_alike v levels e pairs l);
      breaks =
          subst (λ (g : Shape). IsBreak (older_schema v) (held_schema v.newer) x g ((held_schema v.newer).shape_of h.j)) (sym (older_alike v levels e h.i))
          (subst (λ (g : Shape). IsBreak (older_schema v) (held_schema v.newer) x (kept_shape v levels h.i) g) (sym (newer_alike v levels e h.j)) h.breaks);
    })

pub of_others : (a b : Bool) → are_alike a b ≡ false → a ≡ not b
of_others true true h = absurd (cc h)
of_others true false h = refl
of_others false true h = refl
of_others false false h = absurd (cc h)

-- what breaks of the versions breaks of their nodes
module _ (v : Versions) (i j : ℕ) (rs : List Renaming) (os ns : List Node) (names : names_in v.names ≡ rs) (h : held_nodes v.older ≡ os) (k : held_nodes v.newer ≡ ns) where
  of_nodes : (x : Break) → BreaksFrom (older_schema v) (held_schema v.newer) i j x → BreaksFrom (renamed rs (schema_of os)) (schema_of ns) i j x
  of_nodes x b =
      subst (λ (zs : List Renaming). BreaksFrom (renamed zs (schema_of os)) (schema_of ns) i j x) names
      (subst (λ (xs : List Node). BreaksFrom (renamed (names_in v.names) (schema_of xs)) (schema_of ns) i j x) h
      (subst (λ (ys : List Node). BreaksFrom (older_schema v) (schema_of ys) i j x) k b))

  pub breaks_from : (levels : Levels) (x : Break) → AreEnough v levels → IsBreakReached v levels i j x → BreaksFrom (renamed rs (schema_of os)) (schema_of ns) i j x
  breaks_from levels x e b = of_nodes x (reached_from v levels i j x e b)

  pub breaks_at_roots : are_alike ((held_schema v.older).is_group i) ((held_schema v.newer).is_group j) ≡ false → BreaksFrom (renamed rs (schema_of os)) (schema_of ns) i j (record { older = i; newer = j; rule = rule.Roots })
  breaks_at_roots e = of_nodes _ (inl (record { at_roots = refl; is_older = refl; is_newer = refl; sorts = of_others _ _ e }))
