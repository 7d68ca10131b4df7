-- The walk over all pairs, behind those that are not kept too.
use Rattle.std.proofs.Common.{◌≡◌, ℕ, zero, suc, ◌+◌, Bool, true, false, ◌&&◌, ◌||◌, ◌==◌, ◌⊎◌, inl, inr, Some, None, List, [], ◌∷◌, ◌++◌, append-nil, length, take, slice_get, refl, sym, ◌∙◌, ap, subst, arith}
use Rattle.std.specs.List.{list_all}
use Rattle.std.specs.Bool.{MatchBool}
use Rattle.std.specs.Cmp.Derive.{both_true}
use Rattle.std.proofs.lemmas.Bool.{or_left, or_right, eq-eqb}
use Rattle.capnp_model.specs.Schemas.{Schema, Node, Shape}
use Rattle.capnp_model.specs.Accepted.{schema_of}
use Rattle.capnp_model.specs.Partners.{Renaming, renamed}
use Rattle.capnp_calls_versions.specs.declared.breaks.Rule.TheVariants as rule
use Rattle.capnp_calls_versions.specs.Holders.{held_nodes, held_schema}
use Rattle.capnp_calls_versions.specs.Renamed.{names_in}
use Rattle.capnp_calls_versions.specs.Breaks.{IsClosed, IsBreak}
use Rattle.capnp_model.specs.Compatible.{Pairs, has_pair}
use Rattle.capnp_model.proofs.lemmas.Tests.{and_left, and_right, and_true, and_assoc, same_number, test_is_false}
use Rattle.capnp_calls_versions.specs.declared.breaks.Break.{Break}
use Rattle.capnp_calls_versions.specs.declared.reached.Reached.{Reached}
use Rattle.capnp_calls_versions.specs.declared.keeps.Versions.{Versions}
use Rattle.capnp_calls_versions.specs.declared.keeps.Levels.{Levels}
use Rattle.capnp_calls_versions.specs.Pairs.{has_each, pairs_of, IsSound, IsFront}
use Rattle.capnp_calls_versions.specs.Walks.{IsSoundFor, Decides, older_schema, kept_shape, keeps_at, IsKeptFrom, AreEnough, are_alike}
use Rattle.capnp_calls_versions.specs.Faults.{IsBreakAt, IsClosedAt}
use Rattle.capnp_calls_versions.specs.AllBreaks.{HasBreak, AreBreaksAt, AllBreaksOf}
use Rattle.capnp_calls_versions.proofs.Known.{reached_now, one_more as one_pair}
use Rattle.capnp_calls_versions.proofs.Scans.{front_itself, front_of_front}
use Rattle.capnp_calls_versions.proofs.AllKept.{Walked, each_itself, passed, pair_at, one_taken, all_taken, kept_closed, older_alike, newer_alike, keeps_alike, closed_alike, of_others}

-- ---- pairs that another walk reached

pub record Adding (old others now : Reached) (k : ℕ) : Type 0 where
  pub pairs : (o n : Schema) → IsSound o n old → (ps : Pairs) → (has_each ps (pairs_of old) && has_each ps (take k (pairs_of others))) ≡ has_each ps (pairs_of now)
  pub sound : (o n : Schema) → IsSound o n old → IsSound o n now
  pub grows : IsFront (pairs_of old) (pairs_of now)

pub adding_first : (old others : Reached) → Adding old others old 0
adding_first old others = record { pairs = λ o n s ps. and_true (has_each ps (pairs_of old)); sound = λ o n s. s; grows = front_itself (pairs_of old) }

pub adding_on : (old others now new : Reached) (k a b : ℕ) → Adding old others now k → slice_get (pairs_of others) k ≡ Some (a, b)
    → ((o n : Schema) → IsSound o n now → (ps : Pairs) → (has_each ps (pairs_of now) && has_pair ps a b) ≡ has_each ps (pairs_of new))
    → ((o n : Schema) → IsSound o n now → IsSound o n new) → IsFront (pairs_of now) (pairs_of new) → Adding old others new (k + 1)
adding_on old others now new k a b x at p s g = record {
  pairs = λ o n i ps.
      ap (λ (qs : Pairs). has_each ps (pairs_of old) && has_each ps qs) taken
      ∙ ap (λ c. has_each ps (pairs_of old) && c) (reached_now ps (take k (pairs_of others)) a b)
      ∙ sym (and_assoc (has_each ps (pairs_of old)) (has_each ps (take k (pairs_of others))) (has_pair ps a b))
      ∙ ap (λ c. c && has_pair ps a b) (x.pairs o n i ps)
      ∙ p o n (x.sound o n i) ps;
  sound = λ o n i. s o n (x.sound o n i);
  grows = front_of_front (pairs_of old) (pairs_of now) (pairs_of new) x.grows g;
}
  where
    taken : take (k + 1) (pairs_of others) ≡ take k (pairs_of others) ++ (a, b) ∷ []
    taken = ap (take (k + 1)) (sym (append-nil (pairs_of others))) ∙ one_taken (pairs_of others) [] k (a, b) at

pub adding_end : (old others now : Reached) (k : ℕ) → Adding old others now k → None ≡ slice_get (pairs_of others) k
    → (o n : Schema) → IsSound o n old → (ps : Pairs) → (has_each ps (pairs_of old) && has_each ps (pairs_of others)) ≡ has_each ps (pairs_of now)
adding_end old others now k x e o n s ps = ap (λ (qs : Pairs). has_each ps (pairs_of old) && has_each ps qs) (sym (all_taken (pairs_of others) k (sym e))) ∙ x.pairs o n s ps

-- ---- breaks among others

no_break : (k : ℕ) (x : Break) → slice_get [] k ≡ Some x → ⊥
no_break zero x e = absurd (cc e)
no_break (suc k) x e = absurd (cc e)

one_more : (bs : List Break) (x : Break) (k : ℕ) (y : Break) → slice_get (bs ++ x ∷ []) k ≡ Some y → (slice_get bs k ≡ Some y) ⊎ (x ≡ y)
one_more [] x zero y e = inr (cc e)
one_more [] x (suc k) y e = absurd (no_break k y e)
one_more (b ∷ bs) x zero y e = inl e
one_more (b ∷ bs) x (suc k) y e = one_more bs x k y e

still : (bs : List Break) (x : Break) (k : ℕ) (y : Break) → slice_get bs k ≡ Some y → slice_get (bs ++ x ∷ []) k ≡ Some y
still [] x k y e = absurd (no_break k y e)
still (b ∷ bs) x zero y e = e
still (b ∷ bs) x (suc k) y e = still bs x k y e

last : (bs : List Break) (x : Break) → slice_get (bs ++ x ∷ []) (length bs) ≡ Some x
last [] x = refl
last (b ∷ bs) x = let more : length (b ∷ bs) ≡ suc (length bs) = omega arith in ap (λ (k : ℕ). slice_get (b ∷ (bs ++ x ∷ [])) k) more ∙ last bs x

-- ---- the walk

abbrev pub Unkept : Versions → Levels → ℕ → ℕ → Type 0
Unkept v levels a b = (pairs : Pairs) → keeps_at v levels a b pairs ≡ true → ⊥

abbrev pub ReachedAt : Versions → Levels → ℕ → ℕ → ℕ → ℕ → Type 0
ReachedAt v levels older newer a b = (pairs : Pairs) → has_pair pairs older newer ≡ true → IsClosedAt v levels pairs → has_pair pairs a b ≡ true

-- the pair is kept where those that are reached are, or it is not kept and has a break
abbrev pub IsDone : Versions → Levels → Reached → List Break → ℕ → ℕ → Type 0
IsDone v levels r bs a b = ((pairs : Pairs) → has_each pairs (pairs_of r) ≡ true → keeps_at v levels a b pairs ≡ true) ⊎ (Unkept v levels a b × HasBreak bs (λ x. IsBreakAt v levels a b x))

pub record Told (v : Versions) (levels : Levels) (older newer i : ℕ) (r : Reached) (bs : List Break) : Type 0 where
  pub sound : IsSoundFor v r
  pub root : (pairs : Pairs) → has_each pairs (pairs_of r) ≡ true → has_pair pairs older newer ≡ true
  pub needed : (pairs : Pairs) → has_pair pairs older newer ≡ true → IsClosedAt v levels pairs → has_each pairs (pairs_of r) ≡ true
  pub done : (a b : ℕ) → has_pair (take i (pairs_of r)) a b ≡ true → IsDone v levels r bs a b
  pub each : (k : ℕ) (x : Break) → slice_get bs k ≡ Some x → (a : ℕ) × (b : ℕ) × ReachedAt v levels older newer a b × Unkept v levels a b × IsBreakAt v levels a b x

pub told_first : (v : Versions) (levels : Levels) (older newer : ℕ) (r : Reached) → Walked v levels older newer 0 r → Told v levels older newer 0 r []
told_first v levels older newer r w = record { sound = w.sound; root = w.root; needed = w.needed; done = λ a b h. absurd (cc h); each = λ k x e. absurd (no_break k x e) }

module _ (v : Versions) (levels : Levels) (older newer i a b : ℕ) (start named : Reached) (none : pairs_of start ≡ []) where
  alone_is : (ok : Bool) → Decides v start named ok (keeps_at v levels a b) → (pairs : Pairs) → keeps_at v levels a b pairs ≡ (ok && has_each pairs (pairs_of named))
  alone_is ok d pairs = ap (λ (ps : Pairs). has_each pairs ps && keeps_at v levels a b pairs) (sym none) ∙ d.tested pairs

  pub told_kept : (old new : Reached) (bs : List Break) → Told v levels older newer i old bs → slice_get (pairs_of old) i ≡ Some (a, b) → Decides v start named true (keeps_at v levels a b)
      → ((pairs : Pairs) → (has_each pairs (pairs_of old) && has_each pairs (pairs_of named)) ≡ has_each pairs (pairs_of new)) → IsSoundFor v new → IsFront (pairs_of old) (pairs_of new) → Told v levels older newer (i + 1) new bs
  told_kept old new bs w at d join s g =
      let old_too : (pairs : Pairs) → has_each pairs (pairs_of new) ≡ true → has_each pairs (pairs_of old) ≡ true = λ pairs k. and_left (has_each pairs (pairs_of old)) (has_each pairs (pairs_of named)) (join pairs ∙ k) in
      record {
        sound = s;
        root = λ pairs k. w.root pairs (old_too pairs k);
        needed = λ pairs k l.
            let before = w.needed pairs k l in
            let kept = l a b (pair_at pairs (pairs_of old) i a b at before) (pairs_of named) (alone_is true d (pairs_of named) ∙ each_itself (pairs_of named)) in
            sym (join pairs) ∙ both_true before (sym (alone_is true d pairs) ∙ kept);
        done = λ x y h. by x y (a == x && b == y) refl (sym (one_pair (take i (pairs_of old)) a b x y) ∙ ap (λ (ps : Pairs). has_pair ps x y) (sym taken) ∙ h) (λ z. grown x y old_too (w.done x y z));
        each = w.each;
      }
    where
      taken : take (i + 1) (pairs_of new) ≡ take i (pairs_of old) ++ (a, b) ∷ []
      taken = ap (take (i + 1)) g.parts ∙ one_taken (pairs_of old) g.rest i (a, b) at

      here : IsDone v levels new bs a b
      here = inl (λ pairs k. alone_is true d pairs ∙ and_right (has_each pairs (pairs_of old)) (has_each pairs (pairs_of named)) (join pairs ∙ k))

      grown : (x y : ℕ) → ((pairs : Pairs) → has_each pairs (pairs_of new) ≡ true → has_each pairs (pairs_of old) ≡ true) → IsDone v levels old bs x y → IsDone v levels new bs x y
      grown x y f (inl z) = inl (λ pairs k. z pairs (f pairs k))
      grown x y f (inr u) = inr u

      by : (x y : ℕ) (c : Bool) → (a == x && b == y) ≡ c → (c || has_pair (take i (pairs_of old)) x y) ≡ true → (has_pair (take i (pairs_of old)) x y ≡ true → IsDone v levels new bs x y) → IsDone v levels new bs x y
      by x y true e h next =
          subst (λ (z : ℕ). IsDone v levels new bs z y) (same_number a x (and_left (a == x) (b == y) e))
          (subst (λ (z : ℕ). IsDone v levels new bs a z) (same_number b y (and_right (a == x) (b == y) e)) here)
      by x y false e h next = next h

  pub told_broken : (r : Reached) (bs : List Break) (x : Break) → Told v levels older newer i r bs → slice_get (pairs_of r) i ≡ Some (a, b) → Decides v start named false (keeps_at v levels a b) → IsBreakAt v levels a b x
      → Told v levels older newer (i + 1) r (bs ++ x ∷ [])
  told_broken r bs x w at d h = record {
    sound = w.sound;
    root = w.root;
    needed = w.needed;
    done = λ y z k. by y z (a == y && b == z) refl (sym (one_pair (take i (pairs_of r)) a b y z) ∙ ap (λ (ps : Pairs). has_pair ps y z) (sym taken) ∙ k) (λ l. more y z (w.done y z l));
    each = λ k y e. of_each y (one_more bs x k y e) (λ g. w.each k y g);
  }
    where
      taken : take (i + 1) (pairs_of r) ≡ take i (pairs_of r) ++ (a, b) ∷ []
      taken = ap (take (i + 1)) (sym (append-nil (pairs_of r))) ∙ one_taken (pairs_of r) [] i (a, b) at

      never : Unkept v levels a b
      never pairs k = let clash : true ≡ false = sym k ∙ alone_is false d pairs in absurd (cc clash)

      here : IsDone v levels r (bs ++ x ∷ []) a b
      here = inr (never, record { place = length bs; one = x; is = last bs x; holds = h })

      more : (y z : ℕ) → IsDone v levels r bs y z → IsDone v levels r (bs ++ x ∷ []) y z
      more y z (inl f) = inl f
      more y z (inr u) = inr (u.0, record { place = u.1.place; one = u.1.one; is = still bs x u.1.place u.1.one u.1.is; holds = u.1.holds })

      by : (y z : ℕ) (c : Bool) → (a == y && b == z) ≡ c → (c || has_pair (take i (pairs_of r)) y z) ≡ true → (has_pair (take i (pairs_of r)) y z ≡ true → IsDone v levels r (bs ++ x ∷ []) y z) → IsDone v levels r (bs ++ x ∷ []) y z
      by y z true e k next =
          subst (λ (n : ℕ). IsDone v levels r (bs ++ x ∷ []) n z) (same_number a y (and_left (a == y) (b == z) e))
          (subst (λ (n : ℕ). IsDone v levels r (bs ++ x ∷ []) a n) (same_number b z (and_right (a == y) (b == z) e)) here)
      by y z false e k next = next k

      One : Break → Type 0
      One y = (c : ℕ) × (e : ℕ) × ReachedAt v levels older newer c e × Unkept v levels c e × IsBreakAt v levels c e y

      of_each : (y : Break) {F : Type 0} → F ⊎ (x ≡ y) → (F → One y) → One y
      of_each y (inl g) f = f g
      of_each y (inr e) f = (a, b, (λ pairs k l. pair_at pairs (pairs_of r) i a b at (w.needed pairs k l)), never, subst (λ (z : Break). IsBreakAt v levels a b z) e h)

pub told_is : (v : Versions) (levels : Levels) (older newer i : ℕ) (r s : Reached) (xs ys : List Break) → s ≡ r → ys ≡ xs → Told v levels older newer i r xs → Told v levels older newer i s ys
told_is v levels older newer i r s xs ys e f w =
    subst (λ (q : Reached). Told v levels older newer i q ys) (sym e) (subst (λ (zs : List Break). Told v levels older newer i r zs) (sym f) w)

-- ---- the end

list_by : (test : ℕ × ℕ → Bool) (ps : Pairs) → ((a b : ℕ) → has_pair ps a b ≡ true → test (a, b) ≡ true) → list_all test ps ≡ true
list_by test [] f = refl
list_by test (p ∷ ps) f =
    both_true (f p.0 p.1 (or_left (p.0 == p.0 && p.1 == p.1) (has_pair ps p.0 p.1) (both_true (eq-eqb p.0 p.0 refl) (eq-eqb p.1 p.1 refl))))
    (list_by test ps (λ a b h. f a b (or_right (p.0 == a && p.1 == b) (has_pair ps a b) h)))

some_breaks : (x : Break) (xs : List Break) → (length (x ∷ xs) == 0) ≡ false
some_breaks x xs = test_is_false (suc (length xs)) 0 (λ h. omega (arith, h))

pub one_is_some : (bs : List Break) (x : Break) → bs ≡ x ∷ [] → (length bs == 0) ≡ false
one_is_some bs x is = ap (λ (cs : List Break). length cs == 0) is ∙ some_breaks x []

module _ (v : Versions) (levels : Levels) (older newer i : ℕ) (r : Reached) (e : None ≡ slice_get (pairs_of r) i) where
  is_done : (bs : List Break) → Told v levels older newer i r bs → (a b : ℕ) → has_pair (pairs_of r) a b ≡ true → IsDone v levels r bs a b
  is_done bs w a b h = w.done a b (ap (λ (ps : Pairs). has_pair ps a b) (all_taken (pairs_of r) i (sym e)) ∙ h)

  closed : (bs : List Break) → Told v levels older newer i r bs → IsClosedAt v levels (pairs_of r)
  closed bs w a b h more k = by (is_done bs w a b h)
    where
      by : IsDone v levels r bs a b → keeps_at v levels a b (pairs_of r) ≡ true
      by (inl f) = f (pairs_of r) (each_itself (pairs_of r))
      by (inr u) = absurd (u.0 more k)

  pub told_all : (bs : List Break) → Told v levels older newer i r bs → AreBreaksAt v levels older newer bs
  told_all bs w = record {
    each = w.each;
    all = λ a b reached unkept. by a b unkept (is_done bs w a b (reached (pairs_of r) (w.root (pairs_of r) (each_itself (pairs_of r))) (closed bs w)));
  }
    where
      by : (a b : ℕ) → Unkept v levels a b → IsDone v levels r bs a b → HasBreak bs (λ x. IsBreakAt v levels a b x)
      by a b unkept (inl f) = absurd (unkept (pairs_of r) (f (pairs_of r) (each_itself (pairs_of r))))
      by a b unkept (inr u) = u.1

  pub told_answer : (bs : List Break) → Told v levels older newer i r bs → MatchBool (length bs == 0) (IsKeptFrom v levels older newer) (IsKeptFrom v levels older newer → ⊥)
  told_answer [] w = record { pairs = pairs_of r; has_roots = w.root (pairs_of r) (each_itself (pairs_of r)); are_kept = list_by (λ p. keeps_at v levels p.0 p.1 (pairs_of r)) (pairs_of r) (λ a b h. by a b (is_done [] w a b h)) }
    where
      by : (a b : ℕ) → IsDone v levels r [] a b → keeps_at v levels a b (pairs_of r) ≡ true
      by a b (inl f) = f (pairs_of r) (each_itself (pairs_of r))
      by a b (inr u) = absurd (no_break u.1.place u.1.one u.1.is)
  told_answer (x ∷ xs) w =
      subst (λ (c : Bool). MatchBool c (IsKeptFrom v levels older newer) (IsKeptFrom v levels older newer → ⊥)) (sym (some_breaks x xs))
      (λ k.
      let f = w.each 0 x refl in
      f.3 k.pairs (passed (λ p. keeps_at v levels p.0 p.1 k.pairs) k.pairs f.0 f.1 k.are_kept (f.2 k.pairs k.has_roots (kept_closed v levels k.pairs k.are_kept))))

-- ---- of the schemas

module _ (v : Versions) (levels : Levels) (older newer : ℕ) (e : AreEnough v levels) where
  closed_back : (pairs : Pairs) → IsClosedAt v levels pairs → IsClosed (older_schema v) (held_schema v.newer) pairs
  closed_back pairs c i j h more k = keeps_alike v levels e i j pairs ∙ c i j h more (sym (keeps_alike v levels e i j more) ∙ k)

  to_shapes : (i j : ℕ) (x : Break) → IsBreakAt v levels i j x → IsBreak (older_schema v) (held_schema v.newer) x ((older_schema v).shape_of i) ((held_schema v.newer).shape_of j)
  to_shapes i j x b =
      subst (λ (g : Shape). IsBreak (older_schema v) (held_schema v.newer) x g ((held_schema v.newer).shape_of j)) (sym (older_alike v levels e i))
      (subst (λ (g : Shape). IsBreak (older_schema v) (held_schema v.newer) x (kept_shape v levels i) g) (sym (newer_alike v levels e j)) b)

  pub all_of : (bs : List Break) → (older_schema v).is_group older ≡ (held_schema v.newer).is_group newer → AreBreaksAt v levels older newer bs → AllBreaksOf (older_schema v) (held_schema v.newer) older newer bs
  all_of bs sorts x =
      inr (
        sorts,
        record {
          each = λ k b is.
              let f = x.each k b is in
              (f.0, f.1, (λ pairs r c. f.2 pairs r (closed_alike v levels e pairs c)), (λ pairs h. f.3 pairs (sym (keeps_alike v levels e f.0 f.1 pairs) ∙ h)), to_shapes f.0 f.1 b f.4);
          all = λ i j r u.
              let h = x.all i j (λ pairs g c. r pairs g (closed_back pairs c)) (λ pairs g. u pairs (keeps_alike v levels e i j pairs ∙ g)) in
              record { place = h.place; one = h.one; is = h.is; holds = to_shapes i j h.one h.holds };
        },
      )

module _ (v : Versions) (i j : ℕ) (rs : List Renaming) (os ns : List Node) (names : names_in v.names ≡ rs) (h : held_nodes v.older ≡ os) (k : held_nodes v.newer ≡ ns) where
  of_nodes : (bs : List Break) → AllBreaksOf (older_schema v) (held_schema v.newer) i j bs → AllBreaksOf (renamed rs (schema_of os)) (schema_of ns) i j bs
  of_nodes bs b =
      subst (λ (zs : List Renaming). AllBreaksOf (renamed zs (schema_of os)) (schema_of ns) i j bs) names
      (subst (λ (xs : List Node). AllBreaksOf (renamed (names_in v.names) (schema_of xs)) (schema_of ns) i j bs) h
      (subst (λ (ys : List Node). AllBreaksOf (older_schema v) (schema_of ys) i j bs) k b))

  pub all_from : (levels : Levels) (bs : List Break) → AreEnough v levels → (held_schema v.older).is_group i ≡ (held_schema v.newer).is_group j → AreBreaksAt v levels i j bs → AllBreaksOf (renamed rs (schema_of os)) (schema_of ns) i j bs
  all_from levels bs e s b = of_nodes bs (all_of v levels i j e bs s b)

  pub all_at_roots : (bs : List Break) (x : Break) → bs ≡ x ∷ [] → x ≡ (record { older = i; newer = j; rule = rule.Roots }) → are_alike ((held_schema v.older).is_group i) ((held_schema v.newer).is_group j) ≡ false → AllBreaksOf (renamed rs (schema_of os)) (schema_of ns) i j bs
  all_at_roots bs x is same e =
      of_nodes bs (inl (record { older = i; newer = j; rule = rule.Roots }, is ∙ ap (λ (b : Break). b ∷ []) same, record { at_roots = refl; is_older = refl; is_newer = refl; sorts = of_others _ _ e }))
