-- Words that become zero, and values that become null.
use Rattle.std.proofs.Common.{◌≡◌, ℕ, zero, suc, ◌+◌, List, Some, refl, subst, sym, ◌∙◌, arith, ◌≤◌, ◌<◌, ap, true, false, Ok, [], ◌∷◌, Bool, eqb, length, replicate, Option, cond}
use Rattle.std.proofs.lemmas.Bool.{eqb-true}
use Rattle.std.proofs.lemmas.List.{length-replicate}
use Rattle.std.specs.Option.{ok_or}
use Rattle.capnp_model.specs.Coverage.{Span, times_held, Grows, span, pad_of, pads_by, pads_at, from_each, covered_list}
use Rattle.capnp_model.specs.Kinds.{OutOfBounds}
use Rattle.capnp_model.specs.Pointers.{Object, nothing, a_struct, a_list, a_capability, found_at, Pointer, to_struct, to_list, to_pad, to_capability, to_nothing_known, pointer_of_kind, pointer_of, begins, in_pad, described, Found, found_by}
use Rattle.capnp_model.specs.Sections.{bits_at}
use Rattle.capnp_model.specs.Segments.{Segments, Place, after, words_at, place, word_at}
use Rattle.capnp_model.specs.Traversal.{list_kind, list_words, tree_of}
use Rattle.capnp_model.specs.Trees.{Tree, null}
use Rattle.capnp_model.proofs.lemmas.Chaining.{bind_some, some_is, ok_is, bind_ok, ok_or_some}
use Rattle.capnp_model.proofs.lemmas.ReadFits.{words_length}
use Rattle.capnp_model_writes.specs.Changes.{Changes, Replaces, Clears, absent}
use Rattle.capnp_model_writes.specs.Footprints.{behind, object_footprint, footprint, Owns, own_words}
use Rattle.capnp_model_writes.specs.Writes.{with_words, spliced}
use Rattle.capnp_model_writes.proofs.lemmas.Algebra.{On, changes_alike}
use Rattle.capnp_model_writes.proofs.lemmas.Growing.{zero_held}
use Rattle.capnp_model_writes.proofs.lemmas.Lift.{value_on}
use Rattle.capnp_model_writes.proofs.lemmas.Nulls.{from_described}
use Rattle.capnp_model_writes.proofs.lemmas.Rows.{footprint_is, after_none}
use Rattle.capnp_model_writes.proofs.lemmas.Spans.{held, held_is, held_self, there, grows_then, Whether, it_is, it_is_not, whether, still_there}
use Rattle.capnp_model_writes.proofs.lemmas.Splices.{Rewrites, splice_rewrites, splice_words, spliced_whole}
use Rattle.capnp_model_writes.proofs.lemmas.There.{AreThere}
use Rattle.capnp_model_writes.proofs.lemmas.Zeros.{held_none, null_footprint, null_read}

pub on_later : (s u : Segments) (c d : Place → ℕ) → On s c → Grows s u → ((q : Place) → d q ≤ c q) → On u d
on_later s u c d on g l q h = let x = on q (omega (arith, h, l q)) in still_there s u q x.0 g x.1

-- ---- words

pub clears_words : (s : Segments) (p : Place) (k : ℕ) → ((q : Place) → 0 < held p k q → (ws : List ℕ) × (words_at s p k ≡ Some ws)) → Clears s (with_words s p (replicate k 0)) (held p k)
clears_words s p k t =
    let long : length (replicate {A = ℕ} k 0) ≡ k = length-replicate {A = ℕ} k 0 in
    let r : Rewrites s (with_words s p (replicate k 0)) p k = subst (λ (m : ℕ). Rewrites s (with_words s p (replicate k 0)) p m) long (splice_rewrites s p (replicate k 0)) in
    record {
      grows = r.grows;
      kept = λ q w e z. r.others q w z e;
      within = λ q. omega arith;
      cleared = λ q w e z l. zero_there q w e (omega (arith, l, r.no_more q, there (with_words s p (replicate k 0)) q w e));
    }
  where
    zero_there : (q : Place) (w : ℕ) → word_at (with_words s p (replicate k 0)) q ≡ Some w → 0 < held p k q → w ≡ 0
    zero_there q w e l =
        let x = t q l in
        let long : length (replicate {A = ℕ} k 0) ≡ k = length-replicate {A = ℕ} k 0 in
        let now : words_at (with_words s (after p 0) (replicate k 0)) p k ≡ Some (spliced 0 (replicate k 0) x.0) = splice_words s p 0 k (replicate k 0) x.0 (omega (arith, long)) x.1 in
        let whole : spliced 0 (replicate k 0) x.0 ≡ replicate k 0 = spliced_whole (replicate k 0) x.0 (long ∙ sym (words_length s p k x.0 x.1)) in
        let zeros : words_at (with_words s p (replicate k 0)) p k ≡ Some (replicate k 0) = ap (λ (r : Place). words_at (with_words s r (replicate k 0)) p k) (sym (after_none p)) ∙ now ∙ ap (λ (xs : List ℕ). Some xs) whole in
        zero_held (with_words s p (replicate k 0)) p k q w zeros e l

clears_by : (s u v : Segments) (c d : Place → ℕ) → Clears s u c → Clears u v d → (q : Place) (w a : ℕ) → a ≡ d q → Whether u q → word_at v q ≡ Some w → 0 < c q + d q + absent s q → w ≡ 0
clears_by s u v c d h k q w (suc a) ea y f l = k.cleared q w f refl (omega (arith, ea))
clears_by s u v c d h k q w zero ea (it_is_not e o) f l = k.cleared q w f refl (omega (arith, o))
clears_by s u v c d h k q w zero ea (it_is x e o) f l =
    let none : x ≡ 0 = h.cleared q x e refl (omega (arith, ea, l)) in
    let same : Some w ≡ Some x = sym f ∙ k.kept q x e (sym ea) in
    cc

pub clears_then : (s u v : Segments) (c d : Place → ℕ) → Clears s u c → Clears u v d → Clears s v (λ q. c q + d q)
clears_then s u v c d h k =
    record {
      grows = grows_then s u v h.grows k.grows;
      kept = λ q w e z. k.kept q w (h.kept q w e (omega (arith, z))) (omega (arith, z));
      within = λ q. omega arith;
      cleared = λ q w f z l. clears_by s u v c d h k q w (d q) refl (whether u q) f l;
    }

-- ---- values

-- what a value took is its null pointer's alone
pub null_now : (n : ℕ) (s u : Segments) (p : Place) → Changes s u (footprint n s p) (held p 1) → word_at u p ≡ Some 0 → Replaces n s u p null
null_now n s u p h e = record { means = null_read n u p e; changes = changes_alike s u (footprint n s p) (held p 1) (footprint n s p) (footprint n u p) h (λ q. refl) (λ q. null_footprint n u p q e) }

pub cleared_value : (n : ℕ) (s u : Segments) (p : Place) (t : Tree) → Owns n s p t → Clears s u (footprint n s p) → Replaces n s u p null
cleared_value n s u p t o h =
    let mine : 0 < footprint n s p p = omega (arith, footprint_is n s p p, held_self p) in
    let x = value_on n s p t o.means p mine in
    let y = still_there s u p x.0 h.grows x.1 in
    let z : y.0 ≡ 0 = h.cleared p y.0 y.1 refl (omega (arith, mine)) in
    let word : word_at u p ≡ Some 0 = y.1 ∙ ap (λ (w : ℕ). Some w) z in
    record {
      means = null_read n u p word;
      changes = record { grows = h.grows; kept = h.kept; within = λ q. omega (arith, null_footprint n u p q word, footprint_is n s p q); cleared = λ q w f a l. h.cleared q w f refl l };
    }

-- ---- the words of an object

pub own_le : (n : ℕ) (s : Segments) (o : Object) (q : Place) → times_held (own_words o) q ≤ object_footprint n s o q
own_le n s nothing q = omega arith
own_le n s (a_capability i) q = omega arith
own_le n s (a_struct p d k) q = omega (arith, held_is p (d + k) [] q, held_is p (d + k) (from_each (behind n s) (after p d) k) q)
own_le n s (a_list p size count) q = omega (arith, held_is p (list_words (list_kind size) size count) [] q, held_is p (list_words (list_kind size) size count) (covered_list s (behind n s) p (list_kind size) size count) q)

pub own_there : (s : Segments) (f : Place → Option Tree) (o : Object) (t : Tree) (r : Place) (m : ℕ) → tree_of s f o ≡ Some t → own_words o ≡ span r m ∷ [] → AreThere s (span r m)
own_there s f nothing t r m e h = absurd cc
own_there s f (a_capability i) t r m e h = absurd cc
own_there s f (a_struct p d k) t r m e h =
    let x = bind_some (words_at s p (d + k)) _ t e in
    let is : span p (d + k) ≡ span r m = cc in
    subst (AreThere s) is (x.0, x.1)
own_there s f (a_list p size count) t r m e h =
    let x = bind_some (words_at s p (list_words (list_kind size) size count)) _ t e in
    let is : span p (list_words (list_kind size) size count) ≡ span r m = cc in
    subst (AreThere s) is (x.0, x.1)

pub no_own : (n : ℕ) (s : Segments) (o : Object) (q : Place) → own_words o ≡ [] → object_footprint n s o q ≡ 0
no_own n s nothing q e = refl
no_own n s (a_capability i) q e = refl
no_own n s (a_struct p d k) q e = absurd cc
no_own n s (a_list p size count) q e = absurd cc

-- ---- pads

pad_place_by : (k w words : ℕ) (q : Place) → pointer_of_kind k w ≡ to_pad words q → q ≡ place (bits_at 32 32 w) (bits_at 3 29 w)
pad_place_by zero w words q e = absurd cc
pad_place_by (suc zero) w words q e = absurd cc
pad_place_by (suc (suc zero)) w words q e = cc
pad_place_by (suc (suc (suc k))) w words q e = absurd (no_pad (eqb (bits_at 2 30 w) 0) (bits_at 32 32 w) words q e)
  where
    no_pad : (b : Bool) (i words : ℕ) (q : Place) → cond b (to_capability i) to_nothing_known ≡ to_pad words q → ⊥
    no_pad true i words q e = absurd cc
    no_pad false i words q e = absurd cc

-- the pads of a pointer: so many words at a place, which are there
pub record Pads (s : Segments) (xs : List Span) (pad : Place) (k : ℕ) : Type 0 where
  pub counts : (q : Place) → times_held xs q ≡ held pad k q
  pub are_there : (q : Place) → 0 < held pad k q → (ws : List ℕ) × (words_at s pad k ≡ Some ws)

no_pads : (s : Segments) (pad : Place) (k : ℕ) → k ≡ 0 → Pads s [] pad k
no_pads s pad k e =
    let z : (q : Place) → held pad k q ≡ 0 = λ q. ap (λ (m : ℕ). held pad m q) e ∙ held_none pad q in
    record { counts = λ q. sym (z q); are_there = λ q l. absurd (omega (arith, l, z q)) }

pads_by_pointer : (s : Segments) (p pad : Place) (x : Pointer) (f : Found) → found_by s p x ≡ Ok f → ((words : ℕ) (q : Place) → x ≡ to_pad words q → q ≡ pad) → Pads s (pad_of x) pad f.pads
pads_by_pointer s p pad (to_struct a d k) f e h = no_pads s pad f.pads (from_described (described (begins (after p 1)) (to_struct a d k)) 0 f e).1
pads_by_pointer s p pad (to_list a size n) f e h = no_pads s pad f.pads (from_described (described (begins (after p 1)) (to_list a size n)) 0 f e).1
pads_by_pointer s p pad (to_capability i) f e h = no_pads s pad f.pads (from_described (described (begins (after p 1)) (to_capability i)) 0 f e).1
pads_by_pointer s p pad to_nothing_known f e h = no_pads s pad f.pads (from_described (described (begins (after p 1)) to_nothing_known) 0 f e).1
pads_by_pointer s p pad (to_pad words q) f e h =
    let x = bind_ok (ok_or (words_at s q words) OutOfBounds) _ f e in
    let k : f.pads ≡ words = (from_described (in_pad q x.0) words f x.2).1 in
    let at : q ≡ pad = h words q refl in
    let there : words_at s q words ≡ Some x.0 = ok_or_some _ _ _ x.1 in
    record {
      counts = λ r. omega (arith, held_is q words [] r, (let e : held q words r ≡ held pad f.pads r = ap (λ (z : Place). held z words r) at ∙ ap (λ (m : ℕ). held pad m r) (sym k) in e));
      are_there = λ r l. (x.0, ap (λ (m : ℕ). words_at s pad m) k ∙ ap (λ (z : Place). words_at s z words) (sym at) ∙ there);
    }

pads_of : (s : Segments) (p pad : Place) (w : ℕ) (b : Bool) (x f : Found) → eqb w 0 ≡ b → cond b (Ok x) (found_by s p (pointer_of w)) ≡ Ok f → x.pads ≡ 0 → pad ≡ place (bits_at 32 32 w) (bits_at 3 29 w) → Pads s (pad_of (pointer_of w)) pad f.pads
pads_of s p pad w true x f z e h at =
    let none : w ≡ 0 = eqb-true w 0 z in
    let is : x ≡ f = ok_is _ _ e in
    subst (λ (v : ℕ). Pads s (pad_of (pointer_of v)) pad f.pads) (sym none) (no_pads s pad f.pads (ap (λ (g : Found). g.pads) (sym is) ∙ h))
pads_of s p pad w false x f z e h at = pads_by_pointer s p pad (pointer_of w) f e (λ words q is. pad_place_by (bits_at 0 2 w) w words q is ∙ sym at)

pub pads_are : (s : Segments) (p pad : Place) (f : Found) (w : ℕ) → found_at s p ≡ Ok f → word_at s p ≡ Some w → pad ≡ place (bits_at 32 32 w) (bits_at 3 29 w) → Pads s (pads_at s p) pad f.pads
pads_are s p pad f w e here at =
    let a = bind_ok (ok_or (word_at s p) OutOfBounds) _ f e in
    let is : a.0 ≡ w = some_is _ _ (sym (ok_or_some _ _ _ a.1) ∙ here) in
    subst (λ (xs : List Span). Pads s xs pad f.pads) (sym (ap pads_by here)) (subst (λ (v : ℕ). Pads s (pad_of (pointer_of v)) pad f.pads) is (pads_of s p pad a.0 (eqb a.0 0) _ f refl a.2 refl (at ∙ ap (λ (v : ℕ). place (bits_at 32 32 v) (bits_at 3 29 v)) (sym is))))
