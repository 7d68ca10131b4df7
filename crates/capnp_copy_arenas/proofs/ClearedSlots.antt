-- A pointer that becomes null before what it named is cleared.
use Rattle.std.proofs.Common.{◌≡◌, ℕ, zero, suc, ◌+◌, ◌*◌, ◌^◌, ◌<◌, ◌≤◌, Bool, true, false, cond, eqb, List, [], ◌∷◌, ◌++◌, Option, Some, None, unwrap_or, Result, Ok, Err, refl, ap, sym, ◌∙◌, subst, arith}
use Rattle.std.specs.List.{AllByRecursion}
use Rattle.std.specs.Option.{ok_or, is_some}
use Rattle.std.proofs.lemmas.Bool.{eqb-true}
use Rattle.capnp_model.specs.Kinds.{Kind, OutOfBounds}
use Rattle.capnp_model.specs.Sections.{bits_at}
use Rattle.capnp_model.specs.Segments.{Segments, Place, place, after, word_at, words_at}
use Rattle.capnp_model.specs.Pointers.{Pointer, to_struct, to_list, to_pad, to_capability, to_nothing_known, pointer_of, pointer_of_kind, begins, Object, nothing, Found, found_by, found_at, in_pad, described}
use Rattle.capnp_model.specs.Trees.{Tree, null}
use Rattle.capnp_model.specs.Traversal.{tree_of, tree_at}
use Rattle.capnp_model.specs.Coverage.{Span, span, times_held, pad_of, pads_by, pads_at, covered_object, Keeps}
use Rattle.capnp_model.proofs.lemmas.Chaining.{bind_ok, bind_found, ok_or_some, ok_is, some_is}
use Rattle.capnp_model.proofs.lemmas.Locality.{word_is, word_was}
use Rattle.capnp_model_writes.specs.Footprints.{behind, footprint, object_footprint, Owns, OwnsObject}
use Rattle.capnp_model_writes.specs.Changes.{absent, Changes, Replaces}
use Rattle.capnp_model_writes.specs.Writes.{with_words}
use Rattle.capnp_model_writes.proofs.lemmas.Spans.{held, held_is, held_le, held_self, there, still_there, grows_then}
use Rattle.capnp_model_writes.proofs.lemmas.There.{words_there}
use Rattle.capnp_model_writes.proofs.lemmas.Rows.{words_grown}
use Rattle.capnp_model_writes.proofs.lemmas.Kept.{object_same, value_same}
use Rattle.capnp_model_writes.proofs.lemmas.Algebra.{On, changes_lift, changes_then, changes_alike}
use Rattle.capnp_model_writes.proofs.lemmas.Levels.{replaced_by_itself, owned_more, footprint_more}
use Rattle.capnp_model_writes.proofs.lemmas.Lift.{value_on, slot_is, object_of_pointer}
use Rattle.capnp_model_writes.proofs.lemmas.Splices.{Rewrites, splice_rewrites}
use Rattle.capnp_model_writes.proofs.lemmas.Writing.{rewrites_keep, written_word}
use Rattle.capnp_copy_arenas.specs.Clearing.{zeroed_there, ClearsValue, ClearsObject}
use Rattle.capnp_model_writes.proofs.lemmas.Zeros.{null_read, null_footprint, held_none}
use Rattle.capnp_copy_arenas.proofs.lemmas.ZeroedWords.{vanish}

-- ---- the pad

-- where a far pointer's pad lies
pub pad_place : ℕ → Place
pad_place w = place (bits_at 32 32 w) (bits_at 3 29 w)

-- the pad that the pointer at p leads over, if any
record Pad (s : Segments) (p pad : Place) (n : ℕ) : Type 0 where
  pub taken : (q : Place) → times_held (pads_at s p) q ≡ held pad n q
  pub is_there : (0 < n) → (ws : List ℕ) × (words_at s pad n ≡ Some ws)

no_pads : (s : Segments) (p pad : Place) (f : Found) → pads_at s p ≡ [] → f.pads ≡ 0 → Pad s p pad f.pads
no_pads s p pad f e z =
    record {
      taken = λ q. (let a : times_held (pads_at s p) q ≡ 0 = ap (λ (xs : List Span). times_held xs q) e in a ∙ sym (ap (λ (n : ℕ). held pad n q) z ∙ held_none pad q));
      is_there = λ l. absurd (omega (arith, l, z));
    }

pads_none : (o : Object) (f : Found) → ◌≡◌ {A = Result Found Kind} (Ok (record { pads = 0; object = o })) (Ok f) → f.pads ≡ 0
pads_none o f e = let is : record { pads = 0; object = o } ≡ f = ok_is _ _ e in sym (ap (λ (x : Found). x.pads) is)

pads_some : (n : ℕ) (o : Object) (f : Found) → ◌≡◌ {A = Result Found Kind} (Ok (record { pads = n; object = o })) (Ok f) → n ≡ f.pads
pads_some n o f e = let is : record { pads = n; object = o } ≡ f = ok_is _ _ e in ap (λ (x : Found). x.pads) is

pad_by : (s : Segments) (p : Place) (w k : ℕ) (f : Found) → pads_at s p ≡ pad_of (pointer_of_kind k w) → found_by s p (pointer_of_kind k w) ≡ Ok f → Pad s p (pad_place w) f.pads
unfolding pad_place
pad_by s p w zero f e h =
    let y = bind_ok (described (begins (after p 1)) (pointer_of_kind 0 w)) _ f h in
    no_pads s p (pad_place w) f e (pads_none y.0 f y.2)
pad_by s p w (suc zero) f e h =
    let y = bind_ok (described (begins (after p 1)) (pointer_of_kind 1 w)) _ f h in
    no_pads s p (pad_place w) f e (pads_none y.0 f y.2)
pad_by s p w (suc (suc zero)) f e h =
    let n = 1 + bits_at 2 1 w in
    let pad = place (bits_at 32 32 w) (bits_at 3 29 w) in
    let x = bind_ok (ok_or (words_at s (place (bits_at 32 32 w) (bits_at 3 29 w)) (1 + bits_at 2 1 w)) OutOfBounds) _ f h in
    let y = bind_ok (in_pad (place (bits_at 32 32 w) (bits_at 3 29 w)) x.0) _ f x.2 in
    let is : 1 + bits_at 2 1 w ≡ f.pads = pads_some (1 + bits_at 2 1 w) y.0 f y.2 in
    subst (λ (m : ℕ). Pad s p (place (bits_at 32 32 w) (bits_at 3 29 w)) m) is (record {
      taken = λ q. (let a : times_held (pads_at s p) q ≡ times_held (span (place (bits_at 32 32 w) (bits_at 3 29 w)) (1 + bits_at 2 1 w) ∷ []) q = ap (λ (xs : List Span). times_held xs q) e in omega (arith, a, held_is (place (bits_at 32 32 w) (bits_at 3 29 w)) (1 + bits_at 2 1 w) [] q));
      is_there = λ l. (x.0, ok_or_some _ _ _ x.1);
    })
pad_by s p w (suc (suc (suc k))) f e h = by_cases (eqb (bits_at 2 30 w) 0) refl
  where
    by_cases : (b : Bool) → eqb (bits_at 2 30 w) 0 ≡ b → Pad s p (pad_place w) f.pads
    by_cases true is =
        let h' : found_by s p (to_capability (bits_at 32 32 w)) ≡ Ok f = subst (λ (b : Bool). found_by s p (cond b (to_capability (bits_at 32 32 w)) to_nothing_known) ≡ Ok f) is h in
        let e' : pads_at s p ≡ [] = subst (λ (b : Bool). pads_at s p ≡ pad_of (cond b (to_capability (bits_at 32 32 w)) to_nothing_known)) is e in
        let y = bind_ok (described (begins (after p 1)) (to_capability (bits_at 32 32 w))) (λ (o : Object). let r : Result Found Kind = Ok (record { pads = 0; object = o }) in r) f h' in
        no_pads s p (pad_place w) f e' (pads_none y.0 f y.2)
    by_cases false is =
        let h' : found_by s p to_nothing_known ≡ Ok f = subst (λ (b : Bool). found_by s p (cond b (to_capability (bits_at 32 32 w)) to_nothing_known) ≡ Ok f) is h in
        absurd cc

slot_pad : (s : Segments) (p : Place) (w : ℕ) (f : Found) → word_at s p ≡ Some w → found_at s p ≡ Ok f → Pad s p (pad_place w) f.pads
slot_pad s p w f e h =
    let x = bind_ok (ok_or (word_at s p) OutOfBounds) _ f h in
    let there : word_at s p ≡ Some x.0 = ok_or_some _ _ _ x.1 in
    let same : x.0 ≡ w = some_is _ _ (sym there ∙ e) in
    by_cases (eqb w 0) refl (subst (λ (v : ℕ). cond (eqb v 0) (Ok (record { pads = 0; object = nothing })) (found_by s p (pointer_of v)) ≡ Ok f) same x.2)
  where
    by_cases : (b : Bool) → eqb w 0 ≡ b → cond (eqb w 0) (Ok (record { pads = 0; object = nothing })) (found_by s p (pointer_of w)) ≡ Ok f → Pad s p (pad_place w) f.pads
    by_cases true is r =
        let zero_is : w ≡ 0 = eqb-true w 0 is in
        let r' : ◌≡◌ {A = Result Found Kind} (Ok (record { pads = 0; object = nothing })) (Ok f) = subst (λ (b : Bool). cond b (Ok (record { pads = 0; object = nothing })) (found_by s p (pointer_of w)) ≡ Ok f) is r in
        no_pads s p (pad_place w) f (ap pads_by (e ∙ ap (λ (n : ℕ). let o : Option ℕ = Some n in o) zero_is)) (pads_none nothing f r')
    by_cases false is r = pad_by s p w (bits_at 0 2 w) f (ap pads_by e) (subst (λ (b : Bool). cond b (Ok (record { pads = 0; object = nothing })) (found_by s p (pointer_of w)) ≡ Ok f) is r)

-- ---- the object of a pointer that became null

object_stays : (n : ℕ) (s : Segments) (p : Place) (f : Found) (t : Tree) → found_at s p ≡ Ok f → Owns n s p t → (tree_of (with_words s p (0 ∷ [])) (tree_at n (with_words s p (0 ∷ []))) f.object ≡ Some t) × (covered_object (with_words s p (0 ∷ [])) (behind n (with_words s p (0 ∷ []))) f.object ≡ covered_object s (behind n s) f.object)
object_stays n s p f t e o =
    let o1 = owned_more n (suc n) s p t (omega arith) o in
    let b = object_of_pointer n s p f t e o1 in
    let r : Rewrites s (with_words s p (0 ∷ [])) p 1 = splice_rewrites s p (0 ∷ []) in
    let kept = rewrites_keep s (with_words s p (0 ∷ [])) p 1 (covered_object s (behind n s) f.object) r (λ q. omega (arith, o1.apart q, slot_is n s p f q e, held_is p 1 (pads_at s p) q)) in
    object_same s (with_words s p (0 ∷ [])) (tree_at n s) (tree_at n (with_words s p (0 ∷ []))) (behind n s) (behind n (with_words s p (0 ∷ []))) (λ q v a g. value_same n n s (with_words s p (0 ∷ [])) q v (omega arith) a g) f.object t kept b.means

object_takes : (n : ℕ) (s : Segments) (p : Place) (f : Found) (t : Tree) (q : Place) → found_at s p ≡ Ok f → Owns n s p t → object_footprint n (with_words s p (0 ∷ [])) f.object q ≡ object_footprint n s f.object q
object_takes n s p f t q e o = ap (λ (xs : List Span). times_held xs q) (object_stays n s p f t e o).1

pub object_left : (n : ℕ) (s : Segments) (p : Place) (f : Found) (t : Tree) → found_at s p ≡ Ok f → Owns n s p t → OwnsObject n (with_words s p (0 ∷ [])) f.object t
object_left n s p f t e o =
    let o1 = owned_more n (suc n) s p t (omega arith) o in
    record { means = (object_stays n s p f t e o).0; apart = λ q. omega (arith, o1.apart q, slot_is n s p f q e, object_takes n s p f t q e o) }

-- ---- the pointer, when its object's words and the pads are zero

pub object_gone : (n : ℕ) (s v : Segments) (p : Place) (f : Found) (t : Tree) (w : ℕ) → found_at s p ≡ Ok f → word_at s p ≡ Some w → Owns n s p t
    → Changes (with_words s p (0 ∷ [])) v (object_footprint n (with_words s p (0 ∷ [])) f.object) (λ q. 0) → Replaces n s (zeroed_there v (pad_place w) f.pads) p null
object_gone n s v p f t w e word o h =
    let u = with_words s p (0 ∷ []) in
    let v' = zeroed_there v (pad_place w) f.pads in
    let o1 = owned_more n (suc n) s p t (omega arith) o in
    let r : Rewrites s (with_words s p (0 ∷ [])) p 1 = splice_rewrites s p (0 ∷ []) in
    let pad = slot_pad s p w f word e in
    let all : Place → ℕ = footprint (suc n) s p in
    let own : Place → ℕ = λ q. times_held (span p 1 ∷ pads_at s p) q in
    let own_is : (q : Place) → times_held (span p 1 ∷ pads_at s p) q ≡ held p 1 q + held (pad_place w) f.pads q = λ q. omega (arith, held_is p 1 (pads_at s p) q, pad.taken q) in
    let all_is : (q : Place) → footprint (suc n) s p q ≡ times_held (span p 1 ∷ pads_at s p) q + object_footprint n (with_words s p (0 ∷ [])) f.object q = λ q. omega (arith, slot_is n s p f q e, object_takes n s p f t q e o) in
    let first : Changes s (with_words s p (0 ∷ [])) (footprint (suc n) s p) (footprint (suc n) s p) = rewritten s (with_words s p (0 ∷ [])) p 1 (footprint (suc n) s p) r (λ q. omega (arith, all_is q, own_is q)) in
    let second : Changes (with_words s p (0 ∷ [])) v (footprint (suc n) s p) (λ q. times_held (span p 1 ∷ pads_at s p) q) = changes_lift (with_words s p (0 ∷ [])) v (object_footprint n (with_words s p (0 ∷ [])) f.object) (λ q. 0) (footprint (suc n) s p) (λ q. times_held (span p 1 ∷ pads_at s p) q) h (λ q. omega (arith, all_is q)) (λ q. omega (arith, all_is q)) in
    let on_u : On (with_words s p (0 ∷ [])) (footprint (suc n) s p) = λ q l. (let y = value_on (suc n) s p t o1.means q l in still_there s (with_words s p (0 ∷ [])) q y.0 r.grows y.1) in
    let both = changes_then s (with_words s p (0 ∷ [])) v (footprint (suc n) s p) (footprint (suc n) s p) (λ q. times_held (span p 1 ∷ pads_at s p) q) first second on_u in
    let on_v : On v (λ q. times_held (span p 1 ∷ pads_at s p) q) = λ q l. (let y = value_on (suc n) s p t o1.means q (omega (arith, l, all_is q)) in still_there s v q y.0 both.grows y.1) in
    let pads = vanish v (pad_place w) f.pads (λ l. (let x = pad.is_there l in let y = words_grown s v (pad_place w) f.pads x.0 both.grows x.1 in ap is_some y.1)) in
    let third : Changes v (zeroed_there v (pad_place w) f.pads) (λ q. times_held (span p 1 ∷ pads_at s p) q) (held p 1) = changes_lift v (zeroed_there v (pad_place w) f.pads) (held (pad_place w) f.pads) (λ q. 0) (λ q. times_held (span p 1 ∷ pads_at s p) q) (held p 1) pads (λ q. omega (arith, own_is q)) (λ q. omega (arith, own_is q)) in
    let whole = changes_then s v (zeroed_there v (pad_place w) f.pads) (footprint (suc n) s p) (λ q. times_held (span p 1 ∷ pads_at s p) q) (held p 1) both third on_v in
    let in_u : word_at (with_words s p (0 ∷ [])) p ≡ Some 0 = written_word s p w 0 word in
    let in_v : word_at v p ≡ Some 0 = h.kept p 0 in_u (omega (arith, o1.apart p, all_is p, own_is p, held_self p)) in
    let null_now : word_at (zeroed_there v (pad_place w) f.pads) p ≡ Some 0 = pads.kept p 0 in_v (omega (arith, o1.apart p, all_is p, own_is p, held_self p)) in
    record {
      means = null_read n (zeroed_there v (pad_place w) f.pads) p null_now;
      changes = changes_alike s (zeroed_there v (pad_place w) f.pads) (footprint (suc n) s p) (held p 1) (footprint n s p) (footprint n (zeroed_there v (pad_place w) f.pads) p) whole (λ q. sym (footprint_more n (suc n) s p t q (omega arith) o.means)) (λ q. null_footprint n (zeroed_there v (pad_place w) f.pads) p q null_now);
    }
  where
    rewritten : (s u : Segments) (p : Place) (m : ℕ) (c : Place → ℕ) → Rewrites s u p m → ((q : Place) → held p m q ≤ c q) → Changes s u c c
    rewritten s u p m c r le =
        record {
          grows = r.grows;
          kept = λ q w e z. r.others q w (omega (arith, le q, z)) e;
          within = λ q. omega arith;
          cleared = λ q w e z l. absurd (let a = there u q w e in let b = r.no_more q in omega (arith, a, b, z, l));
        }

-- ---- a pointer with nothing to clear

owned_found : (n : ℕ) (s : Segments) (p : Place) (t : Tree) → tree_at n s p ≡ Some t → (f : Found) × (found_at s p ≡ Ok f)
unfolding tree_at
owned_found zero s p t e = let x = bind_found (found_at s p) _ t e in (x.0, x.1)
owned_found (suc n) s p t e = let x = bind_found (found_at s p) _ t e in (x.0, x.1)

pub clears_fault : (s u : Segments) (p : Place) (k : Kind) → found_at s p ≡ Err k → ClearsValue s u p
clears_fault s u p k e = λ n t o. (let x = owned_found n s p t o.means in let is : ◌≡◌ {A = Result Found Kind} (Ok x.0) (Err k) = sym x.1 ∙ e in absurd cc)

pub clears_null : (s : Segments) (p : Place) → unwrap_or (word_at s p) 0 ≡ 0 → ClearsValue s s p
clears_null s p e = λ n t o. by_cases n t o (word_at s p) refl
  where
    by_cases : (n : ℕ) (t : Tree) → Owns n s p t → (w : Option ℕ) → word_at s p ≡ w → Replaces n s s p null
    by_cases n t o None is = absurd (let x = owned_found n s p t o.means in let y = bind_ok (ok_or (word_at s p) OutOfBounds) _ x.0 x.1 in let z : word_at s p ≡ Some y.0 = ok_or_some _ _ _ y.1 in let no_word : None ≡ Some y.0 = sym is ∙ z in cc)
    by_cases n t o (Some w) is =
        let zero_is : w ≡ 0 = ap (λ (v : Option ℕ). unwrap_or v 0) (sym is) ∙ e in
        let here : word_at s p ≡ Some 0 = is ∙ ap (λ (v : ℕ). let x : Option ℕ = Some v in x) zero_is in
        let same : t ≡ null = some_is _ _ (sym o.means ∙ null_read n s p here) in
        subst (λ (x : Tree). Replaces n s s p x) same (replaced_by_itself n s p t o)

-- ---- as the code goes

some_word : (o : Option ℕ) (w : ℕ) → w ≡ unwrap_or o 0 → 0 < w → o ≡ Some w
some_word None w e l = absurd (omega (arith, e, l))
some_word (Some v) w e l = ap (λ (n : ℕ). let x : Option ℕ = Some n in x) (sym e)

pub clears_found : (s m v u : Segments) (p pad : Place) (f : Found) (w : ℕ) → w ≡ unwrap_or (word_at s p) 0 → 0 < w → Ok f ≡ found_at s p → m ≡ with_words s p (0 ∷ []) → ClearsObject m v f.object → pad ≡ place (bits_at 32 32 w) (bits_at 3 29 w) → u ≡ zeroed_there v pad f.pads → ClearsValue s u p
unfolding pad_place
clears_found s m v u p pad f w we l fe me h pe ue = λ n t o. (
    let word = some_word (word_at s p) w we l in
    let h' : ClearsObject (with_words s p (0 ∷ [])) v f.object = subst (λ (x : Segments). ClearsObject x v f.object) me h in
    let all = object_gone n s v p f t w (sym fe) word o (h' n t (object_left n s p f t (sym fe) o)) in
    let there : zeroed_there v (place (bits_at 32 32 w) (bits_at 3 29 w)) f.pads ≡ u = ap (λ (q : Place). zeroed_there v q f.pads) (sym pe) ∙ sym ue in
    subst (λ (x : Segments). Replaces n s x p null) there all
    )
