-- A value moves from one pointer to another.
use Rattle.std.proofs.Common.{◌≡◌, ℕ, zero, suc, ◌+◌, List, Some, refl, subst, sym, ◌∙◌, arith, ◌≤◌, ◌<◌, ap, true, false, Ok, [], ◌∷◌, Bool, eqb, length, replicate, Option, cond}
use Rattle.std.proofs.lemmas.List.{length-replicate}
use Rattle.std.specs.List.{AllByRecursion}
use Rattle.std.specs.Option.{ok_or}
use Rattle.capnp_model.specs.Coverage.{Span, times_held, Keeps, Grows, span, pad_of, pads_by, pads_at, covered_object}
use Rattle.capnp_model.specs.Kinds.{OutOfBounds}
use Rattle.capnp_model.specs.Pointers.{Object, nothing, a_struct, a_list, a_capability, found_at, Pointer, to_struct, to_list, to_pad, to_capability, to_nothing_known, pointer_of_kind, pointer_of, Found, found_by}
use Rattle.capnp_model.specs.Sections.{bits_at}
use Rattle.capnp_model.specs.Segments.{Segments, Place, after, words_at, place, word_at}
use Rattle.capnp_model.specs.Traversal.{leaf_of, tree_of, tree_at}
use Rattle.capnp_model.specs.Trees.{Tree, null}
use Rattle.capnp_model.proofs.lemmas.Chaining.{bind_found, some_is, ok_is, bind_ok, ok_or_some}
use Rattle.capnp_model.proofs.lemmas.FineShapes.{found}
use Rattle.capnp_model.proofs.lemmas.Locality.{word_was}
use Rattle.capnp_model.proofs.lemmas.SoundRules.{apart}
use Rattle.capnp_model_writes.specs.Changes.{Changes, absent}
use Rattle.capnp_model_writes.specs.Detached.{AreZero, Reaches, Moves}
use Rattle.capnp_model_writes.specs.Footprints.{behind, object_footprint, footprint, Owns}
use Rattle.capnp_model_writes.specs.NewObjects.{Fits, New, new_pointer, new_object, far_pointer, IsNamed, pointed, pointed_far, double_far_pointer, pointed_double_far}
use Rattle.capnp_model_writes.specs.Writes.{with_words, spliced, zeroed}
use Rattle.capnp_model_writes.proofs.lemmas.Algebra.{changes_nothing, changes_alike}
use Rattle.capnp_model_writes.proofs.Clearing.{pads_are}
use Rattle.capnp_model_writes.proofs.lemmas.FarPointing.{far_found_at, double_says, double_found}
use Rattle.capnp_model_writes.proofs.lemmas.Kept.{value_same, object_same}
use Rattle.capnp_model_writes.proofs.lemmas.Lift.{slot_is, object_of_pointer}
use Rattle.capnp_model_writes.proofs.lemmas.Pointing.{new_names, near_found, near_pads, far_pads}
use Rattle.capnp_model_writes.proofs.lemmas.Rows.{footprint_is, after_none}
use Rattle.capnp_model_writes.proofs.lemmas.Spans.{held, held_is, held_self, there, grows_then}
use Rattle.capnp_model_writes.proofs.lemmas.Splices.{Rewrites, splice_rewrites, splice_words, spliced_whole}
use Rattle.capnp_model_writes.proofs.lemmas.There.{spans_kept}
use Rattle.capnp_model_writes.proofs.lemmas.Writing.{rewrites_keep, written_word}
use Rattle.capnp_model_writes.proofs.lemmas.Zeros.{held_none, null_footprint, null_read}

-- what was written: at a is null, and b leads to the object of a
pub record Moved (s u : Segments) (a b : Place) (xs : List Span) (f g : Found) : Type 0 where
  pub grows : Grows s u
  pub no_more : (q : Place) → absent s q ≡ absent u q
  pub others : (q : Place) (w : ℕ) → held a 1 q ≡ 0 → held b 1 q ≡ 0 → times_held xs q ≡ 0 → word_at s q ≡ Some w → word_at u q ≡ Some w
  pub is_null : word_at u a ≡ Some 0
  pub leads : found_at u b ≡ Ok g
  pub same : g.object ≡ f.object
  pub pads_now : (q : Place) → times_held (pads_at u b) q ≡ times_held (pads_at s a) q + times_held xs q

moved_words : (s u : Segments) (a b : Place) (xs : List Span) (f g : Found) (c d : Place → ℕ) → Moved s u a b xs f g → ((q : Place) → held a 1 q + (held b 1 q + times_held xs q) ≤ c q) → ((q : Place) → d q ≡ c q) → Changes s u c d
moved_words s u a b xs f g c d h le e =
    record {
      grows = h.grows;
      kept = λ q w z l. h.others q w (omega (arith, le q, l)) (omega (arith, le q, l)) (omega (arith, le q, l)) z;
      within = λ q. omega (arith, e q);
      cleared = λ q w z l m. absurd (omega (arith, e q, l, m, h.no_more q, there u q w z));
    }

-- a value with its object's words counted apart
leaf_there : (o : Object) (u : Segments) (f : Place → Option Tree) (t : Tree) → leaf_of o ≡ Some t → tree_of u f o ≡ Some t
leaf_there nothing u f t e = e
leaf_there (a_capability i) u f t e = e
leaf_there (a_struct p d k) u f t e = absurd cc
leaf_there (a_list p size n) u f t e = absurd cc

pub moved_by : (n : ℕ) (s u : Segments) (a b : Place) (xs : List Span) (f g : Found) (t : Tree) → found_at s a ≡ Ok f → Owns n s a t → word_at s b ≡ Some 0 → ((q : Place) → footprint n s a q + (footprint n s b q + times_held xs q) ≤ 1) → Moved s u a b xs f g → Moves n s u a b xs t
unfolding tree_at behind
moved_by zero s u a b xs f g t e o z apart h =
    let x = bind_found (found_at s a) _ t o.means in
    let is : x.0 ≡ f = ok_is _ _ (sym x.1 ∙ e) in
    let leaf : leaf_of f.object ≡ Some t = subst (λ (y : Found). leaf_of y.object ≡ Some t) is x.2 in
    let found : found_at u b ≡ Ok g = h.leads in
    let fb : (q : Place) → footprint 0 s b q ≡ held b 1 q = λ q. null_footprint 0 s b q z in
    let fa : (q : Place) → footprint 0 s a q ≡ held a 1 q + times_held (pads_at s a) q = λ q. held_is a 1 (pads_at s a) q in
    let fa' : (q : Place) → footprint 0 u a q ≡ held a 1 q = λ q. null_footprint 0 u a q h.is_null in
    let fb' : (q : Place) → footprint 0 u b q ≡ held b 1 q + times_held (pads_at u b) q = λ q. held_is b 1 (pads_at u b) q in
    record {
      from = null_read 0 u a h.is_null;
      to = rw found (ap leaf_of h.same ∙ leaf);
      changes = moved_words s u a b xs f g (λ q. footprint 0 s a q + (footprint 0 s b q + times_held xs q)) (λ q. footprint 0 u a q + footprint 0 u b q) h (λ q. omega (arith, fa q, fb q)) (λ q. omega (arith, fa q, fb q, fa' q, fb' q, h.pads_now q));
    }
moved_by (suc n) s u a b xs f g t e o z apart h =
    let own = object_of_pointer n s a f t e o in
    let found : found_at u b ≡ Ok g = h.leads in
    let fb : (q : Place) → footprint (suc n) s b q ≡ held b 1 q = λ q. null_footprint (suc n) s b q z in
    let fa : (q : Place) → footprint (suc n) s a q ≡ held a 1 q + times_held (pads_at s a) q + object_footprint n s f.object q = λ q. omega (arith, slot_is n s a f q e, held_is a 1 (pads_at s a) q) in
    let fa' : (q : Place) → footprint (suc n) u a q ≡ held a 1 q = λ q. null_footprint (suc n) u a q h.is_null in
    let kept = spans_kept s u (covered_object s (behind n s) f.object) h.grows (λ q w l m. h.others q w (omega (arith, apart q, fa q, fb q, l)) (omega (arith, apart q, fa q, fb q, l)) (omega (arith, apart q, fa q, fb q, l)) m) in
    let stays = object_same s u (tree_at n s) (tree_at n u) (behind n s) (behind n u) (λ q x c k. value_same n n s u q x (omega arith) c k) f.object t kept own.means in
    let obj : (q : Place) → object_footprint n u g.object q ≡ object_footprint n s f.object q = λ q. ap (λ (y : Object). object_footprint n u y q) h.same ∙ ap (λ (ys : List Span). times_held ys q) stays.1 in
    let fb' : (q : Place) → footprint (suc n) u b q ≡ held b 1 q + times_held (pads_at u b) q + object_footprint n s f.object q = λ q. omega (arith, slot_is n u b g q found, held_is b 1 (pads_at u b) q, obj q) in
    record {
      from = null_read (suc n) u a h.is_null;
      to = rw found (ap (tree_of u (tree_at n u)) h.same ∙ stays.0);
      changes = moved_words s u a b xs f g (λ q. footprint (suc n) s a q + (footprint (suc n) s b q + times_held xs q)) (λ q. footprint (suc n) u a q + footprint (suc n) u b q) h (λ q. omega (arith, fa q, fb q)) (λ q. omega (arith, fa q, fb q, fa' q, fb' q, h.pads_now q));
    }

pub null_moves : (n : ℕ) (s : Segments) (a b : Place) → word_at s a ≡ Some 0 → word_at s b ≡ Some 0 → Moves n s s a b [] null
null_moves n s a b e f =
    record {
      from = null_read n s a e;
      to = null_read n s b f;
      changes = changes_alike s s (λ q. footprint n s a q + footprint n s b q) (λ q. footprint n s a q + footprint n s b q) (λ q. footprint n s a q + (footprint n s b q + times_held [] q)) (λ q. footprint n s a q + footprint n s b q) (changes_nothing s (λ q. footprint n s a q + footprint n s b q)) (λ q. omega arith) (λ q. refl);
    }

-- ---- the slots are two words

pub slots_apart : (n : ℕ) (s : Segments) (a b : Place) (xs : List Span) → ((q : Place) → footprint n s a q + (footprint n s b q + times_held xs q) ≤ 1) → (q : Place) → held a 1 q + (held b 1 q + times_held xs q) ≤ 1
slots_apart n s a b xs apart q = omega (arith, apart q, footprint_is n s a q, footprint_is n s b q)

-- a and b are written, in this order
module _ (n : ℕ) (s : Segments) (a b : Place) (w : ℕ) (e : word_at s b ≡ Some 0) (v : ℕ) (f : word_at s a ≡ Some v) (apart : (q : Place) → held a 1 q + held b 1 q ≤ 1) where
  z : Segments
  z = zeroed s a 1

  u : Segments
  u = pointed (zeroed s a 1) b w

  first_write : Rewrites s (zeroed s a 1) a 1
  first_write = splice_rewrites s a (0 ∷ [])

  second_write : Rewrites (zeroed s a 1) (pointed (zeroed s a 1) b w) b 1
  second_write = splice_rewrites (zeroed s a 1) b (w ∷ [])

  pub two_grow : Grows s (pointed (zeroed s a 1) b w)
  two_grow = grows_then s (zeroed s a 1) (pointed (zeroed s a 1) b w) first_write.grows second_write.grows

  pub two_more : (q : Place) → absent s q ≡ absent (pointed (zeroed s a 1) b w) q
  two_more q = first_write.no_more q ∙ second_write.no_more q

  pub two_others : (q : Place) (x : ℕ) → held a 1 q ≡ 0 → held b 1 q ≡ 0 → word_at s q ≡ Some x → word_at (pointed (zeroed s a 1) b w) q ≡ Some x
  two_others q x g h k = second_write.others q x h (first_write.others q x g k)

  pub two_null : word_at (pointed (zeroed s a 1) b w) a ≡ Some 0
  two_null = second_write.others a 0 (omega (arith, apart a, held_self a)) (written_word s a v 0 f)

  pub two_now : word_at (pointed (zeroed s a 1) b w) b ≡ Some w
  two_now = written_word (zeroed s a 1) b 0 w (first_write.others b 0 (omega (arith, apart b, held_self b)) e)

pub without_pads : (s : Segments) (a : Place) (f : Found) (v : ℕ) (q : Place) → found_at s a ≡ Ok f → word_at s a ≡ Some v → f.pads ≡ 0 → times_held (pads_at s a) q ≡ 0
without_pads s a f v q e w z =
    let pad = place (bits_at 32 32 v) (bits_at 3 29 v) in
    (pads_are s a (place (bits_at 32 32 v) (bits_at 3 29 v)) f v e w refl).counts q ∙ ap (λ (k : ℕ). held (place (bits_at 32 32 v) (bits_at 3 29 v)) k q) z ∙ held_none (place (bits_at 32 32 v) (bits_at 3 29 v)) q

-- ---- near

pub moved_near : (n : ℕ) (s : Segments) (a b r : Place) (v offset : ℕ) (x : New) (t : Tree) → found_at s a ≡ Ok (record { pads = 0; object = new_object r x }) → word_at s a ≡ Some v → Owns n s a t → word_at s b ≡ Some 0 → ((q : Place) → footprint n s a q + (footprint n s b q + times_held [] q) ≤ 1) → Reaches b r offset → 0 < new_pointer offset x → Fits x → Moves n s (pointed (zeroed s a 1) b (new_pointer offset x)) a b [] t
moved_near n s a b r v offset x t e f o z apart at some fits =
    let w = new_pointer offset x in
    let u = pointed (zeroed s a 1) b (new_pointer offset x) in
    let two : (q : Place) → held a 1 q + held b 1 q ≤ 1 = λ q. omega (arith, slots_apart n s a b [] apart q) in
    let word = two_now n s a b (new_pointer offset x) z v f two in
    let says = new_names offset x at.fits fits in
    moved_by n s (pointed (zeroed s a 1) b (new_pointer offset x)) a b [] (record { pads = 0; object = new_object r x }) (record { pads = 0; object = new_object r x }) t e o z apart (record {
      grows = two_grow n s a b (new_pointer offset x) z v f two;
      no_more = two_more n s a b (new_pointer offset x) z v f two;
      others = λ q y g h k l. two_others n s a b (new_pointer offset x) z v f two q y g h l;
      is_null = two_null n s a b (new_pointer offset x) z v f two;
      leads = near_found (pointed (zeroed s a 1) b (new_pointer offset x)) b r (new_pointer offset x) offset (λ q. new_object q x) says word some at.starts;
      same = refl;
      pads_now = λ q. ap (λ (ys : List Span). times_held ys q) (near_pads (pointed (zeroed s a 1) b (new_pointer offset x)) b (new_pointer offset x) offset (λ q. new_object q x) says word) ∙ omega (arith, without_pads s a (record { pads = 0; object = new_object r x }) v q e f refl);
    })

-- ---- a far pointer or a capability, whose word says the same at each place

pads_in : (n : ℕ) (s : Segments) (a : Place) (f : Found) (q : Place) → found_at s a ≡ Ok f → held a 1 q + times_held (pads_at s a) q ≤ footprint n s a q
unfolding behind
pads_in zero s a f q e = omega (arith, held_is a 1 (pads_at s a) q)
pads_in (suc n) s a f q e = omega (arith, slot_is n s a f q e, held_is a 1 (pads_at s a) q)

not_struct : (b : Bool) (i o d c : ℕ) → cond b (to_capability i) to_nothing_known ≡ to_struct o d c → ⊥
not_struct true i o d c e = absurd cc
not_struct false i o d c e = absurd cc

not_list : (b : Bool) (i o d c : ℕ) → cond b (to_capability i) to_nothing_known ≡ to_list o d c → ⊥
not_list true i o d c e = absurd cc
not_list false i o d c e = absurd cc

no_offset : (k v o d c : ℕ) (y : Pointer) → pointer_of_kind k v ≡ y → 2 ≤ k → y ≡ to_struct o d c → ⊥
no_offset zero v o d c y e l h = absurd (omega (arith, l))
no_offset (suc zero) v o d c y e l h = absurd (omega (arith, l))
no_offset (suc (suc zero)) v o d c y e l h = let z : to_pad (1 + bits_at 2 1 v) (place (bits_at 32 32 v) (bits_at 3 29 v)) ≡ to_struct o d c = e ∙ h in absurd cc
no_offset (suc (suc (suc k))) v o d c y e l h = not_struct (eqb (bits_at 2 30 v) 0) (bits_at 32 32 v) o d c (e ∙ h)

no_list_offset : (k v o d c : ℕ) (y : Pointer) → pointer_of_kind k v ≡ y → 2 ≤ k → y ≡ to_list o d c → ⊥
no_list_offset zero v o d c y e l h = absurd (omega (arith, l))
no_list_offset (suc zero) v o d c y e l h = absurd (omega (arith, l))
no_list_offset (suc (suc zero)) v o d c y e l h = let z : to_pad (1 + bits_at 2 1 v) (place (bits_at 32 32 v) (bits_at 3 29 v)) ≡ to_list o d c = e ∙ h in absurd cc
no_list_offset (suc (suc (suc k))) v o d c y e l h = not_list (eqb (bits_at 2 30 v) 0) (bits_at 32 32 v) o d c (e ∙ h)

same_found_by : (s u : Segments) (a b : Place) (f : Found) (y : Pointer) → ((o d c : ℕ) → y ≡ to_struct o d c → ⊥) → ((o d c : ℕ) → y ≡ to_list o d c → ⊥) → AllByRecursion (Keeps s u) (pad_of y) → found_by s a y ≡ Ok f → found_by u b y ≡ Ok f
same_found_by s u a b f (to_struct o d c) g h k e = absurd (g o d c refl)
same_found_by s u a b f (to_list o d c) g h k e = absurd (h o d c refl)
same_found_by s u a b f (to_capability i) g h k e = e
same_found_by s u a b f to_nothing_known g h k e = e
same_found_by s u a b f (to_pad words pad) g h k e =
    let x = bind_ok (ok_or (words_at s pad words) OutOfBounds) _ f e in
    let now : words_at u pad words ≡ Some x.0 = k.0 x.0 (ok_or_some _ _ _ x.1) in
    rw now x.2

same_found_of : (s u : Segments) (a b : Place) (f x : Found) (v : ℕ) (c : Bool) → eqb v 0 ≡ c → (found_by s a (pointer_of v) ≡ Ok f → found_by u b (pointer_of v) ≡ Ok f) → cond c (Ok x) (found_by s a (pointer_of v)) ≡ Ok f → cond c (Ok x) (found_by u b (pointer_of v)) ≡ Ok f
same_found_of s u a b f x v true z h e = e
same_found_of s u a b f x v false z h e = h e

pub moved_verbatim : (n : ℕ) (s : Segments) (a b : Place) (v : ℕ) (f : Found) (t : Tree) → found_at s a ≡ Ok f → word_at s a ≡ Some v → 2 ≤ bits_at 0 2 v → Owns n s a t → word_at s b ≡ Some 0 → ((q : Place) → footprint n s a q + (footprint n s b q + times_held [] q) ≤ 1) → Moves n s (pointed (zeroed s a 1) b v) a b [] t
moved_verbatim n s a b v f t e w kind o z apart =
    let u = pointed (zeroed s a 1) b v in
    let two : (q : Place) → held a 1 q + held b 1 q ≤ 1 = λ q. omega (arith, slots_apart n s a b [] apart q) in
    let word : word_at (pointed (zeroed s a 1) b v) b ≡ Some v = two_now n s a b v z v w two in
    let grow = two_grow n s a b v z v w two in
    let others = two_others n s a b v z v w two in
    let pads_same : pads_at (pointed (zeroed s a 1) b v) b ≡ pads_at s a = ap pads_by (word ∙ sym w) in
    let kept : AllByRecursion (Keeps s (pointed (zeroed s a 1) b v)) (pads_at s a) = spans_kept s (pointed (zeroed s a 1) b v) (pads_at s a) grow (λ q y l g. others q y (omega (arith, apart q, pads_in n s a f q e, l)) (omega (arith, apart q, pads_in n s a f q e, footprint_is n s b q, l)) g) in
    let kept' : AllByRecursion (Keeps s (pointed (zeroed s a 1) b v)) (pad_of (pointer_of v)) = subst (λ (ys : Option ℕ). AllByRecursion (Keeps s (pointed (zeroed s a 1) b v)) (pads_by ys)) w kept in
    let x = bind_ok (ok_or (word_at s a) OutOfBounds) _ f e in
    let is : x.0 ≡ v = some_is _ _ (sym (ok_or_some _ _ _ x.1) ∙ w) in
    let by_word : cond (eqb v 0) (Ok (record { pads = 0; object = nothing })) (found_by s a (pointer_of v)) ≡ Ok f = subst (λ (y : ℕ). cond (eqb y 0) (Ok (record { pads = 0; object = nothing })) (found_by s a (pointer_of y)) ≡ Ok f) is x.2 in
    let found : found_at (pointed (zeroed s a 1) b v) b ≡ Ok f = rw word (same_found_of s (pointed (zeroed s a 1) b v) a b f (record { pads = 0; object = nothing }) v (eqb v 0) refl (same_found_by s (pointed (zeroed s a 1) b v) a b f (pointer_of v) (λ i d c h. no_offset (bits_at 0 2 v) v i d c (pointer_of v) refl kind h) (λ i d c h. no_list_offset (bits_at 0 2 v) v i d c (pointer_of v) refl kind h) kept') by_word) in
    moved_by n s (pointed (zeroed s a 1) b v) a b [] f f t e o z apart (record {
      grows = grow;
      no_more = two_more n s a b v z v w two;
      others = λ q y g h k l. others q y g h l;
      is_null = two_null n s a b v z v w two;
      leads = found;
      same = refl;
      pads_now = λ q. ap (λ (ys : List Span). times_held ys q) pads_same ∙ omega arith;
    })

-- ---- behind a new pad

-- a is zeroed, the pad and b are written, in this order
module _ (s : Segments) (a b pad : Place) (k w : ℕ) (vs : List ℕ) (e : word_at s b ≡ Some 0) (v : ℕ) (f : word_at s a ≡ Some v) (g : words_at s pad k ≡ Some (replicate k 0)) (long : length vs ≡ k) (apart : (q : Place) → held a 1 q + (held b 1 q + held pad k q) ≤ 1) where
  one_write : Rewrites s (zeroed s a 1) a 1
  one_write = splice_rewrites s a (0 ∷ [])

  pad_write : Rewrites (zeroed s a 1) (with_words (zeroed s a 1) pad vs) pad k
  pad_write = subst (λ (m : ℕ). Rewrites (zeroed s a 1) (with_words (zeroed s a 1) pad vs) pad m) long (splice_rewrites (zeroed s a 1) pad vs)

  last_write : Rewrites (with_words (zeroed s a 1) pad vs) (pointed (with_words (zeroed s a 1) pad vs) b w) b 1
  last_write = splice_rewrites (with_words (zeroed s a 1) pad vs) b (w ∷ [])

  pub three_grow : Grows s (pointed (with_words (zeroed s a 1) pad vs) b w)
  three_grow = grows_then s (with_words (zeroed s a 1) pad vs) (pointed (with_words (zeroed s a 1) pad vs) b w) (grows_then s (zeroed s a 1) (with_words (zeroed s a 1) pad vs) one_write.grows pad_write.grows) last_write.grows

  pub three_more : (q : Place) → absent s q ≡ absent (pointed (with_words (zeroed s a 1) pad vs) b w) q
  three_more q = one_write.no_more q ∙ pad_write.no_more q ∙ last_write.no_more q

  pub three_others : (q : Place) (x : ℕ) → held a 1 q ≡ 0 → held b 1 q ≡ 0 → held pad k q ≡ 0 → word_at s q ≡ Some x → word_at (pointed (with_words (zeroed s a 1) pad vs) b w) q ≡ Some x
  three_others q x h i j l = last_write.others q x i (pad_write.others q x j (one_write.others q x h l))

  pub three_null : word_at (pointed (with_words (zeroed s a 1) pad vs) b w) a ≡ Some 0
  three_null = last_write.others a 0 (omega (arith, apart a, held_self a)) (pad_write.others a 0 (omega (arith, apart a, held_self a)) (written_word s a v 0 f))

  pub three_now : word_at (pointed (with_words (zeroed s a 1) pad vs) b w) b ≡ Some w
  three_now = written_word (with_words (zeroed s a 1) pad vs) b 0 w (pad_write.others b 0 (omega (arith, apart b, held_self b)) (one_write.others b 0 (omega (arith, apart b, held_self b)) e))

  pub three_pad : words_at (pointed (with_words (zeroed s a 1) pad vs) b w) pad k ≡ Some vs
  three_pad =
      let z0 : words_at (zeroed s a 1) pad k ≡ Some (replicate k 0) = (rewrites_keep s (zeroed s a 1) a 1 (span pad k ∷ []) one_write (λ q. omega (arith, apart q, held_is pad k [] q))).0 (replicate k 0) g in
      let now : words_at (with_words (zeroed s a 1) (after pad 0) vs) pad k ≡ Some (spliced 0 vs (replicate k 0)) = splice_words (zeroed s a 1) pad 0 k vs (replicate k 0) (omega (arith, long)) z0 in
      let whole : spliced 0 vs (replicate k 0) ≡ vs = spliced_whole vs (replicate k 0) (long ∙ sym (length-replicate {A = ℕ} k 0)) in
      let z1 : words_at (with_words (zeroed s a 1) pad vs) pad k ≡ Some vs = ap (λ (q : Place). words_at (with_words (zeroed s a 1) q vs) pad k) (sym (after_none pad)) ∙ now ∙ ap (λ (ws : List ℕ). Some ws) whole in
      (rewrites_keep (with_words (zeroed s a 1) pad vs) (pointed (with_words (zeroed s a 1) pad vs) b w) b 1 (span pad k ∷ []) last_write (λ q. omega (arith, apart q, held_is pad k [] q))).0 vs z1

-- the slots and the pad share no word
three_apart : (n : ℕ) (s : Segments) (a b pad : Place) (k : ℕ) → ((q : Place) → footprint n s a q + (footprint n s b q + times_held (span pad k ∷ []) q) ≤ 1) → (q : Place) → held a 1 q + (held b 1 q + held pad k q) ≤ 1
three_apart n s a b pad k apart q = omega (arith, slots_apart n s a b (span pad k ∷ []) apart q, held_is pad k [] q)

moved_behind : (n : ℕ) (s : Segments) (a b pad r : Place) (k v w : ℕ) (vs : List ℕ) (x : New) (t : Tree) → found_at s a ≡ Ok (record { pads = 0; object = new_object r x }) → word_at s a ≡ Some v → Owns n s a t → word_at s b ≡ Some 0 → ((q : Place) → footprint n s a q + (footprint n s b q + times_held (span pad k ∷ []) q) ≤ 1)
    → AreZero s (span pad k) → length vs ≡ k → found_at (pointed (with_words (zeroed s a 1) pad vs) b w) b ≡ Ok (record { pads = k; object = new_object r x }) → pads_at (pointed (with_words (zeroed s a 1) pad vs) b w) b ≡ span pad k ∷ [] → Moves n s (pointed (with_words (zeroed s a 1) pad vs) b w) a b (span pad k ∷ []) t
moved_behind n s a b pad r k v w vs x t e f o z apart zeros long found pads =
    let three = three_apart n s a b pad k apart in
    moved_by n s (pointed (with_words (zeroed s a 1) pad vs) b w) a b (span pad k ∷ []) (record { pads = 0; object = new_object r x }) (record { pads = k; object = new_object r x }) t e o z apart (record {
      grows = three_grow s a b pad k w vs z v f zeros long three;
      no_more = three_more s a b pad k w vs z v f zeros long three;
      others = λ q y g h i l. three_others s a b pad k w vs z v f zeros long three q y g h (omega (arith, i, held_is pad k [] q)) l;
      is_null = three_null s a b pad k w vs z v f zeros long three;
      leads = found;
      same = refl;
      pads_now = λ q. ap (λ (ys : List Span). times_held ys q) pads ∙ omega (arith, without_pads s a (record { pads = 0; object = new_object r x }) v q e f refl);
    })

pub moved_far : (n : ℕ) (s : Segments) (a b pad r : Place) (v offset : ℕ) (x : New) (t : Tree) → found_at s a ≡ Ok (record { pads = 0; object = new_object r x }) → word_at s a ≡ Some v → Owns n s a t → word_at s b ≡ Some 0 → ((q : Place) → footprint n s a q + (footprint n s b q + times_held (span pad 1 ∷ []) q) ≤ 1)
    → AreZero s (span pad 1) → IsNamed pad → Reaches pad r offset → Fits x → Moves n s (pointed_far (zeroed s a 1) b pad (new_pointer offset x)) a b (span pad 1 ∷ []) t
moved_far n s a b pad r v offset x t e f o z apart zeros named at fits =
    let three = three_apart n s a b pad 1 apart in
    let vs : List ℕ = new_pointer offset x ∷ [] in
    let u = pointed_far (zeroed s a 1) b pad (new_pointer offset x) in
    let word = three_now s a b pad 1 (far_pointer pad) (new_pointer offset x ∷ []) z v f zeros refl three in
    let pad_words = three_pad s a b pad 1 (far_pointer pad) (new_pointer offset x ∷ []) z v f zeros refl three in
    let pad_word : word_at (pointed_far (zeroed s a 1) b pad (new_pointer offset x)) pad ≡ Some (new_pointer offset x) = word_was (pointed_far (zeroed s a 1) b pad (new_pointer offset x)) pad (new_pointer offset x) pad_words in
    let found = far_found_at (pointed_far (zeroed s a 1) b pad (new_pointer offset x)) b pad r (new_pointer offset x) offset (λ q. new_object q x) (new_names offset x at.fits fits) named at.starts word pad_word in
    moved_behind n s a b pad r 1 v (far_pointer pad) (new_pointer offset x ∷ []) x t e f o z apart zeros refl found (far_pads (pointed_far (zeroed s a 1) b pad (new_pointer offset x)) b pad named word)

pub moved_double_far : (n : ℕ) (s : Segments) (a b pad r : Place) (v : ℕ) (x : New) (t : Tree) → found_at s a ≡ Ok (record { pads = 0; object = new_object r x }) → word_at s a ≡ Some v → Owns n s a t → word_at s b ≡ Some 0 → ((q : Place) → footprint n s a q + (footprint n s b q + times_held (span pad 2 ∷ []) q) ≤ 1)
    → AreZero s (span pad 2) → IsNamed pad → IsNamed r → Fits x → Moves n s (pointed_double_far (zeroed s a 1) b pad r (new_pointer 0 x)) a b (span pad 2 ∷ []) t
moved_double_far n s a b pad r v x t e f o z apart zeros named named' fits =
    let three = three_apart n s a b pad 2 apart in
    let u = pointed_double_far (zeroed s a 1) b pad r (new_pointer 0 x) in
    let word = three_now s a b pad 2 (double_far_pointer pad) (far_pointer r ∷ (new_pointer 0 x ∷ [])) z v f zeros refl three in
    let pad_words = three_pad s a b pad 2 (double_far_pointer pad) (far_pointer r ∷ (new_pointer 0 x ∷ [])) z v f zeros refl three in
    let found = double_found (pointed_double_far (zeroed s a 1) b pad r (new_pointer 0 x)) b pad r (new_pointer 0 x) (λ q. new_object q x) (new_names 0 x (omega arith) fits) named named' word pad_words in
    moved_behind n s a b pad r 2 v (double_far_pointer pad) (far_pointer r ∷ (new_pointer 0 x ∷ [])) x t e f o z apart zeros refl found (ap pads_by word ∙ ap pad_of (double_says pad named))
