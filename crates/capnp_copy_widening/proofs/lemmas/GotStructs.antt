-- A struct that is got: null, wide enough, or narrower.
use Rattle.std.proofs.Common.{◌≡◌, ◌⊎◌, inl, inr, ℕ, zero, suc, max, ◌+◌, ◌*◌, ◌<◌, ◌≤◌, Result, Ok, Err, IfOk, IfErr, refl, ap, sym, ◌∙◌, subst, arith}
use Rattle.std.proofs.lemmas.Bool.{cases_lt}
use Rattle.capnp_model.specs.Kinds.{Kind}
use Rattle.capnp_model.specs.Segments.{Segments, Place}
use Rattle.capnp_model.specs.Pointers as model
use Rattle.capnp_model.specs.Pointers.{nothing, a_struct, found_at}
use Rattle.capnp_model.specs.Trees.{Tree, null, structure, Trees, none, ◌▸◌, tree_count, resized, padded_to, widened}
use Rattle.capnp_model.proofs.lemmas.Chaining.{some_is, ok_is}
use Rattle.capnp_wire_objects.specs.declared.object.Object.{Object}
use Rattle.capnp_wire_objects.specs.declared.object.Object.TheVariants as object
use Rattle.capnp_wire_objects.specs.declared.object.Found.{Found}
use Rattle.capnp_wire_objects.specs.declared.place.Place as code
use Rattle.capnp_wire_objects.specs.Objects.{object_at}
use Rattle.capnp_wire_objects.specs.Places.{place_view}
use Rattle.capnp_model_writes.specs.Footprints.{OwnsObject}
use Rattle.capnp_model_writes.specs.Changes.{Replaces}
use Rattle.capnp_model_writes.proofs.lemmas.Levels.{owned_more, replaced_by_itself}
use Rattle.capnp_model_writes.proofs.lemmas.Lift.{object_of_pointer}
use Rattle.capnp_model_writes.proofs.lemmas.Nulls.{nothing_word}
use Rattle.capnp_model_writes.proofs.lemmas.Turns.{struct_shape, struct_counted}
use Rattle.capnp_model_writes.proofs.lemmas.Zeros.{null_read}
use Rattle.capnp_copy_arenas.specs.Values.{Becomes, LeadsTo}
use Rattle.capnp_units.specs.declared.errors.Error.{Error}
use Rattle.capnp_copy_widening.specs.Widened.{Widens, IsWide, GrowthRefused, WideObjectRefused, WideStructRefused}
use Rattle.capnp_copy_widening.proofs.lemmas.ObjectsThere.{named_at, null_named, struct_named}

-- ---- what is there

pub struct_there : (s : Segments) (p : Place) (f : Found) (q : code.Place) (w m : ℕ) → object_at s p ≡ Ok f → f.object ≡ object.Struct q w m → LeadsTo s p (a_struct (place_view q) w m)
struct_there s p f q w m e is =
    let x = named_at s p f e in
    let o = struct_named s x.object_named q w m (x.is_whole ∙ ap (λ (y : Object). let r : Result Object Kind = Ok y in r) is) in
    (f.pads, x.leads ∙ ap (λ (y : model.Object). let r : Result model.Found Kind = Ok (record { pads = f.pads; object = y }) in r) o)

pub null_there : (s : Segments) (p : Place) (f : Found) → object_at s p ≡ Ok f → f.object ≡ object.Null → LeadsTo s p nothing
null_there s p f e is =
    let x = named_at s p f e in
    let o = null_named s x.object_named (x.is_whole ∙ ap (λ (y : Object). let r : Result Object Kind = Ok y in r) is) in
    (f.pads, x.leads ∙ ap (λ (y : model.Object). let r : Result model.Found Kind = Ok (record { pads = f.pads; object = y }) in r) o)

pub same_object : (s : Segments) (p : Place) (o v : model.Object) → LeadsTo s p o → LeadsTo s p v → o ≡ v
same_object s p o v h k =
    let is : record { pads = h.0; object = o } ≡ record { pads = k.0; object = v } = ok_is _ _ (sym h.1 ∙ k.1) in
    ap (λ (f : model.Found). f.object) is

pub null_is_not_wide : (s : Segments) (p : Place) (d k : ℕ) → LeadsTo s p nothing → IsWide s p d k → ⊥
null_is_not_wide s p d k h w = let e = same_object s p nothing (a_struct w.0 w.1 w.2) h w.3 in absurd cc

pub narrow_is_not_wide : (s : Segments) (p a : Place) (d k w m : ℕ) → LeadsTo s p (a_struct a w m) → (w < d) ⊎ (m < k) → IsWide s p d k → ⊥
narrow_is_not_wide s p a d k w m h less wide =
    let e = same_object s p (a_struct a w m) (a_struct wide.0 wide.1 wide.2) h wide.3 in
    let ew : w ≡ wide.1 = cc in
    let em : m ≡ wide.2 = cc in
    let lw = wide.4 in
    let lm = wide.5 in
    elim less [
      | inl l ↦ absurd (omega (arith, l, ew, lw))
      | inr l ↦ absurd (omega (arith, l, em, lm))
    ]

-- ---- trees

pub padded_enough : (k : ℕ) (ts : Trees) → k ≤ tree_count ts → padded_to k ts ≡ ts
padded_enough zero ts l = refl
padded_enough (suc k) none l = absurd (omega (arith, l))
padded_enough (suc k) (t ▸ ts) l = ap (λ (us : Trees). t ▸ us) (padded_enough k ts (omega (arith, l)))

pub padded_most : (k m n : ℕ) (ts : Trees) → n ≡ max k m → tree_count ts ≡ m → padded_to n ts ≡ padded_to k ts
padded_most k m n ts e count =
    elim (cases_lt k m) [
      | inl l ↦ (let is : n ≡ m = omega (arith, e, l) in padded_enough n ts (omega (arith, is, count)) ∙ sym (padded_enough k ts (omega (arith, l, count))))
      | inr l ↦ ap (λ (j : ℕ). padded_to j ts) (omega (arith, e, l))
    ]

-- ---- values

pub null_widens : (s u : Segments) (p : Place) (d k : ℕ) → LeadsTo s p nothing → Becomes s u p (structure d 0 (resized k none)) → Widens s u p d k
null_widens s u p d k h b = λ n t o. (
    let zero_word = nothing_word s p (record { pads = h.0; object = nothing }) h.1 refl in
    let is : null ≡ t = some_is _ _ (sym (null_read n s p zero_word) ∙ o.means) in
    subst (λ (x : Tree). Replaces (suc n) s u p (widened d k x)) is (b n t o)
    )

pub wide_widens : (s : Segments) (p a : Place) (d k w m : ℕ) → LeadsTo s p (a_struct a w m) → d ≤ w → k ≤ m → Widens s s p d k
wide_widens s p a d k w m h ld lk = λ n t o. (
    let o1 = owned_more n (suc n) s p t (omega arith) o in
    let inner = object_of_pointer n s p (record { pads = h.0; object = a_struct a w m }) t h.1 o1 in
    let shape = struct_shape n s a w m t inner in
    let count : tree_count shape.1 ≡ m = struct_counted n s a w m w shape.0 shape.1 (subst (OwnsObject n s (a_struct a w m)) shape.2 inner) in
    let most : w ≡ max d w = omega (arith, ld) in
    let same : structure w shape.0 shape.1 ≡ widened d k (structure w shape.0 shape.1) = ap (λ (j : ℕ). structure j shape.0 shape.1) most ∙ ap (structure (max d w) shape.0) (sym (padded_enough k shape.1 (omega (arith, lk, count)))) in
    subst (Replaces (suc n) s s p) (shape.2 ∙ same ∙ ap (widened d k) (sym shape.2)) (replaced_by_itself (suc n) s p t o1)
    )

pub most_widens : (s u : Segments) (p a : Place) (d k w m d' k' : ℕ) → LeadsTo s p (a_struct a w m) → d' ≡ max d w → k' ≡ max k m → Widens s u p d' k' → Widens s u p d k
most_widens s u p a d k w m d' k' h ed ek r = λ n t o. (
    let o1 = owned_more n (suc n) s p t (omega arith) o in
    let inner = object_of_pointer n s p (record { pads = h.0; object = a_struct a w m }) t h.1 o1 in
    let shape = struct_shape n s a w m t inner in
    let count : tree_count shape.1 ≡ m = struct_counted n s a w m w shape.0 shape.1 (subst (OwnsObject n s (a_struct a w m)) shape.2 inner) in
    let most : max d' w ≡ max d w = omega (arith, ed) in
    let same : widened d' k' (structure w shape.0 shape.1) ≡ widened d k (structure w shape.0 shape.1) = ap (λ (j : ℕ). structure j shape.0 (padded_to k' shape.1)) most ∙ ap (structure (max d w) shape.0) (padded_most k m k' shape.1 ek count) in
    subst (Replaces (suc n) s u p) (ap (widened d' k') shape.2 ∙ same ∙ ap (widened d k) (sym shape.2)) (r n t o)
    )

-- ---- answers

pub ok_then : {X E : Type 0} (P Q : X → Type 0) → ((x : X) → P x → Q x) → (r : Result X E) → IfOk r P → IfOk r Q
ok_then P Q f (Ok x) h = f x h
ok_then P Q f (Err e) h = tt

pub err_then : {X E : Type 0} (P Q : E → Type 0) → ((e : E) → P e → Q e) → (r : Result X E) → IfErr r P → IfErr r Q
err_then P Q f (Ok x) h = tt
err_then P Q f (Err e) h = f e h

pub refused_widening : (s : Segments) (there : Result Found Kind) (f : Found) (q : code.Place) (w m d k d' k' : ℕ) (e : Error) → there ≡ Ok f → f.object ≡ object.Struct q w m → d' ≡ max d w → k' ≡ max k m → (w < d) ⊎ (m < k) → GrowthRefused s (d' + k' + 1 + 2 * m) e → WideStructRefused s there d k e
refused_widening s there f q w m d k d' k' e is o ed ek less r =
    let sum : d' + k' + 1 + 2 * m ≡ max d w + max k m + 1 + 2 * m = omega (arith, ed, ek) in
    let now : WideObjectRefused s (object.Struct q w m) d k e = (less, subst (λ (n : ℕ). GrowthRefused s n e) sum r) in
    subst (λ (x : Result Found Kind). WideStructRefused s x d k e) (sym is) (subst (λ (x : Object). WideObjectRefused s x d k e) (sym o) now)
