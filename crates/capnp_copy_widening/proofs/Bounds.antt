-- What is taken for wider objects, and what room was lacking.
use Rattle.std.proofs.Common.{◌≡◌, ◌⊎◌, inl, inr, ℕ, max, ◌+◌, ◌*◌, ◌^◌, ◌<◌, ◌≤◌, List, Option, Some, None, Result, Ok, Err, OnOk, OnErr, refl, ap, sym, ◌∙◌, subst, arith}
use Rattle.capnp_model.specs.Kinds.{Kind}
use Rattle.capnp_model.specs.Segments.{Segments, Place, word_at}
use Rattle.capnp_model.proofs.lemmas.Chaining.{ok_is}
use Rattle.capnp_wire_objects.specs.Places.{place_view}
use Rattle.capnp_wire_objects.specs.declared.place.Place as code
use Rattle.capnp_wire_objects.specs.declared.object.Object.{Object}
use Rattle.capnp_wire_objects.specs.declared.object.Object.TheVariants as object
use Rattle.capnp_wire_objects.specs.declared.object.Found.{Found}
use Rattle.capnp_copy_arenas.specs.Allocations.{total_words, TakesJust, TakesAtMost, NoRoom}
use Rattle.capnp_copy_arenas.specs.Elements.{IsWhole, IsNullOrWhole}
use Rattle.capnp_copy_arenas.specs.declared.init.ListPlace.{ListPlace}
use Rattle.capnp_copy_arenas.specs.declared.room.Room.{Room}
use Rattle.capnp_copy_arenas.proofs.lemmas.Taken.{room_bounds}
use Rattle.capnp_copy_widening.specs.MovedElements.{least_data_words, least_pointers}
use Rattle.capnp_copy_widening.specs.Widened.{WiderRoom, TakesNear, NoWiderRoom, ObjectTakes, StructTakes, ObjectLacks, StructLacks}
use Rattle.capnp_copy_widening.specs.WidenedLists.{list_there, words_of_structs, ListTakesAtMost, ListLacks}

pub wider_bounds : (s m : Segments) (p : Place) (segment n pads : ℕ) (room : Room) (pad : Option code.Place) → 0 < n → WiderRoom s m p segment n pads room pad → TakesAtMost s m n (1 + pads)
wider_bounds s m p segment n pads room None l r = let b = room_bounds s m p n room r.0 in (omega (arith, b.0), λ z. absurd (omega (arith, z, l)))
wider_bounds s m p segment n pads room (Some q) l r = let b = room_bounds s m p (n + pads) room r.0 in (omega (arith, b.0), λ z. absurd (omega (arith, z, l)))

pub none_taken : (s : Segments) (n pads : ℕ) → TakesAtMost s s n pads
none_taken s n pads = (omega arith, λ z. omega arith)

pub both_ok : {X E P Q R : Type 0} → (P → Q → R) → (r : Result X E) → OnOk r P → OnOk r Q → OnOk r R
both_ok f (Ok x) h k = f h k
both_ok f (Err e) h k = tt

pub on_err : {X E P Q : Type 0} → (P → Q) → (r : Result X E) → OnErr r P → OnErr r Q
on_err f (Ok x) h = tt
on_err f (Err e) h = f h

-- ---- structs

pub null_takes : (s : Segments) (free : List ℕ) (u : Segments) (i d k : ℕ) (there : Result Found Kind) (f : Found) → there ≡ Ok f → f.object ≡ object.Null → TakesJust s free u i (d + k) → TakesAtMost s u (d + k) 1 → StructTakes s free u i there d k
null_takes s free u i d k there f is o t b =
    subst (λ (x : Result Found Kind). StructTakes s free u i x d k) (sym is) (subst (λ (x : Object). ObjectTakes s free u i x d k) (sym o) (t, b))

pub wide_takes : (s : Segments) (free : List ℕ) (i d k : ℕ) (there : Result Found Kind) (f : Found) (q : code.Place) (w m : ℕ) → there ≡ Ok f → f.object ≡ object.Struct q w m → d ≤ w → k ≤ m → StructTakes s free s i there d k
wide_takes s free i d k there f q w m is o ld lk =
    let now : ObjectTakes s free s i (object.Struct q w m) d k = (
      (λ less. elim less [
        | inl l ↦ absurd (omega (arith, l, ld))
        | inr l ↦ absurd (omega (arith, l, lk))
      ]),
      none_taken s (max d w + max k m) (1 + 2 * m),
    ) in
    subst (λ (x : Result Found Kind). StructTakes s free s i x d k) (sym is) (subst (λ (x : Object). ObjectTakes s free s i x d k) (sym o) now)

pub struct_takes : (s : Segments) (free : List ℕ) (u : Segments) (i d k : ℕ) (there : Result Found Kind) (f : Found) (q : code.Place) (w m d' k' : ℕ) → there ≡ Ok f → f.object ≡ object.Struct q w m → d' ≡ max d w → k' ≡ max k m → TakesNear s free u i q.segment (d' + k') → TakesAtMost s u (d' + k') (1 + 2 * m) → StructTakes s free u i there d k
struct_takes s free u i d k there f q w m d' k' is o ed ek t b =
    let sum : d' + k' ≡ max d w + max k m = omega (arith, ed, ek) in
    let now : ObjectTakes s free u i (object.Struct q w m) d k = ((λ less. subst (λ (n : ℕ). TakesNear s free u i q.segment n) sum t), subst (λ (n : ℕ). TakesAtMost s u n (1 + 2 * m)) sum b) in
    subst (λ (x : Result Found Kind). StructTakes s free u i x d k) (sym is) (subst (λ (x : Object). ObjectTakes s free u i x d k) (sym o) now)

pub null_lacks : (s : Segments) (free : List ℕ) (i d k : ℕ) (there : Result Found Kind) (f : Found) → there ≡ Ok f → f.object ≡ object.Null → NoRoom s free i (d + k) → StructLacks s free i there d k
null_lacks s free i d k there f is o h =
    subst (λ (x : Result Found Kind). StructLacks s free i x d k) (sym is) (subst (λ (x : Object). ObjectLacks s free i x d k) (sym o) h)

pub struct_lacks : (s : Segments) (free : List ℕ) (i d k : ℕ) (there : Result Found Kind) (f : Found) (q : code.Place) (w m d' k' : ℕ) → there ≡ Ok f → f.object ≡ object.Struct q w m → d' ≡ max d w → k' ≡ max k m → NoWiderRoom s free i q.segment (d' + k') (2 * m) → StructLacks s free i there d k
struct_lacks s free i d k there f q w m d' k' is o ed ek h =
    let sum : d' + k' ≡ max d w + max k m = omega (arith, ed, ek) in
    let now : ObjectLacks s free i (object.Struct q w m) d k = subst (λ (n : ℕ). NoWiderRoom s free i q.segment n (2 * m)) sum h in
    subst (λ (x : Result Found Kind). StructLacks s free i x d k) (sym is) (subst (λ (x : Object). ObjectLacks s free i x d k) (sym o) now)

-- ---- lists

pub list_takes_none : (s : Segments) (slot : code.Place) (d k : ℕ) → ListTakesAtMost s s slot d k
list_takes_none s slot d k = λ o there. none_taken s (words_of_structs o d k) (1 + 2 * (o.count * least_pointers o))

pub list_takes_most : (s u : Segments) (slot : code.Place) (old : ListPlace) (d k d' k' : ℕ) → list_there s slot ≡ Ok old → d' ≡ max d (least_data_words old) → k' ≡ max k (least_pointers old) → TakesAtMost s u (1 + old.count * (d' + k')) (1 + 2 * (old.count * least_pointers old)) → ListTakesAtMost s u slot d k
list_takes_most s u slot old d k d' k' there ed ek h = λ o is. (
    let same : old ≡ o = ok_is _ _ (sym there ∙ is) in
    let h1 = subst (λ (x : ℕ). TakesAtMost s u (1 + old.count * (x + k')) (1 + 2 * (old.count * least_pointers old))) ed h in
    let h2 = subst (λ (x : ℕ). TakesAtMost s u (1 + old.count * (max d (least_data_words old) + x)) (1 + 2 * (old.count * least_pointers old))) ek h1 in
    subst (λ (x : ListPlace). TakesAtMost s u (words_of_structs x d k) (1 + 2 * (x.count * least_pointers x))) same h2
    )

pub list_lacks : (s : Segments) (free : List ℕ) (i : ℕ) (there : Result ListPlace Kind) (old : ListPlace) (d k d' k' : ℕ) → there ≡ Ok old → d' ≡ max d (least_data_words old) → k' ≡ max k (least_pointers old) → NoWiderRoom s free i old.start.segment (1 + old.count * (d' + k')) (2 * (old.count * least_pointers old)) → ListLacks s free i there d k
list_lacks s free i there old d k d' k' is ed ek h =
    let h1 = subst (λ (x : ℕ). NoWiderRoom s free i old.start.segment (1 + old.count * (x + k')) (2 * (old.count * least_pointers old))) ed h in
    let h2 = subst (λ (x : ℕ). NoWiderRoom s free i old.start.segment (1 + old.count * (max d (least_data_words old) + x)) (2 * (old.count * least_pointers old))) ek h1 in
    subst (λ (x : Result ListPlace Kind). ListLacks s free i x d k) (sym is) h2

pub whole_unless_null : (s : Segments) (p : Place) (o : ListPlace) → (word_at s p ≡ Some 0 → ⊥) → IsNullOrWhole s p o → IsWhole s o
whole_unless_null s p o not_null (inl e) = absurd (not_null e.0)
whole_unless_null s p o not_null (inr h) = h

-- more words than a message may have have no room
pub long_lacks : (s : Segments) (free : List ℕ) (i j n pads : ℕ) → 2 ^ 29 ≤ n → NoWiderRoom s free i j (1 + n) pads
long_lacks s free i j n pads l = (λ e h. omega (arith, l, h.2), λ e h. omega (arith, l, h.2), λ h. omega (arith, l, h.2))
