-- What is met on a walk is a fault of the bytes, or costs words.
use Rattle.std.proofs.Common.{ℕ, zero, suc, ◌+◌, ◌-◌, ◌*◌, ◌^◌, Bool, true, false, leb, eqb, ltb, List, [], ◌∷◌, ◌++◌, length, Option, Some, None, Result, Ok, Err, if◌then◌else◌}
use Rattle.std.specs.Option.{ok_or}
use Rattle.capnp_model.specs.Kinds.{Kind, ReadLimitExceeded, OutOfBounds}
use Rattle.capnp_model.specs.Chains.{◌and_then◌, ◌provided◌, guard}
use Rattle.capnp_model.specs.Sections.{bits_at}
use Rattle.capnp_model.specs.Segments.{Segments, Place, place, after, word_at, words_at}
use Rattle.capnp_model.specs.Pointers.{Pointer, to_struct, to_list, to_pad, to_capability, to_nothing_known, pointer_of, begins, described, in_pad, Object, nothing, a_struct, a_list, a_capability, Found, found_by, found_at}
use Rattle.capnp_model.specs.Traversal.{Tag, tag_of, tag_in, ListKind, of_bits, of_pointers, of_structs, list_kind, list_words}
use Rattle.capnp_model.specs.Coverage.{from_each, from_elements}
use Rattle.capnp_model.specs.Visits.{Visit, visits_of, list_visits, object_visits, leaf_visits, visits}

-- A kind other than that of a budget.
abbrev pub IsFault : Kind → Type 0
IsFault ReadLimitExceeded = ⊥
IsFault _ = Unit {0}

-- A step that gives something, or is refused by such a kind.
abbrev pub Plain : {A : Type 0} → Result A Kind → Type 0
Plain (Ok x) = Unit {0}
Plain (Err kind) = IsFault kind

then_plain : {A B : Type 0} (r : Result A Kind) (f : A → Result B Kind) → Plain r → ((x : A) → Plain (f x)) → Plain (r and_then f)
then_plain (Ok x) f p h = h x
then_plain (Err k) f p h = p

there_plain : {A : Type 0} (o : Option A) (k : Kind) → IsFault k → Plain (ok_or o k)
there_plain (Some x) k p = tt
there_plain None k p = p

either_plain : {A : Type 0} (b : Bool) (r q : Result A Kind) → Plain r → Plain q → Plain (if b then r else q)
either_plain true r q x y = x
either_plain false r q x y = y

guard_plain : (b : Bool) (k : Kind) → IsFault k → Plain (guard b k)
guard_plain true k p = tt
guard_plain false k p = p

-- ---- pointers

begins_plain : (p : Place) (offset : ℕ) → Plain (begins p offset)
begins_plain p offset =
    let before : Option Place = place p.segment (p.position + offset - 2 ^ 30) provided leb (2 ^ 30) (p.position + offset) in
    either_plain {A = Place} (ltb offset (2 ^ 29)) (Ok (after p offset)) (ok_or before OutOfBounds) tt (there_plain before OutOfBounds tt)

described_plain : (start : ℕ → Result Place Kind) → ((n : ℕ) → Plain (start n)) → (p : Pointer) → Plain (described start p)
described_plain start h (to_struct n d k) = then_plain (start n) _ (h n) (λ (x : Place). tt)
described_plain start h (to_list n size k) = then_plain (start n) _ (h n) (λ (x : Place). tt)
described_plain start h (to_pad n p) = tt
described_plain start h (to_capability i) = tt
described_plain start h to_nothing_known = tt

pad_plain : (p : Place) (ws : List ℕ) → Plain (in_pad p ws)
pad_plain p [] = tt
pad_plain p (w ∷ []) = described_plain (begins (after p 1)) (begins_plain (after p 1)) (pointer_of w)
pad_plain p (far ∷ w ∷ []) = described_plain (λ _. Ok (place (bits_at 32 32 far) (bits_at 3 29 far))) (λ (n : ℕ). tt) (pointer_of w)
pad_plain p (far ∷ w ∷ v ∷ ws) = tt

by_plain : (s : Segments) (p : Place) (pointer : Pointer) → Plain (found_by s p pointer)
by_plain s p (to_pad n pad) = then_plain (ok_or (words_at s pad n) OutOfBounds) _ (there_plain (words_at s pad n) OutOfBounds tt) (λ (ws : List ℕ). then_plain (in_pad pad ws) _ (pad_plain pad ws) (λ (o : Object). tt))
by_plain s p (to_struct n d k) = then_plain (described (begins (after p 1)) (to_struct n d k)) _ (described_plain _ (begins_plain (after p 1)) (to_struct n d k)) (λ (o : Object). tt)
by_plain s p (to_list n size k) = then_plain (described (begins (after p 1)) (to_list n size k)) _ (described_plain _ (begins_plain (after p 1)) (to_list n size k)) (λ (o : Object). tt)
by_plain s p (to_capability i) = tt
by_plain s p to_nothing_known = tt

found_plain : (s : Segments) (p : Place) → Plain (found_at s p)
found_plain s p = then_plain (ok_or (word_at s p) OutOfBounds) _ (there_plain (word_at s p) OutOfBounds tt) (λ (w : ℕ). either_plain {A = Found} (eqb w 0) (Ok (record { pads = 0; object = nothing })) (found_by s p (pointer_of w)) tt (by_plain s p (pointer_of w)))

-- ---- walks

-- Each visit is such a step.
abbrev pub AllPlain : List Visit → Type 0
AllPlain [] = Unit {0}
AllPlain (v ∷ vs) = Plain v × AllPlain vs

both_plain : (a b : List Visit) → AllPlain a → AllPlain b → AllPlain (a ++ b)
both_plain [] b x y = y
both_plain (v ∷ a) b x y = (x.0, both_plain a b x.1 y)

-- The visit between others is one.
pub plain_between : (a : List Visit) (v : Visit) (b : List Visit) → AllPlain (a ++ v ∷ b) → Plain v
plain_between [] v b x = x.0
plain_between (w ∷ a) v b x = plain_between a v b x.1

visits_plain : {A : Type 0} (f : A → List Visit) (r : Result A Kind) → Plain r → ((x : A) → AllPlain (f x)) → AllPlain (visits_of f r)
visits_plain f (Ok x) p h = h x
visits_plain f (Err k) p h = (p, tt)

each_plain : (below : Place → List Visit) → ((p : Place) → AllPlain (below p)) → (k : ℕ) (p : Place) → AllPlain (from_each below p k)
each_plain below h zero p = tt
each_plain below h (suc k) p = both_plain (below p) (from_each below (after p 1) k) (h p) (each_plain below h k (after p 1))

elements_plain : (below : Place → List Visit) → ((p : Place) → AllPlain (below p)) → (n : ℕ) (p : Place) (d k : ℕ) → AllPlain (from_elements below p d k n)
elements_plain below h zero p d k = tt
elements_plain below h (suc n) p d k = both_plain (from_each below (after p d) k) (from_elements below (after p (d + k)) d k n) (each_plain below h k (after p d)) (elements_plain below h n (after p (d + k)) d k)

tag_of_plain : (p : Pointer) → Plain (tag_of p)
tag_of_plain (to_struct n d k) = tt
tag_of_plain (to_list n size k) = tt
tag_of_plain (to_pad n p) = tt
tag_of_plain (to_capability i) = tt
tag_of_plain to_nothing_known = tt

tag_plain : (ws : List ℕ) → Plain (tag_in ws)
tag_plain [] = tt
tag_plain (w ∷ ws) = then_plain (tag_of (pointer_of w)) _ (tag_of_plain (pointer_of w)) (λ (t : Tag). then_plain (guard (leb (t.count * (t.data_words + t.pointers)) (length ws)) OutOfBounds) _ (guard_plain _ OutOfBounds tt) (λ (u : Unit {0}). tt))

list_plain : (below : Place → List Visit) → ((p : Place) → AllPlain (below p)) → (pads : ℕ) (p : Place) (kind : ListKind) (size n : ℕ) (ws : List ℕ) → AllPlain (list_visits below pads p kind size n ws)
list_plain below h pads p of_bits size n ws = (tt, tt)
list_plain below h pads p of_pointers size n ws = (tt, each_plain below h n p)
list_plain below h pads p of_structs size n ws = visits_plain _ (tag_in ws) (tag_plain ws) (λ (t : Tag). (tt, elements_plain below h t.count (after p 1) t.data_words t.pointers))

object_plain : (s : Segments) (below : Place → List Visit) → ((p : Place) → AllPlain (below p)) → (pads : ℕ) (o : Object) → AllPlain (object_visits s below pads o)
object_plain s below h pads nothing = (tt, tt)
object_plain s below h pads (a_capability i) = (tt, tt)
object_plain s below h pads (a_struct p d k) = visits_plain _ (ok_or (words_at s p (d + k)) OutOfBounds) (there_plain (words_at s p (d + k)) OutOfBounds tt) (λ (ws : List ℕ). (tt, each_plain below h k (after p d)))
object_plain s below h pads (a_list p size n) = visits_plain _ (ok_or (words_at s p (list_words (list_kind size) size n)) OutOfBounds) (there_plain (words_at s p (list_words (list_kind size) size n)) OutOfBounds tt) (λ (ws : List ℕ). list_plain below h pads p (list_kind size) size n ws)

leaf_plain : (pads : ℕ) (o : Object) → AllPlain (leaf_visits pads o)
leaf_plain pads nothing = (tt, tt)
leaf_plain pads (a_capability i) = (tt, tt)
leaf_plain pads (a_struct p d k) = (tt, tt)
leaf_plain pads (a_list p size n) = (tt, tt)

-- No walk meets the kind of a budget.
pub all_plain : (n : ℕ) (s : Segments) (p : Place) → AllPlain (visits n s p)
unfolding visits
all_plain zero s p = visits_plain _ (found_at s p) (found_plain s p) (λ (f : Found). leaf_plain f.pads f.object)
all_plain (suc n) s p = visits_plain _ (found_at s p) (found_plain s p) (λ (f : Found). object_plain s (visits n s) (all_plain n s) f.pads f.object)
