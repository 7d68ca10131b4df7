-- No fault on the way of a copy is a want of room.
use Rattle.std.proofs.Common.{◌≡◌, ℕ, zero, suc, ◌+◌, ◌*◌, ◌-◌, ◌^◌, ◌==◌, nat_lt, nat_le, Bool, true, false, if◌then◌else◌, List, [], ◌∷◌, ◌++◌, length, Option, Some, None, Result, Ok, Err, ap, sym, ◌∙◌, subst}
use Rattle.std.specs.Option.{ok_or}
use Rattle.capnp_model.specs.Kinds.{Kind, OutOfBounds}
use Rattle.capnp_model.specs.Kinds as kinds
use Rattle.capnp_model.specs.Chains.{◌and_then◌, ◌provided◌, guard}
use Rattle.capnp_model.specs.Sections.{bits_at}
use Rattle.capnp_model.specs.Segments.{Segments, Place, place, after, word_at, words_at}
use Rattle.capnp_model.specs.Pointers.{Pointer, to_struct, to_list, to_pad, to_capability, to_nothing_known, pointer_of, begins, Object, nothing, a_struct, a_list, a_capability, described, in_pad, Found, found_by, found_at}
use Rattle.capnp_model.specs.Traversal.{tag_of, tag_in, ListKind, of_bits, of_pointers, of_structs, list_kind, list_words}
use Rattle.capnp_model.specs.Coverage.{from_each, from_elements}
use Rattle.capnp_model.specs.Visits.{Visit, visits_of, list_visits, object_visits, leaf_visits}
use Rattle.capnp_units.specs.declared.errors.Error.{Error}
use Rattle.capnp_units.specs.declared.kinds.ErrorKind.TheVariants.{BufferNotLargeEnough, ReadLimitExceeded}
use Rattle.capnp_units.specs.declared.limiter.ReadLimiter.{ReadLimiter}
use Rattle.capnp_units.specs.Errors.{kind_of}
use Rattle.capnp_units.specs.Limits.{left_of}
use Rattle.capnp_wire_objects.specs.Walks.{Stopped, CannotPass}
use Rattle.capnp_wire_canonical.specs.Copies.{unless_capability, copy_visits}

-- A kind of fault that is no want of room.
abbrev IsOther : Kind → Type 0
IsOther kinds.BufferNotLargeEnough = ⊥
IsOther _ = Unit {0}

-- A step isn't refused for want of room.
abbrev Finds : {A : Type 0} → Result A Kind → Type 0
Finds (Ok x) = Unit {0}
Finds (Err kind) = IsOther kind

-- No visit is.
abbrev AllFind : List Visit → Type 0
AllFind [] = Unit {0}
AllFind (v ∷ vs) = Finds v × AllFind vs

then_finds : {A B : Type 0} (r : Result A Kind) (f : A → Result B Kind) → Finds r → ((x : A) → Finds (f x)) → Finds (r and_then f)
then_finds (Ok x) f h g = g x
then_finds (Err kind) f h g = h

inside_finds : {A : Type 0} (o : Option A) → Finds (ok_or o OutOfBounds)
inside_finds None = tt
inside_finds (Some x) = tt

either_finds : {A : Type 0} (b : Bool) (x y : Result A Kind) → Finds x → Finds y → Finds (if b then x else y)
either_finds true x y h g = h
either_finds false x y h g = g

guard_finds : (b : Bool) → Finds (guard b OutOfBounds)
guard_finds true = tt
guard_finds false = tt

-- ---- what a pointer leads to

begins_finds : (p : Place) (offset : ℕ) → Finds (begins p offset)
begins_finds p offset = either_finds (nat_lt offset (2 ^ 29)) (Ok (after p offset)) (ok_or (place p.segment (p.position + offset - 2 ^ 30) provided nat_le (2 ^ 30) (p.position + offset)) OutOfBounds) tt (inside_finds (place p.segment (p.position + offset - 2 ^ 30) provided nat_le (2 ^ 30) (p.position + offset)))

described_finds : (start : ℕ → Result Place Kind) (pointer : Pointer) → ((offset : ℕ) → Finds (start offset)) → Finds (described start pointer)
described_finds start (to_struct offset d k) h = then_finds (start offset) (λ p. Ok (a_struct p d k)) (h offset) (λ p. tt)
described_finds start (to_list offset size n) h = then_finds (start offset) (λ p. Ok (a_list p size n)) (h offset) (λ p. tt)
described_finds start (to_pad words p) h = tt
described_finds start (to_capability i) h = tt
described_finds start to_nothing_known h = tt

pad_finds : (p : Place) (ws : List ℕ) → Finds (in_pad p ws)
pad_finds p [] = tt
pad_finds p (w ∷ []) = described_finds (begins (after p 1)) (pointer_of w) (λ offset. begins_finds (after p 1) offset)
pad_finds p (far ∷ w ∷ []) = described_finds (λ _. Ok (place (bits_at 32 32 far) (bits_at 3 29 far))) (pointer_of w) (λ offset. tt)
pad_finds p (x ∷ y ∷ z ∷ ws) = tt

abbrev found : ℕ → Object → Found
found n o = record { pads = n; object = o }

plain_finds : (p : Place) (pointer : Pointer) → Finds (described (begins (after p 1)) pointer and_then λ o. Ok (found 0 o))
plain_finds p pointer = then_finds (described (begins (after p 1)) pointer) (λ o. Ok (found 0 o)) (described_finds (begins (after p 1)) pointer (λ offset. begins_finds (after p 1) offset)) (λ o. tt)

pointer_finds : (s : Segments) (p : Place) (pointer : Pointer) → Finds (found_by s p pointer)
pointer_finds s p (to_struct offset d k) = plain_finds p (to_struct offset d k)
pointer_finds s p (to_list offset size n) = plain_finds p (to_list offset size n)
pointer_finds s p (to_pad words pad) =
    then_finds (ok_or (words_at s pad words) OutOfBounds) (λ ws. in_pad pad ws and_then λ o. Ok (found words o)) (inside_finds (words_at s pad words))
    (λ ws. then_finds (in_pad pad ws) (λ o. Ok (found words o)) (pad_finds pad ws) (λ o. tt))
pointer_finds s p (to_capability i) = plain_finds p (to_capability i)
pointer_finds s p to_nothing_known = plain_finds p to_nothing_known

place_finds : (s : Segments) (p : Place) → Finds (found_at s p)
place_finds s p =
    then_finds (ok_or (word_at s p) OutOfBounds) (λ w. if w == 0 then Ok (found 0 nothing) else found_by s p (pointer_of w)) (inside_finds (word_at s p))
    (λ w. either_finds (w == 0) (Ok (found 0 nothing)) (found_by s p (pointer_of w)) tt (pointer_finds s p (pointer_of w)))

tag_finds : (pointer : Pointer) → Finds (tag_of pointer)
tag_finds (to_struct n d k) = tt
tag_finds (to_list offset size n) = tt
tag_finds (to_pad words p) = tt
tag_finds (to_capability i) = tt
tag_finds to_nothing_known = tt

tagged_finds : (ws : List ℕ) → Finds (tag_in ws)
tagged_finds [] = tt
tagged_finds (w ∷ ws) =
    then_finds (tag_of (pointer_of w)) (λ t. guard (nat_le (t.count * (t.data_words + t.pointers)) (length ws)) OutOfBounds and_then λ _. Ok t) (tag_finds (pointer_of w))
    (λ t. then_finds (guard (nat_le (t.count * (t.data_words + t.pointers)) (length ws)) OutOfBounds) (λ _. Ok t) (guard_finds (nat_le (t.count * (t.data_words + t.pointers)) (length ws))) (λ _. tt))

-- ---- what is visited

both_find : (a b : List Visit) → AllFind a → AllFind b → AllFind (a ++ b)
both_find [] b h g = g
both_find (v ∷ a) b h g = (h.0, both_find a b h.1 g)

step_finds : {A : Type 0} (f : A → List Visit) (r : Result A Kind) → Finds r → ((x : A) → AllFind (f x)) → AllFind (visits_of f r)
step_finds f (Ok x) h g = g x
step_finds f (Err kind) h g = (h, tt)

module _ (v : Place → List Visit) (each : (p : Place) → AllFind (v p)) where
  row_finds : (p : Place) (k : ℕ) → AllFind (from_each v p k)
  row_finds p zero = tt
  row_finds p (suc k) = both_find (v p) (from_each v (after p 1) k) (each p) (row_finds (after p 1) k)

  elements_find : (p : Place) (d k n : ℕ) → AllFind (from_elements v p d k n)
  elements_find p d k zero = tt
  elements_find p d k (suc n) = both_find (from_each v (after p d) k) (from_elements v (after p (d + k)) d k n) (row_finds (after p d) k) (elements_find (after p (d + k)) d k n)

  list_finds : (pads : ℕ) (p : Place) (kind : ListKind) (size n : ℕ) (ws : List ℕ) → AllFind (list_visits v pads p kind size n ws)
  list_finds pads p of_bits size n ws = (tt, tt)
  list_finds pads p of_pointers size n ws = (tt, row_finds p n)
  list_finds pads p of_structs size n ws = step_finds _ (tag_in ws) (tagged_finds ws) (λ t. (tt, elements_find (after p 1) t.data_words t.pointers t.count))

  object_finds : (s : Segments) (pads : ℕ) (o : Object) → AllFind (unless_capability o (object_visits s v pads o))
  object_finds s pads nothing = (tt, tt)
  object_finds s pads (a_capability i) = (tt, tt)
  object_finds s pads (a_struct p d k) = step_finds _ (ok_or (words_at s p (d + k)) OutOfBounds) (inside_finds (words_at s p (d + k))) (λ ws. (tt, row_finds (after p d) k))
  object_finds s pads (a_list p size n) = step_finds (list_visits v pads p (list_kind size) size n) (ok_or (words_at s p (list_words (list_kind size) size n)) OutOfBounds) (inside_finds (words_at s p (list_words (list_kind size) size n))) (λ ws. list_finds pads p (list_kind size) size n ws)

leaf_finds : (pads : ℕ) (o : Object) → AllFind (unless_capability o (leaf_visits pads o))
leaf_finds pads nothing = (tt, tt)
leaf_finds pads (a_capability i) = (tt, tt)
leaf_finds pads (a_struct p d k) = (tt, tt)
leaf_finds pads (a_list p size n) = (tt, tt)

copy_finds : (n : ℕ) (s : Segments) (p : Place) → AllFind (copy_visits n s p)
unfolding copy_visits
copy_finds zero s p = step_finds (λ f. unless_capability f.object (leaf_visits f.pads f.object)) (found_at s p) (place_finds s p) (λ f. leaf_finds f.pads f.object)
copy_finds (suc n) s p = step_finds (λ f. unless_capability f.object (object_visits s (copy_visits n s) f.pads f.object)) (found_at s p) (place_finds s p) (λ f. object_finds (copy_visits n s) (λ q. copy_finds n s q) s f.pads f.object)

-- ---- a walk that is stopped

last_finds : (before : List Visit) (last : Visit) (behind : List Visit) → AllFind (before ++ last ∷ behind) → Finds last
last_finds [] last behind h = h.0
last_finds (v ∷ before) last behind h = last_finds before last behind h.1

-- a copy that is stopped on its way isn't refused for want of room
pub stopped_otherwise : (n : ℕ) (s : Segments) (p : Place) (l m : ReadLimiter) (e : Error) → Stopped (copy_visits n s p) l e m → e.kind ≡ BufferNotLargeEnough → ⊥
stopped_otherwise n s p l m e x is = by x.last (last_finds x.before x.last x.behind (subst AllFind x.path_is (copy_finds n s p))) x.why
  where
    by : (last : Visit) → Finds last → CannotPass (left_of l) x.paid last e.kind → ⊥
    by (Ok words) h why = let no : ReadLimitExceeded ≡ BufferNotLargeEnough = sym why.0 ∙ is in absurd cc
    by (Err kind) h why = let same : kind ≡ kinds.BufferNotLargeEnough = sym why ∙ ap kind_of is in subst IsOther same h
