-- What is taken where there is room near the pointer.
use Rattle.std.specs.Bool.{⊤}
use Rattle.std.proofs.Common.{◌≡◌, ◌⊎◌, ◌↔◌, inl, inr, ℕ, zero, suc, ◌+◌, ◌*◌, ◌^◌, ◌<◌, ◌≤◌, true, List, [], ◌∷◌, drop, length, map, get_or, replicate, Option, Some, Result, Ok, Err, refl, ap, sym, ◌∙◌, subst, arith}
use Rattle.std.proofs.lemmas.List.{length-map, length-append, length-replicate}
use Rattle.capnp_model.specs.Chains.{◌>>=◌}
use Rattle.capnp_model.specs.Segments.{Segments, Place, after}
use Rattle.capnp_model.specs.Sizes.{object_words, element_object_words}
use Rattle.capnp_model.specs.Pointers as model
use Rattle.capnp_model.specs.Sections.{words_for, words_of}
use Rattle.capnp_model.specs.Trees.{Tree, structure, plain_list, Elements, size_bits}
use Rattle.capnp_model.specs.Traversal.{tree_at, each, each_element, leaf_of}
use Rattle.capnp_model.specs.Visits.{Visit, visits}
use Rattle.capnp_model.proofs.lemmas.Chaining.{bind_some, bind_found, some_is}
use Rattle.capnp_model.proofs.lemmas.Counts.{each_count}
use Rattle.capnp_units.specs.declared.errors.Error.{Error}
use Rattle.capnp_units.specs.declared.kinds.ErrorKind.TheVariants.{SizeOverflow}
use Rattle.capnp_units.specs.declared.limiter.ReadLimiter.{ReadLimiter}
use Rattle.capnp_units.specs.Sizes.{size_number, data_bits}
use Rattle.capnp_units.specs.Segments.{words_in}
use Rattle.capnp_wire_objects.specs.Places.{place_view}
use Rattle.capnp_units.specs.declared.sizes.ElementSize.{ElementSize}
use Rattle.capnp_units.specs.declared.sizes.ElementSize.TheVariants.{Void, Bit, Byte, TwoBytes, FourBytes, EightBytes, Pointer, InlineComposite}
use Rattle.capnp_copy_values.specs.declared.lists.ListSource.{ListSource}
use Rattle.capnp_copy_values.specs.Lists.{object_of_size, tree_of_size}
use Rattle.capnp_copy_values.proofs.Listed.{Plain}
use Rattle.capnp_wire_objects.specs.declared.place.Place as code
use Rattle.capnp_wire_objects.specs.declared.object.Object.{Object}
use Rattle.capnp_wire_objects.specs.declared.object.Object.TheVariants as object
use Rattle.capnp_wire_objects.specs.Objects.{IsInside}
use Rattle.capnp_wire_objects.specs.Follow.{Pays}
use Rattle.capnp_wire_objects.specs.Inside.{tree_in, met_in, words_there}
use Rattle.capnp_wire_objects.specs.Walks.{Stopped}
use Rattle.capnp_wire_objects.proofs.lemmas.LevelLaws.{trees}
use Rattle.capnp_wire_objects.proofs.lemmas.Measuring.{data_bits_plain}
use Rattle.capnp_model_writes.specs.Writes.{with_zeros}
use Rattle.capnp_copy_arenas.specs.Allocations.{total_words, UsesRoom, NoRoom}
use Rattle.capnp_copy_arenas.specs.States.{ArenaState}
use Rattle.capnp_copy_arenas.specs.declared.room.Room.{Room}
use Rattle.capnp_copy_arenas.specs.declared.room.Room.TheVariants.{Here, Near, Far}
use Rattle.capnp_copy_arenas.specs.Rooms.{RoomFor, IsNearWhereRoom, UsesRoomNear, begin_of}
use Rattle.capnp_copy_arenas.proofs.lemmas.Taken.{room_takes, longer_total, same_total}
use Rattle.capnp_copy_values.specs.Fits.{elements_behind, words_behind, HasRoomIn, TakesIn, HasLongList, IsLong, FitsWhereRoom, limited_arena, wanted}
use Rattle.capnp_copy_values.specs.Objects.{copied_words, most_counted, is_leaf, leaf_value, IsTooLarge}
use Rattle.capnp_copy_values.proofs.Following.{leaf_inside}
use Rattle.capnp_copy_values.proofs.Told.{deep_told}

-- ---- lengths of segments

added : List ℕ → ℕ → ℕ → List ℕ
added [] i n = []
added (x ∷ xs) zero n = (x + n) ∷ xs
added (x ∷ xs) (suc i) n = x ∷ added xs i n

zeros_sizes : (s : Segments) (i n : ℕ) → i < length s → map length (with_zeros s i n) ≡ added (map length s) i n
unfolding with_zeros added
zeros_sizes [] i n l = absurd (omega (arith, l))
zeros_sizes (xs ∷ s) zero n l = ap (λ (k : ℕ). k ∷ map length s) (omega (arith, length-append xs (replicate n 0), length-replicate {A = ℕ} n 0))
zeros_sizes (xs ∷ s) (suc i) n l = ap (λ (ks : List ℕ). length xs ∷ ks) (zeros_sizes s i n (omega (arith, l)))

added_twice : (xs : List ℕ) (i n m : ℕ) → added (added xs i n) i m ≡ added xs i (n + m)
unfolding added
added_twice [] i n m = refl
added_twice (x ∷ xs) zero n m = ap (λ (k : ℕ). k ∷ xs) (omega arith)
added_twice (x ∷ xs) (suc i) n m = ap (λ (ks : List ℕ). x ∷ ks) (added_twice xs i n m)

added_none : (xs : List ℕ) (i : ℕ) → added xs i 0 ≡ xs
unfolding added
added_none [] i = refl
added_none (x ∷ xs) zero = ap (λ (k : ℕ). k ∷ xs) (omega arith)
added_none (x ∷ xs) (suc i) = ap (λ (ks : List ℕ). x ∷ ks) (added_none xs i)

added_length : (xs : List ℕ) (i n : ℕ) → length (added xs i n) ≡ length xs
unfolding added
added_length [] i n = refl
added_length (x ∷ xs) zero n = refl
added_length (x ∷ xs) (suc i) n = ap suc (added_length xs i n)

-- ---- room in a segment

sizes_added : (s u : ArenaState) (i n : ℕ) → i < length (words_in s.segments) → TakesIn s u i n → map length (words_in u.segments) ≡ added (map length (words_in s.segments)) i n
sizes_added s u i n l t = t.sizes ∙ zeros_sizes (words_in s.segments) i n l

still_in : (s u : ArenaState) (i n : ℕ) → i < length (words_in s.segments) → TakesIn s u i n → i < length (words_in u.segments)
still_in s u i n l t =
    let e : length (map length (words_in u.segments)) ≡ length (map length (words_in s.segments)) = ap length (sizes_added s u i n l t) ∙ added_length (map length (words_in s.segments)) i n in
    omega (arith, e, l, length-map (words_in u.segments) length, length-map (words_in s.segments) length)

pub takes_stays : (s u : ArenaState) (i : ℕ) → i < length (words_in s.segments) → map length (words_in u.segments) ≡ map length (words_in s.segments) → u.room ≡ s.room → TakesIn s u i 0
takes_stays s u i l sizes room = record {
  sizes = sizes ∙ sym (zeros_sizes (words_in s.segments) i 0 l ∙ added_none (map length (words_in s.segments)) i);
  room = (let e : get_or u.room i 0 ≡ get_or s.room i 0 = ap (λ (xs : List ℕ). get_or xs i 0) room in omega (arith, e));
}

pub takes_more : (s m u : ArenaState) (i n k : ℕ) → i < length (words_in s.segments) → TakesIn s m i n → TakesIn m u i k → TakesIn s u i (n + k)
takes_more s m u i n k l a b = record {
  sizes = (
      sizes_added m u i k (still_in s m i n l a) b ∙ ap (λ (xs : List ℕ). added xs i k) (sizes_added s m i n l a) ∙ added_twice (map length (words_in s.segments)) i n k
      ∙ sym (zeros_sizes (words_in s.segments) i (n + k) l)
      );
  room = (let x = a.room in let y = b.room in omega (arith, x, y));
}

pub takes_kept : (s m u : ArenaState) (i n : ℕ) → map length (words_in u.segments) ≡ map length (words_in m.segments) → u.room ≡ m.room → TakesIn s m i n → TakesIn s u i n
takes_kept s m u i n sizes room t = record {
  sizes = sizes ∙ t.sizes;
  room = (let x = t.room in let e : get_or u.room i 0 ≡ get_or m.room i 0 = ap (λ (xs : List ℕ). get_or xs i 0) room in omega (arith, x, e));
}

pub room_less : (s : ArenaState) (i n k : ℕ) → k ≤ n → HasRoomIn s i n → HasRoomIn s i k
room_less s i n k l h = (h.0, omega (arith, l, h.1), omega (arith, l, h.2))

pub room_left : (s m : ArenaState) (i n k : ℕ) → HasRoomIn s i (n + k) → TakesIn s m i n → HasRoomIn m i k
room_left s m i n k h t =
    let total : total_words (words_in m.segments) ≡ total_words (words_in s.segments) + n = same_total (with_zeros (words_in s.segments) i n) (words_in m.segments) t.sizes ∙ longer_total (words_in s.segments) i n in
    let x = t.room in
    (still_in s m i n h.0 t, omega (arith, h.1, x), omega (arith, h.2, total))

-- words that were written take nothing
pub room_stays : (s m : ArenaState) (i n : ℕ) → HasRoomIn s i n → TakesIn s m i 0 → HasRoomIn m i n
room_stays s m i n h t = let none : n ≡ 0 + n = omega arith in room_left s m i 0 n (subst (λ (k : ℕ). HasRoomIn s i k) none h) t

pub takes_on : (s m u : ArenaState) (i n : ℕ) → i < length (words_in s.segments) → TakesIn s m i 0 → TakesIn m u i n → TakesIn s u i n
takes_on s m u i n l a b = let none : 0 + n ≡ n = omega arith in subst (λ (k : ℕ). TakesIn s u i k) none (takes_more s m u i 0 n l a b)

-- ---- how a copy goes on

pub fits_err : {X : Type 0} (words : X → ℕ) (there : Option X) (path : List Visit) (Long : Type 0) (i : ℕ) (s u : ArenaState) (old new : ReadLimiter) (r : Result ⊤ Error) (d e : Error) → r ≡ Err d → d ≡ e
    → ((x : X) → there ≡ Some x → HasRoomIn s i (words x) → Stopped path old e new ⊎ ((e.kind ≡ SizeOverflow) × Long)) → FitsWhereRoom there path (wanted words Long i) (limited_arena s old) r (limited_arena u new)
fits_err words there path Long i s u old new r d e is same h =
    subst (λ (y : Result ⊤ Error). FitsWhereRoom there path (wanted words Long i) (limited_arena s old) y (limited_arena u new)) (sym (is ∙ ap (λ (y : Error). Err y) same)) h

-- from words that were written before
pub fits_after : {X : Type 0} (words : X → ℕ) (there : Option X) (path : List Visit) (Long : Type 0) (i : ℕ) (s m u : ArenaState) (old new : ReadLimiter) (r : Result ⊤ Error) → map length (words_in m.segments) ≡ map length (words_in s.segments) → m.room ≡ s.room
    → FitsWhereRoom there path (wanted words Long i) (limited_arena m old) r (limited_arena u new) → FitsWhereRoom there path (wanted words Long i) (limited_arena s old) r (limited_arena u new)
fits_after words there path Long i s m u old new (Ok y) sizes room f = λ x is h. (
    let t = takes_stays s m i h.0 sizes room in
    takes_on s m u i (words x) h.0 t (f x is (room_stays s m i (words x) h t))
    )
fits_after words there path Long i s m u old new (Err e) sizes room f = λ x is h. f x is (room_stays s m i (words x) h (takes_stays s m i h.0 sizes room))

-- of what is made of it
pub fits_made : {X Y : Type 0} (words : X → ℕ) (counts : Y → ℕ) (make : X → Y) (there : Option X) (path : List Visit) (Long : Type 0) (i : ℕ) (s u : ArenaState) (old new : ReadLimiter) (r : Result ⊤ Error) → ((x : X) → counts (make x) ≡ words x)
    → FitsWhereRoom there path (wanted words Long i) (limited_arena s old) r (limited_arena u new) → FitsWhereRoom (there >>= λ x. Some (make x)) path (wanted counts Long i) (limited_arena s old) r (limited_arena u new)
fits_made words counts make there path Long i s u old new (Ok z) alike f = λ y is h. (
    let x = bind_some there (λ x. Some (make x)) y is in
    let n : words x.0 ≡ counts y = sym (alike x.0) ∙ ap counts (some_is _ _ x.2) in
    subst (λ (k : ℕ). TakesIn s u i k) n (f x.0 x.1 (subst (λ (k : ℕ). HasRoomIn s i k) (sym n) h))
    )
fits_made words counts make there path Long i s u old new (Err e) alike f = λ y is h. (
    let x = bind_some there (λ x. Some (make x)) y is in
    let n : words x.0 ≡ counts y = sym (alike x.0) ∙ ap counts (some_is _ _ x.2) in
    f x.0 x.1 (subst (λ (k : ℕ). HasRoomIn s i k) (sym n) h)
    )

-- ---- leaves

leaf_words : (o : model.Object) (t : Tree) → leaf_of o ≡ Some t → object_words t ≡ 0
unfolding object_words
leaf_words model.nothing t e = rw (sym (some_is _ _ e)) refl
leaf_words (model.a_capability i) t e = rw (sym (some_is _ _ e)) refl
leaf_words (model.a_struct p d k) t e = absurd cc
leaf_words (model.a_list p size n) t e = absurd cc

none_at : (from : Segments) (p : Place) (t : Tree) → tree_at 0 from p ≡ Some t → object_words t ≡ 0
unfolding tree_at
none_at from p t e = let x = bind_found (model.found_at from p) (λ g. leaf_of g.object) t e in leaf_words x.0.object t x.2

none_deep : (n : ℕ) (from : Segments) (p : Place) (t : Tree) → n ≡ 0 → tree_at n from p ≡ Some t → object_words t ≡ 0
none_deep n from p t z e = none_at from p t (subst (λ (k : ℕ). tree_at k from p ≡ Some t) z e)

pub leaf_at_fits : (n : ℕ) (from : Segments) (p : Place) (i : ℕ) (s u : ArenaState) → n ≡ 0 → map length (words_in u.segments) ≡ map length (words_in s.segments) → u.room ≡ s.room → (t : Tree) → tree_at n from p ≡ Some t → HasRoomIn s i (object_words t) → TakesIn s u i (object_words t)
leaf_at_fits n from p i s u z sizes room t e h = subst (λ (k : ℕ). TakesIn s u i k) (sym (none_deep n from p t z e)) (takes_stays s u i h.0 sizes room)

leaf_counts : (o : Object) → is_leaf o ≡ true → (object_words (leaf_value o) ≡ 0) × (words_behind (leaf_value o) ≡ 0)
unfolding object_words
leaf_counts object.Null l = (refl, refl)
leaf_counts (object.Capability i) l = (refl, refl)
leaf_counts (object.Struct q d k) l = (refl, refl)
leaf_counts (object.List q size n) l = (refl, refl)
leaf_counts (object.PointerList q n) l = (refl, refl)
leaf_counts (object.StructList q words n d k) l = (refl, refl)

leaf_is : (f : Place → Option Tree) (from : Segments) (o : Object) (t : Tree) → is_leaf o ≡ true → tree_in from f o ≡ Some t → leaf_value o ≡ t
leaf_is f from o t l e = let x = leaf_inside f (λ q. []) from o l in some_is _ _ (sym x.0 ∙ e)

pub leaf_fits : (f : Place → Option Tree) (from : Segments) (o : Object) (i : ℕ) (s u : ArenaState) → is_leaf o ≡ true → map length (words_in u.segments) ≡ map length (words_in s.segments) → u.room ≡ s.room → (t : Tree) → tree_in from f o ≡ Some t → HasRoomIn s i (object_words t) → TakesIn s u i (object_words t)
leaf_fits f from o i s u l sizes room t e h =
    let z : object_words t ≡ 0 = ap object_words (sym (leaf_is f from o t l e)) ∙ (leaf_counts o l).0 in
    subst (λ (k : ℕ). TakesIn s u i k) (sym z) (takes_stays s u i h.0 sizes room)

pub leaf_behind : (f : Place → Option Tree) (from : Segments) (o : Object) (i : ℕ) (s : ArenaState) → is_leaf o ≡ true → (t : Tree) → tree_in from f o ≡ Some t → HasRoomIn s i (words_behind t) → TakesIn s s i (words_behind t)
leaf_behind f from o i s l t e h =
    let z : words_behind t ≡ 0 = ap words_behind (sym (leaf_is f from o t l e)) ∙ (leaf_counts o l).1 in
    subst (λ (k : ℕ). TakesIn s s i k) (sym z) (takes_stays s s i h.0 refl refl)

pub list_fits : (from : Segments) (f : Place → Option Tree) (q : code.Place) (size : ElementSize) (n : ℕ) (i : ℕ) (s u : ArenaState) → map length (words_in u.segments) ≡ map length (words_in s.segments) → u.room ≡ s.room → (t : Tree) → tree_in from f (object.List q size n) ≡ Some t → HasRoomIn s i (words_behind t) → TakesIn s u i (words_behind t)
list_fits from f q size n i s u sizes room t e h =
    let z : 0 ≡ words_behind t = ap words_behind (some_is _ _ e) in
    subst (λ (k : ℕ). TakesIn s u i k) z (takes_stays s u i h.0 sizes room)

-- ---- an object's own words, and those behind it

pub elements_own : (f : Place → Option Tree) (p : Place) (ws : List ℕ) (d k n : ℕ) (es : Elements) → each_element f p ws d k n ≡ Some es → element_object_words d es ≡ n * (d + k) + elements_behind es
unfolding object_words elements_behind
elements_own f p ws d k zero es e = rw (sym (some_is _ _ e)) (omega arith)
elements_own f p ws d k (suc n) es e =
    let x = bind_some (each f (after p d) k) _ es e in
    let y = bind_some (each_element f (after p (d + k)) (drop (d + k) ws) d k n) _ es x.2 in
    let rest = elements_own f (after p (d + k)) (drop (d + k) ws) d k n y.0 y.1 in
    let count = each_count f (after p d) k x.0 x.1 in
    let sum : suc n * (d + k) ≡ (d + k) + n * (d + k) = omega arith in
    let is = some_is _ _ y.2 in
    rw (sym is) (omega (arith, rest, count, sum))

-- a list that is no list of pointers or structs has plain elements
abbrev pub HasPlain : Object → Type 0
HasPlain object.Null = Unit {0}
HasPlain (object.Capability i) = Unit {0}
HasPlain (object.Struct p d k) = Unit {0}
HasPlain (object.List p size n) = size_number size < 6
HasPlain (object.PointerList p n) = Unit {0}
HasPlain (object.StructList p words n d k) = Unit {0}

pub plain_inside : (from : Segments) (o : Object) → IsInside from o → HasPlain o
plain_inside from object.Null i = tt
plain_inside from (object.Capability j) i = tt
plain_inside from (object.Struct p d k) i = tt
plain_inside from (object.List p size n) i = i.0
plain_inside from (object.PointerList p n) i = tt
plain_inside from (object.StructList p words n d k) i = tt

pub object_own : (f : Place → Option Tree) (from : Segments) (o : Object) (t : Tree) → HasPlain o → tree_in from f o ≡ Some t → object_words t ≡ copied_words o + words_behind t
unfolding object_words
object_own f from object.Null t i e = rw (sym (some_is _ _ e)) refl
object_own f from (object.Capability j) t i e = rw (sym (some_is _ _ e)) refl
object_own f from (object.Struct p d k) t i e =
    let x = bind_some (each f (after (place_view p) d) k) _ t e in
    let count = each_count f (after (place_view p) d) k x.0 x.1 in
    rw (sym (some_is _ _ x.2)) (omega (arith, count))
object_own f from (object.List p size n) t i e =
    let bits : words_for (size_bits (size_number size) * n) ≡ words_for (data_bits (size_number size) * n) = ap (λ (b : ℕ). words_for (b * n)) (data_bits_plain (size_number size) i) in
    rw (sym (some_is _ _ e)) (omega (arith, bits))
object_own f from (object.PointerList p n) t i e =
    let x = bind_some (each f (place_view p) n) _ t e in
    let count = each_count f (place_view p) n x.0 x.1 in
    rw (sym (some_is _ _ x.2)) (omega (arith, count))
object_own f from (object.StructList p words n d k) t i e =
    let x = bind_some (each_element f (place_view p) (words_there from (place_view p) words) d k n) _ t e in
    let own = elements_own f (place_view p) (words_there from (place_view p) words) d k n x.0 x.1 in
    rw (sym (some_is _ _ x.2)) (omega (arith, own))

-- ---- an object in its room

own_taken : (s m : ArenaState) (p : Place) (k : ℕ) (room : Room) → RoomFor (words_in s.segments) (words_in m.segments) p k room → IsNearWhereRoom (words_in s.segments) s.room p.segment k room → UsesRoomNear s.room m.room p.segment k room → HasRoomIn s p.segment k → TakesIn s m p.segment k
own_taken s m p k room r near left h = record {
  sizes = room_takes (words_in s.segments) s.room (words_in m.segments) p k room r near h;
  room = by room near left;
}
  where
    by : (x : Room) → IsNearWhereRoom (words_in s.segments) s.room p.segment k x → UsesRoomNear s.room m.room p.segment k x → UsesRoom s.room m.room p.segment k
    by Here n l = l
    by (Near offset) n l = l
    by (Far pad) n l = absurd (n h)

own_segment : (s : ArenaState) (p : Place) (k : ℕ) (room : Room) → IsNearWhereRoom (words_in s.segments) s.room p.segment k room → HasRoomIn s p.segment k → (begin_of p room).segment ≡ p.segment
own_segment s p k Here near h = refl
own_segment s p k (Near offset) near h = refl
own_segment s p k (Far pad) near h = absurd (near h)

-- what is behind it is taken behind it
pub object_fits : {X : Type 0} (words behind : X → ℕ) (k : ℕ) (there : Option X) (path : List Visit) (Long : Type 0) (p : Place) (room : Room) (j : ℕ) (s m u : ArenaState) (old new : ReadLimiter) (r : Result ⊤ Error) → ((x : X) → there ≡ Some x → words x ≡ k + behind x)
    → RoomFor (words_in s.segments) (words_in m.segments) p k room → IsNearWhereRoom (words_in s.segments) s.room p.segment k room → UsesRoomNear s.room m.room p.segment k room → j ≡ (begin_of p room).segment
    → FitsWhereRoom there path (wanted behind Long j) (limited_arena m old) r (limited_arena u new) → FitsWhereRoom there path (wanted words Long p.segment) (limited_arena s old) r (limited_arena u new)
object_fits words behind k there path Long p room j s m u old new (Ok y) own r near left at f = λ x is h. (
    let n = own x is in
    let all = subst (λ (c : ℕ). HasRoomIn s p.segment c) n h in
    let mine = room_less s p.segment (k + behind x) k (omega arith) all in
    let first = own_taken s m p k room r near left mine in
    let here : j ≡ p.segment = at ∙ own_segment s p k room near mine in
    let more : TakesIn m u j (behind x) = f x is (subst (λ (c : ℕ). HasRoomIn m c (behind x)) (sym here) (room_left s m p.segment k (behind x) all first)) in
    subst (λ (c : ℕ). TakesIn s u p.segment c) (sym n) (takes_more s m u p.segment k (behind x) h.0 first (subst (λ (c : ℕ). TakesIn m u c (behind x)) here more))
    )
object_fits words behind k there path Long p room j s m u old new (Err e) own r near left at f = λ x is h. (
    let n = own x is in
    let all = subst (λ (c : ℕ). HasRoomIn s p.segment c) n h in
    let mine = room_less s p.segment (k + behind x) k (omega arith) all in
    let first = own_taken s m p k room r near left mine in
    let here : j ≡ p.segment = at ∙ own_segment s p k room near mine in
    f x is (subst (λ (c : ℕ). HasRoomIn m c (behind x)) (sym here) (room_left s m p.segment k (behind x) all first))
    )

-- what is written then takes nothing
pub fits_kept : {X : Type 0} (words : X → ℕ) (there : Option X) (path : List Visit) (Long : Type 0) (i : ℕ) (s m u : ArenaState) (old new : ReadLimiter) → map length (words_in u.segments) ≡ map length (words_in m.segments) → u.room ≡ m.room
    → FitsWhereRoom there path (wanted words Long i) (limited_arena s old) (Ok tt) (limited_arena m new) → FitsWhereRoom there path (wanted words Long i) (limited_arena s old) (Ok tt) (limited_arena u new)
fits_kept words there path Long i s m u old new sizes room f = λ x is h. takes_kept s m u i (words x) sizes room (f x is h)

-- a longer list among what may be too long
pub fits_long : {X : Type 0} (words : X → ℕ) (there : Option X) (path : List Visit) (Long More : Type 0) (i : ℕ) (s u : ArenaState) (old new : ReadLimiter) (r : Result ⊤ Error) → (Long → More)
    → FitsWhereRoom there path (wanted words Long i) (limited_arena s old) r (limited_arena u new) → FitsWhereRoom there path (wanted words More i) (limited_arena s old) r (limited_arena u new)
fits_long words there path Long More i s u old new (Ok y) up f = f
fits_long words there path Long More i s u old new (Err e) up f = λ x is h. by (f x is h)
  where
    by : Stopped path old e new ⊎ ((e.kind ≡ SizeOverflow) × Long) → Stopped path old e new ⊎ ((e.kind ≡ SizeOverflow) × More)
    by (inl stopped) = inl stopped
    by (inr long) = inr (long.0, up long.1)

-- there is no room for it
pub object_lacks : {X : Type 0} (words : X → ℕ) (there : Option X) (path : List Visit) (More : Type 0) (o : Object) (i : ℕ) (s : ArenaState) (old new : ReadLimiter) (e : Error) → ((x : X) → there ≡ Some x → copied_words o ≤ words x) → (e.kind ≡ SizeOverflow) ↔ IsTooLarge o (total_words (words_in s.segments))
    → (2 ^ 29 ≤ most_counted o) ⊎ NoRoom (words_in s.segments) s.room i (copied_words o) → (x : X) → there ≡ Some x → HasRoomIn s i (words x) → Stopped path old e new ⊎ ((e.kind ≡ SizeOverflow) × ((2 ^ 29 ≤ most_counted o) ⊎ More))
object_lacks words there path More o i s old new e own kind (inl long) x is h = inr (kind.1 (inl long), inl long)
object_lacks words there path More o i s old new e own kind (inr full) x is h = absurd (full.1 (room_less s i (words x) (copied_words o) (own x is) h))

-- ---- at a place

pub deep_fits : (n m : ℕ) (from : Segments) (p : Place) (o : Object) (i : ℕ) (old mid new : ReadLimiter) (s u : ArenaState) (r : Result ⊤ Error) → n ≡ suc m → (x : Pays from p old o mid)
    → FitsWhereRoom (tree_in from (tree_at m from) o) (met_in (visits m from) o) (wanted object_words (IsLong from o) i) (limited_arena s mid) r (limited_arena u new)
    → FitsWhereRoom (tree_at n from p) (visits n from p) (wanted object_words (HasLongList from) i) (limited_arena s old) r (limited_arena u new)
deep_fits n m from p o i old mid new s u r z x f = by r f
  where
    read : (t : Tree) → tree_at n from p ≡ Some t → tree_in from (tree_at m from) o ≡ Some t
    read t e = sym (trees m from p (record { pads = x.pads; object = o }) x.is) ∙ ap (λ (k : ℕ). tree_at k from p) (sym z) ∙ e

    far : (e : Error) → Stopped (met_in (visits m from) o) mid e new ⊎ ((e.kind ≡ SizeOverflow) × IsLong from o) → Stopped (met_in (visits m from) o) mid e new ⊎ ((e.kind ≡ SizeOverflow) × HasLongList from)
    far e (inl stopped) = inl stopped
    far e (inr (k, inl long)) = inr (k, (p, record { pads = x.pads; object = o }, x.is, long))
    far e (inr (k, inr more)) = inr (k, more)

    by : (y : Result ⊤ Error) → FitsWhereRoom (tree_in from (tree_at m from) o) (met_in (visits m from) o) (wanted object_words (IsLong from o) i) (limited_arena s mid) y (limited_arena u new) → FitsWhereRoom (tree_at n from p) (visits n from p) (wanted object_words (HasLongList from) i) (limited_arena s old) y (limited_arena u new)
    by (Ok y) g = λ t e h. g t (read t e) h
    by (Err e) g = λ t is h. deep_told n m from p o old mid new (λ d. (d.kind ≡ SizeOverflow) × HasLongList from) (Err e) z x (far e (g t (read t is) h))

-- ---- structs and lists by their parts

pub struct_own : (f : Place → Option Tree) (p : Place) (d k section : ℕ) (t : Tree) → (each f p k >>= λ ts. Some (structure d section ts)) ≡ Some t → object_words t ≡ d + k + words_behind t
unfolding object_words
struct_own f p d k section t e =
    let x = bind_some (each f p k) _ t e in
    let count = each_count f p k x.0 x.1 in
    rw (sym (some_is _ _ x.2)) (omega (arith, count))

pub struct_lacks : (s : ArenaState) (i k n : ℕ) → (2 ^ 29 ≤ 0) ⊎ NoRoom (words_in s.segments) s.room i k → k ≤ n → HasRoomIn s i n → ⊥
struct_lacks s i k n (inl l) m h = omega (arith, l)
struct_lacks s i k n (inr full) m h = full.1 (room_less s i n k m h)

plain_own : (size n section : ℕ) → size < 6 → object_words (plain_list size n section) ≡ words_for (data_bits size * n) + 0
unfolding object_words
plain_own size n section l =
    let bits : words_for (size_bits size * n) ≡ words_for (data_bits size * n) = ap (λ (b : ℕ). words_for (b * n)) (data_bits_plain size l) in
    omega (arith, bits)

pub listed_own : (f : Place → Option Tree) (x : ListSource) (section : ℕ) (z : ElementSize) (t : Tree) → tree_of_size z f x section ≡ Some t → object_words t ≡ copied_words (object_of_size z x) + words_behind t
unfolding object_words
listed_own f x section Void t e = rw (sym (some_is _ _ e)) (plain_own 0 x.count section (omega arith))
listed_own f x section Bit t e = rw (sym (some_is _ _ e)) (plain_own 1 x.count section (omega arith))
listed_own f x section Byte t e = rw (sym (some_is _ _ e)) (plain_own 2 x.count section (omega arith))
listed_own f x section TwoBytes t e = rw (sym (some_is _ _ e)) (plain_own 3 x.count section (omega arith))
listed_own f x section FourBytes t e = rw (sym (some_is _ _ e)) (plain_own 4 x.count section (omega arith))
listed_own f x section EightBytes t e = rw (sym (some_is _ _ e)) (plain_own 5 x.count section (omega arith))
listed_own f x section Pointer t e =
    let y = bind_some (each f (place_view x.start) x.count) _ t e in
    let count = each_count f (place_view x.start) x.count y.0 y.1 in
    rw (sym (some_is _ _ y.2)) (omega (arith, count))
listed_own f x section InlineComposite t e =
    let y = bind_some (each_element f (place_view x.start) (words_of (x.count * (x.data_words + x.pointers)) section) x.data_words x.pointers x.count) _ t e in
    let own = elements_own f (place_view x.start) (words_of (x.count * (x.data_words + x.pointers)) section) x.data_words x.pointers x.count y.0 y.1 in
    rw (sym (some_is _ _ y.2)) (omega (arith, own))

-- plain elements have nothing behind them
pub plain_fits : (f : Place → Option Tree) (x : ListSource) (section : ℕ) (z : ElementSize) (i : ℕ) (s u : ArenaState) → Plain z x section → map length (words_in u.segments) ≡ map length (words_in s.segments) → u.room ≡ s.room → (t : Tree) → tree_of_size z f x section ≡ Some t → HasRoomIn s i (words_behind t) → TakesIn s u i (words_behind t)
plain_fits f x section z i s u y sizes room t e h =
    let none_there : 0 ≡ words_behind t = ap words_behind (some_is _ _ (sym (y.tree f) ∙ e)) in
    subst (λ (k : ℕ). TakesIn s u i k) none_there (takes_stays s u i h.0 sizes room)
