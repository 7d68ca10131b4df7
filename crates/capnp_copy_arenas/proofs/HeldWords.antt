-- Lists of segments, one of which is changed.
use Rattle.std.proofs.Common.{◌≡◌, ℕ, zero, suc, ◌+◌, ◌-◌, ◌*◌, ◌/◌, ◌^◌, ◌<◌, ◌≤◌, ◌⊎◌, inl, inr, Bool, true, false, leb, List, [], ◌∷◌, ◌++◌, length, map, take, drop, set, get_or, replicate, Option, Some, None, Result, Ok, Err, refl, ap, sym, ◌∙◌, arith}
use Rattle.std.specs.List.{flat_map}
use Rattle.std.specs.Option.{is_some, IfSome, IfNone, OnSome}
use Rattle.std.specs.Result.{IfOk, OnOk, IfErr, OnErr}
use Rattle.std.proofs.lemmas.Bool.{leb-true}
use Rattle.std.proofs.lemmas.List.{length-take, length-drop, length-map, drop-take, take-take, take-replicate}
use Rattle.std.proofs.Math.Seq.{take-add, take-append-add}
use Rattle.capnp_model.specs.Bytes.{words_in_bytes}
use Rattle.capnp_model.specs.Chains.{◌provided◌}
use Rattle.capnp_model.specs.Segments.{Segments, Place, place, words_at}
use Rattle.capnp_units.specs.Segments.{whole_words, words_in}
use Rattle.std.specs.Int.{to_le_bytes, w64}
use Rattle.std.proofs.lemmas.Nat.{from_le_bytes-to_le_bytes_8}
use Rattle.capnp_wire_objects.specs.Arenas.{words_before}
use Rattle.capnp_wire_objects.proofs.lemmas.Words.{whole_words-length, is_some-provided}
use Rattle.capnp_model_writes.specs.Writes.{spliced, spliced_in, with_words, with_zeros, segment_end}
use Rattle.capnp_model.proofs.lemmas.WordsInBytes.{words_in_bytes-zeros}
use Rattle.capnp_copy_arenas.specs.Memory.{ZeroFrom, overwritten}
use Rattle.capnp_copy_arenas.specs.Allocations.{total_words, total_of, words_used, Allocates}
use Rattle.capnp_copy_arenas.proofs.Zeros.{overwritten_length}
use Rattle.capnp_copy_arenas.proofs.ByteWords.{words_append, words_overwritten}

-- ---- any list

pub both_some : {X : Type 0} (o : Option X) {P Q R : X → Type 0} → IfSome o P → IfSome o Q → ((x : X) → P x → Q x → R x) → IfSome o R
both_some None p q f = tt
both_some (Some x) p q f = f x p q

pub if_none : {X : Type 0} (o : Option X) {P Q : Type 0} → IfNone o P → (P → Q) → IfNone o Q
if_none None p f = f p
if_none (Some x) p f = tt

pub on_some : {X : Type 0} (o : Option X) {P : X → Type 0} {Q : Type 0} → IfSome o P → ((x : X) → P x → Q) → OnSome o Q
on_some None p f = tt
on_some (Some x) p f = f x p

pub on_both : {X : Type 0} (o : Option X) {P : X → Type 0} {Q R : Type 0} → IfSome o P → OnSome o Q → ((x : X) → P x → Q → R) → OnSome o R
on_both None p q f = tt
on_both (Some x) p q f = f x p q

pub no_room : (n i free w : ℕ) → ((n ≤ i) ⊎ (free < w)) → i < n → w ≤ free → ⊥
no_room n i free w (inl l) h k = omega (arith, l, h)
no_room n i free w (inr l) h k = omega (arith, l, k)

pub all_ok : {X Y : Type 0} (o : Result X Y) {P : X → Type 0} → ((x : X) → P x) → IfOk o P
all_ok (Ok x) f = f x
all_ok (Err e) f = tt

pub all_err : {X Y : Type 0} (o : Result X Y) {P : Type 0} → P → OnErr o P
all_err (Ok x) p = tt
all_err (Err e) p = p

pub no_last_room : (n free w : ℕ) → ((n ≡ 0) ⊎ (free < w)) → n - 1 < n → w ≤ free → ⊥
no_last_room n free w (inl l) h k = omega (arith, l, h)
no_last_room n free w (inr l) h k = omega (arith, l, k)

pub both_ok : {X Y : Type 0} (o : Result X Y) {P R : X → Type 0} {Q : Type 0} → IfOk o P → OnOk o Q → ((x : X) → P x → Q → R x) → IfOk o R
both_ok (Ok x) p q f = f x p q
both_ok (Err e) p q f = tt

pub if_err : {X Y : Type 0} (o : Result X Y) {P R : Y → Type 0} → IfErr o P → ((e : Y) → P e → R e) → IfErr o R
if_err (Ok x) p f = tt
if_err (Err e) p f = f e p

pub flat_map_set_same : {X : Type 0} (f : X → List ℕ) (xs : List X) (i : ℕ) (y d : X) → f y ≡ f (get_or xs i d) → flat_map f (set xs i y) ≡ flat_map f xs
flat_map_set_same f [] i y d e = refl
flat_map_set_same f (x ∷ xs) zero y d e = ap (λ (z : List ℕ). z ++ flat_map f xs) e
flat_map_set_same f (x ∷ xs) (suc i) y d e = ap (λ (zs : List ℕ). f x ++ zs) (flat_map_set_same f xs i y d e)

pub map_set_same : {X : Type 0} (f : X → ℕ) (xs : List X) (i : ℕ) (y d : X) → f y ≡ f (get_or xs i d) → map f (set xs i y) ≡ map f xs
map_set_same f [] i y d e = refl
map_set_same f (x ∷ xs) zero y d e = ap (λ (z : ℕ). z ∷ map f xs) e
map_set_same f (x ∷ xs) (suc i) y d e = ap (λ (zs : List ℕ). f x ∷ zs) (map_set_same f xs i y d e)

pub told_of_set : {X : Type 0} (f : X → ℕ) (xs : List X) (i : ℕ) (y : X) → i < length xs → get_or (map f (set xs i y)) i 0 ≡ f y
told_of_set f [] i y l = absurd (omega (arith, l))
told_of_set f (x ∷ xs) zero y l = refl
told_of_set f (x ∷ xs) (suc i) y l = told_of_set f xs i y (omega (arith, l))

pub splice_map : {X : Type 0} (f : X → List ℕ) (xs : List X) (i k : ℕ) (vs : List ℕ) (y d : X) → f y ≡ spliced k vs (f (get_or xs i d)) → map f (set xs i y) ≡ spliced_in (map f xs) i k vs
splice_map f [] i k vs y d e = refl
splice_map f (x ∷ xs) zero k vs y d e = ap (λ (z : List ℕ). z ∷ map f xs) e
splice_map f (x ∷ xs) (suc i) k vs y d e = ap (λ (zs : List (List ℕ)). f x ∷ zs) (splice_map f xs i k vs y d e)

pub zeros_map : {X : Type 0} (f : X → List ℕ) (xs : List X) (i n : ℕ) (y d : X) → i < length xs → f y ≡ f (get_or xs i d) ++ replicate n 0 → map f (set xs i y) ≡ with_zeros (map f xs) i n
unfolding with_zeros
zeros_map f [] i n y d l e = absurd (omega (arith, l))
zeros_map f (x ∷ xs) zero n y d l e = ap (λ (z : List ℕ). z ∷ map f xs) e
zeros_map f (x ∷ xs) (suc i) n y d l e = ap (λ (zs : List (List ℕ)). f x ∷ zs) (zeros_map f xs i n y d (omega (arith, l)) e)

pub push_map : {X : Type 0} (f : X → List ℕ) (xs : List X) (n : ℕ) (y : X) → f y ≡ replicate n 0 → map f (xs ++ y ∷ []) ≡ with_zeros (map f xs) (length xs) n
unfolding with_zeros
push_map f [] n y e = ap (λ (z : List ℕ). z ∷ []) e
push_map f (x ∷ xs) n y e = ap (λ (zs : List (List ℕ)). f x ∷ zs) (push_map f xs n y e)

pub end_map : {X : Type 0} (f : X → List ℕ) (xs : List X) (i : ℕ) (d : X) → i < length xs → segment_end (map f xs) i ≡ length (f (get_or xs i d))
unfolding segment_end
end_map f [] i d l = absurd (omega (arith, l))
end_map f (x ∷ xs) zero d l = refl
end_map f (x ∷ xs) (suc i) d l = end_map f xs i d (omega (arith, l))

pub end_past : {X : Type 0} (f : X → List ℕ) (xs : List X) → segment_end (map f xs) (length xs) ≡ 0
unfolding segment_end
end_past f [] = refl
end_past f (x ∷ xs) = end_past f xs

pub total_set : {X : Type 0} (f : X → ℕ) (xs : List X) (i : ℕ) (y d : X) → i < length xs → total_of f (set xs i y) + f (get_or xs i d) ≡ total_of f xs + f y
unfolding total_of
total_set f [] i y d l = absurd (omega (arith, l))
total_set f (x ∷ xs) zero y d l = omega arith
total_set f (x ∷ xs) (suc i) y d l = omega (arith, total_set f xs i y d (omega (arith, l)))

pub total_at : {X : Type 0} (f : X → ℕ) (xs : List X) (i : ℕ) (d : X) → i < length xs → f (get_or xs i d) ≤ total_of f xs
unfolding total_of
total_at f [] i d l = absurd (omega (arith, l))
total_at f (x ∷ xs) zero d l = omega arith
total_at f (x ∷ xs) (suc i) d l = omega (arith, total_at f xs i d (omega (arith, l)))

pub total_push : {X : Type 0} (f : X → ℕ) (xs : List X) (y : X) → total_of f (xs ++ y ∷ []) ≡ total_of f xs + f y
unfolding total_of
total_push f [] y = omega arith
total_push f (x ∷ xs) y = omega (arith, total_push f xs y)

pub total_alike : {X : Type 0} (f : X → List ℕ) (g : X → ℕ) (xs : List X) → ((x : X) → length (f x) ≡ g x) → total_words (map f xs) ≡ total_of g xs
unfolding total_of total_words
total_alike f g [] h = refl
total_alike f g (x ∷ xs) h = omega (arith, h x, total_alike f g xs h)

pub map_twice : {X : Type 0} (f : X → List ℕ) (xs : List X) → words_in (map f xs) ≡ map (λ (x : X). whole_words (f x)) xs
map_twice f [] = refl
map_twice f (x ∷ xs) = ap (λ (zs : List (List ℕ)). whole_words (f x) ∷ zs) (map_twice f xs)

pub in_range : {X : Type 0} (f : X → List ℕ) (xs : List X) (i k n : ℕ) → is_some (words_at (map f xs) (place i k) n) ≡ true → i < length xs
in_range f [] i k n e = absurd cc
in_range f (x ∷ xs) zero k n e = omega arith
in_range f (x ∷ xs) (suc i) k n e = let l = in_range f xs i k n e in omega (arith, l)

pub in_words : {X : Type 0} (f : X → List ℕ) (xs : List X) (i k n : ℕ) (d : X) → is_some (words_at (map f xs) (place i k) n) ≡ true → k + n ≤ length (f (get_or xs i d))
in_words f [] i k n d e = absurd cc
in_words f (x ∷ xs) zero k n d e = leb-true (k + n) (length (f x)) (sym (is_some-provided (take n (drop k (f x))) (leb (k + n) (length (f x)))) ∙ e)
in_words f (x ∷ xs) (suc i) k n d e = in_words f xs i k n d e

-- ---- used words

pub used_length : (u : ℕ) (bytes : List ℕ) → 8 * u ≤ length bytes → length (words_used u bytes) ≡ u
used_length u bytes l = omega (arith, l, whole_words-length (take (8 * u) bytes), length-take (8 * u) bytes)

used_is : (u : ℕ) (bytes : List ℕ) → 8 * u ≤ length bytes → words_used u bytes ≡ words_in_bytes u (take (8 * u) bytes)
used_is u bytes l = let e : length (take (8 * u) bytes) / 8 ≡ u = omega (arith, l, length-take (8 * u) bytes) in ap (λ (n : ℕ). words_in_bytes n (take (8 * u) bytes)) e

-- words behind the used ones are zero
pub used_more : (u w : ℕ) (bytes : List ℕ) → 8 * (u + w) ≤ length bytes → ZeroFrom (8 * u) bytes → words_used (u + w) bytes ≡ words_used u bytes ++ replicate w 0
used_more u w bytes l z =
    let sum : 8 * (u + w) ≡ 8 * u + 8 * w = omega arith in
    let small : 8 * u ≤ length bytes = omega (arith, l) in
    let fits : 8 * w ≤ length (drop (8 * u) bytes) = omega (arith, l, length-drop (8 * u) bytes) in
    let tail : take (8 * w) (drop (8 * u) bytes) ≡ replicate (8 * w) 0 = ap (take (8 * w)) z ∙ take-replicate (8 * w) (length (drop (8 * u) bytes)) 0 fits in
    let split : take (8 * (u + w)) bytes ≡ take (8 * u) bytes ++ replicate (8 * w) 0 = ap (λ (n : ℕ). take n bytes) sum ∙ take-add (8 * u) (8 * w) bytes ∙ ap (λ (xs : List ℕ). take (8 * u) bytes ++ xs) tail in
    let long : length (take (8 * u) bytes) ≡ 8 * u = omega (arith, small, length-take (8 * u) bytes) in
    used_is (u + w) bytes l ∙ ap (words_in_bytes (u + w)) split ∙ words_append u w (take (8 * u) bytes) (replicate (8 * w) 0) long
    ∙ ap (λ (xs : List ℕ). xs ++ words_in_bytes w (replicate (8 * w) 0)) (sym (used_is u bytes small)) ∙ ap (λ (xs : List ℕ). words_used u bytes ++ xs) (words_in_bytes-zeros w)

pub used_zeros : (u : ℕ) (bytes : List ℕ) → 8 * u ≤ length bytes → bytes ≡ replicate (length bytes) 0 → words_used u bytes ≡ replicate u 0
used_zeros u bytes l z =
    let e : take (8 * u) bytes ≡ replicate (8 * u) 0 = ap (take (8 * u)) z ∙ take-replicate (8 * u) (length bytes) 0 l in
    used_is u bytes l ∙ ap (words_in_bytes u) e ∙ words_in_bytes-zeros u

take_overwritten : (n at : ℕ) (from bs : List ℕ) → at + length from ≤ n → n ≤ length bs → take n (overwritten at from bs) ≡ overwritten at from (take n bs)
take_overwritten n at from bs l m =
    let front : take at (take n bs) ≡ take at bs = (let h : at ≤ n = omega (arith, l) in take-take at n bs h) in
    let sum : n ≡ at + (n - at) = omega (arith, l) in
    let sum' : n - at ≡ length from + (n - at - length from) = omega (arith, l) in
    let sum'' : n ≡ (at + length from) + (n - at - length from) = omega (arith, l) in
    let long : length (take at bs) ≡ at = omega (arith, l, m, length-take at bs) in
    let back : drop (at + length from) (take n bs) ≡ take (n - at - length from) (drop (at + length from) bs) = ap (λ (k : ℕ). drop (at + length from) (take k bs)) sum'' ∙ drop-take (at + length from) (n - at - length from) bs in
    let right : take n (overwritten at from bs) ≡ take at bs ++ (from ++ take (n - at - length from) (drop (at + length from) bs)) =
    ap (λ (k : ℕ). take k (overwritten at from bs)) (omega (arith, sum, long)) ∙ take-append-add (take at bs) (from ++ drop (at + length from) bs) (n - at)
    ∙ ap (λ (k : ℕ). take at bs ++ take k (from ++ drop (at + length from) bs)) sum' ∙ ap (λ (xs : List ℕ). take at bs ++ xs) (take-append-add from (drop (at + length from) bs) (n - at - length from))
    in
    right ∙ sym (ap (λ (xs : List ℕ). xs ++ (from ++ drop (at + length from) (take n bs))) front ∙ ap (λ (xs : List ℕ). take at bs ++ (from ++ xs)) back)

pub used_overwritten : (u k m : ℕ) (from bytes : List ℕ) → length from ≡ 8 * m → k + m ≤ u → 8 * u ≤ length bytes → words_used u (overwritten (8 * k) from bytes) ≡ spliced k (words_in_bytes m from) (words_used u bytes)
used_overwritten u k m from bytes e l b =
    let inside : 8 * k + length from ≤ 8 * u = omega (arith, e, l) in
    let room : 8 * k + length from ≤ length bytes = omega (arith, inside, b) in
    let same : 8 * u ≤ length (overwritten (8 * k) from bytes) = omega (arith, b, overwritten_length (8 * k) from bytes room) in
    let short : 8 * u ≤ length (take (8 * u) bytes) = omega (arith, b, length-take (8 * u) bytes) in
    used_is u (overwritten (8 * k) from bytes) same ∙ ap (words_in_bytes u) (take_overwritten (8 * u) (8 * k) from bytes inside b)
    ∙ words_overwritten u k m from (take (8 * u) bytes) e l short ∙ ap (spliced k (words_in_bytes m from)) (sym (used_is u bytes b))

-- ---- words written

pub written_map : {X : Type 0} (f : X → List ℕ) (xs : List X) (i k : ℕ) (vs : List ℕ) (y d : X) → f y ≡ spliced k vs (f (get_or xs i d)) → map f (set xs i y) ≡ with_words (map f xs) (place i k) vs
unfolding with_words
written_map f xs i k vs y d e = splice_map f xs i k vs y d e

pub total_none : {X : Type 0} (f : X → ℕ) (xs : List X) → xs ≡ [] → 0 ≡ total_of f xs
unfolding total_of
total_none f [] e = refl
total_none f (x ∷ xs) e = absurd cc

-- what is lent as a slice and comes back with as many elements
pub written_back : {X : Type 0} (n : ℕ) (xs ys : List X) → length xs ≡ n → length ys ≡ length xs → take n (ys ++ drop (length ys) xs) ≡ ys
written_back n xs ys e f =
    let none : drop (length ys) xs ≡ [] = drop_all xs (length ys) (omega (arith, f)) in
    ap (λ zs. take n (ys ++ zs)) none ∙ take_all ys n (omega (arith, e, f))
  where
    drop_all : {X : Type 0} (xs : List X) (n : ℕ) → length xs ≤ n → drop n xs ≡ []
    drop_all [] zero l = refl
    drop_all [] (suc n) l = refl
    drop_all (x ∷ xs) zero l = absurd (omega (arith, l))
    drop_all (x ∷ xs) (suc n) l = drop_all xs n (omega (arith, l))

    take_all : {X : Type 0} (xs : List X) (n : ℕ) → length xs ≤ n → take n (xs ++ []) ≡ xs
    take_all [] zero l = refl
    take_all [] (suc n) l = refl
    take_all (x ∷ xs) zero l = absurd (omega (arith, l))
    take_all (x ∷ xs) (suc n) l = ap (λ zs. x ∷ zs) (take_all xs n (omega (arith, l)))

pub one_word : (w : ℕ) → w < 2 ^ 64 → words_in_bytes 1 (to_le_bytes w64 w) ≡ w ∷ []
one_word w l = ap (λ (x : ℕ). x ∷ []) (from_le_bytes-to_le_bytes_8 w l)

-- words of segments, counted from the first on
pub counted : (s : List (List ℕ)) (n : ℕ) → n ≡ length s → words_before s n ≡ total_words (words_in s)
unfolding total_words
counted s n e = ap (words_before s) e ∙ by_front s
  where
    shifted : (x : List ℕ) (s : List (List ℕ)) (n : ℕ) → words_before (x ∷ s) (suc n) ≡ length x / 8 + words_before s n
    shifted x s zero = omega arith
    shifted x s (suc n) = let r = shifted x s n in omega (arith, r)

    by_front : (s : List (List ℕ)) → words_before s (length s) ≡ total_words (words_in s)
    by_front [] = refl
    by_front (x ∷ s) =
        let sum : length (x ∷ s) ≡ suc (length s) = omega arith in
        ap (words_before (x ∷ s)) sum ∙ shifted x s (length s) ∙ omega (arith, whole_words-length x, by_front s)

module _ {X : Type 0} (f : X → List ℕ) (u : X → ℕ) (h : (x : X) → length (whole_words (f x)) ≡ u x) where
  words_total : (xs : List X) → total_words (words_in (map f xs)) ≡ total_of u xs
  words_total xs = ap total_words (map_twice f xs) ∙ total_alike (λ (x : X). whole_words (f x)) u xs h

  pub total_is : (xs : List X) (n : ℕ) → n ≡ total_of u xs → n ≡ total_words (words_in (map f xs))
  total_is xs n e = e ∙ sym (words_total xs)

  pub allocates_of : (xs ys : List X) (i at n words : ℕ) → i ≤ length xs → at ≡ segment_end (map (λ (x : X). whole_words (f x)) xs) i → map (λ (x : X). whole_words (f x)) ys ≡ with_zeros (map (λ (x : X). whole_words (f x)) xs) i n → words ≡ total_of u xs → words + n < 2 ^ 29 → Allocates (words_in (map f xs)) (words_in (map f ys)) i at n
  allocates_of xs ys i at n words l e w t m =
      record {
        among = omega (arith, l, length-map (map f xs) whole_words, length-map xs f);
        end = e ∙ sym (ap (λ (s : Segments). segment_end s i) (map_twice f xs));
        few = omega (arith, m, total_is xs words t);
        now = map_twice f ys ∙ w ∙ sym (ap (λ (s : Segments). with_zeros s i n) (map_twice f xs));
      }

  pub written_of : (xs ys : List X) (p : Place) (vs : List ℕ) → map (λ (x : X). whole_words (f x)) ys ≡ with_words (map (λ (x : X). whole_words (f x)) xs) p vs → words_in (map f ys) ≡ with_words (words_in (map f xs)) p vs
  written_of xs ys p vs w = map_twice f ys ∙ w ∙ sym (ap (λ (s : Segments). with_words s p vs) (map_twice f xs))

  pub there_of : (xs ys : List X) (p : Place) (n m : ℕ) → is_some (words_at (words_in (map f xs)) p n) ≡ true → ys ≡ xs → m ≡ n → is_some (words_at (map (λ (x : X). whole_words (f x)) ys) p m) ≡ true
  there_of xs ys p n m e same eq =
      ap (λ (k : ℕ). is_some (words_at (map (λ (x : X). whole_words (f x)) ys) p k)) eq ∙ ap (λ (zs : List X). is_some (words_at (map (λ (x : X). whole_words (f x)) zs) p n)) same
      ∙ ap (λ (s : Segments). is_some (words_at s p n)) (sym (map_twice f xs)) ∙ e

pub total_popped : {X : Type 0} (f : X → ℕ) (xs ys : List X) (y : X) → xs ≡ ys ++ y ∷ [] → total_of f xs ≡ total_of f ys + f y
total_popped f xs ys y e = ap (total_of f) e ∙ total_push f ys y
