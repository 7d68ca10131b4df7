-- Spans that are there and take no word twice have at most the words of all segments.
use Rattle.std.proofs.Common.{◌≡◌, ℕ, zero, suc, ◌+◌, ◌<◌, ◌≤◌, List, [], ◌∷◌, ◌++◌, length, Some, arith}
use Rattle.std.specs.List.{slice_get, AllByRecursion}
use Rattle.std.proofs.lemmas.Bool.{leb-true}
use Rattle.capnp_model.specs.Segments.{Segments, Place, place}
use Rattle.capnp_model.specs.Coverage.{Span, times_held}
use Rattle.capnp_model.proofs.lemmas.Chaining.{bind_some, provided_some}
use Rattle.capnp_model_writes.specs.Totals.{words_of_segments}
use Rattle.capnp_model_writes.proofs.lemmas.Spans.{held, held_is, held_in}
use Rattle.capnp_model_writes.proofs.lemmas.There.{AreThere}

-- the words of spans
abbrev pub words_of_spans : List Span → ℕ
words_of_spans [] = 0
words_of_spans (x ∷ xs) = x.words + words_of_spans xs

pub spans_append : (xs ys : List Span) → words_of_spans (xs ++ ys) ≡ words_of_spans xs + words_of_spans ys
spans_append [] ys = omega arith
spans_append (x ∷ xs) ys = let rest = spans_append xs ys in omega (arith, rest)

-- ---- what is counted at each word, summed up

-- at n words of the ith segment, from the kth on
abbrev counted_in : (Place → ℕ) → ℕ → ℕ → ℕ → ℕ
counted_in c i k zero = 0
counted_in c i k (suc n) = c (place i k) + counted_in c i (suc k) n

-- at all words of segments that are the ith and those behind it
abbrev counted : (Place → ℕ) → ℕ → Segments → ℕ
counted c i [] = 0
counted c i (xs ∷ s) = counted_in c i 0 (length xs) + counted c (suc i) s

module _ (c : Place → ℕ) (once : (q : Place) → c q ≤ 1) where
  once_in : (i k n : ℕ) → counted_in c i k n ≤ n
  once_in i k zero = omega arith
  once_in i k (suc n) = let rest = once_in i (suc k) n in omega (arith, once (place i k), rest)

  counted_once : (i : ℕ) (s : Segments) → counted c i s ≤ words_of_segments s
  unfolding words_of_segments
  counted_once i [] = omega arith
  counted_once i (xs ∷ s) = let rest = counted_once (suc i) s in omega (arith, once_in i 0 (length xs), rest)

module _ (c d e : Place → ℕ) (sum : (q : Place) → e q ≡ c q + d q) where
  both_in : (i k n : ℕ) → counted_in e i k n ≡ counted_in c i k n + counted_in d i k n
  both_in i k zero = omega arith
  both_in i k (suc n) = let rest = both_in i (suc k) n in omega (arith, sum (place i k), rest)

  counted_both : (i : ℕ) (s : Segments) → counted e i s ≡ counted c i s + counted d i s
  counted_both i [] = omega arith
  counted_both i (xs ∷ s) = let rest = counted_both (suc i) s in omega (arith, both_in i 0 (length xs), rest)

module _ (c : Place → ℕ) where
  -- of which m are counted, from the gth on
  part_in : (i k n g m : ℕ) → g + m ≤ n → ((j : ℕ) → k + g ≤ j → j < k + g + m → 1 ≤ c (place i j)) → m ≤ counted_in c i k n
  part_in i k zero g m l h = omega (arith, l)
  part_in i k (suc n) zero zero l h = omega arith
  part_in i k (suc n) zero (suc m) l h =
      let here : 1 ≤ c (place i k) = h k (omega arith) (omega arith) in
      let rest : m ≤ counted_in c i (suc k) n = part_in i (suc k) n zero m (omega (arith, l)) (λ j a b. h j (omega (arith, a)) (omega (arith, b))) in
      omega (arith, here, rest)
  part_in i k (suc n) (suc g) m l h =
      let rest : m ≤ counted_in c i (suc k) n = part_in i (suc k) n g m (omega (arith, l)) (λ j a b. h j (omega (arith, a)) (omega (arith, b))) in
      omega (arith, rest)

  counted_part : (i j k m : ℕ) (s : Segments) (xs : List ℕ) → slice_get s j ≡ Some xs → k + m ≤ length xs → ((q : Place) → i + j ≡ q.segment → k ≤ q.position → q.position < k + m → 1 ≤ c q) → m ≤ counted c i s
  counted_part i j k m [] xs e l h = absurd cc
  counted_part i zero k m (ys ∷ s) xs e l h =
      let is : ys ≡ xs = cc in
      let long : length ys ≡ length xs = cc in
      let here : m ≤ counted_in c i 0 (length ys) = part_in i 0 (length ys) k m (omega (arith, l, long)) (λ r a b. h (place i r) (omega arith) (omega (arith, a)) (omega (arith, b))) in
      omega (arith, here)
  counted_part i (suc j) k m (ys ∷ s) xs e l h =
      let rest : m ≤ counted c (suc i) s = counted_part (suc i) j k m s xs e l (λ q a f g. h q (omega (arith, a)) f g) in
      omega (arith, rest)

-- ---- spans

span_counted : (s : Segments) (x : Span) → AreThere s x → x.words ≤ counted (held x.start x.words) 0 s
span_counted s x t =
    let a = bind_some (slice_get s x.start.segment) _ t.0 t.1 in
    let g = provided_some _ _ _ a.2 in
    let fits = leb-true _ _ g.0 in
    counted_part (held x.start x.words) 0 x.start.segment x.start.position x.words s a.0 a.1 fits (λ q e l m. (let one = held_in x.start x.words q (omega (arith, e)) l m in omega (arith, one)))

spans_counted : (s : Segments) (xs : List Span) → AllByRecursion (AreThere s) xs → words_of_spans xs ≤ counted (times_held xs) 0 s
spans_counted s [] a = omega arith
spans_counted s (x ∷ xs) a =
    let both = counted_both (held x.start x.words) (times_held xs) (times_held (x ∷ xs)) (held_is x.start x.words xs) 0 s in
    let here = span_counted s x a.0 in
    let rest = spans_counted s xs a.1 in
    omega (arith, both, here, rest)

-- THE LAW
pub spans_within : (s : Segments) (xs : List Span) → AllByRecursion (AreThere s) xs → ((q : Place) → times_held xs q ≤ 1) → words_of_spans xs ≤ words_of_segments s
spans_within s xs a once = let l = spans_counted s xs a in omega (arith, l, counted_once (times_held xs) once 0 s)
