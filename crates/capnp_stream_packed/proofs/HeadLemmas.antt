-- The group at the front of bytes that are shown.
use Rattle.std.proofs.Common.{◌≡◌, ◌≢◌, ℕ, zero, suc, ◌+◌, ◌/◌, ◌%◌, ◌<◌, ◌≤◌, mod-lt, leb, List, [], ◌∷◌, ◌++◌, length, take, drop, get_or, Result, Ok, Err, refl, sym, ap, subst, ◌∙◌, append_assoc, append-nil, arith, take-append-drop, length-take-le, length-drop}
use Rattle.std.specs.Int.{w64, from_le_bytes}
use Rattle.std.proofs.lemmas.Bool.{le-leb, ne_eqb}
use Rattle.std.proofs.lemmas.List.{take-append-le, drop-append-le, take_more, get_or_append_left}
use Rattle.std.proofs.lemmas.Simd.{pick_l_whole}
use Rattle.capnp_model.specs.Kinds.{Kind, PackedInputDidNotEndCleanlyOnASegmentBoundary}
use Rattle.capnp_model.specs.Chains.{◌and_then◌}
use Rattle.capnp_model.specs.Packing as model
use Rattle.capnp_model.specs.Packing.{spread, run_at, group_at, with_word, unpacked_from}
use Rattle.capnp_model.proofs.lemmas.Chaining.{ok_then, guard_then}
use Rattle.std.proofs.Common.{take-take}
use Rattle.capnp_model.proofs.lemmas.Lists.{length-take-short}
use Rattle.capnp_stream_packed.specs.Parts.{tagged}
use Rattle.capnp_stream_packed.specs.Tags.{marks}
use Rattle.capnp_stream_packed.specs.Runs.{run_view}
use Rattle.capnp_stream_packed.specs.Steps.{IsPackedGroup, BeginsWithTag}
use Rattle.capnp_stream_packed.specs.declared.runs.Run.{Run}
use Rattle.capnp_stream_packed.specs.declared.runs.Run.TheVariants.{Next, Zeros, Verbatim}
use Rattle.capnp_stream.specs.Pieces.{EndsEarly, EachIsNeeded}
use Rattle.capnp_stream.proofs.lemmas.EarlyLemmas.{early-same, early-then, none-needed, needed-joined}
use Rattle.capnp_stream_packed.proofs.PartLemmas.{byte-needed}

-- ---- the head of a group

abbrev counted_run : List ℕ → model.Run × List ℕ → Result (ℕ × model.Run × List ℕ) Kind
counted_run word r = Ok (from_le_bytes w64 word, r.0, r.1)

abbrev tagged_run : ℕ → ℕ → List ℕ × List ℕ → Result (ℕ × model.Run × List ℕ) Kind
tagged_run n t w = run_at n t w.1 and_then counted_run w.0

group-says : (n tag : ℕ) (behind word tail : List ℕ) (run : model.Run) → ((more : List ℕ) → tagged tag (behind ++ more) ≡ Ok (word, more)) → ((more : List ℕ) → run_at n tag (tail ++ more) ≡ Ok (run, more))
    → (more : List ℕ) → group_at n (tag ∷ (behind ++ (tail ++ more))) ≡ Ok (from_le_bytes w64 word, run, more)
unfolding tagged
group-says n tag behind word tail run word_read run_read more =
    ok_then (spread 8 tag (behind ++ (tail ++ more))) (tagged_run n tag) (word, tail ++ more) _ (word_read (tail ++ more))
    (ok_then (run_at n tag (tail ++ more)) (counted_run word) (run, more) _ (run_read more) refl)

pub run-next : (n t : ℕ) → t ≢ 0 → t ≢ 255 → (more : List ℕ) → run_at n t ([] ++ more) ≡ Ok (model.next, more)
run-next n t some full more = let a = ne_eqb t 0 some in let b = ne_eqb t 255 full in rw (a, b) refl

counted-ok : (n k : ℕ) (run : ℕ → model.Run) (more : List ℕ) → k ≤ n → model.counted n run (k ∷ more) ≡ Ok (run k, more)
counted-ok n k run more within = guard_then (leb k n) PackedInputDidNotEndCleanlyOnASegmentBoundary (Ok (run k, more)) (Ok (run k, more)) (le-leb k n within) refl

pub run-zeros : (n t k : ℕ) → t ≡ 0 → k ≤ n → (more : List ℕ) → run_at n t (k ∷ [] ++ more) ≡ Ok (model.zeros k, more)
run-zeros n t k is within more = rw is (counted-ok n k model.zeros more within)

pub run-verbatim : (n t k : ℕ) → t ≡ 255 → k ≤ n → (more : List ℕ) → run_at n t (k ∷ [] ++ more) ≡ Ok (model.verbatim k, more)
run-verbatim n t k is within more = rw is (counted-ok n k model.verbatim more within)

pub early-zeros : (n t : ℕ) → t ≡ 0 → EndsEarly (run_at n t [])
early-zeros n t is = rw is tt

pub early-verbatim : (n t : ℕ) → t ≡ 255 → EndsEarly (run_at n t [])
early-verbatim n t is = rw is tt

-- the eight bytes behind the first
abbrev pub behind_tag : List ℕ → List ℕ
behind_tag bytes = get_or bytes 1 0 ∷ get_or bytes 2 0 ∷ get_or bytes 3 0 ∷ get_or bytes 4 0 ∷ get_or bytes 5 0 ∷ get_or bytes 6 0 ∷ get_or bytes 7 0 ∷ get_or bytes 8 0 ∷ []

eight-behind : (bytes : List ℕ) → length bytes ≡ 10 → take 8 (drop 1 bytes) ≡ behind_tag bytes
eight-behind bytes ten = ap (λ (l : List ℕ). take 8 (drop 1 l)) (sym (pick_l_whole 0 bytes 10 ten))

front-of_group : (bytes : List ℕ) (m : ℕ) → length bytes ≡ 10 → m ≤ 8 → take (1 + m) bytes ≡ get_or bytes 0 0 ∷ take m (behind_tag bytes)
front-of_group bytes m ten most =
    let one : 1 + m ≡ suc m = omega arith in
    ap (take (1 + m)) (sym (pick_l_whole 0 bytes 10 ten)) ∙ ap (λ (k : ℕ). take k (get_or bytes 0 0 ∷ (behind_tag bytes ++ (get_or bytes 9 0 ∷ [])))) one
    ∙ ap (λ (l : List ℕ). get_or bytes 0 0 ∷ l) (take-append-le m (behind_tag bytes) (get_or bytes 9 0 ∷ []) (omega arith))

-- ---- bytes of a group are needed

early-spread : (k t : ℕ) (bytes : List ℕ) (m : ℕ) → m < marks k t → EndsEarly (spread k t (take m bytes))
unfolding marks
early-spread zero t bytes m h = absurd (omega arith)
early-spread (suc k) t bytes m h = by (t % 2) (mod-lt t (omega arith)) m bytes h (λ b l g. early-spread k (t / 2) b l g)
  where
    by : (d : ℕ) → d < 2 → (m : ℕ) (bytes : List ℕ) → m < d + marks k (t / 2) → ((b : List ℕ) (l : ℕ) → l < marks k (t / 2) → EndsEarly (spread k (t / 2) (take l b)))
        → EndsEarly {A = List ℕ × List ℕ} (model.byte_at d (take m bytes) and_then λ b. spread k (t / 2) b.1 and_then λ bs. Ok (b.0 ∷ bs.0, bs.1))
    by zero two m bytes h more = early-then (spread k (t / 2) (take m bytes)) _ (more bytes m (omega arith))
    by (suc zero) two zero bytes h more = tt
    by (suc zero) two (suc m) [] h more = tt
    by (suc zero) two (suc m) (b ∷ bytes) h more = early-then (spread k (t / 2) (take m bytes)) _ (more bytes m (omega arith))
    by (suc (suc d)) two m bytes h more = absurd (omega arith)

tagged-needed : (t : ℕ) (bytes : List ℕ) → EachIsNeeded (tagged t) (take (marks 8 t) bytes)
unfolding tagged
tagged-needed t bytes n below =
    let same : take n (take (marks 8 t) bytes) ≡ take n bytes = take-take n (marks 8 t) bytes (omega (arith, below, length-take-short (marks 8 t) bytes)) in
    early-same _ _ (ap (spread 8 t) same) (early-spread 8 t bytes n (omega (arith, below, length-take-short (marks 8 t) bytes)))

group-needed : (n tag : ℕ) (marked word tail : List ℕ) → ((more : List ℕ) → tagged tag (marked ++ more) ≡ Ok (word, more)) → EachIsNeeded (tagged tag) marked → EachIsNeeded (run_at n tag) tail → EachIsNeeded (group_at n) (tag ∷ (marked ++ tail))
unfolding tagged
group-needed n tag marked word tail read first second zero below = tt
group-needed n tag marked word tail read first second (suc k) below =
    let both = needed-joined (λ b. tagged tag b and_then tagged_run n tag) (run_at n tag) marked tail
    (λ more h. early-same _ _ (ok_then (tagged tag (marked ++ more)) (tagged_run n tag) (word, more) _ (read more) refl) (early-then (run_at n tag more) (counted_run word) h))
    (λ j l. early-then (tagged tag (take j marked)) (tagged_run n tag) (first j l)) second in
    both k (omega arith)

-- a group whose parts were worked out
module _ (n : ℕ) (bytes : List ℕ) (tag : ℕ) (word : List ℕ) (m : ℕ) (ten : length bytes ≡ 10) (here : tag ≡ get_or bytes 0 0) (count : m ≡ marks 8 tag) (most : m ≤ 8)
    (spelled : (more : List ℕ) → tagged tag (take (marks 8 tag) (behind_tag bytes) ++ more) ≡ Ok (word, more)) where
  head-by : (tail : List ℕ) (run : Run) (len : ℕ) → take len bytes ≡ take (1 + m) bytes ++ tail → len ≤ 10 → ((more : List ℕ) → run_at n (tag) (tail ++ more) ≡ Ok (run_view run, more)) → EachIsNeeded (run_at n (tag)) tail
      → IsPackedGroup n bytes len word run
  head-by tail run len cut within read needed = record {
    within = omega arith;
    needed =
        let marked = take (marks 8 tag) (behind_tag bytes) in
        let front : take len bytes ≡ tag ∷ (marked ++ tail) = cut ∙ ap (λ (l : List ℕ). l ++ tail) (front-of_group bytes m ten most ∙ ap (λ (t : ℕ). t ∷ take m (behind_tag bytes)) (sym here) ∙ ap (λ (k : ℕ). tag ∷ take k (behind_tag bytes)) count) in
        subst (λ (l : List ℕ). EachIsNeeded (group_at n) l) (sym front) (group-needed n tag marked word tail spelled (tagged-needed tag (behind_tag bytes)) needed);
    says = λ more.
        let marked = take (marks 8 tag) (behind_tag bytes) in
        let front : take len bytes ≡ tag ∷ (marked ++ tail) = cut ∙ ap (λ (l : List ℕ). l ++ tail) (front-of_group bytes m ten most ∙ ap (λ (t : ℕ). t ∷ take m (behind_tag bytes)) (sym here) ∙ ap (λ (k : ℕ). tag ∷ take k (behind_tag bytes)) count) in
        ap (λ (l : List ℕ). group_at n (l ++ more)) front ∙ ap (λ (l : List ℕ). group_at n (tag ∷ l)) (append_assoc marked tail more) ∙ group-says n tag marked word tail (run_view run) spelled read more;
  }

  pub head-next : tag ≢ 0 → tag ≢ 255 → IsPackedGroup n bytes (1 + m) word Next
  head-next some full = head-by [] Next (1 + m) (sym (append-nil (take (1 + m) bytes))) (omega arith) (run-next n (tag) some full) (none-needed (run_at n (tag)))

  pub head-counted : (run : Run) → get_or bytes (1 + m) 0 ≤ n → ((more : List ℕ) → run_at n (tag) (get_or bytes (1 + m) 0 ∷ [] ++ more) ≡ Ok (run_view run, more)) → EndsEarly (run_at n (tag) [])
      → IsPackedGroup n bytes (1 + m + 1) word run
  head-counted run within read early = head-by (get_or bytes (1 + m) 0 ∷ []) run (1 + m + 1) (take_more bytes (1 + m) 0 (omega arith)) (omega arith) read (byte-needed (run_at n (tag)) (get_or bytes (1 + m) 0) early)

-- ---- a group at the front of more bytes

module _ (shown : List ℕ) (long : 10 ≤ length shown) where
  ten : length (take 10 shown) ≡ 10
  ten = length-take-le 10 shown long

  -- the eight bytes behind the tag
  pub behind-shown : take 8 (drop 1 shown) ≡ behind_tag (take 10 shown)
  behind-shown =
      let front : drop 1 shown ≡ drop 1 (take 10 shown) ++ drop 10 shown = ap (drop 1) (sym (take-append-drop 10 shown)) ∙ drop-append-le 1 (take 10 shown) (drop 10 shown) (omega (arith, ten)) in
      ap (take 8) front ∙ take-append-le 8 (drop 1 (take 10 shown)) (drop 10 shown) (omega (arith, ten, length-drop 1 (take 10 shown))) ∙ eight-behind (take 10 shown) ten

  pub behind-front : take 8 (drop 1 (take 10 shown)) ≡ take 8 (drop 1 shown)
  behind-front = eight-behind (take 10 shown) ten ∙ sym behind-shown

  -- one of the ten bytes
  pub byte-shown : (k : ℕ) → k < 10 → get_or (take 10 shown) k 0 ≡ get_or shown k 0
  byte-shown k below = sym (get_or_append_left (take 10 shown) (drop 10 shown) 0 k (omega (arith, ten))) ∙ ap (λ (l : List ℕ). get_or l k 0) (take-append-drop 10 shown)

  module _ (n tag : ℕ) (word : List ℕ) (here : tag ≡ get_or shown 0 0) (spelled : (more : List ℕ) → tagged tag (take (marks 8 tag) (take 8 (drop 1 shown)) ++ more) ≡ Ok (word, more)) where
    at-front : tag ≡ get_or (take 10 shown) 0 0
    at-front = here ∙ sym (byte-shown 0 (omega arith))

    spelled-front : (more : List ℕ) → tagged tag (take (marks 8 tag) (behind_tag (take 10 shown)) ++ more) ≡ Ok (word, more)
    spelled-front = subst (λ (l : List ℕ). (more : List ℕ) → tagged tag (take (marks 8 tag) l ++ more) ≡ Ok (word, more)) behind-shown spelled

    pub shown-next : (m : ℕ) → m ≡ marks 8 tag → m ≤ 8 → tag ≢ 0 → tag ≢ 255 → IsPackedGroup n (take 10 shown) (1 + m) word Next
    shown-next m count most some full = head-next n (take 10 shown) tag word m ten at-front count most spelled-front some full

    pub shown-zeros : (k : ℕ) → tag ≡ 0 → k ≡ get_or shown 1 0 → k ≤ n → IsPackedGroup n (take 10 shown) 2 word (Zeros k)
    unfolding marks
    shown-zeros k is count within =
        let same : get_or (take 10 shown) 1 0 ≡ k = byte-shown 1 (omega arith) ∙ sym count in
        let none : 0 ≡ marks 8 tag = sym (ap (marks 8) is) in
        subst (λ (j : ℕ). IsPackedGroup n (take 10 shown) 2 word (Zeros j)) same
        (head-counted n (take 10 shown) tag word 0 ten at-front none (omega arith) spelled-front (Zeros (get_or (take 10 shown) 1 0)) (omega (arith, same)) (run-zeros n tag (get_or (take 10 shown) 1 0) is (omega (arith, same))) (early-zeros n tag is))

    pub shown-words : (k : ℕ) → tag ≡ 255 → k ≡ get_or shown 9 0 → k ≤ n → IsPackedGroup n (take 10 shown) 10 word (Verbatim k)
    unfolding marks
    shown-words k is count within =
        let same : get_or (take 10 shown) 9 0 ≡ k = byte-shown 9 (omega arith) ∙ sym count in
        let all : 8 ≡ marks 8 tag = sym (ap (marks 8) is) in
        subst (λ (j : ℕ). IsPackedGroup n (take 10 shown) 10 word (Verbatim j)) same
        (head-counted n (take 10 shown) tag word 8 ten at-front all (omega arith) spelled-front (Verbatim (get_or (take 10 shown) 9 0)) (omega (arith, same)) (run-verbatim n tag (get_or (take 10 shown) 9 0) is (omega (arith, same))) (early-verbatim n tag is))

-- the byte behind a group without a count
pub behind-at : (bytes : List ℕ) (b m k : ℕ) → length bytes ≡ 10 → k < 8 → m ≡ k → b ≡ get_or (behind_tag bytes) k 0 → b ≡ get_or bytes (1 + m) 0
behind-at bytes b m k ten below same at = at ∙ by k below ∙ ap (λ (n : ℕ). get_or bytes n 0) (omega arith)
  where
    by : (k : ℕ) → k < 8 → get_or (behind_tag bytes) k 0 ≡ get_or bytes (1 + k) 0
    by zero below = refl
    by (suc zero) below = refl
    by (suc (suc zero)) below = refl
    by (suc (suc (suc zero))) below = refl
    by (suc (suc (suc (suc zero)))) below = refl
    by (suc (suc (suc (suc (suc zero))))) below = refl
    by (suc (suc (suc (suc (suc (suc zero)))))) below = refl
    by (suc (suc (suc (suc (suc (suc (suc zero))))))) below = refl
    by (suc (suc (suc (suc (suc (suc (suc (suc k)))))))) below = absurd (omega arith)

-- the byte behind a group without a count, of the bytes that are shown
pub next-shown : (shown : List ℕ) (b tag m : ℕ) → 10 ≤ length shown → marks 8 tag < 8 → m ≡ marks 8 tag → b ≡ get_or (take 8 (drop 1 shown)) (marks 8 tag) 0 → b ≡ get_or shown (1 + m) 0
next-shown shown b tag m long below same at =
    let front : b ≡ get_or (behind_tag (take 10 shown)) (marks 8 tag) 0 = at ∙ ap (λ (l : List ℕ). get_or l (marks 8 tag) 0) (behind-shown shown long) in
    behind-at (take 10 shown) b m (marks 8 tag) (length-take-le 10 shown long) below same front ∙ byte-shown shown long (1 + m) (omega arith)

-- a tag that marks all bytes leaves them as they are
front_of : Result (List ℕ × List ℕ) Kind → List ℕ
front_of (Ok x) = x.0
front_of (Err k) = []

all-marked : (b : List ℕ) → length b ≡ 8 → tagged 255 (take (marks 8 255) b ++ []) ≡ Ok (b, [])
unfolding tagged marks
all-marked (b0 ∷ b1 ∷ b2 ∷ b3 ∷ b4 ∷ b5 ∷ b6 ∷ b7 ∷ []) e = refl
all-marked (b0 ∷ b1 ∷ b2 ∷ b3 ∷ b4 ∷ b5 ∷ b6 ∷ b7 ∷ b8 ∷ b) e = absurd (omega arith)
all-marked [] e = absurd (omega arith)
all-marked (b0 ∷ []) e = absurd (omega arith)
all-marked (b0 ∷ b1 ∷ []) e = absurd (omega arith)
all-marked (b0 ∷ b1 ∷ b2 ∷ []) e = absurd (omega arith)
all-marked (b0 ∷ b1 ∷ b2 ∷ b3 ∷ []) e = absurd (omega arith)
all-marked (b0 ∷ b1 ∷ b2 ∷ b3 ∷ b4 ∷ []) e = absurd (omega arith)
all-marked (b0 ∷ b1 ∷ b2 ∷ b3 ∷ b4 ∷ b5 ∷ []) e = absurd (omega arith)
all-marked (b0 ∷ b1 ∷ b2 ∷ b3 ∷ b4 ∷ b5 ∷ b6 ∷ []) e = absurd (omega arith)

pub full-word : (word shown : List ℕ) → 10 ≤ length shown → BeginsWithTag 255 word shown → take 8 (drop 1 shown) ≡ word
unfolding front_of
full-word word shown long group =
    let b = take 8 (drop 1 shown) in
    let eight : length b ≡ 8 = length-take-le 8 (drop 1 shown) (omega (arith, length-drop 1 shown)) in
    ap front_of (sym (all-marked b eight) ∙ group.spells [])
