-- Bytes that are shown, and the words that they spell.
use Rattle.std.proofs.Common.{◌≡◌, ◌≢◌, ℕ, zero, suc, ◌+◌, ◌-◌, ◌*◌, ◌/◌, ◌<◌, ◌≤◌, true, false, leb, List, [], ◌∷◌, ◌++◌, length, take, drop, get_or, replicate, Result, Ok, Err, refl, sym, ap, subst, ◌∙◌, append_assoc, arith, take_at, drop_at, take-append-drop, length-append, length-drop, length-take-le, drop-drop}
use Rattle.std.specs.Int.{w64, from_le_bytes}
use Rattle.std.proofs.lemmas.Bool.{le-leb}
use Rattle.std.proofs.lemmas.List.{take-append-le, drop-append-le, take_all, get_or-drop, drop-take}
use Rattle.capnp_model.specs.Kinds.{Kind}
use Rattle.capnp_model.specs.Chains.{◌and_then◌}
use Rattle.capnp_model.specs.Bytes.{words_in_bytes, taken}
use Rattle.capnp_model.specs.Packing as model
use Rattle.capnp_model.specs.Packing.{spread, run_at, group_at, with_word, unpacked_from}
use Rattle.capnp_model.proofs.lemmas.Chaining.{ok_then}
use Rattle.capnp_stream.proofs.lemmas.WordLemmas.{from_le_bytes-take, words_in_bytes-take}
use lib.Seq.{take-add}
use Rattle.capnp_model.proofs.lemmas.WordsInBytes.{words_in_bytes-zeros, words_in_bytes-drop}
use Rattle.capnp_model.proofs.lemmas.Lists.{length-take-short}
use Rattle.capnp_stream_packed.specs.Parts.{with_front}
use Rattle.capnp_stream_packed.specs.Tags.{marks}
use Rattle.capnp_stream_packed.specs.Runs.{run_view, IsOver}
use Rattle.capnp_stream_packed.specs.Steps.{BeginsWithTag, IsFirst, IsPackedGroup, SpellsWords, Unpacks}
use Rattle.capnp_stream_packed.specs.declared.runs.Run.{Run}
use Rattle.capnp_stream_packed.specs.declared.runs.Run.TheVariants.{First, Next, Zeros, Verbatim}
use Rattle.capnp_stream_packed.specs.declared.shown.Step.{Step}
use Rattle.capnp_stream.specs.Pieces.{EndsEarly, EachIsNeeded}
use Rattle.capnp_stream.proofs.lemmas.EarlyLemmas.{early-same, early-then, none-needed, needed-joined}
use Rattle.capnp_stream_packed.proofs.PartLemmas.{early-front, with_front-nil, with_front-more}
use Rattle.capnp_stream_packed.proofs.HeadLemmas.{shown-next, shown-zeros, shown-words}

-- ---- bytes that are too few

taken-short : (bytes : List ℕ) → length bytes < 8 → EndsEarly (taken 8 bytes)
taken-short bytes h = let few : leb 8 (length bytes) ≡ false = not-leb 8 (length bytes) h in rw few tt
  where
    not-leb : (a b : ℕ) → b < a → leb a b ≡ false
    not-leb a b h = grind arith

taken-eight : (bytes more : List ℕ) → length bytes ≡ 8 → taken 8 (bytes ++ more) ≡ Ok (bytes, more)
taken-eight bytes more eight =
    let enough : leb 8 (length (bytes ++ more)) ≡ true = le-leb 8 (length (bytes ++ more)) (omega (arith, length-append bytes more)) in
    rw enough (ap (λ (l : List ℕ). Ok (l, drop 8 (bytes ++ more))) (take_at bytes more 8 eight) ∙ ap (λ (l : List ℕ). Ok (bytes, l)) (drop_at bytes more 8 eight))

-- ---- one behind the other

with_front-word : (w : ℕ) (ws : List ℕ) (r : Result (List ℕ × List ℕ) Kind) → with_word w (with_front ws r) ≡ with_front (w ∷ ws) r
with_front-word w ws (Ok x) = refl
with_front-word w ws (Err k) = refl

pub Spells-none : (n : ℕ) (run : model.Run) → SpellsWords n run [] [] n run
Spells-none n run = record { says = λ more. sym (with_front-nil (unpacked_from n run more)); needed = none-needed (unpacked_from n run) }

-- nothing was unpacked
pub unpacks-nothing : (run : Run) (shown buf : List ℕ) → Unpacks run shown buf (record { taken = 0; filled = 0; run = run })
unpacks-nothing run shown buf =
    let all : length buf / 8 ≡ (length buf - 0) / 8 = omega arith in
    record {
      within = omega arith;
      fits = omega arith;
      whole = omega arith;
      spells = subst (λ n. SpellsWords (length buf / 8) (run_view run) [] [] n (run_view run)) all (Spells-none (length buf / 8) (run_view run));
    }

-- what is at the front of a buffer is at that of another of the same length
pub unpacks-in : (run : Run) (shown buf after : List ℕ) (step : Step) → length after ≡ length buf → take step.filled after ≡ take step.filled buf → Unpacks run shown buf step → Unpacks run shown after step
unpacks-in run shown buf after step same front unpacked = record {
  within = unpacked.within;
  fits = omega (arith, same, unpacked.fits);
  whole = unpacked.whole;
  spells = rw (same, front) unpacked.spells;
}

Spells-trans : (n m l : ℕ) (r s t : model.Run) (p q xs ys : List ℕ) → SpellsWords n r p xs m s → SpellsWords m s q ys l t → SpellsWords n r (p ++ q) (xs ++ ys) l t
Spells-trans n m l r s t p q xs ys first then_more = record {
  says = λ more. ap (unpacked_from n r) (append_assoc p q more) ∙ first.says (q ++ more) ∙ ap (with_front xs) (then_more.says more) ∙ with_front-more xs ys (unpacked_from l t more);
  needed = needed-joined (unpacked_from n r) (unpacked_from m s) p q (λ more h. early-same _ _ (first.says more) (early-front xs (unpacked_from m s more) h)) first.needed then_more.needed;
}

Spells-zeros : (j n k : ℕ) → SpellsWords (j + n) (model.zeros (j + k)) [] (replicate j 0) n (model.zeros k)
unfolding unpacked_from
Spells-zeros zero n k = let a : 0 + n ≡ n = omega arith in let b : 0 + k ≡ k = omega arith in rw (a, b) (Spells-none n (model.zeros k))
Spells-zeros (suc j) n k =
    let a : suc j + n ≡ suc (j + n) = omega arith in
    let b : suc j + k ≡ suc (j + k) = omega arith in
    let rest = Spells-zeros j n k in
    rw (a, b) (record { says = λ more. ap (with_word 0) (rest.says more) ∙ with_front-word 0 (replicate j 0) (unpacked_from n (model.zeros k) more); needed = λ i below. absurd (omega arith) })

taken-front : (bytes more : List ℕ) → 8 ≤ length bytes → taken 8 (bytes ++ more) ≡ Ok (take 8 bytes, drop 8 bytes ++ more)
taken-front bytes more long =
    let enough : leb 8 (length (bytes ++ more)) ≡ true = le-leb 8 (length (bytes ++ more)) (omega (arith, length-append bytes more)) in
    rw enough (ap (λ (l : List ℕ). Ok (l, drop 8 (bytes ++ more))) (take-append-le 8 bytes more long) ∙ ap (λ (l : List ℕ). Ok (take 8 bytes, l)) (drop-append-le 8 bytes more long))

abbrev verbatim_on : ℕ → ℕ → List ℕ × List ℕ → Result (List ℕ × List ℕ) Kind
verbatim_on n k w = with_word (from_le_bytes w64 w.0) (unpacked_from n (model.verbatim k) w.1)

-- the next word of a verbatim run
abbrev verbatim_rule : ℕ → ℕ → List ℕ → Result (List ℕ × List ℕ) Kind
verbatim_rule n k bytes = taken 8 bytes and_then verbatim_on n k

early-word : (w : ℕ) (r : Result (List ℕ × List ℕ) Kind) → EndsEarly r → EndsEarly (with_word w r)
early-word w (Ok x) h = absurd h
early-word w (Err k) h = h

verbatim-early : (n k : ℕ) (bytes : List ℕ) → 8 ≤ length bytes → (more : List ℕ) → EndsEarly (unpacked_from n (model.verbatim k) more) → EndsEarly (verbatim_rule n k (take 8 bytes ++ more))
verbatim-early n k bytes long more h =
    let eight : length (take 8 bytes) ≡ 8 = length-take-le 8 bytes long in
    let front : taken 8 (take 8 bytes ++ more) ≡ Ok (take 8 bytes, more) = taken-eight (take 8 bytes) more eight in
    early-same _ _ (ok_then (taken 8 (take 8 bytes ++ more)) (verbatim_on n k) (take 8 bytes, more) _ front refl) (early-word (from_le_bytes w64 (take 8 bytes)) (unpacked_from n (model.verbatim k) more) h)

verbatim-needed : (n k : ℕ) (bytes : List ℕ) → EachIsNeeded (verbatim_rule n k) (take 8 bytes)
verbatim-needed n k bytes i below =
    let short : length (take i (take 8 bytes)) < 8 = omega (arith, below, length-take-short 8 bytes, length-take-short i (take 8 bytes)) in
    early-then (taken 8 (take i (take 8 bytes))) (verbatim_on n k) (taken-short (take i (take 8 bytes)) short)

Spells-verbatim : (j n k : ℕ) (bytes : List ℕ) → length bytes ≡ 8 * j → SpellsWords (j + n) (model.verbatim (j + k)) bytes (words_in_bytes j bytes) n (model.verbatim k)
unfolding unpacked_from
Spells-verbatim zero n k [] long = let a : 0 + n ≡ n = omega arith in let b : 0 + k ≡ k = omega arith in rw (a, b) (Spells-none n (model.verbatim k))
Spells-verbatim zero n k (x ∷ bytes) long = absurd (omega arith)
Spells-verbatim (suc j) n k bytes long =
    let a : suc j + n ≡ suc (j + n) = omega arith in
    let b : suc j + k ≡ suc (j + k) = omega arith in
    let word = from_le_bytes w64 (take 8 bytes) in
    let rest = Spells-verbatim j n k (drop 8 bytes) (omega (arith, length-drop 8 bytes)) in
    rw (a, b) (record {
      says = λ more.
          ok_then (taken 8 (bytes ++ more)) (verbatim_on (j + n) (j + k)) (take 8 bytes, drop 8 bytes ++ more) _ (taken-front bytes more (omega arith))
          (ap (with_word word) (rest.says more) ∙ with_front-word word (words_in_bytes j (drop 8 bytes)) (unpacked_from n (model.verbatim k) more)
          ∙ ap (λ (w : ℕ). with_front (w ∷ words_in_bytes j (drop 8 bytes)) (unpacked_from n (model.verbatim k) more)) (from_le_bytes-take 8 bytes (omega arith) (omega arith)));
      needed = subst (λ (l : List ℕ). EachIsNeeded (verbatim_rule (j + n) (j + k)) l) (take-append-drop 8 bytes)
          (needed-joined (verbatim_rule (j + n) (j + k)) (unpacked_from (j + n) (model.verbatim (j + k))) (take 8 bytes) (drop 8 bytes) (verbatim-early (j + n) (j + k) bytes (omega arith)) (verbatim-needed (j + n) (j + k) bytes) rest.needed);
    })

-- ---- what was unpacked

Spells-as : (n n' m m' : ℕ) (r r' s s' : model.Run) (p p' xs xs' : List ℕ) → n ≡ n' → m ≡ m' → r ≡ r' → s ≡ s' → p ≡ p' → xs ≡ xs' → SpellsWords n r p xs m s → SpellsWords n' r' p' xs' m' s'
Spells-as n n' m m' r r' s s' p p' xs xs' en em er es ep ex h = rw (← en, ← em, ← er, ← es, ← ep, ← ex) h

module _ (count w : ℕ) (shown buf : List ℕ) (few : w ≤ count) (room : 8 * w ≤ length buf) where
  rest_words : ℕ
  rest_words = (length buf - 8 * w) / 8

  all_words : w + rest_words ≡ length buf / 8
  unfolding rest_words
  all_words = omega arith

  eighth : w ≡ 8 * w / 8
  eighth = omega arith

  counts : w + (count - w) ≡ count
  counts = omega arith

  pub unpacks-zeros : take (8 * w) buf ≡ replicate (8 * w) 0 → Unpacks (Zeros count) shown buf (record { taken = 0; filled = 8 * w; run = Zeros (count - w) })
  unfolding rest_words
  unpacks-zeros cleared = record {
    within = omega arith;
    fits = room;
    whole = omega arith;
    spells = Spells-as _ _ _ _ _ _ _ _ _ _ _ _ all_words refl (ap model.zeros counts) refl refl (sym (words_in_bytes-zeros w) ∙ ap (λ (l : List ℕ). words_in_bytes w l) (sym cleared) ∙ ap (λ (j : ℕ). words_in_bytes j (take (8 * w) buf)) eighth)
        (Spells-zeros w rest_words (count - w));
  }

  pub unpacks-verbatim : 8 * w ≤ length shown → take (8 * w) buf ≡ take (8 * w) shown → Unpacks (Verbatim count) shown buf (record { taken = 8 * w; filled = 8 * w; run = Verbatim (count - w) })
  unfolding rest_words
  unpacks-verbatim here copied = record {
    within = here;
    fits = room;
    whole = omega arith;
    spells = Spells-as _ _ _ _ _ _ _ _ _ _ _ _ all_words refl (ap model.verbatim counts) refl refl (ap (λ (l : List ℕ). words_in_bytes w l) (sym copied) ∙ ap (λ (j : ℕ). words_in_bytes j (take (8 * w) buf)) eighth)
        (Spells-verbatim w rest_words (count - w) (take (8 * w) shown) (length-take-le (8 * w) shown here));
  }

abbrev word_of_group : ℕ → ℕ × model.Run × List ℕ → Result (List ℕ × List ℕ) Kind
word_of_group n g = with_word g.0 (unpacked_from n g.1 g.2)

over-group : (n : ℕ) (run : Run) → IsOver run → (bytes : List ℕ) (g : ℕ × model.Run × List ℕ) → group_at n bytes ≡ Ok g → unpacked_from (suc n) (run_view run) bytes ≡ word_of_group n g
unfolding unpacked_from
over-group n First over [] g e = absurd cc
over-group n First over (t ∷ bytes) g e = ok_then (group_at n (t ∷ bytes)) (word_of_group n) g _ e refl
over-group n Next over [] g e = absurd cc
over-group n Next over (t ∷ bytes) g e = ok_then (group_at n (t ∷ bytes)) (word_of_group n) g _ e refl
over-group n (Zeros zero) over [] g e = absurd cc
over-group n (Zeros zero) over (t ∷ bytes) g e = ok_then (group_at n (t ∷ bytes)) (word_of_group n) g _ e refl
over-group n (Zeros (suc k)) over bytes g e = absurd (omega arith)
over-group n (Verbatim zero) over [] g e = absurd cc
over-group n (Verbatim zero) over (t ∷ bytes) g e = ok_then (group_at n (t ∷ bytes)) (word_of_group n) g _ e refl
over-group n (Verbatim (suc k)) over bytes g e = absurd (omega arith)

early-started : (n : ℕ) (run : model.Run) (bytes : List ℕ) → EndsEarly (group_at n bytes) → EndsEarly (model.started run bytes and_then λ _. group_at n bytes and_then word_of_group n)
early-started n model.first [] h = tt
early-started n model.first (t ∷ bytes) h = early-then (group_at n (t ∷ bytes)) (word_of_group n) h
early-started n model.next bytes h = early-then (group_at n bytes) (word_of_group n) h
early-started n (model.zeros k) bytes h = early-then (group_at n bytes) (word_of_group n) h
early-started n (model.verbatim k) bytes h = early-then (group_at n bytes) (word_of_group n) h

over-early : (n : ℕ) (run : Run) → IsOver run → (bytes : List ℕ) → EndsEarly (group_at n bytes) → EndsEarly (unpacked_from (suc n) (run_view run) bytes)
unfolding unpacked_from
over-early n First over bytes h = early-started n model.first bytes h
over-early n Next over bytes h = early-started n model.next bytes h
over-early n (Zeros zero) over bytes h = early-started n (model.zeros zero) bytes h
over-early n (Zeros (suc k)) over bytes h = absurd (omega arith)
over-early n (Verbatim zero) over bytes h = early-started n (model.verbatim zero) bytes h
over-early n (Verbatim (suc k)) over bytes h = absurd (omega arith)

pub one-word : (w : ℕ) (r : Result (List ℕ × List ℕ) Kind) → with_word w r ≡ with_front (w ∷ []) r
one-word w (Ok x) = refl
one-word w (Err k) = refl

unpacks-group : (run : Run) → IsOver run → (shown buf word : List ℕ) (len n : ℕ) (behind : Run) → 10 ≤ length shown → n ≡ length buf / 8 - 1 → 8 ≤ length buf → IsPackedGroup n (take 10 shown) len word behind → take 8 buf ≡ word
    → Unpacks run shown buf (record { taken = len; filled = 8; run = behind })
unpacks-group run over shown buf word len n behind long left room is front =
    let ten : length (take 10 shown) ≡ 10 = length-take-le 10 shown long in
    let cut : take len (take 10 shown) ≡ take len shown = sym (take-append-le len (take 10 shown) (drop 10 shown) is.within) ∙ ap (take len) (take-append-drop 10 shown) in
    let made : SpellsWords (suc n) (run_view run) (take len (take 10 shown)) (from_le_bytes w64 word ∷ []) n (run_view behind) = record {
      says = λ more. over-group n run over (take len (take 10 shown) ++ more) (from_le_bytes w64 word, run_view behind, more) (is.says more) ∙ one-word (from_le_bytes w64 word) (unpacked_from n (run_view behind) more);
      needed = λ i below. over-early n run over (take i (take len (take 10 shown))) (is.needed i below);
    } in
    record {
      within = omega (arith, is.within, ten);
      fits = room;
      whole = omega arith;
      spells = Spells-as _ _ _ _ _ _ _ _ _ _ _ _ (omega arith) (omega arith) refl refl cut (ap (λ (l : List ℕ). from_le_bytes w64 l ∷ []) (sym front)) made;
    }

pub words-append : (j k : ℕ) (a b : List ℕ) → length a ≡ 8 * j → length b ≡ 8 * k → words_in_bytes j a ++ words_in_bytes k b ≡ words_in_bytes (j + k) (a ++ b)
words-append j k a b wide behind =
    let all = a ++ b in
    let start : take j (words_in_bytes (j + k) all) ≡ words_in_bytes j a = words_in_bytes-take j k all (omega (arith, length-append a b)) ∙ ap (words_in_bytes j) (take_at a b (8 * j) wide) in
    let end : drop j (words_in_bytes (j + k) all) ≡ words_in_bytes k b = words_in_bytes-drop j k all ∙ ap (words_in_bytes k) (drop_at a b (8 * j) wide) in
    ap (λ (l : List ℕ). l ++ words_in_bytes k b) (sym start) ∙ ap (λ (l : List ℕ). take j (words_in_bytes (j + k) all) ++ l) (sym end) ∙ take-append-drop j (words_in_bytes (j + k) all)

-- the bytes behind the first n, as a slice has them
pub rest-of : (n : ℕ) (bytes : List ℕ) → take (length bytes - n) (drop n bytes) ≡ drop n bytes
rest-of n bytes = take_all (length bytes - n) (drop n bytes) (omega (arith, length-drop n bytes))

-- the byte behind what was taken, of the bytes behind what was taken before
pub first-behind : (shown : List ℕ) (m n b : ℕ) → IsFirst b (drop n (take (length shown - m) (drop m shown))) → IsFirst b (drop (m + n) shown)
first-behind shown m n b first = subst (IsFirst b) (ap (drop n) (rest-of m shown) ∙ drop-drop n m shown) first

-- what was unpacked, of a buffer whose front stands in another
pub Unpacks-front : (run : Run) (shown buf after : List ℕ) (s : Step) → length after ≡ length buf → take s.filled after ≡ take s.filled buf → Unpacks run shown buf s → Unpacks run shown after s
Unpacks-front run shown buf after s same front p = record {
  within = p.within;
  fits = omega (arith, p.fits);
  whole = p.whole;
  spells = Spells-as _ _ _ _ _ _ _ _ _ _ _ _ (ap (λ (n : ℕ). n / 8) (sym same)) (ap (λ (n : ℕ). (n - s.filled) / 8) (sym same)) refl refl refl (ap (words_in_bytes (s.filled / 8)) (sym front)) p.spells;
}

Unpacks-behind : (run : Run) (shown buf tail after : List ℕ) (s next : Step) → Unpacks run shown buf s → Unpacks s.run (drop s.taken shown) tail next → length tail ≡ length buf - s.filled → length after ≡ length buf
    → take (s.filled + next.filled) after ≡ take s.filled buf ++ take next.filled tail
    → Unpacks run shown after (record { taken = s.taken + next.taken; filled = s.filled + next.filled; run = next.run })
Unpacks-behind run shown buf tail after s next first second behind same joined =
    let a = s.filled / 8 in
    let b = next.filled / 8 in
    let size : length (drop s.taken shown) ≡ length shown - s.taken = length-drop s.taken shown in
    let wide : length (take s.filled buf) ≡ 8 * a = omega (arith, first.whole, length-take-le s.filled buf first.fits) in
    let more : length (take next.filled tail) ≡ 8 * b = omega (arith, second.whole, length-take-le next.filled tail second.fits) in
    let words : words_in_bytes a (take s.filled buf) ++ words_in_bytes b (take next.filled tail) ≡ words_in_bytes ((s.filled + next.filled) / 8) (take (s.filled + next.filled) after) =
    words-append a b (take s.filled buf) (take next.filled tail) wide more ∙ ap (words_in_bytes (a + b)) (sym joined) ∙ ap (λ (n : ℕ). words_in_bytes n (take (s.filled + next.filled) after)) (omega (arith, first.whole, second.whole)) in
    let mid : length tail / 8 ≡ (length buf - s.filled) / 8 = ap (λ (n : ℕ). n / 8) behind in
    let then_more = Spells-as _ _ _ _ _ _ _ _ _ _ _ _ mid refl refl refl refl refl second.spells in
    record {
      within = omega (arith, first.within, second.within, size);
      fits = omega (arith, first.fits, second.fits);
      whole = omega (arith, first.whole, second.whole);
      spells = Spells-as _ _ _ _ _ _ _ _ _ _ _ _ (ap (λ (n : ℕ). n / 8) (sym same)) (ap (λ (n : ℕ). n / 8) (omega arith)) refl refl (sym (take-add s.taken next.taken shown)) words
          (Spells-trans _ _ _ _ _ _ _ _ _ _ first.spells then_more);
    }

pub Unpacks-then : (run : Run) (shown buf tail after : List ℕ) (s next : Step) → Unpacks run shown buf s → Unpacks s.run (take (length shown - s.taken) (drop s.taken shown)) tail next → length tail ≡ length buf - s.filled → length after ≡ length buf
    → take (s.filled + next.filled) after ≡ take s.filled buf ++ take next.filled tail
    → Unpacks run shown after (record { taken = s.taken + next.taken; filled = s.filled + next.filled; run = next.run })
Unpacks-then run shown buf tail after s next first rest =
    Unpacks-behind run shown buf tail after s next first (subst (λ (l : List ℕ). Unpacks s.run l tail next) (rest-of s.taken shown) rest)

-- ---- whole groups with their whole runs

-- behind a run that is over a further group comes
over-next : (n : ℕ) (more : List ℕ) → unpacked_from n (model.verbatim 0) more ≡ unpacked_from n model.next more
unfolding unpacked_from
over-next zero more = refl
over-next (suc n) more = refl

over-zeros : (n : ℕ) (more : List ℕ) → unpacked_from n (model.zeros 0) more ≡ unpacked_from n model.next more
unfolding unpacked_from
over-zeros zero more = refl
over-zeros (suc n) more = refl

Spells-next : (n m : ℕ) (r s : model.Run) (p xs : List ℕ) → ((more : List ℕ) → unpacked_from m s more ≡ unpacked_from m model.next more) → SpellsWords n r p xs m s → SpellsWords n r p xs m model.next
Spells-next n m r s p xs same made = record { says = λ more. made.says more ∙ ap (with_front xs) (same more); needed = made.needed }

Unpacks-next : (run : Run) (shown buf : List ℕ) (taken filled : ℕ) (s : Run) → ((n : ℕ) (more : List ℕ) → unpacked_from n (run_view s) more ≡ unpacked_from n model.next more) → Unpacks run shown buf (record { taken = taken; filled = filled; run = s })
    → Unpacks run shown buf (record { taken = taken; filled = filled; run = Next })
Unpacks-next run shown buf taken filled s same p = record { within = p.within; fits = p.fits; whole = p.whole; spells = Spells-next _ _ _ _ _ _ (λ more. same ((length buf - filled) / 8) more) p.spells }

module _ (shown after word : List ℕ) (tag : ℕ) (long : 10 ≤ length shown) (room : 8 ≤ length after) (group : BeginsWithTag tag word shown) (front : take 8 after ≡ word) (run : Run) (over : IsOver run) where
  abbrev left_words : ℕ
  left_words = length after / 8 - 1

  joins : (k : ℕ) → take (8 + k) after ≡ take 8 after ++ take k (drop 8 after)
  joins k = take-add 8 k after

  pub plain-unpacks : (m : ℕ) → m ≡ marks 8 tag → m ≤ 8 → tag ≢ 0 → tag ≢ 255 → Unpacks run shown after (record { taken = 1 + m; filled = 8; run = Next })
  plain-unpacks m count most some full = unpacks-group run over shown after word (1 + m) left_words Next long refl room (shown-next shown long left_words tag word group.here group.spells m count most some full) front

  pub zeros-unpack : (k : ℕ) → tag ≡ 0 → k ≡ get_or shown 1 0 → 8 * k ≤ length after - 8 → take (8 * k) (drop 8 after) ≡ replicate (8 * k) 0 → Unpacks run shown after (record { taken = 2; filled = 8 + 8 * k; run = Next })
  zeros-unpack k is count fits cleared =
      let size : length (drop 8 after) ≡ length after - 8 = length-drop 8 after in
      let first = unpacks-group run over shown after word 2 left_words (Zeros k) long refl room (shown-zeros shown long left_words tag word group.here group.spells k is count (omega arith)) front in
      let second = unpacks-zeros k k (drop 2 shown) (drop 8 after) (omega arith) (omega (arith, size)) cleared in
      let none : k - k ≡ 0 = omega arith in
      let both = Unpacks-behind run shown after (drop 8 after) after (record { taken = 2; filled = 8; run = Zeros k }) _ first second size refl (joins (8 * k)) in
      Unpacks-next run shown after 2 (8 + 8 * k) (Zeros (k - k)) (λ n more. ap (λ (j : ℕ). unpacked_from n (model.zeros j) more) none ∙ over-zeros n more) both

  pub words-unpack : (k : ℕ) → tag ≡ 255 → k ≡ get_or shown 9 0 → 8 * k ≤ length after - 8 → 8 * k ≤ length shown - 10 → take (8 * k) (drop 8 after) ≡ take (8 * k) (drop 10 shown) → Unpacks run shown after (record { taken = 10 + 8 * k; filled = 8 + 8 * k; run = Next })
  words-unpack k is count fits whole copied =
      let size : length (drop 8 after) ≡ length after - 8 = length-drop 8 after in
      let more_size : length (drop 10 shown) ≡ length shown - 10 = length-drop 10 shown in
      let first = unpacks-group run over shown after word 10 left_words (Verbatim k) long refl room (shown-words shown long left_words tag word group.here group.spells k is count (omega arith)) front in
      let second = unpacks-verbatim k k (drop 10 shown) (drop 8 after) (omega arith) (omega (arith, size)) (omega (arith, more_size)) copied in
      let none : k - k ≡ 0 = omega arith in
      let both = Unpacks-behind run shown after (drop 8 after) after (record { taken = 10; filled = 8; run = Verbatim k }) _ first second size refl (joins (8 * k)) in
      Unpacks-next run shown after (10 + 8 * k) (8 + 8 * k) (Verbatim (k - k)) (λ n more. ap (λ (j : ℕ). unpacked_from n (model.verbatim j) more) none ∙ over-next n more) both

-- the byte at a place is the first of those behind it
pub first-at : (shown : List ℕ) (b n : ℕ) → b ≡ get_or shown n 0 → IsFirst b (drop n shown)
first-at shown b n at some = at ∙ ap (λ (k : ℕ). get_or shown k 0) (omega arith) ∙ sym (get_or-drop n shown 0 0)

-- the run behind the first groups, of which there may be none
abbrev pub then_run : ℕ → Run → Run
then_run zero run = run
then_run (suc n) run = Next

pub then-over : (n : ℕ) (run : Run) → IsOver run → IsOver (then_run n run)
then-over zero run over = over
then-over (suc n) run over = tt

pub then-some : (n : ℕ) (run : Run) → 0 < n → then_run n run ≡ Next
then-some zero run some = absurd (omega arith)
then-some (suc n) run some = refl

-- the run behind a word, of bytes that were copied from two before the word's place on
pub run-copied : (k : ℕ) (copied shown : List ℕ) → take (8 * k + 8) copied ≡ take (8 * k + 8) (drop 2 shown) → take (8 * k) (drop 8 copied) ≡ take (8 * k) (drop 10 shown)
run-copied k copied shown same =
    let turn : 8 * k + 8 ≡ 8 + 8 * k = omega arith in
    let both : take (8 + 8 * k) copied ≡ take (8 + 8 * k) (drop 2 shown) = rw turn at same in
    sym (drop-take 8 (8 * k) copied) ∙ ap (drop 8) both ∙ drop-take 8 (8 * k) (drop 2 shown) ∙ ap (take (8 * k)) (drop-drop 8 2 shown)

-- ---- one group behind the others

module _ (shown left new : List ℕ) (n : ℕ) (within : length left ≤ length shown) (rest : left ≡ drop (length shown - length left) shown) (here : n ≤ length left) (is : new ≡ drop n left) where
  new-size : length new ≡ length left - n
  new-size = ap length is ∙ length-drop n left

  new-place : length shown - length left + n ≡ length shown - length new
  new-place = omega (arith, new-size)

  pub left-within : length new ≤ length shown
  left-within = omega (arith, new-size)

  pub left-rest : new ≡ drop (length shown - length new) shown
  left-rest = is ∙ ap (drop n) rest ∙ drop-drop n (length shown - length left) shown ∙ ap (λ (k : ℕ). drop k shown) new-place

  pub groups-more : (run : Run) (filled more : ℕ) (buf tail after : List ℕ) → 0 < more → Unpacks run shown buf (record { taken = length shown - length left; filled = filled; run = then_run filled run })
      → Unpacks (then_run filled run) left tail (record { taken = n; filled = more; run = Next }) → length tail ≡ length buf - filled → length after ≡ length buf → take (filled + more) after ≡ take filled buf ++ take more tail
      → Unpacks run shown after (record { taken = length shown - length new; filled = filled + more; run = then_run (filled + more) run })
  groups-more run filled more buf tail after some first second behind same joined =
      let last : then_run (filled + more) run ≡ Next = then-some (filled + more) run (omega arith) in
      let next = subst (λ (l : List ℕ). Unpacks (then_run filled run) l tail (record { taken = n; filled = more; run = Next })) rest second in
      rw (last, ← new-place) (Unpacks-behind run shown buf tail after (record { taken = length shown - length left; filled = filled; run = then_run filled run }) (record { taken = n; filled = more; run = Next }) first next behind same joined)
