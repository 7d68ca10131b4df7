-- The words of a piece, one behind the other.
use Rattle.std.proofs.Common.{◌≡◌, ℕ, zero, suc, ◌+◌, ◌-◌, ◌*◌, ◌/◌, ◌%◌, ◌<◌, ◌≤◌, List, [], ◌++◌, length, take, Some, None, IfSome, Ok, refl, sym, ap, subst, ◌∙◌, append-nil, arith, length-take-le}
use Rattle.std.specs.declared.option.Option.{Option}
use Rattle.std.proofs.lemmas.List.{take_all}
use Rattle.std.specs.Io.KnownBytes.{Keeps}
use Rattle.std.proofs.KnownBytes.{Consumes-nil, Consumes-kept}
use Rattle.capnp_units.specs.declared.kinds.ErrorKind.{ErrorKind}
use Rattle.capnp_units.specs.declared.kinds.ErrorKind.TheVariants.{FailedToFillTheWholeBuffer, PrematureEndOfPackedInput, PackedInputDidNotEndCleanlyOnASegmentBoundary, Device}
use Rattle.capnp_model.specs.Bytes.{words_in_bytes}
use Rattle.capnp_model.specs.Packing as model
use Rattle.capnp_model.specs.Packing.{unpacked_from, unpacked}
use Rattle.capnp_stream.specs.Pieces.{EachIsNeeded, TakesPiece, TakesPieceStart}
use Rattle.capnp_stream.specs.Segments.{whole_words}
use Rattle.capnp_stream_io.specs.Streams.{ConsumesFewer}
use Rattle.capnp_stream_io.proofs.lemmas.KnownLemmas.{Consumes-of_kept}
use Rattle.capnp_stream.proofs.lemmas.EarlyLemmas.{none-needed}
use Rattle.capnp_stream.proofs.lemmas.WordLemmas.{whole_words-of_length}
use Rattle.capnp_model.proofs.lemmas.WordsInBytes.{words_in_bytes-length}
use Rattle.capnp_stream_packed.specs.Parts.{Rule, ContinuesWith, Takes, IsFault, Refuses, with_front}
use Rattle.capnp_stream_packed.specs.Streams.{IsUnpackingKind}
use Rattle.capnp_stream_packed.specs.Runs.{run_view}
use Rattle.capnp_stream_packed.specs.Steps.{Reads}
use Rattle.capnp_stream_packed.specs.declared.runs.Run.{Run}
use Rattle.capnp_stream_packed.specs.declared.shown.Step.{Step}
use Rattle.capnp_stream_packed.proofs.PartLemmas.{with_front-nil, with_front-more, Leads-by, Leads-trans, Leads-front, Refuses-behind, Refuses-front}
use Rattle.capnp_stream_packed.proofs.UnpackLemmas.{words-append}

pub piece-start : (n m : ℕ) (run : model.Run) (a : Option (List ℕ)) → n ≡ m → ContinuesWith (unpacked_from n run) a a (λ more. with_front [] (unpacked_from m run more))
piece-start n m run a e = Leads-by (unpacked_from n run) _ a (λ more. ap (λ (k : ℕ). unpacked_from k run more) e ∙ sym (with_front-nil (unpacked_from m run more)))

module _ (f : Rule (List ℕ)) (a b : Option (List ℕ)) (buf : List ℕ) (at : ℕ) (run : Run)
    (before : ContinuesWith f a b (λ more. with_front (words_in_bytes (at / 8) (take at buf)) (unpacked_from ((length buf - at) / 8) (run_view run) more)))
    (place : at % 8 ≡ 0) (whole : length buf % 8 ≡ 0) where
  module _ (below : at < length buf) (tail : List ℕ) (behind : length tail ≡ length buf - at) (c : Option (List ℕ)) where
    now : ContinuesWith f a b (λ more. with_front (words_in_bytes (at / 8) (take at buf)) (unpacked_from (length tail / 8) (run_view run) more))
    now = subst (λ (n : ℕ). ContinuesWith f a b (λ more. with_front (words_in_bytes (at / 8) (take at buf)) (unpacked_from (n / 8) (run_view run) more))) (sym behind) before

    pub piece-refused : (kind : ErrorKind) → Refuses (unpacked_from (length tail / 8) (run_view run)) b c kind → Refuses f a c kind
    piece-refused kind p =
        let front = words_in_bytes (at / 8) (take at buf) in
        Refuses-behind f (λ more. with_front front (unpacked_from (length tail / 8) (run_view run) more)) a b c kind now (Refuses-front front (unpacked_from (length tail / 8) (run_view run)) b c kind p)

    pub piece-more : (after : List ℕ) (step : Step) → Reads run b c tail step → length after ≡ length buf → take (at + step.filled) after ≡ take at buf ++ take step.filled tail
        → ContinuesWith f a c (λ more. with_front (words_in_bytes ((at + step.filled) / 8) (take (at + step.filled) after)) (unpacked_from ((length after - (at + step.filled)) / 8) (run_view step.run) more))
    piece-more after step p same grown =
        let j = at / 8 in
        let k = step.filled / 8 in
        let front = words_in_bytes j (take at buf) in
        let next = words_in_bytes k (take step.filled tail) in
        let size : length (take at buf) ≡ 8 * j = omega (arith, length-take-le at buf (omega arith)) in
        let more_size : length (take step.filled tail) ≡ 8 * k = omega (arith, p.whole, length-take-le step.filled tail p.fits) in
        let words : front ++ next ≡ words_in_bytes ((at + step.filled) / 8) (take (at + step.filled) after) =
        words-append j k (take at buf) (take step.filled tail) size more_size ∙ ap (words_in_bytes (j + k)) (sym grown) ∙ ap (λ (n : ℕ). words_in_bytes n (take (at + step.filled) after)) (omega (arith, p.whole)) in
        let rest : (length tail - step.filled) / 8 ≡ (length after - (at + step.filled)) / 8 = ap (λ (n : ℕ). n / 8) (omega (arith, p.fits)) in
        let following : Rule (List ℕ) = λ more. unpacked_from ((length tail - step.filled) / 8) (run_view step.run) more in
        let says : (more : List ℕ) → with_front front (with_front next (following more)) ≡ with_front (words_in_bytes ((at + step.filled) / 8) (take (at + step.filled) after)) (unpacked_from ((length after - (at + step.filled)) / 8) (run_view step.run) more) = λ more.
        with_front-more front next (following more) ∙ ap (λ (ws : List ℕ). with_front ws (following more)) words
        ∙ ap (λ (n : ℕ). with_front (words_in_bytes ((at + step.filled) / 8) (take (at + step.filled) after)) (unpacked_from n (run_view step.run) more)) rest in
        Leads-trans f _ _ a b c now (Leads-trans _ _ _ b c c (Leads-front front _ (λ more. with_front next (following more)) b c p.leads) (Leads-by _ _ c says))

  pub piece-end : at ≤ length buf → length buf ≤ at → Takes f a b (whole_words buf)
  unfolding unpacked_from
  piece-end inside done =
      let none : (length buf - at) / 8 ≡ 0 = omega arith in
      let every : take at buf ≡ buf = take_all at buf done in
      let words : words_in_bytes (at / 8) (take at buf) ≡ whole_words buf =
      ap (words_in_bytes (at / 8)) every ∙ sym (whole_words-of_length (at / 8) buf (omega (arith, ap length every, length-take-le at buf inside))) in
      let last : (more : List ℕ) → with_front (words_in_bytes (at / 8) (take at buf)) (unpacked_from ((length buf - at) / 8) (run_view run) more) ≡ Ok (whole_words buf, more) = λ more.
      ap (λ (k : ℕ). with_front (words_in_bytes (at / 8) (take at buf)) (unpacked_from k (run_view run) more)) none ∙ ap (λ (ws : List ℕ). Ok (ws, more)) (append-nil (words_in_bytes (at / 8) (take at buf)) ∙ words) in
      Leads-trans f _ (λ more. Ok (whole_words buf, more)) a b b before (Leads-by _ _ b last)

-- words at the front of a buffer, and those behind them
pub piece-joined : (f : Rule (List ℕ)) (a b c : Option (List ℕ)) (buf tail after : List ℕ) (step : Step) → ContinuesWith f a b (λ more. with_front (words_in_bytes (step.filled / 8) (take step.filled buf)) (unpacked_from ((length buf - step.filled) / 8) (run_view step.run) more))
    → step.filled ≤ length buf → step.filled % 8 ≡ 0 → length buf % 8 ≡ 0 → length tail ≡ length buf - step.filled → length after ≡ length buf → after ≡ take step.filled buf ++ tail
    → Takes (unpacked_from (length tail / 8) (run_view step.run)) b c (whole_words tail) → Takes f a c (whole_words after)
piece-joined f a b c buf tail after step before fits place whole behind same joined rest =
    let j = step.filled / 8 in
    let k = length tail / 8 in
    let front = words_in_bytes j (take step.filled buf) in
    let size : length (take step.filled buf) ≡ 8 * j = omega (arith, length-take-le step.filled buf fits) in
    let words : front ++ whole_words tail ≡ whole_words after =
    ap (λ (l : List ℕ). front ++ l) (whole_words-of_length k tail (omega arith)) ∙ words-append j k (take step.filled buf) tail size (omega arith) ∙ ap (words_in_bytes (j + k)) (sym joined) ∙ sym (whole_words-of_length (j + k) after (omega arith)) in
    let now : ContinuesWith f a b (λ more. with_front front (unpacked_from k (run_view step.run) more)) =
    subst (λ (n : ℕ). ContinuesWith f a b (λ more. with_front front (unpacked_from (n / 8) (run_view step.run) more))) (sym behind) before in
    Leads-trans f _ _ a b c now (Leads-trans _ _ _ b c c (Leads-front front (unpacked_from k (run_view step.run)) (λ more. Ok (whole_words tail, more)) b c rest) (Leads-by _ _ c (λ more. ap (λ (l : List ℕ). Ok (l, more)) words)))

-- the words that a buffer was filled with are a piece
pub piece-taken : (a b : Option (List ℕ)) (buf : List ℕ) → Takes (unpacked (length buf / 8)) a b (whole_words buf) → TakesPiece unpacked a b (whole_words buf)
piece-taken a b buf p =
    let Reads : ℕ → Type 0 = λ n. (more : List ℕ) → unpacked n (p.part ++ more) ≡ Ok (whole_words buf, more) in
    let Needed : ℕ → Type 0 = λ n. EachIsNeeded (unpacked n) p.part in
    let count : length buf / 8 ≡ length (whole_words buf) = sym (words_in_bytes-length (length buf / 8) buf) in
    (p.part, subst Reads count p.says, p.taken, subst Needed count p.needed)

-- where nothing was taken no piece with a word was
no-piece : (n : ℕ) → 0 < n → (r : List ℕ × List ℕ) → unpacked n [] ≡ Ok r → ⊥
unfolding unpacked_from
no-piece zero some r e = absurd (omega arith)
no-piece (suc n) some r e = absurd cc

pub nothing-taken : (n : ℕ) (a b : Option (List ℕ)) → 0 < n → Keeps a b → TakesPieceStart unpacked n a b
nothing-taken n a b some kept = ([], no-piece n some, Consumes-kept a a b [] (Consumes-nil a) kept, none-needed (unpacked n))

-- a piece behind a look at the bytes to come
pub piece-of_kept : (a b c : Option (List ℕ)) (ws : List ℕ) → Keeps a b → TakesPiece unpacked b c ws → TakesPiece unpacked a c ws
piece-of_kept a b c ws kept p = (p.0, p.1, Consumes-of_kept a b c p.0 kept p.2, p.3)

-- a refusal behind a look at the bytes to come
known-of_kept : (P : List ℕ → Type 0) (a b : Option (List ℕ)) → Keeps a b → IfSome b P → IfSome a P
known-of_kept P None b kept h = tt
known-of_kept P (Some xs) None kept h = absurd kept
known-of_kept P (Some xs) (Some ys) kept h = subst P kept h

fault-of_kept : (f : Rule (List ℕ)) (a b : Option (List ℕ)) (k : ErrorKind) → Keeps a b → IsFault f b k → IsFault f a k
fault-of_kept f a b Device kept h = tt
fault-of_kept f a b FailedToFillTheWholeBuffer kept h = known-of_kept _ a b kept h
fault-of_kept f a b PrematureEndOfPackedInput kept h = known-of_kept _ a b kept h
fault-of_kept f a b PackedInputDidNotEndCleanlyOnASegmentBoundary kept h = known-of_kept _ a b kept h
fault-of_kept f a b _ kept h = absurd h

pub refuses-of_kept : (f : Rule (List ℕ)) (a b c : Option (List ℕ)) (k : ErrorKind) → Keeps a b → Refuses f b c k → Refuses f a c k
refuses-of_kept f a b c k kept p = record { part = p.part; taken = Consumes-of_kept a b c p.part kept p.taken; none = p.none; needed = p.needed; fault = fault-of_kept f a b k kept p.fault }

-- a device that failed at once
pub failed-at_once : (n : ℕ) (a b : Option (List ℕ)) → 0 < n → Keeps a b → Refuses (unpacked n) a b Device
failed-at_once n a b some kept =
    let p = nothing-taken n a b some kept in
    record { part = p.0; taken = p.2; none = p.1; needed = p.3; fault = tt }

-- ---- a buffer that is filled as a whole

fault-kind : (f : Rule (List ℕ)) (a : Option (List ℕ)) (k : ErrorKind) → IsFault f a k → IsUnpackingKind k
fault-kind f a Device h = tt
fault-kind f a FailedToFillTheWholeBuffer h = tt
fault-kind f a PrematureEndOfPackedInput h = tt
fault-kind f a PackedInputDidNotEndCleanlyOnASegmentBoundary h = tt
fault-kind f a _ h = absurd h

-- no piece without a word is refused
refused-some : (n : ℕ) (a b : Option (List ℕ)) (k : ErrorKind) → Refuses (unpacked n) a b k → 0 < n
unfolding unpacked_from
refused-some zero a b k p = absurd (p.none ([], p.part) refl)
refused-some (suc n) a b k p = omega arith

pub exact-refused : (len : ℕ) (a b : Option (List ℕ)) (k : ErrorKind) → Refuses (unpacked (len / 8)) a b k → IsUnpackingKind k × ConsumesFewer None None len
exact-refused len a b k p = (fault-kind (unpacked (len / 8)) a k p.fault, ([], omega (arith, refused-some (len / 8) a b k p), tt))
