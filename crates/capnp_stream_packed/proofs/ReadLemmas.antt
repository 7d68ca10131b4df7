-- Words that were unpacked of what a source shows.
use Rattle.std.proofs.Common.{◌≡◌, ℕ, zero, suc, ◌+◌, ◌-◌, ◌/◌, ◌%◌, ◌<◌, ◌≤◌, List, [], ◌∷◌, ◌++◌, length, take, Ok, refl, sym, ap, subst, ◌∙◌, arith}
use Rattle.std.specs.Int.{w64, from_le_bytes}
use Rattle.std.proofs.lemmas.List.{take_all}
use Rattle.capnp_model.specs.Bytes.{words_in_bytes}
use Rattle.capnp_model.specs.Packing as model
use Rattle.capnp_model.specs.Packing.{spread, run_at, group_at, with_word, unpacked_from}
use Rattle.std.proofs.Common.{IfSome}
use Rattle.std.specs.declared.option.Option.{Option}
use Rattle.std.specs.Io.KnownBytes.{Keeps}
use Rattle.std.proofs.KnownBytes.{Consumes-nil, Consumes-kept}
use Rattle.capnp_units.specs.declared.kinds.ErrorKind.{ErrorKind}
use Rattle.capnp_units.specs.declared.kinds.ErrorKind.TheVariants.{Device}
use Rattle.capnp_stream_io.specs.Streams.{Drops}
use Rattle.capnp_stream.proofs.lemmas.ShownLemmas.{shown-taken}
use Rattle.capnp_stream_packed.specs.Parts.{ContinuesWith, Refuses, with_front}
use Rattle.capnp_stream_packed.specs.Runs.{run_view, NeedsBytes}
use Rattle.capnp_stream_packed.specs.Steps.{Unpacks, Reads}
use Rattle.capnp_stream_packed.specs.declared.runs.Run.{Run}
use Rattle.capnp_stream_packed.specs.declared.runs.Run.TheVariants.{First, Next, Zeros, Verbatim}
use Rattle.capnp_stream_packed.specs.declared.shown.Step.{Step}
use Rattle.capnp_stream.proofs.lemmas.EarlyLemmas.{none-needed}
use Rattle.capnp_stream_packed.proofs.PartLemmas.{with_front-nil, Leads-by, Leads-trans, Refuses-behind}
use Rattle.capnp_stream_packed.proofs.UnpackLemmas.{one-word}

-- ---- what was read of a source

pub Reads-shown : (run : Run) (a b c : Option (List ℕ)) (shown buf : List ℕ) (step : Step) → Unpacks run shown buf step → Keeps a b → IfSome a (λ xs. take (length shown) xs ≡ shown) → Drops b c step.taken → Reads run a c buf step
Reads-shown run a b c shown buf step made kept front gone = record {
  fits = made.fits;
  whole = made.whole;
  leads = record { part = take step.taken shown; taken = shown-taken a b c shown step.taken made.within kept front gone; says = made.spells.says; needed = made.spells.needed };
}

-- words that need no bytes
pub Reads-none : (run : Run) (a : Option (List ℕ)) (buf : List ℕ) (step : Step) → Unpacks run [] buf step → Reads run a a buf step
Reads-none run a buf step made =
    let none : take step.taken [] ≡ [] = take_all step.taken [] (omega arith) in
    record {
      fits = made.fits;
      whole = made.whole;
      leads = record { part = []; taken = Consumes-nil a; says = λ more. ap (λ (l : List ℕ). unpacked_from (length buf / 8) (run_view run) (l ++ more)) (sym none) ∙ made.spells.says more; needed = none-needed (unpacked_from (length buf / 8) (run_view run)) };
    }

-- a step that filled nothing
module _ (run : Run) (a b : Option (List ℕ)) (buf : List ℕ) (step : Step) (nothing : step.filled ≡ 0) (before : Reads run a b buf step) where
  empty-leads : ContinuesWith (unpacked_from (length buf / 8) (run_view run)) a b (λ more. unpacked_from (length buf / 8) (run_view step.run) more)
  empty-leads =
      let says : (more : List ℕ) → with_front (words_in_bytes (step.filled / 8) (take step.filled buf)) (unpacked_from ((length buf - step.filled) / 8) (run_view step.run) more) ≡ unpacked_from (length buf / 8) (run_view step.run) more = λ more.
      let full : length buf - 0 ≡ length buf = omega arith in
      rw (nothing, full) (with_front-nil (unpacked_from (length buf / 8) (run_view step.run) more)) in
      Leads-trans _ _ _ a b b before.leads (Leads-by _ _ b says)

  pub empty-read : (c : Option (List ℕ)) (after : List ℕ) (next : Step) → length after ≡ length buf → Reads step.run b c after next → Reads run a c after next
  empty-read c after next same p = record {
    fits = p.fits;
    whole = p.whole;
    leads = subst (λ (n : ℕ). ContinuesWith (unpacked_from (n / 8) (run_view run)) a c (λ more. with_front (words_in_bytes (next.filled / 8) (take next.filled after)) (unpacked_from ((length after - next.filled) / 8) (run_view next.run) more))) (sym same)
        (Leads-trans _ _ _ a b c empty-leads (subst (λ (n : ℕ). ContinuesWith (unpacked_from (n / 8) (run_view step.run)) b c (λ more. with_front (words_in_bytes (next.filled / 8) (take next.filled after)) (unpacked_from ((length after - next.filled) / 8) (run_view next.run) more))) same p.leads));
  }

  pub empty-refused : (c : Option (List ℕ)) (kind : ErrorKind) → Refuses (unpacked_from (length buf / 8) (run_view step.run)) b c kind → Refuses (unpacked_from (length buf / 8) (run_view run)) a c kind
  empty-refused c kind p = Refuses-behind _ _ a b c kind empty-leads p

-- no word that needs bytes is read of none
no-word : (n : ℕ) (run : Run) → NeedsBytes run → 0 < n → (x : List ℕ × List ℕ) → unpacked_from n (run_view run) [] ≡ Ok x → ⊥
unfolding unpacked_from
no-word zero run needs some x e = absurd (omega arith)
no-word (suc n) First needs some x e = absurd cc
no-word (suc n) Next needs some x e = absurd cc
no-word (suc n) (Zeros zero) needs some x e = absurd cc
no-word (suc n) (Zeros (suc k)) needs some x e = absurd (omega arith)
no-word (suc n) (Verbatim zero) needs some x e = absurd cc
no-word (suc n) (Verbatim (suc k)) needs some x e = absurd cc

pub failed-look : (n : ℕ) (run : Run) (a b : Option (List ℕ)) (kind : ErrorKind) → NeedsBytes run → 0 < n → Keeps a b → kind ≡ Device → Refuses (unpacked_from n (run_view run)) a b kind
failed-look n run a b kind needs some kept is = rw is (record { part = []; taken = Consumes-kept a a b [] (Consumes-nil a) kept; none = no-word n run needs some; needed = none-needed (unpacked_from n (run_view run)); fault = tt })

-- a word that was read by itself
pub Reads-word : (run : Run) (a b : Option (List ℕ)) (buf word : List ℕ) (next : Run) (left : ℕ) → length buf % 8 ≡ 0 → 8 ≤ length buf → left ≡ length buf / 8 - 1 → take 8 buf ≡ word
    → ContinuesWith (unpacked_from (left + 1) (run_view run)) a b (λ more. with_word (from_le_bytes w64 word) (unpacked_from left (run_view next) more))
    → Reads run a b buf (record { taken = 0; filled = 8; run = next })
Reads-word run a b buf word next left whole room is front p =
    let count : left + 1 ≡ length buf / 8 = omega arith in
    let rest : left ≡ (length buf - 8) / 8 = omega arith in
    let says : (more : List ℕ) → with_word (from_le_bytes w64 word) (unpacked_from left (run_view next) more) ≡ with_front (from_le_bytes w64 (take 8 buf) ∷ []) (unpacked_from ((length buf - 8) / 8) (run_view next) more) = λ more.
    one-word (from_le_bytes w64 word) (unpacked_from left (run_view next) more)
    ∙ ap (λ (l : List ℕ). with_front (from_le_bytes w64 l ∷ []) (unpacked_from left (run_view next) more)) (sym front)
    ∙ ap (λ (n : ℕ). with_front (from_le_bytes w64 (take 8 buf) ∷ []) (unpacked_from n (run_view next) more)) rest in
    record {
      fits = room;
      whole = refl;
      leads = subst (λ (n : ℕ). ContinuesWith (unpacked_from n (run_view run)) a b (λ more. with_front (from_le_bytes w64 (take 8 buf) ∷ []) (unpacked_from ((length buf - 8) / 8) (run_view next) more))) count
          (Leads-trans _ _ _ a b b p (Leads-by _ _ b says));
    }

pub refused-count : (n m : ℕ) (r : model.Run) (a b : Option (List ℕ)) (k : ErrorKind) → n ≡ m → Refuses (unpacked_from n r) a b k → Refuses (unpacked_from m r) a b k
refused-count n m r a b k same p = subst (λ (l : ℕ). Refuses (unpacked_from l r) a b k) same p
