-- What a refused unpacking leaves in its buffer.
use Rattle.std.proofs.Common.{◌≡◌, ℕ, ◌+◌, ◌-◌, ◌/◌, ◌%◌, ◌<◌, ◌≤◌, List, ◌++◌, length, take, drop, replicate, sym, ap, subst, ◌∙◌, arith, take_at, drop_at, length-take-le, drop-drop}
use Rattle.std.specs.declared.option.Option.{Option}
use Rattle.std.proofs.lemmas.List.{take_all}
use Rattle.std.specs.Io.KnownBytes.{Keeps}
use borrow.Rule.Slice.PartMut.{put_mid}
use lib.Seq.{take-add}
use Rattle.capnp_units.specs.declared.kinds.ErrorKind.{ErrorKind}
use Rattle.capnp_model.specs.Bytes.{words_in_bytes}
use Rattle.capnp_model.specs.Packing.{unpacked_from}
use Rattle.capnp_stream_io.proofs.lemmas.Filling.{take-put_mid_more}
use Rattle.capnp_stream_io.proofs.lemmas.KnownLemmas.{Consumes-of_kept}
use Rattle.capnp_stream_packed.specs.Parts.{ContinuesWith, Refuses, with_front}
use Rattle.capnp_stream_packed.specs.Runs.{run_view}
use Rattle.capnp_stream_packed.specs.Steps.{Leaves}
use Rattle.capnp_stream_packed.specs.declared.runs.Run.{Run}
use Rattle.capnp_stream_packed.proofs.PieceLemmas.{piece-more}

-- what was put behind a front stands behind it
pub put-behind : (at : ℕ) (buf tail : List ℕ) → at ≤ length buf → length tail ≡ length buf - at → length (put_mid at (length buf - at) buf tail) ≡ length buf → put_mid at (length buf - at) buf tail ≡ take at buf ++ tail
put-behind at buf tail within behind kept =
    let after = put_mid at (length buf - at) buf tail in
    sym (take_all (at + length tail) after (omega arith)) ∙ take-put_mid_more at (length buf - at) (length tail) buf tail within (omega arith) ∙ ap (λ (l : List ℕ). take at buf ++ l) (take_all (length tail) tail (omega arith))

-- words at the front, and zeros behind them
pub left-at : (first : Run) (size : ℕ) (a b c : Option (List ℕ)) (buf after : List ℕ) (at : ℕ) (run : Run) (kind : ErrorKind) → length buf ≡ size
    → ContinuesWith (unpacked_from (size / 8) (run_view first)) a b (λ more. with_front (words_in_bytes (at / 8) (take at buf)) (unpacked_from ((length buf - at) / 8) (run_view run) more))
    → at % 8 ≡ 0 → at ≤ length buf → length after ≡ length buf → after ≡ take at buf ++ replicate (length buf - at) 0
    → Refuses (unpacked_from ((length buf - at) / 8) (run_view run)) b c kind → Leaves first a c after kind
left-at first size a b c buf after at run kind sized before place within same is fault =
    let len = length-take-le at buf within in
    let zeros = replicate (length buf - at) 0 in
    let front : take at after ≡ take at buf = ap (take at) is ∙ take_at (take at buf) zeros at len in
    let behind : drop at after ≡ zeros = ap (drop at) is ∙ drop_at (take at buf) zeros at len in
    let Front : List ℕ → Type 0 = λ l. ContinuesWith (unpacked_from (size / 8) (run_view first)) a b (λ more. with_front (words_in_bytes (at / 8) l) (unpacked_from ((length buf - at) / 8) (run_view run) more)) in
    let Rest : ℕ → Type 0 = λ n. ContinuesWith (unpacked_from (size / 8) (run_view first)) a b (λ more. with_front (words_in_bytes (at / 8) (take at after)) (unpacked_from ((n - at) / 8) (run_view run) more)) in
    let Of : ℕ → Type 0 = λ n. ContinuesWith (unpacked_from (n / 8) (run_view first)) a b (λ more. with_front (words_in_bytes (at / 8) (take at after)) (unpacked_from ((length after - at) / 8) (run_view run) more)) in
    record {
      step = record { taken = 0; filled = at; run = run };
      reached = b;
      reads = record {
        fits = omega (arith, within, same);
        whole = place;
        leads = subst Of (sym (same ∙ sized)) (subst Rest (sym same) (subst Front (sym front) before));
      };
      fault = subst (λ (n : ℕ). Refuses (unpacked_from ((n - at) / 8) (run_view run)) b c kind) (sym same) fault;
      zeros = behind ∙ ap (λ (n : ℕ). replicate (n - at) 0) (sym same);
    }

-- the same behind words that were read before
pub left-behind : (first : Run) (a b c : Option (List ℕ)) (buf tail after : List ℕ) (at : ℕ) (run : Run) (kind : ErrorKind)
    → ContinuesWith (unpacked_from (length buf / 8) (run_view first)) a b (λ more. with_front (words_in_bytes (at / 8) (take at buf)) (unpacked_from ((length buf - at) / 8) (run_view run) more))
    → at % 8 ≡ 0 → length buf % 8 ≡ 0 → at < length buf → length tail ≡ length buf - at → length after ≡ length buf → after ≡ take at buf ++ tail → Leaves run b c tail kind → Leaves first a c after kind
left-behind first a b c buf tail after at run kind before place whole below behind same is left =
    let k = left.step.filled in
    let len = length-take-le at buf (omega arith) in
    let end : length tail - k ≡ length after - (at + k) = omega (arith, left.reads.fits) in
    let there : drop at after ≡ tail = ap (drop at) is ∙ drop_at (take at buf) tail at len in
    let grown : take (at + k) after ≡ take at buf ++ take k tail =
    take-add at k after ∙ ap (λ (l : List ℕ). take at l ++ take k (drop at l)) is ∙ ap (λ (l : List ℕ). l ++ take k (drop at (take at buf ++ tail))) (take_at (take at buf) tail at len)
    ∙ ap (λ (l : List ℕ). take at buf ++ take k l) (drop_at (take at buf) tail at len) in
    let leads = piece-more (unpacked_from (length buf / 8) (run_view first)) a b buf at run before place whole below tail behind left.reached after left.step left.reads same grown in
    let Of : ℕ → Type 0 = λ n. ContinuesWith (unpacked_from (n / 8) (run_view first)) a left.reached (λ more. with_front (words_in_bytes ((at + k) / 8) (take (at + k) after)) (unpacked_from ((length after - (at + k)) / 8) (run_view left.step.run) more)) in
    record {
      step = record { taken = 0; filled = at + k; run = left.step.run };
      reached = left.reached;
      reads = record { fits = omega (arith, left.reads.fits); whole = omega (arith, left.reads.whole); leads = subst Of (sym same) leads };
      fault = subst (λ (n : ℕ). Refuses (unpacked_from (n / 8) (run_view left.step.run)) left.reached c kind) end left.fault;
      zeros = sym (drop-drop k at after) ∙ ap (drop k) there ∙ left.zeros ∙ ap (λ (n : ℕ). replicate n 0) end;
    }

-- the same behind a look at the bytes to come
pub left-of_kept : (run : Run) (a b c : Option (List ℕ)) (buf : List ℕ) (kind : ErrorKind) → Keeps a b → Leaves run b c buf kind → Leaves run a c buf kind
left-of_kept run a b c buf kind kept left =
    let p = left.reads.leads in
    record {
      step = left.step;
      reached = left.reached;
      reads = record { fits = left.reads.fits; whole = left.reads.whole; leads = record { part = p.part; taken = Consumes-of_kept a b left.reached p.part kept p.taken; says = p.says; needed = p.needed } };
      fault = left.fault;
      zeros = left.zeros;
    }
