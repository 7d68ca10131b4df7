use Rattle.std.proofs.Common.{◌≡◌, ℕ, ◌*◌, ◌/◌, ◌%◌, ◌<◌, ◌≤◌, length, refl, subst, arith}
use Prim.Native.Nat.{min}
use Rattle.capnp_stream_packed.specs.Runs.{NeedsBytes}
use Rattle.capnp_stream_packed.specs.declared.runs.Run.{Run}
use Rattle.capnp_stream_packed.specs.declared.runs.Run.TheVariants.{First, Next, Zeros, Verbatim}
use Rattle.capnp_stream_packed.proofs.UnpackLemmas.{unpacks-nothing, unpacks-zeros, unpacks-verbatim}
use Rattle.capnp_stream_packed.proofs.shown.Step.of_run.Goals as goal

-- So many words are no more than there are, or than a buffer has bytes for.
fits-words : (len count w : ℕ) → w ≡ min (len / 8) count → (8 * w ≤ len) × (w ≤ count)
fits-words len count w is = (omega (arith, is), omega (arith, is))

fits-both : (len there count m w : ℕ) → m ≡ min (len / 8) (there / 8) → w ≡ min m count → (8 * w ≤ len) × (8 * w ≤ there) × (w ≤ count)
fits-both len there count m w least is = (omega (arith, least, is), omega (arith, least, is), omega (arith, is))

-- Of zero words that are left some fit a buffer that has a word.
some-zeros : (run : Run) (count w len : ℕ) → run ≡ Zeros count → w ≡ min (len / 8) count → len % 8 ≡ 0 → (NeedsBytes run → ⊥) → 0 < len → 0 < 8 * w
some-zeros run count w len is words whole needs some =
    let left : count ≡ 0 → ⊥ = subst (λ r. NeedsBytes r → ⊥) is needs in
    omega (arith, left, words, whole, some)

-- Words as they are need bytes.
verbatim-needs : (run : Run) (count : ℕ) → run ≡ Verbatim count → (NeedsBytes run → ⊥) → ⊥
verbatim-needs run count is needs =
    let no : NeedsBytes (Verbatim count) → ⊥ = subst (λ r. NeedsBytes r → ⊥) is needs in no tt

-- So does a group.
group-needs : (run : Run) → ((x : ℕ) → run ≡ Zeros x → ⊥) → (NeedsBytes run → ⊥) → ⊥
group-needs First other needs = needs tt
group-needs Next other needs = needs tt
group-needs (Zeros k) other needs = other k refl
group-needs (Verbatim k) other needs = needs tt

pub returns-in-Zeros : goal.returns-in-Zeros
returns-in-Zeros c =
    let w = c.min-words.result in
    let all = unpacks-zeros c.in-Zeros.count w c.args.shown.now c.clear_front.new.to (omega (arith, c.min-words.ensures)) (omega (arith, c.min-words.ensures, c.clear_front.ensures.kept)) c.clear_front.ensures.cleared in
    record {
      unpacked = rw c.in-Zeros.is all;
      some = some-zeros c.args.run c.in-Zeros.count w _ c.in-Zeros.is c.min-words.ensures c.requires;
    }

pub returns-in-Verbatim : goal.returns-in-Verbatim
returns-in-Verbatim c =
    let w = c.min-words-in-Verbatim.result in
    let fits = c.min-words-in-Verbatim.ensures in
    let all = unpacks-verbatim c.in-Verbatim.count w c.args.shown.now c.copy_front.new.to (omega (arith, fits)) (omega (arith, fits, c.min.ensures, c.copy_front.ensures.kept)) (omega (arith, fits, c.min.ensures)) c.copy_front.ensures.copied in
    record {
      unpacked = rw c.in-Verbatim.is all;
      some = λ needs _. absurd (verbatim-needs c.args.run c.in-Verbatim.count c.in-Verbatim.is needs);
    }

pub returns-in_default : goal.returns-in_default
returns-in_default c = record {
  unpacked = unpacks-nothing c.args.run c.args.shown.now c.args.buf.now;
  some = λ needs _. absurd (group-needs c.args.run c.in_default.not-Zeros needs);
}

pub overflow_sub-result : goal.overflow_sub-result
overflow_sub-result c = (fits-words (length c.args.buf.now) c.in-Zeros.count c.min-words.result c.min-words.ensures).1

pub clear_front-requires : goal.clear_front-requires
clear_front-requires c = (fits-words (length c.args.buf.now) c.in-Zeros.count c.min-words.result c.min-words.ensures).0

pub copy_front-requires : goal.copy_front-requires
copy_front-requires c =
    let fits = fits-both (length c.args.buf.now) (length c.args.shown.now) c.in-Verbatim.count c.min.result c.min-words-in-Verbatim.result c.min.ensures c.min-words-in-Verbatim.ensures in
    record { here = fits.1; room = fits.0 }
