use Rattle.std.proofs.Common.{rules, ◌≡◌, ℕ, suc, ◌+◌, List, [], ◌∷◌, ◌++◌, length, take, get_or, refl, sym, ap, ◌∙◌, arith, append-nil}
use Rattle.std.specs.Int.{to_le_bytes, w64}
use Rattle.std.proofs.Math.Seq.{take-suc}
use Rattle.std.proofs.lemmas.List.Concat.{flat_map-append}
use Rattle.capnp_model.specs.Bytes.{bytes_of_words}
use Rattle.test_support.proofs.bytes_of.Goals as goal

pub loop-word-preserved : goal.loop-word-preserved
loop-word-preserved c =
    let words = c.args.words.now in
    let i = c.loop-word.word-index in
    let next = take-suc words i 0 (omega (arith, c.loop-word-test.true)) in
    let one : bytes_of_words (take (suc i) words) ≡ bytes_of_words (take i words) ++ to_le_bytes w64 (get_or words i 0) =
    ap bytes_of_words next ∙ flat_map-append (to_le_bytes w64) (take i words) (get_or words i 0 ∷ []) ∙ ap (λ (x : List ℕ). bytes_of_words (take i words) ++ x) (append-nil (to_le_bytes w64 (get_or words i 0))) in
    search rules
