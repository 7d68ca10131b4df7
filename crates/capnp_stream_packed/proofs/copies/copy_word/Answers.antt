use Rattle.std.proofs.Common.{◌≡◌, ℕ, ◌+◌, ◌-◌, ◌≤◌, List, ◌++◌, length, take, drop, sym, ap, ◌∙◌, arith, take_at, length-take-le, length-drop}
use lib.Seq.{take-add}
use borrow.Rule.Slice.PartMut.{put_mid}
use Rattle.capnp_stream_io.proofs.lemmas.Filling.{take-put_mid_more}
use Rattle.capnp_stream_packed.proofs.UnpackLemmas.{rest-of}
use Rattle.capnp_stream_packed.proofs.copies.copy_word.Goals as goal

word-more : (at k : ℕ) (from to put behind : List ℕ) → at + 8 ≤ length from → at ≤ length to → put ≡ take 8 (drop at from) ++ behind → take at to ≡ take at from → take (at + 8) (put_mid at k to put) ≡ take (at + 8) from
word-more at k from to put behind here room is same =
    let eight : length (take 8 (drop at from)) ≡ 8 = length-take-le 8 (drop at from) (omega (arith, length-drop at from)) in
    let first : take 8 put ≡ take 8 (drop at from) = ap (take 8) is ∙ take_at (take 8 (drop at from)) behind 8 eight in
    take-put_mid_more at k 8 to put room (omega (arith, ap length first, length-take-short put)) ∙ ap (λ (l : List ℕ). l ++ take 8 put) same ∙ ap (λ (l : List ℕ). take at from ++ l) first ∙ sym (take-add at 8 from)
  where
    length-take-short : (xs : List ℕ) → length (take 8 xs) ≤ length xs
    length-take-short xs = grind arith

pub returns-clause-copied : goal.returns-clause-copied
returns-clause-copied c =
    let at = c.args.at in
    let from = c.args.from.now in
    let to = c.args.to.now in
    word-more at _ from to c.copy_first.new.to (drop 8 (take (length to - at) (drop at to))) c.requires.here (omega (arith, c.requires.room)) (c.copy_first.ensures ∙ ap (λ (l : List ℕ). take 8 l ++ drop 8 (take (length to - at) (drop at to))) (rest-of at from)) c.requires.same
