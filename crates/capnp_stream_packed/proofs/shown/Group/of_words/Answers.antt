use Rattle.std.proofs.Common.{◌≡◌, ◌+◌, ◌*◌, ◌≤◌, List, ℕ, ◌++◌, length, take, drop, get_or, refl, ap, subst, ◌∙◌, arith, take_at, drop_at, length-take-le, length-drop, length-append}
use Rattle.capnp_stream_packed.specs.Steps.{IsFirst}
use Rattle.capnp_stream_packed.proofs.HeadLemmas.{full-word}
use Rattle.capnp_stream_packed.proofs.UnpackLemmas.{words-unpack, run-copied, rest-of}
use Rattle.capnp_stream_packed.proofs.shown.Group.of_words.Goals as goal

pub returns : goal.returns
returns c =
    let shown = c.args.shown.now in
    let buf = c.args.buf.now in
    let k = get_or shown 9 0 in
    let copied = c.copy_words.new.to in
    let word = take 8 (drop 1 shown) in
    let after = c.copy_first.new.to in
    let room : 8 ≤ length buf = omega (arith, c.requires.whole, c.requires.some) in
    let kept : length copied ≡ length buf = c.copy_words.ensures.kept in
    let is : after ≡ word ++ drop 8 copied = c.copy_first.ensures ∙ ap (λ (l : List ℕ). take 8 l ++ drop 8 copied) (rest-of 1 shown) in
    let eight : length word ≡ 8 = length-take-le 8 (drop 1 shown) (omega (arith, length-drop 1 shown, c.requires.long)) in
    let whole : length after ≡ length buf = omega (arith, ap length is, length-append word (drop 8 copied), length-drop 8 copied) in
    let front : take 8 after ≡ take 8 buf = ap (take 8) is ∙ take_at word (drop 8 copied) 8 eight ∙ full-word (take 8 buf) shown c.requires.long c.requires.front in
    let run : take (8 * k) (drop 8 copied) ≡ take (8 * k) (drop 10 shown) = run-copied k copied shown (c.copy_words.ensures.copied ∙ ap (take (8 * k + 8)) (rest-of 2 shown)) in
    let behind : take (8 * k) (drop 8 after) ≡ take (8 * k) (drop 10 shown) = ap (λ (l : List ℕ). take (8 * k) (drop 8 l)) is ∙ ap (take (8 * k)) (drop_at word (drop 8 copied) 8 eight) ∙ run in
    record {
      some = omega arith;
      unpacked = λ r over. words-unpack shown after (take 8 buf) 255 c.requires.long (omega arith) c.requires.front front r over k refl refl (omega (arith, whole, c.if-len-buf.false)) (omega (arith, c.if-len-shown.false)) behind;
      next = subst (IsFirst c.first_byte.result) (rest-of (10 + 8 * k) shown) c.first_byte.ensures;
    }
