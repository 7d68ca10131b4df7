use Rattle.std.proofs.Common.{◌≡◌, ℕ, ◌-◌, ◌*◌, ◌≤◌, List, length, take, drop, replicate, get_or, refl, sym, ap, subst, ◌∙◌, arith, rules, drop_at, length-take-le, length-drop}
use Rattle.std.proofs.lemmas.List.{drop-take}
use Rattle.std.proofs.lemmas.Slice.{take-put_mid_below}
use borrow.Rule.Slice.PartMut.{put_mid}
use Rattle.capnp_stream_io.proofs.lemmas.Filling.{take-put_mid_more}
use Rattle.capnp_stream_packed.specs.Steps.{IsFirst}
use Rattle.capnp_stream_packed.proofs.UnpackLemmas.{zeros-unpack, rest-of}
use Rattle.capnp_stream_packed.proofs.shown.Group.of_zeros.Goals as goal

put-behind : (n k : ℕ) (xs ys : List ℕ) → 8 ≤ length xs → n ≤ length ys → take n (drop 8 (put_mid 8 k xs ys)) ≡ take n ys
put-behind n k xs ys room fits =
    sym (drop-take 8 n (put_mid 8 k xs ys)) ∙ ap (drop 8) (take-put_mid_more 8 k n xs ys room fits) ∙ drop_at (take 8 xs) (take n ys) 8 (length-take-le 8 xs room)

pub returns : goal.returns
returns c =
    let shown = c.args.shown.now in
    let buf = c.args.buf.now in
    let k = get_or shown 1 0 in
    let after = put_mid 8 (length buf - 8) buf c.clear_front.new.to in
    let room : 8 ≤ length buf = omega (arith, c.requires.whole, c.requires.some) in
    let size : length c.clear_front.new.to ≡ length buf - 8 = omega (arith, c.clear_front.ensures.kept, length-drop 8 buf) in
    let kept : length after ≡ length buf = search rules in
    let front : take 8 after ≡ take 8 buf = take-put_mid_below 8 (length buf - 8) buf c.clear_front.new.to 8 (omega arith) room in
    let cleared : take (8 * k) (drop 8 after) ≡ replicate (8 * k) 0 = put-behind (8 * k) (length buf - 8) buf c.clear_front.new.to room (omega (arith, c.if-len-buf.false)) ∙ c.clear_front.ensures.cleared in
    record {
      some = omega arith;
      unpacked = λ r over. zeros-unpack shown after (take 8 buf) 0 c.requires.long (omega arith) c.requires.front front r over k refl refl (omega (arith, kept, c.if-len-buf.false)) cleared;
      next = subst (IsFirst c.first_byte.result) (rest-of 2 shown) c.first_byte.ensures;
    }
