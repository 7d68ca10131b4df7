use Rattle.std.proofs.Common.{◌≡◌, ◌+◌, ◌%◌, ◌^◌, ◌<◌, decimal, length, arith, sym, ap, ◌∙◌}
use Rattle.std.specs.List.{slice_set}
use Rattle.capnp_model.specs.Runs.{line_of}
use Rattle.capnp_relay_loop.specs.Lines.{all_done, IsDoneLine}
use Rattle.capnp_relay_loop.proofs.LineLemmas.{digit-there, next-says, next-digit}
use Rattle.capnp_relay_loop.proofs.line.Line.count_on.Goals as goal

pub returns-clause-line : goal.returns-clause-line
returns-clause-line c =
    let line = c.args.self.now in
    let is : IsDoneLine line = c.requires (omega (arith, c.if-self-eq0.false)) in
    let byte : c.index-digit.result.now ≡ 48 + line.number % 10 = c.index-digit.ensures ∙ digit-there line is _ in
    let below : line.number % 10 < 9 = omega (arith, byte, c.if-digit-ge57.false) in
    let next : c.args.number ≡ line.number + 1 = omega arith in
    let inside : line.number + 1 < 2 ^ 64 = omega (arith, c.ranges.number.fits, next) in
    let calls : c.args.calls ≡ line.calls = omega arith in
    ap (λ b. slice_set line.bytes.items line.digit (b + 1)) byte ∙ next-says line is inside below
    ∙ ap (λ n. line_of n (all_done line.calls)) (sym next) ∙ ap (λ k. line_of c.args.number (all_done k)) (sym calls)

pub returns-clause-kept : goal.returns-clause-kept
returns-clause-kept c = λ some.
    let line = c.args.self.now in
    let is : IsDoneLine line = c.requires some in
    let byte : c.index-digit.result.now ≡ 48 + line.number % 10 = c.index-digit.ensures ∙ digit-there line is _ in
    let below : line.number % 10 < 9 = omega (arith, byte, c.if-digit-ge57.false) in
    let next : c.args.number ≡ line.number + 1 = omega arith in
    let inside : line.number + 1 < 2 ^ 64 = omega (arith, c.ranges.number.fits, next) in
    record {
      number = c.ranges.number.fits;
      digit = next-digit line is inside below ∙ ap (λ n. 8 + length (decimal n)) (sym next);
      says = ap (λ b. slice_set line.bytes.items line.digit (b + 1)) byte ∙ next-says line is inside below ∙ ap (λ n. line_of n (all_done line.calls)) (sym next);
    }
