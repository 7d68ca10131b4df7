use Rattle.std.proofs.Common.{◌≡◌, length, inl, inr, ap, sym, ◌∙◌}
use Rattle.hagzimot_salvage.specs.Pieces.{IsCut, whole_stream}
use Rattle.hagzimot_salvage.proofs.Whole.{all_within, has_fault, is_all, cut_within}
use Rattle.hagzimot_salvage.proofs.pieces.pieces.Goals as goal

pub returns-then-run-bytes-clause-pieces : goal.returns-then-run-bytes-clause-pieces
returns-then-run-bytes-clause-pieces c =
    let run = c.run_from-run in
    inr (has_fault c.args.limits c.args.bytes.now run.result.end run.result.count run.ensures c.if-run-bytes.true, c.in_ok-parts.ensures.pieces)

pub returns-then-run-bytes-clause-within : goal.returns-then-run-bytes-clause-within
returns-then-run-bytes-clause-within c = all_within c.args.limits c.args.bytes.now 0 c.in_ok-parts.parts.items _ c.in_ok-parts.ensures.pieces

pub returns-clause-pieces : goal.returns-clause-pieces
returns-clause-pieces c =
    let run = c.run_from-run in
    let l = c.args.limits in
    let b = c.args.bytes.now in
    inl (run.ensures.messages, is_all l b run.result.end run.result.count run.ensures c.if-run-bytes.false, c.in_ok-whole.ensures.piece ∙ ap (whole_stream (length b)) (sym run.ensures.number))

pub returns-clause-within : goal.returns-clause-within
returns-clause-within c =
    let run = c.run_from-run in
    let l = c.args.limits in
    let b = c.args.bytes.now in
    let is : IsCut l b c.in_ok-whole.whole.items = inl (run.ensures.messages, is_all l b run.result.end run.result.count run.ensures c.if-run-bytes.false, c.in_ok-whole.ensures.piece ∙ ap (whole_stream (length b)) (sym run.ensures.number)) in
    cut_within l b c.in_ok-whole.whole.items is
