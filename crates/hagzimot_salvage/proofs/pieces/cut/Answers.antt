use Rattle.std.proofs.Common.{◌≡◌, ℕ, List, length, subst, sym, arith}
use Rattle.hagzimot_salvage.specs.declared.pieces.Piece.{Piece}
use Rattle.hagzimot_salvage.specs.Pieces.{ArePieces}
use Rattle.hagzimot_salvage.proofs.Adjacent.{pieces_nowhere, messages_more, gap_more, no_run}
use Rattle.hagzimot_salvage.proofs.pieces.cut.Goals as goal

pub loop-at-init : goal.loop-at-init
loop-at-init c = record { inside = omega arith; pieces = subst (λ (ps : List Piece). ArePieces c.args.limits c.args.bytes.now 0 ps 0) (sym c.new-pieces.ensures.items) (pieces_nowhere c.args.limits c.args.bytes.now) }

pub loop-at-preserved-then-run-gt0 : goal.loop-at-preserved-then-run-gt0
loop-at-preserved-then-run-gt0 c =
    let l = c.args.limits in
    let b = c.args.bytes.now in
    let more = messages_more l b 0 c.loop-at.pieces.items c.loop-at.at c.in_ok-run.run'.end c.in_ok-run.run'.count c.loop-at.invariant.pieces c.if-run-gt0.true c.in_ok-run.ensures.run in
    record { inside = c.in_ok-run.ensures.run.inside; pieces = subst (λ (ps : List Piece). ArePieces l b 0 ps c.in_ok-run.run'.end) (sym c.in_ok-push.ensures.items) more }

pub loop-at-preserved : goal.loop-at-preserved
loop-at-preserved c =
    let l = c.args.limits in
    let b = c.args.bytes.now in
    let none = no_run l b c.loop-at.at c.in_ok-run.run'.end c.in_ok-run.run'.count c.if-run-gt0.false c.in_ok-run.ensures.run in
    let more = gap_more l b 0 c.loop-at.pieces.items c.loop-at.at c.in_ok-end.end c.loop-at.invariant.pieces (none, c.in_ok-end.ensures.end) in
    record { inside = c.in_ok-end.ensures.end.inside; pieces = subst (λ (ps : List Piece). ArePieces l b 0 ps c.in_ok-end.end) (sym c.in_ok-push-2.ensures.items) more }

pub returns-clause-pieces : goal.returns-clause-pieces
returns-clause-pieces c =
    let at_end : c.loop-at.at ≡ length c.args.bytes.now = omega (arith, c.loop-at.invariant.inside) in
    subst (λ (to : ℕ). ArePieces c.args.limits c.args.bytes.now 0 c.loop-at.pieces.items to) at_end c.loop-at.invariant.pieces
