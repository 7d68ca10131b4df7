use Rattle.std.proofs.Common.{◌≡◌, ℕ, ◌-◌, ◌≤◌, List, Some, Ok, length, take, drop, subst, arith, length-drop}
use Rattle.std.specs.Prelude.{IsErr}
use Rattle.capnp_model.specs.Segments.{Segments}
use Rattle.capnp_model.specs.Messages.{frame_at}
use Rattle.capnp_model.proofs.lemmas.Lists.{take-all}
use Rattle.hagzimot_salvage.proofs.Adjacent.{runs_nowhere, runs_more, run_ends}
use Rattle.hagzimot_salvage.proofs.pieces.run_from.Goals as goal

-- The bytes from a place on.
all_behind : (bytes : List ℕ) (end : ℕ) → take (length bytes - end) (drop end bytes) ≡ drop end bytes
all_behind bytes end = take-all (drop end bytes) (length bytes - end) (omega (arith, length-drop end bytes))

pub loop-len-init : goal.loop-len-init
loop-len-init c = runs_nowhere c.args.limit c.args.bytes.now c.args.at c.requires

pub loop-len-preserved : goal.loop-len-preserved
loop-len-preserved c =
    let end = c.loop-len.end in
    let n = c.in-Some.len in
    let same = all_behind c.args.bytes.now end in
    let frame = subst (λ (l : List ℕ). (s : Segments) × (frame_at (Some c.args.limit) l ≡ Ok (s, drop n l))) same c.in-Some.ensures.message in
    let within = subst (λ (l : List ℕ). n ≤ length l) same c.in-Some.ensures.some.1 in
    runs_more c.args.limit c.args.bytes.now c.args.at end c.loop-len.count n frame.0 c.loop-len.invariant frame.1 c.in-Some.ensures.some.0 within

pub returns : goal.returns
returns c =
    let end = c.loop-len.end in
    run_ends c.args.limit c.args.bytes.now c.args.at end c.loop-len.count c.loop-len.invariant (subst (λ (l : List ℕ). IsErr (frame_at (Some c.args.limit) l)) (all_behind c.args.bytes.now end) c.in_default.ensures.none)
