use Rattle.std.proofs.Common.{◌≡◌, ℕ, ◌-◌, ◌<◌, ◌≤◌, List, Some, Ok, true, false, length, take, drop, subst, arith, length-drop}
use Rattle.capnp_model.specs.Segments.{Segments}
use Rattle.capnp_model.specs.Messages.{frame_at}
use Rattle.capnp_model.proofs.lemmas.Lists.{take-all}
use Rattle.hagzimot_salvage.specs.Frames.{is_settled}
use Rattle.hagzimot_salvage.proofs.Adjacent.{settled_nowhere, settled_more, settled_ends}
use Rattle.hagzimot_salvage.proofs.pieces.settled_run.Goals as goal

-- The bytes from a place on.
all_behind : (bytes : List ℕ) (end : ℕ) → take (length bytes - end) (drop end bytes) ≡ drop end bytes
all_behind bytes end = take-all (drop end bytes) (length bytes - end) (omega (arith, length-drop end bytes))

pub loop-len-init : goal.loop-len-init
loop-len-init c = settled_nowhere c.args.limits c.args.bytes.now c.args.at c.requires

pub loop-len-preserved : goal.loop-len-preserved
loop-len-preserved c =
    let l = c.args.limits in
    let limit = Some l.message_words in
    let end = c.loop-len.end in
    let n = c.in-Some.len in
    let same = all_behind c.args.bytes.now end in
    let message = rw c.in-Some.is at c.in_ok-len.ensures.message in
    let settled = rw c.in-Some.is at c.in_ok-len.ensures.settled in
    let some = rw c.in-Some.is at c.in_ok-len.ensures.some in
    let frame = subst (λ (x : List ℕ). (s : Segments) × (frame_at limit x ≡ Ok (s, drop n x))) same message in
    let within = subst (λ (x : List ℕ). n ≤ length x) same some.1 in
    let is = subst (λ (x : List ℕ). is_settled l x ≡ true) same settled in
    settled_more l c.args.bytes.now c.args.at end c.loop-len.number n frame.0 c.loop-len.invariant frame.1 is some.0 within

pub returns-clause-run : goal.returns-clause-run
returns-clause-run c =
    let l = c.args.limits in
    let end = c.loop-len.end in
    let none = rw c.in_default.is at c.in_ok-len.ensures.none in
    settled_ends l c.args.bytes.now c.args.at end c.loop-len.number c.loop-len.invariant (subst (λ (x : List ℕ). is_settled l x ≡ false) (all_behind c.args.bytes.now end) none)
