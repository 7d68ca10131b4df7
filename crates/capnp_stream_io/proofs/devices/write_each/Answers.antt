use Rattle.std.proofs.Common.{rules}
use Rattle.std.proofs.KnownBytes.{Appends-kept}
use Rattle.std.proofs.lemmas.Result.{err_from_is_err_and}
use Rattle.capnp_stream_io.proofs.lemmas.KnownLemmas.{Appends-part, Appends-take}
use Rattle.capnp_stream_io.proofs.devices.write_each.Goals as goal

pub loop-at-preserved : goal.loop-at-preserved
loop-at-preserved g c = record {
  within = search rules;
  taken = Appends-take _ _ _ c.loop-at.at c.in_ok-n.n c.args.buf.now c.loop-at.invariant.taken c.in_ok-n.ensures.bytes;
}

pub returns-in_err-n-clause-err : goal.returns-in_err-n-clause-err
returns-in_err-n-clause-err g c =
    let p = err_from_is_err_and c.from_residual.result c.from_residual.ensures.1 in
    rw p.1 (Appends-part _ _ c.loop-at.at c.args.buf.now (Appends-kept _ _ _ _ c.loop-at.invariant.taken c.in_err-n.ensures.bytes))

pub returns-then-n-eq0-clause-err : goal.returns-then-n-eq0-clause-err
returns-then-n-eq0-clause-err g c = Appends-part _ _ _ c.args.buf.now (Appends-take _ _ _ c.loop-at.at c.in_ok-n.n c.args.buf.now c.loop-at.invariant.taken c.in_ok-n.ensures.bytes)
