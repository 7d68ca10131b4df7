use Rattle.std.proofs.Common.{sym, subst, rules, arith, inr, take, ◌++◌, length, ◌<◌, length-append, length-take-le}
use Rattle.std.specs.Io.KnownBytes.{Consumes}
use Rattle.std.proofs.KnownBytes.{Consumes-trans}
use Rattle.capnp_stream_io.proofs.lemmas.Filling.{take-put_mid_more}
use Rattle.capnp_stream_io.proofs.traits.Read.read_exact.Goals as goal

pub loop-at-preserved : goal.loop-at-preserved
loop-at-preserved g c = record {
  within = search rules;
  same = search rules;
  taken = subst (Consumes _ _) (sym (take-put_mid_more c.loop-at.at _ c.in_ok-n.n c.loop-at.buf c.read.new.buf c.loop-at.invariant.within c.in_ok-n.ensures.bound.0))
      (Consumes-trans _ _ _ _ _ c.loop-at.invariant.taken c.in_ok-n.ensures.bytes.0);
  count = search rules;
}

pub returns-then-n-eq0-clause-part : goal.returns-then-n-eq0-clause-part
returns-then-n-eq0-clause-part g c =
    let front = take c.loop-at.at c.loop-at.buf in
    let last = take c.in_ok-n.n c.read.new.buf in
    let short : length (front ++ last) < length c.args.buf.now =
    omega (arith, length-append front last, length-take-le c.loop-at.at c.loop-at.buf c.loop-at.invariant.within, length-take-le c.in_ok-n.n c.read.new.buf c.in_ok-n.ensures.bound.0) in
    inr (
      c.from.ensures,
      (
        front ++ last,
        short,
        Consumes-trans _ _ _ _ _ c.loop-at.invariant.taken c.in_ok-n.ensures.bytes.0,
        c.in_ok-n.ensures.bytes.1 (omega arith) (omega arith),
      ),
    )
