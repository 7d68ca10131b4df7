use Rattle.std.proofs.Common.{sym, subst, rules, arith, ap, ◌∙◌, ◌≡◌, inl, inr, take, ◌++◌, length, ◌<◌, length-append, length-take-le}
use Rattle.std.specs.Io.KnownBytes.{Consumes}
use Rattle.std.proofs.KnownBytes.{Consumes-trans, Consumes-kept}
use Rattle.std.proofs.lemmas.Result.{err_from_is_err_and}
use Rattle.capnp_units.specs.declared.errors.Error.{Error}
use Rattle.capnp_units.specs.declared.kinds.ErrorKind.TheVariants.{Device}
use Rattle.capnp_stream_io.proofs.lemmas.Filling.{take-put_mid_more}
use Rattle.capnp_stream_io.proofs.adapters.read_whole.Goals as goal

pub loop-at-preserved : goal.loop-at-preserved
loop-at-preserved g c = record {
  within = search rules;
  same = search rules;
  taken = subst (Consumes _ _) (sym (take-put_mid_more c.loop-at.at _ c.in_ok-n.n c.loop-at.buf c.read.new.buf c.loop-at.invariant.within c.in_ok-n.ensures.bound.0))
      (Consumes-trans _ _ _ _ _ c.loop-at.invariant.taken c.in_ok-n.ensures.bytes.0);
  count = search rules;
}

pub returns-then-n-eq0-clause-part : goal.returns-then-n-eq0-clause-part
returns-then-n-eq0-clause-part g c =
    let front = take c.loop-at.at c.loop-at.buf in
    let last = take c.in_ok-n.n c.read.new.buf in
    let short : length (front ++ last) < length c.args.buf.now =
    omega (arith, length-append front last, length-take-le c.loop-at.at c.loop-at.buf c.loop-at.invariant.within, length-take-le c.in_ok-n.n c.read.new.buf c.in_ok-n.ensures.bound.0) in
    inr (
      c.from.ensures,
      (
        front ++ last,
        short,
        Consumes-trans _ _ _ _ _ c.loop-at.invariant.taken c.in_ok-n.ensures.bytes.0,
        c.in_ok-n.ensures.bytes.1 (omega arith) (omega arith),
      ),
    )

pub returns-in_err-n-clause-part : goal.returns-in_err-n-clause-part
returns-in_err-n-clause-part g c =
    let r = err_from_is_err_and c.from_residual.result c.from_residual.ensures.1 in
    let device : r.0.kind ≡ Device = ap (λ (e : Error). e.kind) r.2 ∙ c.in_err-n.ensures.refusal in
    let front = take c.loop-at.at c.loop-at.buf in
    let short : length front < length c.args.buf.now = omega (arith, length-take-le c.loop-at.at c.loop-at.buf c.loop-at.invariant.within) in
    rw r.1 (inl (device, (front, short, Consumes-kept _ _ _ front c.loop-at.invariant.taken c.in_err-n.ensures.bytes)))
