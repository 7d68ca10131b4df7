use Rattle.std.proofs.Common.{◌∙◌, ◌≤◌, ◌<◌, [], arith, length, max, append-nil, sym, ap, subst}
use Rattle.std.proofs.lemmas.Result.{err_from_is_err_and}
use Rattle.capnp_stream.proofs.RefusalLemmas.{same-reach, own-reach, other-reach, below-reach, resized-front}
use Rattle.capnp_stream.proofs.kept.MessageBuffer.grow_to.Goals as goal

pub returns-else-len : goal.returns-else-len
returns-else-len c =
    let old = c.args.self.now.bytes in
    record {
      front = ([], sym (append-nil old.items));
      room = omega (arith, c.if-len.false, c.len.ensures, old.ok.0);
      most = own-reach _ _;
      stays = tt;
      refusal = tt;
    }

pub returns-in_ok-resize : goal.returns-in_ok-resize
returns-in_ok-resize c =
    let old = c.args.self.now.bytes in
    let new = c.resize.new.self in
    let below : length old.items < c.args.len = omega (arith, c.if-len.true, c.len.ensures, old.ok.0) in
    record {
      front = resized-front old.items new.items _ c.args.len (below-reach _ _ below) c.in_ok-resize.ensures.items;
      room = subst (λ n. c.args.len ≤ n) (sym c.in_ok-resize.ensures.len ∙ new.ok.0) (same-reach _);
      most = subst (λ n. n ≤ max (length old.items) c.args.len) (sym c.in_ok-resize.ensures.len ∙ new.ok.0) (other-reach _ _);
      stays = tt;
      refusal = tt;
    }

pub returns-in_err-resize : goal.returns-in_err-resize
returns-in_err-resize c =
    let p = err_from_is_err_and c.from_residual.result c.from_residual.ensures.1 in
    let old = c.args.self.now.bytes in
    let below : length old.items < c.args.len = omega (arith, c.if-len.true, c.len.ensures, old.ok.0) in
    rw p.1 (record {
      front = ([], c.in_err-resize.ensures.items ∙ sym (append-nil old.items));
      room = tt;
      most = tt;
      stays = ap length c.in_err-resize.ensures.items;
      refusal = (p.2, below);
    })
