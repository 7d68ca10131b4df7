use Rattle.std.proofs.Common.{inl, inr, ◌∙◌, ◌+◌, ◌%◌, ◌^◌, refl, sym, ap, arith, length}
use Rattle.std.proofs.lemmas.Result.{err_from_is_err_and}
use Rattle.capnp_stream.proofs.lemmas.FrameLemmas.{no-part}
use Rattle.capnp_stream.proofs.TableLemmas.{count-part, count-needs, rest-fault, rest-part, table-of_buffer, word-kept, fill-kind}
use Rattle.capnp_stream.proofs.RefusalLemmas.{lacks-none, piece-lacks-none, small-buffer, unread, counts-behind, no-shorter}
use Rattle.capnp_stream.proofs.lent.fill_table.Goals as goal

pub returns-then-buffer-lt8 : goal.returns-then-buffer-lt8
returns-then-buffer-lt8 g c =
    rw c.from.ensures (record {
      count = tt;
      table = tt;
      refused = λ framing. absurd framing;
      short = λ _. small-buffer g.F.MessageForm.reader c.args.limit _ (length c.args.buffer.now) c.if-buffer-lt8.true;
      kind = tt;
      part = no-part g.F.MessageForm.reader g.met.F.MessageForm.fronts c.args.limit _;
      room = λ _. inl (unread _);
      failures = refl;
    })

pub returns-in_err-count : goal.returns-in_err-count
returns-in_err-count g c =
    let p = err_from_is_err_and c.from_residual.result c.from_residual.ensures.1 in
    let r = c.in_err-count.ensures in
    let kind = c.in_err-count.field-0.0.kind in
    rw (p.1, p.2) (record {
      count = tt;
      table = tt;
      refused = r.refused c.args.limit;
      short = λ lack. absurd (lacks-none g.F.MessageForm.faults kind r.read_kind lack);
      kind = r.fill_kind;
      part = r.part c.args.limit;
      room = λ lack. absurd (lacks-none g.F.MessageForm.faults kind r.read_kind lack);
      failures = r.failures;
    })

pub returns-then-buffer-count : goal.returns-then-buffer-count
returns-then-buffer-count g c =
    let needs = count-needs g.F.MessageForm.reader g.met.F.MessageForm.fronts c.args.limit c.in_ok-count.count c.fill_count.new.buffer c.in_ok-count.ensures.count c.in_ok-count.ensures.few.1 _ _ c.in_ok-count.ensures.first
    (length c.args.buffer.now) (omega (arith, c.if-buffer-count.true, c.fill_count.auto.buffer)) in
    let part = count-part g.F.MessageForm.reader g.met.F.MessageForm.fronts c.args.limit c.in_ok-count.count c.fill_count.new.buffer c.in_ok-count.ensures.count c.in_ok-count.ensures.few.1 _ _ c.in_ok-count.ensures.first
    (omega (arith, c.if-buffer-count.true, c.if-buffer-lt8.false, c.fill_count.auto.buffer)) in
    rw c.from-then-buffer-count.ensures (record {
      count = tt;
      table = tt;
      refused = λ framing. absurd framing;
      short = λ _. needs;
      kind = tt;
      part = part;
      room = λ _. inr (inl (_, c.in_ok-count.ensures.first));
      failures = c.in_ok-count.ensures.failures;
    })

pub returns-in_err-fill_others : goal.returns-in_err-fill_others
returns-in_err-fill_others g c =
    let p = err_from_is_err_and c.from_residual-in_err-fill_others.result c.from_residual-in_err-fill_others.ensures.1 in
    let r = c.in_err-fill_others.ensures in
    let kind = c.in_err-fill_others.field-0.0.kind in
    let fault = rest-fault g.F.MessageForm.reader g.met.F.MessageForm.fronts c.args.limit c.in_ok-count.count c.fill_count.new.buffer c.in_ok-count.ensures.count c.in_ok-count.ensures.few.1 _ _ c.in_ok-count.ensures.first _ _ r.kind r.part in
    let part = rest-part g.F.MessageForm.reader g.met.F.MessageForm.fronts c.args.limit c.in_ok-count.count c.fill_count.new.buffer c.in_ok-count.ensures.count c.in_ok-count.ensures.few.1 _ _ c.in_ok-count.ensures.first _ _ r.kind r.part in
    rw (p.1, p.2) (record {
      count = tt;
      table = tt;
      refused = fault;
      short = λ lack. absurd (piece-lacks-none g.F.MessageForm.faults kind r.own lack);
      kind = fill-kind g.F.MessageForm.faults kind r.own;
      part = part;
      room = λ lack. absurd (piece-lacks-none g.F.MessageForm.faults kind r.own lack);
      failures = counts-behind kind _ _ _ c.in_ok-count.ensures.failures r.failures;
    })

pub returns : goal.returns
returns g c =
    let counted = c.in_ok-count.ensures in
    let word = word-kept c.fill_count.new.buffer c.fill_others.new.buffer c.fill_others.auto.buffer (no-shorter _ _ _ c.if-buffer-lt8.false c.fill_count.auto.buffer) c.in_ok-fill_others.ensures.kept in
    let table = table-of_buffer g.F.MessageForm.reader g.met.F.MessageForm.fronts c.args.limit c.in_ok-count.count c.fill_count.new.buffer c.in_ok-count.ensures.count c.in_ok-count.ensures.few.1 _ _ c.in_ok-count.ensures.first
    _ c.fill_others.new.buffer c.fill_others.auto.buffer c.if-buffer-count.false c.in_ok-fill_others.ensures.kept c.in_ok-fill_others.ensures.ok in
    record {
      count = record { some = counted.few.0; few = counted.few.1; count = counted.count ∙ ap (λ w. w % 2 ^ 32 + 1) (sym word); there = no-shorter _ _ _ c.if-buffer-count.false c.fill_others.auto.buffer };
      table = table;
      refused = tt;
      short = tt;
      kind = tt;
      part = tt;
      room = tt;
      failures = c.in_ok-fill_others.ensures.failures ∙ counted.failures;
    }
