use Rattle.std.proofs.Common.{◌∙◌, ◌+◌, ◌%◌, ◌^◌, sym, ap}
use Rattle.std.proofs.lemmas.Result.{err_from_is_err_and}
use Rattle.capnp_stream.proofs.TableLemmas.{rest-fault, rest-part, table-of_buffer, word-kept, any-room, any-front, read-kind, fill-kind}
use Rattle.capnp_stream.proofs.RefusalLemmas.{between, counts-behind, no-shorter}
use Rattle.capnp_stream.proofs.kept.fill_any_table.Goals as goal

pub returns-in_err-count : goal.returns-in_err-count
returns-in_err-count g c =
    let p = err_from_is_err_and c.from_residual.result c.from_residual.ensures.1 in
    let r = c.in_err-count.ensures in
    rw (p.1, p.2) (record {
      few = tt;
      count = tt;
      table = tt;
      refused = r.refused c.args.limit;
      read_kind = r.read_kind;
      fill_kind = r.fill_kind;
      part = r.part c.args.limit;
      failures = r.failures;
    })

pub returns-in_err-fill_others : goal.returns-in_err-fill_others
returns-in_err-fill_others g c =
    let p = err_from_is_err_and c.from_residual-in_err-fill_others.result c.from_residual-in_err-fill_others.ensures.1 in
    let r = c.in_err-fill_others.ensures in
    let kind = c.in_err-fill_others.field-0.0.kind in
    let fault = rest-fault g.F.MessageForm.reader g.met.F.MessageForm.fronts c.args.limit c.in_ok-count.count c.fill_count.new.buffer c.in_ok-count.ensures.count c.in_ok-count.ensures.few.1 _ _ c.in_ok-count.ensures.first _ _ r.kind r.part in
    let part = rest-part g.F.MessageForm.reader g.met.F.MessageForm.fronts c.args.limit c.in_ok-count.count c.fill_count.new.buffer c.in_ok-count.ensures.count c.in_ok-count.ensures.few.1 _ _ c.in_ok-count.ensures.first _ _ r.kind r.part in
    rw (p.1, p.2) (record {
      few = tt;
      count = tt;
      table = tt;
      refused = fault;
      read_kind = read-kind g.F.MessageForm.faults kind r.own;
      fill_kind = fill-kind g.F.MessageForm.faults kind r.own;
      part = part;
      failures = counts-behind kind _ _ _ c.in_ok-count.ensures.failures r.failures;
    })

pub returns : goal.returns
returns g c =
    let n = c.in_ok-count.count in
    let few = c.in_ok-count.ensures.few in
    let there = any-room n _ few.1 (no-shorter _ _ _ c.requires c.fill_count.auto.buffer) in
    let word = word-kept c.fill_count.new.buffer c.fill_others.new.buffer c.fill_others.auto.buffer (between _ _ _ (any-front n) there) c.in_ok-fill_others.ensures.kept in
    let table = table-of_buffer g.F.MessageForm.reader g.met.F.MessageForm.fronts c.args.limit c.in_ok-count.count c.fill_count.new.buffer c.in_ok-count.ensures.count c.in_ok-count.ensures.few.1 _ _ c.in_ok-count.ensures.first
    _ c.fill_others.new.buffer c.fill_others.auto.buffer there c.in_ok-fill_others.ensures.kept c.in_ok-fill_others.ensures.ok in
    record {
      few = few;
      count = c.in_ok-count.ensures.count ∙ ap (λ w. w % 2 ^ 32 + 1) (sym word);
      table = table;
      refused = tt;
      read_kind = tt;
      fill_kind = tt;
      part = tt;
      failures = c.in_ok-fill_others.ensures.failures ∙ c.in_ok-count.ensures.failures;
    }
