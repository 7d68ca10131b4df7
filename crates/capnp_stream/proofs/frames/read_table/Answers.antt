use Rattle.std.proofs.Common.{inl, inr, ◌∙◌, ◌≡◌, ◌≤◌, ◌<◌, ◌^◌, arith, ap, sym, subst, sum, refl, length}
use Rattle.std.proofs.lemmas.Result.{err_from_is_err_and}
use Rattle.capnp_model.specs.Spelling.{AreShort}
use Rattle.capnp_stream.specs.Segments.{lengths_of}
use Rattle.capnp_stream.specs.Flat.{table_bytes}
use Rattle.capnp_stream.proofs.FlatLemmas.{table-holds}
use Rattle.capnp_stream.proofs.lemmas.FrameLemmas.{no-part, TakesTable-of_lengths}
use Rattle.capnp_stream.proofs.TableLemmas.{count-part, rest-fault, rest-part, table-of_buffer, table-short, table-sum, any-room, read-kind}
use Rattle.capnp_stream.proofs.RefusalLemmas.{wants-none, piece-wants-none, unread, memory-faultless, memory-kind, memory-counts, counts-behind, no-shorter, same-reach}
use Rattle.capnp_stream.proofs.frames.read_table.Goals as goal

pub returns-in_err-table : goal.returns-in_err-table
returns-in_err-table g c =
    let p = err_from_is_err_and c.from_residual.result c.from_residual.ensures.1 in
    let r = c.in_err-table.ensures in
    let kind = c.in_err-table.field-0.0.kind in
    rw (p.1, p.2) (record {
      few = tt;
      short = tt;
      bound = tt;
      table = tt;
      refused = λ framing. absurd (memory-faultless kind r.refusal framing);
      kind = memory-kind kind r.refusal g.F.MessageForm.faults;
      part = no-part g.F.MessageForm.reader g.met.F.MessageForm.fronts c.args.limit _;
      wanted = λ _. inl (unread _);
      count = memory-counts kind r.refusal _ _ refl;
    })

pub returns-in_err-count : goal.returns-in_err-count
returns-in_err-count g c =
    let p = err_from_is_err_and c.from_residual-in_err-count.result c.from_residual-in_err-count.ensures.1 in
    let r = c.in_err-count.ensures in
    let kind = c.in_err-count.field-0.0.kind in
    rw (p.1, p.2) (record {
      few = tt;
      short = tt;
      bound = tt;
      table = tt;
      refused = r.refused c.args.limit;
      kind = r.read_kind;
      part = r.part c.args.limit;
      wanted = λ want. absurd (wants-none g.F.MessageForm.faults kind r.fill_kind want);
      count = r.failures;
    })

pub returns-in_err-reserve : goal.returns-in_err-reserve
returns-in_err-reserve g c =
    let p = err_from_is_err_and c.from_residual-in_err-reserve.result c.from_residual-in_err-reserve.ensures.1 in
    let r = c.in_err-reserve.ensures in
    let kind = c.in_err-reserve.field-0.0.kind in
    let part = count-part g.F.MessageForm.reader g.met.F.MessageForm.fronts c.args.limit c.in_ok-count.count c.fill_count.new.buffer c.in_ok-count.ensures.count c.in_ok-count.ensures.few.1 _ _ c.in_ok-count.ensures.first
    (omega (arith, c.in_ok-table.ensures.room, r.refusal.1)) in
    rw (p.1, p.2) (record {
      few = tt;
      short = tt;
      bound = tt;
      table = tt;
      refused = λ framing. absurd (memory-faultless kind r.refusal.0 framing);
      kind = memory-kind kind r.refusal.0 g.F.MessageForm.faults;
      part = part;
      wanted = λ _. inr (inl (_, c.in_ok-count.ensures.first));
      count = memory-counts kind r.refusal.0 _ _ c.in_ok-count.ensures.failures;
    })

pub returns-in_err-fill_others : goal.returns-in_err-fill_others
returns-in_err-fill_others g c =
    let p = err_from_is_err_and c.from_residual-in_err-fill_others.result c.from_residual-in_err-fill_others.ensures.1 in
    let r = c.in_err-fill_others.ensures in
    let kind = c.in_err-fill_others.field-0.0.kind in
    let fault = rest-fault g.F.MessageForm.reader g.met.F.MessageForm.fronts c.args.limit c.in_ok-count.count c.fill_count.new.buffer c.in_ok-count.ensures.count c.in_ok-count.ensures.few.1 _ _ c.in_ok-count.ensures.first _ _ r.kind r.part in
    let part = rest-part g.F.MessageForm.reader g.met.F.MessageForm.fronts c.args.limit c.in_ok-count.count c.fill_count.new.buffer c.in_ok-count.ensures.count c.in_ok-count.ensures.few.1 _ _ c.in_ok-count.ensures.first _ _ r.kind r.part in
    rw (p.1, p.2) (record {
      few = tt;
      short = tt;
      bound = tt;
      table = tt;
      refused = fault;
      kind = read-kind g.F.MessageForm.faults kind r.own;
      part = part;
      wanted = λ want. absurd (piece-wants-none g.F.MessageForm.faults kind r.own want);
      count = counts-behind kind _ _ _ c.in_ok-count.ensures.failures r.failures;
    })

pub returns : goal.returns
returns g c =
    let n = c.in_ok-count.count in
    let few = c.in_ok-count.ensures.few in
    let bytes = c.fill_others.new.buffer in
    let there : table_bytes n ≤ length c.fill_count.new.buffer = any-room n _ few.1 (no-shorter _ _ _ (same-reach 2048) c.fill_count.auto.buffer) in
    let read = table-of_buffer g.F.MessageForm.reader g.met.F.MessageForm.fronts c.args.limit c.in_ok-count.count c.fill_count.new.buffer c.in_ok-count.ensures.count c.in_ok-count.ensures.few.1 _ _ c.in_ok-count.ensures.first
    _ bytes c.fill_others.auto.buffer there c.in_ok-fill_others.ensures.kept c.in_ok-fill_others.ensures.ok in
    let short = table-short n bytes c.are_bytes.ensures in
    let total = table-sum n bytes few.1 (no-shorter _ _ _ there c.fill_others.auto.buffer) c.are_bytes.ensures in
    let count = table-holds n bytes (no-shorter _ _ _ there c.fill_others.auto.buffer) in
    let size : length (lengths_of c.fill.new.self) ≡ n = ap length c.fill.ensures ∙ count in
    record {
      few = (subst (λ k. 0 < k) (sym size) few.0, subst (λ k. k ≤ 511) (sym size) few.1);
      short = subst AreShort (sym c.fill.ensures) short;
      bound = subst (λ ns. sum ns < 2 ^ 41) (sym c.fill.ensures) total;
      table = TakesTable-of_lengths g.F.MessageForm.reader g.met.F.MessageForm.fronts c.args.limit _ _ _ _ c.fill.ensures read;
      refused = tt;
      kind = tt;
      part = tt;
      wanted = tt;
      count = c.in_ok-fill_others.ensures.failures ∙ c.in_ok-count.ensures.failures;
    }
