use Rattle.std.proofs.Common.{inr, true, false, ◌≡◌, ◌*◌, ◌/◌, arith, length, sum, sym, ap, subst, ℕ, ◌∙◌}
use Rattle.std.proofs.lemmas.Result.{err_from_is_err_and}
use Rattle.capnp_model.specs.Messages.{within}
use Rattle.capnp_stream.specs.Frames.{IsPieceRefusal}
use Rattle.capnp_stream.specs.Flat.{table_lengths, table_bytes}
use Rattle.capnp_stream.proofs.FlatLemmas.{table-holds}
use Rattle.capnp_stream.proofs.TableLemmas.{fill-kind}
use Rattle.capnp_stream.proofs.RefusalLemmas.{piece-lacks-none, counts-behind}
use Rattle.capnp_stream.proofs.lemmas.FrameLemmas.{large-fault, large-part, table-part, table-needs, body-fault, body-part, message-of_body}
use Rattle.capnp_stream.proofs.lent.fill_message.Goals as goal

pub returns-in_err-count : goal.returns-in_err-count
returns-in_err-count g c =
    let p = err_from_is_err_and c.from_residual.result c.from_residual.ensures.1 in
    let r = c.in_err-count.ensures in
    rw (p.1, p.2) (record {
      message = tt;
      refused = r.refused;
      short = r.short;
      kind = r.kind;
      part = r.part;
      room = r.room;
      failures = r.failures;
    })

pub returns-then-not-is_within : goal.returns-then-not-is_within
returns-then-not-is_within g c =
    let n = c.in_ok-count.count in
    let ns = table_lengths n c.fill_table.new.buffer in
    let table = c.in_ok-count.ensures.table in
    let total : c.words_before-total.result ≡ sum ns = c.words_before-total.ensures.total in
    let large : within (sum ns) c.args.limit ≡ false = ap (λ m. within m c.args.limit) (sym total) ∙ sym c.is_within.ensures ∙ c.if-not-is_within.true in
    rw c.from.ensures (record {
      message = tt;
      refused = λ _. large-fault g.F.MessageForm.reader g.met.F.MessageForm.fronts c.args.limit ns _ _ table large;
      short = λ lack. absurd cc;
      kind = tt;
      part = large-part g.F.MessageForm.reader g.met.F.MessageForm.fronts c.args.limit ns _ _ table large;
      room = λ lack. absurd cc;
      failures = c.in_ok-count.ensures.failures;
    })

pub returns-then-buffer-table : goal.returns-then-buffer-table
returns-then-buffer-table g c =
    let n = c.in_ok-count.count in
    let ns = table_lengths n c.fill_table.new.buffer in
    let table = c.in_ok-count.ensures.table in
    let total : c.words_before-total.result ≡ sum ns = c.words_before-total.ensures.total in
    let kept : within (sum ns) c.args.limit ≡ true = ap (λ m. within m c.args.limit) (sym total) ∙ sym c.is_within.ensures ∙ c.if-not-is_within.false in
    let long : table_bytes (length ns) ≡ table_bytes n = ap table_bytes (table-holds n c.fill_table.new.buffer c.in_ok-count.ensures.count.there) in
    let needs = table-needs g.F.MessageForm.reader g.met.F.MessageForm.fronts c.args.limit ns _ _ table (length c.args.buffer.now) kept (omega (arith, long, total, c.if-buffer-table.true, c.fill_table.auto.buffer)) in
    let part = table-part g.F.MessageForm.reader g.met.F.MessageForm.fronts c.args.limit ns _ _ table kept (omega (arith, total, c.if-buffer-table.true)) in
    rw c.from-then-buffer-table.ensures (record {
      message = tt;
      refused = λ framing. absurd framing;
      short = λ _. needs;
      kind = tt;
      part = part;
      room = λ _. inr (inr (ns, table));
      failures = c.in_ok-count.ensures.failures;
    })

pub returns-in_err-fill_body : goal.returns-in_err-fill_body
returns-in_err-fill_body g c =
    let p = err_from_is_err_and c.from_residual-in_err-fill_body.result c.from_residual-in_err-fill_body.ensures.1 in
    let r = c.in_err-fill_body.ensures in
    let kind = c.in_err-fill_body.field-0.0.kind in
    let n = c.in_ok-count.count in
    let ns = table_lengths n c.fill_table.new.buffer in
    let table = c.in_ok-count.ensures.table in
    let total : c.words_before-total.result ≡ sum ns = c.words_before-total.ensures.total in
    let kept : within (sum ns) c.args.limit ≡ true = ap (λ m. within m c.args.limit) (sym total) ∙ sym c.is_within.ensures ∙ c.if-not-is_within.false in
    let Cut : ℕ → Type 0 = λ m. IsPieceRefusal g.F.MessageForm.reader m (g.R.Read.remaining c.fill_table.new.source) (g.R.Read.remaining c.fill_body.new.source) kind in
    let size : 8 * c.words_before-total.result / 8 ≡ sum ns = omega (arith, total) in
    let cut = subst Cut size r.cut in
    rw (p.1, p.2) (record {
      message = tt;
      refused = body-fault g.F.MessageForm.reader g.met.F.MessageForm.fronts c.args.limit ns _ _ table kept _ _ cut;
      short = λ lack. absurd (piece-lacks-none g.F.MessageForm.faults kind r.own lack);
      kind = fill-kind g.F.MessageForm.faults kind r.own;
      part = body-part g.F.MessageForm.reader g.met.F.MessageForm.fronts c.args.limit ns _ _ table kept _ _ cut;
      room = λ lack. absurd (piece-lacks-none g.F.MessageForm.faults kind r.own lack);
      failures = counts-behind kind _ _ _ c.in_ok-count.ensures.failures r.failures;
    })

pub returns : goal.returns
returns g c =
    let n = c.in_ok-count.count in
    let ns = table_lengths n c.fill_table.new.buffer in
    let table = c.in_ok-count.ensures.table in
    let total : c.words_before-total.result ≡ sum ns = c.words_before-total.ensures.total in
    let kept : within (sum ns) c.args.limit ≡ true = ap (λ m. within m c.args.limit) (sym total) ∙ sym c.is_within.ensures ∙ c.if-not-is_within.false in
    let done = c.in_ok-fill_body.ensures in
    let taken = message-of_body g.F.MessageForm.reader g.met.F.MessageForm.fronts c.args.limit ns _ _ table kept _ _ done.body in
    record {
      message = record { described = done.described; taken = taken; kept = ap (λ l. within (sum l) c.args.limit) done.table ∙ kept };
      refused = tt;
      short = tt;
      kind = tt;
      part = tt;
      room = tt;
      failures = done.failures ∙ c.in_ok-count.ensures.failures;
    }
