use Rattle.std.proofs.Common.{◌∙◌, ◌≤◌, List, ℕ, length, refl, sym, subst}
use Rattle.std.specs.Result.{IfOk}
use Rattle.std.specs.Vec.{with_items}
use Rattle.std.proofs.lemmas.List.{with_items_is}
use Rattle.capnp_stream.specs.Shown.{TakesShown}
use Rattle.capnp_stream.proofs.RefusalLemmas.{unread, refilled, table-room}
use Rattle.capnp_stream.proofs.kept.MessageBuffer.read_shown.Goals as goal

pub returns-then-len-lt-LONGEST_TABLE : goal.returns-then-len-lt-LONGEST_TABLE
returns-then-len-lt-LONGEST_TABLE g c =
    record {
      message = unread _;
      len = refl;
      room = tt;
      kept = tt;
      refusal = tt;
      count = refl;
    }

pub returns : goal.returns
returns g c =
    let read = c.read_shown.new.buffer in
    let old = c.args.self.now.bytes in
    let held = with_items_is old read (c.read_shown.auto.buffer ∙ c.deref_mut.ensures.len) in
    let size = refilled c.args.self.now.bytes c.deref_mut.result.now c.read_shown.new.buffer c.read_shown.auto.buffer c.deref_mut.ensures.len c.deref_mut.ensures.value in
    let Of : List ℕ → Type 0 = λ l. IfOk c.read_shown.result (TakesShown g.F.MessageForm.reader c.args.limit (g.R.Read.remaining c.args.source.now) (g.R.Read.remaining c.read_shown.new.source) l) in
    let there : 2048 ≤ length (with_items old read).items = subst (λ n. 2048 ≤ n) (c.len.ensures ∙ old.ok.0 ∙ sym size) c.if-len-lt-LONGEST_TABLE.false in
    let shown = c.read_shown.ensures in
    record {
      message = subst Of (sym held) shown.message;
      len = size;
      room = table-room _ c.read_shown.result there;
      kept = shown.kept;
      refusal = shown.refusal;
      count = shown.count;
    }
