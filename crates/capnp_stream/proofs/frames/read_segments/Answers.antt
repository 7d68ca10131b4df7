use Rattle.std.proofs.Common.{true, false, ◌≡◌, ◌≤◌, ◌*◌, arith, sum, sym, ap, ◌∙◌, subst, ℕ, length}
use Rattle.std.proofs.lemmas.Result.{err_from_is_err_and}
use Rattle.capnp_model.specs.Segments.{Segments}
use Rattle.capnp_model.specs.Bytes.{words_in_bytes, AreBytes}
use Rattle.capnp_model.specs.Messages.{cut, within}
use Rattle.capnp_model.specs.Spelling.{CanSpell}
use Rattle.capnp_model.proofs.lemmas.WordsInBytes.{words_in_bytes-length}
use Rattle.capnp_stream.specs.Segments.{whole_words, lengths_of, segments_of}
use Rattle.capnp_stream.specs.Frames.{TakesMessage, IsPieceRefusal}
use Rattle.capnp_stream.proofs.lemmas.WordLemmas.{whole_words-of_length, cut-of_joined, concat-of_joined, writable-joined}
use Rattle.capnp_stream.proofs.SpellLemmas.{CanSpell-of_cut}
use Rattle.capnp_stream.proofs.lemmas.FrameLemmas.{large-fault, large-part, body-fault, body-part, message-of_pieces}
use Rattle.capnp_stream.proofs.ReadLemmas.{table-wanted}
use Rattle.capnp_stream.proofs.RefusalLemmas.{counts-behind}
use Rattle.capnp_stream.proofs.frames.read_segments.Goals as goal

pub returns-in_err-table : goal.returns-in_err-table
returns-in_err-table g c =
    let p = err_from_is_err_and c.from_residual.result c.from_residual.ensures.1 in
    let r = c.in_err-table.ensures in
    rw (p.1, p.2) (record {
      message = tt;
      kept = tt;
      joined = tt;
      writable = tt;
      refused = r.refused;
      kind = r.kind;
      part = r.part;
      wanted = r.wanted;
      count = r.count;
    })

pub returns-then-not-is_within : goal.returns-then-not-is_within
returns-then-not-is_within g c =
    let ns = lengths_of c.in_ok-table.table in
    let t = c.in_ok-table.ensures in
    let large : within (sum ns) c.args.limit ≡ false = ap (λ n. within n c.args.limit) (sym c.total_words-total.ensures) ∙ sym c.is_within.ensures ∙ c.if-not-is_within.true in
    rw c.from.ensures (record {
      message = tt;
      kept = tt;
      joined = tt;
      writable = tt;
      refused = λ _. large-fault g.F.MessageForm.reader g.met.F.MessageForm.fronts c.args.limit ns _ _ t.table large;
      kind = tt;
      part = large-part g.F.MessageForm.reader g.met.F.MessageForm.fronts c.args.limit ns _ _ t.table large;
      wanted = λ want. absurd cc;
      count = t.count;
    })

pub returns-in_err-bytes : goal.returns-in_err-bytes
returns-in_err-bytes g c =
    let p = err_from_is_err_and c.from_residual-in_err-bytes.result c.from_residual-in_err-bytes.ensures.1 in
    let r = c.in_err-bytes.ensures in
    let kind = c.in_err-bytes.field-0.0.kind in
    let ns = lengths_of c.in_ok-table.table in
    let t = c.in_ok-table.ensures in
    let kept : within (sum ns) c.args.limit ≡ true = ap (λ n. within n c.args.limit) (sym c.total_words-total.ensures) ∙ sym c.is_within.ensures ∙ c.if-not-is_within.false in
    let Cut : ℕ → Type 0 = λ n. IsPieceRefusal g.F.MessageForm.reader n (g.R.Read.remaining c.read_table.new.source) (g.R.Read.remaining c.take_piece.new.source) kind in
    let cut = subst Cut c.total_words-total.ensures r.cut in
    rw (p.1, p.2) (record {
      message = tt;
      kept = tt;
      joined = tt;
      writable = tt;
      refused = body-fault g.F.MessageForm.reader g.met.F.MessageForm.fronts c.args.limit ns _ _ t.table kept _ kind cut;
      kind = r.own;
      part = body-part g.F.MessageForm.reader g.met.F.MessageForm.fronts c.args.limit ns _ _ t.table kept _ kind cut;
      wanted = table-wanted g.F.MessageForm.reader c.args.limit ns _ _ _ _ kind t.table r.cut;
      count = counts-behind kind _ _ _ t.count r.count;
    })

pub returns : goal.returns
returns g c =
    let ns = lengths_of c.in_ok-table.table in
    let t = c.in_ok-table.ensures in
    let kept : within (sum ns) c.args.limit ≡ true = ap (λ n. within n c.args.limit) (sym c.total_words-total.ensures) ∙ sym c.is_within.ensures ∙ c.if-not-is_within.false in
    let body = c.in_ok-bytes.bytes.items in
    let long : length body ≡ 8 * sum ns = c.in_ok-bytes.ensures.len ∙ ap (λ n. 8 * n) c.total_words-total.ensures in
    let room : 8 * sum ns ≤ length body = omega (arith, long) in
    let parts : segments_of c.new.result ≡ cut ns (words_in_bytes (sum ns) body) = cut-of_joined _ body _ ns c.new.ensures.bytes c.new.ensures.ranges room in
    let words : whole_words body ≡ words_in_bytes (sum ns) body = whole_words-of_length (sum ns) body long in
    let small : AreBytes body = subst AreBytes c.deref.ensures.value c.are_bytes.ensures in
    let Of : Segments → Type 0 = TakesMessage g.F.MessageForm.reader c.args.limit (g.R.Read.remaining c.args.source.now) (g.R.Read.remaining c.take_piece.new.source) in
    let taken = message-of_pieces g.F.MessageForm.reader g.met.F.MessageForm.fronts c.args.limit ns _ _ t.table kept _ (whole_words body) (ap length words ∙ words_in_bytes-length (sum ns) body) c.in_ok-bytes.ensures.ok in
    record {
      message = subst Of (ap (cut ns) words ∙ sym parts) taken;
      kept = subst (CanSpell c.args.limit) (sym parts) (CanSpell-of_cut c.args.limit ns body t.few.0 t.few.1 t.short kept small);
      joined = concat-of_joined _ body _ ns c.new.ensures.bytes c.new.ensures.ranges long;
      writable = writable-joined _ body _ ns c.new.ensures.bytes c.new.ensures.ranges room t.short t.few.0 t.few.1;
      refused = tt;
      kind = tt;
      part = tt;
      wanted = tt;
      count = c.in_ok-bytes.ensures.count ∙ t.count;
    }
