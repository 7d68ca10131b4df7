use Rattle.std.proofs.Common.{inl, inr, true, false, ◌≡◌, ◌≤◌, ◌<◌, ◌+◌, ◌*◌, ◌/◌, ◌%◌, ◌^◌, ◌++◌, length, max, sum, refl, sym, ap, subst, List, ℕ, ◌∙◌}
use Rattle.std.specs.Int.{from_le_bytes, w64}
use Rattle.std.specs.Vec.{with_items}
use Rattle.std.proofs.lemmas.List.{with_items_is}
use Rattle.std.proofs.lemmas.Result.{err_from_is_err_and}
use Rattle.capnp_units.specs.Segments.{words_in}
use Rattle.capnp_model.specs.Messages.{within}
use Rattle.capnp_stream.specs.Frames.{IsPieceRefusal, TakesBody}
use Rattle.capnp_stream.specs.Flat.{table_lengths, table_bytes, frame_segments, Describes}
use Rattle.capnp_stream.specs.Lent.{HoldsMessage}
use Rattle.capnp_stream.specs.declared.flat.NoAllocSegmentTableInfo.{NoAllocSegmentTableInfo}
use Rattle.capnp_stream.proofs.lemmas.WordLemmas.{from_le_bytes-front}
use Rattle.capnp_stream.proofs.FlatLemmas.{table-holds, table-grown}
use Rattle.capnp_stream.proofs.TableLemmas.{read-kind}
use Rattle.capnp_stream.proofs.RefusalLemmas.{own-reach, grows-little, grows-again, grew-in-vain, message-reach, wants-none, piece-wants-none, unread, memory-faultless, memory-kind, memory-counts, grown-front, refilled, no-shorter, between, counts-behind, any-table, table-word, words-of, wants-words, wants-longer}
use Rattle.capnp_stream.proofs.lemmas.FrameLemmas.{no-part, large-part, large-fault, table-part, table-longer, table-reaches, body-fault, body-part, message-of_body}
use Rattle.capnp_stream.proofs.kept.MessageBuffer.fill.Goals as goal

pub returns-in_err-grow_to : goal.returns-in_err-grow_to
returns-in_err-grow_to g c =
    let p = err_from_is_err_and c.from_residual.result c.from_residual.ensures.1 in
    let refusal = c.in_err-grow_to.ensures.refusal in
    let kind = c.in_err-grow_to.field-0.0.kind in
    rw (p.1, p.2) (record {
      message = tt;
      refused = λ framing. absurd (memory-faultless kind refusal.0 framing);
      kind = memory-kind kind refusal.0 g.F.MessageForm.faults;
      part = no-part g.F.MessageForm.reader g.met.F.MessageForm.fronts c.args.limit _;
      wanted = λ _. inl (unread _);
      longer = λ _. inl refusal.1;
      most = tt;
      vain = inl (grows-little _ _ _ (own-reach _ _) c.in_err-grow_to.ensures.stays);
      grown = (grown-front c.args.self.now.bytes.items c.grow_to.new.self.bytes.items c.in_err-grow_to.ensures.front, tt);
      failures = memory-counts kind refusal.0 _ _ refl;
    })

pub returns-in_err-count : goal.returns-in_err-count
returns-in_err-count g c =
    let p = err_from_is_err_and c.from_residual-in_err-count.result c.from_residual-in_err-count.ensures.1 in
    let r = c.in_err-count.ensures in
    let kind = c.in_err-count.field-0.0.kind in
    let front = grown-front c.args.self.now.bytes.items c.grow_to.new.self.bytes.items c.in_ok-grow_to.ensures.front in
    let kept-len = refilled c.grow_to.new.self.bytes c.deref_mut.result.now c.fill_any_table.new.buffer c.fill_any_table.auto.buffer c.deref_mut.ensures.len c.deref_mut.ensures.value in
    let longer = no-shorter _ _ _ front kept-len in
    rw (p.1, p.2) (record {
      message = tt;
      refused = r.refused;
      kind = r.read_kind;
      part = r.part;
      wanted = λ want. absurd (wants-none g.F.MessageForm.faults kind r.fill_kind want);
      longer = λ want. absurd (wants-none g.F.MessageForm.faults kind r.fill_kind want);
      most = tt;
      vain = inl (grows-little _ _ _ c.in_ok-grow_to.ensures.most kept-len);
      grown = (longer, tt);
      failures = r.failures;
    })

pub returns-then-not-is_within : goal.returns-then-not-is_within
returns-then-not-is_within g c =
    let n = c.in_ok-count.count in
    let read = c.fill_any_table.new.buffer in
    let sized = c.fill_any_table.auto.buffer ∙ c.deref_mut.ensures.len in
    let held : (with_items c.grow_to.new.self.bytes read).items ≡ read = with_items_is c.grow_to.new.self.bytes read sized in
    let ns = table_lengths n read in
    let total : c.words_before-total.result ≡ sum ns = c.words_before-total.ensures.total ∙ ap (λ l. sum (table_lengths n l)) (c.deref.ensures.value ∙ held) in
    let large : within (sum ns) c.args.limit ≡ false = ap (λ m. within m c.args.limit) (sym total) ∙ sym c.is_within.ensures ∙ c.if-not-is_within.true in
    let front = grown-front c.args.self.now.bytes.items c.grow_to.new.self.bytes.items c.in_ok-grow_to.ensures.front in
    let kept-len = refilled c.grow_to.new.self.bytes c.deref_mut.result.now c.fill_any_table.new.buffer c.fill_any_table.auto.buffer c.deref_mut.ensures.len c.deref_mut.ensures.value in
    let longer = no-shorter _ _ _ front kept-len in
    rw c.from.ensures (record {
      message = tt;
      refused = λ _. large-fault g.F.MessageForm.reader g.met.F.MessageForm.fronts c.args.limit ns _ _ c.in_ok-count.ensures.table large;
      kind = tt;
      part = large-part g.F.MessageForm.reader g.met.F.MessageForm.fronts c.args.limit ns _ _ c.in_ok-count.ensures.table large;
      wanted = λ want. absurd cc;
      longer = λ want. absurd cc;
      most = tt;
      vain = inl (grows-little _ _ _ c.in_ok-grow_to.ensures.most kept-len);
      grown = (longer, tt);
      failures = c.in_ok-count.ensures.failures;
    })

pub returns-in_err-grow_to-2 : goal.returns-in_err-grow_to-2
returns-in_err-grow_to-2 g c =
    let p = err_from_is_err_and c.from_residual-in_err-grow_to-2.result c.from_residual-in_err-grow_to-2.ensures.1 in
    let refusal = c.in_err-grow_to-2.ensures.refusal in
    let kind = c.in_err-grow_to-2.field-0.0.kind in
    let n = c.in_ok-count.count in
    let read = c.fill_any_table.new.buffer in
    let short : length (with_items c.grow_to.new.self.bytes read).items < table_bytes n + 8 * c.words_before-total.result = refusal.1 in
    let sized = c.fill_any_table.auto.buffer ∙ c.deref_mut.ensures.len in
    let held : (with_items c.grow_to.new.self.bytes read).items ≡ read = with_items_is c.grow_to.new.self.bytes read sized in
    let ns = table_lengths n read in
    let total : c.words_before-total.result ≡ sum ns = c.words_before-total.ensures.total ∙ ap (λ l. sum (table_lengths n l)) (c.deref.ensures.value ∙ held) in
    let kept : within (sum ns) c.args.limit ≡ true = ap (λ m. within m c.args.limit) (sym total) ∙ sym c.is_within.ensures ∙ c.if-not-is_within.false in
    let front = grown-front c.args.self.now.bytes.items c.grow_to.new.self.bytes.items c.in_ok-grow_to.ensures.front in
    let kept-len = refilled c.grow_to.new.self.bytes c.deref_mut.result.now c.fill_any_table.new.buffer c.fill_any_table.auto.buffer c.deref_mut.ensures.len c.deref_mut.ensures.value in
    let longer = no-shorter _ _ _ front kept-len in
    let long : table_bytes (length ns) ≡ table_bytes n = ap table_bytes (table-holds n read (any-table n _ _ (sym (ap length held) ∙ kept-len) c.in_ok-grow_to.ensures.room c.in_ok-count.ensures.few.1)) in
    rw (p.1, p.2) (record {
      message = tt;
      refused = λ framing. absurd (memory-faultless kind refusal.0 framing);
      kind = memory-kind kind refusal.0 g.F.MessageForm.faults;
      part = table-part g.F.MessageForm.reader g.met.F.MessageForm.fronts c.args.limit ns _ _ c.in_ok-count.ensures.table kept (wants-words n _ _ _ _ total kept-len c.in_ok-grow_to.ensures.room c.in_ok-count.ensures.few.1 short);
      wanted = λ _. inr (inr (ns, c.in_ok-count.ensures.table));
      longer = λ _. inr (table-longer g.F.MessageForm.reader g.met.F.MessageForm.fronts c.args.limit ns _ _ c.in_ok-count.ensures.table (length c.args.self.now.bytes.items) kept (wants-longer _ _ _ _ _ _ long total longer short));
      most = tt;
      vain = inl (grows-little _ _ _ c.in_ok-grow_to.ensures.most (c.in_err-grow_to-2.ensures.stays ∙ kept-len));
      grown = (between _ _ _ longer (grown-front _ c.grow_to-2.new.self.bytes.items c.in_err-grow_to-2.ensures.front), tt);
      failures = memory-counts kind refusal.0 _ _ c.in_ok-count.ensures.failures;
    })

pub fill_body-requires : goal.fill_body-requires
fill_body-requires g c =
    let n = c.in_ok-count.count in
    let whole = c.deref_mut-2.result.now in
    let grows : table_bytes n + 8 * c.words_before-total.result ≤ length c.grow_to-2.new.self.bytes.items = c.in_ok-grow_to-2.ensures.room in
    let fits : table_bytes n + 8 * c.words_before-total.result ≤ length whole = no-shorter _ _ _ grows (ap length c.deref_mut-2.ensures.value) in
    let read = c.fill_any_table.new.buffer in
    let held : (with_items c.grow_to.new.self.bytes read).items ≡ read = with_items_is c.grow_to.new.self.bytes read (c.fill_any_table.auto.buffer ∙ c.deref_mut.ensures.len) in
    let ns = table_lengths n read in
    let total : c.words_before-total.result ≡ sum ns = c.words_before-total.ensures.total ∙ ap (λ l. sum (table_lengths n l)) (c.deref.ensures.value ∙ held) in
    let more = c.in_ok-grow_to-2.ensures.front.0 in
    let grown : whole ≡ read ++ more = c.deref_mut-2.ensures.value ∙ c.in_ok-grow_to-2.ensures.front.1 ∙ ap (λ l. l ++ more) held in
    let kept-len = refilled c.grow_to.new.self.bytes c.deref_mut.result.now read c.fill_any_table.auto.buffer c.deref_mut.ensures.len c.deref_mut.ensures.value in
    let room : table_bytes n ≤ length read = any-table n _ _ (sym (ap length held) ∙ kept-len) c.in_ok-grow_to.ensures.room c.in_ok-count.ensures.few.1 in
    let same : table_lengths n whole ≡ ns = ap (table_lengths n) grown ∙ table-grown n read more room in
    let f : List ℕ → ℕ = from_le_bytes w64 in
    let word : f whole ≡ f read = ap f grown ∙ from_le_bytes-front read more (table-word n _ room) in
    record {
      count = c.in_ok-count.ensures.count ∙ ap (λ w. w % 2 ^ 32 + 1) (sym word);
      few = c.in_ok-count.ensures.few.1;
      table = refl;
      total = ap (λ m. 8 * m) (total ∙ ap sum (sym same));
      fits = fits;
    }

pub returns-in_err-fill_body : goal.returns-in_err-fill_body
returns-in_err-fill_body g c =
    let p = err_from_is_err_and c.from_residual-in_err-fill_body.result c.from_residual-in_err-fill_body.ensures.1 in
    let r = c.in_err-fill_body.ensures in
    let kind = c.in_err-fill_body.field-0.0.kind in
    let Cut : ℕ → Type 0 = λ m. IsPieceRefusal g.F.MessageForm.reader m (g.R.Read.remaining c.fill_any_table.new.source) (g.R.Read.remaining c.fill_body.new.source) kind in
    let wanted : Cut (8 * c.words_before-total.result / 8) = r.cut in
    let n = c.in_ok-count.count in
    let read = c.fill_any_table.new.buffer in
    let sized = c.fill_any_table.auto.buffer ∙ c.deref_mut.ensures.len in
    let held : (with_items c.grow_to.new.self.bytes read).items ≡ read = with_items_is c.grow_to.new.self.bytes read sized in
    let ns = table_lengths n read in
    let total : c.words_before-total.result ≡ sum ns = c.words_before-total.ensures.total ∙ ap (λ l. sum (table_lengths n l)) (c.deref.ensures.value ∙ held) in
    let kept : within (sum ns) c.args.limit ≡ true = ap (λ m. within m c.args.limit) (sym total) ∙ sym c.is_within.ensures ∙ c.if-not-is_within.false in
    let front = grown-front c.args.self.now.bytes.items c.grow_to.new.self.bytes.items c.in_ok-grow_to.ensures.front in
    let kept-len = refilled c.grow_to.new.self.bytes c.deref_mut.result.now c.fill_any_table.new.buffer c.fill_any_table.auto.buffer c.deref_mut.ensures.len c.deref_mut.ensures.value in
    let longer = no-shorter _ _ _ front kept-len in
    let grown-again = between _ _ _ longer (grown-front _ c.grow_to-2.new.self.bytes.items c.in_ok-grow_to-2.ensures.front) in
    let kept-again = refilled c.grow_to-2.new.self.bytes c.deref_mut-2.result.now c.fill_body.new.buffer c.fill_body.auto.buffer c.deref_mut-2.ensures.len c.deref_mut-2.ensures.value in
    let cut = subst Cut (words-of _ _ total) wanted in
    let room : table_bytes n ≤ length read = any-table n _ _ (sym (ap length held) ∙ kept-len) c.in_ok-grow_to.ensures.room c.in_ok-count.ensures.few.1 in
    let long : table_bytes (length ns) ≡ table_bytes n = ap table_bytes (table-holds n read room) in
    let most = subst (λ m. m ≤ max (length c.args.self.now.bytes.items) (max 2048 (table_bytes n + 8 * c.words_before-total.result))) (sym kept-again) (grows-again _ _ _ _ _ c.in_ok-grow_to.ensures.most kept-len c.in_ok-grow_to-2.ensures.most) in
    rw (p.1, p.2) (record {
      message = tt;
      refused = body-fault g.F.MessageForm.reader g.met.F.MessageForm.fronts c.args.limit ns _ _ c.in_ok-count.ensures.table kept _ _ cut;
      kind = read-kind g.F.MessageForm.faults kind r.own;
      part = body-part g.F.MessageForm.reader g.met.F.MessageForm.fronts c.args.limit ns _ _ c.in_ok-count.ensures.table kept _ _ cut;
      wanted = λ want. absurd (piece-wants-none g.F.MessageForm.faults kind r.own want);
      longer = λ want. absurd (piece-wants-none g.F.MessageForm.faults kind r.own want);
      most = tt;
      vain = grew-in-vain _ _ _ _ most (λ within_it. table-reaches g.F.MessageForm.reader g.met.F.MessageForm.fronts c.args.limit ns _ _ c.in_ok-count.ensures.table _ kept (message-reach _ _ _ _ _ long total within_it));
      grown = (no-shorter _ _ _ grown-again kept-again, tt);
      failures = counts-behind kind _ _ _ c.in_ok-count.ensures.failures r.failures;
    })

pub returns : goal.returns
returns g c =
    let n = c.in_ok-count.count in
    let info : NoAllocSegmentTableInfo = record { segments_count = n; segment_table_length_bytes = table_bytes n; total_segments_length_bytes = 8 * c.words_before-total.result } in
    let done = c.in_ok-fill_body.ensures in
    let described : Describes info c.fill_body.new.buffer = done.described in
    let read = c.fill_any_table.new.buffer in
    let sized = c.fill_any_table.auto.buffer ∙ c.deref_mut.ensures.len in
    let held : (with_items c.grow_to.new.self.bytes read).items ≡ read = with_items_is c.grow_to.new.self.bytes read sized in
    let ns = table_lengths n read in
    let total : c.words_before-total.result ≡ sum ns = c.words_before-total.ensures.total ∙ ap (λ l. sum (table_lengths n l)) (c.deref.ensures.value ∙ held) in
    let kept : within (sum ns) c.args.limit ≡ true = ap (λ m. within m c.args.limit) (sym total) ∙ sym c.is_within.ensures ∙ c.if-not-is_within.false in
    let front = grown-front c.args.self.now.bytes.items c.grow_to.new.self.bytes.items c.in_ok-grow_to.ensures.front in
    let kept-len = refilled c.grow_to.new.self.bytes c.deref_mut.result.now c.fill_any_table.new.buffer c.fill_any_table.auto.buffer c.deref_mut.ensures.len c.deref_mut.ensures.value in
    let longer = no-shorter _ _ _ front kept-len in
    let grown-again = between _ _ _ longer (grown-front _ c.grow_to-2.new.self.bytes.items c.in_ok-grow_to-2.ensures.front) in
    let kept-again = refilled c.grow_to-2.new.self.bytes c.deref_mut-2.result.now c.fill_body.new.buffer c.fill_body.auto.buffer c.deref_mut-2.ensures.len c.deref_mut-2.ensures.value in
    let more = c.in_ok-grow_to-2.ensures.front.0 in
    let whole = c.deref_mut-2.result.now in
    let grown : whole ≡ read ++ more = c.deref_mut-2.ensures.value ∙ c.in_ok-grow_to-2.ensures.front.1 ∙ ap (λ l. l ++ more) held in
    let room : table_bytes n ≤ length read = any-table n _ _ (sym (ap length held) ∙ kept-len) c.in_ok-grow_to.ensures.room c.in_ok-count.ensures.few.1 in
    let same : table_lengths n whole ≡ ns = ap (table_lengths n) grown ∙ table-grown n read more room in
    let bytes = c.fill_body.new.buffer in
    let now : (with_items c.grow_to-2.new.self.bytes bytes).items ≡ bytes = with_items_is c.grow_to-2.new.self.bytes bytes (c.fill_body.auto.buffer ∙ c.deref_mut-2.ensures.len) in
    let Body : List ℕ → Type 0 = λ l. TakesBody g.F.MessageForm.reader (g.R.Read.remaining c.fill_any_table.new.source) (g.R.Read.remaining c.fill_body.new.source) l (words_in (frame_segments n bytes)) in
    let Of : List ℕ → Type 0 = λ l. HoldsMessage g.F.MessageForm.reader c.args.limit (g.R.Read.remaining c.args.source.now) (g.R.Read.remaining c.fill_body.new.source) l info in
    let holds : Of bytes = record {
      described = described;
      taken = message-of_body g.F.MessageForm.reader g.met.F.MessageForm.fronts c.args.limit ns _ _ c.in_ok-count.ensures.table kept _ _ (subst Body same done.body);
      kept = ap (λ l. within (sum l) c.args.limit) (done.table ∙ same) ∙ kept;
    } in
    let table-room = no-shorter _ _ _ c.in_ok-grow_to.ensures.room kept-len in
    let still = grown-front _ c.grow_to-2.new.self.bytes.items c.in_ok-grow_to-2.ensures.front in
    record {
      message = subst Of (sym now) holds;
      refused = tt;
      kind = tt;
      part = tt;
      wanted = tt;
      longer = tt;
      most = subst (λ m. m ≤ max (length c.args.self.now.bytes.items) (max 2048 (table_bytes n + 8 * c.words_before-total.result))) (sym kept-again) (grows-again _ _ _ _ _ c.in_ok-grow_to.ensures.most kept-len c.in_ok-grow_to-2.ensures.most);
      vain = tt;
      grown = (no-shorter _ _ _ grown-again kept-again, no-shorter _ _ _ (between _ _ _ table-room still) kept-again);
      failures = c.in_ok-fill_body.ensures.failures ∙ c.in_ok-count.ensures.failures;
    }
