-- A run goes on by one message.
use Rattle.std.proofs.Common.{◌≡◌, ℕ, ◌+◌, List, [], ◌∷◌, ◌++◌, length, Ok, refl, sym, ap, ◌∙◌, subst, arith, append_assoc, append-nil, length-append}
use Rattle.std.specs.declared.option.Option.{Option}
use Rattle.std.proofs.KnownBytes.{Consumes-trans, Consumes-nil, Appends-trans, Appends-nil}
use Rattle.std.proofs.lemmas.Grind.{flat_map-append}
use Rattle.std.proofs.lemmas.List.Sums.{sum_by-append}
use Rattle.capnp_model.specs.Segments.{Segments}
use Rattle.capnp_model.specs.Messages.{Reader, Writer, message_at}
use Rattle.capnp_model.specs.Answers.{Answer, refused_value, refused_root, refused_depth, written}
use Rattle.capnp_model.specs.Runs.{BeginWith, AnswerEach, output_of, outputs_of, line_of, lines_of}
use Rattle.capnp_stream.specs.Pieces.{ReadsFronts}
use Rattle.capnp_stream_io.specs.Streams.{RoomFalls}
use Rattle.capnp_stream.proofs.lemmas.WriteLemmas.{RoomFalls-none}
use Rattle.capnp_stream_packed.proofs.lemmas.WriteLemmas.{RoomFalls-trans}
use Rattle.capnp_relay_loop.proofs.lemmas.Beginnings.{BeginWith-more}
use Rattle.capnp_relay_loop.specs.declared.ends.Counts.{Counts}
use Rattle.capnp_relay_loop.specs.Answers.{written_one, refused_one}
use Rattle.capnp_relay_loop.specs.Streams.{Streams, SinkSeen, SinkTakes}
use Rattle.capnp_relay_loop.specs.Work.{LoopWork}
use Rattle.capnp_relay_loop.specs.Stops.{AnswersOne}
use Rattle.capnp_relay_loop.specs.Run.{Answered}

-- one more message behind those
pub BeginWith-next : (read : Reader) (limit : Option ℕ) (bytes : List ℕ) (messages : List Segments) (text rest : List ℕ) (s : Segments) → BeginWith read limit bytes messages text
    → message_at read limit text ≡ Ok (s, rest) → BeginWith read limit bytes (messages ++ s ∷ []) rest
BeginWith-next read limit bytes [] text rest s begins found = (rest, ap (message_at read limit) begins ∙ found, refl)
BeginWith-next read limit bytes (first ∷ messages) text rest s begins found = (begins.0, begins.1, BeginWith-next read limit begins.0 messages text rest s begins.2 found)

pub AnswerEach-more : (is_answer : Segments → Answer → Type 0) (messages : List Segments) (answers : List Answer) (s : Segments) (a : Answer)
    → AnswerEach is_answer messages answers → is_answer s a → AnswerEach is_answer (messages ++ s ∷ []) (answers ++ a ∷ [])
AnswerEach-more is_answer [] [] s a all one = (one, tt)
AnswerEach-more is_answer [] (b ∷ answers) s a all one = absurd all
AnswerEach-more is_answer (m ∷ messages) [] s a all one = absurd all
AnswerEach-more is_answer (m ∷ messages) (b ∷ answers) s a all one = (all.0, AnswerEach-more is_answer messages answers s a all.1 one)

outputs_of-more : (write : Writer) (answers : List Answer) (a : Answer) → outputs_of write (answers ++ a ∷ []) ≡ outputs_of write answers ++ output_of write a
outputs_of-more write answers a =
    flat_map-append (output_of write) answers (a ∷ []) ∙ ap (λ l. outputs_of write answers ++ l) (append-nil (output_of write a))

lines_of-more : (n : ℕ) (answers : List Answer) (a : Answer) → lines_of n (answers ++ a ∷ []) ≡ lines_of n answers ++ line_of (length answers + n) a
lines_of-more n [] a = append-nil (line_of n a) ∙ ap (λ k. line_of k a) {y = 0 + n} (omega arith)
lines_of-more n (first ∷ answers) a =
    let here = line_of n first in
    ap (λ l. here ++ l) (lines_of-more (n + 1) answers a)
    ∙ sym (append_assoc here (lines_of (n + 1) answers) (line_of (length answers + (n + 1)) a))
    ∙ ap (λ k. (here ++ lines_of (n + 1) answers) ++ line_of k a) {y = length (first ∷ answers) + n} (omega arith)

pub SinkTakes-nil : (a : SinkSeen) → SinkTakes a a []
SinkTakes-nil a = record { appends = Appends-nil a.contents; falls = RoomFalls-none a.room; failures = refl }

pub SinkTakes-trans : (a b c : SinkSeen) (bs cs : List ℕ) → SinkTakes a b bs → SinkTakes b c cs → SinkTakes a c (bs ++ cs)
SinkTakes-trans a b c bs cs p q = record {
  appends = Appends-trans a.contents b.contents c.contents bs cs p.appends q.appends;
  falls = subst (RoomFalls a.room c.room) (sym (length-append bs cs)) (RoomFalls-trans a.room b.room c.room (length bs) (length cs) p.falls q.falls);
  failures = q.failures ∙ p.failures;
}

-- no message is answered yet
pub Answered-nil : (w : LoopWork) (old : Streams) (counts : Counts) → counts.written ≡ 0 → counts.refused ≡ 0 → Answered w [] [] old old counts
Answered-nil w old counts frames refusals = record {
  taken = [];
  begins = refl;
  consumed = Consumes-nil old.source.remaining;
  answered = tt;
  out = SinkTakes-nil old.out;
  log = SinkTakes-nil old.log;
  written = frames;
  refused = refusals;
  source_failures = refl;
}

module _ (w : LoopWork) (fronts : ReadsFronts w.read) where
  -- one more
  pub Answered-more : (messages : List Segments) (answers : List Answer) (old mid new : Streams) (before after : Counts) (n : ℕ) → length answers + 1 ≡ n
      → Answered w messages answers old mid before → (one : AnswersOne w n mid new before after)
      → Answered w (messages ++ one.0 ∷ []) (answers ++ one.1 ∷ []) old new after
  Answered-more messages answers old mid new before after n number run one =
      let s = one.0 in
      let a = one.1 in
      let text = one.2.0 in
      let line : SinkTakes mid.log new.log (line_of (length answers + 1) a) = (let P : ℕ → Type 0 = λ k. SinkTakes mid.log new.log (line_of k a) in subst P (sym number) one.5) in record {
        taken = run.taken ++ text;
        begins = BeginWith-next w.read w.limit (run.taken ++ text) messages text [] s (BeginWith-more w.read fronts w.limit run.taken messages [] text run.begins) one.2.1;
        consumed = Consumes-trans _ _ _ _ _ run.consumed one.2.2;
        answered = AnswerEach-more w.is_answer messages answers s a run.answered one.3;
        out = subst (SinkTakes old.out new.out) (sym (outputs_of-more w.write answers a)) (SinkTakes-trans old.out mid.out new.out _ _ run.out one.4);
        log = subst (SinkTakes old.log new.log) (sym (lines_of-more 1 answers a)) (SinkTakes-trans old.log mid.log new.log _ _ run.log line);
        written = let more = sum_by-append written_one answers (a ∷ []) in omega (arith, more, run.written, one.6.written);
        refused = let more = sum_by-append refused_one answers (a ∷ []) in omega (arith, more, run.refused, one.6.refused);
        source_failures = one.7 ∙ run.source_failures;
      }

pub one_each : (a : Answer) → written_one a + refused_one a ≡ 1
one_each (written segments replies) = refl
one_each refused_value = refl
one_each refused_root = refl
one_each refused_depth = refl
