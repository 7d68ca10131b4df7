-- Messages that are copied one after the other.
use Rattle.std.proofs.Common.{◌≡◌, ℕ, List, [], ◌∷◌, ◌++◌, length, refl, sym, ap, ◌∙◌, subst, append-nil, length-append}
use Rattle.std.specs.Prelude.{Ok, flat_map}
use Rattle.std.specs.declared.option.Option.{Option}
use Rattle.std.proofs.KnownBytes.{Consumes-trans, Consumes-nil, Appends-trans, Appends-nil}
use Rattle.std.proofs.lemmas.Grind.{flat_map-append}
use Rattle.capnp_model.specs.Segments.{Segments}
use Rattle.capnp_model.specs.Messages.{Reader, Writer, message_at, spelled}
use Rattle.capnp_model.specs.Runs.{BeginWith}
use Rattle.capnp_stream_io.specs.Streams.{RoomFalls}
use Rattle.capnp_stream.specs.Pieces.{ReadsFronts}
use Rattle.capnp_stream.proofs.lemmas.WriteLemmas.{RoomFalls-none}
use Rattle.capnp_stream_packed.proofs.lemmas.WriteLemmas.{RoomFalls-trans}
use Rattle.capnp_relay_loop.proofs.lemmas.Beginnings.{BeginWith-more}
use Rattle.capnp_relay_loop.specs.Streams.{SinkSeen, SinkTakes}
use Rattle.hagzimot_pieces.specs.Pieces.{Copying, Flow, CopiesOne, Copied}

-- one more message after those
BeginWith-next : (read : Reader) (limit : Option ℕ) (bytes : List ℕ) (messages : List Segments) (text rest : List ℕ) (s : Segments) → BeginWith read limit bytes messages text
    → message_at read limit text ≡ Ok (s, rest) → BeginWith read limit bytes (messages ++ s ∷ []) rest
BeginWith-next read limit bytes [] text rest s begins found = (rest, ap (message_at read limit) begins ∙ found, refl)
BeginWith-next read limit bytes (first ∷ messages) text rest s begins found = (begins.0, begins.1, BeginWith-next read limit begins.0 messages text rest s begins.2 found)

SinkTakes-nil : (a : SinkSeen) → SinkTakes a a []
SinkTakes-nil a = record { appends = Appends-nil a.contents; falls = RoomFalls-none a.room; failures = refl }

SinkTakes-trans : (a b c : SinkSeen) (bs cs : List ℕ) → SinkTakes a b bs → SinkTakes b c cs → SinkTakes a c (bs ++ cs)
SinkTakes-trans a b c bs cs p q = record {
  appends = Appends-trans a.contents b.contents c.contents bs cs p.appends q.appends;
  falls = subst (RoomFalls a.room c.room) (sym (length-append bs cs)) (RoomFalls-trans a.room b.room c.room (length bs) (length cs) p.falls q.falls);
  failures = q.failures ∙ p.failures;
}

spelled_more : (write : Writer) (messages : List Segments) (s : Segments) → flat_map (spelled write) (messages ++ s ∷ []) ≡ flat_map (spelled write) messages ++ spelled write s
spelled_more write messages s =
    flat_map-append (spelled write) messages (s ∷ []) ∙ ap (λ l. flat_map (spelled write) messages ++ l) (append-nil (spelled write s))

-- no message is copied yet
pub Copied-nil : (w : Copying) (old : Flow) → Copied w [] old old
Copied-nil w old = record { taken = []; begins = refl; consumed = Consumes-nil old.source.remaining; out = SinkTakes-nil old.out; failures = refl }

-- one more
pub Copied-more : (w : Copying) → ReadsFronts w.read → (messages : List Segments) (s : Segments) (old mid new : Flow)
    → Copied w messages old mid → CopiesOne w s mid new → Copied w (messages ++ s ∷ []) old new
Copied-more w fronts messages s old mid new run one =
    let text = one.taken.0 in record {
      taken = run.taken ++ text;
      begins = BeginWith-next w.read w.limit (run.taken ++ text) messages text [] s (BeginWith-more w.read fronts w.limit run.taken messages [] text run.begins) one.taken.1;
      consumed = Consumes-trans _ _ _ _ _ run.consumed one.taken.2;
      out = subst (SinkTakes old.out new.out) (sym (spelled_more w.write messages s)) (SinkTakes-trans old.out mid.out new.out _ _ run.out one.out);
      failures = one.failures ∙ run.failures;
    }
