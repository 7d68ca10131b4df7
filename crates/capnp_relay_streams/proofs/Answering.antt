-- A run whose answers are more than was asked.
use Rattle.std.proofs.Common.{ℕ, List, [], ◌∷◌, Result, Ok, Err, inl, inr}
use Rattle.std.specs.Prelude.{⊤}
use Rattle.capnp_model.specs.Segments.{Segments}
use Rattle.capnp_model.specs.Answers.{Answer, written}
use Rattle.capnp_model.specs.Runs.{AnswerEach}
use Rattle.capnp_relay_loop.specs.declared.ends.Counts.{Counts}
use Rattle.capnp_relay_loop.specs.declared.ends.Fault.{Fault}
use Rattle.capnp_relay_loop.specs.declared.ends.Fault.TheVariants as faults
use Rattle.capnp_relay_loop.specs.declared.ends.RelayFault.{RelayFault}
use Rattle.capnp_relay_loop.specs.Work.{LoopWork, work}
use Rattle.capnp_relay_loop.specs.Streams.{Streams, SinkFails}
use Rattle.capnp_relay_loop.specs.Stops.{StopsInOut, StopsInLog, StopsByFault}
use Rattle.capnp_relay_loop.specs.Run.{Answered, RunEndsAs}
use Rattle.capnp_relay_loop.specs.Pauses.{RelaysPausing}

answer_each : (P Q : Segments → Answer → Type 0) → ((s : Segments) (a : Answer) → P s a → Q s a) → (messages : List Segments) (answers : List Answer) → AnswerEach P messages answers → AnswerEach Q messages answers
answer_each P Q f [] [] h = tt
answer_each P Q f [] (a ∷ answers) h = h
answer_each P Q f (s ∷ messages) [] h = h
answer_each P Q f (s ∷ messages) (a ∷ answers) h = (f s a h.0, answer_each P Q f messages answers h.1)

module _ (w : LoopWork) (Q : Segments → Answer → Type 0) (f : (s : Segments) (a : Answer) → w.is_answer s a → Q s a) where
  -- the same work with these answers
  abbrev pub asked_more : LoopWork
  asked_more = work w.read w.write w.limit Q w.is_too_large w.out_grows w.log_grows

  answered : (messages : List Segments) (answers : List Answer) (old new : Streams) (counts : Counts) → Answered w messages answers old new counts → Answered asked_more messages answers old new counts
  answered messages answers old new counts h = record {
    taken = h.taken;
    begins = h.begins;
    consumed = h.consumed;
    answered = answer_each w.is_answer Q f messages answers h.answered;
    out = h.out;
    log = h.log;
    written = h.written;
    refused = h.refused;
    source_failures = h.source_failures;
  }

  in_out : (why : List ℕ → Type 0) (old new : Streams) (before after : Counts) → StopsInOut w why old new before after → StopsInOut asked_more why old new before after
  in_out why old new before after h = (h.0, h.1, h.2, h.3, f h.0 (written h.1 h.2) h.4, h.5, h.6, h.7, h.8)

  in_log : (why : List ℕ → Type 0) (n : ℕ) (old new : Streams) (before after : Counts) → StopsInLog w why n old new before after → StopsInLog asked_more why n old new before after
  in_log why n old new before after h = (h.0, h.1, h.2, f h.0 h.1 h.3, h.4, h.5, h.6, h.7, h.8)

  stops : (n : ℕ) (fault : Fault) (old new : Streams) (before after : Counts) → StopsByFault w n fault old new before after → StopsByFault asked_more n fault old new before after
  stops n faults.Source old new before after h = h
  stops n (faults.Framing kind) old new before after h = h
  stops n faults.Out old new before after h = (in_out (SinkFails old.out new.out) old new before after h.0, h.1)
  stops n faults.Log old new before after h = (in_log (SinkFails old.log new.log) n old new before after h.0, h.1)
  stops n faults.Memory old new before after h = (
    h.0,
    h.1,
    h.2,
    elim h.3 [
      | inl x ↦ inl x
      | inr y ↦ inr (elim y [ inl z ↦ inl (z.0, in_out (λ _. ⊤) old new before after z.1) | inr z ↦ inr (z.0, in_log (λ _. ⊤) n old new before after z.1) ])
    ],
  )
  stops n faults.Size old new before after h = h

  relays : (old new : Streams) (result : Result Counts RelayFault) → RunEndsAs w old new result → RunEndsAs asked_more old new result
  relays old new (Ok counts) h = (h.0, h.1, h.2, answered h.0 h.1 old h.2 counts h.3, h.4, h.5, h.6, h.7)
  relays old new (Err e) h = (h.0, h.1, h.2, h.3, answered h.0 h.1 old h.2 h.3 h.4, stops _ e.fault h.2 new h.3 e.counts h.5)

  -- the same with pauses
  pub relays_pausing : (may_fail : Type 0) (old new : Streams) (result : Result Counts RelayFault) → RelaysPausing may_fail w old new result → RelaysPausing may_fail asked_more old new result
  relays_pausing may_fail old new (Ok counts) h = relays old new (Ok counts) h
  relays_pausing may_fail old new (Err e) (inl h) = inl (relays old new (Err e) h)
  relays_pausing may_fail old new (Err e) (inr h) = inr (h.0, (h.1.0, h.1.1, h.1.2, answered h.1.0 h.1.1 old h.1.2 e.counts h.1.3, h.1.4, h.1.5))
