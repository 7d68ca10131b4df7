-- Runs with pauses.
use Rattle.std.proofs.Common.{◌≡◌, ℕ, suc, ◌+◌, List, [], Result, Ok, Err, inl, inr, refl, sym, subst, append-nil, arith}
use Rattle.std.proofs.KnownBytes.{Consumes-nil, Keeps-refl}
use Rattle.capnp_model.specs.Segments.{Segments}
use Rattle.capnp_model.specs.Answers.{Answer}
use Rattle.capnp_model.specs.Runs.{outputs_of, lines_of}
use Rattle.capnp_relay_loop.specs.declared.ends.Counts.{Counts}
use Rattle.capnp_relay_loop.specs.declared.ends.Fault.{Fault}
use Rattle.capnp_relay_loop.specs.declared.ends.Fault.TheVariants as faults
use Rattle.capnp_relay_loop.specs.declared.ends.RelayFault.{RelayFault}
use Rattle.capnp_relay_loop.specs.Streams.{Streams, SinkSeen, SinkTakes}
use Rattle.capnp_relay_loop.specs.Work.{LoopWork}
use Rattle.capnp_relay_loop.specs.Run.{Answered, RunEndsAs, RunStops}
use Rattle.capnp_relay_loop.specs.Stops.{StopsBefore}
use Rattle.capnp_relay_loop.specs.Pauses.{SinkRests, RelaysPausing, Moment, Pauses, AnswersPausing, AnsweredPausing}
use Rattle.capnp_relay_loop.proofs.RunLemmas.{Answered-nil, SinkTakes-trans}

takes_rests : (a b c : SinkSeen) (bs : List ℕ) → SinkTakes a b bs → SinkRests b c → SinkTakes a c bs
takes_rests a b c bs p q = subst (SinkTakes a c) (append-nil bs) (SinkTakes-trans a b c bs [] p q)

-- a pause that fails not leaves what is answered
pub Answered-rests : (w : LoopWork) (messages : List Segments) (answers : List Answer) (old mid new : Streams) (counts : Counts) → Answered w messages answers old mid counts
    → new.source ≡ mid.source → SinkRests mid.out new.out → SinkRests mid.log new.log → Answered w messages answers old new counts
Answered-rests w messages answers old mid new counts run source out log = rw source (record {
  taken = run.taken;
  begins = run.begins;
  consumed = run.consumed;
  answered = run.answered;
  out = takes_rests old.out mid.out new.out (outputs_of w.write answers) run.out out;
  log = takes_rests old.log mid.log new.log (lines_of 1 answers) run.log log;
  written = run.written;
  refused = run.refused;
  source_failures = run.source_failures;
})

-- no pause fails
pub never_pausing : (w : LoopWork) (old new : Streams) (result : Result Counts RelayFault) → RelaysPausing ⊥ w old new result → RunEndsAs w old new result
never_pausing w old new (Ok counts) h = h
never_pausing w old new (Err e) (inl h) = h
never_pausing w old new (Err e) (inr h) = absurd h.0

-- memory is wanted before a message is read
pub wants_first : (w : LoopWork) (may_fail : Type 0) (old : Streams) (e : RelayFault) → e.fault ≡ faults.Memory → e.counts.written ≡ 0 → e.counts.refused ≡ 0 → RelaysPausing may_fail w old old (Err e)
wants_first w may_fail old e fault frames refusals =
    let rests : StopsBefore w old old e.counts e.counts = (([], (λ n s less spells. absurd (omega (arith, less))), Consumes-nil old.source.remaining), (Keeps-refl _, refl), (Keeps-refl _, refl), refl) in
    let P : Fault → Type 0 = λ f. RunStops w f old old e.counts in
    inl (subst P (sym fault) ([], [], old, e.counts, Answered-nil w old e.counts frames refusals, (refl, refl, refl, inl rests)))

-- one more message, which is read right behind a pause
pub AnsweredPausing-more : {R W L : Type 0} (p : Pauses R W L) (w : LoopWork) (n : ℕ) (old mid new : Moment R W L) → AnsweredPausing p w n old mid → AnswersPausing p w (n + 1) mid new
    → AnsweredPausing p w (n + 1) old new
AnsweredPausing-more p w n old mid new answered one =
    let next : suc n ≡ n + 1 = omega arith in
    subst (λ k. AnsweredPausing p w k old new) next (mid, answered, subst (λ k. AnswersPausing p w k mid new) (sym next) one)
