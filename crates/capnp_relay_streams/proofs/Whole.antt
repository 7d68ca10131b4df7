-- What a run does, said of the whole input where that is known.
use Rattle.std.proofs.Common.{◌≡◌, ℕ, List, [], ◌++◌, Some, None, IfSome, refl, sym, subst}
use Rattle.std.specs.declared.option.Option.{Option}
use Rattle.std.specs.Io.KnownBytes.{Consumes, IsAtEnd}
use Rattle.std.proofs.KnownBytes.{Appends-kept}
use Rattle.capnp_units.specs.Errors.{kind_of}
use Rattle.capnp_units.specs.declared.kinds.ErrorKind.{ErrorKind}
use Rattle.capnp_model.specs.Segments.{Segments}
use Rattle.capnp_model.specs.Packing.{unpacked}
use Rattle.capnp_model.specs.Messages.{Reader, plain_words}
use Rattle.capnp_stream.specs.Pieces.{ReadsFronts}
use Rattle.capnp_model.specs.Runs.{BeginWith, finished, broken}
use Rattle.capnp_stream.specs.Frames.{IsFrameFault}
use Rattle.capnp_relay_loop.specs.declared.ends.Counts.{Counts}
use Rattle.capnp_relay_loop.specs.declared.ends.Fault.TheVariants as faults
use Rattle.capnp_relay_streams.specs.declared.options.Form.{Form}
use Rattle.capnp_relay_streams.specs.declared.options.Form.TheVariants as form
use Rattle.capnp_relay_streams.specs.Options.{reader_of}
use Rattle.capnp_relay_loop.specs.Work.{LoopWork}
use Rattle.capnp_relay_loop.specs.Streams.{Streams}
use Rattle.capnp_relay_loop.specs.Run.{RunsOut, RunStops, GoesTo}
use Rattle.capnp_relay_loop.proofs.lemmas.Beginnings.{BeginWith-more}

IfSome-weaker : (o : Option (List ℕ)) (P Q : List ℕ → Type 0) → ((xs : List ℕ) → P xs → Q xs) → IfSome o P → IfSome o Q
IfSome-weaker None P Q f p = tt
IfSome-weaker (Some xs) P Q f p = f xs p

rest_of : (a b : Option (List ℕ)) (bs : List ℕ) → Consumes a b bs → IfSome a (λ xs. (ys : List ℕ) × (b ≡ Some ys) × (xs ≡ bs ++ ys))
rest_of None b bs taken = tt
rest_of (Some x) None bs taken = absurd taken
rest_of (Some x) (Some y) bs taken = (y, refl, taken)

begins_whole : (read : Reader) → ReadsFronts read → (limit : Option ℕ) (bytes taken rest : List ℕ) (messages : List Segments) → bytes ≡ taken ++ rest → BeginWith read limit taken messages [] → BeginWith read limit bytes messages rest
begins_whole read fronts limit bytes taken rest messages split begins =
    let P : List ℕ → Type 0 = λ l. BeginWith read limit l messages rest in
    subst P (sym split) (BeginWith-more read fronts limit taken messages [] rest begins)

module _ (w : LoopWork) (fronts : ReadsFronts w.read) (old new : Streams) (counts : Counts) where
  pub GoesTo-of_all : RunsOut w old new counts → IfSome old.source.remaining (GoesTo w old new finished)
  GoesTo-of_all all =
      let last = all.2 in
      let run = all.3 in
      IfSome-weaker old.source.remaining _ _ (λ bytes known. (
        _,
        _,
        record {
          messages = all.0;
          answers = all.1;
          rest = known.0;
          begins = begins_whole w.read fronts w.limit bytes run.taken known.0 all.0 known.2 run.begins;
          answered = run.answered;
          writes = refl;
          logs = refl;
          ends = subst IsAtEnd known.1 all.4;
        },
        Appends-kept _ _ _ _ run.out.appends all.6.0,
        Appends-kept _ _ _ _ run.log.appends all.7.0,
      )) (rest_of old.source.remaining last.source.remaining run.taken run.consumed)

  pub GoesTo-of_framing : (kind : ErrorKind) → RunStops w (faults.Framing kind) old new counts → IfSome old.source.remaining (GoesTo w old new (broken (kind_of kind)))
  GoesTo-of_framing kind stops =
      let last = stops.2 in
      let run = stops.4 in
      let stop = stops.5.0 in
      let refused = stops.5.3 in
      IfSome-weaker old.source.remaining _ _ (λ bytes known. (
        _,
        _,
        record {
          messages = stops.0;
          answers = stops.1;
          rest = known.0;
          begins = begins_whole w.read fronts w.limit bytes run.taken known.0 stops.0 known.2 run.begins;
          answered = run.answered;
          writes = refl;
          logs = refl;
          ends = let P : Option (List ℕ) → Type 0 = λ o. IfSome o (λ xs. (xs ≡ [] → ⊥) × IsFrameFault w.read w.limit xs kind) in subst P known.1 refused;
        },
        Appends-kept _ _ _ _ run.out.appends stop.1.0,
        Appends-kept _ _ _ _ run.log.appends stop.2.0,
      )) (rest_of old.source.remaining last.source.remaining run.taken run.consumed)

-- each form is read from the front
pub fronts_of : ReadsFronts plain_words → ReadsFronts unpacked → (f : Form) → ReadsFronts (reader_of f)
fronts_of framed packed form.Framed = framed
fronts_of framed packed form.Packed = packed
