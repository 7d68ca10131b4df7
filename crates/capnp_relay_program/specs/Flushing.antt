-- What the sinks of a run hold back when it reads.
use Rattle.std.specs.Prelude.{◌≡◌, ℕ, List, [], Result, Ok, ◌⊎◌}
use Rattle.std.specs.declared.option.Option.{Option}
use Rattle.capnp_stream_io.specs.declared.traits.Read.{Ghosts as Read}
use Rattle.capnp_stream_io.specs.declared.traits.Write.{Ghosts as Write}
use Rattle.capnp_model.specs.Messages.{Reader, message_at}
use Rattle.capnp_model.specs.Partners.{Renaming}
use Rattle.capnp_values_queries.specs.declared.structs.StructSchema.{StructSchema}
use Rattle.capnp_calls.specs.declared.call.Call.{Call}
use Rattle.capnp_stream.specs.Pieces.{EndsEarly}
use Rattle.capnp_relay_loop.specs.declared.ends.Counts.{Counts}
use Rattle.capnp_relay_loop.specs.declared.ends.Fault.{Fault}
use Rattle.capnp_relay_loop.specs.declared.ends.Fault.TheVariants as faults
use Rattle.capnp_relay_loop.specs.declared.ends.RelayFault.{RelayFault}
use Rattle.capnp_relay_loop.specs.Pauses.{Moment, Pauses, pauses_of, PausesBeforeReads}
use Rattle.capnp_relay_streams.specs.declared.options.RelayOptions.{RelayOptions}
use Rattle.capnp_relay_streams.specs.Options.{reader_of}
use Rattle.capnp_relay_streams.specs.Relaying.{relay_work}
use Rattle.capnp_relay_program.specs.Asked.{Request, Asked, asked, asked_by}

-- Both sinks hold nothing back, unless the shown bytes hold the next message of a form, or what is wrong with it.
abbrev pub HoldsNothing : Reader → List ℕ → List ℕ → List ℕ → Type 0
HoldsNothing read shown out_held log_held = (limit : Option ℕ) → EndsEarly (message_at read limit shown) → (out_held ≡ []) × (log_held ≡ [])

-- The output holds nothing back, where the log's device failed.
abbrev pub HoldsNoOutput : Fault → List ℕ → Type 0
HoldsNoOutput fault out_held = fault ≡ faults.Log → out_held ≡ []

-- The pauses in which both sinks are flushed, by the form of the input.
abbrev pub flushes_of : {R W L : Type 0} → Read R → Write W → Write L → (R → List ℕ) → (W → List ℕ) → (L → List ℕ) → Reader → Pauses R W L
flushes_of r w l window out_held log_held read =
    pauses_of r w l (λ source out log. HoldsNothing read (window source) (out_held out) (log_held log)) (λ fault out log. HoldsNoOutput fault (out_held out))

module _ {R W L : Type 0} (flushes : Reader → Pauses R W L) where
  -- The relay that is asked for ran, and each read for a message stood right behind such a pause, of the input's form.
  pub record RanFlushing (a : Asked) (out_grows log_grows : Type 0) (old new : Moment R W L) (result : Result Counts RelayFault) : Type 0 where
    pub root : StructSchema
    pub newer : Option StructSchema
    pub renamings : List Renaming
    pub calls : List Call
    pub options : RelayOptions
    pub asks : asked_by root newer renamings calls options ≡ a
    pub pauses : PausesBeforeReads (flushes (reader_of options.input)) (relay_work root calls options out_grows log_grows) old new result

  -- What is asked for was relayed so from the source, or the source is as it was.
  abbrev pub FlushesBeforeReads : Request → Type 0 → Type 0 → Moment R W L → R → Type 0
  FlushesBeforeReads r out_grows log_grows old source = (source ≡ old.source)
      ⊎ ((a : Asked) × (asked r ≡ Ok a) × (mid : Moment R W L) × (result : Result Counts RelayFault) × RanFlushing a out_grows log_grows old mid result × (source ≡ mid.source))
