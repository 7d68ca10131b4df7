-- What the program does to its streams.
use Rattle.std.specs.Prelude.{◌≡◌, ℕ, ◌≤◌, Bool, true, false, Some, None, List, [], Ok, Err, ◌⊎◌, ⊤, IfErr, OnOk}
use Rattle.std.specs.declared.option.Option.{Option}
use Rattle.std.specs.declared.result.Result.{Result}
use Rattle.std.specs.Io.KnownBytes.{Keeps}
use Rattle.capnp_units.specs.declared.errors.Error.{Error}
use Rattle.capnp_units.specs.declared.kinds.ErrorKind.TheVariants.{Device}
use Rattle.capnp_stream_io.specs.Counting.{Counts as CountsFailures}
use Rattle.capnp_stream_io.specs.Writes.{Writes}
use Rattle.capnp_model.specs.Partners.{Renaming}
use Rattle.capnp_values_queries.specs.declared.structs.StructSchema.{StructSchema}
use Rattle.capnp_values_queries.specs.Structs.{id_of}
use Rattle.capnp_calls.specs.declared.call.Call.{Call}
use Rattle.capnp_relay_loop.specs.declared.ends.Counts.{Counts}
use Rattle.capnp_relay_loop.specs.declared.ends.Fault.{Fault}
use Rattle.capnp_relay_loop.specs.declared.ends.Fault.TheVariants as faults
use Rattle.capnp_relay_loop.specs.declared.ends.RelayFault.{RelayFault}
use Rattle.capnp_relay_streams.specs.declared.options.RelayOptions.{RelayOptions}
use Rattle.capnp_relay_streams.specs.Relaying.{relay_work}
use Rattle.capnp_relay_loop.specs.Work.{LoopWork}
use Rattle.capnp_relay_loop.specs.Pauses.{RelaysPausing}
use Rattle.capnp_relay_loop.specs.Streams.{Streams, SinkSeen}
use Rattle.capnp_relay_streams.specs.Newer.{MayRun}
use Rattle.capnp_relay_streams.specs.Ends.{between_work}
use Rattle.capnp_relay_program.specs.declared.usage.TheConstants.{USAGE}
use Rattle.capnp_relay_program.specs.declared.stop.Stop.{Stop}
use Rattle.capnp_relay_program.specs.declared.stop.Stop.TheVariants as stop
use Rattle.capnp_relay_program.specs.Arguments.{is_help}
use Rattle.capnp_relay_program.specs.Asked.{Request, Asked, asked, RefusesToAsk, IsHeldBack, asked_by}
use Rattle.capnp_relay_program.specs.Lines.{fault_line}

-- What is seen_of of the source, the output and the log, and the bytes that the output and the log hold back.
pub record Seen : Type 0 where
  pub streams : Streams
  pub out_held : List ℕ
  pub log_held : List ℕ

-- What is seen of the streams, by its parts in the order of the record.
abbrev pub seen_of : Streams → List ℕ → List ℕ → Seen
seen_of streams out_held log_held = record { streams = streams; out_held = out_held; log_held = log_held }

-- ---- the run

-- A sink was flushed: it keeps its bytes and holds none back, or its device failed.
pub record Flushes (old : SinkSeen) (result : Result (Unit {0}) Error) (new : SinkSeen) (held : List ℕ) : Type 0 where
  pub kept : Keeps old.contents new.contents
  pub empty : OnOk result (held ≡ [])
  pub refusal : IfErr result (λ e. e.kind ≡ Device)
  pub count : CountsFailures result old.failures new.failures

-- The fault of a run and the flushes of the output and the log behind it: the first that there is.
abbrev pub fault_behind : Result Counts RelayFault → Result (Unit {0}) Error → Result (Unit {0}) Error → Option Fault
fault_behind (Err e) out log = Some e.fault
fault_behind (Ok counts) (Err e) log = Some faults.Out
fault_behind (Ok counts) (Ok done) (Err e) = Some faults.Log
fault_behind (Ok counts) (Ok done) (Ok gone) = None

-- The work of the relay, or of the one between two versions.
abbrev pub work_beside : StructSchema → Option StructSchema → List Renaming → List Call → RelayOptions → Type 0 → Type 0 → LoopWork
work_beside root None rs calls options out_grows log_grows = relay_work root calls options out_grows log_grows
work_beside root (Some newer) rs calls options out_grows log_grows =
    between_work (record { versions = record { renamings = rs; older = root; newer = newer }; calls = calls; options = options }) (record { out = out_grows; log = log_grows })

-- The newer schema, if any, has a root of the same id and is compatible, and each call is admitted.
abbrev pub MayRunBeside : StructSchema → Option StructSchema → List Renaming → List Call → Type 0
MayRunBeside root None rs calls = ⊤
MayRunBeside root (Some newer) rs calls = (id_of newer ≡ id_of root) × MayRun rs root newer calls

-- The relay that is asked for ran, with pauses in which its sinks may fail.
pub record Ran (a : Asked) (out_grows log_grows : Type 0) (old new : Streams) (result : Result Counts RelayFault) : Type 0 where
  pub root : StructSchema
  pub newer : Option StructSchema
  pub renamings : List Renaming
  pub calls : List Call
  pub options : RelayOptions
  pub asks : asked_by root newer renamings calls options ≡ a
  pub may : MayRunBeside root newer renamings calls
  pub relays : RelaysPausing ⊤ (work_beside root newer renamings calls options out_grows log_grows) old new result

-- The relay that is asked for ran, and then both sinks were flushed.
pub record Runs (a : Asked) (out_grows log_grows : Type 0) (old new : Seen) (fault : Option Fault) : Type 0 where
  pub result : Result Counts RelayFault
  pub mid : Streams
  pub ran : Ran a out_grows log_grows old.streams mid result
  pub source : new.streams.source ≡ mid.source
  pub out_flushed : Result (Unit {0}) Error
  pub out : Flushes mid.out out_flushed new.streams.out new.out_held
  pub log_flushed : Result (Unit {0}) Error
  pub log : Flushes mid.log log_flushed new.streams.log new.log_held
  pub is_fault : fault ≡ fault_behind result out_flushed log_flushed

-- The run that is asked for, to its end or to a fault of its own. Or none, where nothing can be
-- asked or what is asked is held back, and then the streams are as they were.
abbrev pub RelaysAll : Request → Type 0 → Type 0 → Seen → Seen → Result (Unit {0}) Stop → Type 0
RelaysAll r out_grows log_grows old new (Ok done) = (a : Asked) × (asked r ≡ Ok a) × Runs a out_grows log_grows old new None
RelaysAll r out_grows log_grows old new (Err e) = ((RefusesToAsk r e ⊎ ((a : Asked) × (asked r ≡ Ok a) × IsHeldBack a e)) × (new ≡ old))
    ⊎ ((a : Asked) × (fault : Fault) × (asked r ≡ Ok a) × (e ≡ stop.Relay fault) × Runs a out_grows log_grows old new (Some fault))

-- ---- what is told

-- A sink was given a text, which it took or refused, and was flushed.
abbrev pub Told : Type 0 → List ℕ → SinkSeen → SinkSeen → List ℕ → Type 0
Told grows text old new held = (written flushed : Result (Unit {0}) Error) × (mid : SinkSeen) × Writes grows text old written mid × Flushes mid flushed new held

-- The fault of the words that ask for the usage, which the output was given, and what others meet.
abbrev pub Meets : Bool → Request → Type 0 → Type 0 → Seen → Seen → Stop → Type 0
Meets true r out_grows log_grows old new e = (e ≡ stop.Arguments) × (new.streams.source ≡ old.streams.source) × (new.streams.log ≡ old.streams.log)
    × Told out_grows USAGE.now old.streams.out new.streams.out new.out_held
Meets false r out_grows log_grows old new e = RelaysAll r out_grows log_grows old new (Err e)

-- A fault was met, and then told on the log.
pub record LogsFault (r : Request) (out_grows log_grows : Type 0) (old new : Seen) : Type 0 where
  pub stop : Stop
  pub mid : Seen
  pub meets : Meets (is_help r.words) r out_grows log_grows old mid stop
  pub source : new.streams.source ≡ mid.streams.source
  pub out : new.streams.out ≡ mid.streams.out
  pub out_held : new.out_held ≡ mid.out_held
  pub told : Told log_grows (fault_line stop) mid.streams.log new.streams.log new.log_held

-- How the program ends, by its status.
pub record Ends (r : Request) (out_grows log_grows : Type 0) (old new : Seen) (status : ℕ) : Type 0 where
  pub either : status ≤ 1
  pub done : status ≡ 0 → RelaysAll r out_grows log_grows old new (Ok tt)
  pub fault : status ≡ 1 → LogsFault r out_grows log_grows old new
