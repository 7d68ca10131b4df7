-- How a relay between two versions ends.
use Rattle.std.specs.Prelude.{⊤, Some, List, map, Result, Ok, Err}
use Rattle.capnp_model.specs.Segments.{Segments}
use Rattle.capnp_model.specs.Partners.{Renaming}
use Rattle.capnp_model.specs.Answers.{Answer}
use Rattle.capnp_values_queries.specs.declared.structs.StructSchema.{StructSchema}
use Rattle.capnp_calls.specs.declared.call.Call.{Call}
use Rattle.capnp_calls.specs.CallViews.{call_view}
use Rattle.capnp_calls_versions.specs.Ways.{IsFirstRefused}
use Rattle.capnp_relay_loop.specs.declared.ends.Counts.{Counts}
use Rattle.capnp_relay_loop.specs.declared.ends.RelayFault.{RelayFault}
use Rattle.capnp_relay_streams.specs.declared.options.RelayOptions.{RelayOptions}
use Rattle.capnp_relay_streams.specs.Messages.{IsAnswerInForm, IsTooLargeIn}
use Rattle.capnp_relay_streams.specs.Options.{reader_of, writer_of}
use Rattle.capnp_relay_loop.specs.Work.{LoopWork, work}
use Rattle.capnp_relay_loop.specs.Streams.{Streams}
use Rattle.capnp_relay_loop.specs.Pauses.{Moment, Pauses, PausesBeforeReads}
use Rattle.capnp_relay_streams.specs.declared.between.BetweenFault.{BetweenFault}
use Rattle.capnp_relay_streams.specs.declared.between.BetweenFault.TheVariants as fault
use Rattle.capnp_relay_streams.specs.Newer.{AreCompatibleSchemas, is_admitted_between, MayRun, RootVersions, ReadsAsRenamed}

-- What is asked of a relay between two versions: its calls, and what it keeps to.
pub record BetweenAsked : Type 0 where
  pub versions : RootVersions
  pub calls : List Call
  pub options : RelayOptions

-- That by its parts, in the order of the record.
abbrev pub between_asked : RootVersions → List Call → RelayOptions → BetweenAsked
between_asked versions calls options = record { versions = versions; calls = calls; options = options }

-- Whether the output and the log may want memory.
pub record SinksGrow : Type 1 where
  pub out : Type 0
  pub log : Type 0

abbrev pub sinks_grow : Type 0 → Type 0 → SinksGrow
sinks_grow out log = record { out = out; log = log }

-- The answer of the relay to a message, in the plain or the canonical form, which also reads under the newer schema.
pub record IsAnswerBetween (x : BetweenAsked) (s : Segments) (a : Answer) : Type 0 where
  pub same : IsAnswerInForm x.options.plain x.versions.older (map call_view x.calls) x.options.bounds s a
  pub reads_newer : ReadsAsRenamed x.versions (map call_view x.calls) x.options.bounds s a

-- The work of the relay, with such answers.
abbrev pub between_work : BetweenAsked → SinksGrow → LoopWork
between_work x grows =
    work (reader_of x.options.input) (writer_of x.options.output) (Some x.options.bounds.words) (IsAnswerBetween x) (IsTooLargeIn x.options.plain x.versions.older (map call_view x.calls) x.options.bounds) grows.out grows.log

-- Why nothing is relayed: the schemas are not compatible, or they are and this call is the first that is not admitted.
abbrev pub IsHeld : List Renaming → StructSchema → StructSchema → List Call → BetweenFault → Type 0
IsHeld rs root newer calls fault.NotCompatible = AreCompatibleSchemas rs root newer → ⊥
IsHeld rs root newer calls (fault.NotAdmitted n) = AreCompatibleSchemas rs root newer × IsFirstRefused (is_admitted_between rs root newer) (map call_view calls) n
IsHeld rs root newer calls fault.Memory = ⊤
IsHeld rs root newer calls (fault.Relay e) = ⊥

-- What a run does to its streams, as it ended: `RunEndsAs`, or the same with pauses.
abbrev pub RunEffect : Type 1
RunEffect = LoopWork → Streams → Streams → Result Counts RelayFault → Type 0

-- A relay between two versions that ran, as it could.
pub record RunsBetween (runs : RunEffect) (x : BetweenAsked) (grows : SinksGrow) (old new : Streams) (result : Result Counts RelayFault) : Type 0 where
  pub may : MayRun x.versions.renamings x.versions.older x.versions.newer x.calls
  pub relays : runs (between_work x grows) old new result

-- It was held, and not run.
abbrev pub IsHeldBetween : BetweenAsked → BetweenFault → Type 0
IsHeldBetween x e = IsHeld x.versions.renamings x.versions.older x.versions.newer x.calls e

-- A relay between two versions: it ran, or was held.
abbrev pub RelaysBetween : RunEffect → BetweenAsked → SinksGrow → Streams → Streams → Result Counts BetweenFault → Type 0
RelaysBetween runs x grows old new (Ok counts) = RunsBetween runs x grows old new (Ok counts)
RelaysBetween runs x grows old new (Err (fault.Relay e)) = RunsBetween runs x grows old new (Err e)
RelaysBetween runs x grows old new (Err fault.NotCompatible) = IsHeldBetween x fault.NotCompatible
RelaysBetween runs x grows old new (Err (fault.NotAdmitted n)) = IsHeldBetween x (fault.NotAdmitted n)
RelaysBetween runs x grows old new (Err fault.Memory) = IsHeldBetween x fault.Memory

-- Each read of a relay that ran stood right behind a pause.
abbrev pub PausesBetween : {R W L : Type 0} → Pauses R W L → LoopWork → Moment R W L → Moment R W L → Result Counts BetweenFault → Type 0
PausesBetween p w old new (Ok counts) = PausesBeforeReads p w old new (Ok counts)
PausesBetween p w old new (Err (fault.Relay e)) = PausesBeforeReads p w old new (Err e)
PausesBetween p w old new (Err fault.NotCompatible) = ⊤
PausesBetween p w old new (Err (fault.NotAdmitted n)) = ⊤
PausesBetween p w old new (Err fault.Memory) = ⊤

-- This holds where the relay ran.
abbrev pub IfRun : Result Counts BetweenFault → Type 0 → Type 0
IfRun (Ok counts) P = P
IfRun (Err (fault.Relay e)) P = P
IfRun (Err fault.NotCompatible) P = ⊤
IfRun (Err (fault.NotAdmitted n)) P = ⊤
IfRun (Err fault.Memory) P = ⊤

-- This holds where the relay was held.
abbrev pub IfHeld : Result Counts BetweenFault → Type 0 → Type 0
IfHeld (Ok counts) P = ⊤
IfHeld (Err (fault.Relay e)) P = ⊤
IfHeld (Err fault.NotCompatible) P = P
IfHeld (Err (fault.NotAdmitted n)) P = P
IfHeld (Err fault.Memory) P = P
