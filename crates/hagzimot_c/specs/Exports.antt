-- What exports do to what a handle holds, and to lent memory.
use Rattle.std.specs.Prelude.{◌≡◌, ◌≤◌, ◌==◌, ◌/◌, ◌%◌, ℕ, Bool, true, false, List, [], ◌∷◌, Option, Some, None, IfSome, IsSomeAnd, length, take, Ok}
use Rattle.capnp_model.specs.Runs.{End}
use Rattle.capnp_values_queries.specs.declared.structs.StructSchema.{StructSchema}
use Rattle.capnp_relay_loop.specs.declared.ends.Counts.{Counts}
use Rattle.capnp_relay_loop.specs.declared.ends.Fault.{Fault}
use Rattle.capnp_relay_show.specs.Answers.{shown_by, IsShowFault}
use Rattle.capnp_relay_show.specs.declared.show.ShowFault.{ShowFault}
use Rattle.capnp_relay_streams.specs.declared.options.Form.{Form}
use Rattle.capnp_relay_streams.specs.declared.options.Form.TheVariants.{Framed, Packed}
use Rattle.hagzimot_in_process.specs.declared.frames.Limits.{Limits}
use Rattle.hagzimot_in_process.specs.declared.kinds.Kind.{Kind}
use Rattle.hagzimot_in_process.specs.declared.kinds.Kind.TheVariants as kinds
use Rattle.hagzimot_in_process.specs.declared.relay.Forms.{Forms}
use Rattle.hagzimot_in_process.specs.declared.relay.Relay.{Relay}
use Rattle.hagzimot_in_process.specs.declared.versions.Versions.{Versions}
use Rattle.hagzimot_in_process.specs.Relays.{IsRootIn, Ran, Stopped, AreAlike}
use Rattle.hagzimot_in_process.specs.Opened.{IsOpened, AreVersionsOf, AreCompatible}
use Rattle.hagzimot_c.specs.Statuses.{status_of, show_status_of}

-- The word that names a root; empty bytes are none.
abbrev pub word_of : List ℕ → Option (List ℕ)
word_of [] = None
word_of (b ∷ bytes) = Some (b ∷ bytes)

-- The form of messages that are packed, or aren't.
abbrev pub form_if : Bool → Form
form_if true = Packed
form_if false = Framed

-- The forms that flags name, whose bits are 1 for packed input, 2 for packed output, and 4 for messages as they are built.
abbrev pub forms_in : ℕ → Forms
forms_in flags = record { input = form_if (flags % 2 == 1); output = form_if (flags / 2 % 2 == 1); is_plain = flags / 4 % 2 == 1 }

-- The relay of these files.
abbrev pub IsOpenedKind : List ℕ → Option (List ℕ) → List ℕ → Forms → Kind → Type 0
IsOpenedKind schema word calls forms (kinds.Relay r) = IsOpened schema word calls forms r

-- A call reported the length of bytes, which are at the front of lent memory if they fit.
pub record IsLent (bytes lent : List ℕ) (len : ℕ) : Type 0 where
  pub len_is : len ≡ length bytes
  pub front : length bytes ≤ length lent → take (length bytes) lent ≡ bytes

-- Lent memory, after a call: the output and the log, each with the length that is reported.
pub record Lent : Type 0 where
  pub out : List ℕ
  pub out_len : ℕ
  pub log : List ℕ
  pub log_len : ℕ

-- That by its parts, in the order of the record.
abbrev pub lent : List ℕ → ℕ → List ℕ → ℕ → Lent
lent out out_len log log_len = record { out = out; out_len = out_len; log = log; log_len = log_len }

-- The output and the log fit.
abbrev pub Fits : Lent → Type 0
Fits l = (l.out_len ≤ length l.out) × (l.log_len ≤ length l.log)

-- Lent memory has the output and the log of a relay.
pub record HasResults (r : Relay) (l : Lent) : Type 0 where
  pub out : IsLent r.out.items l.out l.out_len
  pub log : IsLent r.log.items l.log l.log_len

-- The same of what a handle holds.
abbrev pub HasResultsOf : Lent → Kind → Type 0
HasResultsOf l (kinds.Relay r) = HasResults r l

-- Two values are opened alike: relays have the same schema, calls and limits.
abbrev pub AreKindsAlike : Kind → Kind → Type 0
AreKindsAlike (kinds.Relay old) (kinds.Relay new) = AreAlike old new

-- A relay ran over bytes to an end.
abbrev pub RanKind : List ℕ → End → Kind → Kind → Type 0
RanKind bytes end (kinds.Relay old) (kinds.Relay new) = Ran old bytes end new

-- What a handle holds ran over bytes to an end, and lent memory has the results.
abbrev pub RunsInto : List ℕ → End → Lent → Option Kind → Option Kind → Type 0
RunsInto bytes end l old new = IsSomeAnd old (λ k. IsSomeAnd new (λ m. RanKind bytes end k m × HasResultsOf l m))

-- A relay answered some messages of bytes, and stopped by a fault of this status.
pub record StopsBy (bytes : List ℕ) (status : ℕ) (old new : Relay) : Type 0 where
  pub fault : Fault
  pub counts : Counts
  pub status_is : status_of fault ≡ status
  pub stopped : Stopped old bytes fault counts new

-- The same of what a handle holds.
abbrev pub KindStopsBy : List ℕ → ℕ → Kind → Kind → Type 0
KindStopsBy bytes status (kinds.Relay old) (kinds.Relay new) = StopsBy bytes status old new

-- What a handle holds, if anything, stopped by a fault of this status, and lent memory has the results until then.
abbrev pub StopsInto : List ℕ → ℕ → Lent → Option Kind → Option Kind → Type 0
StopsInto bytes status l old new = IfSome old (λ k. IsSomeAnd new (λ m. KindStopsBy bytes status k m × HasResultsOf l m))

-- The text of the record of the message at the front of bytes is lent, under the schema and the limits of a relay.
pub record Shows (bytes out : List ℕ) (len : ℕ) (r : Relay) : Type 0 where
  pub root : StructSchema
  pub is_root : IsRootIn r root
  pub text : List ℕ
  pub shown : shown_by root r.limits bytes ≡ Ok text
  pub copied : IsLent text out len

-- The same of what a handle holds.
abbrev pub ShowsInto : List ℕ → List ℕ → ℕ → Kind → Type 0
ShowsInto bytes out len (kinds.Relay r) = Shows bytes out len r

-- No text is shown of the message at the front of bytes, for a reason of this status.
pub record IsNotShown (bytes : List ℕ) (status : ℕ) (r : Relay) : Type 0 where
  pub root : StructSchema
  pub is_root : IsRootIn r root
  pub fault : ShowFault
  pub why : IsShowFault root r.limits bytes fault
  pub status_is : show_status_of fault ≡ status

-- The same of what a handle holds.
abbrev pub IsKindNotShown : List ℕ → ℕ → Kind → Type 0
IsKindNotShown bytes status (kinds.Relay r) = IsNotShown bytes status r

-- Versions of schema files, a renames file and a word for their roots are compatible.
abbrev pub AreFound : List ℕ → List ℕ → List ℕ → List ℕ → Versions → Type 0
AreFound older newer renames word v = AreVersionsOf older newer renames (word_of word) v × AreCompatible v

-- They are not.
abbrev pub AreBroken : List ℕ → List ℕ → List ℕ → List ℕ → Versions → Type 0
AreBroken older newer renames word v = AreVersionsOf older newer renames (word_of word) v × (AreCompatible v → ⊥)

-- Limits, in the order of the record.
abbrev pub limits : ℕ → ℕ → Limits
limits words levels = record { words = words; levels = levels }
