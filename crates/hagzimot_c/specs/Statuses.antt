-- What statuses say of the end of a run, and of a message that isn't shown.
use Rattle.std.specs.Prelude.{◌≡◌, ℕ, ⊤, Result, Ok, Err}
use Rattle.capnp_relay_loop.specs.declared.ends.Counts.{Counts}
use Rattle.capnp_relay_loop.specs.declared.ends.Fault.{Fault}
use Rattle.capnp_relay_loop.specs.declared.ends.Fault.TheVariants as faults
use Rattle.capnp_relay_loop.specs.declared.ends.RelayFault.{RelayFault}
use Rattle.capnp_relay_show.specs.declared.show.ShowFault.{ShowFault}
use Rattle.capnp_relay_show.specs.declared.show.ShowFault.TheVariants as shows

-- The input, or its rest, doesn't begin with a message.
abbrev pub IsFraming : Fault → Type 0
IsFraming (faults.Framing kind) = ⊤
IsFraming _ = ⊥

-- A run ended there.
abbrev pub IsCut : Result Counts RelayFault → Type 0
IsCut (Ok counts) = ⊥
IsCut (Err e) = IsFraming e.fault

-- The status of a fault of a run. Memory has no devices that fail.
abbrev pub status_of : Fault → ℕ
status_of (faults.Framing kind) = 6
status_of faults.Size = 8
status_of faults.Memory = 1
status_of faults.Source = 1
status_of faults.Out = 1
status_of faults.Log = 1

-- A run ended by a fault of this status.
abbrev pub EndsBy : ℕ → Result Counts RelayFault → Type 0
EndsBy status (Ok counts) = ⊥
EndsBy status (Err e) = status_of e.fault ≡ status

-- The status of a message that isn't shown.
abbrev pub show_status_of : ShowFault → ℕ
show_status_of (shows.Framing kind) = 6
show_status_of shows.Value = 7
show_status_of shows.Root = 7
show_status_of shows.Unreadable = 7
show_status_of shows.Memory = 1
show_status_of shows.Size = 8
