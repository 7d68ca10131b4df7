-- How outputs are opened, and which files they must differ from.
use Rattle.std.specs.Prelude.{◌≡◌, ◌⊎◌, ℕ, Bool, true, false, ⊤, Option, Some, None}
use Rattle.hagzimot_files.specs.declared.files.Owners.{Owners}
use Rattle.hagzimot_files.specs.declared.openings.Opening.{Opening}
use Rattle.hagzimot_files.specs.declared.openings.Role.{Role}
use Rattle.hagzimot_files.specs.declared.openings.Role.TheVariants as role
use Rattle.hagzimot_files.specs.declared.openings.Use.{Use}
use Rattle.hagzimot_files.specs.declared.openings.Use.TheVariants as used
use Rattle.hagzimot_files.specs.declared.places.FileId.{FileId}
use Rattle.hagzimot_files.specs.declared.places.Place.{Place}
use Rattle.hagzimot_files.specs.declared.places.Target.{Target}
use Rattle.hagzimot_files.specs.Places.{IsAt, is_replaced, is_stream}

-- what is at the place is written to as it is
abbrev pub is_direct : Place → Bool
is_direct (Place.File id owners) = false
is_direct (Place.Free folder name) = false
is_direct (Place.Device id) = true
is_direct (Place.Stream id) = true

-- the mode and the owners of the file at the place, if there is one
abbrev pub owners_there : Place → Option Owners
owners_there (Place.File id owners) = Some owners
owners_there (Place.Free folder name) = None
owners_there (Place.Device id) = None
owners_there (Place.Stream id) = None

-- a draft of the name that the links lead to, with the owners of the file there; or what is there, as it is
abbrev pub IsOpening : Target → ℕ → Bool → Opening → Type 0
IsOpening target process sync (Opening.Draft goal) =
    (is_direct target.place ≡ false) × (goal.path ≡ target.path) × (goal.owners ≡ owners_there target.place) × (goal.process ≡ process) × (goal.sync ≡ sync)
IsOpening target process sync (Opening.Direct there) = (is_direct target.place ≡ true) × (there ≡ target)

-- what makes an output that is this file lose data: a setting always, an input if refused messages are written or an
-- open descriptor is appended to, and standard error if the file is replaced
abbrev pub LosesAs : Place → Role → Use → Type 0
LosesAs place r used.Setting = ⊤
LosesAs place role.Refused used.Input = ⊤
LosesAs place role.Messages used.Input = is_stream place ≡ true
LosesAs place r used.Log = is_replaced place ≡ true

abbrev pub WouldLose : Place → Role → Use → FileId → Type 0
WouldLose place r u file = IsAt place file × LosesAs place r u
