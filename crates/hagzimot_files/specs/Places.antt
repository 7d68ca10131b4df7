-- Which outputs are one file.
use Rattle.std.specs.Prelude.{◌≡◌, ◌⊎◌, ℕ, Bool, true, false, not, List, codes, string_bytes}
use Rattle.std.specs.Fs.{asks_read, asks_write, asks_append, asks_truncate, asks_create, asks_create_new}
use Rattle.std.specs.declared.fs.options.OpenOptions.{OpenOptions}
use Rattle.hagzimot_files.specs.declared.places.FileId.{FileId}
use Rattle.hagzimot_files.specs.declared.places.Place.{Place}

-- what is at the place is this file
abbrev pub IsAt : Place → FileId → Type 0
IsAt (Place.File id owners) file = id ≡ file
IsAt (Place.Stream id) file = id ≡ file
IsAt place file = ⊥

-- what is written to both would be in one file
abbrev pub AreOneFile : Place → Place → Type 0
AreOneFile a (Place.File id owners) = IsAt a id
AreOneFile a (Place.Stream id) = IsAt a id
AreOneFile (Place.Free folder name) (Place.Free folder' name') = (folder ≡ folder') × (string_bytes name ≡ string_bytes name')
AreOneFile a b = ⊥

-- the names of standard output
abbrev pub IsStandardName : List ℕ → Type 0
IsStandardName name = ((name ≡ codes "-") ⊎ (name ≡ codes "/dev/stdout")) ⊎ ((name ≡ codes "/dev/fd/1") ⊎ (name ≡ codes "/proc/self/fd/1"))

-- what is at the place is a file, which is replaced as a whole
abbrev pub is_replaced : Place → Bool
is_replaced (Place.File id owners) = true
is_replaced (Place.Free folder name) = false
is_replaced (Place.Device id) = false
is_replaced (Place.Stream id) = false

-- what is at the place is a pipe, a socket or an open descriptor
abbrev pub is_stream : Place → Bool
is_stream (Place.File id owners) = false
is_stream (Place.Free folder name) = false
is_stream (Place.Device id) = false
is_stream (Place.Stream id) = true

-- what is at the place is opened to write alone: nothing is made and nothing emptied, and a stream is written to at its end
pub record OpensDirectly (place : Place) (how : OpenOptions) : Type 0 where
  pub appends : asks_append how ≡ is_stream place
  pub writes : asks_write how ≡ not (is_stream place)
  pub reads : asks_read how ≡ false
  pub keeps : asks_truncate how ≡ false
  pub makes : asks_create how ≡ false
  pub makes_new : asks_create_new how ≡ false
