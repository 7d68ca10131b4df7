use Rattle.std.specs.Prelude.{ℕ, List, slice_index}
use Rattle.hagzimot_files.specs.Calls.{FileCall}

abbrev pub file_call : List ℕ → List ℕ → List ℕ → FileCall
file_call number name bytes = (slice_index number 0, name, bytes)
