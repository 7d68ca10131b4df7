-- The reasons why a schema source can't be read.
use Rattle.std.specs.Prelude.{ℕ, ◌<◌, ◌≤◌, List, length, All}
use Rattle.capnp_source_syntax.specs.declared.source_file.SourceFault.{SourceFault}
use Rattle.capnp_source_syntax.specs.declared.source_file.SourceFault.TheVariants as F

-- At least one mistake is reported, and each is in the text or at its end.
abbrev pub IsSourceFault : List ℕ → SourceFault → Type 0
IsSourceFault text (F.Mistakes v) = (0 < length v.items) × All (λ m. m.offset ≤ length text) v.items
IsSourceFault text F.Memory = Unit {0}
