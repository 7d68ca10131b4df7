-- what was read stands in front of what the rest reads as
use Rattle.std.proofs.Common.{◌≡◌, ◌++◌, map, length, option_map}
use Rattle.serde_json.specs.View.{items_view}
use Rattle.capnp_calls_versions.specs.Renamed.{renaming_of}
use Rattle.capnp_relay_files.specs.Json.{each_item}
use Rattle.capnp_relay_files.specs.RenamesFiles.{renaming_in}
use Rattle.capnp_relay_files.proofs.renames_file.renamings_of.Given as goal

abbrev pub invariant-loop-rest : goal.invariant-loop-rest
invariant-loop-rest l = each_item renaming_in (items_view l.fn.items) ≡ option_map (λ xs. map renaming_of l.renamings.items ++ xs) (each_item renaming_in (items_view l.rest))

abbrev pub decreases-loop-rest : goal.decreases-loop-rest
decreases-loop-rest l = length l.rest
