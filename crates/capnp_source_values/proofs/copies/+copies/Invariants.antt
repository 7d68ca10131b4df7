-- at each level the inner parts come after the outer ones
use Rattle.std.proofs.Common.{◌+◌, ◌*◌}
use Rattle.capnp_source_values.proofs.copies.+copies.Given as goal

abbrev pub decreases-copied_object : goal.decreases-copied_object
decreases-copied_object g l = 4 * l.levels

abbrev pub decreases-copied_pointers : goal.decreases-copied_pointers
decreases-copied_pointers g l = 4 * l.levels + 1

abbrev pub decreases-copied_parts : goal.decreases-copied_parts
decreases-copied_parts g l = 4 * l.levels + 2

abbrev pub decreases-copied_structs : goal.decreases-copied_structs
decreases-copied_structs g l = 4 * l.levels + 3
