-- at each level the inner parts come after the outer ones
use Rattle.std.proofs.Common.{◌+◌, ◌*◌}
use Rattle.capnp_source_embeds.proofs.embeds.+objects.Given as goal

abbrev pub decreases-object_within : goal.decreases-object_within
decreases-object_within g l = 4 * l.levels

abbrev pub decreases-pointers_within : goal.decreases-pointers_within
decreases-pointers_within g l = 4 * l.levels + 1

abbrev pub decreases-parts_within : goal.decreases-parts_within
decreases-parts_within g l = 4 * l.levels + 2

abbrev pub decreases-structs_within : goal.decreases-structs_within
decreases-structs_within g l = 4 * l.levels + 3
