-- at each level the inner parts come after the outer ones
use Rattle.std.proofs.Common.{◌+◌, ◌*◌}
use Rattle.capnp_source_values.proofs.values.+values.Given as goal

abbrev pub decreases-value_within : goal.decreases-value_within
decreases-value_within g l = 4 * l.levels

abbrev pub decreases-elements_within : goal.decreases-elements_within
decreases-elements_within g l = 4 * l.levels + 1

abbrev pub decreases-structs_within : goal.decreases-structs_within
decreases-structs_within g l = 4 * l.levels + 1

abbrev pub decreases-list_within : goal.decreases-list_within
decreases-list_within g l = 4 * l.levels + 2

abbrev pub decreases-field_within : goal.decreases-field_within
decreases-field_within g l = 4 * l.levels + 1

abbrev pub decreases-fields_within : goal.decreases-fields_within
decreases-fields_within g l = 4 * l.levels + 2

abbrev pub decreases-struct_within : goal.decreases-struct_within
decreases-struct_within g l = 4 * l.levels + 3
