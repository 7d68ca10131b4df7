-- at each level the inner parts come after the outer ones
use Rattle.std.proofs.Common.{◌+◌, ◌*◌}
use Rattle.capnp_source_values.proofs.bindings.+types.Given as goal

abbrev pub decreases-is_same_type : goal.decreases-is_same_type
decreases-is_same_type l = 4 * l.levels

abbrev pub decreases-are_same_arguments : goal.decreases-are_same_arguments
decreases-are_same_arguments l = 4 * l.levels + 1

abbrev pub decreases-is_same_scope : goal.decreases-is_same_scope
decreases-is_same_scope l = 4 * l.levels + 2

abbrev pub decreases-is_same_brand : goal.decreases-is_same_brand
decreases-is_same_brand l = 4 * l.levels + 3
