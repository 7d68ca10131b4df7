use Rattle.std.proofs.Common.{◌+◌, ◌*◌, length}
use Rattle.capnp_calls_edits.proofs.path.+path.Given as goal

abbrev pub decreases-write_steps : goal.decreases-write_steps
decreases-write_steps g l = 4 * length l.path.now

abbrev pub decreases-write_behind : goal.decreases-write_behind
decreases-write_behind g l = 4 * length l.rest.now + 3

abbrev pub decreases-write_value : goal.decreases-write_value
decreases-write_value g l = 4 * length l.path.now + 2

abbrev pub decreases-write_struct : goal.decreases-write_struct
decreases-write_struct g l = 4 * length l.path.now + 1

abbrev pub decreases-write_list : goal.decreases-write_list
decreases-write_list g l = 4 * length l.path.now + 1

abbrev pub decreases-write_element : goal.decreases-write_element
decreases-write_element g l = 4 * length l.rest.now + 3
