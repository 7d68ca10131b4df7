use Rattle.std.proofs.Common.{◌+◌, ◌*◌, length}
use Rattle.capnp_calls_replies.proofs.path.+path.Given as goal

abbrev pub decreases-at_struct : goal.decreases-at_struct
decreases-at_struct g l = 4 * length l.path.now

abbrev pub decreases-at_list : goal.decreases-at_list
decreases-at_list g l = 4 * length l.path.now

abbrev pub decreases-behind : goal.decreases-behind
decreases-behind g l = 4 * length l.path.now + 1

abbrev pub decreases-at_field : goal.decreases-at_field
decreases-at_field g l = 4 * length l.rest.now + 2

abbrev pub decreases-at_element : goal.decreases-at_element
decreases-at_element g l = 4 * length l.rest.now + 2
