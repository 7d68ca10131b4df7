-- structs and lists are nested less on the way down; within one level each calls the next
use Rattle.std.proofs.Common.{◌+◌, ◌*◌}
use Rattle.hagzimot_show.proofs.walk.+value.Given as goal

abbrev pub decreases-put_value : goal.decreases-put_value
decreases-put_value g l = 8 * l.left + 3

abbrev pub decreases-put_struct : goal.decreases-put_struct
decreases-put_struct g l = 8 * l.left + 2

abbrev pub decreases-put_fields : goal.decreases-put_fields
decreases-put_fields g l = 8 * l.left + 6

abbrev pub decreases-put_member : goal.decreases-put_member
decreases-put_member g l = 8 * l.left + 5

abbrev pub decreases-put_list : goal.decreases-put_list
decreases-put_list g l = 8 * l.left + 2

abbrev pub decreases-put_elements : goal.decreases-put_elements
decreases-put_elements g l = 8 * l.left + 6
