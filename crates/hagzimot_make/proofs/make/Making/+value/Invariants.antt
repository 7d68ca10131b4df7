-- objects and arrays are nested less on the way down; within one level each calls the next
use Rattle.std.proofs.Common.{◌+◌, ◌*◌}
use Rattle.hagzimot_make.proofs.make.Making.+value.Given as goal

abbrev pub decreases-put_struct : goal.decreases-put_struct
decreases-put_struct l = 8 * l.left + 2

abbrev pub decreases-put_field : goal.decreases-put_field
decreases-put_field l = 8 * l.left + 6

abbrev pub decreases-put_pointer : goal.decreases-put_pointer
decreases-put_pointer l = 8 * l.left + 4

abbrev pub decreases-put_list : goal.decreases-put_list
decreases-put_list l = 8 * l.left + 1

abbrev pub decreases-put_structs : goal.decreases-put_structs
decreases-put_structs l = 8 * l.left + 5
