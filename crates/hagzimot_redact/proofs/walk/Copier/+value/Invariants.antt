-- structs and lists are nested less on the way down; within one level each calls the next
use Rattle.std.proofs.Common.{◌+◌, ◌*◌}
use Rattle.hagzimot_redact.proofs.walk.Copier.+value.Given as goal

abbrev pub decreases-put_struct : goal.decreases-put_struct
decreases-put_struct g l = 8 * l.left + 2

abbrev pub decreases-put_field : goal.decreases-put_field
decreases-put_field g l = 8 * l.left + 6

abbrev pub decreases-put_pointer : goal.decreases-put_pointer
decreases-put_pointer g l = 8 * l.left + 4

abbrev pub decreases-put_list : goal.decreases-put_list
decreases-put_list g l = 8 * l.left + 1

abbrev pub decreases-put_pointers : goal.decreases-put_pointers
decreases-put_pointers g l = 8 * l.left + 5

abbrev pub decreases-put_structs : goal.decreases-put_structs
decreases-put_structs g l = 8 * l.left + 5
