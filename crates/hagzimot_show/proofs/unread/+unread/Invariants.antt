-- structs and lists are nested less on the way down
use Rattle.std.proofs.Common.{◌+◌, ◌*◌}
use Rattle.hagzimot_show.proofs.unread.+unread.Given as goal

abbrev pub decreases-find_unread : goal.decreases-find_unread
decreases-find_unread g l = 2 * l.left

abbrev pub decreases-find_in_struct : goal.decreases-find_in_struct
decreases-find_in_struct g l = 2 * l.left + 1

abbrev pub decreases-find_in_list : goal.decreases-find_in_list
decreases-find_in_list g l = 2 * l.left + 1
