-- groups are nested less on the way down
use Rattle.hagzimot_show.proofs.names.+pointer.Given as goal

abbrev pub decreases-name_pointer : goal.decreases-name_pointer
decreases-name_pointer g l = l.groups
