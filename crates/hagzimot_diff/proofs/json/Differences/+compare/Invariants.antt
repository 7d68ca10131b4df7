-- objects and arrays are nested less on the way down
use Rattle.std.proofs.Common.{◌+◌, ◌*◌}
use Rattle.hagzimot_diff.proofs.json.Differences.+compare.Given as goal

abbrev pub decreases-compare : goal.decreases-compare
decreases-compare l = 4 * l.levels + 1

abbrev pub decreases-compare_objects : goal.decreases-compare_objects
decreases-compare_objects l = 4 * l.levels + 2

abbrev pub decreases-compare_arrays : goal.decreases-compare_arrays
decreases-compare_arrays l = 4 * l.levels + 2
