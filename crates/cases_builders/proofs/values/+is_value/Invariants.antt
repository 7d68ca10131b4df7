-- A pointer takes a level.
use Rattle.cases_builders.proofs.values.+is_value.Given as goal

abbrev pub decreases-is_value : goal.decreases-is_value
decreases-is_value g l = l.levels
