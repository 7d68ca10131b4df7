-- those that were found, with those among the names that are left behind them, are the whole
use Rattle.std.proofs.Common.{◌≡◌, map, length}
use Rattle.hagzimot_schemas.specs.Roots.{names_view, has_no_scope, structs_onto, structs_where}
use Rattle.hagzimot_schemas.proofs.roots.unscoped.Given as goal

abbrev pub invariant-loop-left : goal.invariant-loop-left
invariant-loop-left l = structs_onto has_no_scope l.ids.items (map names_view l.left) ≡ structs_where has_no_scope (map names_view l.fn.names)

abbrev pub decreases-loop-left : goal.decreases-loop-left
decreases-loop-left l = length l.left
