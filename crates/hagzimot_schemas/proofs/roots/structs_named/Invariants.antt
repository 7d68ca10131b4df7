-- those that were found, with those among the names that are left behind them, are the whole
use Rattle.std.proofs.Common.{◌≡◌, map, length}
use Rattle.hagzimot_schemas.specs.Roots.{names_view, names_exactly, names_last, structs_onto, structs_where}
use Rattle.hagzimot_schemas.proofs.roots.structs_named.Given as goal

abbrev pub invariant-loop-left : goal.invariant-loop-left
invariant-loop-left l = record {
  exact : structs_onto (names_exactly l.fn.word) l.exact.items (map names_view l.left) ≡ structs_where (names_exactly l.fn.word) (map names_view l.fn.names);
  last : structs_onto (names_last l.fn.word) l.last.items (map names_view l.left) ≡ structs_where (names_last l.fn.word) (map names_view l.fn.names);
}

abbrev pub decreases-loop-left : goal.decreases-loop-left
decreases-loop-left l = length l.left
