-- with what is left, all structs are found
use Rattle.std.proofs.Common.{◌≡◌, ◌==◌, ◌||◌, ℕ, List, length}
use Rattle.std.specs.List.{list_any}
use Rattle.std.specs.Map.{lookup}
use Rattle.std.specs.Str.{bytes_eq}
use Rattle.hagzimot_schemas.specs.Twins.{has_struct, struct_named_from, struct_named}
use Rattle.hagzimot_schemas.proofs.pairs.Structs.new.Given as goal

abbrev pub invariant-loop-left : goal.invariant-loop-left
invariant-loop-left l = record {
  by_id : (i : ℕ) → (list_any (λ k. i == k) l.ids.keys || has_struct l.left i) ≡ has_struct l.nodes i;
  by_name : (name : List ℕ) → struct_named_from (lookup (λ k. bytes_eq name k.now) l.names.entries) l.left name ≡ struct_named l.nodes name;
}

abbrev pub decreases-loop-left : goal.decreases-loop-left
decreases-loop-left l = length l.left
