-- The items of a list by index.
use Rattle.std.specs.Prelude.{ℕ, zero, suc, ◌+◌, ◌-◌, List, [], ◌∷◌}
use Rattle.capnp_units.specs.declared.iter.ItemIter.{ItemIter}

-- n items from an index on.
abbrev pub items_from : {T : Type 0} → (ℕ → T) → ℕ → ℕ → List T
items_from at from zero = []
items_from at from (suc n) = at from ∷ items_from at (from + 1) n

-- The items that an iterator hasn't returned yet, in order.
abbrev pub items_left : {I L T X : Type 0} {index : _} {bound : _} → (L → ℕ → X) → ItemIter I L T index bound → List X
items_left at i = items_from (at i.list) i.index (i.size - i.index)
