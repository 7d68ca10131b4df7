-- Who holds a memory, and what one ends as that is lent to read.
use Rattle.std.specs.Prelude.{◌≡◌, ⊤, Result, IfOk}
use Rattle.std.specs.Borrow.{MutBor, Fml, RattleType, follows_so}
use mathlib.Core.Option.{none}
use Rattle.capnp_copy_arenas.specs.declared.arena.Memory.{Memory}
use Rattle.capnp_copy_arenas.specs.contracts.arena.Memory as memory

-- A handle that is returned holds this memory, as a member tells of it.
abbrev pub HoldsMemory : {A X E : Type 0} → (X → MutBor (Memory A)) → MutBor (Memory A) → Result X E → Type 0
HoldsMemory memory_of memory r = IfOk r (λ o. (memory_of o).ghost_name ≡ memory.ghost_name)

module _ (A : RattleType) where
  -- it stays as it is
  abbrev pub LeavesMemory : MutBor (Memory A.Denot) → Fml
  LeavesMemory s = follows_so (memory.the_row A) (memory.the_row A) s.ghost_name none (λ x n. ⊤) (λ n. n.arena ≡ s.now.arena)
