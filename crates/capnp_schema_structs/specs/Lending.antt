-- What a handle ends as that was lent for a while: it leads to the memory as the other handle left it.
use Rattle.std.specs.Prelude.{[]}
use Rattle.std.specs.Borrow.{MutBor, Fml, RattleType, follows}
use mir.Syntax.{named}
use Rattle.capnp_copy_arenas.specs.contracts.arena.Memory as memory
use Rattle.capnp_schema_structs.specs.declared.dynamic_struct.Builder.{Builder}
use Rattle.capnp_schema_structs.specs.contracts.dynamic_struct.Builder as builder

module _ (A : RattleType) where
  -- a struct
  abbrev pub Lends : MutBor (Builder A.Denot) → Builder A.Denot → Fml
  Lends s r =
      follows (builder.the_row (record { mir = named 1; lft = [] }) A) (memory.the_row A) s.ghost_name r.memory.ghost_name (λ w. record s.now { memory = record s.now.memory { now = w } })
