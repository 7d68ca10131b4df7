-- What a handle ends as that was lent for a while: it leads to the memory as the other handle left it.
use Rattle.std.specs.Prelude.{[]}
use Rattle.std.specs.Borrow.{MutBor, Fml, RattleType, follows}
use mir.Syntax.{named}
use Rattle.capnp_copy_arenas.specs.contracts.arena.Memory as memory
use Rattle.capnp_schema_structs.specs.declared.dynamic_struct.Builder.{Builder as StructBuilder}
use Rattle.capnp_schema_lists.specs.declared.dynamic_list.Builder.{Builder}
use Rattle.capnp_schema_lists.specs.contracts.dynamic_list.Builder as list

module _ (A : RattleType) where
  -- a list
  abbrev pub LendsListBuilder : MutBor (Builder A.Denot) → Builder A.Denot → Fml
  LendsListBuilder s r =
      follows (list.the_row (record { mir = named 1; lft = [] }) A) (memory.the_row A) s.ghost_name r.memory.ghost_name (λ w. record s.now { memory = record s.now.memory { now = w } })

  -- one of its structs
  abbrev pub LendsElementStruct : MutBor (Builder A.Denot) → StructBuilder A.Denot → Fml
  LendsElementStruct s r =
      follows (list.the_row (record { mir = named 1; lft = [] }) A) (memory.the_row A) s.ghost_name r.memory.ghost_name (λ w. record s.now { memory = record s.now.memory { now = w } })
