-- What a handle ends as that was lent for a while: it leads to the memory as the other handle left it.
use Rattle.std.specs.Prelude.{[]}
use Rattle.std.specs.Borrow.{MutBor, Fml, RattleType, follows}
use mir.Syntax.{named}
use Rattle.capnp_copy_arenas.specs.contracts.arena.Memory as memory
use Rattle.capnp_layout_builders.specs.declared.pointer_builder.PointerBuilder.{PointerBuilder}
use Rattle.capnp_layout_builders.specs.contracts.pointer_builder.PointerBuilder as pointer
use Rattle.capnp_layout_builders.specs.declared.struct_builder.StructBuilder.{StructBuilder}
use Rattle.capnp_layout_builders.specs.contracts.struct_builder.StructBuilder as object
use Rattle.capnp_layout_builders.specs.declared.list_builder.ListBuilder.{ListBuilder}
use Rattle.capnp_layout_builders.specs.contracts.list_builder.ListBuilder as list
use Rattle.capnp_layout_builders.specs.declared.data_builder.DataBuilder.{DataBuilder}
use Rattle.capnp_layout_builders.specs.contracts.data_builder.DataBuilder as blob
use Rattle.capnp_layout_builders.specs.declared.text_builder.TextBuilder.{TextBuilder}
use Rattle.capnp_layout_builders.specs.contracts.text_builder.TextBuilder as text

module _ (A : RattleType) where
  -- a pointer
  abbrev pub LendsPointer : MutBor (PointerBuilder A.Denot) → PointerBuilder A.Denot → Fml
  LendsPointer s r =
      follows (pointer.the_row (record { mir = named 1; lft = [] }) A) (memory.the_row A) s.ghost_name r.memory.ghost_name (λ w. record s.now { memory = record s.now.memory { now = w } })

  -- a struct
  abbrev pub LendsStruct : MutBor (StructBuilder A.Denot) → StructBuilder A.Denot → Fml
  LendsStruct s r =
      follows (object.the_row (record { mir = named 1; lft = [] }) A) (memory.the_row A) s.ghost_name r.memory.ghost_name (λ w. record s.now { memory = record s.now.memory { now = w } })

  -- a list
  abbrev pub LendsList : MutBor (ListBuilder A.Denot) → ListBuilder A.Denot → Fml
  LendsList s r =
      follows (list.the_row (record { mir = named 1; lft = [] }) A) (memory.the_row A) s.ghost_name r.memory.ghost_name (λ w. record s.now { memory = record s.now.memory { now = w } })

  -- data
  abbrev pub LendsData : MutBor (DataBuilder A.Denot) → DataBuilder A.Denot → Fml
  LendsData s r =
      follows (blob.the_row (record { mir = named 1; lft = [] }) A) (memory.the_row A) s.ghost_name r.memory.ghost_name (λ w. record s.now { memory = record s.now.memory { now = w } })

  -- a text
  abbrev pub LendsText : MutBor (TextBuilder A.Denot) → TextBuilder A.Denot → Fml
  LendsText s r =
      follows (text.the_row (record { mir = named 1; lft = [] }) A) (memory.the_row A) s.ghost_name r.memory.ghost_name (λ w. record s.now { memory = record s.now.memory { now = w } })
