-- Types whose parameters are bound.
use Rattle.std.specs.Prelude.{ℕ, ◌+◌, ◌-◌, ◌^◌, ◌==◌, nat_lt, min, max, Bool, true, false, ◌&&◌, ◌||◌, not, if◌then◌else◌, List, [], ◌∷◌}
use Rattle.capnp_records.specs.declared.node.BaseType.{BaseType}
use Rattle.capnp_records.specs.declared.node.BaseType.TheVariants as T
use Rattle.capnp_relay_bindings.specs.declared.types.Binding.{Binding}
use Rattle.capnp_relay_bindings.specs.declared.types.BoundType.{BoundType}

-- A type that isn't nested.
abbrev pub plain_type : BaseType → BoundType
plain_type b = record { ty = record { list_count = 0; base = b }; interface = 0; depth = 1 }

-- A base whose values lie behind pointers. (Encoding, "Pointers")
abbrev pub is_pointer_base : BaseType → Bool
is_pointer_base T.Text = true
is_pointer_base T.Data = true
is_pointer_base (T.Struct id) = true
is_pointer_base T.AnyPointer = true
is_pointer_base T.Capability = true
is_pointer_base _ = false

-- A type that a parameter may be bound to: at most 16 types are nested in it, and its values lie behind pointers.
abbrev pub is_argument : BoundType → Bool
is_argument t = not (nat_lt 16 t.depth) && (nat_lt 0 t.ty.list_count || is_pointer_base t.ty.base)

-- The type as an argument; what a parameter can't be bound to is the untyped pointer.
abbrev pub argument_of : BoundType → BoundType
argument_of t = if is_argument t then t else plain_type T.AnyPointer

-- The type that a parameter is bound to by the first binding of it; else the untyped pointer.
abbrev pub bound_to : List Binding → ℕ → ℕ → BoundType
bound_to [] scope index = plain_type T.AnyPointer
bound_to (b ∷ bs) scope index = if (b.scope == scope) && (b.index == index) then b.to else bound_to bs scope index

-- The list of a type. Both counts stop at 2^32 - 1.
abbrev pub listed_type : BoundType → BoundType
listed_type t = record { ty = record { list_count = min (t.ty.list_count + 1) (2 ^ 32 - 1); base = t.ty.base }; interface = t.interface; depth = min (t.depth + 1) (2 ^ 32 - 1) }

abbrev pub is_untyped_base : BaseType → Bool
is_untyped_base T.AnyPointer = true
is_untyped_base _ = false

-- The untyped pointer, and no list of it.
abbrev pub is_untyped_type : BoundType → Bool
is_untyped_type t = (t.ty.list_count == 0) && is_untyped_base t.ty.base

-- The most types that are nested in an argument, and in those of a start.
abbrev pub deepest : ℕ → List Binding → ℕ
deepest most [] = most
deepest most (b ∷ bs) = deepest (max most b.to.depth) bs

-- The number of nested types in a type with these bindings: one more than in its deepest argument. The count stops at 2^32 - 1.
abbrev pub depth_of : List Binding → ℕ
depth_of bindings = min (deepest 0 bindings + 1) (2 ^ 32 - 1)
