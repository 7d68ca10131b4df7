-- The nodes of a request, and the scopes around them.
use Rattle.std.specs.Prelude.{ℕ, zero, suc, nat_eq, if◌then◌else◌, Option, Some, None, List, [], ◌∷◌}
use Rattle.std.specs.HashMap.{get}
use Rattle.capnp_relay_bindings.specs.declared.scopes.Declared.{Declared}
use Rattle.capnp_relay_bindings.specs.declared.scopes.Scopes.{Scopes}

-- The node that is declared at an id.
abbrev pub declared_at : Scopes → ℕ → Option Declared
declared_at s id = get nat_eq s.nodes id

-- A node before those around it; a file, and an id without a node, has no scope.
abbrev pub scope_before : ℕ → Option Declared → (ℕ → List ℕ) → List ℕ
scope_before id None around = []
scope_before id (Some node) around = if node.is_file then [] else (id ∷ around node.scope)

-- The node of an id and the scopes around it, the innermost first, without the file: at most n.
unfoldable pub scopes_around : ℕ → (ℕ → Option Declared) → ℕ → List ℕ
scopes_around zero at id = []
scopes_around (suc n) at id = scope_before id (at id) (scopes_around n at)
