-- What names hold, and what each call that succeeds makes of it.
use Rattle.std.specs.Prelude.{ℕ, zero, suc, Bool, true, false, if◌then◌else◌, Option, Some, None, option_map, List, [], ◌∷◌, ◌++◌, bytes_eq}

-- the bytes of a path
abbrev pub Name : Type 0
Name = List ℕ

-- the bytes under a name, and whether they outlive a stop of the machine
pub record FileContent : Type 0 where
  pub bytes : List ℕ
  pub is_synced : Bool

-- what each name holds, and whether the names outlive a stop of the machine
pub record FileTree : Type 0 where
  pub held : Name → Option FileContent
  pub has_synced_names : Bool

-- which call, a name, and the bytes that were written or the new name
abbrev pub FileCall : Type 0
FileCall = ℕ × Name × List ℕ

-- a file was made, of a name that nothing had
abbrev pub created : Name → FileCall
created name = (0, name, [])

abbrev pub wrote : Name → List ℕ → FileCall
wrote name bytes = (1, name, bytes)

-- the bytes under a name were synced
abbrev pub synced : Name → FileCall
synced name = (2, name, [])

-- what one name held another one holds
abbrev pub renamed_to : Name → Name → FileCall
renamed_to name to = (3, name, to)

abbrev pub removed : Name → FileCall
removed name = (4, name, [])

-- the names were synced
abbrev pub synced_names : FileCall
synced_names = (5, [], [])

-- the same, but for what this name holds
unfoldable pub put : Name → Option FileContent → (Name → Option FileContent) → Name → Option FileContent
put name content held other = if bytes_eq other name then content else held other

abbrev pub appended : List ℕ → FileContent → FileContent
appended bytes content = record { bytes = content.bytes ++ bytes; is_synced = false }

abbrev pub as_synced : FileContent → FileContent
as_synced content = record { bytes = content.bytes; is_synced = true }

-- the tree after a call
abbrev pub after_call : ℕ → Name → List ℕ → FileTree → FileTree
after_call zero name bytes t =
    record { held = put name (Some (record { bytes = []; is_synced = false })) t.held; has_synced_names = false }
after_call (suc zero) name bytes t = record t { held = put name (option_map (appended bytes) (t.held name)) t.held }
after_call (suc (suc zero)) name bytes t = record t { held = put name (option_map as_synced (t.held name)) t.held }
after_call (suc (suc (suc zero))) name to t = record { held = put to (t.held name) (put name None t.held); has_synced_names = false }
after_call (suc (suc (suc (suc zero)))) name bytes t = record { held = put name None t.held; has_synced_names = false }
after_call (suc (suc (suc (suc (suc more))))) name bytes t = record t { has_synced_names = true }

-- the tree after these calls, of which the newest comes first
abbrev pub tree_after : FileTree → List FileCall → FileTree
tree_after start [] = start
tree_after start (call ∷ earlier) = after_call call.0 call.1 call.2 (tree_after start earlier)
