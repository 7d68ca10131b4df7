-- What contracts see of single renamings, and of names found by them.
use Rattle.std.specs.Prelude.{ℕ, ◌≡◌, Bool, ◌&&◌, ◌==◌, option_map, List, find, string_bytes}
use Rattle.std.specs.Borrow.{Bor}
use Rattle.std.specs.Map.{lookup}
use Rattle.std.specs.Str.{bytes_eq}
use Rattle.capnp_model.specs.Partners.{Renaming as ModelRenaming, is_of}
use Rattle.capnp_calls_versions.specs.declared.renamings.Renaming.{Renaming}
use Rattle.capnp_calls_versions.specs.declared.renamings.Version.{Version}
use Rattle.capnp_calls_versions.specs.declared.renamings.Version.TheVariants as version

-- A renaming.
abbrev pub renaming_of : Renaming → ModelRenaming
renaming_of r = record { node = r.node; older = string_bytes r.older; newer = string_bytes r.newer }

-- The name in a version.
abbrev pub name_in : Version → Renaming → List ℕ
name_in version.Older r = string_bytes r.older
name_in version.Newer r = string_bytes r.newer

-- The node and the name in a version.
abbrev pub key_in : Version → Renaming → ℕ × List ℕ
key_in v r = (r.node, name_in v r)

-- The renaming is of a node's field to this name.
abbrev pub is_to : ℕ → List ℕ → ModelRenaming → Bool
is_to id n r = r.node == id && bytes_eq r.newer n

-- Each node and older name finds the newer name of its first renaming.
abbrev pub FindsNewer : List ModelRenaming → List ((ℕ × Bor (List ℕ)) × Bor (List ℕ)) → Type 0
FindsNewer rs entries =
    (id : ℕ) (l : List ℕ)
    → option_map (λ n. n.now) (lookup (λ k. id == k.0 && bytes_eq l k.1.now) entries) ≡ option_map (λ (r : ModelRenaming). r.newer) (find (is_of id l) rs)

-- Each node and newer name finds the older name of its first renaming.
abbrev pub FindsOlder : List ModelRenaming → List ((ℕ × Bor (List ℕ)) × Bor (List ℕ)) → Type 0
FindsOlder rs entries =
    (id : ℕ) (n : List ℕ)
    → option_map (λ l. l.now) (lookup (λ k. id == k.0 && bytes_eq n k.1.now) entries) ≡ option_map (λ (r : ModelRenaming). r.older) (find (is_to id n) rs)
