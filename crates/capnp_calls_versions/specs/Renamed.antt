-- Renamed fields as contracts see them.
use Rattle.std.specs.Prelude.{◌≡◌, ⊤, false, List, map}
use Rattle.capnp_model.specs.Partners.{Renaming as ModelRenaming, are_one_to_one}
pub use Rattle.capnp_calls_versions.specs.Renamings.{renaming_of}
use Rattle.capnp_calls_versions.specs.declared.renamings.Renamings.{Renamings}
use Rattle.capnp_calls_versions.specs.declared.renamings.RenamingFault.{RenamingFault}
use Rattle.capnp_calls_versions.specs.declared.renamings.RenamingFault.TheVariants as fault
use Rattle.capnp_calls_versions.specs.declared.names.Names.{Names}

-- The renamings.
abbrev pub renamings_of : Renamings → List ModelRenaming
renamings_of rs = map renaming_of rs.list.items

-- Two renamings of one node have the same older or the same newer name; or memory was wanting.
abbrev pub IsRenamingRefusal : List ModelRenaming → RenamingFault → Type 0
IsRenamingRefusal rs fault.Twice = are_one_to_one rs ≡ false
IsRenamingRefusal rs fault.Memory = ⊤

-- The renamings behind names.
abbrev pub names_in : Names → List ModelRenaming
names_in ns = map renaming_of ns.list.now
