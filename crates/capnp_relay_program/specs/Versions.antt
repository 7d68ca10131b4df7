-- What contracts see of a version of a schema.
use Rattle.std.specs.Prelude.{ℕ, ◌≡◌, Option, option_map, List}
use Rattle.capnp_model.specs.Schemas.{Node}
use Rattle.capnp_records.specs.Sets.{nodes_of}
use Rattle.capnp_relay_program.specs.declared.version.Version.{Version}

-- The nodes of a version.
abbrev pub nodes_at : Version → List Node
nodes_at v = nodes_of v.set

-- The version, if there is one, has the root of this id.
abbrev pub HasRootId : Option Version → ℕ → Type 0
HasRootId v id = option_map (λ (x : Version). x.root.id) v ≡ option_map (λ (x : Version). id) v
