-- What files make when they are opened: a schema with its root, a relay, two versions of a schema.
use Rattle.std.specs.Prelude.{◌≡◌, ℕ, pos, List, [], ◌∷◌, Option, Some, map, string_bytes}
use Rattle.capnp_model.specs.Partners.{Renaming}
use Rattle.capnp_model.specs.Compatible.{IsCompatibleWith}
use Rattle.capnp_model.specs.Accepted.{schema_of}
use Rattle.capnp_records.specs.Sets.{nodes_of}
use Rattle.capnp_message.specs.declared.options.ReaderOptions.{ReaderOptions}
use Rattle.capnp_calls_versions.specs.Renamed.{renamings_of}
use Rattle.capnp_relay_files.specs.RenamesFiles.{renames_in}
use Rattle.capnp_relay_requests.specs.declared.request.Floats.TheVariants.{AsBits}
use Rattle.capnp_relay_streams.specs.declared.options.RelayOptions.{RelayOptions}
use Rattle.hagzimot_schemas.specs.declared.schemas.RootedSchema.{RootedSchema}
use Rattle.hagzimot_schemas.specs.SchemaForms.{AreNodesTold}
use Rattle.hagzimot_schemas.specs.Roots.{names_of, IsRootOf}
use Rattle.hagzimot_in_process.specs.declared.relay.Forms.{Forms}
use Rattle.hagzimot_in_process.specs.declared.relay.Relay.{Relay}
use Rattle.hagzimot_in_process.specs.declared.versions.Versions.{Versions}
use Rattle.hagzimot_in_process.specs.Relays.{AreCallsIn}

-- A schema is the one that a file has, with the struct that a word names as root.
pub record IsSchemaOf (bytes : List ℕ) (word : Option (List ℕ)) (s : RootedSchema) : Type 0 where
  pub nodes : AreNodesTold AsBits bytes (nodes_of s.set)
  pub root : IsRootOf word (names_of (nodes_of s.set) (map string_bytes s.files.items)) s.top_structs.items s.root.id

-- Options have these forms and limits.
pub record HasForms (forms : Forms) (limits : ReaderOptions) (o : RelayOptions) : Type 0 where
  pub input : o.input ≡ forms.input
  pub output : o.output ≡ forms.output
  pub plain : o.plain ≡ forms.is_plain
  pub words : limits.traversal_limit_in_words ≡ Some o.bounds.words
  pub nesting : limits.nesting_limit ≡ pos o.bounds.nesting

-- A relay is the one that a schema file, a word for its root, a calls file and forms make.
pub record IsOpened (schema : List ℕ) (word : Option (List ℕ)) (calls : List ℕ) (forms : Forms) (r : Relay) : Type 0 where
  pub schema_is : IsSchemaOf schema word r.schema
  pub calls_are : AreCallsIn calls r.calls.items r.limits
  pub forms_are : HasForms forms r.limits r.options

-- Renamings are those of a renames file; empty bytes have none.
abbrev pub AreRenamingsIn : List ℕ → List Renaming → Type 0
AreRenamingsIn [] rs = rs ≡ []
AreRenamingsIn (b ∷ bytes) rs = renames_in (b ∷ bytes) ≡ Some rs

-- Versions are those of two schema files, with the struct that a word names in each as its root.
pub record AreVersionsOf (older newer renames : List ℕ) (word : Option (List ℕ)) (v : Versions) : Type 0 where
  pub older_is : IsSchemaOf older word v.older
  pub newer_is : IsSchemaOf newer word v.newer
  pub renamings_are : AreRenamingsIn renames (renamings_of v.renamings)

-- What is written under the older version reads the same under the newer. (Schema language, "Evolving Your Protocol")
abbrev pub AreCompatible : Versions → Type 0
AreCompatible v = IsCompatibleWith (renamings_of v.renamings) (schema_of (nodes_of v.older.set)) (schema_of (nodes_of v.newer.set)) v.older.root.id v.newer.root.id
