-- Where paths lead under a schema.
use Rattle.std.specs.Prelude.{◌≡◌, ℕ, ◌-◌, ◌==◌, if◌then◌else◌, Option, Some, None, List, [], ◌∷◌, find, string_bytes}
use Rattle.std.specs.Str.{bytes_eq}
use Rattle.capnp_model.specs.Chains.{◌>>=◌}
use Rattle.capnp_model.specs.Calls.{Step as ModelStep, name, index}
use Rattle.capnp_records.specs.declared.node.BaseType.{BaseType}
use Rattle.capnp_records.specs.declared.node.BaseType.TheVariants as base
use Rattle.capnp_records.specs.declared.node.FieldBody.{FieldBody}
use Rattle.capnp_records.specs.declared.node.FieldBody.TheVariants as body
use Rattle.capnp_records.specs.declared.node.FieldRecord.{FieldRecord}
use Rattle.capnp_records.specs.declared.node.NodeRecord.{NodeRecord}
use Rattle.hagzimot_schemas.specs.Nodes.{behind_colons, fields_of_body}
use Rattle.hagzimot_commands.specs.declared.paths.Landing.{Landing}
use Rattle.hagzimot_commands.specs.declared.paths.Landing.TheVariants as landing
use Rattle.hagzimot_commands.specs.declared.paths.Misstep.{Misstep}
use Rattle.hagzimot_commands.specs.declared.paths.Misstep.TheVariants as misstep

-- A struct of an id, as the value from which a path begins.
abbrev pub struct_landing : ℕ → Landing
struct_landing id = landing.Value (record { list_count = 0; base = base.Struct id })

-- The id of a struct's type.
abbrev pub struct_id : BaseType → Option ℕ
struct_id (base.Struct id) = Some id
struct_id _ = None

-- The id of the struct or group that stands there.
abbrev pub id_at : Landing → Option ℕ
id_at (landing.Group id) = Some id
id_at (landing.Value ty) = if ty.list_count == 0 then struct_id ty.base else None

-- An element of the list that stands there.
abbrev pub element_landing : Landing → Option Landing
element_landing (landing.Group id) = None
element_landing (landing.Value ty) = if ty.list_count == 0 then None else Some (landing.Value (record { list_count = ty.list_count - 1; base = ty.base }))

-- The node of what has fields there.
abbrev pub node_of_landing : List NodeRecord → Landing → Option NodeRecord
node_of_landing nodes at = id_at at >>= λ id. find (λ n. n.id == id) nodes

-- What a field is.
abbrev pub landing_of : FieldBody → Landing
landing_of (body.Slot offset ty default) = landing.Value ty
landing_of (body.Group id) = landing.Group id

-- What the first field of a name is.
abbrev pub field_named : NodeRecord → List ℕ → Option Landing
field_named n text = find (λ f. bytes_eq (string_bytes f.name) text) (fields_of_body n.body) >>= λ f. Some (landing_of f.body)

-- What a step leads to.
abbrev pub stepped : List NodeRecord → Landing → ModelStep → Option Landing
stepped nodes at (name text) = node_of_landing nodes at >>= λ n. field_named n text
stepped nodes at (index i) = element_landing at

-- What a path leads to.
unfoldable pub walked : List NodeRecord → Landing → List ModelStep → Option Landing
walked nodes at [] = Some at
walked nodes at (s ∷ path) = stepped nodes at s >>= λ next. walked nodes next path

-- A refusal tells that a node has no field of a name, both by name.
abbrev pub TellsNoField : NodeRecord → List ℕ → Misstep → Type 0
TellsNoField n text (misstep.NoField told node nearest) = (string_bytes told ≡ text) × (string_bytes node ≡ behind_colons (string_bytes n.display_name))
TellsNoField n text _ = ⊥

-- Why a step leads nowhere.
abbrev pub IsMisstep : List NodeRecord → Landing → ModelStep → Misstep → Type 0
IsMisstep nodes at s (misstep.NoField told node nearest) = (n : NodeRecord) × (text : List ℕ) × (s ≡ name text) × (node_of_landing nodes at ≡ Some n) × (field_named n text ≡ None)
    × TellsNoField n text (misstep.NoField told node nearest)
IsMisstep nodes at s (misstep.NoStruct text) = (s ≡ name (string_bytes text)) × (node_of_landing nodes at ≡ None)
IsMisstep nodes at s (misstep.NoList i) = (s ≡ index i) × (element_landing at ≡ None)
IsMisstep nodes at s misstep.Memory = stepped nodes at s ≡ None

-- Why a path leads nowhere: its first step that does.
unfoldable pub Misses : List NodeRecord → Landing → List ModelStep → Misstep → Type 0
Misses nodes at [] e = ⊥
Misses nodes at (s ∷ path) e = elim (stepped nodes at s) [ None ↦ IsMisstep nodes at s e | Some next ↦ Misses nodes next path e ]
