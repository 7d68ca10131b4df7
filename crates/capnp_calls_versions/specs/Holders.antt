-- What contracts see of the nodes of a set, and of what an id's node says.
use Rattle.std.specs.Prelude.{ℕ, ◌≡◌, Bool, true, ◌&&◌, List, map}
use Rattle.std.specs.List.{list_all}
use Rattle.capnp_model.specs.Schemas.{FieldKind, Node, Shape, shape, Schema}
use Rattle.capnp_model.specs.Accepted.{fields_of_kind, has_good_default, default_reads, are_distinct, fields_from, schema_of}
use Rattle.capnp_records.specs.NodeViews.{field_of}
use Rattle.capnp_records.specs.Sets.{nodes_of}
use Rattle.capnp_records.specs.Tables.{AreByName}
use Rattle.capnp_records.specs.declared.node.FieldRecord.{FieldRecord}
use Rattle.capnp_calls_versions.specs.declared.nodes.Nodes.{Nodes}
use Rattle.capnp_calls_versions.specs.declared.nodes.Holder.{Holder}

-- The nodes.
abbrev pub held_nodes : Nodes → List Node
held_nodes ns = nodes_of ns.set.now

-- The schema that they make.
abbrev pub held_schema : Nodes → Schema
held_schema ns = schema_of (held_nodes ns)

-- The shape of what an id's node says, by the shapes of groups.
abbrev pub shape_by : (ℕ → Shape) → Holder → Shape
shape_by groups h = shape h.id h.words h.pointers h.union (fields_from groups (map field_of h.fields.now))

-- The default of a slot is of its type, and reads as it.
abbrev pub is_sound_kind : FieldKind → Bool
is_sound_kind k = has_good_default k && default_reads k

-- The defaults of a node's fields are of their types, and read as them.
abbrev pub are_sound_in : Node → Bool
are_sound_in n = list_all (λ f. is_sound_kind f.kind) (fields_of_kind n.kind)

-- The defaults of fields are of their types, and read as them.
abbrev pub are_sound : List FieldRecord → Bool
are_sound fs = list_all (λ f. is_sound_kind f.kind) (map field_of fs)

-- The fields have distinct names, and their places stand in the order of these.
pub record AreFoundByName (h : Holder) : Type 0 where
  pub places : AreByName (map field_of h.fields.now) h.by_name.now
  pub distinct : are_distinct (map (λ f. f.name) (map field_of h.fields.now)) ≡ true
