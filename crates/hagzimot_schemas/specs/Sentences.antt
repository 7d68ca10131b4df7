-- Sentences on what breaks the compatibility of two versions of a schema.
use Rattle.std.specs.Prelude.{ℕ, ◌==◌, Bool, true, false, if◌then◌else◌, Option, Some, None, option_copied, List, [], ◌∷◌, ◌++◌, codes, find, slice_get, string_bytes}
use Rattle.std.specs.Str.{bytes_eq}
use Rattle.capnp_records.specs.declared.node.BaseType.{BaseType}
use Rattle.capnp_records.specs.declared.node.BaseType.TheVariants as base
use Rattle.capnp_records.specs.declared.node.FieldBody.{FieldBody}
use Rattle.capnp_records.specs.declared.node.FieldBody.TheVariants as body
use Rattle.capnp_records.specs.declared.node.FieldRecord.{FieldRecord}
use Rattle.capnp_records.specs.declared.node.NodeRecord.{NodeRecord}
use Rattle.capnp_calls_versions.specs.declared.breaks.FieldRule.{FieldRule}
use Rattle.capnp_calls_versions.specs.declared.breaks.FieldRule.TheVariants as of_field
use Rattle.capnp_calls_versions.specs.declared.breaks.Rule.{Rule}
use Rattle.capnp_calls_versions.specs.declared.breaks.Rule.TheVariants as rule
use Rattle.hagzimot_schemas.specs.Nodes.{fields_of_body}
use Rattle.hagzimot_schemas.specs.declared.breaks.Version.{Version}
use Rattle.hagzimot_schemas.specs.declared.breaks.Nodes.{Nodes}

-- ---- names

-- A name between two marks, and behind it the name in the version of another age, if it is another there.
abbrev pub names_text : List ℕ → List ℕ → List ℕ → List ℕ → List ℕ
names_text mark older newer age =
    if bytes_eq older newer then mark ++ (older ++ mark)
    else mark ++ (older ++ (mark ++ (codes " (in the " ++ (age ++ (codes " schema " ++ (mark ++ (newer ++ (mark ++ codes ")"))))))))

abbrev pub node_text : Option NodeRecord → List ℕ
node_text (Some n) = string_bytes n.display_name
node_text None = codes "a node that is missing"

-- The field of an index.
abbrev pub field_in : Option NodeRecord → ℕ → Option FieldRecord
field_in (Some n) index = slice_get (fields_of_body n.body) index
field_in None index = None

abbrev pub name_text : Option FieldRecord → List ℕ
name_text (Some f) = string_bytes f.name
name_text None = codes "?"

-- Two nodes of two versions, and the age of the second's.
pub record Pair : Type 0 where
  pub older : Option NodeRecord
  pub newer : Option NodeRecord
  pub age : List ℕ

-- The nodes, as the code has them.
abbrev pub pair_view : Nodes → Pair
pair_view ns = record { older = option_copied ns.older; newer = option_copied ns.newer; age = ns.age.now }

-- The names of two nodes, and of a field of each.
abbrev pub nodes_text : Pair → List ℕ
nodes_text p = names_text [] (node_text p.older) (node_text p.newer) p.age

abbrev pub older_name : Pair → ℕ → List ℕ
older_name p index = name_text (field_in p.older index)

abbrev pub newer_name : Pair → ℕ → List ℕ
newer_name p index = name_text (field_in p.newer index)

abbrev pub fields_text : Pair → ℕ → ℕ → List ℕ
fields_text p i k = names_text (codes "\"") (older_name p i) (newer_name p k) p.age

-- ---- rules

-- How many times a slot is a list of enums; none of another field.
abbrev pub enum_depth : ℕ → BaseType → Option ℕ
enum_depth count (base.Enum id) = Some count
enum_depth count _ = None

abbrev pub depth_of_enums : FieldBody → Option ℕ
depth_of_enums (body.Slot offset ty default) = enum_depth ty.list_count ty.base
depth_of_enums (body.Group node) = None

abbrev pub same_depth : Option ℕ → Option ℕ → Bool
same_depth (Some a) (Some b) = b == a
same_depth (Some a) None = false
same_depth None b = false

-- Both fields are of enums, in lists of one depth.
abbrev pub are_enums : Option FieldRecord → Option FieldRecord → Bool
are_enums (Some f) (Some g) = same_depth (depth_of_enums f.body) (depth_of_enums g.body)
are_enums (Some f) None = false
are_enums None g = false

-- What is said of two fields, of enums or not.
abbrev pub how_text : FieldRule → Bool → List ℕ
how_text of_field.Kind enums = codes "is a group in one schema and a slot in the other"
how_text of_field.Type true = codes "has an enum that lacks an enumerant, or has them in another order,"
how_text of_field.Type false = codes "has another type"
how_text of_field.Value enums = codes "doesn't have the same union value"
how_text of_field.Place enums = codes "lies elsewhere"
how_text of_field.Default enums = codes "has another default"

-- Where it is said to be so.
abbrev pub where_text : FieldRule → List ℕ → List ℕ
where_text of_field.Kind age = []
where_text of_field.Type age = codes " in the " ++ (age ++ codes " schema")
where_text of_field.Value age = codes " in the " ++ (age ++ codes " schema")
where_text of_field.Place age = codes " in the " ++ (age ++ codes " schema")
where_text of_field.Default age = codes " in the " ++ (age ++ codes " schema")

abbrev pub field_text : Pair → ℕ → ℕ → FieldRule → List ℕ
field_text p i k r =
    codes "field " ++ (fields_text p i k ++ (codes " "
    ++ (how_text r (are_enums (field_in p.older i) (field_in p.newer k)) ++ where_text r p.age)))

-- The older field that is due, if there is one.
abbrev pub due_text : Option FieldRecord → List ℕ
due_text (Some f) = codes ", and stands before \"" ++ (string_bytes f.name ++ codes "\"")
due_text None = []

-- What is said of a newer field that has the value of an older member, where an older field is due; and of an older field that is missing.
abbrev pub taken_text : Pair → ℕ → ℕ → List ℕ
taken_text p i k = codes "the field \"" ++ (newer_name p k ++ (codes "\" of the " ++ (p.age ++ (codes " schema takes the union value of an older member" ++ due_text (field_in p.older i)))))

abbrev pub missing_text : Pair → ℕ → List ℕ
missing_text p i = codes "field \"" ++ (older_name p i ++ (codes "\" is missing in the " ++ (p.age ++ codes " schema, or the fields have another order there")))

-- What is said of two nodes that break a rule.
abbrev pub rule_text : Pair → Rule → List ℕ
rule_text p rule.Roots = codes "one root is a group, the other is none"
rule_text p rule.Words = codes "the data section has fewer words in the " ++ (p.age ++ codes " schema")
rule_text p rule.Pointers = codes "the pointer section has fewer pointers in the " ++ (p.age ++ codes " schema")
rule_text p rule.Union = codes "the union is gone or lies elsewhere in the " ++ (p.age ++ codes " schema")
rule_text p (rule.Missing i) = missing_text p i
rule_text p (rule.Taken i k) = taken_text p i k
rule_text p (rule.Field i k r) = field_text p i k r

-- ---- sentences

-- The nodes of two ids in two versions.
abbrev pub pair_of : Version → Version → ℕ → ℕ → Pair
pair_of older newer i j = record {
  older = find (λ n. n.id == i) older.nodes.now;
  newer = find (λ n. n.id == j) newer.nodes.now;
  age = newer.age.now;
}

-- What is said of a break: the names of its nodes, and behind a colon the rule that they break.
abbrev pub sentence_text : Pair → Rule → List ℕ
sentence_text p r = nodes_text p ++ (codes ": " ++ rule_text p r)

-- What is said of a field whose interface is another.
abbrev pub interface_text : Pair → ℕ → ℕ → List ℕ
interface_text p i k = nodes_text p ++ (codes ": field " ++ (fields_text p i k ++ (codes " has another interface in the " ++ (p.age ++ codes " schema"))))
