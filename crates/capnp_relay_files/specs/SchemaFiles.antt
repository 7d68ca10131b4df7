-- What a schema file says: an array of nodes, without annotations.
use Rattle.std.specs.Prelude.{ℕ, ℤ, pos, negsuc, suc, ◌-◌, ◌^◌, ◌==◌, min, nat_lt, if◌then◌else◌, Option, Bool, false, Some, None, option_map, option_and_then, is_some, List, [], ◌∷◌, codes}
use Rattle.std.specs.List.{count_by}
use Rattle.std.specs.Str.{bytes_eq}
use Rattle.capnp_model.specs.Chains.{◌>>=◌, ◌provided◌}
use Rattle.capnp_model.specs.Schemas.{bool, int, uint, «enum», BaseType, TypeRecord, Value, no_value, bits, text_bytes, blob_bytes, list_segment, struct_segment, Field, slot, group, struct_node, enum_node, Node, Enumerant}
use Rattle.serde_json.specs.Data.{Data, string, object, Members, no_members, member}
use Rattle.serde_json.specs.Find.{get, as_bool, as_str, as_array, as_number, as_i64}
use Rattle.capnp_relay_files.specs.Json.{json_value_in, find_named, with_keys, number_in, number_at, number_or, text_at, hex_in, each_item, items_at}

-- ---- types

-- The bases that have a name.
abbrev pub named_bases : List (List ℕ × BaseType)
named_bases =
    (codes "Void", BaseType.Void) ∷ (codes "Bool", BaseType.Boolean)
    ∷ (codes "Int8", BaseType.Int8) ∷ (codes "Int16", BaseType.Int16) ∷ (codes "Int32", BaseType.Int32) ∷ (codes "Int64", BaseType.Int64)
    ∷ (codes "UInt8", BaseType.UInt8) ∷ (codes "UInt16", BaseType.UInt16) ∷ (codes "UInt32", BaseType.UInt32) ∷ (codes "UInt64", BaseType.UInt64)
    ∷ (codes "Float32", BaseType.Float32) ∷ (codes "Float64", BaseType.Float64)
    ∷ (codes "Text", BaseType.Text) ∷ (codes "Data", BaseType.Data)
    ∷ (codes "AnyPointer", BaseType.AnyPointer) ∷ (codes "Capability", BaseType.Capability) ∷ []

-- A base by itself.
abbrev pub bare_base : BaseType → TypeRecord
bare_base b = record { list_count = 0; base = b }

-- A list of a type; lists are nested less than 2^32 deep.
abbrev pub list_type : TypeRecord → Option TypeRecord
list_type t = record { list_count = suc t.list_count; base = t.base } provided nat_lt (suc t.list_count) (2 ^ 32)

-- A struct or an enum by its id.
abbrev pub type_with_id : List ℕ → Data → Option TypeRecord
type_with_id key d =
    if bytes_eq key (codes "struct") then option_map (λ n. bare_base (BaseType.Struct n)) (number_in (2 ^ 64 - 1) d) else
    (if bytes_eq key (codes "enum") then option_map (λ n. bare_base (BaseType.Enum n)) (number_in (2 ^ 64 - 1) d) else None)

-- A type: a name, or an object whose one key is `list`, `struct` or `enum`.
unfoldable mutual
  pub type_in : Data → Option TypeRecord
  type_in (string n) = option_map bare_base (find_named n named_bases)
  type_in (object ms) = type_of_members ms
  type_in _ = None

  pub type_of_members : Members → Option TypeRecord
  type_of_members no_members = None
  type_of_members (member key d no_members) = if bytes_eq key (codes "list") then type_in d >>= list_type else type_with_id key d
  type_of_members (member key d (member other e ms)) = None

-- ---- defaults

-- The bits of a number with a sign, where n hold it.
abbrev pub signed_bits : ℕ → ℤ → Option ℕ
signed_bits w (pos n) = n provided nat_lt n (2 ^ (w - 1))
signed_bits w (negsuc n) = (2 ^ w - suc n) provided nat_lt n (2 ^ (w - 1))

-- A number with a sign.
abbrev pub signed_in : ℕ → Data → Option Value
signed_in w d = option_and_then as_i64 (as_number d) >>= λ z. option_map (bits (int w)) (signed_bits w z)

-- A number without a sign.
abbrev pub unsigned_in : ℕ → Data → Option Value
unsigned_in w d = option_map (bits (uint w)) (number_in (2 ^ w - 1) d)

-- The default of a slot of numbers, bools or enumerants.
abbrev pub plain_default : BaseType → Data → Option Value
plain_default BaseType.Boolean d = option_map (λ b. bits bool (if b then 1 else 0)) (as_bool d)
plain_default BaseType.Int8 d = signed_in 8 d
plain_default BaseType.Int16 d = signed_in 16 d
plain_default BaseType.Int32 d = signed_in 32 d
plain_default BaseType.Int64 d = signed_in 64 d
plain_default BaseType.UInt8 d = unsigned_in 8 d
plain_default BaseType.UInt16 d = unsigned_in 16 d
plain_default BaseType.UInt32 d = unsigned_in 32 d
plain_default BaseType.UInt64 d = unsigned_in 64 d
plain_default (BaseType.Enum id) d = option_map (bits («enum» 0)) (number_in (2 ^ 16 - 1) d)
plain_default _ d = None

-- The default of a slot of a base.
abbrev pub base_default : BaseType → Data → Option Value
base_default BaseType.Text d = option_map text_bytes (as_str d)
base_default BaseType.Data d = option_map blob_bytes (hex_in d)
base_default (BaseType.Struct id) d = option_map struct_segment (hex_in d)
base_default b d = plain_default b d

-- The default that the file gives to a slot of a type.
abbrev pub default_in_file : TypeRecord → Data → Option Value
default_in_file t d = if t.list_count == 0 then base_default t.base d else option_map list_segment (hex_in d)

-- The default of a base where the file gives none: that of a plain one is nothing or zero.
abbrev pub absent_base_default : BaseType → Option Value
absent_base_default BaseType.Void = Some no_value
absent_base_default BaseType.Boolean = Some (bits bool 0)
absent_base_default BaseType.Int8 = Some (bits (int 8) 0)
absent_base_default BaseType.Int16 = Some (bits (int 16) 0)
absent_base_default BaseType.Int32 = Some (bits (int 32) 0)
absent_base_default BaseType.Int64 = Some (bits (int 64) 0)
absent_base_default BaseType.UInt8 = Some (bits (uint 8) 0)
absent_base_default BaseType.UInt16 = Some (bits (uint 16) 0)
absent_base_default BaseType.UInt32 = Some (bits (uint 32) 0)
absent_base_default BaseType.UInt64 = Some (bits (uint 64) 0)
absent_base_default (BaseType.Enum id) = Some (bits («enum» 0) 0)
absent_base_default _ = None

-- The default of a type where the file gives none: that of a plain one is nothing or zero.
abbrev pub absent_default : TypeRecord → Option Value
absent_default t = if t.list_count == 0 then absent_base_default t.base else None

-- The default of a slot.
abbrev pub slot_default : TypeRecord → Data → Option (Option Value)
slot_default t d = elim (get (codes "default") d) [ None ↦ Some (absent_default t) | Some x ↦ option_map Some (default_in_file t x) ]

-- ---- fields

-- The value of a union member, if the field is one; 65535 is no value.
abbrev pub member_in : Data → Option (Option ℕ)
member_in d = elim (get (codes "discriminant") d) [ None ↦ Some None | Some x ↦ option_map Some (number_in 65534 x) ]

-- A slot.
abbrev pub slot_in : Data → Option Field
slot_in d =
    with_keys (codes "name" ∷ codes "type" ∷ codes "offset" ∷ codes "discriminant" ∷ codes "default" ∷ []) d >>= λ o.
    text_at (codes "name") o >>= λ n.
    member_in o >>= λ m.
    get (codes "type") o >>= λ x.
    type_in x >>= λ t.
    number_at (codes "offset") (2 ^ 32 - 1) o >>= λ at.
    slot_default t o >>= λ v.
    Some (record { name = n; member = m; annotations = []; kind = slot at t v })

-- A group.
abbrev pub group_in : Data → Option Field
group_in d =
    with_keys (codes "name" ∷ codes "group" ∷ codes "discriminant" ∷ []) d >>= λ o.
    text_at (codes "name") o >>= λ n.
    member_in o >>= λ m.
    number_at (codes "group") (2 ^ 64 - 1) o >>= λ id.
    Some (record { name = n; member = m; annotations = []; kind = group id })

-- A field: a group where it has that key, else a slot.
abbrev pub field_in : Data → Option Field
field_in d = elim (get (codes "group") d) [ None ↦ slot_in d | Some x ↦ group_in d ]

-- ---- nodes

-- How many fields are union members, 65535 where there are more.
abbrev pub members_among : List Field → ℕ
members_among fs = min (count_by (λ f. is_some f.member) fs) 65535

-- Whether the struct is a group; it is none where nothing is said.
abbrev pub group_mark : Data → Option Bool
group_mark d = elim (get (codes "group") d) [ None ↦ Some false | Some x ↦ as_bool x ]

-- A struct.
abbrev pub struct_node_in : Data → Option Node
struct_node_in d =
    with_keys (codes "id" ∷ codes "name" ∷ codes "data" ∷ codes "pointers" ∷ codes "fields" ∷ codes "group" ∷ codes "union" ∷ []) d >>= λ o.
    number_at (codes "id") (2 ^ 64 - 1) o >>= λ id.
    text_at (codes "name") o >>= λ n.
    number_at (codes "data") 65535 o >>= λ words.
    number_at (codes "pointers") 65535 o >>= λ pointers.
    group_mark o >>= λ g.
    number_or 0 (codes "union") (2 ^ 32 - 1) o >>= λ at.
    items_at (codes "fields") field_in o >>= λ fs.
    Some (record {
      id = id;
      name = n;
      annotations = [];
      kind = struct_node (record {
        words = words;
        pointers = pointers;
        is_group = g;
        discriminant_count = members_among fs;
        discriminant_offset = at;
        fields = fs;
      });
    })

-- An enumerant.
abbrev pub enumerant_in : Data → Option Enumerant
enumerant_in d = option_map (λ n. record { name = n; annotations = [] }) (as_str d)

-- An enum.
abbrev pub enum_node_in : Data → Option Node
enum_node_in d =
    with_keys (codes "id" ∷ codes "name" ∷ codes "enumerants" ∷ []) d >>= λ o.
    number_at (codes "id") (2 ^ 64 - 1) o >>= λ id.
    text_at (codes "name") o >>= λ n.
    items_at (codes "enumerants") enumerant_in o >>= λ es.
    Some (record { id = id; name = n; annotations = []; kind = enum_node es })

-- A node: an enum where it has enumerants, else a struct.
abbrev pub node_in : Data → Option Node
node_in d = elim (get (codes "enumerants") d) [ None ↦ struct_node_in d | Some x ↦ enum_node_in d ]

-- The nodes of an array.
abbrev pub nodes_in : Data → Option (List Node)
nodes_in d = as_array d >>= each_item node_in

-- The nodes of a schema file.
abbrev pub schema_nodes_in : List ℕ → Option (List Node)
schema_nodes_in bytes = json_value_in bytes >>= nodes_in
