-- Fields whose interfaces differ in two versions of a schema.
use Rattle.std.specs.Prelude.{◌≡◌, ◌≤◌, ℕ, zero, suc, ◌==◌, Bool, true, false, ◌&&◌, not, if◌then◌else◌, Option, Some, None, List, [], ◌∷◌, ◌++◌, length, find, position, slice_get, string_bytes}
use Rattle.std.specs.List.{filter_map, flat_map, enumerate_from, list_any}
use Rattle.std.specs.Str.{bytes_eq}
use Rattle.capnp_model.specs.Chains.{◌>>=◌}
use Rattle.capnp_model.specs.Compatible.{Pairs, has_pair}
use Rattle.capnp_model.specs.Partners.{Renaming, partner_name}
use Rattle.capnp_records.specs.declared.node.BaseType.{BaseType}
use Rattle.capnp_records.specs.declared.node.BaseType.TheVariants as base
use Rattle.capnp_records.specs.declared.node.FieldBody.{FieldBody}
use Rattle.capnp_records.specs.declared.node.FieldBody.TheVariants as body
use Rattle.capnp_records.specs.declared.node.FieldRecord.{FieldRecord}
use Rattle.capnp_records.specs.declared.node.NodeRecord.{NodeRecord}
use Rattle.capnp_relay_requests.specs.declared.request.InterfaceField.{InterfaceField}
use Rattle.hagzimot_schemas.specs.Nodes.{fields_of_body}
use Rattle.hagzimot_schemas.specs.declared.interfaces.Interfaces.{Interfaces}
use Rattle.hagzimot_schemas.specs.declared.interfaces.InterfaceBreak.{InterfaceBreak}
use Rattle.hagzimot_schemas.specs.declared.interfaces.Pairs.{Pairs as KnownPairs}

-- ---- fields

-- The interface of the field of a node and an index, by the first that says it; 0 of any interface.
abbrev pub interface_of : List InterfaceField → ℕ → ℕ → ℕ
interface_of [] node index = 0
interface_of (f ∷ fields) node index = if (f.node == node) && (f.index == index) then f.interface else interface_of fields node index

abbrev pub is_capability_base : BaseType → Bool
is_capability_base base.Capability = true
is_capability_base _ = false

-- A field is a capability, or a list of them.
abbrev pub is_capability : FieldBody → Bool
is_capability (body.Slot offset ty default) = is_capability_base ty.base
is_capability (body.Group node) = false

abbrev pub struct_of_base : BaseType → Option ℕ
struct_of_base (base.Struct id) = Some id
struct_of_base _ = None

-- The struct or the group that a field leads to.
abbrev pub target_of : FieldBody → Option ℕ
target_of (body.Slot offset ty default) = struct_of_base ty.base
target_of (body.Group node) = Some node

-- The index of the partner of an older node's field among the newer node's.
abbrev pub partner_index : List Renaming → ℕ → FieldRecord → List FieldRecord → Option ℕ
partner_index rs id f others = position (λ g. bytes_eq (string_bytes g.name) (partner_name rs id (string_bytes f.name))) others

-- ---- pairs of nodes

-- The pair that a field and its partner lead to.
abbrev pub lead : List Renaming → NodeRecord → NodeRecord → FieldRecord → Option (ℕ × ℕ)
lead rs old new f =
    partner_index rs old.id f (fields_of_body new.body) >>= λ k. slice_get (fields_of_body new.body) k
    >>= λ g. target_of f.body >>= λ a. target_of g.body >>= λ b. Some (a, b)

-- The pairs that the fields of a pair lead to.
abbrev pub leads_between : List Renaming → Option NodeRecord → Option NodeRecord → Pairs
leads_between rs (Some old) (Some new) = filter_map (lead rs old new) (fields_of_body old.body)
leads_between rs (Some old) None = []
leads_between rs None new = []

abbrev pub leads_of : List Renaming → List NodeRecord → List NodeRecord → (ℕ × ℕ) → Pairs
leads_of rs olds news p = leads_between rs (find (λ n. n.id == p.0) olds) (find (λ n. n.id == p.1) news)

-- Pairs with one behind them, unless it is there.
abbrev pub with_pair : Pairs → (ℕ × ℕ) → Pairs
with_pair pairs p = if has_pair pairs p.0 p.1 then pairs else pairs ++ (p ∷ [])

-- The same of several.
abbrev pub with_pairs : Pairs → Pairs → Pairs
with_pairs pairs [] = pairs
with_pairs pairs (p ∷ ps) = with_pairs (with_pair pairs p) ps

-- Pairs with those behind them that the one of a place leads to.
abbrev pub led_on : ((ℕ × ℕ) → Pairs) → Pairs → Option (ℕ × ℕ) → Pairs
led_on leads pairs (Some p) = with_pairs pairs (leads p)
led_on leads pairs None = pairs

-- The pairs that are reached from one, each once and in this order, when so many of them have been looked at.
unfoldable pub reached : ((ℕ × ℕ) → Pairs) → (ℕ × ℕ) → ℕ → Pairs
reached leads roots zero = roots ∷ []
reached leads roots (suc n) = led_on leads (reached leads roots n) (slice_get (reached leads roots n) n)

-- These are all the pairs that are reached from one: each of them has been looked at.
pub record AreReached (leads : (ℕ × ℕ) → Pairs) (roots : ℕ × ℕ) (pairs : Pairs) : Type 0 where
  pub looked : ℕ
  pub is : pairs ≡ reached leads roots looked
  pub all : length pairs ≤ looked

-- What is known is what is there.
pub record IsKnown (ps : KnownPairs) : Type 0 where
  pub same : (i j : ℕ) → list_any (λ p. i == p.0 && j == p.1) ps.known.keys ≡ has_pair ps.pairs.items i j

-- ---- breaks

-- What is told of a field of an index, if it is a capability whose partner is of another interface.
abbrev pub change : List Renaming → Interfaces → Interfaces → NodeRecord → NodeRecord → (ℕ × FieldRecord) → Option InterfaceBreak
change rs olds news old new f =
    partner_index rs old.id f.1 (fields_of_body new.body) >>= λ k.
    if is_capability f.1.body && not (interface_of olds.fields.now old.id f.0 == interface_of news.fields.now new.id k)
    then Some (record { older = old.id; newer = new.id; older_field = f.0; newer_field = k }) else None

-- What is told of the fields of a pair, in their order.
abbrev pub changes_between : List Renaming → Interfaces → Interfaces → Option NodeRecord → Option NodeRecord → List InterfaceBreak
changes_between rs olds news (Some old) (Some new) = filter_map (change rs olds news old new) (enumerate_from 0 (fields_of_body old.body))
changes_between rs olds news (Some old) None = []
changes_between rs olds news None new = []

abbrev pub changes_of : List Renaming → Interfaces → Interfaces → (ℕ × ℕ) → List InterfaceBreak
changes_of rs olds news p = changes_between rs olds news (find (λ n. n.id == p.0) olds.version.nodes.now) (find (λ n. n.id == p.1) news.version.nodes.now)

-- These are the fields whose interface is another in the newer version: those of each pair that is reached from the roots, in the order in which the pairs are reached.
pub record AreInterfaceBreaks (rs : List Renaming) (olds news : Interfaces) (roots : ℕ × ℕ) (breaks : List InterfaceBreak) : Type 0 where
  pub pairs : Pairs
  pub reached : AreReached (leads_of rs olds.version.nodes.now news.version.nodes.now) roots pairs
  pub told : breaks ≡ flat_map (changes_of rs olds news) pairs
