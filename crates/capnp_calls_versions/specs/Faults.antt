-- What the walk over pairs of structs says where it stops.
use Rattle.std.specs.Prelude.{ℕ, ◌≡◌, ◌⊎◌, ◌<◌, true, false, Option, Some, None, Result, Ok, Err, List, [], ◌∷◌, string_bytes}
use Rattle.std.specs.Borrow.{Bor}
use Rattle.std.specs.List.{list_any}
use Rattle.std.specs.Str.{bytes_eq}
use Rattle.capnp_model.specs.Schemas.{shape, Body, group_slot, Schema}
use Rattle.capnp_model.specs.Partners.{Renaming, partner_name}
use Rattle.capnp_model.specs.Accepted.{shape_in}
use Rattle.capnp_model.specs.Compatible.{Pairs, has_pair, is_new, keeps_union}
use Rattle.capnp_records.specs.NodeViews.{member_of}
use Rattle.capnp_records.specs.declared.node.FieldRecord.{FieldRecord}
use Rattle.capnp_records.specs.declared.node.FieldBody.{FieldBody}
use Rattle.capnp_calls_versions.specs.declared.breaks.Fault.{Fault}
use Rattle.capnp_calls_versions.specs.declared.breaks.Fault.TheVariants as fault
use Rattle.capnp_calls_versions.specs.declared.breaks.Rule.{Rule}
use Rattle.capnp_calls_versions.specs.declared.breaks.Rule.TheVariants as rule
use Rattle.capnp_calls_versions.specs.declared.breaks.Break.{Break}
use Rattle.capnp_calls_versions.specs.declared.nodes.Holder.{Holder}
use Rattle.capnp_calls_versions.specs.declared.keeps.Versions.{Versions}
use Rattle.capnp_calls_versions.specs.declared.keeps.Levels.{Levels}
use Rattle.capnp_calls_versions.specs.Holders.{held_nodes, held_schema}
use Rattle.capnp_calls_versions.specs.Renamed.{names_in}
use Rattle.capnp_calls_versions.specs.Walks.{older_schema, kept_shape, keeps_at, older_fields, newer_fields, kept_body, newer_body, begins_with}
use Rattle.capnp_calls_versions.specs.Breaks.{BreaksBody, BreaksField, IsBreak}

-- The rule that is broken where a newer field may not be new: the older field that is due is missing, or has its partner further on.
abbrev pub taken_rule : List Renaming → ℕ → List FieldRecord → List FieldRecord → ℕ → ℕ → Rule
taken_rule rs node [] rest due at = rule.Taken due at
taken_rule rs node (f ∷ fs) rest due at =
    elim (list_any (λ g. bytes_eq (partner_name rs node (string_bytes f.name)) (string_bytes g.name)) rest) [ true ↦ rule.Taken due at | false ↦ rule.Missing due ]

-- The older fields that are due and the newer ones that are left, from these places on.
pub record FieldsDue : Type 0 where
  pub left : List FieldRecord
  pub rest : List FieldRecord
  pub due : ℕ
  pub at : ℕ

-- The break that a fault is between two nodes, where these fields are due and left.
abbrev pub break_of : List Renaming → ℕ → ℕ → FieldsDue → Fault → Break
break_of rs i j x fault.Taken = record { older = i; newer = j; rule = taken_rule rs i x.left x.rest x.due x.at }
break_of rs i j x (fault.Field r) = record { older = i; newer = j; rule = rule.Field x.due x.at r }
break_of rs i j x (fault.Inner b) = b

-- A node's id, and fields of it.
pub record NodeFields : Type 0 where
  pub id : ℕ
  pub fields : List FieldRecord

-- The newer's sections or its union break the rule.
abbrev pub BreaksSections : Holder → Holder → Rule → Type 0
BreaksSections a b rule.Words = b.words < a.words
BreaksSections a b rule.Pointers = b.pointers < a.pointers
BreaksSections a b rule.Union = keeps_union a.union b.union ≡ false
BreaksSections a b r = ⊥

-- Both are these groups, and the break is at them.
abbrev pub IsInner : Schema → Schema → Break → Body → Body → Type 0
IsInner o n x (group_slot g) (group_slot g') = IsBreak o n x g g'
IsInner o n x b b' = ⊥

-- What is wrong with a newer slot or group.
abbrev pub IsBodyFault : Versions → Levels → FieldBody → FieldBody → Fault → Type 0
IsBodyFault v levels a b fault.Taken = ⊥
IsBodyFault v levels a b (fault.Field r) = BreaksBody (older_schema v) (held_schema v.newer) r (kept_body v levels a) (newer_body v levels b)
IsBodyFault v levels a b (fault.Inner x) = IsInner (older_schema v) (held_schema v.newer) x (kept_body v levels a) (newer_body v levels b)

-- What is wrong with a newer field.
abbrev pub IsFaultOf : Versions → Levels → FieldRecord → FieldRecord → Fault → Type 0
IsFaultOf v levels f g fault.Taken = ⊥
IsFaultOf v levels f g (fault.Field r) =
    BreaksField (older_schema v) (held_schema v.newer) r (member_of f.discriminant_value) (kept_body v levels f.body) (member_of g.discriminant_value) (newer_body v levels g.body)
IsFaultOf v levels f g (fault.Inner x) = IsInner (older_schema v) (held_schema v.newer) x (kept_body v levels f.body) (newer_body v levels g.body)

-- The first of these fields has the newer one as its partner, and the fault is between the two.
pub record IsPartnersFault (v : Versions) (levels : Levels) (node : ℕ) (left : List FieldRecord) (next : FieldRecord) (x : Fault) : Type 0 where
  pub first : FieldRecord
  pub others : List FieldRecord
  pub is : left ≡ first ∷ others
  pub partners : begins_with (names_in v.names) node left (string_bytes next.name) ≡ true
  pub between : IsFaultOf v levels first next x

-- What is wrong with a newer field where these older ones are due.
abbrev pub IsNextFault : Versions → Levels → ℕ → NodeFields → FieldRecord → Fault → Type 0
IsNextFault v levels count due next fault.Taken = (begins_with (names_in v.names) due.id due.fields (string_bytes next.name) ≡ false) × (is_new count (member_of next.discriminant_value) ≡ false)
IsNextFault v levels count due next (fault.Field r) = IsPartnersFault v levels due.id due.fields next (fault.Field r)
IsNextFault v levels count due next (fault.Inner b) = IsPartnersFault v levels due.id due.fields next (fault.Inner b)

-- What is left behind a newer field, if it has no fault.
abbrev pub left_after : Result (Bor (List FieldRecord)) Fault → Option (List FieldRecord)
left_after (Ok others) = Some others.now
left_after (Err x) = None

-- The older fields that are due behind a newer one.
abbrev pub Passes : List Renaming → ℕ → List FieldRecord → FieldRecord → List FieldRecord → Type 0
Passes rs node left next others =
    ((begins_with rs node left (string_bytes next.name) ≡ false) × (others ≡ left))
    ⊎ ((begins_with rs node left (string_bytes next.name) ≡ true) × (f : FieldRecord) × (left ≡ f ∷ others))

-- The break is at two nodes with these fields, whatever their sections.
abbrev pub IsBreakOfFields : Versions → Levels → NodeFields → NodeFields → Break → Type 0
IsBreakOfFields v levels older newer b =
    (w p : ℕ) (u : Option ℕ) (w' p' : ℕ) (u' : Option ℕ)
    → IsBreak (older_schema v) (held_schema v.newer) b (shape older.id w p u (older_fields v levels older.id older.fields)) (shape newer.id w' p' u' (newer_fields v levels newer.fields))

-- The break is at two structs or groups of ids, or at groups in them.
abbrev pub IsBreakAt : Versions → Levels → ℕ → ℕ → Break → Type 0
IsBreakAt v levels i j b = IsBreak (older_schema v) (held_schema v.newer) b (kept_shape v levels i) (shape_in (held_nodes v.newer) levels.newer j)

-- Each pair of the set that may be kept is kept, and names only pairs of the set.
abbrev pub IsClosedAt : Versions → Levels → Pairs → Type 0
IsClosedAt v levels pairs = (i j : ℕ) → has_pair pairs i j ≡ true → (more : Pairs) → keeps_at v levels i j more ≡ true → keeps_at v levels i j pairs ≡ true

-- The break is at a pair that is reached from the roots.
pub record IsBreakReached (v : Versions) (levels : Levels) (older newer : ℕ) (b : Break) : Type 0 where
  pub i : ℕ
  pub j : ℕ
  pub reached : (pairs : Pairs) → has_pair pairs older newer ≡ true → IsClosedAt v levels pairs → has_pair pairs i j ≡ true
  pub breaks : IsBreakAt v levels i j b
