-- The groups of a schema. (schema.capnp, "Field.group" and "Node.struct.isGroup")
use Rattle.std.specs.Prelude.{ℕ, ◌≡◌, ◌≢◌, Bool, true, false, List, [], ◌∷◌, ◌++◌, map, All, AllPairs, Contains}
use Rattle.capnp_source_nodes.specs.declared.nodes.Field.{Field}
use Rattle.capnp_source_nodes.specs.declared.nodes.FieldBody.{FieldBody}
use Rattle.capnp_source_nodes.specs.declared.nodes.FieldBody.TheVariants as B
use Rattle.capnp_source_nodes.specs.declared.nodes.Node.{Node}
use Rattle.capnp_source_nodes.specs.declared.nodes.NodeBody.{NodeBody}
use Rattle.capnp_source_nodes.specs.declared.nodes.NodeBody.TheVariants as N

-- The id of the group that a field is.
abbrev pub group_of : FieldBody → List ℕ
group_of (B.Slot offset ty default has_default) = []
group_of (B.Group id) = id ∷ []

abbrev pub groups_in : List Field → List ℕ
groups_in [] = []
groups_in (f ∷ fs) = group_of f.body ++ groups_in fs

-- The groups that the fields of a node are.
abbrev pub groups_of_body : NodeBody → List ℕ
groups_of_body N.File = []
groups_of_body (N.Struct s) = groups_in s.fields.items
groups_of_body (N.Enum es) = []
groups_of_body (N.Interface i) = []
groups_of_body (N.Constant ty value) = []
groups_of_body (N.Annotation ty targets) = []

abbrev pub groups_of : List Node → List ℕ
groups_of [] = []
groups_of (n ∷ ns) = groups_of_body n.body ++ groups_of ns

-- Whether a node is a group, the id of its scope, and its words and pointers.
abbrev pub Home : Type 0
Home = Bool × (ℕ × (ℕ × ℕ))

abbrev pub home_in : ℕ → NodeBody → Home
home_in scope N.File = (false, (scope, (0, 0)))
home_in scope (N.Struct s) = (s.is_group, (scope, (s.data_words, s.pointers)))
home_in scope (N.Enum es) = (false, (scope, (0, 0)))
home_in scope (N.Interface i) = (false, (scope, (0, 0)))
home_in scope (N.Constant ty value) = (false, (scope, (0, 0)))
home_in scope (N.Annotation ty targets) = (false, (scope, (0, 0)))

abbrev pub home_key : Node → ℕ × Home
home_key n = (n.id, home_in n.scope n.body)

-- What the group of a field of a node is: a group in the node, with sections of the same sizes.
abbrev pub home_of_groups : Node → Home
home_of_groups n = (true, (n.id, (home_in n.scope n.body).1.1))

-- Each field that is a group names a group in its node with sections of the same sizes. No two fields are the same group.
pub record AreGoodGroups (nodes : List Node) : Type 0 where
  pub homes : All (λ n. All (λ g. Contains (map home_key nodes) (g, home_of_groups n)) (groups_of_body n.body)) nodes
  pub once : AllPairs (λ x y. x ≢ y) (groups_of nodes)
