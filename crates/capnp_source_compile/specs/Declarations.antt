-- What files declare.
use Rattle.std.specs.Prelude.{ℕ, if◌then◌else◌, Option, None, Some, List, [], ◌∷◌, ◌++◌, map, string_bytes}
use Rattle.capnp_source_syntax.specs.declared.tree.Body.{Body}
use Rattle.capnp_source_syntax.specs.declared.tree.Body.TheVariants as B
use Rattle.capnp_source_syntax.specs.declared.tree.Name.{Name}
use Rattle.capnp_source_syntax.specs.declared.tree.Number.{Number}
use Rattle.capnp_source_syntax.specs.declared.tree.Declaration.{Declaration}
use Rattle.capnp_source_syntax.specs.declared.tree.Declaration.TheOpen.{Declaration-F}
use Rattle.capnp_source_syntax.specs.declared.tree.Declaration.TheFolds.{fold-Declaration}
use Rattle.capnp_source_ids.specs.Ids.{child_id}
use Rattle.capnp_source_names.specs.declared.entries.Kind.{Kind}
use Rattle.capnp_source_names.specs.declared.sources.Loaded.{Loaded}

-- The id of a node, its kind, and the id of its scope, which is 0 of a file.
abbrev pub NodeKey : Type 0
NodeKey = ℕ × (Kind × ℕ)

-- The kind of node that a declaration is, if it is one.
abbrev pub kind_of : Body → Option Kind
kind_of (B.Using target) = None
kind_of (B.Constant ty value) = Some Kind.Constant
kind_of B.Enum = Some Kind.Enum
kind_of (B.Enumerant ordinal) = None
kind_of (B.Struct parameters) = Some Kind.Struct
kind_of (B.Field ordinal ty default) = None
kind_of (B.Union ordinal) = None
kind_of B.Group = None
kind_of (B.Interface parameters extends) = Some Kind.Interface
kind_of (B.Method ordinal parameters takes returns) = None
kind_of (B.Annotation targets ty) = Some Kind.Annotation

-- The id of a declaration: the one that is written, or that of its name in its scope.
abbrev pub id_in : ℕ → Option Number → List ℕ → ℕ
id_in scope (Some id) name = id.value
id_in scope None name = child_id scope name

-- What members declare in the scope of an id.
abbrev pub all_in : ℕ → List (ℕ → List NodeKey) → List NodeKey
all_in scope [] = []
all_in scope (m ∷ ms) = m scope ++ all_in scope ms

abbrev pub declared_as : Option Kind → Option Name → Option Number → List (ℕ → List NodeKey) → ℕ → List NodeKey
declared_as (Some kind) (Some name) id members scope =
    let n = id_in scope id (string_bytes name.text) in
    (n, (kind, scope)) ∷ all_in n members
declared_as (Some kind) None id members scope = []
declared_as None name id members scope = []

-- One declaration, with what each member declares in its place.
abbrev pub declared_step : Declaration-F (ℕ → List NodeKey) → ℕ → List NodeKey
declared_step d = declared_as (kind_of d.body) d.name d.id d.members.items

-- The nodes that a declaration in a scope makes: its own and those of what is declared in it.
abbrev pub declared_in : Declaration → ℕ → List NodeKey
declared_in = fold-Declaration (ℕ → List NodeKey) declared_step

-- The same of several declarations.
abbrev pub declared_in_all : ℕ → List Declaration → List NodeKey
declared_in_all scope ds = all_in scope (map declared_in ds)

-- The same of a file with the node of the file itself, if the file has an id.
abbrev pub declared_under : Option Number → List Declaration → List NodeKey
declared_under (Some id) ds = (id.value, (Kind.File, 0)) ∷ declared_in_all id.value ds
declared_under None ds = []

abbrev pub declared_by : Loaded → List NodeKey
declared_by f = declared_under f.file.id f.file.declarations.items

-- The same of the files that are asked for.
abbrev pub declared_by_asked : List Loaded → List NodeKey
declared_by_asked [] = []
declared_by_asked (f ∷ fs) = if f.is_requested then declared_by f ++ declared_by_asked fs else declared_by_asked fs
