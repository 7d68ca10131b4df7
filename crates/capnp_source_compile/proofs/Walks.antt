-- What is declared, one step at a time.
use Rattle.std.proofs.Common.{◌≡◌, ℕ, ◌+◌, ◌<◌, ◌≤◌, Option, Some, List, ◌∷◌, map, length, drop, get_or, nat_eq, All, Contains, IfSome, ap, sym, ◌∙◌, subst}
use Rattle.std.specs.Prelude.{string_bytes}
use Rattle.std.specs.HashMap.{HashMap, get, IsFromIterResult}
use Rattle.std.proofs.lemmas.Bool.Decides.{Decides-eqb}
use Rattle.std.proofs.lemmas.List.{drop_all, drop_more}
use Rattle.std.proofs.lemmas.List.Elements.{All-nil, All-cons, All-append}
use Rattle.std.proofs.lemmas.Map.Made.{IfSome-get_from_list}
use Rattle.capnp_source_names.specs.declared.entries.Kind.{Kind}
use Rattle.capnp_source_nodes.specs.declared.nodes.Node.{Node}
use Rattle.capnp_source_syntax.specs.declared.tree.Name.{Name}
use Rattle.capnp_source_syntax.specs.declared.tree.Declaration.{Declaration}
use Rattle.capnp_source_syntax.specs.declared.tree.Declaration.TheViews.{out-Declaration}
use Rattle.capnp_source_syntax.specs.declared.tree.Declaration.TheFolds.{fold_out-Declaration}
use Rattle.capnp_source_compile.specs.Declarations.{NodeKey, kind_of, id_in, all_in, declared_as, declared_step, declared_in, declared_in_all}
use Rattle.capnp_source_compile.specs.Requests.{node_key}

-- what a declaration declares, from its parts
pub declared_out : (d : Declaration) (scope : ℕ) → declared_in d scope ≡ declared_as (kind_of (out-Declaration d).body) (out-Declaration d).name (out-Declaration d).id (map declared_in (out-Declaration d).members.items) scope
declared_out d scope = ap (λ f. f scope) (fold_out-Declaration (ℕ → List NodeKey) declared_step d)

-- what holds of a declaration's own node, and of what its members declare, holds of all that it declares
pub declared_some : (P : NodeKey → Type 0) (d : Declaration) (scope : ℕ) (kind : Kind) (name : Name) → kind_of (out-Declaration d).body ≡ Some kind → (out-Declaration d).name ≡ Some name → P (id_in scope (out-Declaration d).id (string_bytes name.text), (kind, scope)) → All P (declared_in_all (id_in scope (out-Declaration d).id (string_bytes name.text)) (out-Declaration d).members.items) → All P (declared_in d scope)
declared_some P d scope kind name is_kind is_name here inner =
    let o = out-Declaration d in
    let members = map declared_in o.members.items in
    let n = id_in scope o.id (string_bytes name.text) in
    let whole : declared_in d scope ≡ (n, (kind, scope)) ∷ all_in n members =
    declared_out d scope
    ∙ (ap (λ k. declared_as k o.name o.id members scope) is_kind
    ∙ ap (λ m. declared_as (Some kind) m o.id members scope) is_name) in
    subst (All P) (sym whole) (All-cons P (n, (kind, scope)) (all_in n members) here inner)

-- what holds of one declaration and of those after it holds from it on
pub declared_from : (P : NodeKey → Type 0) (scope : ℕ) (ds : List Declaration) (i : ℕ) (d : Declaration) → i < length ds → All P (declared_in (get_or ds i d) scope) → All P (declared_in_all scope (drop (i + 1) ds)) → All P (declared_in_all scope (drop i ds))
declared_from P scope ds i d lt here rest = subst (λ (xs : List Declaration). All P (declared_in_all scope xs)) (sym (drop_more ds i d lt)) (All-append P (declared_in (get_or ds i d) scope) (declared_in_all scope (drop (i + 1) ds)) here rest)

-- from the end on nothing is declared
pub declared_end : (P : NodeKey → Type 0) (scope : ℕ) (ds : List Declaration) (i : ℕ) → length ds ≤ i → All P (declared_in_all scope (drop i ds))
declared_end P scope ds i le = subst (λ (xs : List Declaration). All P (declared_in_all scope xs)) (sym (drop_all i ds le)) (All-nil P)

-- what is found in the map of nodes is a node
pub nodes_from : {S : Type 0} (nodes : List Node) (kinds : HashMap ℕ (Kind × ℕ) S) → IsFromIterResult nat_eq (map node_key nodes) kinds → (ds : List NodeKey) → All (λ d. get nat_eq kinds d.0 ≡ Some d.1) ds → All (λ d. Contains (map node_key nodes) d) ds
nodes_from nodes kinds made ds there k d lt =
    let x = get_or ds k d in
    subst (λ (o : Option (Kind × ℕ)). IfSome o (λ v. Contains (map node_key nodes) (x.0, v))) (there k d lt) (IfSome-get_from_list Decides-eqb (map node_key nodes) kinds made x.0)
