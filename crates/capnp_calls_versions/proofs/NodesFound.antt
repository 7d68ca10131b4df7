-- What the nodes of a set say of ids.
use Rattle.std.proofs.Common.{◌≡◌, ℕ, zero, suc, ◌-◌, ◌<◌, Bool, true, false, Option, Some, None, List, [], ◌∷◌, map, length, refl, sym, ◌∙◌, ap, arith}
use Rattle.std.specs.List.{list_all}
use Rattle.std.specs.Cmp.Derive.{both_true}
use Rattle.capnp_model.specs.Schemas.{Enumerant, Field, StructNode, NodeKind, struct_node, enum_node, Node, Shape, shape}
use Rattle.capnp_model.specs.Accepted.{find_node, fields_of_kind, enumerants_of_kind, has_good_default, default_reads, is_group_node, is_enum_node, names_a, no_shape, union_place, fields_from, shape_of_node, shape_in, schema_of, IsAccepted}
use Rattle.capnp_model.proofs.lemmas.KeptRules.{behind, no_break, found_passes}
use Rattle.capnp_model.proofs.lemmas.Tests.{and_left, and_right, all_both, never_true}
use Rattle.capnp_records.specs.Sets.{has_struct, struct_found, enumerants_in, enumerants_found}
use Rattle.capnp_values_queries.proofs.lemmas.Records.{struct_is, is_group_struct}
use Rattle.capnp_calls_versions.specs.Holders.{is_sound_kind, are_sound_in}

has_defaults : Node → Bool
has_defaults n = list_all (λ f. has_good_default f.kind) (fields_of_kind n.kind)

have_reading : Node → Bool
have_reading n = list_all (λ f. default_reads f.kind) (fields_of_kind n.kind)

all_sound : (nodes : List Node) → list_all has_defaults nodes ≡ true → list_all have_reading nodes ≡ true → list_all are_sound_in nodes ≡ true
unfolding has_defaults have_reading
all_sound [] h k = refl
all_sound (n ∷ nodes) h k =
    both_true (all_both (λ (f : Field). has_good_default f.kind) (λ (f : Field). default_reads f.kind) (fields_of_kind n.kind) (and_left (has_defaults n) (list_all has_defaults nodes) h) (and_left (have_reading n) (list_all have_reading nodes) k))
    (all_sound nodes (and_right (has_defaults n) (list_all has_defaults nodes) h) (and_right (have_reading n) (list_all have_reading nodes) k))

sound_nodes : (nodes : List Node) → IsAccepted nodes → list_all are_sound_in nodes ≡ true
unfolding has_defaults have_reading
sound_nodes nodes h =
    let a = behind nodes 1 11 h in
    let b = behind nodes 2 10 a.1 in
    let c = behind nodes 3 9 b.1 in
    let d = behind nodes 4 8 c.1 in
    let e = behind nodes 5 7 d.1 in
    let f = behind nodes 6 6 e.1 in
    let g = behind nodes 7 5 f.1 in
    let i = behind nodes 8 4 g.1 in
    let j = behind nodes 9 3 i.1 in
    let k = behind nodes 10 2 j.1 in
    let l = behind nodes 11 1 k.1 in
    all_sound nodes (no_break has_defaults [] 0 nodes k.0) (no_break have_reading [] 0 nodes l.0)

-- the defaults of a node that is found
pub found_sound : (nodes : List Node) → IsAccepted nodes → (id : ℕ) (n : Node) → find_node nodes id ≡ Some n → are_sound_in n ≡ true
found_sound nodes a id n e = found_passes are_sound_in nodes id n (sound_nodes nodes a) e

pub no_levels : (nodes : List Node) (levels id : ℕ) → levels ≡ 0 → shape_in nodes levels id ≡ no_shape
unfolding shape_in
no_levels nodes zero id h = refl
no_levels nodes (suc levels) id h = absurd (omega arith)

pub some_levels : (nodes : List Node) (levels id : ℕ) → 0 < levels → shape_in nodes levels id ≡ shape_of_node (λ g. shape_in nodes (levels - 1) g) (find_node nodes id)
unfolding shape_in
some_levels nodes zero id h = absurd (omega arith)
some_levels nodes (suc levels) id h = let less : suc levels - 1 ≡ levels = omega arith in ap (λ (l : ℕ). shape_of_node (λ g. shape_in nodes l g) (find_node nodes id)) (sym less)

pub group_is : (nodes : List Node) (id : ℕ) → (schema_of nodes).is_group id ≡ names_a is_group_node nodes id
unfolding schema_of
group_is nodes id = refl

pub shape_is : (nodes : List Node) (id : ℕ) → (schema_of nodes).shape_of id ≡ shape_in nodes (length nodes) id
unfolding schema_of
shape_is nodes id = refl

pub names_are : (nodes : List Node) (id : ℕ) (o : Option Node) → find_node nodes id ≡ o → (schema_of nodes).names_of id ≡ elim o [ None ↦ [] | Some n ↦ map (λ e. e.name) (enumerants_of_kind n.kind) ]
unfolding schema_of
names_are nodes id o h = ap (λ (x : Option Node). elim x as (λ (y : Option Node). List (List ℕ)) [ None ↦ [] | Some n ↦ map (λ e. e.name) (enumerants_of_kind n.kind) ]) h

-- ---- structs and groups

kind_shape : (ℕ → Shape) → ℕ → NodeKind → Shape
kind_shape groups i k = elim k as (λ (x : NodeKind). Shape) [ struct_node s ↦ shape i s.words s.pointers (union_place s) (fields_from groups s.fields) | enum_node es ↦ no_shape ]

pub no_struct_shape : (nodes : List Node) (groups : ℕ → Shape) (id : ℕ) → names_a has_struct nodes id ≡ false → shape_of_node groups (find_node nodes id) ≡ no_shape
unfolding kind_shape
no_struct_shape nodes groups id h = by (find_node nodes id) h
  where
    by_kind : (n : Node) (k : NodeKind) → (elim k as (λ (x : NodeKind). Bool) [ struct_node s ↦ true | enum_node es ↦ false ]) ≡ false → kind_shape groups n.id k ≡ no_shape
    by_kind n (struct_node s) e = absurd (cc e)
    by_kind n (enum_node es) e = refl

    by : (o : Option Node) → (elim o as (λ (x : Option Node). Bool) [ None ↦ false | Some n ↦ has_struct n ]) ≡ false → shape_of_node groups o ≡ no_shape
    by None e = refl
    by (Some n) e = by_kind n n.kind e

pub struct_shape : (nodes : List Node) (groups : ℕ → Shape) (id : ℕ) (s : StructNode) → struct_found nodes id ≡ Some s → shape_of_node groups (find_node nodes id) ≡ shape id s.words s.pointers (union_place s) (fields_from groups s.fields)
unfolding kind_shape
struct_shape nodes groups id s h =
    let f = struct_is nodes id s h in
    ap (shape_of_node groups) f.found ∙ ap (kind_shape groups f.node.id) f.kind ∙ ap (λ i. kind_shape groups i (struct_node s)) f.same

pub struct_sound : (nodes : List Node) → IsAccepted nodes → (id : ℕ) (s : StructNode) → struct_found nodes id ≡ Some s → list_all (λ f. is_sound_kind f.kind) s.fields ≡ true
struct_sound nodes a id s h =
    let f = struct_is nodes id s h in
    ap (λ k. list_all (λ (g : Field). is_sound_kind g.kind) (fields_of_kind k)) (sym f.kind) ∙ found_sound nodes a id f.node f.found

pub no_struct_group : (nodes : List Node) (id : ℕ) → names_a has_struct nodes id ≡ false → (schema_of nodes).is_group id ≡ false
no_struct_group nodes id h =
    group_is nodes id
    ∙ never_true (names_a is_group_node nodes id) (λ e. let clash : true ≡ false = sym (is_group_struct nodes id e) ∙ h in absurd (cc clash))

pub struct_group : (nodes : List Node) (id : ℕ) (s : StructNode) → struct_found nodes id ≡ Some s → (schema_of nodes).is_group id ≡ s.is_group
struct_group nodes id s h =
    let f = struct_is nodes id s h in
    group_is nodes id
    ∙ ap (λ (o : Option Node). elim o as (λ (x : Option Node). Bool) [ None ↦ false | Some n ↦ is_group_node n ]) f.found
    ∙ ap (λ (k : NodeKind). elim k as (λ (x : NodeKind). Bool) [ struct_node r ↦ r.is_group | enum_node es ↦ false ]) f.kind

-- ---- enums

pub no_enum_names : (nodes : List Node) (id : ℕ) → names_a is_enum_node nodes id ≡ false → (schema_of nodes).names_of id ≡ []
no_enum_names nodes id h = by (find_node nodes id) refl h
  where
    by_kind : (k : NodeKind) → (elim k as (λ (x : NodeKind). Bool) [ struct_node s ↦ false | enum_node es ↦ true ]) ≡ false → map (λ (e : Enumerant). e.name) (enumerants_of_kind k) ≡ []
    by_kind (struct_node s) e = refl
    by_kind (enum_node es) e = absurd (cc e)

    by : (o : Option Node) → find_node nodes id ≡ o → (elim o as (λ (x : Option Node). Bool) [ None ↦ false | Some n ↦ is_enum_node n ]) ≡ false → (schema_of nodes).names_of id ≡ []
    by None e t = names_are nodes id None e
    by (Some n) e t = names_are nodes id (Some n) e ∙ by_kind n.kind t

pub enum_names : (nodes : List Node) (id : ℕ) (es : List Enumerant) → enumerants_found nodes id ≡ Some es → (schema_of nodes).names_of id ≡ map (λ (e : Enumerant). e.name) es
enum_names nodes id es h = by (find_node nodes id) refl h
  where
    by_kind : (k : NodeKind) → enumerants_in k ≡ Some es → map (λ (e : Enumerant). e.name) (enumerants_of_kind k) ≡ map (λ (e : Enumerant). e.name) es
    by_kind (struct_node s) e = absurd (cc e)
    by_kind (enum_node xs) e = let is : xs ≡ es = cc e in ap (map (λ (x : Enumerant). x.name)) is

    by : (o : Option Node) → find_node nodes id ≡ o → (elim o as (λ (p : Option Node). Option (List Enumerant)) [ None ↦ None | Some n ↦ enumerants_in n.kind ]) ≡ Some es → (schema_of nodes).names_of id ≡ map (λ (e : Enumerant). e.name) es
    by None e t = absurd (cc t)
    by (Some n) e t = names_are nodes id (Some n) e ∙ by_kind n.kind t
