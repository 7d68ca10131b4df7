-- Fields at places that a way knows.
use Rattle.std.proofs.Common.{◌≡◌, ℕ, ◌+◌, ◌-◌, ◌<◌, Option, Some, None, option_map, List, [], ◌∷◌, map, length, refl, sym, ◌∙◌, ap, arith}
use Rattle.capnp_model.specs.Schemas.{Field, NodeKind, struct_node, enum_node, Node, Shape, shape, Schema}
use Rattle.capnp_model.specs.Accepted.{find_node, no_shape, union_place, fields_from, shape_of_node, shape_in, schema_of}
use Rattle.capnp_model.specs.Printing.{fields_in}
use Rattle.capnp_model.specs.Calls.{Step, name, index}
use Rattle.capnp_records.specs.NodeViews.{field_of}
use Rattle.capnp_values_queries.specs.Fields.{place_of_name}
use Rattle.capnp_values_queries.specs.Names.{place_named}
use Rattle.capnp_values_queries.proofs.lemmas.Places.{named_at}
use Rattle.capnp_calls.specs.Ways.{IsWay}
use Rattle.capnp_calls.specs.declared.find.FoundField.{FoundField}
use Rattle.capnp_calls_versions.specs.Holders.{shape_by}
use Rattle.capnp_calls_versions.specs.Ways.{FindsStep, way_behind}
use Rattle.capnp_calls_versions.specs.declared.nodes.Holder.{Holder}
use Rattle.capnp_calls_versions.proofs.NodesFound.{no_levels, some_levels, shape_is}

-- ---- the place of a name, whatever the groups' shapes are

same_place : (o : Option ℕ) → option_map (λ k. 0 + k) o ≡ o
same_place None = refl
same_place (Some k) = let at : 0 + k ≡ k = omega arith in ap (λ j. Some j) at

among : (groups : ℕ → Shape) (n : List ℕ) (fs : List Field) → place_of_name n (fields_from groups fs) ≡ place_named n 0 fs
among groups n fs = sym (named_at groups n 0 fs ∙ same_place (place_of_name n (fields_from groups fs)))

abbrev kind_shape : (ℕ → Shape) → ℕ → NodeKind → Shape
kind_shape groups i k = elim k as (λ (x : NodeKind). Shape) [ struct_node s ↦ shape i s.words s.pointers (union_place s) (fields_from groups s.fields) | enum_node es ↦ no_shape ]

in_kind : (g h : ℕ → Shape) (n : List ℕ) (i : ℕ) (k : NodeKind) → place_of_name n (fields_in (kind_shape g i k)) ≡ place_of_name n (fields_in (kind_shape h i k))
in_kind g h n i (struct_node s) = among g n s.fields ∙ sym (among h n s.fields)
in_kind g h n i (enum_node es) = refl

in_node : (g h : ℕ → Shape) (n : List ℕ) (o : Option Node) → place_of_name n (fields_in (shape_of_node g o)) ≡ place_of_name n (fields_in (shape_of_node h o))
in_node g h n None = refl
in_node g h n (Some m) = in_kind g h n m.id m.kind

with_levels : (nodes : List Node) (levels id : ℕ) (h : ℕ → Shape) (n : List ℕ) → 0 < levels → place_of_name n (fields_in (shape_in nodes levels id)) ≡ place_of_name n (fields_in (shape_of_node h (find_node nodes id)))
with_levels nodes levels id h n some =
    ap (λ g. place_of_name n (fields_in g)) (some_levels nodes levels id some) ∙ in_node (λ g. shape_in nodes (levels - 1) g) h n (find_node nodes id)

in_full : (nodes : List Node) (id : ℕ) (h : ℕ → Shape) (n : List ℕ) → place_of_name n (fields_in ((schema_of nodes).shape_of id)) ≡ place_of_name n (fields_in (shape_of_node h (find_node nodes id)))
in_full [] id h n = ap (λ g. place_of_name n (fields_in g)) (shape_is [] id ∙ no_levels [] 0 id refl)
in_full (m ∷ nodes) id h n = ap (λ g. place_of_name n (fields_in g)) (shape_is (m ∷ nodes) id) ∙ with_levels (m ∷ nodes) (length (m ∷ nodes)) id h n (omega arith)

-- A name's place in a struct or a group is that among the fields of its record.
pub place_held : (nodes : List Node) (levels id : ℕ) (groups : ℕ → Shape) (a : Holder) → 0 < levels → shape_in nodes levels id ≡ shape_by groups a
    → (n : List ℕ) → place_of_name n (fields_in ((schema_of nodes).shape_of id)) ≡ place_named n 0 (map field_of a.fields.now)
place_held nodes levels id groups a some is n =
    in_full nodes id groups n
    ∙ sym (with_levels nodes levels id groups n some)
    ∙ ap (λ g. place_of_name n (fields_in g)) is
    ∙ among groups n (map field_of a.fields.now)

-- ---- ways along paths

pub first_step : (s : Schema) (st : Step) (path : List Step) (way : List FoundField) → IsWay s (st ∷ path) way → FindsStep s st way
first_step s (name n) path way h = h.0
first_step s (index i) path way h = tt

pub other_steps : (s : Schema) (st : Step) (path : List Step) (way : List FoundField) → IsWay s (st ∷ path) way → IsWay s path (way_behind st way)
other_steps s (name n) path way h = h.1
other_steps s (index i) path way h = h
