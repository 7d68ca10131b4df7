-- Node records have no default with a capability, so that calls put none into a value.
use Rattle.std.proofs.Common.{◌≡◌, ℕ, zero, suc, ◌/◌, ◌&&◌, false, not, length, Option, Some, None, List, [], ◌∷◌, refl, subst}
use Rattle.std.specs.List.{AllByRecursion}
use Rattle.std.specs.Str.{bytes_eq}
use Rattle.capnp_model.specs.Chains.{◌>>=◌, ◌provided◌}
use Rattle.capnp_model.specs.Segments.{Segments, root}
use Rattle.capnp_model.specs.Trees.{Tree, has_capability}
use Rattle.capnp_model.specs.Trimming.{trim}
use Rattle.capnp_model.specs.Traversal.{tree_at, cost_at}
use Rattle.capnp_model.specs.Encoding.{canonical_words}
use Rattle.capnp_model.specs.Bytes.{bytes_of_words, words_in_bytes}
use Rattle.capnp_model.specs.Decoding.{decode}
use Rattle.capnp_model.specs.Schemas.{Ty, void, plain, text, blob, untyped, interface, struct, list, type_of, Value, no_value, bits, text_bytes, blob_bytes, list_segment, struct_segment, untyped_value, interface_value, FieldKind, slot, group, Field, NodeKind, struct_node, enum_node, Node, Shape, shape, Schema, default_or_null}
use Rattle.capnp_model.specs.Readings.{Record, record_of}
use Rattle.capnp_model.specs.Calls.{Call}
use Rattle.capnp_model.specs.Steps.{Outcome, refused, shown, done, step}
use Rattle.capnp_model.specs.Edits.{write_path, if_done, edit}
use Rattle.capnp_model.specs.Messages.{within}
use Rattle.capnp_model.specs.Answers.{Limits, levels, value_within, edits, widened_root, opened_root}
use Rattle.capnp_model.specs.Accepted.{find_node, default_tree, slot_body, field_body, fields_from, union_place, no_shape, shape_of_node, shape_in, schema_of}
use Rattle.capnp_model.proofs.lemmas.Chaining.{bind_some, provided_some}
use Rattle.capnp_model.proofs.lemmas.CanonicalCopies.{free_trim}
use Rattle.capnp_model.proofs.lemmas.Tests.{not_true, and_left}
use Rattle.capnp_model_versions.specs.Capabilities.{SetsNoCapability}
use Rattle.capnp_model_versions.proofs.BareValues.{IsBare, is-bare, has-none, bare-widened}
use Rattle.capnp_model_versions.proofs.BareContents.{IsBareVerb, is-bare-verb}
use Rattle.capnp_model_versions.proofs.BareCells.{ShapeBare, FieldsBare, BodyBare}
use Rattle.capnp_model_versions.proofs.BareEdits.{written-bare}

-- ---- defaults

decoded-bare : (bs : List ℕ) (t : Tree) → decode bs ≡ Some t → IsBare t
unfolding decode
decoded-bare bs t h =
    let found = bind_some (tree_at 64 (words_in_bytes (length bs / 8) bs ∷ []) root) (λ v. v provided (not (has_capability v) && bytes_eq (bytes_of_words (canonical_words (trim v))) bs)) t h in
    let kept = provided_some found.0 t (not (has_capability found.0) && bytes_eq (bytes_of_words (canonical_words (trim found.0))) bs) found.2 in
    subst IsBare kept.1 (is-bare found.0 (not_true (has_capability found.0) (and_left (not (has_capability found.0)) (bytes_eq (bytes_of_words (canonical_words (trim found.0))) bs) kept.0)))

segment-bare : (bs : List ℕ) → IsBare (default_or_null (decode bs))
segment-bare bs = by (decode bs) refl
  where
    by : (o : Option Tree) → decode bs ≡ o → IsBare (default_or_null o)
    by None e = tt
    by (Some t) e = decoded-bare bs t e

default-bare : (d : Option Value) → IsBare (default_or_null (default_tree d))
default-bare None = tt
default-bare (Some no_value) = tt
default-bare (Some (bits p n)) = tt
default-bare (Some (text_bytes bs)) = tt
default-bare (Some (blob_bytes bs)) = tt
default-bare (Some (list_segment bs)) = segment-bare bs
default-bare (Some (struct_segment bs)) = segment-bare bs
default-bare (Some untyped_value) = tt
default-bare (Some interface_value) = tt

-- ---- shapes

slot-bare : (offset : ℕ) (ty : Ty) (d : Option Value) → BodyBare (slot_body offset ty d)
slot-bare offset void d = tt
slot-bare offset (plain p) d = tt
slot-bare offset text d = default-bare d
slot-bare offset blob d = default-bare d
slot-bare offset untyped d = default-bare d
slot-bare offset interface d = default-bare d
slot-bare offset (struct id) d = default-bare d
slot-bare offset (list ty) d = default-bare d

module _ (groups : ℕ → Shape) (bare : (g : ℕ) → ShapeBare (groups g)) where
  kind-bare : (k : FieldKind) → BodyBare (field_body groups k)
  kind-bare (slot offset ty d) = slot-bare offset (type_of ty) d
  kind-bare (group g) = bare g

  fields-bare : (fs : List Field) → FieldsBare (fields_from groups fs)
  fields-bare [] = tt
  fields-bare (f ∷ fs) = (kind-bare f.kind, fields-bare fs)

  node-bare : (o : Option Node) → ShapeBare (shape_of_node groups o)
  node-bare None = tt
  node-bare (Some n) = by n.kind
    where
      by : (k : NodeKind) → ShapeBare (elim k as (λ (x : NodeKind). Shape) [ struct_node s ↦ shape n.id s.words s.pointers (union_place s) (fields_from groups s.fields) | enum_node es ↦ no_shape ])
      by (struct_node s) = fields-bare s.fields
      by (enum_node es) = tt

shape-bare : (nodes : List Node) (levels id : ℕ) → ShapeBare (shape_in nodes levels id)
unfolding shape_in
shape-bare nodes zero id = tt
shape-bare nodes (suc levels) id = node-bare (λ g. shape_in nodes levels g) (shape-bare nodes levels) (find_node nodes id)

schema-bare : (nodes : List Node) (id : ℕ) → ShapeBare ((schema_of nodes).shape_of id)
unfolding schema_of
schema-bare nodes id = shape-bare nodes (length nodes) id

-- ---- the laws

if-done : (o : Outcome Record) (new old : Tree) → IsBare new → IsBare old → IsBare (if_done o new old)
if-done (refused k) new old h b = b
if-done (shown how r) new old h b = b
if-done (done r) new old h b = h

edited-bare : (nodes : List Node) (id : ℕ) (c : Call) (t : Tree) → IsBareVerb c.verb → IsBare t → IsBare (edit (schema_of nodes) id c t)
unfolding edit
edited-bare nodes id c t v h =
    let s : Schema = schema_of nodes in
    if-done (step s id c (record_of s id t)) (write_path s (s.shape_of id) c.path c.verb t) t (written-bare s (schema-bare nodes) c.verb v (s.shape_of id) (schema-bare nodes id) c.path t h) h

-- THE LAW: where the message of a call has no capability, the edited value has none but of the value.
pub edit-puts-none : (nodes : List Node) (id : ℕ) (c : Call) (t : Tree) → SetsNoCapability c.verb → has_capability t ≡ false → has_capability (edit (schema_of nodes) id c t) ≡ false
edit-puts-none nodes id c t v h = has-none (edit (schema_of nodes) id c t) (edited-bare nodes id c t (is-bare-verb c.verb v) (is-bare t h))

pub edits-put-none : (nodes : List Node) (id : ℕ) (calls : List Call) (t : Tree) → AllByRecursion (λ c. SetsNoCapability c.verb) calls → has_capability t ≡ false → has_capability (edits (schema_of nodes) id calls t) ≡ false
unfolding edits
edits-put-none nodes id [] t v h = h
edits-put-none nodes id (c ∷ cs) t v h = edits-put-none nodes id cs (edit (schema_of nodes) id c t) v.1 (edit-puts-none nodes id c t v.0 h)

root-bare : (g : Shape) (t : Tree) → IsBare t → IsBare (widened_root g t)
root-bare (shape nid w p u fs) t h = bare-widened w p t h

pub opening-puts-none : (s : Schema) (id : ℕ) (t : Tree) → has_capability t ≡ false → has_capability (opened_root s id t) ≡ false
unfolding opened_root
opening-puts-none s id t h = has-none (widened_root (s.shape_of id) (trim t)) (root-bare (s.shape_of id) (trim t) (is-bare (trim t) (free_trim t h)))

-- bytes keep none
pub kept-has-none : (bytes : List ℕ) → has_capability (default_or_null (decode bytes)) ≡ false
kept-has-none bytes = has-none (default_or_null (decode bytes)) (segment-bare bytes)

read-has-none : (limits : Limits) (segments : Segments) (t : Tree) → value_within limits segments ≡ Some t → has_capability t ≡ false
unfolding value_within
read-has-none limits segments t h =
    let n = bind_some (levels limits.nesting) (λ k. tree_at k segments root >>= λ v. v provided (not (has_capability v) && within (cost_at k segments root) limits.words)) t h in
    let found = bind_some (tree_at n.0 segments root) (λ v. v provided (not (has_capability v) && within (cost_at n.0 segments root) limits.words)) t n.2 in
    let kept = provided_some found.0 t (not (has_capability found.0) && within (cost_at n.0 segments root) limits.words) found.2 in
    subst (λ v. has_capability v ≡ false) kept.1 (not_true (has_capability found.0) (and_left (not (has_capability found.0)) (within (cost_at n.0 segments root) limits.words) kept.0))

-- THE LAW: nor has what a relay writes any.
pub relay-puts-none : (nodes : List Node) (id : ℕ) (calls : List Call) (limits : Limits) (segments : Segments) (t : Tree) → AllByRecursion (λ c. SetsNoCapability c.verb) calls → value_within limits segments ≡ Some t
    → has_capability (edits (schema_of nodes) id calls (opened_root (schema_of nodes) id t)) ≡ false
relay-puts-none nodes id calls limits segments t v h =
    edits-put-none nodes id calls (opened_root (schema_of nodes) id t) v (opening-puts-none (schema_of nodes) id t (read-has-none limits segments t h))
