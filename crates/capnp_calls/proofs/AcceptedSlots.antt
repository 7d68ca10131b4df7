-- What the rules of schemas give of the defaults of a struct's fields, and that a root is no group.
use Rattle.std.proofs.Common.{◌≡◌, ℕ, zero, suc, Bool, true, false, ◌&&◌, ◌==◌, Option, Some, None, List, [], ◌∷◌, slice_get, refl, sym, ◌∙◌, ap}
use Rattle.std.specs.List.{list_all}
use Rattle.capnp_model.specs.Schemas.{Field as FieldNode, StructNode, Node}
use Rattle.capnp_model.specs.Accepted.{find_node, fields_of_kind, is_group_node, is_struct_node, names_a, schema_of, has_good_default, default_reads, IsAccepted}
use Rattle.capnp_model.proofs.lemmas.KeptRules.{found_passes, behind, no_break}
use Rattle.capnp_model.proofs.lemmas.SoundRules.{rules_kept, no_group_kind}
use Rattle.capnp_records.specs.declared.raw.RawBrandedStructSchema.{RawBrandedStructSchema}
use Rattle.capnp_records.proofs.lemmas.PlainStructs.{place_is_found}
use Rattle.capnp_values_queries.specs.Structs.{nodes_around, schema_around, id_of, IsRecordOf}
use Rattle.capnp_values_queries.specs.Handles.{IsFieldRecord}
use Rattle.capnp_values_queries.specs.declared.structs.StructSchema.{StructSchema}
use Rattle.capnp_values_queries.proofs.lemmas.Records.{struct_is}
use Rattle.capnp_model.proofs.lemmas.Tests.{same_number, and_left, and_right}
use Rattle.capnp_calls.specs.Roots.{IsRoot}

passed : (p : FieldNode → Bool) (fs : List FieldNode) (i : ℕ) (f : FieldNode) → list_all p fs ≡ true → slice_get fs i ≡ Some f → p f ≡ true
passed p [] zero f h e = absurd (cc e)
passed p [] (suc i) f h e = absurd (cc e)
passed p (g ∷ fs) zero f h e = let is : g ≡ f = cc e in ap p (sym is) ∙ and_left (p g) (list_all p fs) h
passed p (g ∷ fs) (suc i) f h e = passed p fs i f (and_right (p g) (list_all p fs) h) e

-- the eleventh rule
defaults_read : (nodes : List Node) → IsAccepted nodes → list_all (λ n. list_all (λ f. default_reads f.kind) (fields_of_kind n.kind)) nodes ≡ true
defaults_read nodes h =
    let a = behind nodes 1 11 h in
    let b = behind nodes 2 10 a.1 in
    let c = behind nodes 3 9 b.1 in
    let d = behind nodes 4 8 c.1 in
    let e = behind nodes 5 7 d.1 in
    let f = behind nodes 6 6 e.1 in
    let g = behind nodes 7 5 f.1 in
    let i = behind nodes 8 4 g.1 in
    let j = behind nodes 9 3 i.1 in
    let k = behind nodes 10 2 j.1 in
    let l = behind nodes 11 1 k.1 in
    no_break (λ n. list_all (λ f. default_reads f.kind) (fields_of_kind n.kind)) [] 0 nodes l.0

pub record SoundField (s : StructSchema) (f : FieldNode) : Type 0 where
  pub default : has_good_default f.kind ≡ true
  pub reads : default_reads f.kind ≡ true

pub sound_field : (s : StructSchema) (i : ℕ) (f : FieldNode) → IsFieldRecord s i f → (r : StructNode) → IsRecordOf (nodes_around s) (id_of s) r → SoundField s f
sound_field s i f is r h =
    let nodes = nodes_around s in
    let accepted = s.set.now.accepted in
    let n = struct_is nodes (id_of s) r h.found in
    let good = found_passes (λ m. list_all (λ g. has_good_default g.kind) (fields_of_kind m.kind)) nodes (id_of s) n.node (rules_kept nodes accepted).defaults n.found in
    let reads = found_passes (λ m. list_all (λ g. default_reads g.kind) (fields_of_kind m.kind)) nodes (id_of s) n.node (defaults_read nodes accepted) n.found in
    let reads' : list_all (λ g. default_reads g.kind) r.fields ≡ true = sym (ap (λ k. list_all (λ g. default_reads g.kind) (fields_of_kind k)) n.kind) ∙ reads in
    let good' : list_all (λ g. has_good_default g.kind) r.fields ≡ true = sym (ap (λ k. list_all (λ g. has_good_default g.kind) (fields_of_kind k)) n.kind) ∙ good in
    let at : slice_get r.fields i ≡ Some f = sym (ap (λ (o : Option StructNode). slice_get (elim o as (λ (p : Option StructNode). List FieldNode) [ None ↦ [] | Some m ↦ m.fields ]) i) h.found) ∙ is.recorded in
    record {
      default = passed (λ g. has_good_default g.kind) r.fields i f good' at;
      reads = passed (λ g. default_reads g.kind) r.fields i f reads' at;
    }

-- ---- the root is no group

root_at : (nodes : List Node) → IsAccepted nodes → (raw : RawBrandedStructSchema) (o : Option Node) → slice_get nodes raw.number ≡ o
    → (elim o as (λ (x : Option Node). Bool) [ None ↦ false | Some n ↦ n.id == raw.id && is_struct_node n ]) ≡ true → names_a is_group_node nodes raw.id ≡ false
root_at nodes accepted raw None e h = absurd (cc h)
root_at nodes accepted raw (Some n) e h =
    let id : n.id ≡ raw.id = same_number n.id raw.id (and_left (n.id == raw.id) (is_struct_node n) h) in
    let found : find_node nodes raw.id ≡ Some n = ap (find_node nodes) (sym id) ∙ place_is_found nodes accepted raw.number n e in
    ap (λ (x : Option Node). elim x as (λ (y : Option Node). Bool) [ None ↦ false | Some m ↦ is_group_node m ]) found
    ∙ no_group_kind n.kind (and_right (n.id == raw.id) (is_struct_node n) h)

pub root_is_no_group : (root : StructSchema) → IsRoot root → (schema_around root).is_group (id_of root) ≡ false
unfolding schema_of
root_is_no_group root h = root_at (nodes_around root) root.set.now.accepted root.raw (slice_get (nodes_around root) root.raw.number) refl h
