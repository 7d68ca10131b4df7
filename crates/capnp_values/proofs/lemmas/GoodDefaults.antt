-- The defaults of an accepted set keep the rules.
use Rattle.std.proofs.Common.{◌≡◌, ℕ, zero, suc, Bool, true, Option, Some, None, IfSome, List, [], ◌∷◌, slice_get, refl, sym, ◌∙◌, ap}
use Rattle.std.specs.List.{list_all}
use Rattle.capnp_model.specs.Schemas.{FieldKind, slot, group, Field as FieldNode, StructNode, NodeKind, struct_node, enum_node, Node}
use Rattle.capnp_model.specs.Accepted.{find_node, fields_of_kind, has_good_default, default_reads, IsAccepted}
use Rattle.capnp_model.proofs.lemmas.KeptRules.{behind, no_break, found_passes}
use Rattle.capnp_records.specs.Sets.{struct_of_kind}
use Rattle.capnp_values_queries.specs.Structs.{nodes_around, id_of}
use Rattle.capnp_values_queries.specs.Handles.{IsFieldRecord}
use Rattle.capnp_values_queries.specs.declared.structs.StructSchema.{StructSchema}
use Rattle.capnp_model.proofs.lemmas.Tests.{and_left, and_right}
use Rattle.capnp_values.specs.GoodDefaults.{HoldsOnlyBytes, KeepsDefault}
use Rattle.capnp_values.specs.Shown.{default_said}

-- what each node keeps of its defaults
pub record DefaultsKept (nodes : List Node) : Type 0 where
  pub good : list_all (λ n. list_all (λ f. has_good_default f.kind) (fields_of_kind n.kind)) nodes ≡ true
  pub reads : list_all (λ n. list_all (λ f. default_reads f.kind) (fields_of_kind n.kind)) nodes ≡ true

pub defaults_kept : (nodes : List Node) → IsAccepted nodes → DefaultsKept nodes
defaults_kept nodes h =
    let a = behind nodes 1 11 h in
    let b = behind nodes 2 10 a.1 in
    let c = behind nodes 3 9 b.1 in
    let d = behind nodes 4 8 c.1 in
    let e = behind nodes 5 7 d.1 in
    let f = behind nodes 6 6 e.1 in
    let g = behind nodes 7 5 f.1 in
    let i = behind nodes 8 4 g.1 in
    let j = behind nodes 9 3 i.1 in
    let k = behind nodes 10 2 j.1 in
    let l = behind nodes 11 1 k.1 in
    record {
      good = no_break (λ n. list_all (λ f. has_good_default f.kind) (fields_of_kind n.kind)) [] 0 nodes k.0;
      reads = no_break (λ n. list_all (λ f. default_reads f.kind) (fields_of_kind n.kind)) [] 0 nodes l.0;
    }

pub field_passes : (test : FieldNode → Bool) (fs : List FieldNode) (i : ℕ) (f : FieldNode) → list_all test fs ≡ true → slice_get fs i ≡ Some f → test f ≡ true
field_passes test [] zero f h e = absurd cc
field_passes test [] (suc i) f h e = absurd cc
field_passes test (g ∷ fs) zero f h e = let is : g ≡ f = cc in ap test (sym is) ∙ and_left (test g) (list_all test fs) h
field_passes test (g ∷ fs) (suc i) f h e = field_passes test fs i f (and_right (test g) (list_all test fs) h) e

abbrev pub fields_said : Option StructNode → List FieldNode
fields_said o = elim o as (λ (p : Option StructNode). List FieldNode) [ None ↦ [] | Some n ↦ n.fields ]

pub kind_passes : (test : FieldNode → Bool) (k : NodeKind) (i : ℕ) (f : FieldNode) → list_all test (fields_of_kind k) ≡ true → slice_get (fields_said (struct_of_kind k)) i ≡ Some f → test f ≡ true
kind_passes test (struct_node s) i f h e = field_passes test s.fields i f h e
kind_passes test (enum_node es) zero f h e = absurd cc
kind_passes test (enum_node es) (suc i) f h e = absurd cc

-- what the fields of each node pass, a field of a struct does
pub passes : (test : FieldNode → Bool) (nodes : List Node) (id i : ℕ) (f : FieldNode) → list_all (λ n. list_all test (fields_of_kind n.kind)) nodes ≡ true
    → slice_get (fields_said (elim (find_node nodes id) as (λ (x : Option Node). Option StructNode) [ None ↦ None | Some n ↦ struct_of_kind n.kind ])) i ≡ Some f → test f ≡ true
passes test nodes id i f h e = by (find_node nodes id) i refl e
  where
    by : (o : Option Node) (j : ℕ) → find_node nodes id ≡ o → slice_get (fields_said (elim o as (λ (x : Option Node). Option StructNode) [ None ↦ None | Some n ↦ struct_of_kind n.kind ])) j ≡ Some f → test f ≡ true
    by None zero k g = absurd cc
    by None (suc j) k g = absurd cc
    by (Some n) j k g = kind_passes test n.kind j f (found_passes (λ m. list_all test (fields_of_kind m.kind)) nodes id n h k) g

keeps : (k : FieldKind) → has_good_default k ≡ true → default_reads k ≡ true → IfSome (default_said k) HoldsOnlyBytes → KeepsDefault k
keeps (slot o ty None) h r b = tt
keeps (slot o ty (Some d)) h r b = (h, r, b)
keeps (group id) h r b = tt

-- the default of a field of an accepted set keeps the rules
pub good_default : (s : StructSchema) (i : ℕ) (f : FieldNode) → IsFieldRecord s i f → IfSome (default_said f.kind) HoldsOnlyBytes → KeepsDefault f.kind
good_default s i f is bytes =
    let kept = defaults_kept (nodes_around s) s.set.now.accepted in
    keeps f.kind (passes (λ g. has_good_default g.kind) (nodes_around s) (id_of s) i f kept.good is.recorded) (passes (λ g. default_reads g.kind) (nodes_around s) (id_of s) i f kept.reads is.recorded) bytes
