-- What is known of the nodes of an accepted set.
use Rattle.std.proofs.Common.{◌≡◌, ℕ, zero, suc, ◌+◌, ◌<◌, ◌≤◌, nat_lt, nat_le, ◌^◌, Bool, true, false, not, ◌&&◌, Option, Some, None, option_map, List, [], ◌∷◌, ◌++◌, map, length, drop, get_or, slice_get, refl, sym, ◌∙◌, ap, subst, arith}
use Rattle.std.specs.List.{list_all, flat_map}
use Rattle.std.proofs.lemmas.List.Folds.{list_all-append}
use Rattle.std.proofs.lemmas.Bool.Decides.{nat_tests}
use Rattle.capnp_model.specs.Schemas.{TypeRecord, Annotation, Enumerant, FieldKind, slot, group, Field, StructNode, NodeKind, struct_node, enum_node, Node, Shape, shape, Fields, no_fields, field}
use Rattle.capnp_model.specs.Printing.{fields_in}
use Rattle.capnp_model.specs.Accepted.{find_node, slot_types, groups_of_field, groups_used, types_in, names_of_kind, annotation_lists, annotations_in, fields_of_kind, enumerants_of_kind, names_its_sort, has_good_ids, is_short, is_group_node, names_a, field_body, fields_from, union_place, no_shape, shape_of_node, shape_in, schema_of, IsAccepted}
use Rattle.capnp_model.proofs.lemmas.KeptRules.{found_passes}
use Rattle.capnp_model.proofs.lemmas.SoundRules.{rules_kept, found_id}
use Rattle.capnp_records.specs.Sets.{has_struct, struct_of_kind, struct_found, enumerants_in, enumerants_found}
use Rattle.capnp_records.proofs.lemmas.ListTests.{list_all-flat_map}
use Rattle.capnp_model.proofs.lemmas.Tests.{both, and_left, and_right, all_both}
use Rattle.capnp_records.proofs.lemmas.FieldPlaces.{length_mapped}
use Rattle.capnp_values_queries.specs.Fields.{Entry, field_at, field_count, shape_id, entry_in, names_kind, are_named, are_few, is_named}
use Rattle.capnp_values_queries.specs.Structs.{IsRecordOf}
use Rattle.capnp_values_queries.proofs.lemmas.Shapes.{shape_fixed}

-- ---- fields by index

pub count_from : (groups : ℕ → Shape) (fs : List Field) → field_count (fields_from groups fs) ≡ length fs
count_from groups [] = refl
count_from groups (f ∷ fs) = let h = count_from groups fs in omega (arith, h)

-- the field of an index as the node says it
pub entry_from : (groups : ℕ → Shape) (fs : List Field) (i : ℕ) → field_at (fields_from groups fs) i ≡ option_map (λ f. record { name = f.name; member = f.member; body = field_body groups f.kind }) (slice_get fs i)
entry_from groups [] zero = refl
entry_from groups [] (suc i) = refl
entry_from groups (f ∷ fs) zero = refl
entry_from groups (f ∷ fs) (suc i) = entry_from groups fs i

-- ---- tests of parts

all_map : {A B : Type 0} (p : B → Bool) (f : A → B) (xs : List A) → list_all p (map f xs) ≡ list_all (λ x. p (f x)) xs
all_map p f [] = refl
all_map p f (x ∷ xs) = ap (λ b. p (f x) && b) (all_map p f xs)

all_mono : {A : Type 0} (p q : A → Bool) → ((x : A) → p x ≡ true → q x ≡ true) → (xs : List A) → list_all p xs ≡ true → list_all q xs ≡ true
all_mono p q h [] k = refl
all_mono p q h (x ∷ xs) k = both (q x) (list_all q xs) (h x (and_left (p x) (list_all p xs) k)) (all_mono p q h xs (and_right (p x) (list_all p xs) k))

-- each list of a list of lists
each_list : {A : Type 0} (q : A → Bool) (ls more : List (List A)) → list_all q (flat_map (λ l. l) (ls ++ more)) ≡ true → list_all (list_all q) ls ≡ true
each_list q [] more h = refl
each_list q (l ∷ ls) more h =
    let cut : (list_all q l && list_all q (flat_map (λ k. k) (ls ++ more))) ≡ true = sym (list_all-append q l (flat_map (λ k. k) (ls ++ more))) ∙ h in
    both (list_all q l) (list_all (list_all q) ls) (and_left (list_all q l) (list_all q (flat_map (λ k. k) (ls ++ more))) cut) (each_list q ls more (and_right (list_all q l) (list_all q (flat_map (λ k. k) (ls ++ more))) cut))

each_last : {A : Type 0} (q : A → Bool) (ls more : List (List A)) → list_all q (flat_map (λ l. l) (ls ++ more)) ≡ true → list_all q (flat_map (λ l. l) more) ≡ true
each_last q [] more h = h
each_last q (l ∷ ls) more h = each_last q ls more (and_right (list_all q l) (list_all q (flat_map (λ k. k) (ls ++ more))) (sym (list_all-append q l (flat_map (λ k. k) (ls ++ more))) ∙ h))

-- what a list's item at a place passes
pub passed_at : {A B : Type 0} (f : A → B) (test : B → Bool) (xs : List A) (i : ℕ) (x : A) → i < length xs → x ≡ get_or xs i x → list_all test (map f xs) ≡ true → (slice_get (map f xs) i ≡ Some (f x)) × (test (f x) ≡ true)
passed_at f test [] i x lt e h = absurd (omega arith)
passed_at f test (y ∷ ys) zero x lt e h = (ap (λ z. Some (f z)) (sym e), ap (λ z. test (f z)) e ∙ and_left (test (f y)) (list_all test (map f ys)) h)
passed_at f test (y ∷ ys) (suc i) x lt e h = passed_at f test ys i x (omega arith) e (and_right (test (f y)) (list_all test (map f ys)) h)

-- ---- nodes

pub record FoundStruct (nodes : List Node) (id : ℕ) (s : StructNode) : Type 0 where
  pub node : Node
  pub found : find_node nodes id ≡ Some node
  pub kind : node.kind ≡ struct_node s
  pub same : node.id ≡ id

pub struct_is : (nodes : List Node) (id : ℕ) (s : StructNode) → struct_found nodes id ≡ Some s → FoundStruct nodes id s
struct_is nodes id s h = by (find_node nodes id) refl h
  where
    by_kind : (k : NodeKind) → struct_of_kind k ≡ Some s → k ≡ struct_node s
    by_kind (struct_node r) e = let is : r ≡ s = cc e in ap struct_node is
    by_kind (enum_node es) e = absurd (cc e)

    by : (o : Option Node) → find_node nodes id ≡ o → (elim o as (λ (p : Option Node). Option StructNode) [ None ↦ None | Some n ↦ struct_of_kind n.kind ]) ≡ Some s → FoundStruct nodes id s
    by None e k = absurd (cc k)
    by (Some n) e k = record { node = n; found = e; kind = by_kind n.kind k; same = found_id nodes id n e }

abbrev kind_shape : (groups : ℕ → Shape) (id : ℕ) (k : NodeKind) → Shape
kind_shape groups id k = elim k as (λ (x : NodeKind). Shape) [ struct_node s ↦ shape id s.words s.pointers (union_place s) (fields_from groups s.fields) | enum_node es ↦ no_shape ]

fields_short : (k : NodeKind) (s : StructNode) → k ≡ struct_node s → nat_le (length (names_of_kind k)) 65535 ≡ true → length s.fields ≤ 65535
fields_short k s e h =
    let here : nat_le (length (map (λ f. f.name) s.fields)) 65535 ≡ true = ap (λ x. nat_le (length (names_of_kind x)) 65535) (sym e) ∙ h in
    let long = names_long s.fields in
    grind (arith, nat_tests)
  where
    names_long : (fs : List Field) → length (map (λ f. f.name) fs) ≡ length fs
    names_long [] = refl
    names_long (f ∷ fs) = let h = names_long fs in omega (arith, h)

kind_named : (nodes : List Node) (k : FieldKind) → list_all (λ t. names_its_sort nodes t.base) (slot_types k) ≡ true → list_all (names_a is_group_node nodes) (groups_of_field k) ≡ true → names_kind nodes k ≡ true
kind_named nodes (slot offset ty d) h g = and_left (names_its_sort nodes ty.base) true h
kind_named nodes (group id) h g = and_left (names_a is_group_node nodes id) true g

fields_named : (nodes : List Node) (fs : List Field)
    → list_all (λ t. names_its_sort nodes t.base) (flat_map (λ f. slot_types f.kind) fs) ≡ true
    → list_all (names_a is_group_node nodes) (flat_map (λ f. groups_of_field f.kind) fs) ≡ true
    → list_all (list_all (λ a. names_its_sort nodes a.type.base)) (map (λ f. f.annotations) fs) ≡ true
    → list_all are_few (map (λ f. f.annotations) fs) ≡ true
    → list_all (is_named nodes) fs ≡ true
fields_named nodes fs types groups annotations few =
    let p = λ (t : TypeRecord). names_its_sort nodes t.base in
    let g = names_a is_group_node nodes in
    let each = sym (list_all-flat_map p (λ (f : Field). slot_types f.kind) fs) ∙ types in
    let each_group = sym (list_all-flat_map g (λ (f : Field). groups_of_field f.kind) fs) ∙ groups in
    let kinds : list_all (λ f. names_kind nodes f.kind) fs ≡ true =
    all_mono (λ (f : Field). list_all p (slot_types f.kind) && list_all g (groups_of_field f.kind)) (λ f. names_kind nodes f.kind)
    (λ f h. kind_named nodes f.kind (and_left (list_all p (slot_types f.kind)) (list_all g (groups_of_field f.kind)) h) (and_right (list_all p (slot_types f.kind)) (list_all g (groups_of_field f.kind)) h))
    fs (all_both (λ (f : Field). list_all p (slot_types f.kind)) (λ f. list_all g (groups_of_field f.kind)) fs each each_group) in
    all_both (λ (f : Field). names_kind nodes f.kind) (λ f. are_named nodes f.annotations && are_few f.annotations) fs kinds
    (all_both (λ (f : Field). are_named nodes f.annotations) (λ f. are_few f.annotations) fs (sym (all_map (are_named nodes) (λ (f : Field). f.annotations) fs) ∙ annotations) (sym (all_map are_few (λ (f : Field). f.annotations) fs) ∙ few))

-- the annotations of a node, those of its fields and those of its enumerants
record NamedParts (nodes : List Node) (n : Node) : Type 0 where
  pub own : are_named nodes n.annotations ≡ true
  pub fields : list_all (list_all (λ a. names_its_sort nodes a.type.base)) (map (λ f. f.annotations) (fields_of_kind n.kind)) ≡ true
  pub enumerants : list_all (list_all (λ a. names_its_sort nodes a.type.base)) (map (λ e. e.annotations) (enumerants_of_kind n.kind)) ≡ true
  pub types : list_all (λ t. names_its_sort nodes t.base) (flat_map (λ f. slot_types f.kind) (fields_of_kind n.kind)) ≡ true
  pub groups : list_all (names_a is_group_node nodes) (groups_used n) ≡ true

append_nil : {A : Type 0} (xs : List A) → xs ++ [] ≡ xs
append_nil [] = refl
append_nil (x ∷ xs) = ap (λ ys. x ∷ ys) (append_nil xs)

named_parts : (nodes : List Node) → IsAccepted nodes → (id : ℕ) (n : Node) → find_node nodes id ≡ Some n → NamedParts nodes n
named_parts nodes accepted id n e =
    let r = rules_kept nodes accepted in
    let p = λ (t : TypeRecord). names_its_sort nodes t.base in
    let q = λ (a : Annotation). names_its_sort nodes a.type.base in
    let ids = found_passes (has_good_ids nodes) nodes id n r.ids e in
    let types = and_left (list_all p (types_in n)) (list_all (names_a is_group_node nodes) (groups_used n)) ids in
    let slots = flat_map (λ (f : Field). slot_types f.kind) (fields_of_kind n.kind) in
    let cut : (list_all p slots && list_all p (map (λ a. a.type) (annotations_in n))) ≡ true = sym (list_all-append p slots (map (λ a. a.type) (annotations_in n))) ∙ types in
    let annotations : list_all q (annotations_in n) ≡ true = sym (all_map p (λ (a : Annotation). a.type) (annotations_in n)) ∙ and_right (list_all p slots) (list_all p (map (λ a. a.type) (annotations_in n))) cut in
    let fs = map (λ (f : Field). f.annotations) (fields_of_kind n.kind) in
    let es = map (λ (x : Enumerant). x.annotations) (enumerants_of_kind n.kind) in
    let first : (list_all q n.annotations && list_all q (flat_map (λ l. l) (fs ++ es))) ≡ true = sym (list_all-append q n.annotations (flat_map (λ l. l) (fs ++ es))) ∙ annotations in
    let rest = and_right (list_all q n.annotations) (list_all q (flat_map (λ l. l) (fs ++ es))) first in
    let last = each_last q fs es rest in
    record {
      own = and_left (list_all q n.annotations) (list_all q (flat_map (λ l. l) (fs ++ es))) first;
      fields = each_list q fs es rest;
      enumerants = each_list q es [] (ap (λ ls. list_all q (flat_map (λ l. l) ls)) (append_nil es) ∙ last);
      types = and_left (list_all p slots) (list_all p (map (λ a. a.type) (annotations_in n))) cut;
      groups = and_right (list_all p (types_in n)) (list_all (names_a is_group_node nodes) (groups_used n)) ids;
    }

-- the annotations of a node, of each of its fields and of each of its enumerants are few
record FewParts (n : Node) : Type 0 where
  pub own : are_few n.annotations ≡ true
  pub fields : list_all are_few (map (λ f. f.annotations) (fields_of_kind n.kind)) ≡ true
  pub enumerants : list_all are_few (map (λ e. e.annotations) (enumerants_of_kind n.kind)) ≡ true

few_parts : (nodes : List Node) → IsAccepted nodes → (id : ℕ) (n : Node) → find_node nodes id ≡ Some n → FewParts n
few_parts nodes accepted id n e =
    let r = rules_kept nodes accepted in
    let short = found_passes is_short nodes id n r.short e in
    let all = and_right (nat_le (length (names_of_kind n.kind)) 65535) (list_all are_few (annotation_lists n)) short in
    let fs = map (λ (f : Field). f.annotations) (fields_of_kind n.kind) in
    let es = map (λ (x : Enumerant). x.annotations) (enumerants_of_kind n.kind) in
    let rest : (list_all are_few fs && list_all are_few es) ≡ true = sym (list_all-append are_few fs es) ∙ and_right (are_few n.annotations) (list_all are_few (fs ++ es)) all in
    record {
      own = and_left (are_few n.annotations) (list_all are_few (fs ++ es)) all;
      fields = and_left (list_all are_few fs) (list_all are_few es) rest;
      enumerants = and_right (list_all are_few fs) (list_all are_few es) rest;
    }

-- what an accepted set has said of a struct
pub record_known : (nodes : List Node) → IsAccepted nodes → (id : ℕ) (s : StructNode) → struct_found nodes id ≡ Some s → IsRecordOf nodes id s
unfolding schema_of
record_known nodes accepted id s h =
    let f = struct_is nodes id s h in
    let r = rules_kept nodes accepted in
    let short = found_passes is_short nodes id f.node r.short f.found in
    let parts = named_parts nodes accepted id f.node f.found in
    let fields : fields_of_kind f.node.kind ≡ s.fields = ap fields_of_kind f.kind in
    let groups = λ (g : ℕ). shape_in nodes (length nodes) g in
    record {
      found = h;
      shape = shape_fixed nodes accepted id ∙ ap (shape_of_node groups) f.found ∙ ap (kind_shape groups f.node.id) f.kind ∙ ap (λ i. kind_shape groups i (struct_node s)) f.same;
      few = fields_short f.node.kind s f.kind (and_left (nat_le (length (names_of_kind f.node.kind)) 65535) (list_all (λ l. nat_lt (length l) (2 ^ 29)) (annotation_lists f.node)) short);
      named = fields_named nodes s.fields
          (ap (λ fs. list_all (λ t. names_its_sort nodes t.base) (flat_map (λ g. slot_types g.kind) fs)) (sym fields) ∙ parts.types)
          (ap (λ fs. list_all (names_a is_group_node nodes) (flat_map (λ g. groups_of_field g.kind) fs)) (sym fields) ∙ parts.groups)
          (ap (λ fs. list_all (list_all (λ a. names_its_sort nodes a.type.base)) (map (λ g. g.annotations) fs)) (sym fields) ∙ parts.fields)
          (ap (λ fs. list_all are_few (map (λ g. g.annotations) fs)) (sym fields) ∙ (few_parts nodes accepted id f.node f.found).fields);
    }

pub node_named : (nodes : List Node) → IsAccepted nodes → (id : ℕ) (n : Node) → find_node nodes id ≡ Some n → (are_named nodes n.annotations ≡ true) × (are_few n.annotations ≡ true)
node_named nodes accepted id n e = ((named_parts nodes accepted id n e).own, (few_parts nodes accepted id n e).own)

-- what the annotations of an enum's enumerants name is there, and they are few
pub enumerants_named : (nodes : List Node) → IsAccepted nodes → (id : ℕ) (es : List Enumerant) → enumerants_found nodes id ≡ Some es → (list_all (λ e. are_named nodes e.annotations && are_few e.annotations) es ≡ true) × (length es ≤ 65535)
enumerants_named nodes accepted id es h = by (find_node nodes id) refl h
  where
    by_kind : (n : Node) → find_node nodes id ≡ Some n → (k : NodeKind) → n.kind ≡ k → enumerants_in k ≡ Some es → (list_all (λ e. are_named nodes e.annotations && are_few e.annotations) es ≡ true) × (length es ≤ 65535)
    by_kind n e (struct_node s) q g = absurd (cc g)
    by_kind n e (enum_node xs) q g =
        let is : xs ≡ es = cc g in
        let here : enumerants_of_kind n.kind ≡ es = ap enumerants_of_kind q ∙ is in
        let named = (named_parts nodes accepted id n e).enumerants in
        let few = (few_parts nodes accepted id n e).enumerants in
        let r = rules_kept nodes accepted in
        let short = and_left (nat_le (length (names_of_kind n.kind)) 65535) (list_all are_few (annotation_lists n)) (found_passes is_short nodes id n r.short e) in
        let names : nat_le (length (map (λ (x : Enumerant). x.name) es)) 65535 ≡ true = ap (λ k. nat_le (length (names_of_kind k)) 65535) (sym (q ∙ ap enum_node is)) ∙ short in
        let long = length_mapped (λ (x : Enumerant). x.name) es in (
          all_both (λ (x : Enumerant). are_named nodes x.annotations) (λ x. are_few x.annotations) es
              (sym (all_map (are_named nodes) (λ (x : Enumerant). x.annotations) es) ∙ ap (λ xs. list_all (are_named nodes) (map (λ (x : Enumerant). x.annotations) xs)) (sym here) ∙ named)
              (sym (all_map are_few (λ (x : Enumerant). x.annotations) es) ∙ ap (λ xs. list_all are_few (map (λ (x : Enumerant). x.annotations) xs)) (sym here) ∙ few),
          grind (arith, nat_tests),
        )

    by : (o : Option Node) → find_node nodes id ≡ o → (elim o as (λ (p : Option Node). Option (List Enumerant)) [ None ↦ None | Some n ↦ enumerants_in n.kind ]) ≡ Some es → (list_all (λ e. are_named nodes e.annotations && are_few e.annotations) es ≡ true) × (length es ≤ 65535)
    by None e g = absurd (cc g)
    by (Some n) e g = by_kind n e n.kind refl g

-- a group's shape has the group's id
pub group_id : (nodes : List Node) → IsAccepted nodes → (id : ℕ) → names_a has_struct nodes id ≡ true → shape_id ((schema_of nodes).shape_of id) ≡ id
unfolding schema_of
group_id nodes accepted id h = ap shape_id (shape_fixed nodes accepted id) ∙ by (find_node nodes id) refl h
  where
    groups : ℕ → Shape
    groups g = shape_in nodes (length nodes) g

    by_kind : (n : Node) (k : NodeKind) → n.kind ≡ k → (elim k as (λ (x : NodeKind). Bool) [ struct_node s ↦ true | enum_node es ↦ false ]) ≡ true → n.id ≡ id → shape_id (kind_shape groups n.id k) ≡ id
    by_kind n (struct_node s) e t i = i
    by_kind n (enum_node es) e t i = absurd (cc t)

    by : (o : Option Node) → find_node nodes id ≡ o → (elim o as (λ (x : Option Node). Bool) [ None ↦ false | Some n ↦ has_struct n ]) ≡ true → shape_id (shape_of_node groups o) ≡ id
    by None e t = absurd (cc t)
    by (Some n) e t = by_kind n n.kind refl t (found_id nodes id n e)

pub count_is : (nodes : List Node) (id : ℕ) (s : StructNode) → IsRecordOf nodes id s → field_count (fields_in ((schema_of nodes).shape_of id)) ≡ length s.fields
count_is nodes id s r = ap (λ g. field_count (fields_in g)) r.shape ∙ count_from (schema_of nodes).shape_of s.fields

pub is_group_struct : (nodes : List Node) (id : ℕ) → names_a is_group_node nodes id ≡ true → names_a has_struct nodes id ≡ true
is_group_struct nodes id h = by (find_node nodes id) h
  where
    by_kind : (k : NodeKind) → (elim k as (λ (x : NodeKind). Bool) [ struct_node s ↦ s.is_group | enum_node es ↦ false ]) ≡ true → (elim k as (λ (x : NodeKind). Bool) [ struct_node s ↦ true | enum_node es ↦ false ]) ≡ true
    by_kind (struct_node s) e = refl
    by_kind (enum_node es) e = e

    by : (o : Option Node) → (elim o as (λ (x : Option Node). Bool) [ None ↦ false | Some n ↦ is_group_node n ]) ≡ true → (elim o as (λ (x : Option Node). Bool) [ None ↦ false | Some n ↦ has_struct n ]) ≡ true
    by None e = e
    by (Some n) e = by_kind n.kind e

few_is : {A B : Type 0} (f : A → B) (xs : List A) → nat_lt (length (map f xs)) (2 ^ 29) ≡ true → length xs < 536870912
few_is f xs h = let same = length_mapped f xs in grind (arith, nat_tests)

pub few_annotations : {A : Type 0} (f : A → Annotation) (xs : List A) → are_few (map f xs) ≡ true → length xs < 536870912
few_annotations f xs h = few_is f xs h

pub item_passes : {A B : Type 0} (f : A → B) (test : B → Bool) (xs : List A) (i : ℕ) (d : A) → i < length xs → list_all test (map f xs) ≡ true → test (f (get_or xs i d)) ≡ true
item_passes f test [] i d lt h = absurd (omega arith)
item_passes f test (y ∷ ys) zero d lt h = and_left (test (f y)) (list_all test (map f ys)) h
item_passes f test (y ∷ ys) (suc i) d lt h = item_passes f test ys i d (omega arith) (and_right (test (f y)) (list_all test (map f ys)) h)

pub item_there : {A : Type 0} (xs : List A) (i : ℕ) (d : A) → i < length xs → slice_get xs i ≡ Some (get_or xs i d)
item_there [] i d lt = absurd (omega arith)
item_there (y ∷ ys) zero d lt = refl
item_there (y ∷ ys) (suc i) d lt = item_there ys i d (omega arith)

pub rest_from : {A : Type 0} (xs : List A) (i : ℕ) (x : A) → slice_get xs i ≡ Some x → drop i xs ≡ x ∷ drop (i + 1) xs
rest_from [] zero x h = absurd (cc h)
rest_from [] (suc i) x h = absurd (cc h)
rest_from (y ∷ ys) zero x h = let is : y ≡ x = cc h in ap (λ z. z ∷ ys) is
rest_from (y ∷ ys) (suc i) x h = let next : suc (i + 1) ≡ suc i + 1 = omega arith in rest_from ys i x h ∙ ap (λ k. x ∷ drop k (y ∷ ys)) next
