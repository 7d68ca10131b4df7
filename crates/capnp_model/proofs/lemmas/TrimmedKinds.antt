-- Trimming leaves lists in kind, and so does opening a root.
use Rattle.std.proofs.Common.{◌≡◌, ℕ, zero, suc, ◌≤◌, true, ◌&&◌, List, refl, sym, ◌∙◌, ap, arith}
use Rattle.capnp_model.specs.Trees.{Tree, null, capability, structure, plain_list, pointer_list, struct_list, Trees, none, ◌▸◌, Elements, no_elements, element, tree_count, child, resized}
use Rattle.capnp_model.specs.Trimming.{after_stripping, stripped, common_pointers, with_pointers, trim, trim_each, trim_elements}
use Rattle.capnp_model.specs.Schemas.{Ty, struct, Node, Shape, shape, Schema}
use Rattle.capnp_model.specs.Readings.{whole_words, shape_record, record_by_shape, record_of}
use Rattle.capnp_model.specs.Calls.{Call}
use Rattle.capnp_model.specs.Answers.{replies, edits, widened_root, opened_root}
use Rattle.capnp_model.specs.InKind.{one_kind, element_kinds, struct_kinds, list_kinds, shape_in_kind, in_kind, child_in_kind, children_in_kind, elements_in_kind}
use Rattle.capnp_model.specs.Accepted.{schema_of}
use Rattle.capnp_model.specs.NamedPaths.{IsOpen}
use Rattle.capnp_model.specs.CallRuns.{IsStart, records_after, record_replies}
use Rattle.capnp_model.proofs.lemmas.Stripping.{resized-stripped, child-stripped}
use Rattle.capnp_model.proofs.lemmas.Marks.{read_child-padded_to}
use Rattle.capnp_model.proofs.lemmas.Paths.{nothing_in}
use Rattle.capnp_model.proofs.lemmas.TrimmedAnswers.{trimmed_record}
use Rattle.capnp_model.proofs.lemmas.KeptCells.{child_in_kind-is}
use Rattle.capnp_model.proofs.CopiedFields.{quiet_shape, quiet_child}
use Rattle.capnp_model.proofs.lemmas.ListElements.{child_in_kind-padded_to}
use Rattle.capnp_model.proofs.lemmas.EditLaws.{record_after_calls, replies_to_calls, last_start}

-- ---- children

pub no_child : (p i : ℕ) → child (resized p none) i ≡ null
no_child zero i = refl
no_child (suc p) zero = refl
no_child (suc p) (suc i) = no_child p i

child-resized : (p : ℕ) (ts : Trees) (i : ℕ) → tree_count ts ≤ p → child (resized p ts) i ≡ child ts i
child-resized p none i h = no_child p i
child-resized zero (t ▸ ts) i h = absurd (omega arith)
child-resized (suc p) (t ▸ ts) zero h = refl
child-resized (suc p) (t ▸ ts) (suc i) h = child-resized p ts i (omega arith)

child-cut : (p : ℕ) (ts : Trees) (i : ℕ) → tree_count (stripped ts) ≤ p → child (resized p ts) i ≡ child ts i
child-cut p ts i h = ap (λ us. child us i) (sym (resized-stripped p ts)) ∙ child-resized p (stripped ts) i h ∙ child-stripped ts i

kind_of_child : (s : Schema) (ts us : Trees) (i : ℕ) (ty : Ty) → child ts i ≡ child us i → child_in_kind s ts i ty ≡ child_in_kind s us i ty
kind_of_child s ts us i ty e = child_in_kind-is s ts i ty ∙ ap (λ t. in_kind s t ty) e ∙ sym (child_in_kind-is s us i ty)

-- ---- values

module _ (s : Schema) where
  mutual
    unfolding in_kind trim

    pub in_kind-trim : (t : Tree) (ty : Ty) → in_kind s (trim t) ty ≡ in_kind s t ty
    in_kind-trim null ty = refl
    in_kind-trim (capability i) ty = refl
    in_kind-trim (structure w section kids) ty =
        ap (struct_kinds s ty section) (λ k i e. (kind_of_child s (stripped (trim_each kids)) (trim_each kids) i e (child-stripped (trim_each kids) i) ∙ child_in_kind-trim kids i e) k)
    in_kind-trim (plain_list size n section) ty = refl
    in_kind-trim (pointer_list ts) ty = ap (λ f. list_kinds 6 f ty) (λ k e. children_in_kind-trim ts e k)
    in_kind-trim (struct_list w p es) ty = ap (λ f. list_kinds 7 f ty) (λ k e. elements_in_kind-trim es (common_pointers (trim_elements es)) (omega arith) e k)

    child_in_kind-trim : (ts : Trees) (i : ℕ) (ty : Ty) → child_in_kind s (trim_each ts) i ty ≡ child_in_kind s ts i ty
    child_in_kind-trim none i ty = refl
    child_in_kind-trim (t ▸ ts) zero ty = in_kind-trim t ty
    child_in_kind-trim (t ▸ ts) (suc i) ty = child_in_kind-trim ts i ty

    children_in_kind-trim : (ts : Trees) (ty : Ty) → children_in_kind s (trim_each ts) ty ≡ children_in_kind s ts ty
    children_in_kind-trim none ty = refl
    children_in_kind-trim (t ▸ ts) ty =
        ap (λ f. element_kinds s ty 0 (one_kind f) && children_in_kind s (trim_each ts) ty) (λ k e. in_kind-trim t e k)
        ∙ ap (λ z. element_kinds s ty 0 (one_kind (in_kind s t)) && z) (children_in_kind-trim ts ty)

    elements_in_kind-trim : (es : Elements) (p : ℕ) → common_pointers (trim_elements es) ≤ p → (ty : Ty) → elements_in_kind s (with_pointers p (trim_elements es)) ty ≡ elements_in_kind s es ty
    elements_in_kind-trim no_elements p le ty = refl
    elements_in_kind-trim (element section kids es) p le ty =
        ap (λ f. element_kinds s ty section f && elements_in_kind s (with_pointers p (trim_elements es)) ty)
        (λ k i e. (kind_of_child s (resized p (trim_each kids)) (trim_each kids) i e (child-cut p (trim_each kids) i (omega arith)) ∙ child_in_kind-trim kids i e) k)
        ∙ ap (λ z. element_kinds s ty section (child_in_kind s kids) && z) (elements_in_kind-trim es p (omega arith) ty)

-- ---- the root

opened_kind : (s : Schema) (id : ℕ) (g : Shape) (t : Tree) → IsOpen t → in_kind s t (struct id) ≡ true → in_kind s (widened_root g t) (struct id) ≡ true
unfolding in_kind
opened_kind s id (shape nid w p u fs) null o h = quiet_shape (s.shape_of id) 0 (child_in_kind s (resized p none)) (quiet_child s p)
opened_kind s id (shape nid w p u fs) (structure words section kids) o h = ap (shape_in_kind (s.shape_of id) section) (λ k i e. child_in_kind-padded_to s p kids i e k) ∙ h
opened_kind s id g (capability i) o h = absurd o
opened_kind s id g (plain_list z n k) o h = absurd o
opened_kind s id g (pointer_list ts) o h = absurd o
opened_kind s id g (struct_list w p es) o h = absurd o

opened_record : (s : Schema) (f g : Shape) (t : Tree) → IsOpen t → record_by_shape s f (widened_root g t) ≡ record_by_shape s f t
unfolding record_by_shape
opened_record s f (shape nid w p u fs) null o = ap (shape_record f whole_words 0) (λ k i ty. nothing_in s p i ty k)
opened_record s f (shape nid w p u fs) (structure words section kids) o = ap (shape_record f whole_words section) (λ k i ty. read_child-padded_to s p kids i ty k)
opened_record s f g (capability i) o = absurd o
opened_record s f g (plain_list z n k) o = absurd o
opened_record s f g (pointer_list ts) o = absurd o
opened_record s f g (struct_list w p es) o = absurd o

opened_open : (g : Shape) (t : Tree) → IsOpen t → IsOpen (widened_root g t)
opened_open (shape nid w p u fs) null o = tt
opened_open (shape nid w p u fs) (structure words section kids) o = tt
opened_open g (capability i) o = absurd o
opened_open g (plain_list z n k) o = absurd o
opened_open g (pointer_list ts) o = absurd o
opened_open g (struct_list w p es) o = absurd o

pub trim_open : (t : Tree) → IsOpen t → IsOpen (trim t)
unfolding trim
trim_open null o = tt
trim_open (structure w n k) o = tt
trim_open (capability i) o = absurd o
trim_open (plain_list z n k) o = absurd o
trim_open (pointer_list ts) o = absurd o
trim_open (struct_list w p es) o = absurd o

-- calls can start from a root that is opened under another schema
pub start_opened_by : (o : Schema) (other : ℕ) (nodes : List Node) (id : ℕ) (calls : List Call) (t : Tree) → IsStart nodes id calls t → IsStart nodes id calls (opened_root o other t)
unfolding opened_root
start_opened_by o other nodes id calls t k =
    let s = schema_of nodes in
    record {
      accepted = k.accepted;
      root = k.root;
      given = k.given;
      opens = opened_open (o.shape_of other) (trim t) (trim_open t k.opens);
      kinds = record {
        of_tree = opened_kind s id (o.shape_of other) (trim t) (trim_open t k.opens) (in_kind-trim s t (struct id) ∙ k.kinds.of_tree);
        reached = k.kinds.reached;
        has_root = k.kinds.has_root;
        are_closed = k.kinds.are_closed;
        of_defaults = k.kinds.of_defaults;
        of_values = k.kinds.of_values;
      };
    }

-- its record is the value's
pub record_opened_by : (o : Schema) (other : ℕ) (s : Schema) (id : ℕ) (t : Tree) → IsOpen t → in_kind s t (struct id) ≡ true → record_of s id (opened_root o other t) ≡ record_of s id t
unfolding opened_root record_of
record_opened_by o other s id t opens kind =
    opened_record s (s.shape_of id) (o.shape_of other) (trim t) (trim_open t opens) ∙ trimmed_record s id t kind

module _ (nodes : List Node) (id : ℕ) where
  -- calls can start from the opened root
  pub opened_start : (calls : List Call) (t : Tree) → IsStart nodes id calls t → IsStart nodes id calls (opened_root (schema_of nodes) id t)
  opened_start = start_opened_by (schema_of nodes) id nodes id

  opened_reads : (calls : List Call) (t : Tree) → IsStart nodes id calls t → record_of (schema_of nodes) id (opened_root (schema_of nodes) id t) ≡ record_of (schema_of nodes) id t
  opened_reads calls t k = record_opened_by (schema_of nodes) id (schema_of nodes) id t k.opens k.kinds.of_tree

  -- what is written reads as what the calls make of the record of what was read
  pub written_record : (calls : List Call) (t : Tree) → IsStart nodes id calls t
      → record_of (schema_of nodes) id (trim (edits (schema_of nodes) id calls (opened_root (schema_of nodes) id t))) ≡ records_after (schema_of nodes) id calls (record_of (schema_of nodes) id t)
  written_record calls t k =
      let s = schema_of nodes in
      let start = opened_start calls t k in
      trimmed_record s id (edits s id calls (opened_root s id t)) (last_start nodes id calls (opened_root s id t) start).kinds.of_tree
      ∙ record_after_calls nodes id calls (opened_root s id t) start ∙ ap (records_after s id calls) (opened_reads calls t k)

  pub written_replies : (quoted : List ℕ → List ℕ) (calls : List Call) (t : Tree) → IsStart nodes id calls t
      → replies (schema_of nodes) quoted id calls (opened_root (schema_of nodes) id t) ≡ record_replies (schema_of nodes) quoted id calls (record_of (schema_of nodes) id t)
  written_replies quoted calls t k =
      let s = schema_of nodes in
      replies_to_calls nodes id quoted calls (opened_root s id t) (opened_start calls t k) ∙ ap (record_replies s quoted id calls) (opened_reads calls t k)
