-- Under accepted schemas and with lists in kind, the record machine and the tree edit are one for every call, and for calls in a row.
use Rattle.std.proofs.Common.{subst, ◌≡◌, ℕ, ◌+◌, ◌%◌, ◌^◌, length, ◌<◌, ◌≤◌, Bool, true, false, nat_le, ◌⊎◌, inl, inr, if◌then◌else◌, List, [], ◌∷◌, refl, sym, ◌∙◌, ap, arith}
use Rattle.std.specs.Prelude.{IsTrue}
use Rattle.std.specs.List.{AllByRecursion, list_all}
use Rattle.std.proofs.lemmas.List.Folds.{list_all-append}
use Rattle.std.proofs.Math.Nat.{div-eq_of_lt, pow-le-pow_right, zero-mod}
use Rattle.capnp_model.specs.Sections.{bits_at}
use Rattle.capnp_model.specs.Trees.{Tree, null, capability, structure, plain_list, pointer_list, struct_list, none, resized}
use Rattle.capnp_model.specs.Schemas.{Ty, void, plain, text, blob, untyped, interface, struct, list, Node, Shape, shape, Fields, no_fields, field, Body, void_slot, plain_slot, pointer_slot, group_slot, Schema}
use Rattle.capnp_model.specs.Readings.{Record, whole_words, just_bits, no_children, field_bits, read_child, record_of, record_by_shape}
use Rattle.capnp_model.specs.Printing.{fields_in}
use Rattle.capnp_model.specs.Calls.{Step, name, index, Verb, Call}
use Rattle.capnp_model.specs.Steps.{Outcome, refused, shown, done, step, step_path, after_outcome, record_after}
use Rattle.capnp_model.specs.Edits.{edit, if_done, write_path}
use Rattle.capnp_model.specs.Answers.{reply_of, replies, edits}
use Rattle.capnp_model.specs.InKind.{in_kind}
use Rattle.capnp_model.specs.InKindCalls.{defaults_in_kind, named_structs, structs_of_fields, structs_of_body, struct_ids, is_among, end_of, at_value, value_in_kind}
use Rattle.capnp_model.specs.Accepted.{are_apart, Area, bit_area, pointer_area, areas_of, schema_of, IsAccepted}
use Rattle.capnp_model.specs.NamedPaths.{IsOpen}
use Rattle.capnp_model.specs.CallRuns.{IsGiven, AreGiven, IsStart, view_of_value, records_after, record_replies}
use Rattle.capnp_model.specs.Views.{SameAll}
use Rattle.capnp_model.proofs.lemmas.SoundRules.{rules_kept, good_shape, apart}
use Rattle.capnp_model.proofs.ApartAreas.{apart_of}
use Rattle.capnp_model.proofs.lemmas.Marks.{SameAll-refl, SameAll-trans}
use Rattle.capnp_model.proofs.Views.{shape_record-same}
use Rattle.capnp_model.proofs.lemmas.Paths.{nothing_in}
use Rattle.capnp_model.proofs.lemmas.ListElements.{IsReal}
use Rattle.capnp_model.proofs.ListsInKind.{ReadsStraight}
use Rattle.capnp_model.proofs.lemmas.SoundSizes.{IsNoGroup, AllStraight, accepted_sound, all_pass}
use Rattle.capnp_model.proofs.lemmas.ReachedStructs.{AreReal, FieldsReal, BodyReal, IsReached}
use Rattle.capnp_model.proofs.lemmas.EveryPath.{IsBesideKept, path_law}
use Rattle.capnp_model.proofs.KindsOfContents.{verb_in_kind}
use Rattle.capnp_model.proofs.lemmas.Tests.{and_left, and_right}

-- ---- an element of one word as a struct

none_above : (x a n : ℕ) → x < 2 ^ 64 → 64 ≤ a → bits_at a n x ≡ 0
none_above x a n h k =
    let power : 2 ^ 64 ≤ 2 ^ a = pow-le-pow_right {n = 2} (omega arith) {i = 64} {j = a} k in
    ap (λ z. z % 2 ^ n) (div-eq_of_lt {n = x} {m = 2 ^ a} (omega arith)) ∙ zero-mod (2 ^ n)

word_bits : (x a n : ℕ) → x < 2 ^ 64 → (a + n ≤ 64) ⊎ (64 ≤ a) → field_bits (just_bits 64) x a n ≡ bits_at a n x
word_bits x a n h k = by (nat_le (a + n) 64) refl
  where
    no_le : (p q : ℕ) → nat_le p q ≡ false → p ≤ q → ⊥
    no_le p q e l = absurd (grind arith)

    by : (b : Bool) → nat_le (a + n) 64 ≡ b → (if b then bits_at a n x else 0) ≡ bits_at a n x
    by true e = refl
    by false e = elim k [ inl l ↦ absurd (no_le (a + n) 64 e l) | inr l ↦ sym (none_above x a n h l) ]

straight_views : (s : Schema) (x p : ℕ) → x < 2 ^ 64 → (ys : List Area) → AllStraight ys → SameAll ys (record { size = just_bits 64; section = x; kids = no_children }) (record { size = whole_words; section = x; kids = read_child s (resized p none) })
straight_views s x p h [] k = tt
straight_views s x p h (bit_area a n ∷ ys) k = (word_bits x a n h k.0, straight_views s x p h ys k.1)
straight_views s x p h (pointer_area i ∷ ys) k = ((λ ty. sym (nothing_in s p i ty)), straight_views s x p h ys k)

reads_straight : (s : Schema) (id : ℕ) → AllStraight (areas_of (s.shape_of id)) → ReadsStraight s id
reads_straight s id h x p small =
    shape_record-same (s.shape_of id) (record { size = just_bits 64; section = x; kids = no_children }) (record { size = whole_words; section = x; kids = read_child s (resized p none) }) (straight_views s x p small (areas_of (s.shape_of id)) h)

-- ---- what is reached

module _ (nodes : List Node) (reached : List ℕ) where
  -- a struct among those that are reached
  abbrev pub Reached : ℕ → Type 0
  Reached id = (is_among reached id ≡ true) × IsNoGroup nodes id

  real_among : (ty : Ty) → IsReal (IsNoGroup nodes) ty → list_all (is_among reached) (struct_ids ty) ≡ true → IsReal Reached ty
  real_among void h k = tt
  real_among (plain p) h k = h
  real_among text h k = tt
  real_among blob h k = tt
  real_among untyped h k = tt
  real_among interface h k = tt
  real_among (struct id) h k = (and_left (is_among reached id) true k, h)
  real_among (list ty) h k = real_among ty h k

  mutual
    unfolding named_structs

    among_shape : (g : Shape) → AreReal (IsNoGroup nodes) g → list_all (is_among reached) (named_structs g) ≡ true → AreReal Reached g
    among_shape (shape nid w p u fs) h k = among_fields fs h k

    among_fields : (fs : Fields) → FieldsReal (IsNoGroup nodes) fs → list_all (is_among reached) (structs_of_fields fs) ≡ true → FieldsReal Reached fs
    among_fields no_fields h k = tt
    among_fields (field n m b fs) h k =
        let both = sym (list_all-append (is_among reached) (structs_of_body b) (structs_of_fields fs)) ∙ k in (
          among_body b h.0 (and_left (list_all (is_among reached) (structs_of_body b)) (list_all (is_among reached) (structs_of_fields fs)) both),
          among_fields fs h.1 (and_right (list_all (is_among reached) (structs_of_body b)) (list_all (is_among reached) (structs_of_fields fs)) both),
        )

    among_body : (b : Body) → BodyReal (IsNoGroup nodes) b → list_all (is_among reached) (structs_of_body b) ≡ true → BodyReal Reached b
    among_body (void_slot j) h k = tt
    among_body (plain_slot p at d) h k = tt
    among_body (pointer_slot i ty d) h k = real_among ty h k
    among_body (group_slot g) h k = among_shape g h k

  reached_sound : IsAccepted nodes → list_all (λ i. list_all (is_among reached) (named_structs ((schema_of nodes).shape_of i))) reached ≡ true
      → list_all (λ i. defaults_in_kind (schema_of nodes) ((schema_of nodes).shape_of i)) reached ≡ true → (id : ℕ) → Reached id → IsReached (schema_of nodes) Reached id
  unfolding schema_of
  reached_sound h closed defaults id root =
      let s = schema_of nodes in
      let rules = rules_kept nodes h in
      let sizes = accepted_sound nodes h id in
      record {
        sound = record {
          good = good_shape nodes rules (length nodes) id;
          apart = apart nodes rules id root.1;
          defaults = all_pass (λ i. defaults_in_kind s (s.shape_of i)) reached id defaults root.0;
          real = among_shape (s.shape_of id) sizes.real (all_pass (λ i. list_all (is_among reached) (named_structs (s.shape_of i))) reached id closed root.0);
        };
        within = sizes.within;
        straight = reads_straight s id sizes.straight;
      }

-- ---- one call

abbrev pub CallDone : Schema → ℕ → Call → Tree → Record → Type 0
CallDone s id c t r = (record_of s id (edit s id c t) ≡ r) × (in_kind s (edit s id c t) (struct id) ≡ true) × IsBesideKept s (s.shape_of id) t (edit s id c t)

written_open : (f : Schema) (g : Shape) (n : List ℕ) (path : List Step) (verb : Verb) (t : Tree) → IsOpen t → IsOpen (write_path f g (name n ∷ path) verb t)
written_open s (shape nid w p u fs) n path verb null h = tt
written_open s (shape nid w p u fs) n path verb (structure words section ts) h = tt
written_open s g n path verb (capability i) h = absurd h
written_open s g n path verb (plain_list z k x) h = absurd h
written_open s g n path verb (pointer_list ts) h = absurd h
written_open s g n path verb (struct_list w p es) h = absurd h

path_open : (s : Schema) (g : Shape) (path : List Step) (verb : Verb) (t : Tree) → IsOpen t → IsOpen (write_path s g path verb t)
path_open s g [] verb t h = h
path_open s g (index k ∷ path) verb t h = h
path_open s g (name n ∷ path) verb t h = written_open s g n path verb t h

pub edit_open : (s : Schema) (id : ℕ) (c : Call) (t : Tree) → IsOpen t → IsOpen (edit s id c t)
unfolding edit
edit_open s id c t h = by (step s id c (record_of s id t))
  where
    by : (o : Outcome Record) → IsOpen (if_done o (write_path s (s.shape_of id) c.path c.verb t) t)
    by (refused k) = h
    by (shown how r) = h
    by (done r) = path_open s (s.shape_of id) c.path c.verb t h

-- the tree by the outcome
edit_is : (s : Schema) (id : ℕ) (c : Call) (t : Tree) (o : Outcome Record) → step s id c (record_of s id t) ≡ o → edit s id c t ≡ if_done o (write_path s (s.shape_of id) c.path c.verb t) t
unfolding edit
edit_is s id c t o e = ap (λ (z : Outcome Record). if_done z (write_path s (s.shape_of id) c.path c.verb t) t) e

module _ (s : Schema) (R : ℕ → Type 0) (reached : (id : ℕ) → R id → IsReached s R id) (id : ℕ) (root : R id) where
  on_path : (verb : Verb) → IsGiven verb → (path : List Step) (t : Tree) (r : Record) → IsOpen t → in_kind s t (struct id) ≡ true → verb_in_kind s verb (end_of s path (at_value (struct id))) ≡ true
      → step_path s (fields_in (s.shape_of id)) path verb (record_by_shape s (s.shape_of id) t) ≡ done r
      → (record_by_shape s (s.shape_of id) (write_path s (s.shape_of id) path verb t) ≡ r) × (in_kind s (write_path s (s.shape_of id) path verb t) (struct id) ≡ true) × IsBesideKept s (s.shape_of id) t (write_path s (s.shape_of id) path verb t)
  on_path verb given [] t r is_open kind value h = absurd (cc h)
  on_path verb given (index k ∷ path) t r is_open kind value h = absurd (cc h)
  on_path verb given (name n ∷ path) t r is_open kind value h = path_law s R reached verb given id root n path t r is_open kind value h

  call_done : (c : Call) → IsGiven c.verb → (t : Tree) (r : Record) → IsOpen t → in_kind s t (struct id) ≡ true → value_in_kind s id c ≡ true → step s id c (record_of s id t) ≡ done r → CallDone s id c t r
  unfolding record_of step edit
  call_done c given t r is_open kind value h =
      let law = on_path c.verb given c.path t r is_open kind value h in (
        ap (λ (o : Outcome Record). record_by_shape s (s.shape_of id) (if_done o (write_path s (s.shape_of id) c.path c.verb t) t)) h ∙ law.0,
        ap (λ (o : Outcome Record). in_kind s (if_done o (write_path s (s.shape_of id) c.path c.verb t) t) (struct id)) h ∙ law.1,
        subst (λ (o : Outcome Record). IsBesideKept s (s.shape_of id) t (if_done o (write_path s (s.shape_of id) c.path c.verb t) t)) (sym h) law.2,
      )

  -- whatever the outcome
  call_meets : (c : Call) → IsGiven c.verb → (t : Tree) → IsOpen t → in_kind s t (struct id) ≡ true → value_in_kind s id c ≡ true → CallDone s id c t (record_after s id c (record_of s id t))
  call_meets c given t is_open kind value = by (step s id c (record_of s id t)) refl
    where
      stays : (o : Outcome Record) → step s id c (record_of s id t) ≡ o → edit s id c t ≡ t → after_outcome (record_of s id t) o ≡ record_of s id t → CallDone s id c t (after_outcome (record_of s id t) (step s id c (record_of s id t)))
      stays o e same keeps = (ap (record_of s id) same ∙ sym keeps ∙ ap (after_outcome (record_of s id t)) (sym e), ap (λ z. in_kind s z (struct id)) same ∙ kind, subst (λ z. IsBesideKept s (s.shape_of id) t z) (sym same) (λ ys off. SameAll-refl ys (view_of_value s t)))

      by : (o : Outcome Record) → step s id c (record_of s id t) ≡ o → CallDone s id c t (after_outcome (record_of s id t) (step s id c (record_of s id t)))
      by (refused k) e = stays (refused k) e (edit_is s id c t (refused k) e) refl
      by (shown how r) e = stays (shown how r) e (edit_is s id c t (shown how r) e) refl
      by (done r) e = let law = call_done c given t r is_open kind value e in (law.0 ∙ ap (after_outcome (record_of s id t)) (sym e), law.1, law.2)

-- ---- calls in a row

-- all that stands after some calls
pub record CallsDone (s : Schema) (quoted : List ℕ → List ℕ) (id : ℕ) (calls : List Call) (t : Tree) : Type 0 where
  pub reads : record_of s id (edits s id calls t) ≡ records_after s id calls (record_of s id t)
  pub replied : replies s quoted id calls t ≡ record_replies s quoted id calls (record_of s id t)
  pub kinds : in_kind s (edits s id calls t) (struct id) ≡ true
  pub open' : IsOpen (edits s id calls t)
  pub beside : IsBesideKept s (s.shape_of id) t (edits s id calls t)

calls_done : (s : Schema) (R : ℕ → Type 0) → ((i : ℕ) → R i → IsReached s R i) → (quoted : List ℕ → List ℕ) (id : ℕ) → R id → (calls : List Call) → AreGiven calls → (t : Tree) → IsOpen t → in_kind s t (struct id) ≡ true
    → AllByRecursion (λ c. IsTrue (value_in_kind s id c)) calls → CallsDone s quoted id calls t
unfolding records_after record_replies edits replies
calls_done s R reached quoted id root [] given t is_open kind values = record { reads = refl; replied = refl; kinds = kind; open' = is_open; beside = λ ys off. SameAll-refl ys (view_of_value s t) }
calls_done s R reached quoted id root (c ∷ cs) given t is_open kind values =
    let first = call_meets s R reached id root c given.0 t is_open kind values.0 in
    let later = calls_done s R reached quoted id root cs given.1 (edit s id c t) (edit_open s id c t is_open) first.1 values.1 in
    record {
      reads = later.reads ∙ ap (records_after s id cs) first.0;
      replied = ap (λ z. reply_of s quoted (step s id c (record_of s id t)) ∷ z) (later.replied ∙ ap (record_replies s quoted id cs) first.0);
      kinds = later.kinds;
      open' = later.open';
      beside = λ ys off. SameAll-trans ys (view_of_value s t) (view_of_value s (edit s id c t)) (view_of_value s (edits s id cs (edit s id c t))) (first.2 ys off) (later.beside ys off);
    }

-- THE LAWS
module _ (nodes : List Node) (id : ℕ) where
  -- what is reached from the root
  start_reached : (calls : List Call) (t : Tree) (k : IsStart nodes id calls t) (i : ℕ) → Reached nodes k.kinds.reached i → IsReached (schema_of nodes) (Reached nodes k.kinds.reached) i
  start_reached calls t k i r = reached_sound nodes k.kinds.reached k.accepted k.kinds.are_closed k.kinds.of_defaults i r

  start_root : (calls : List Call) (t : Tree) (k : IsStart nodes id calls t) → Reached nodes k.kinds.reached id
  unfolding schema_of
  start_root calls t k = (k.kinds.has_root, k.root)

  pub one_call : (c : Call) (calls : List Call) (t : Tree) → IsStart nodes id (c ∷ calls) t → (r : Record) → step (schema_of nodes) id c (record_of (schema_of nodes) id t) ≡ done r
      → record_of (schema_of nodes) id (edit (schema_of nodes) id c t) ≡ r
  one_call c calls t k r e =
      (call_done (schema_of nodes) (Reached nodes k.kinds.reached) (start_reached (c ∷ calls) t k) id (start_root (c ∷ calls) t k) c k.given.0 t r k.opens k.kinds.of_tree k.kinds.of_values.0 e).0

  -- the next calls start from what one call leaves
  pub next_start : (c : Call) (calls : List Call) (t : Tree) → IsStart nodes id (c ∷ calls) t → IsStart nodes id calls (edit (schema_of nodes) id c t)
  next_start c calls t k = record {
    accepted = k.accepted;
    root = k.root;
    given = k.given.1;
    opens = edit_open (schema_of nodes) id c t k.opens;
    kinds = record {
      of_tree = (call_meets (schema_of nodes) (Reached nodes k.kinds.reached) (start_reached (c ∷ calls) t k) id (start_root (c ∷ calls) t k) c k.given.0 t k.opens k.kinds.of_tree k.kinds.of_values.0).1;
      reached = k.kinds.reached;
      has_root = k.kinds.has_root;
      are_closed = k.kinds.are_closed;
      of_defaults = k.kinds.of_defaults;
      of_values = k.kinds.of_values.1;
    };
  }

  pub all_calls : (quoted : List ℕ → List ℕ) (calls : List Call) (t : Tree) → IsStart nodes id calls t → CallsDone (schema_of nodes) quoted id calls t
  all_calls quoted calls t k =
      calls_done (schema_of nodes) (Reached nodes k.kinds.reached) (start_reached calls t k) quoted id (start_root calls t k) calls k.given t k.opens k.kinds.of_tree k.kinds.of_values

  pub record_after_calls : (calls : List Call) (t : Tree) → IsStart nodes id calls t → record_of (schema_of nodes) id (edits (schema_of nodes) id calls t) ≡ records_after (schema_of nodes) id calls (record_of (schema_of nodes) id t)
  record_after_calls calls t k = (all_calls (λ x. x) calls t k).reads

  pub replies_to_calls : (quoted : List ℕ → List ℕ) (calls : List Call) (t : Tree) → IsStart nodes id calls t
      → replies (schema_of nodes) quoted id calls t ≡ record_replies (schema_of nodes) quoted id calls (record_of (schema_of nodes) id t)
  replies_to_calls quoted calls t k = (all_calls quoted calls t k).replied

  -- what the schema names nothing of stays
  pub beside_calls : (calls : List Call) (t : Tree) → IsStart nodes id calls t → (ys : List Area) → are_apart (areas_of ((schema_of nodes).shape_of id)) ys ≡ true
      → SameAll ys (view_of_value (schema_of nodes) t) (view_of_value (schema_of nodes) (edits (schema_of nodes) id calls t))
  beside_calls calls t k ys off = (all_calls (λ x. x) calls t k).beside ys (apart_of (areas_of ((schema_of nodes).shape_of id)) ys off)

  -- nothing is out of kind after all calls
  pub last_start : (calls : List Call) (t : Tree) → IsStart nodes id calls t → IsStart nodes id [] (edits (schema_of nodes) id calls t)
  last_start calls t k =
      let d = all_calls (λ x. x) calls t k in
      record {
        accepted = k.accepted;
        root = k.root;
        given = tt;
        opens = d.open';
        kinds = record { of_tree = d.kinds; reached = k.kinds.reached; has_root = k.kinds.has_root; are_closed = k.kinds.are_closed; of_defaults = k.kinds.of_defaults; of_values = tt };
      }
