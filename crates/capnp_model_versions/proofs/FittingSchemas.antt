-- In accepted node records every slot lies in its struct's sections, so that edited values fit their spelling.
use Rattle.std.proofs.Common.{◌≡◌, ℕ, zero, suc, ◌*◌, ◌^◌, ◌<◌, ◌≤◌, ◌==◌, Bool, true, false, if◌then◌else◌, length, Option, Some, None, List, [], ◌∷◌, refl, sym, ◌∙◌, subst, arith}
use Rattle.std.specs.List.{list_all, list_any, flat_map, AllByRecursion}
use Rattle.std.proofs.lemmas.Bool.{or_left, or_right}
use Rattle.std.proofs.lemmas.List.Folds.{list_any-append}
use Rattle.capnp_model.specs.Trees.{Tree, null, capability, structure, plain_list, pointer_list, struct_list}
use Rattle.capnp_model.specs.Schemas.{Ty, void, plain, text, blob, untyped, interface, struct, list, type_of, Value, FieldKind, slot, group, Field, StructNode, NodeKind, struct_node, enum_node, Node, Shape, shape, Fields, no_fields, field, Body, void_slot, plain_slot, pointer_slot, group_slot, Schema, default_or_null, words_of_shape, pointers_of_shape}
use Rattle.capnp_model.specs.Readings.{Record, record_of, record_by_shape}
use Rattle.capnp_model.specs.Printing.{fields_in}
use Rattle.capnp_model.specs.Accepted.{find_node, fields_of_kind, groups_of_field, sizes_of, slot_body, field_body, fields_from, union_place, no_shape, shape_of_node, shape_in, schema_of, is_inside, has_its_place, has_places, on_struct, IsAccepted}
use Rattle.capnp_model.specs.Calls.{get, set_to, init, initn, clear, whole_number, truth, enumerant, text_value, blob_value, message, Step, name, index, Verb, Call}
use Rattle.capnp_model.specs.Steps.{Outcome, refused, shown, done, step, step_path}
use Rattle.capnp_model.specs.Edits.{write_path, if_done, edit}
use Rattle.capnp_model.specs.Answers.{edits}
use Rattle.capnp_model.specs.Fits.{Fits}
use Rattle.capnp_model.proofs.lemmas.KeptRules.{found_passes}
use Rattle.capnp_model.proofs.lemmas.FineShapes.{IsGoodMember, IsGood, AreGood, IsGoodBody}
use Rattle.capnp_model.proofs.lemmas.SoundRules.{RulesKept, rules_kept, good_shape}
use Rattle.capnp_model.proofs.lemmas.Tests.{lt_is, and_left, and_right}
use Rattle.capnp_model_versions.specs.Fitting.{HasShortLists, IsSpelledVerb, HasSmallSections, HaveSmallSections, AreSpelled}
use Rattle.capnp_model_versions.proofs.SameShapes.{UnionWithin}
use Rattle.capnp_model_versions.proofs.Holders.{PlacesKept, places_kept, uses, group_fits}
use Rattle.capnp_model_versions.proofs.Within.{FitsDefault, IsWithin, AreWithin, BodyWithin, shape-within}
use Rattle.capnp_model_versions.proofs.Wrote.{Wrote}
use Rattle.capnp_model_versions.proofs.FittingParts.{Lengths, any_lengths, FitsBy, SpelledBy, of-any, numbers-of, fits-by-parts, UnionFits, MemberFits, ShapeFits, FieldsFit, BodyFits, SchemaFits}
use Rattle.capnp_model_versions.proofs.FittingEdits.{written-fits}

-- ---- pointers

abbrev mutual
  PointersWithin : ℕ → Shape → Type 0
  PointersWithin room (shape nid w p u fs) = AllPointersWithin room fs

  AllPointersWithin : ℕ → Fields → Type 0
  AllPointersWithin room no_fields = Unit {0}
  AllPointersWithin room (field l m b fs) = PointerWithin room b × AllPointersWithin room fs

  PointerWithin : ℕ → Body → Type 0
  PointerWithin room (void_slot j) = Unit {0}
  PointerWithin room (plain_slot p at d) = Unit {0}
  PointerWithin room (pointer_slot i ty d) = i < room
  PointerWithin room (group_slot g) = PointersWithin room g

slot_pointer : (s : StructNode) (room offset : ℕ) (ty : Ty) (d : Option Value) → s.pointers ≤ room → is_inside s offset ty ≡ true → PointerWithin room (slot_body offset ty d)
slot_pointer s room offset void d le h = tt
slot_pointer s room offset (plain p) d le h = tt
slot_pointer s room offset text d le h = let x = lt_is offset s.pointers h in omega arith
slot_pointer s room offset blob d le h = let x = lt_is offset s.pointers h in omega arith
slot_pointer s room offset untyped d le h = let x = lt_is offset s.pointers h in omega arith
slot_pointer s room offset interface d le h = let x = lt_is offset s.pointers h in omega arith
slot_pointer s room offset (struct id) d le h = let x = lt_is offset s.pointers h in omega arith
slot_pointer s room offset (list ty) d le h = let x = lt_is offset s.pointers h in omega arith

module _ (groups : ℕ → Shape) (s : StructNode) (room : ℕ) (le : s.pointers ≤ room) where
  kind_pointers : (k : FieldKind) → ((g : ℕ) → list_any (λ x. x == g) (groups_of_field k) ≡ true → PointersWithin room (groups g)) → has_its_place s k ≡ true → PointerWithin room (field_body groups k)
  kind_pointers (slot offset ty d) good h = slot_pointer s room offset (type_of ty) d le h
  kind_pointers (group g) good h = good g (or_left (g == g) false (self g))
    where
      self : (g : ℕ) → (g == g) ≡ true
      self g = grind arith

  fields_pointers : (fs : List Field) → ((g : ℕ) → list_any (λ x. x == g) (flat_map (λ (f : Field). groups_of_field f.kind) fs) ≡ true → PointersWithin room (groups g)) → list_all (λ (f : Field). has_its_place s f.kind) fs ≡ true
      → AllPointersWithin room (fields_from groups fs)
  fields_pointers [] good h = tt
  fields_pointers (f ∷ fs) good h =
      let rest = flat_map (λ (g : Field). groups_of_field g.kind) fs in (
        kind_pointers f.kind (λ g x. good g (list_any-append (λ y. y == g) (groups_of_field f.kind) rest ∙ or_left (list_any (λ y. y == g) (groups_of_field f.kind)) (list_any (λ y. y == g) rest) x))
            (and_left (has_its_place s f.kind) _ h),
        fields_pointers fs (λ g x. good g (list_any-append (λ y. y == g) (groups_of_field f.kind) rest ∙ or_right (list_any (λ y. y == g) (groups_of_field f.kind)) (list_any (λ y. y == g) rest) x))
            (and_right (has_its_place s f.kind) _ h),
      )

module _ (nodes : List Node) (r : RulesKept nodes) (q : PlacesKept nodes) where
  node_pointers : (groups : ℕ → Shape) (n : Node) → pointers_of_shape (shape_of_node groups (Some n)) ≡ (sizes_of n).1
  node_pointers groups n = by n.kind
    where
      by : (k : NodeKind) → pointers_of_shape (elim k as (λ (x : NodeKind). Shape) [ struct_node s ↦ shape n.id s.words s.pointers (union_place s) (fields_from groups s.fields) | enum_node es ↦ no_shape ])
          ≡ (elim k as (λ (x : NodeKind). ℕ × ℕ) [ struct_node s ↦ (s.words, s.pointers) | enum_node es ↦ (0, 0) ]).1
      by (struct_node s) = refl
      by (enum_node es) = refl

  pointers_at : (levels id : ℕ) (n : Node) (g : ℕ) → find_node nodes id ≡ Some n → uses n g ≡ true → pointers_of_shape (shape_in nodes levels g) ≤ (sizes_of n).1
  unfolding shape_in
  pointers_at zero id n g e k = omega arith
  pointers_at (suc levels) id n g e k = by (find_node nodes g) refl
    where
      by : (o : Option Node) → find_node nodes g ≡ o → pointers_of_shape (shape_of_node (λ x. shape_in nodes levels x) o) ≤ (sizes_of n).1
      by None f = omega arith
      by (Some m) f = subst (λ z. z ≤ (sizes_of n).1) (sym (node_pointers (λ x. shape_in nodes levels x) m)) (group_fits nodes q r.ids id n g m e k f).1

  struct_pointers : (groups : ℕ → Shape) (room nid : ℕ) (k : NodeKind) → ((g : ℕ) → list_any (λ x. x == g) (flat_map (λ (f : Field). groups_of_field f.kind) (fields_of_kind k)) ≡ true → PointersWithin room (groups g))
      → (elim k as (λ (x : NodeKind). ℕ × ℕ) [ struct_node s ↦ (s.words, s.pointers) | enum_node es ↦ (0, 0) ]).1 ≤ room
      → (elim k as (λ (x : NodeKind). Bool) [ struct_node s ↦ has_places s | enum_node es ↦ true ]) ≡ true
      → PointersWithin room (elim k as (λ (x : NodeKind). Shape) [ struct_node s ↦ shape nid s.words s.pointers (union_place s) (fields_from groups s.fields) | enum_node es ↦ no_shape ])
  struct_pointers groups room nid (struct_node s) good le p = fields_pointers groups s room le s.fields good p
  struct_pointers groups room nid (enum_node es) good le p = tt

  shape_pointers : (levels id room : ℕ) → pointers_of_shape (shape_in nodes levels id) ≤ room → PointersWithin room (shape_in nodes levels id)
  unfolding shape_in
  shape_pointers zero id room le = tt
  shape_pointers (suc levels) id room le = by (find_node nodes id) refl (shape_pointers levels) le
    where
      by : (o : Option Node) → find_node nodes id ≡ o → ((g b : ℕ) → pointers_of_shape (shape_in nodes levels g) ≤ b → PointersWithin b (shape_in nodes levels g)) → pointers_of_shape (shape_of_node (λ g. shape_in nodes levels g) o) ≤ room
          → PointersWithin room (shape_of_node (λ g. shape_in nodes levels g) o)
      by None e inner le = tt
      by (Some n) e inner le =
          let few : (sizes_of n).1 ≤ room = subst (λ z. z ≤ room) (node_pointers (λ g. shape_in nodes levels g) n) le in
          struct_pointers (λ g. shape_in nodes levels g) room n.id n.kind (λ g k. inner g room (let small = pointers_at levels id n g e k in omega arith)) few (found_passes (on_struct has_places) nodes id n q.places e)

-- ---- all together

module _ (L : Lengths) where
  default_numbers : (d : Option Tree) → FitsDefault d → FitsBy L (default_or_null d)
  default_numbers None h = tt
  default_numbers (Some t) h = numbers-of L t h.0

  mutual
    both-fit : (s : Schema) (w p : ℕ) (g : Shape) → IsWithin (64 * w) g → IsGood s g → PointersWithin p g → ShapeFits L w p g
    both-fit s w p (shape nid x y u fs) h good k = (union-fits u h.0, fields-fit s w p u fs h.2 good k)
      where
        union-fits : (v : Option ℕ) → UnionWithin (64 * w) v → UnionFits w v
        union-fits None l = tt
        union-fits (Some at) l = l

    fields-fit : (s : Schema) (w p : ℕ) (u : Option ℕ) (fs : Fields) → AreWithin (64 * w) fs → AreGood s u fs → AllPointersWithin p fs → FieldsFit L w p fs
    fields-fit s w p u no_fields h good k = tt
    fields-fit s w p u (field l m b fs) h good k = (member-fits m good.0, body-fit s w p b h.0 good.3 k.0, fields-fit s w p u fs h.1 good.4 k.1)
      where
        member-fits : (m : Option ℕ) → IsGoodMember u m → MemberFits m
        member-fits None g = tt
        member-fits (Some j) g = g.1

    body-fit : (s : Schema) (w p : ℕ) (b : Body) → BodyWithin (64 * w) b → IsGoodBody s b → PointerWithin p b → BodyFits L w p b
    body-fit s w p (void_slot j) h good k = tt
    body-fit s w p (plain_slot q at d) h good k = (h, good)
    body-fit s w p (pointer_slot i ty d) h good k = (k, h.0, default_numbers d h.1, good.0)
    body-fit s w p (group_slot g) h good k = both-fit s w p g h good k

  module _ (nodes : List Node) (accepted : IsAccepted nodes) (small : HaveSmallSections nodes) where
    found_small : (ns : List Node) → HaveSmallSections ns → (id : ℕ) (n : Node) → find_node ns id ≡ Some n → HasSmallSections n.kind
    found_small [] h id n e = absurd (cc e)
    found_small (m ∷ ns) h id n e = by (m.id == id) (found_small ns h.1 id n) e
      where
        by : (b : Bool) → (find_node ns id ≡ Some n → HasSmallSections n.kind) → (if b then Some m else find_node ns id) ≡ Some n → HasSmallSections n.kind
        by true more x = let is : m ≡ n = cc in subst (λ (z : Node). HasSmallSections z.kind) is h.0
        by false more x = more x

    node_small : (groups : ℕ → Shape) (o : Option Node) → ((n : Node) → o ≡ Some n → HasSmallSections n.kind) → (words_of_shape (shape_of_node groups o) < 2 ^ 16) × (pointers_of_shape (shape_of_node groups o) < 2 ^ 16)
    node_small groups None h = (omega arith, omega arith)
    node_small groups (Some n) h = by n.kind (h n refl)
      where
        by : (k : NodeKind) → HasSmallSections k → (words_of_shape (elim k as (λ (x : NodeKind). Shape) [ struct_node s ↦ shape n.id s.words s.pointers (union_place s) (fields_from groups s.fields) | enum_node es ↦ no_shape ]) < 2 ^ 16)
            × (pointers_of_shape (elim k as (λ (x : NodeKind). Shape) [ struct_node s ↦ shape n.id s.words s.pointers (union_place s) (fields_from groups s.fields) | enum_node es ↦ no_shape ]) < 2 ^ 16)
        by (struct_node s) g = g
        by (enum_node es) g = (omega arith, omega arith)

    shape_small : (levels id : ℕ) → (words_of_shape (shape_in nodes levels id) < 2 ^ 16) × (pointers_of_shape (shape_in nodes levels id) < 2 ^ 16)
    unfolding shape_in
    shape_small zero id = (omega arith, omega arith)
    shape_small (suc levels) id = node_small (λ g. shape_in nodes levels g) (find_node nodes id) (λ n e. found_small nodes small id n e)

    pub schema-fits : SchemaFits L (schema_of nodes)
    unfolding schema_of
    schema-fits id =
        let r = rules_kept nodes accepted in
        let q = places_kept nodes accepted in
        let g = shape_in nodes (length nodes) id in
        let sizes = shape_small (length nodes) id in
        record {
          words = sizes.0;
          pointers = sizes.1;
          inside = both-fit (schema_of nodes) (words_of_shape g) (pointers_of_shape g) g
              (shape-within nodes r q (length nodes) id (64 * words_of_shape g) (omega arith)) (good_shape nodes r (length nodes) id) (shape_pointers nodes r q (length nodes) id (pointers_of_shape g) (omega arith));
        }

    written-numbers : (id : ℕ) (path : List Step) (verb : Verb) → SpelledBy L verb → (t : Tree) → FitsBy L t
        → Wrote (step_path (schema_of nodes) (fields_in ((schema_of nodes).shape_of id)) path verb (record_by_shape (schema_of nodes) ((schema_of nodes).shape_of id) t)) → FitsBy L (write_path (schema_of nodes) ((schema_of nodes).shape_of id) path verb t)
    written-numbers id path verb spelled null h w = written-fits L (schema_of nodes) schema-fits verb spelled id path null h tt w
    written-numbers id path verb spelled (structure n x ts) h w = written-fits L (schema_of nodes) schema-fits verb spelled id path (structure n x ts) h tt w
    written-numbers id path verb spelled (capability i) h w = closed ((schema_of nodes).shape_of id) path
      where
        closed : (g : Shape) (path : List Step) → FitsBy L (write_path (schema_of nodes) g path verb (capability i))
        closed (shape nid a b u fs) [] = h
        closed (shape nid a b u fs) (name n ∷ path) = h
        closed (shape nid a b u fs) (index k ∷ path) = h
    written-numbers id path verb spelled (plain_list z n x) h w = closed ((schema_of nodes).shape_of id) path
      where
        closed : (g : Shape) (path : List Step) → FitsBy L (write_path (schema_of nodes) g path verb (plain_list z n x))
        closed (shape nid a b u fs) [] = h
        closed (shape nid a b u fs) (name l ∷ path) = h
        closed (shape nid a b u fs) (index k ∷ path) = h
    written-numbers id path verb spelled (pointer_list ts) h w = closed ((schema_of nodes).shape_of id) path
      where
        closed : (g : Shape) (path : List Step) → FitsBy L (write_path (schema_of nodes) g path verb (pointer_list ts))
        closed (shape nid a b u fs) [] = h
        closed (shape nid a b u fs) (name l ∷ path) = h
        closed (shape nid a b u fs) (index k ∷ path) = h
    written-numbers id path verb spelled (struct_list d k es) h w = closed ((schema_of nodes).shape_of id) path
      where
        closed : (g : Shape) (path : List Step) → FitsBy L (write_path (schema_of nodes) g path verb (struct_list d k es))
        closed (shape nid a b u fs) [] = h
        closed (shape nid a b u fs) (name l ∷ path) = h
        closed (shape nid a b u fs) (index j ∷ path) = h

    edited-numbers : (id : ℕ) (c : Call) → SpelledBy L c.verb → (t : Tree) → FitsBy L t → FitsBy L (edit (schema_of nodes) id c t)
    unfolding edit step record_of
    edited-numbers id c spelled t h =
        by (step_path (schema_of nodes) (fields_in ((schema_of nodes).shape_of id)) c.path c.verb (record_by_shape (schema_of nodes) ((schema_of nodes).shape_of id) t)) (written-numbers id c.path c.verb spelled t h)
      where
        by : (o : Outcome Record) → (Wrote o → FitsBy L (write_path (schema_of nodes) ((schema_of nodes).shape_of id) c.path c.verb t)) → FitsBy L (if_done o (write_path (schema_of nodes) ((schema_of nodes).shape_of id) c.path c.verb t) t)
        by (refused k) f = h
        by (shown how r) f = h
        by (done r) f = f tt

    pub all-edited-numbers : (id : ℕ) (calls : List Call) → AllByRecursion (λ c. SpelledBy L c.verb) calls → (t : Tree) → FitsBy L t → FitsBy L (edits (schema_of nodes) id calls t)
    unfolding edits
    all-edited-numbers id [] spelled t h = h
    all-edited-numbers id (c ∷ cs) spelled t h = all-edited-numbers id cs spelled.1 (edit (schema_of nodes) id c t) (edited-numbers id c spelled.0 t h)

-- a verb as calls hold it, whatever its lists
spelled-by-any : (verb : Verb) → IsSpelledVerb verb → SpelledBy any_lengths verb
spelled-by-any get h = tt
spelled-by-any (set_to (whole_number z)) h = tt
spelled-by-any (set_to (truth b)) h = tt
spelled-by-any (set_to (enumerant n)) h = h
spelled-by-any (set_to (text_value bs)) h = tt
spelled-by-any (set_to (blob_value bs)) h = tt
spelled-by-any (set_to (message t)) h = of-any t h
spelled-by-any init h = tt
spelled-by-any (initn n) h = (tt, tt)
spelled-by-any clear h = tt

all-spelled-by-any : (calls : List Call) → AllByRecursion (λ c. IsSpelledVerb c.verb) calls → AllByRecursion (λ c. SpelledBy any_lengths c.verb) calls
all-spelled-by-any [] h = tt
all-spelled-by-any (c ∷ cs) h = (spelled-by-any c.verb h.0, all-spelled-by-any cs h.1)

-- the numbers of what calls in turn leave
pub edited-by-any : (nodes : List Node) (id : ℕ) (calls : List Call) (t : Tree) → AreSpelled nodes calls → Fits t → FitsBy any_lengths (edits (schema_of nodes) id calls t)
edited-by-any nodes id calls t spelled h = all-edited-numbers any_lengths nodes spelled.accepted spelled.small id calls (all-spelled-by-any calls spelled.verbs) t (numbers-of any_lengths t h)

-- THE LAW: edited values fit, where no list gets too long.
pub edits-fit : (nodes : List Node) (id : ℕ) (calls : List Call) (t : Tree) → AreSpelled nodes calls → Fits t → HasShortLists (edits (schema_of nodes) id calls t) → Fits (edits (schema_of nodes) id calls t)
edits-fit nodes id calls t spelled h short = fits-by-parts any_lengths (edits (schema_of nodes) id calls t) (edited-by-any nodes id calls t spelled h) short
