-- The elements of lists, one by one.
use Rattle.std.proofs.Common.{◌≡◌, ℕ, ◌+◌, ◌-◌, ◌*◌, ◌<◌, ◌≤◌, ◌==◌, true, false, ◌&&◌, List, [], take, drop, Option, Some, refl, ap, sym, ◌∙◌, arith}
use Rattle.std.specs.Prelude.{unwrap_or}
use Rattle.std.specs.List.{slice_get}
use Rattle.std.specs.Option.{is_some}
use Rattle.std.proofs.Math.Nat.{mul-le-mul_right}
use Rattle.std.proofs.lemmas.List.{take-take, drop-take, drop-drop}
use Rattle.capnp_model.specs.Sections.{section_of}
use Rattle.capnp_model.specs.Segments.{Segments, Place, after, words_at}
use Rattle.capnp_model.specs.Trees.{Tree, Trees, none, ◌▸◌, Elements, no_elements, element}
use Rattle.capnp_model.specs.Traversal.{each, each_element}
use Rattle.capnp_model.specs.Accepted.{schema_of}
use Rattle.capnp_model.specs.Schemas.{Ty, void, plain, text, blob, untyped, interface, struct, list, width, Node, Schema}
use Rattle.capnp_model.specs.Readings.{expected_size}
use Rattle.capnp_model.specs.InKind.{one_kind, element_kinds, in_kind, shape_in_kind, child_in_kind, children_in_kind, elements_in_kind}
use Rattle.capnp_model.proofs.lemmas.Chaining.{bind_some, some_is}
use Rattle.capnp_model.proofs.lemmas.ListElements.{no_size}
use Rattle.capnp_wire_objects.specs.Inside.{section_in, section_at, words_there}
use Rattle.capnp_wire_objects.specs.Objects.{AreThere}
use Rattle.capnp_values_queries.specs.Structs.{nodes_around, shape_of_struct, id_of}
use Rattle.capnp_values_queries.specs.declared.structs.StructSchema.{StructSchema}
use Rattle.capnp_wire_objects.proofs.lemmas.Tags.{words_from, words_are}
use Rattle.capnp_wire_objects.proofs.lemmas.Rows.{each_next, row_start, row_end, element_next, elements_start}

-- ---- pointers

-- What is left of a row from an index on decides.
abbrev pub RowLeft : Schema → Ty → (Place → Option Tree) → Place → ℕ → ℕ → Type 0
RowLeft k ty f p n i = (ts : Trees) → each f p n ≡ Some ts → (us : Trees) × (each f (after p i) (n - i) ≡ Some us) × (children_in_kind k ts ty ≡ children_in_kind k us ty)

-- an element that stands behind a pointer
pointed : (k : Schema) (ty : Ty) (t : Tree) → expected_size ty ≡ 6 → element_kinds k ty 0 (one_kind (in_kind k t)) ≡ in_kind k t ty
pointed k void t six = absurd cc
pointed k (plain p) t six = let no = no_size (width p) 6 (omega arith) in let yes : true ≡ (expected_size (plain p) == 6) = ap (λ n. n == 6) (sym six) in absurd (cc (no, yes))
pointed k text t six = refl
pointed k blob t six = refl
pointed k untyped t six = refl
pointed k interface t six = refl
pointed k (struct id) t six = absurd cc
pointed k (list e) t six = refl

module _ (k : Schema) (ty : Ty) (f : Place → Option Tree) (p : Place) (n : ℕ) where
  pub row_begins : RowLeft k ty f p n 0
  row_begins ts h = (ts, row_start p n (each f) ∙ h, refl)

  -- the row at an index is an element and the rest
  pub record Split (i : ℕ) (us : Trees) : Type 0 where
    pub first : Tree
    pub there : f (after p i) ≡ Some first
    pub rest : Trees
    pub follows : each f (after p (i + 1)) (n - (i + 1)) ≡ Some rest
    pub is : first ▸ rest ≡ us

  split : (i : ℕ) (us : Trees) → i < n → each f (after p i) (n - i) ≡ Some us → Split i us
  split i us lt h =
      let x = bind_some (f (after p i)) _ us (sym (each_next p i n lt f) ∙ h) in
      let y = bind_some (each f (after p (i + 1)) (n - (i + 1))) _ us x.2 in
      record { first = x.0; there = x.1; rest = y.0; follows = y.1; is = some_is _ _ y.2 }

  module _ (six : expected_size ty ≡ 6) where
    front : (i : ℕ) (us : Trees) (x : Split i us) → children_in_kind k us ty ≡ (in_kind k x.first ty && children_in_kind k x.rest ty)
    unfolding in_kind
    front i us x = ap (λ ts. children_in_kind k ts ty) (sym x.is) ∙ ap (λ b. b && children_in_kind k x.rest ty) (pointed k ty x.first six)

    pub row_goes_on : (i : ℕ) → i < n → ((t : Tree) → f (after p i) ≡ Some t → in_kind k t ty ≡ true) → RowLeft k ty f p n i → RowLeft k ty f p n (i + 1)
    row_goes_on i lt good left ts h =
        let l = left ts h in
        let x = split i l.0 lt l.1 in
        (x.rest, x.follows, l.2 ∙ front i l.0 x ∙ ap (λ b. b && children_in_kind k x.rest ty) (good x.first x.there))

    pub row_stops : (i : ℕ) → i < n → ((t : Tree) → f (after p i) ≡ Some t → in_kind k t ty ≡ false) → RowLeft k ty f p n i → (ts : Trees) → each f p n ≡ Some ts → children_in_kind k ts ty ≡ false
    row_stops i lt bad left ts h =
        let l = left ts h in
        let x = split i l.0 lt l.1 in
        l.2 ∙ front i l.0 x ∙ ap (λ b. b && children_in_kind k x.rest ty) (bad x.first x.there)

  pub row_ends : (i : ℕ) → n ≤ i → RowLeft k ty f p n i → (ts : Trees) → each f p n ≡ Some ts → children_in_kind k ts ty ≡ true
  unfolding in_kind
  row_ends i past left ts h =
      let l = left ts h in
      let empty : none ≡ l.0 = some_is _ _ (sym (row_end n i (each f (after p i)) past) ∙ l.1) in
      l.2 ∙ ap (λ us. children_in_kind k us ty) (sym empty)

-- ---- words in words

-- some of the words that are there
words_part : (s : Segments) (p : Place) (n a m : ℕ) → a + m ≤ n → is_some (words_at s p n) ≡ true → words_at s (after p a) m ≡ Some (take m (drop a (words_there s p n)))
unfolding words_there
words_part s p n a m le there =
    let w = words_from (slice_get s p.segment) p.position n there in
    let all : List ℕ = w.0 in
    let bound = w.2 in
    let whole = words_are s p n all w.1 bound in
    let part : words_at s (after p a) m ≡ Some (take m (drop (p.position + a) all)) = words_are s (after p a) m all w.1 (omega (arith, bound, le)) in
    let sum : a + (n - a) ≡ n = omega (arith, le) in
    let cut : take m (drop a (take n (drop p.position all))) ≡ take m (drop (p.position + a) all) =
    ap (λ j. take m (drop a (take j (drop p.position all)))) (sym sum) ∙ ap (take m) (drop-take a (n - a) (drop p.position all)) ∙ take-take m (n - a) (drop a (drop p.position all)) (omega (arith, le)) ∙ ap (take m) (drop-drop a p.position all) in
    let held : take m (drop a (words_there s p n)) ≡ take m (drop a (take n (drop p.position all))) = ap (λ (o : Option (List ℕ)). take m (drop a (unwrap_or o []))) whole in
    part ∙ ap (λ (ws : List ℕ). Some ws) (sym (held ∙ cut))

pub section_part : (s : Segments) (p : Place) (n a d : ℕ) → a + d ≤ n → is_some (words_at s p n) ≡ true → section_of (take d (drop a (words_there s p n))) ≡ section_at s (after p a) d
unfolding section_at
section_part s p n a d le there = sym (ap section_in (words_part s p n a d le there))

pub part_there : (s : Segments) (p : Place) (n a m : ℕ) → a + m ≤ n → AreThere s p n → AreThere s (after p a) m
part_there s p n a m le there =
    let near = there.1 in
    (ap is_some (words_part s p n a m le there.0), omega (arith, near, le))

-- ---- structs

-- an element has its room
pub room : (i n d c words : ℕ) → i < n → n * (d + c) ≤ words → i * (d + c) + (d + c) ≤ words
room i n d c words lt le =
    let one : i + 1 ≤ n = omega (arith, lt) in
    let more = mul-le-mul_right (d + c) one in
    omega (arith, more, le)

-- a struct's shape is that of its id
pub same_shape : (k : Schema) (nodes : List Node) (s : StructSchema) (section : ℕ) → k ≡ schema_of nodes → nodes_around s ≡ nodes → (ts : Trees) → shape_in_kind (k.shape_of (id_of s)) section (child_in_kind k ts) ≡ shape_in_kind (shape_of_struct s) section (child_in_kind k ts)
same_shape k nodes s section e nodes_are ts = ap (λ (z : Schema). shape_in_kind (z.shape_of (id_of s)) section (child_in_kind k ts)) (e ∙ ap schema_of (sym nodes_are))

-- What is left of the elements from an index on decides.
abbrev pub ElementsLeft : Schema → ℕ → (Place → Option Tree) → Place → List ℕ → ℕ → ℕ → ℕ → ℕ → Type 0
ElementsLeft k id f p ws d c n i =
    (es : Elements) → each_element f p ws d c n ≡ Some es → (us : Elements) × (each_element f (after p (i * (d + c))) (drop (i * (d + c)) ws) d c (n - i) ≡ Some us) × (elements_in_kind k es (struct id) ≡ elements_in_kind k us (struct id))

module _ (k : Schema) (id : ℕ) (f : Place → Option Tree) (p : Place) (ws : List ℕ) (d c n : ℕ) where
  pub elements_begin : ElementsLeft k id f p ws d c n 0
  elements_begin es h =
      let z : 0 * (d + c) ≡ 0 = omega arith in
      (es, ap (λ (m : ℕ). each_element f (after p (0 * (d + c))) (drop m ws) d c (n - 0)) z ∙ elements_start p d c n (λ q m. each_element f q ws d c m) ∙ h, refl)

  -- the elements at an index are one and the rest
  pub record Parted (i : ℕ) (us : Elements) : Type 0 where
    pub kids : Trees
    pub there : each f (after (after p (i * (d + c))) d) c ≡ Some kids
    pub rest : Elements
    pub follows : each_element f (after p ((i + 1) * (d + c))) (drop ((i + 1) * (d + c)) ws) d c (n - (i + 1)) ≡ Some rest
    pub is : element (section_of (take d (drop (i * (d + c)) ws))) kids rest ≡ us

  parted : (i : ℕ) (us : Elements) → i < n → each_element f (after p (i * (d + c))) (drop (i * (d + c)) ws) d c (n - i) ≡ Some us → Parted i us
  parted i us lt h =
      let x = bind_some (each f (after (after p (i * (d + c))) d) c) _ us (sym (element_next p d c i n lt f ws) ∙ h) in
      let y = bind_some (each_element f (after p ((i + 1) * (d + c))) (drop ((i + 1) * (d + c)) ws) d c (n - (i + 1))) _ us x.2 in
      record { kids = x.0; there = x.1; rest = y.0; follows = y.1; is = some_is _ _ y.2 }

  head : (i section : ℕ) (us : Elements) → section_of (take d (drop (i * (d + c)) ws)) ≡ section → (x : Parted i us) → elements_in_kind k us (struct id) ≡ (shape_in_kind (k.shape_of id) section (child_in_kind k x.kids) && elements_in_kind k x.rest (struct id))
  unfolding in_kind
  head i section us e x =
      ap (λ es. elements_in_kind k es (struct id)) (sym x.is) ∙ ap (λ z. shape_in_kind (k.shape_of id) z (child_in_kind k x.kids) && elements_in_kind k x.rest (struct id)) e

  pub elements_go_on : (i section : ℕ) → i < n → section_of (take d (drop (i * (d + c)) ws)) ≡ section
      → ((ts : Trees) → each f (after (after p (i * (d + c))) d) c ≡ Some ts → shape_in_kind (k.shape_of id) section (child_in_kind k ts) ≡ true) → ElementsLeft k id f p ws d c n i → ElementsLeft k id f p ws d c n (i + 1)
  elements_go_on i section lt e good left es h =
      let l = left es h in
      let x = parted i l.0 lt l.1 in
      (x.rest, x.follows, l.2 ∙ head i section l.0 e x ∙ ap (λ b. b && elements_in_kind k x.rest (struct id)) (good x.kids x.there))

  pub elements_stop : (i section : ℕ) → i < n → section_of (take d (drop (i * (d + c)) ws)) ≡ section
      → ((ts : Trees) → each f (after (after p (i * (d + c))) d) c ≡ Some ts → shape_in_kind (k.shape_of id) section (child_in_kind k ts) ≡ false) → ElementsLeft k id f p ws d c n i
      → (es : Elements) → each_element f p ws d c n ≡ Some es → elements_in_kind k es (struct id) ≡ false
  elements_stop i section lt e bad left es h =
      let l = left es h in
      let x = parted i l.0 lt l.1 in
      l.2 ∙ head i section l.0 e x ∙ ap (λ b. b && elements_in_kind k x.rest (struct id)) (bad x.kids x.there)

  pub elements_end : (i : ℕ) → n ≤ i → ElementsLeft k id f p ws d c n i → (es : Elements) → each_element f p ws d c n ≡ Some es → elements_in_kind k es (struct id) ≡ true
  unfolding in_kind
  elements_end i past left es h =
      let l = left es h in
      let none : n - i ≡ 0 = omega (arith, past) in
      let empty : no_elements ≡ l.0 = some_is _ _ (sym (ap (each_element f (after p (i * (d + c))) (drop (i * (d + c)) ws) d c) none) ∙ l.1) in
      l.2 ∙ ap (λ us. elements_in_kind k us (struct id)) (sym empty)
