-- What is met one level deep, and behind the pointers there.
use Rattle.std.proofs.Common.{◌≡◌, ℕ, zero, suc, ◌+◌, ◌*◌, ◌%◌, ◌^◌, ◌<◌, true, eqb, List, [], ◌∷◌, take, drop, Option, Some, Ok, refl, ap, sym, ◌∙◌, arith, if◌then◌else◌}
use Rattle.std.specs.Prelude.{unwrap_or}
use Rattle.std.specs.List.{slice_get}
use Rattle.std.specs.Option.{ok_or, is_some}
use Rattle.std.specs.Result.{result_ok}
use Rattle.std.proofs.lemmas.List.{take-take, drop-take, drop-drop}
use Rattle.capnp_model.specs.Kinds.{OutOfBounds}
use Rattle.capnp_model.specs.Chains.{◌>>=◌}
use Rattle.capnp_model.specs.Sections.{words_for, section_of}
use Rattle.capnp_model.specs.Segments.{Segments, Place, after, words_at}
use Rattle.capnp_model.specs.Pointers as model
use Rattle.capnp_model.specs.Trees.{Tree, structure, plain_list, struct_list, size_bits}
use Rattle.capnp_model.specs.Traversal.{Tag, tag_in, each, each_element, ListKind, of_bits, of_pointers, of_structs, list_kind, list_words, list_tree, tree_of, tag_cost, list_cost, object_cost}
use Rattle.capnp_model.specs.Visits.{Visit, visits_of, list_visits, object_visits}
use Rattle.capnp_model.proofs.lemmas.Chaining.{bind_ok, ok_is, ok_or_some, some_is}
use Rattle.capnp_units.specs.Sizes.{size_number, data_bits}
use Rattle.capnp_wire_objects.specs.declared.object.Object.{Object}
use Rattle.capnp_wire_objects.specs.declared.object.Object.TheVariants as object
use Rattle.capnp_wire_objects.specs.Places.{placed}
use Rattle.capnp_wire_objects.specs.Objects.{plain_size, whole_list, whole}
use Rattle.capnp_wire_objects.specs.Follow.{own_cost}
use Rattle.capnp_wire_objects.specs.Inside.{section_in, section_at}
use Rattle.capnp_wire_objects.specs.Inside.{words_there, tree_in, cost_in, met_in}
use Rattle.capnp_wire_objects.proofs.lemmas.Tags.{words_from, words_are}

-- ---- words

some_there : {A : Type 0} (o : Option A) (x : A) → o ≡ Some x → is_some o ≡ true
some_there o x e = rw e refl

section_is : (s : Segments) (p : Place) (n : ℕ) (ws : List ℕ) → words_at s p n ≡ Some ws → section_at s p n ≡ section_of ws
unfolding section_at
section_is s p n ws e = ap section_in e

-- the first of some words
pub section_front : (s : Segments) (p : Place) (d k : ℕ) (ws : List ℕ) → words_at s p (d + k) ≡ Some ws → section_at s p d ≡ section_of (take d ws)
section_front s p d k ws e =
    let a = words_from (slice_get s p.segment) p.position (d + k) (some_there (words_at s p (d + k)) ws e) in
    let all : List ℕ = a.0 in
    let bound = a.2 in
    let is : ws ≡ take (d + k) (drop p.position all) = some_is _ _ (sym e ∙ words_are s p (d + k) all a.1 bound) in
    section_is s p d (take d (drop p.position all)) (words_are s p d all a.1 (omega arith)) ∙ ap section_of (sym (ap (take d) is ∙ take-take d (d + k) (drop p.position all) (omega arith)))

-- the words behind the first
pub words_behind : (s : Segments) (p : Place) (n : ℕ) (ws : List ℕ) → words_at s p (1 + n) ≡ Some ws → words_at s (after p 1) n ≡ Some (drop 1 ws)
words_behind s p n ws e =
    let a = words_from (slice_get s p.segment) p.position (1 + n) (some_there (words_at s p (1 + n)) ws e) in
    let all : List ℕ = a.0 in
    let bound = a.2 in
    let is : ws ≡ take (1 + n) (drop p.position all) = some_is _ _ (sym e ∙ words_are s p (1 + n) all a.1 bound) in
    let rest : drop 1 ws ≡ take n (drop (p.position + 1) all) = ap (drop 1) is ∙ drop-take 1 n (drop p.position all) ∙ ap (take n) (drop-drop 1 p.position all) in
    words_are s (after p 1) n all a.1 (omega arith) ∙ ap (λ (xs : List ℕ). Some xs) (sym rest)

there_behind : (s : Segments) (p : Place) (n : ℕ) (ws : List ℕ) → words_at s p (1 + n) ≡ Some ws → words_there s (after p 1) n ≡ drop 1 ws
unfolding words_there
there_behind s p n ws e = ap (λ (o : Option (List ℕ)). unwrap_or o []) (words_behind s p n ws e)

-- ---- sizes of plain elements

pub plain_number : (size : ℕ) → size < 6 → size_number (plain_size size) ≡ size
plain_number zero h = refl
plain_number (suc zero) h = refl
plain_number (suc (suc zero)) h = refl
plain_number (suc (suc (suc zero))) h = refl
plain_number (suc (suc (suc (suc zero)))) h = refl
plain_number (suc (suc (suc (suc (suc zero))))) h = refl
plain_number (suc (suc (suc (suc (suc (suc n)))))) h = absurd (omega arith)

pub plain_bits : (size : ℕ) → size < 6 → data_bits (size_number (plain_size size)) ≡ size_bits size
plain_bits zero h = refl
plain_bits (suc zero) h = refl
plain_bits (suc (suc zero)) h = refl
plain_bits (suc (suc (suc zero))) h = refl
plain_bits (suc (suc (suc (suc zero)))) h = refl
plain_bits (suc (suc (suc (suc (suc zero))))) h = refl
plain_bits (suc (suc (suc (suc (suc (suc n)))))) h = absurd (omega arith)

-- ---- one level

-- What a pointer says of plain elements is a size of plain elements.
abbrev pub IsPlain : ListKind → ℕ → Type 0
IsPlain of_bits size = size < 6
IsPlain of_pointers size = Unit {0}
IsPlain of_structs size = Unit {0}

abbrev pub IsSized : model.Object → Type 0
IsSized (model.a_list p size n) = IsPlain (list_kind size) size
IsSized _ = Unit {0}

module _ (s : Segments) (p : Place) (size n : ℕ) (ws : List ℕ) (o : Object) where
  list_trees : (f : Place → Option Tree) (kind : ListKind) → IsPlain kind size → words_at s p (list_words kind size n) ≡ Some ws → whole_list p kind size n ws ≡ Ok o → list_tree f p kind size n ws ≡ tree_in s f o
  list_trees f of_bits plain there e =
      let is = ok_is _ _ e in
      let bits : data_bits (size_number (plain_size size)) * n ≡ size_bits size * n = ap (λ (b : ℕ). b * n) (plain_bits size plain) in
      let section : section_at s p (words_for (size_bits size * n)) ≡ section_of ws = section_is s p (words_for (size_bits size * n)) ws there in
      ap (λ (z : ℕ). Some (plain_list z n (section_of ws % 2 ^ (size_bits size * n)))) (sym (plain_number size plain))
      ∙ ap (λ (z : ℕ). Some (plain_list (size_number (plain_size size)) n (z % 2 ^ (size_bits size * n)))) (sym section)
      ∙ ap (λ (b : ℕ). Some (plain_list (size_number (plain_size size)) n (section_at s p (words_for b) % 2 ^ b))) (sym bits) ∙ ap (tree_in s f) is
  list_trees f of_pointers plain there e = ap (tree_in s f) (ok_is _ _ e)
  list_trees f of_structs plain there e =
      let a = bind_ok (tag_in ws) _ o e in
      let t = a.0 in
      let tag : tag_in ws ≡ Ok t = a.1 in
      rw tag (ap (λ (xs : List ℕ). each_element f (after p 1) xs t.data_words t.pointers t.count >>= λ es. Some (struct_list t.data_words t.pointers es)) (sym (there_behind s p n ws there)) ∙ ap (tree_in s f) (ok_is _ _ a.2))

  list_costs : (g : Place → ℕ) (kind : ListKind) → IsPlain kind size → words_at s p (list_words kind size n) ≡ Some ws → whole_list p kind size n ws ≡ Ok o → list_cost s g p kind size n ≡ own_cost o + cost_in g o
  list_costs g of_bits plain there e =
      let is = ok_is _ _ e in
      let bits : data_bits (size_number (plain_size size)) * n ≡ size_bits size * n = ap (λ (b : ℕ). b * n) (plain_bits size plain) in
      let number = plain_number size plain in
      let whole : own_cost (object.List (placed p) (plain_size size) n) ≡ (if eqb size 0 then n else words_for (size_bits size * n)) =
      ap (λ (z : ℕ). if eqb z 0 then n else words_for (data_bits (size_number (plain_size size)) * n)) number ∙ ap (λ (b : ℕ). if eqb size 0 then n else words_for b) bits in
      let sum : own_cost (object.List (placed p) (plain_size size) n) ≡ own_cost (object.List (placed p) (plain_size size) n) + 0 = omega arith in
      sym whole ∙ sum ∙ ap (λ (x : Object). own_cost x + cost_in g x) is
  list_costs g of_pointers plain there e = ap (λ (x : Object). own_cost x + cost_in g x) (ok_is _ _ e)
  list_costs g of_structs plain there e =
      let a = bind_ok (tag_in ws) _ o e in
      let t = a.0 in
      let tag : tag_in ws ≡ Ok t = a.1 in
      let found : (words_at s p (1 + n) >>= λ xs. result_ok (tag_in xs)) ≡ Some t = ap (λ (x : Option (List ℕ)). x >>= λ xs. result_ok (tag_in xs)) there ∙ ap result_ok tag in
      let all = object.StructList (placed (after p 1)) n t.count t.data_words t.pointers in
      let sum : n + 1 + tag_cost g p (Some t) ≡ own_cost all + cost_in g all = omega arith in
      ap (λ (x : Option Tag). n + 1 + tag_cost g p x) found ∙ sum ∙ ap (λ (x : Object). own_cost x + cost_in g x) (ok_is _ _ a.2)

  list_visits_in : (v : Place → List Visit) (pads : ℕ) (kind : ListKind) → IsPlain kind size → whole_list p kind size n ws ≡ Ok o → list_visits v pads p kind size n ws ≡ Ok (pads + own_cost o) ∷ met_in v o
  list_visits_in v pads of_bits plain e =
      let bits : data_bits (size_number (plain_size size)) * n ≡ size_bits size * n = ap (λ (b : ℕ). b * n) (plain_bits size plain) in
      let number = plain_number size plain in
      let whole : own_cost (object.List (placed p) (plain_size size) n) ≡ (if eqb size 0 then n else words_for (size_bits size * n)) =
      ap (λ (z : ℕ). if eqb z 0 then n else words_for (data_bits (size_number (plain_size size)) * n)) number ∙ ap (λ (b : ℕ). if eqb size 0 then n else words_for b) bits in
      ap (λ (c : ℕ). Ok (pads + c) ∷ []) (sym whole) ∙ ap (λ (x : Object). Ok (pads + own_cost x) ∷ met_in v x) (ok_is _ _ e)
  list_visits_in v pads of_pointers plain e = ap (λ (x : Object). Ok (pads + own_cost x) ∷ met_in v x) (ok_is _ _ e)
  list_visits_in v pads of_structs plain e =
      let a = bind_ok (tag_in ws) _ o e in
      let tag : tag_in ws ≡ Ok a.0 = a.1 in
      rw tag (ap (λ (x : Object). Ok (pads + own_cost x) ∷ met_in v x) (ok_is _ _ a.2))

pub tree_whole : (s : Segments) (f : Place → Option Tree) (m : model.Object) (o : Object) → IsSized m → whole s m ≡ Ok o → tree_of s f m ≡ tree_in s f o
tree_whole s f model.nothing o h e = ap (tree_in s f) (ok_is _ _ e)
tree_whole s f (model.a_capability i) o h e = ap (tree_in s f) (ok_is _ _ e)
tree_whole s f (model.a_struct p d k) o h e =
    let a = bind_ok (ok_or (words_at s p (d + k)) OutOfBounds) _ o e in
    let there : words_at s p (d + k) ≡ Some a.0 = ok_or_some _ _ _ a.1 in
    ap (λ (x : Option (List ℕ)). x >>= λ ws. each f (after p d) k >>= λ ts. Some (structure d (section_of (take d ws)) ts)) there
    ∙ ap (λ (z : ℕ). each f (after p d) k >>= λ ts. Some (structure d z ts)) (sym (section_front s p d k a.0 there)) ∙ ap (tree_in s f) (ok_is _ _ a.2)
tree_whole s f (model.a_list p size n) o h e =
    let a = bind_ok (ok_or (words_at s p (list_words (list_kind size) size n)) OutOfBounds) _ o e in
    let there : words_at s p (list_words (list_kind size) size n) ≡ Some a.0 = ok_or_some _ _ _ a.1 in
    ap (λ (x : Option (List ℕ)). x >>= λ ws. list_tree f p (list_kind size) size n ws) there ∙ list_trees s p size n a.0 o f (list_kind size) h there a.2

pub cost_whole : (s : Segments) (g : Place → ℕ) (m : model.Object) (o : Object) → IsSized m → whole s m ≡ Ok o → object_cost s g m ≡ own_cost o + cost_in g o
cost_whole s g model.nothing o h e = ap (λ (x : Object). own_cost x + cost_in g x) (ok_is _ _ e)
cost_whole s g (model.a_capability i) o h e = ap (λ (x : Object). own_cost x + cost_in g x) (ok_is _ _ e)
cost_whole s g (model.a_struct p d k) o h e =
    let a = bind_ok (ok_or (words_at s p (d + k)) OutOfBounds) _ o e in
    ap (λ (x : Object). own_cost x + cost_in g x) (ok_is _ _ a.2)
cost_whole s g (model.a_list p size n) o h e =
    let a = bind_ok (ok_or (words_at s p (list_words (list_kind size) size n)) OutOfBounds) _ o e in
    list_costs s p size n a.0 o g (list_kind size) h (ok_or_some _ _ _ a.1) a.2

pub visits_whole : (s : Segments) (v : Place → List Visit) (pads : ℕ) (m : model.Object) (o : Object) → IsSized m → whole s m ≡ Ok o → object_visits s v pads m ≡ Ok (pads + own_cost o) ∷ met_in v o
visits_whole s v pads model.nothing o h e = let none : pads ≡ pads + 0 = omega arith in ap (λ (c : ℕ). Ok c ∷ []) none ∙ ap (λ (x : Object). Ok (pads + own_cost x) ∷ met_in v x) (ok_is _ _ e)
visits_whole s v pads (model.a_capability i) o h e = let none : pads ≡ pads + 0 = omega arith in ap (λ (c : ℕ). Ok c ∷ []) none ∙ ap (λ (x : Object). Ok (pads + own_cost x) ∷ met_in v x) (ok_is _ _ e)
visits_whole s v pads (model.a_struct p d k) o h e =
    let a = bind_ok (ok_or (words_at s p (d + k)) OutOfBounds) _ o e in
    let there : ok_or (words_at s p (d + k)) OutOfBounds ≡ Ok a.0 = a.1 in
    ap (visits_of (λ ws. Ok (pads + (d + k)) ∷ met_in v (object.Struct (placed p) d k))) there ∙ ap (λ (x : Object). Ok (pads + own_cost x) ∷ met_in v x) (ok_is _ _ a.2)
visits_whole s v pads (model.a_list p size n) o h e =
    let a = bind_ok (ok_or (words_at s p (list_words (list_kind size) size n)) OutOfBounds) _ o e in
    let there : ok_or (words_at s p (list_words (list_kind size) size n)) OutOfBounds ≡ Ok a.0 = a.1 in
    ap (visits_of (λ ws. list_visits v pads p (list_kind size) size n ws)) there ∙ list_visits_in s p size n a.0 o v pads (list_kind size) h a.2
