-- The sizes of objects and of what their pointers lead to.
use Rattle.std.proofs.Common.{◌≡◌, ℕ, suc, ◌+◌, ◌*◌, ◌%◌, ◌^◌, ◌<◌, nat_lt, true, List, [], ◌∷◌, Option, Some, Result, Ok, Err, refl, ap, sym, ◌∙◌, subst, inl, inr, arith}
use Rattle.std.specs.Option.{ok_or}
use Rattle.std.proofs.lemmas.Bool.Decides.{nat_tests}
use Rattle.capnp_model.specs.Kinds.{OutOfBounds}
use Rattle.capnp_model.specs.Sections.{words_for}
use Rattle.capnp_model.specs.Segments.{Segments, Place, after, words_at}
use Rattle.capnp_model.specs.Pointers as model
use Rattle.capnp_model.specs.Trees.{Tree, null, capability, structure, plain_list, pointer_list, struct_list, size_bits}
use Rattle.capnp_model.specs.Traversal.{tag_in, list_kind, list_words, ListKind, of_bits, of_pointers, of_structs, tree_at, each, each_element}
use Rattle.capnp_model.specs.Coverage.{from_each, from_elements}
use Rattle.capnp_model.specs.Visits.{Visit, visits}
use Rattle.capnp_model.specs.Sizes.{object_words, each_object_words, element_object_words, capability_count, each_capability_count, element_capability_count}
use Rattle.capnp_model.proofs.lemmas.Chaining.{bind_ok, ok_is}
use Rattle.capnp_units.specs.declared.errors.Error.{Error}
use Rattle.capnp_units.specs.declared.limiter.ReadLimiter.{ReadLimiter}
use Rattle.capnp_units.specs.declared.sizes.ElementSize.{ElementSize}
use Rattle.capnp_units.specs.declared.sizes.MessageSize.{MessageSize}
use Rattle.capnp_units.specs.Errors.{kind_of}
use Rattle.capnp_units.specs.Limits.{left_of, IsPassed, Spends, Follows}
use Rattle.capnp_units.specs.Sizes.{size_number, data_bits}
use Rattle.capnp_units.proofs.lemmas.Spending.{spends_nothing}
use Rattle.capnp_model.proofs.lemmas.Counts.{each_count}
use Rattle.capnp_wire_objects.specs.declared.place.Place as wire
use Rattle.capnp_wire_objects.specs.declared.object.Object.{Object}
use Rattle.capnp_wire_objects.specs.declared.object.Object.TheVariants as object
use Rattle.capnp_wire_objects.specs.Places.{place_view}
use Rattle.capnp_wire_objects.specs.Objects.{whole_list, whole}
use Rattle.capnp_wire_objects.specs.Follow.{own_cost, follow_cost, suffice_for, Pays, IsFollowRefusal, object_within, FollowsWithin, levels_suffice}
use Rattle.capnp_wire_objects.specs.Inside.{section_at}
use Rattle.capnp_wire_objects.specs.Inside.{words_there, tree_in, met_in}
use Rattle.capnp_wire_objects.specs.Walks.{Walked, leaf_capabilities, Stopped, SizeGives, SizeCounts}
use Rattle.capnp_wire_objects.proofs.lemmas.Walking.{object_found, within_found, within_unfound, first_visit, link_tree, link_visits, leaf_visited}
use Rattle.capnp_wire_objects.proofs.lemmas.Paying.{spends_later}
use Rattle.capnp_wire_objects.proofs.lemmas.Rows.{nothing_met, plain_elements_read}
use Rattle.capnp_wire_objects.proofs.lemmas.Walks.{walked_none, walked_one, paid_then, made_of, stopped_first}

-- A size without words and with so many capabilities.
abbrev pub wordless : ℕ → MessageSize
wordless n = record { word_count = 0; cap_count = n }

-- The size of an object whose pointers are followed by these functions.
abbrev pub ObjectGives : Segments → (Place → Option Tree) → (Place → List Visit) → Object → ReadLimiter → Result MessageSize Error → ReadLimiter → Type 0
ObjectGives s f v o old r new = SizeGives object_words capability_count (tree_in s f o) (met_in v o) old r new

pub data_bits_plain : (n : ℕ) → n < 6 → size_bits n ≡ data_bits n
data_bits_plain n h = let t : nat_lt n 6 ≡ true = grind (arith, nat_tests) in rw t refl

module _ (s : Segments) (f : Place → Option Tree) (v : Place → List Visit) (o : Object) (old new : ReadLimiter) where
  pub null_in : o ≡ object.Null → ObjectGives s f v o old (Ok (wordless 0)) old
  unfolding object_words capability_count
  null_in e = subst (λ (x : Object). ObjectGives s f v x old (Ok (wordless 0)) old) (sym e) (null, refl, record { words_is = refl; capabilities_is = refl }, walked_none old)

  pub capability_in : (i : ℕ) → o ≡ object.Capability i → ObjectGives s f v o old (Ok (wordless 1)) old
  unfolding object_words capability_count
  capability_in i e = subst (λ (x : Object). ObjectGives s f v x old (Ok (wordless 1)) old) (sym e) (capability i, refl, record { words_is = refl; capabilities_is = refl }, walked_none old)

  pub list_in : (p : wire.Place) (size : ElementSize) (n k : ℕ) (counted : MessageSize) → o ≡ object.List p size n → size_number size < 6 → k ≡ words_for (data_bits (size_number size) * n) → ((w c : ℕ) → SizeCounts w c (wordless 0) → SizeCounts (w + k) c counted)
      → ObjectGives s f v o old (Ok counted) old
  unfolding object_words capability_count
  list_in p size n k counted e plain is count =
      let bits = data_bits (size_number size) * n in
      let same : size_bits (size_number size) * n ≡ bits = ap (λ (b : ℕ). b * n) (data_bits_plain (size_number size) plain) in
      let words : 0 + k ≡ words_for (size_bits (size_number size) * n) = let zero_is : 0 + k ≡ k = omega arith in zero_is ∙ is ∙ sym (ap words_for same) in
      let c = count 0 0 (record { words_is = refl; capabilities_is = refl }) in
      let all = plain_list (size_number size) n (section_at s (place_view p) (words_for bits) % 2 ^ bits) in
      subst (λ (x : Object). ObjectGives s f v x old (Ok counted) old) (sym e)
      (all, refl, subst (λ (w : ℕ). SizeCounts w 0 counted) words c, walked_none old)

  pub struct_in : (p : wire.Place) (d k : ℕ) (size counted : MessageSize) → o ≡ object.Struct p d k → ((w c : ℕ) → SizeCounts w c size → SizeCounts (w + (d + k)) c counted)
      → SizeGives each_object_words each_capability_count (each f (after (place_view p) d) k) (from_each v (after (place_view p) d) k) old (Ok size) new → ObjectGives s f v o old (Ok counted) new
  unfolding object_words capability_count
  struct_in p d k size counted e count r =
      subst (λ (x : Object). ObjectGives s f v x old (Ok counted) new) (sym e)
      (made_of each_object_words each_capability_count object_words capability_count (each f (after (place_view p) d) k) (λ ts. structure d (section_at s (place_view p) d) ts) (from_each v (after (place_view p) d) k) (d + k) old new size counted
      (λ ts is. let n = each_count f (after (place_view p) d) k ts is in omega arith) (λ ts. refl) count r)

  pub pointers_in : (p : wire.Place) (n : ℕ) (size counted : MessageSize) → o ≡ object.PointerList p n → ((w c : ℕ) → SizeCounts w c size → SizeCounts (w + n) c counted)
      → SizeGives each_object_words each_capability_count (each f (place_view p) n) (from_each v (place_view p) n) old (Ok size) new → ObjectGives s f v o old (Ok counted) new
  unfolding object_words capability_count
  pointers_in p n size counted e count r =
      subst (λ (x : Object). ObjectGives s f v x old (Ok counted) new) (sym e)
      (made_of each_object_words each_capability_count object_words capability_count (each f (place_view p) n) (λ ts. pointer_list ts) (from_each v (place_view p) n) n old new size counted
      (λ ts is. let c = each_count f (place_view p) n ts is in omega arith) (λ ts. refl) count r)

  pub structs_in : (p : wire.Place) (words n d k : ℕ) (size counted : MessageSize) → o ≡ object.StructList p words n d k → ((w c : ℕ) → SizeCounts w c size → SizeCounts (w + 1) c counted)
      → SizeGives (element_object_words d) element_capability_count (each_element f (place_view p) (words_there s (place_view p) words) d k n) (from_elements v (place_view p) d k n) old (Ok size) new → ObjectGives s f v o old (Ok counted) new
  unfolding object_words capability_count
  structs_in p words n d k size counted e count r =
      subst (λ (x : Object). ObjectGives s f v x old (Ok counted) new) (sym e)
      (made_of (element_object_words d) element_capability_count object_words capability_count (each_element f (place_view p) (words_there s (place_view p) words) d k n) (λ es. struct_list d k es) (from_elements v (place_view p) d k n) 1 old new size counted
      (λ es is. omega arith) (λ es. refl) count r)

  pub structs_refused : (p : wire.Place) (words n d k : ℕ) (r : Result MessageSize Error) (x e : Error) → o ≡ object.StructList p words n d k → r ≡ Err x → x ≡ e → Stopped (from_elements v (place_view p) d k n) old e new → ObjectGives s f v o old r new
  structs_refused p words n d k r x e is a b w =
      subst (λ (y : Result MessageSize Error). ObjectGives s f v o old y new) (sym (a ∙ ap (λ (y : Error). Err y) b)) (subst (λ (y : Object). ObjectGives s f v y old (Err e) new) (sym is) w)

-- ---- at a place

-- The size of the value at a place.
abbrev pub ValueGives : ℕ → Segments → Place → ReadLimiter → Result MessageSize Error → ReadLimiter → Type 0
ValueGives n s p old r new = SizeGives object_words capability_count (tree_at n s p) (visits n s p) old r new

leaf_tree : (s : Segments) (p : Place) (g : model.Found) (m : model.Object) (o : Object) → model.found_at s p ≡ Ok g → g.object ≡ m → whole s m ≡ Ok o → levels_suffice 0 o ≡ true
    → (t : Tree) × (tree_at 0 s p ≡ Some t) × (object_words t ≡ 0) × (capability_count t ≡ leaf_capabilities o) × (suffice_for 0 m ≡ true)
unfolding tree_at object_words capability_count
leaf_tree s p g model.nothing o e f w h = let is = ok_is _ _ w in (null, rw (e, f) refl, refl, ap leaf_capabilities is, refl)
leaf_tree s p g (model.a_capability i) o e f w h = let is = ok_is _ _ w in (capability i, rw (e, f) refl, refl, ap leaf_capabilities is, refl)
leaf_tree s p g (model.a_struct q d k) o e f w h =
    let a = bind_ok (ok_or (words_at s q (d + k)) OutOfBounds) _ o w in
    absurd (no_leaf (object.Struct (record { segment = q.segment; position = q.position }) d k) o (ok_is _ _ a.2) h refl)
  where
    no_leaf : (x y : Object) → x ≡ y → levels_suffice 0 y ≡ true → levels_suffice 0 x ≡ nat_lt 0 0 → ⊥
    no_leaf x y i j l = let t : nat_lt 0 0 ≡ true = sym l ∙ ap (levels_suffice 0) i ∙ j in grind (arith, nat_tests)
leaf_tree s p g (model.a_list q size n) o e f w h =
    let a = bind_ok (ok_or (words_at s q (list_words (list_kind size) size n)) OutOfBounds) _ o w in
    absurd (by (list_kind size) a.0 a.2)
  where
    no_leaf : (x : Object) → x ≡ o → levels_suffice 0 x ≡ nat_lt 0 0 → ⊥
    no_leaf x i l = let t : nat_lt 0 0 ≡ true = sym l ∙ ap (levels_suffice 0) i ∙ h in grind (arith, nat_tests)

    by : (kind : ListKind) (ws : List ℕ) → whole_list q kind size n ws ≡ Ok o → ⊥
    by of_bits ws j = no_leaf _ (ok_is _ _ j) refl
    by of_pointers ws j = no_leaf _ (ok_is _ _ j) refl
    by of_structs ws j = let b = bind_ok (tag_in ws) _ o j in no_leaf _ (ok_is _ _ b.2) refl

pub leaf_at : (n : ℕ) (s : Segments) (p : Place) (o : Object) (old new : ReadLimiter) (size : MessageSize) → n ≡ 0 → Pays s p old o new → levels_suffice n o ≡ true → SizeCounts 0 (leaf_capabilities o) size → ValueGives n s p old (Ok size) new
leaf_at n s p o old new size z pay within count =
    let found = object_found s p (record { pads = pay.pads; object = o }) pay.is in
    let none : levels_suffice 0 o ≡ true = subst (λ (k : ℕ). levels_suffice k o ≡ true) z within in
    let t = leaf_tree s p found.0 found.0.object o found.1 refl found.2 none in
    let here : visits 0 s p ≡ Ok (pay.pads + own_cost o) ∷ [] = leaf_visited s p found.0 found.1 o found.2 t.4 ∙ ap (λ (k : ℕ). Ok (k + own_cost o) ∷ []) found.3 in
    let first : Walked (visits 0 s p) old new = subst (λ (vs : List Visit). Walked vs old new) (sym here) (walked_one (pay.pads + own_cost o) old new pay.spends pay.follows) in
    let tw = t.2 in
    let tc = t.3 in
    let counts : SizeCounts (object_words t.0) (capability_count t.0) size = record { words_is = let a = count.words_is in omega arith; capabilities_is = let a = count.capabilities_is in omega arith } in
    subst (λ (k : ℕ). ValueGives k s p old (Ok size) new) (sym z) (t.0, t.1, counts, first)

pub deep_at : (n m : ℕ) (s : Segments) (p : Place) (o : Object) (old mid new : ReadLimiter) (r : Result MessageSize Error) → n ≡ suc m → Pays s p old o mid → ObjectGives s (tree_at m s) (visits m s) o mid r new → ValueGives n s p old r new
deep_at n m s p o old mid new r e pay h =
    let found = object_found s p (record { pads = pay.pads; object = o }) pay.is in
    let tree = link_tree s p found.0 found.1 o found.2 m in
    let cost : ℕ = pay.pads + own_cost o in
    let path : visits (suc m) s p ≡ Ok cost ∷ met_in (visits m s) o = link_visits s p found.0 found.1 o found.2 m ∙ ap (λ (k : ℕ). Ok (k + own_cost o) ∷ met_in (visits m s) o) found.3 in
    let here : SizeGives object_words capability_count (tree_in s (tree_at m s) o) (Ok cost ∷ met_in (visits m s) o) old r new =
    paid_then object_words capability_count (tree_in s (tree_at m s) o) (Ok cost ∷ []) (met_in (visits m s) o) old mid new r (walked_one cost old mid pay.spends pay.follows) h in
    let one : SizeGives object_words capability_count (tree_at (suc m) s p) (Ok cost ∷ met_in (visits m s) o) old r new =
    subst (λ (t : Option Tree). SizeGives object_words capability_count t (Ok cost ∷ met_in (visits m s) o) old r new) (sym tree) here in
    let two : ValueGives (suc m) s p old r new = subst (λ (vs : List Visit). SizeGives object_words capability_count (tree_at (suc m) s p) vs old r new) (sym path) one in
    subst (λ (k : ℕ). ValueGives k s p old r new) (sym e) two

stops_at : (n : ℕ) (s : Segments) (p : Place) (old new : ReadLimiter) (e : Error) → Spends old new 0 → Follows old new 1 → IsFollowRefusal (object_within n s p) old e → Stopped (visits n s p) old e new
stops_at n s p old new e paid follow h = elim h [
  | inl fault ↦ stopped_first (visits n s p) [] (Err (kind_of e.kind)) old new e (within_unfound s p n (kind_of e.kind) fault) paid follow refl
  | inr dear ↦
      let f = dear.1 in
      let g = within_found s p n f dear.2 in
      let first = first_visit s p g.0 g.1 f.object g.3 n g.2 in
      let cost : visits n s p ≡ Ok (follow_cost f) ∷ first.0 = first.1 ∙ ap (λ (k : ℕ). Ok (k + own_cost f.object) ∷ first.0) g.4 in
      let all : follow_cost f ≡ 0 + follow_cost f = omega arith in
      stopped_first (visits n s p) first.0 (Ok (follow_cost f)) old new e cost paid follow (dear.0, subst (λ (k : ℕ). IsPassed (left_of old) k) all dear.3)
]

pub unfollowed_at : (n : ℕ) (s : Segments) (p : Place) (old new : ReadLimiter) (r : Result MessageSize Error) (d e : Error) → r ≡ Err d → d ≡ e → FollowsWithin n s p old (Err e) new → ValueGives n s p old r new
unfollowed_at n s p old new r d e is same h =
    subst (λ (x : Result MessageSize Error). ValueGives n s p old x new) (sym (is ∙ ap (λ (x : Error). Err x) same)) (stops_at n s p old new e (spends_later old new new 0 h.0 (spends_nothing new)) h.1 h.2)

-- elements without pointers aren't walked
pub plain_in : (f : Place → Option Tree) (v : Place → List Visit) (p : Place) (ws : List ℕ) (d k n words : ℕ) (l : ReadLimiter) (counted : MessageSize) → k ≡ 0 → words ≡ n * d → ((w c : ℕ) → SizeCounts w c (wordless 0) → SizeCounts (w + words) c counted)
    → SizeGives (element_object_words d) element_capability_count (each_element f p ws d k n) (from_elements v p d k n) l (Ok counted) l
plain_in f v p ws d k n words l counted none is count =
    let es = plain_elements_read f p ws d n in
    let sum = es.2 in
    let c = count 0 0 (record { words_is = refl; capabilities_is = refl }) in
    let all : 0 + words ≡ element_object_words d es.0 = omega arith in
    let counts : SizeCounts (element_object_words d es.0) (element_capability_count es.0) counted = subst (λ (m : ℕ). SizeCounts (element_object_words d es.0) m counted) (sym es.3) (subst (λ (w : ℕ). SizeCounts w 0 counted) all c) in
    let walked : Walked (from_elements v p d 0 n) l l = subst (λ (vs : List Visit). Walked vs l l) (sym (nothing_met v p d n)) (walked_none l) in
    subst (λ (m : ℕ). SizeGives (element_object_words d) element_capability_count (each_element f p ws d m n) (from_elements v p d m n) l (Ok counted) l) (sym none) (es.0, es.1, counts, walked)

-- ---- sums

pub nothing_more : (w v c : ℕ) (size : MessageSize) → SizeCounts (w + v) c size → SizeCounts (w + (v + 0)) c size
nothing_more w v c size k = record { words_is = let x = k.words_is in omega arith; capabilities_is = k.capabilities_is }

pub width_more : (w v m n c : ℕ) (size : MessageSize) → m ≡ n → SizeCounts (w + (v + m)) c size → SizeCounts (w + (v + n)) c size
width_more w v m n c size e k = record { words_is = let x = k.words_is in omega arith; capabilities_is = k.capabilities_is }

pub nothing_counted : SizeCounts 0 0 (wordless 0)
nothing_counted = record { words_is = refl; capabilities_is = refl }

pub refused_is : {X : Type 0} (words caps : X → ℕ) (there : Option X) (path : List Visit) (old new : ReadLimiter) (r : Result MessageSize Error) (x e : Error) → r ≡ Err x → x ≡ e → Stopped path old e new → SizeGives words caps there path old r new
refused_is words caps there path old new r x e a b w = subst (λ (y : Result MessageSize Error). SizeGives words caps there path old y new) (sym (a ∙ ap (λ (y : Error). Err y) b)) w
