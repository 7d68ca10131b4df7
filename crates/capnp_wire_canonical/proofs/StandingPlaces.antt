-- Where objects begin whose pointers are such as canonical words have.
use Rattle.std.proofs.Common.{◌≡◌, ℕ, zero, suc, ◌+◌, ◌-◌, ◌^◌, ◌<◌, ◌⊎◌, eqb, false, ◌∷◌, Some, Ok, refl, ap, sym, ◌∙◌, subst, inl, inr, arith}
use Rattle.std.specs.Option.{ok_or, is_some}
use Rattle.std.proofs.lemmas.Bool.{ne_eqb}
use Rattle.capnp_model.specs.Kinds.{OutOfBounds}
use Rattle.capnp_model.specs.Segments.{Segments, Place, place, after, word_at, words_at}
use Rattle.capnp_model.specs.Pointers as model
use Rattle.capnp_model.specs.Trees.{structure, Trees, none, tree_count, resized}
use Rattle.capnp_model.specs.Traversal.{Tag, tag_of, tag_in, of_bits, list_kind, list_words}
use Rattle.capnp_model.specs.Encoding.{struct_pointer, list_pointer, pointer}
use Rattle.capnp_model.proofs.lemmas.Chaining.{bind_ok, ok_is, ok_or_some, some_is, guard_ok}
use Rattle.capnp_model.proofs.lemmas.PointerWords.{struct_says, list_says, begins_behind, begins_here, list_kind_small}
use Rattle.capnp_model.proofs.lemmas.Stripping.{count-resized}
use Rattle.capnp_units.specs.declared.sizes.ElementSize.{ElementSize}
use Rattle.capnp_units.specs.Sizes.{size_number}
use Rattle.capnp_wire_objects.specs.declared.place.Place as wire
use Rattle.capnp_wire_objects.specs.declared.object.Object.{Object}
use Rattle.capnp_wire_objects.specs.declared.object.Object.TheVariants as object
use Rattle.capnp_wire_objects.specs.Places.{place_view, placed}
use Rattle.capnp_wire_objects.specs.Objects.{whole_list, whole}
use Rattle.capnp_wire_objects.proofs.lemmas.Walking.{object_found}
use Rattle.capnp_wire_objects.proofs.lemmas.Tags.{front_word}
use Rattle.capnp_wire_canonical.specs.Standing.{LeadsToObject}

-- ---- what the pointer leads to

struct_found : (s : Segments) (p : Place) (gap d k : ℕ) → gap < 2 ^ 29 → d < 2 ^ 16 → k < 2 ^ 16 → 0 < d + k → word_at s p ≡ Some (struct_pointer gap d k) → model.found_at s p ≡ Ok (record { pads = 0; object = model.a_struct (after (after p 1) gap) d k })
struct_found s p gap d k lg ld lk some e =
    let test : eqb (struct_pointer gap d k) 0 ≡ false = ne_eqb _ _ (omega arith) in
    rw (e, test, struct_says gap d k (omega arith) ld lk, begins_behind (after p 1) gap lg) refl

empty_found : (s : Segments) (p : Place) → word_at s p ≡ Some (struct_pointer (2 ^ 30 - 1) 0 0) → model.found_at s p ≡ Ok (record { pads = 0; object = model.a_struct p 0 0 })
empty_found s p e =
    let test : eqb (struct_pointer (2 ^ 30 - 1) 0 0) 0 ≡ false = refl in
    rw (e, begins_here p.segment p.position) refl

list_found : (s : Segments) (p : Place) (gap size n : ℕ) → gap < 2 ^ 29 → size < 8 → n < 2 ^ 29 → word_at s p ≡ Some (list_pointer gap size n) → model.found_at s p ≡ Ok (record { pads = 0; object = model.a_list (after (after p 1) gap) size n })
list_found s p gap size n lg ls ln e =
    let test : eqb (list_pointer gap size n) 0 ≡ false = ne_eqb _ _ (omega arith) in
    rw (e, test, list_says gap size n (omega arith) ls ln, begins_behind (after p 1) gap lg) refl

-- the object is that whole
leads_whole : (s : Segments) (p : Place) (o : Object) (m : model.Object) → LeadsToObject s p o → model.found_at s p ≡ Ok (record { pads = 0; object = m }) → whole s m ≡ Ok o
leads_whole s p o m lead e =
    let g = object_found s p (record { pads = lead.0; object = o }) lead.1 in
    let same : g.0 ≡ record { pads = 0; object = m } = ok_is _ _ (sym g.1 ∙ e) in
    subst (λ (f : model.Found). whole s f.object ≡ Ok o) same g.2

-- ---- what of an object is told

start_of : Object → Place
start_of (object.Struct p d k) = place_view p
start_of (object.List p size n) = place_view p
start_of (object.PointerList p n) = place_view p
start_of (object.StructList p words n d k) = place_view p
start_of _ = place 0 0

words_of_one : Object → ℕ
words_of_one (object.Struct p d k) = d
words_of_one (object.StructList p words n d k) = d
words_of_one _ = 0

pointers_of_one : Object → ℕ
pointers_of_one (object.Struct p d k) = k
pointers_of_one (object.StructList p words n d k) = k
pointers_of_one _ = 0

claimed : Object → ℕ
claimed (object.StructList p words n d k) = words
claimed _ = 0

counted : Object → ℕ
counted (object.StructList p words n d k) = n
counted _ = 0

-- ---- a struct

-- A struct begins at the head, or it is empty and begins at its pointer.
abbrev pub IsThere : Place → ℕ → wire.Place → ℕ → ℕ → Type 0
IsThere p head start d k = ((place_view start ≡ place p.segment head) × (0 < d + k)) ⊎ ((place_view start ≡ p) × (d ≡ 0) × (k ≡ 0))

module _ (s : Segments) (p : Place) (head : ℕ) (start : wire.Place) (d k : ℕ) (lead : LeadsToObject s p (object.Struct start d k)) where
  struct_is : (q : Place) (a b : ℕ) → model.found_at s p ≡ Ok (record { pads = 0; object = model.a_struct q a b }) → (place_view start ≡ q) × (d ≡ a) × (k ≡ b)
  unfolding start_of words_of_one pointers_of_one
  struct_is q a b e =
      let w = leads_whole s p (object.Struct start d k) (model.a_struct q a b) lead e in
      let x = bind_ok (ok_or (words_at s q (a + b)) OutOfBounds) _ (object.Struct start d k) w in
      let is : object.Struct (placed q) a b ≡ object.Struct start d k = ok_is _ _ x.2 in
      (sym (ap start_of is), sym (ap words_of_one is), sym (ap pointers_of_one is))

  some_struct : (gap a b : ℕ) → head ≡ p.position + 1 + gap → gap < 2 ^ 29 → a < 2 ^ 16 → b < 2 ^ 16 → 0 < a + b → word_at s p ≡ Some (struct_pointer gap a b) → (d ≡ a) × (k ≡ b) × IsThere p head start d k
  some_struct gap a b at lg la lb some e =
      let x = struct_is (after (after p 1) gap) a b (struct_found s p gap a b lg la lb some e) in
      let da = x.1 in
      let kb = x.2 in
      let here : place_view start ≡ place p.segment head = x.0 ∙ ap (λ (q : ℕ). place p.segment q) (sym at) in
      (x.1, x.2, inl (here, omega arith))

  pub struct_where : (gap a b word : ℕ) → head ≡ p.position + 1 + gap → gap < 2 ^ 29 → a < 2 ^ 16 → b < 2 ^ 16 → ((section : ℕ) (ts : Trees) → tree_count ts ≡ b → word ≡ pointer gap (structure a section ts)) → word_at s p ≡ Some word → (d ≡ a) × (k ≡ b) × IsThere p head start d k
  struct_where gap zero zero word at lg la lb is e =
      let x = struct_is p 0 0 (empty_found s p (e ∙ ap (λ (w : ℕ). Some w) (is 0 none refl))) in
      (x.1, x.2, inr (x.0, x.1, x.2))
  struct_where gap zero (suc b) word at lg la lb is e =
      let long = count-resized (suc b) none in
      some_struct gap zero (suc b) at lg la lb (omega arith) (e ∙ ap (λ (w : ℕ). Some w) (is 0 (resized (suc b) none) long ∙ ap (struct_pointer gap zero) long))
  struct_where gap (suc a) b word at lg la lb is e =
      let long = count-resized b none in
      some_struct gap (suc a) b at lg la lb (omega arith) (e ∙ ap (λ (w : ℕ). Some w) (is 0 (resized b none) long ∙ ap (struct_pointer gap (suc a)) long))

-- ---- lists

module _ (s : Segments) (p : Place) (head gap : ℕ) (at : head ≡ p.position + 1 + gap) (lg : gap < 2 ^ 29) where
  at_head : (q : Place) → q ≡ after (after p 1) gap → q ≡ place p.segment head
  at_head q e = e ∙ ap (λ (j : ℕ). place p.segment j) (sym at)

  pub list_where : (start : wire.Place) (z : ElementSize) (n : ℕ) → size_number z < 6 → n < 2 ^ 29 → LeadsToObject s p (object.List start z n) → word_at s p ≡ Some (list_pointer gap (size_number z) n) → place_view start ≡ place p.segment head
  unfolding start_of
  list_where start z n ls ln lead e =
      let q = after (after p 1) gap in
      let size = size_number z in
      let o = object.List start z n in
      let w = leads_whole s p o (model.a_list q size n) lead (list_found s p gap size n lg (omega arith) ln e) in
      let plain = list_kind_small size ls in
      let x = bind_ok (ok_or (words_at s q (list_words (list_kind size) size n)) OutOfBounds) _ o w in
      let is : whole_list q of_bits size n x.0 ≡ Ok o = ap (λ kind. whole_list q kind size n x.0) (sym plain) ∙ x.2 in
      at_head (place_view start) (sym (ap start_of (ok_is _ _ is)))

  pub pointers_where : (start : wire.Place) (n : ℕ) → n < 2 ^ 29 → LeadsToObject s p (object.PointerList start n) → word_at s p ≡ Some (list_pointer gap 6 n) → place_view start ≡ place p.segment head
  unfolding start_of
  pointers_where start n ln lead e =
      let q = after (after p 1) gap in
      let o = object.PointerList start n in
      let w = leads_whole s p o (model.a_list q 6 n) lead (list_found s p gap 6 n lg (omega arith) ln e) in
      let x = bind_ok (ok_or (words_at s q n) OutOfBounds) _ o w in
      at_head (place_view start) (sym (ap start_of (ok_is _ _ x.2)))

  -- a list of structs, by its pointer and its tag
  pub structs_where : (start : wire.Place) (words n d k a b own : ℕ) → own < 2 ^ 29 → n < 2 ^ 30 → a < 2 ^ 16 → b < 2 ^ 16 → LeadsToObject s p (object.StructList start words n d k) → word_at s p ≡ Some (list_pointer gap 7 own)
      → (place_view start ≡ place p.segment (head + 1)) × (words ≡ own) × (w : ℕ) × (word_at s (place p.segment head) ≡ Some w) × (w ≡ struct_pointer n a b → (d ≡ a) × (k ≡ b))
  unfolding start_of claimed words_of_one pointers_of_one
  structs_where start words n d k a b own lo ln la lb lead e =
      let q = after (after p 1) gap in
      let o = object.StructList start words n d k in
      let w = leads_whole s p o (model.a_list q 7 own) lead (list_found s p gap 7 own lg (omega arith) lo e) in
      let x = bind_ok (ok_or (words_at s q (1 + own)) OutOfBounds) _ o w in
      let there : words_at s q (1 + own) ≡ Some x.0 = ok_or_some _ _ _ x.1 in
      let t = bind_ok (tag_in x.0) _ o x.2 in
      let is : object.StructList (placed (after q 1)) own t.0.count t.0.data_words t.0.pointers ≡ o = ok_is _ _ t.2 in
      let f = front_word s q own (ap is_some there) in
      let all : f.0 ∷ f.1 ≡ x.0 = some_is _ _ (sym f.3 ∙ there) in
      let one : p.position + 1 + gap + 1 ≡ head + 1 = omega arith in
      let here : p.position + 1 + gap ≡ head = omega arith in
      let tagged : tag_in (f.0 ∷ f.1) ≡ Ok t.0 = ap tag_in all ∙ t.1 in (
        sym (ap start_of is) ∙ ap (λ (j : ℕ). place p.segment j) one,
        sym (ap claimed is),
        f.0,
        ap (λ (j : ℕ). word_at s (place p.segment j)) (sym here) ∙ f.2,
        λ same.
            let y = bind_ok (tag_of (model.pointer_of f.0)) _ t.0 tagged in
            let z = guard_ok _ OutOfBounds _ t.0 y.2 in
            let said : tag_of (model.pointer_of f.0) ≡ Ok (record { count = n; data_words = a; pointers = b }) = ap (λ (v : ℕ). tag_of (model.pointer_of v)) same ∙ ap tag_of (struct_says n a b ln la lb) in
            let tag_is : record { count = n; data_words = a; pointers = b } ≡ t.0 = ok_is _ _ (sym said ∙ y.1) ∙ ok_is _ _ z.1 in
            (sym (ap words_of_one is) ∙ sym (ap (λ (v : Tag). v.data_words) tag_is), sym (ap pointers_of_one is) ∙ sym (ap (λ (v : Tag). v.pointers) tag_is)),
      )
