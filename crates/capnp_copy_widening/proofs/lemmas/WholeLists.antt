-- Lists that lie whole.
use Rattle.std.proofs.Common.{◌≡◌, ℕ, cond, eqb, ◌+◌, ◌-◌, ◌*◌, ◌^◌, ◌<◌, ◌≤◌, true, Result, Ok, refl, ap, sym, ◌∙◌, subst, arith}
use Rattle.std.specs.Option.{is_some, ok_or}
use Rattle.capnp_model.specs.Kinds.{OutOfBounds}
use Rattle.capnp_model.specs.Sections.{words_for}
use Rattle.capnp_model.specs.Segments.{Segments, Place, place, after, words_at}
use Rattle.capnp_model.specs.Pointers as model
use Rattle.capnp_model.specs.Pointers.{a_list}
use Rattle.capnp_model.specs.Traversal.{tag_in}
use Rattle.capnp_model.proofs.lemmas.Chaining.{bind_ok, ok_is, ok_or_some}
use Rattle.capnp_wire_objects.specs.declared.object.Object.{Object}
use Rattle.capnp_wire_objects.specs.declared.object.Object.TheVariants as object
use Rattle.capnp_wire_objects.specs.declared.place.Place as code
use Rattle.capnp_wire_objects.specs.declared.named.NamedObject.{NamedObject}
use Rattle.capnp_wire_objects.specs.Named.{named_view}
use Rattle.capnp_wire_objects.specs.Objects.{AreThere, IsInside, whole}
use Rattle.capnp_units.specs.declared.sizes.ElementSize.{ElementSize}
use Rattle.capnp_units.specs.declared.sizes.ElementSize.TheVariants.{Void, Bit, Byte, TwoBytes, FourBytes, EightBytes, Pointer, InlineComposite}
use Rattle.capnp_units.specs.Sizes.{size_number, data_bits}
use Rattle.capnp_wire.specs.Elements.{step_bits, step_words}
use Rattle.capnp_wire_objects.specs.Places.{place_view, placed}
use Rattle.capnp_model_writes.proofs.lemmas.Rows.{after_none}
use Rattle.capnp_copy_arenas.specs.declared.init.ListPlace.{ListPlace}
use Rattle.capnp_copy_arenas.specs.Elements.{HasElements, IsWhole}
use Rattle.capnp_copy_arenas.proofs.lemmas.Parts.{section_there}
use Rattle.capnp_copy_widening.proofs.lemmas.ObjectsThere.{structs_named}

pub at_front : (s : Segments) (p : Place) (n : ℕ) → AreThere s p n → AreThere s (after p 0) n
at_front s p n h = (subst (λ (q : Place). is_some (words_at s q n) ≡ true) (sym (after_none p)) h.0, omega (arith, h.1))

-- a list of numbers
pub numbers_whole : (s : Segments) (start : code.Place) (size : ElementSize) (n : ℕ) → size_number size < 6 → AreThere s (place_view start) (words_for (data_bits (size_number size) * n)) → IsWhole s (record { start = start; size = size; claimed = n; count = n; data_words = 0; pointers = 0 })
numbers_whole s start Void n l h = let a = at_front s (place_view start) _ h in ((a, omega (arith, h.1)), (λ six. absurd (omega (arith, six))), λ seven. absurd (omega (arith, seven)))
numbers_whole s start Bit n l h = let a = at_front s (place_view start) _ h in ((a, omega (arith, h.1)), (λ six. absurd (omega (arith, six))), λ seven. absurd (omega (arith, seven)))
numbers_whole s start Byte n l h = let a = at_front s (place_view start) _ h in ((a, omega (arith, h.1)), (λ six. absurd (omega (arith, six))), λ seven. absurd (omega (arith, seven)))
numbers_whole s start TwoBytes n l h = let a = at_front s (place_view start) _ h in ((a, omega (arith, h.1)), (λ six. absurd (omega (arith, six))), λ seven. absurd (omega (arith, seven)))
numbers_whole s start FourBytes n l h = let a = at_front s (place_view start) _ h in ((a, omega (arith, h.1)), (λ six. absurd (omega (arith, six))), λ seven. absurd (omega (arith, seven)))
numbers_whole s start EightBytes n l h = let a = at_front s (place_view start) _ h in ((a, omega (arith, h.1)), (λ six. absurd (omega (arith, six))), λ seven. absurd (omega (arith, seven)))
numbers_whole s start Pointer n l h = absurd (omega (arith, l))
numbers_whole s start InlineComposite n l h = absurd (omega (arith, l))

-- a list of pointers
pub pointers_whole : (s : Segments) (start : code.Place) (n : ℕ) → AreThere s (place_view start) n → IsWhole s (record { start = start; size = Pointer; claimed = n; count = n; data_words = 0; pointers = 0 })
pointers_whole s start n h =
    let zero_words : 0 ≡ words_for (data_bits 6 * n) = omega arith in
    let front = section_there s (place_view start) 0 0 n (omega arith) h.0 in
    ((subst (λ (w : ℕ). AreThere s (after (place_view start) 0) w) zero_words (front, omega (arith, h.1)), omega (arith, h.1)), (λ six. h), λ seven. absurd (omega (arith, seven)))

-- a list of structs, whose claimed words with the tag are there and hold the elements
pub structs_whole : (s : Segments) (o : ListPlace) → o.size ≡ InlineComposite → AreThere s (place_view o.start) (1 + o.claimed) → o.count * (o.data_words + o.pointers) ≤ o.claimed → IsWhole s o
structs_whole s o size h l = (of_number (size_number o.size) seven, (λ six. absurd (omega (arith, six, seven))), λ e. (h, l))
  where
    seven : size_number o.size ≡ 7
    seven = ap size_number size

    of_number : (z : ℕ) → z ≡ 7 → AreThere s (after (place_view o.start) (cond (eqb z 7) 1 0)) (words_for (step_bits z o.data_words o.pointers * o.count)) × ((after (place_view o.start) (cond (eqb z 7) 1 0)).position + step_words z o.data_words o.pointers * o.count < 2 ^ 61)
    of_number z e =
        let many : o.count * (o.data_words + o.pointers) ≡ words_for (64 * (o.data_words + o.pointers) * o.count) = omega arith in
        let near = h.1 in
        let part = section_there s (place_view o.start) 1 (o.count * (o.data_words + o.pointers)) (1 + o.claimed) (omega (arith, l)) h.0 in
        rw e ((subst (λ (n : ℕ). is_some (words_at s (after (place_view o.start) 1) n) ≡ true) many part, omega (arith, near, many, l)), omega (arith, near, l))

-- ---- what an object's words show

-- the tag and the words behind it
structs_there : (s : Segments) (o : model.Object) (p : Place) (q : code.Place) (words n d k : ℕ) → o ≡ a_list p 7 words → whole s o ≡ Ok (object.StructList q words n d k) → (is_some (words_at s p (1 + words)) ≡ true) × (q ≡ placed (after p 1))
structs_there s o p q words n d k is e =
    let e' : whole s (a_list p 7 words) ≡ Ok (object.StructList q words n d k) = subst (λ (x : model.Object). whole s x ≡ Ok (object.StructList q words n d k)) is e in
    let x = bind_ok (ok_or (words_at s p (1 + words)) OutOfBounds) _ (object.StructList q words n d k) e' in
    let y = bind_ok (tag_in x.0) _ (object.StructList q words n d k) x.2 in
    let is_object : object.StructList (placed (after p 1)) words y.0.count y.0.data_words y.0.pointers ≡ object.StructList q words n d k = ok_is _ _ y.2 in
    let at : placed (after p 1) ≡ q = cc in
    (ap is_some (ok_or_some _ _ _ x.1), sym at)

pub structs_named_whole : (s : Segments) (o : NamedObject) (q : code.Place) (words n d k at : ℕ) → whole s (named_view o) ≡ Ok (object.StructList q words n d k) → at ≡ q.position - 1 → AreThere s (place_view q) words × (n * (d + k) ≤ words)
    → IsWhole s (record { start = record { segment = q.segment; position = at }; size = InlineComposite; claimed = words; count = n; data_words = d; pointers = k })
structs_named_whole s o q words n d k at e is inside =
    let p : Place = place q.segment (q.position - 1) in
    let x = structs_there s (named_view o) (place q.segment (q.position - 1)) q words n d k (structs_named s o q words n d k e) e in
    let behind : q.position ≡ (q.position - 1) + 1 = ap (λ (r : code.Place). r.position) x.1 in
    let near = inside.0.1 in
    let there : is_some (words_at s (place q.segment at) (1 + words)) ≡ true = subst (λ (j : ℕ). is_some (words_at s (place q.segment j) (1 + words)) ≡ true) (sym is) x.0 in
    structs_whole s (record { start = record { segment = q.segment; position = at }; size = InlineComposite; claimed = words; count = n; data_words = d; pointers = k }) refl (there, omega (arith, near, is, behind)) inside.1

-- what was seen of an object that lies inside
pub seen_inside : (s : Segments) (o v : Object) → o ≡ v → IsInside s o → IsInside s v
seen_inside s o v e h = subst (IsInside s) e h
