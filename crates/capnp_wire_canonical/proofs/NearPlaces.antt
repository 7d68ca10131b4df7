-- What the word of a pointer says that leads to an object in its own segment.
use Rattle.std.proofs.Common.{◌≡◌, ℕ, zero, suc, ◌+◌, ◌-◌, ◌%◌, ◌^◌, ◌<◌, ◌≤◌, Bool, true, false, eqb, leb, nat_lt, if◌then◌else◌, List, Option, Some, Result, Ok, refl, ap, sym, ◌∙◌, subst, arith}
use Rattle.std.specs.Prelude.{unwrap_or}
use Rattle.std.specs.Option.{ok_or}
use Rattle.std.proofs.lemmas.Bool.Decides.{nat_tests}
use Rattle.capnp_model.specs.Kinds.{Kind, OutOfBounds}
use Rattle.capnp_model.specs.Chains.{◌provided◌}
use Rattle.capnp_model.specs.Sections.{bits_at}
use Rattle.capnp_model.specs.Segments.{Segments, Place, place, after, word_at, words_at}
use Rattle.capnp_model.specs.Pointers.{to_struct, to_list, to_capability, to_nothing_known, pointer_of_kind, pointer_of, begins, described, in_pad, found_by}
use Rattle.capnp_model.specs.Pointers as model
use Rattle.capnp_model.specs.Spelling.{AreWords}
use Rattle.capnp_model.specs.Traversal.{ListKind, of_bits, of_pointers, of_structs, tag_in, list_kind, list_words}
use Rattle.capnp_model.specs.Trees.{Tree, null, capability, structure, plain_list, pointer_list, struct_list, none, ◌▸◌}
use Rattle.capnp_model.specs.Encoding.{struct_pointer, list_pointer, pointer}
use Rattle.capnp_model.proofs.lemmas.Chaining.{bind_ok, ok_is, ok_or_some, some_is}
use Rattle.capnp_units.specs.declared.sizes.ElementSize.{ElementSize}
use Rattle.capnp_units.specs.Sizes.{size_number}
use Rattle.capnp_wire_objects.specs.declared.place.Place as wire
use Rattle.capnp_wire_objects.specs.declared.object.Object.{Object}
use Rattle.capnp_wire_objects.specs.declared.object.Object.TheVariants as object
use Rattle.capnp_wire_objects.specs.Places.{place_view, placed}
use Rattle.capnp_wire_objects.specs.Objects.{plain_size, whole_list, whole, object_at}
use Rattle.capnp_wire_objects.proofs.lemmas.Linking.{plain_number}
use Rattle.capnp_wire_objects.proofs.lemmas.Walking.{object_found}
use Rattle.capnp_model.proofs.lemmas.ReadFits.{list_kind_cases}
use Rattle.capnp_model.proofs.lemmas.PointerWords.{list_word, struct_word}
use Rattle.capnp_wire_canonical.specs.Standing.{segment_words, Stands, LeadsToObject}
use Rattle.capnp_wire_canonical.proofs.StandingObjects.{word_small, lead_word}

-- ---- the pointer

-- An object that has a place.
abbrev pub IsPlaced : Object → Type 0
IsPlaced object.Null = ⊥
IsPlaced (object.Capability i) = ⊥
IsPlaced _ = Unit {0}

module _ (s : Segments) (p : Place) (o : Object) (w : ℕ) where
  -- What a word of a kind says of the object.
  abbrev pub Says : ℕ → Type 0
  Says zero = (q : Place) × (begins (after p 1) (bits_at 2 30 w) ≡ Ok q) × (whole s (model.a_struct q (bits_at 32 16 w) (bits_at 48 16 w)) ≡ Ok o)
  Says (suc zero) = (q : Place) × (begins (after p 1) (bits_at 2 30 w) ≡ Ok q) × (whole s (model.a_list q (bits_at 32 3 w) (bits_at 35 29 w)) ≡ Ok o)
  Says (suc (suc k)) = ⊥

  others : (b : Bool) (g : model.Found) → IsPlaced o → found_by s p (if b then to_capability (bits_at 32 32 w) else to_nothing_known) ≡ Ok g → whole s g.object ≡ Ok o → ⊥
  others true g own e h =
      let is : record { pads = 0; object = model.a_capability (bits_at 32 32 w) } ≡ g = ok_is _ _ e in
      let cap : whole s (model.a_capability (bits_at 32 32 w)) ≡ Ok o = ap (λ (f : model.Found). whole s f.object) is ∙ h in
      subst IsPlaced (sym (ok_is _ _ cap)) own
  others false g own e h = absurd cc

  says : (k : ℕ) (g : model.Found) → IsPlaced o → found_by s p (pointer_of_kind k w) ≡ Ok g → g.pads ≡ 0 → whole s g.object ≡ Ok o → Says k
  says zero g own e z h =
      let a = bind_ok (described (begins (after p 1)) (to_struct (bits_at 2 30 w) (bits_at 32 16 w) (bits_at 48 16 w))) _ g e in
      let b = bind_ok (begins (after p 1) (bits_at 2 30 w)) _ a.0 a.1 in
      let is : model.a_struct b.0 (bits_at 32 16 w) (bits_at 48 16 w) ≡ g.object = ok_is _ _ b.2 ∙ ap (λ (f : model.Found). f.object) (ok_is _ _ a.2) in
      (b.0, b.1, ap (whole s) is ∙ h)
  says (suc zero) g own e z h =
      let a = bind_ok (described (begins (after p 1)) (to_list (bits_at 2 30 w) (bits_at 32 3 w) (bits_at 35 29 w))) _ g e in
      let b = bind_ok (begins (after p 1) (bits_at 2 30 w)) _ a.0 a.1 in
      let is : model.a_list b.0 (bits_at 32 3 w) (bits_at 35 29 w) ≡ g.object = ok_is _ _ b.2 ∙ ap (λ (f : model.Found). f.object) (ok_is _ _ a.2) in
      (b.0, b.1, ap (whole s) is ∙ h)
  says (suc (suc zero)) g own e z h =
      let pad = place (bits_at 32 32 w) (bits_at 3 29 w) in
      let a = bind_ok (ok_or (words_at s pad (1 + bits_at 2 1 w)) OutOfBounds) _ g e in
      let b = bind_ok (in_pad pad a.0) _ g a.2 in
      let is : 1 + bits_at 2 1 w ≡ g.pads = ap (λ (f : model.Found). f.pads) (ok_is _ _ b.2) in
      omega arith
  says (suc (suc (suc k))) g own e z h = others (eqb (bits_at 2 30 w) 0) g own e h

  -- A pointer without a pad.
  pub near_says : IsPlaced o → object_at s p ≡ Ok (record { pads = 0; object = o }) → word_at s p ≡ Some w → Says (bits_at 0 2 w)
  near_says own e there =
      let g = object_found s p (record { pads = 0; object = o }) e in
      let a = bind_ok (ok_or (word_at s p) OutOfBounds) _ g.0 g.1 in
      let is : a.0 ≡ w = some_is _ _ (sym (ok_or_some _ _ _ a.1) ∙ there) in
      by (eqb w 0) g.0 (subst (λ (v : ℕ). (if eqb v 0 then Ok (record { pads = 0; object = model.nothing }) else found_by s p (pointer_of v)) ≡ Ok g.0) is a.2) g.3 g.2
    where
      by : (b : Bool) (g : model.Found) → (if b then Ok (record { pads = 0; object = model.nothing }) else found_by s p (pointer_of w)) ≡ Ok g → g.pads ≡ 0 → whole s g.object ≡ Ok o → Says (bits_at 0 2 w)
      by true g e z h =
          let is : record { pads = 0; object = model.nothing } ≡ g = ok_is _ _ e in
          let null : whole s model.nothing ≡ Ok o = ap (λ (f : model.Found). whole s f.object) is ∙ h in
          absurd (subst IsPlaced (sym (ok_is _ _ null)) own)
      by false g e z h = says (bits_at 0 2 w) g own e z h

-- ---- a pad

module _ (s : Segments) (p : Place) (w : ℕ) where
  no_pads : (k : ℕ) (g : model.Found) → (k ≡ 2 → ⊥) → found_by s p (pointer_of_kind k w) ≡ Ok g → 0 ≡ g.pads
  no_pads zero g near e =
      let a = bind_ok (described (begins (after p 1)) (to_struct (bits_at 2 30 w) (bits_at 32 16 w) (bits_at 48 16 w))) _ g e in
      ap (λ (f : model.Found). f.pads) (ok_is _ _ a.2)
  no_pads (suc zero) g near e =
      let a = bind_ok (described (begins (after p 1)) (to_list (bits_at 2 30 w) (bits_at 32 3 w) (bits_at 35 29 w))) _ g e in
      ap (λ (f : model.Found). f.pads) (ok_is _ _ a.2)
  no_pads (suc (suc zero)) g near e = absurd (near refl)
  no_pads (suc (suc (suc k))) g near e = by (eqb (bits_at 2 30 w) 0) e
    where
      by : (b : Bool) → found_by s p (if b then to_capability (bits_at 32 32 w) else to_nothing_known) ≡ Ok g → 0 ≡ g.pads
      by true e = ap (λ (f : model.Found). f.pads) (ok_is _ _ e)
      by false e = absurd cc

  -- A pointer that is no far pointer leads to its object without a pad.
  pub unpadded : (o : Object) → LeadsToObject s p o → word_at s p ≡ Some w → (w % 4 ≡ 2 → ⊥) → object_at s p ≡ Ok (record { pads = 0; object = o })
  unpadded o lead there near =
      let g = object_found s p (record { pads = lead.0; object = o }) lead.1 in
      let a = bind_ok (ok_or (word_at s p) OutOfBounds) _ g.0 g.1 in
      let is : a.0 ≡ w = some_is _ _ (sym (ok_or_some _ _ _ a.1) ∙ there) in
      let kind : bits_at 0 2 w ≡ w % 4 = omega arith in
      let none = by (eqb w 0) g.0 kind (subst (λ (v : ℕ). (if eqb v 0 then Ok (record { pads = 0; object = model.nothing }) else found_by s p (pointer_of v)) ≡ Ok g.0) is a.2) in
      lead.1 ∙ ap (λ (j : ℕ). Ok (record { pads = j; object = o })) (sym (none ∙ g.3))
    where
      by : (b : Bool) (g : model.Found) → bits_at 0 2 w ≡ w % 4 → (if b then Ok (record { pads = 0; object = model.nothing }) else found_by s p (pointer_of w)) ≡ Ok g → 0 ≡ g.pads
      by true g kind e = ap (λ (f : model.Found). f.pads) (ok_is _ _ e)
      by false g kind e = no_pads (bits_at 0 2 w) g (λ two. near (sym kind ∙ two)) e

-- no canonical pointer is a far one
canonical_kind : (gap : ℕ) (t : Tree) → pointer gap t % 4 ≡ 2 → ⊥
canonical_kind gap null e = omega arith
canonical_kind gap (structure zero section none) e = omega arith
canonical_kind gap (structure zero section (t ▸ ts)) e = omega arith
canonical_kind gap (structure (suc d) section ts) e = omega arith
canonical_kind gap (plain_list size n section) e = omega arith
canonical_kind gap (pointer_list ts) e = omega arith
canonical_kind gap (struct_list d k es) e = omega arith
canonical_kind gap (capability i) e = omega arith

pub far_differs : (s : Segments) (p : Place) (head r end : ℕ) (t : Tree) → r ≡ unwrap_or (word_at s p) 0 → r % 4 ≡ 2 → Stands s p head t end → ⊥
far_differs s p head r end t is far y =
    let same : r ≡ pointer (head - p.position - 1) t = is ∙ ap (λ (o : Option ℕ). unwrap_or o 0) y.link in
    canonical_kind (head - p.position - 1) t (ap (λ (v : ℕ). v % 4) (sym same) ∙ far)

pub near_leads : (s : Segments) (p : Place) (o : Object) (r : ℕ) → LeadsToObject s p o → r ≡ unwrap_or (word_at s p) 0 → (r % 4 ≡ 2 → ⊥) → object_at s p ≡ Ok (record { pads = 0; object = o })
near_leads s p o r lead is near =
    let w = lead_word s p o lead in
    let same : r ≡ w.0 = is ∙ ap (λ (o : Option ℕ). unwrap_or o 0) w.1 in
    unpadded s p w.0 o lead w.1 (λ far. near (ap (λ (v : ℕ). v % 4) same ∙ far))

-- ---- where it leads

module _ (p q : Place) (offset : ℕ) (bound : offset < 2 ^ 30) where
  -- Where an offset may lead: onwards, or back.
  abbrev Led : Bool → Bool → Result Place Kind
  Led b d = if b then Ok (after p offset) else ok_or (place p.segment (p.position + offset - 2 ^ 30) provided d) OutOfBounds

  onwards : begins p offset ≡ Ok q → p.position ≤ q.position → (q ≡ after p offset) × (offset < 2 ^ 29)
  onwards e h = by (nat_lt offset (2 ^ 29)) refl (leb (2 ^ 30) (p.position + offset)) refl e
    where
      by : (b : Bool) → nat_lt offset (2 ^ 29) ≡ b → (d : Bool) → leb (2 ^ 30) (p.position + offset) ≡ d → Led b d ≡ Ok q → (q ≡ after p offset) × (offset < 2 ^ 29)
      by true f d g e = (sym (ok_is _ _ e), grind (arith, nat_tests))
      by false f true g e =
          let at : p.position + offset - 2 ^ 30 ≡ q.position = ap (λ (x : Place). x.position) (ok_is _ _ e) in
          let reach : 2 ^ 30 ≤ p.position + offset = grind (arith, nat_tests) in
          absurd (omega arith)
      by false f false g e = absurd cc

  back : begins p offset ≡ Ok q → q.position + 1 ≡ p.position → (q ≡ place p.segment (p.position - 1)) × (offset ≡ 2 ^ 30 - 1)
  back e h = by (nat_lt offset (2 ^ 29)) refl (leb (2 ^ 30) (p.position + offset)) refl e
    where
      by : (b : Bool) → nat_lt offset (2 ^ 29) ≡ b → (d : Bool) → leb (2 ^ 30) (p.position + offset) ≡ d → Led b d ≡ Ok q → (q ≡ place p.segment (p.position - 1)) × (offset ≡ 2 ^ 30 - 1)
      by true f d g e = let at : p.position + offset ≡ q.position = ap (λ (x : Place). x.position) (ok_is _ _ e) in absurd (omega arith)
      by false f true g e =
          let is = ok_is _ _ e in
          let at : p.position + offset - 2 ^ 30 ≡ q.position = ap (λ (x : Place). x.position) is in
          let reach : 2 ^ 30 ≤ p.position + offset = grind (arith, nat_tests) in
          let last : p.position + offset - 2 ^ 30 ≡ p.position - 1 = omega arith in
          (sym is ∙ ap (λ (j : ℕ). place p.segment j) last, omega arith)
      by false f false g e = absurd cc

-- ---- its word

offset_small : (w : ℕ) → bits_at 2 30 w < 2 ^ 30
offset_small w = omega arith

size_small : (w : ℕ) → bits_at 32 3 w < 8
size_small w = omega arith

-- ---- a list of plain elements

start_of : Object → wire.Place
start_of (object.List q z n) = q
start_of (object.Struct q d k) = q
start_of _ = record { segment = 0; position = 0 }

size_of : Object → ℕ
size_of (object.List q z n) = size_number z
size_of (object.Struct q d k) = d
size_of _ = 0

count_of : Object → ℕ
count_of (object.List q z n) = n
count_of (object.Struct q d k) = k
count_of _ = 0

module _ (s : Segments) (q : Place) (start : wire.Place) (z : ElementSize) (n size count : ℕ) (small : size < 8) where
  -- What a list is of whose words these are.
  abbrev IsListOf : Type 0
  IsListOf = (place_view start ≡ q) × (size_number z ≡ size) × (n ≡ count)

  list_is : whole s (model.a_list q size count) ≡ Ok (object.List start z n) → IsListOf
  unfolding start_of size_of count_of
  list_is e =
      let x = bind_ok (ok_or (words_at s q (list_words (list_kind size) size count)) OutOfBounds) _ (object.List start z n) e in
      by (list_kind size) refl x.0 x.2
    where
      by : (kind : ListKind) → list_kind size ≡ kind → (ws : List ℕ) → whole_list q kind size count ws ≡ Ok (object.List start z n) → IsListOf
      by of_bits k ws e =
          let is : object.List (placed q) (plain_size size) count ≡ object.List start z n = ok_is _ _ e in
          (ap (λ (o : Object). place_view (start_of o)) (sym is), ap size_of (sym is) ∙ plain_number size (list_kind_cases size small k), ap count_of (sym is))
      by of_pointers k ws e = absurd cc
      by of_structs k ws e = let t = bind_ok (tag_in ws) _ (object.List start z n) e in absurd cc

module _ (s : Segments) (p : Place) (head : ℕ) (whole_words : AreWords (segment_words s p.segment)) (start : wire.Place) where
  at_head : (q : Place) (offset w : ℕ) → place_view start ≡ q → q ≡ after (after p 1) offset → (place_view start).position ≡ head → (head - p.position - 1 ≡ offset) × (place_view start ≡ place p.segment head)
  at_head q offset w is led here =
      let at : (place_view start).position ≡ p.position + 1 + offset = ap (λ (x : Place). x.position) (is ∙ led) in
      let same : p.position + 1 + offset ≡ head = omega arith in
      (omega arith, is ∙ led ∙ ap (λ (j : ℕ). place p.segment j) same)

  pub list_near : (z : ElementSize) (n w : ℕ) → word_at s p ≡ Some w → object_at s p ≡ Ok (record { pads = 0; object = object.List start z n }) → (place_view start).position ≡ head → p.position + 1 ≤ head
      → (word_at s p ≡ Some (list_pointer (head - p.position - 1) (size_number z) n)) × (place_view start ≡ place p.segment head)
  list_near z n w there e here less = by (bits_at 0 2 w) refl (near_says s p (object.List start z n) w tt e there)
    where
      by : (k : ℕ) → bits_at 0 2 w ≡ k → Says s p (object.List start z n) w k → (word_at s p ≡ Some (list_pointer (head - p.position - 1) (size_number z) n)) × (place_view start ≡ place p.segment head)
      by zero kind x =
          let a = bind_ok (ok_or (words_at s x.0 (bits_at 32 16 w + bits_at 48 16 w)) OutOfBounds) _ (object.List start z n) x.2 in
          absurd cc
      by (suc zero) kind x =
          let size = bits_at 32 3 w in
          let count = bits_at 35 29 w in
          let is = list_is s x.0 start z n size count (size_small w) x.2 in
          let at : (place_view start).position ≡ x.0.position = ap (λ (r : Place). r.position) is.0 in
          let led = onwards (after p 1) x.0 (bits_at 2 30 w) (offset_small w) x.1 (omega arith) in
          let a = at_head x.0 (bits_at 2 30 w) w is.0 led.0 here in
          let word : w ≡ list_pointer (head - p.position - 1) (size_number z) n = list_word w (word_small s p w whole_words there) kind ∙ ap (λ (j : ℕ). list_pointer j size count) (sym a.0) ∙ ap (λ (j : ℕ). list_pointer (head - p.position - 1) j count) (sym is.1) ∙ ap (list_pointer (head - p.position - 1) (size_number z)) (sym is.2) in
          (there ∙ ap (λ (j : ℕ). Some j) word, a.1)
      by (suc (suc k)) kind x = absurd x

  -- ---- a struct

  struct_is : (q : Place) (d k a b : ℕ) → whole s (model.a_struct q a b) ≡ Ok (object.Struct start d k) → (place_view start ≡ q) × (d ≡ a) × (k ≡ b)
  unfolding start_of size_of count_of
  struct_is q d k a b e =
      let x = bind_ok (ok_or (words_at s q (a + b)) OutOfBounds) _ (object.Struct start d k) e in
      let is : object.Struct (placed q) a b ≡ object.Struct start d k = ok_is _ _ x.2 in
      (ap (λ (o : Object). place_view (start_of o)) (sym is), ap size_of (sym is), ap count_of (sym is))

  module _ (d k w : ℕ) (there : word_at s p ≡ Some w) (e : object_at s p ≡ Ok (record { pads = 0; object = object.Struct start d k })) where
    -- What the pointer to a struct says.
    pub record Told : Type 0 where
      pub offset : ℕ
      pub small : offset < 2 ^ 30
      pub begin : begins (after p 1) offset ≡ Ok (place_view start)
      pub word : w ≡ struct_pointer offset d k
      pub narrow : (d < 2 ^ 16) × (k < 2 ^ 16)

    told : Told
    told = by (bits_at 0 2 w) refl (near_says s p (object.Struct start d k) w tt e there)
      where
        by : (kind : ℕ) → bits_at 0 2 w ≡ kind → Says s p (object.Struct start d k) w kind → Told
        by zero kind x =
            let offset = bits_at 2 30 w in
            let a = bits_at 32 16 w in
            let b = bits_at 48 16 w in
            let is = struct_is x.0 d k a b x.2 in
            record {
              offset = offset;
              small = offset_small w;
              begin = x.1 ∙ ap (λ (r : Place). Ok r) (sym is.0);
              word = struct_word w (word_small s p w whole_words there) kind ∙ ap (λ (j : ℕ). struct_pointer offset j b) (sym is.1) ∙ ap (struct_pointer offset d) (sym is.2);
              narrow = let d_is = is.1 in let k_is = is.2 in (omega arith, omega arith);
            }
        by (suc zero) kind x =
            let a = bind_ok (ok_or (words_at s x.0 (list_words (list_kind (bits_at 32 3 w)) (bits_at 32 3 w) (bits_at 35 29 w))) OutOfBounds) _ (object.Struct start d k) x.2 in
            no_struct (list_kind (bits_at 32 3 w)) x.0 a.0 a.2
          where
            no_struct : (kind : ListKind) (q : Place) (ws : List ℕ) → whole_list q kind (bits_at 32 3 w) (bits_at 35 29 w) ws ≡ Ok (object.Struct start d k) → Told
            no_struct of_bits q ws e = absurd cc
            no_struct of_pointers q ws e = absurd cc
            no_struct of_structs q ws e = let t = bind_ok (tag_in ws) _ (object.Struct start d k) e in absurd cc
        by (suc (suc k)) kind x = absurd x

    pub struct_narrow : (d < 2 ^ 16) × (k < 2 ^ 16)
    struct_narrow = let t = told in t.narrow

    pub struct_near : (place_view start).position ≡ head → p.position + 1 ≤ head → (word_at s p ≡ Some (struct_pointer (head - p.position - 1) d k)) × (place_view start ≡ place p.segment head)
    struct_near here less =
        let t = told in
        let led = onwards (after p 1) (place_view start) t.offset t.small t.begin (omega arith) in
        let a = at_head (place_view start) t.offset w refl led.0 here in
        (there ∙ ap (λ (j : ℕ). Some j) (t.word ∙ ap (λ (j : ℕ). struct_pointer j d k) (sym a.0)), a.1)

    pub empty_near : (place_view start).position ≡ p.position → (word_at s p ≡ Some (struct_pointer (2 ^ 30 - 1) d k)) × (place_view start ≡ p)
    empty_near here =
        let t = told in
        let led = back (after p 1) (place_view start) t.offset t.small t.begin (omega arith) in
        let same : p.position + 1 - 1 ≡ p.position = omega arith in
        (there ∙ ap (λ (j : ℕ). Some j) (t.word ∙ ap (λ (j : ℕ). struct_pointer j d k) led.1), led.0 ∙ ap (λ (j : ℕ). place p.segment j) same)
