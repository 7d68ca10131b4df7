-- What a struct that is there has: its words, and each of its pointers.
use Rattle.std.proofs.Common.{◌≡◌, ℕ, zero, suc, ◌+◌, ◌-◌, ◌*◌, ◌/◌, ◌<◌, ◌≤◌, ◌⊎◌, inl, inr, List, [], ◌∷◌, ◌++◌, map, length, Option, Some, None, refl, sym, ap, subst, arith, true, drop}
use Rattle.std.specs.Option.{is_some}
use Rattle.capnp_model.specs.Segments.{Segments, Place, after, words_at}
use Rattle.capnp_model.specs.Schemas.{width, StructNode, Shape, shape, Fields, no_fields, field, Body, words_of_shape, pointers_of_shape}
use Rattle.capnp_wire_objects.specs.Places.{place_view}
use Rattle.capnp_copy_arenas.specs.Structs.{AreInWord}
use Rattle.capnp_copy_arenas.specs.declared.fields.StructPlace.{StructPlace}
use Rattle.capnp_model_writes.proofs.lemmas.Spans.{words_front, words_back}
use Rattle.capnp_model.specs.Accepted.{Area, bit_area, pointer_area, union_area, areas_of, areas_of_fields, areas_of_body}
use Rattle.capnp_model.specs.Printing.{fields_in}
use Rattle.capnp_model.proofs.lemmas.ReachedStructs.{AllInside, IsWithin}
use Rattle.capnp_model.proofs.lemmas.SoundSizes.{accepted_sound}
use Rattle.capnp_values_queries.specs.Fields.{Entry, field_at, union_in}
use Rattle.capnp_values_queries.specs.Structs.{nodes_around, id_of, shape_of_struct, IsRecordOf}
use Rattle.capnp_values_queries.specs.Handles.{plain_of}
use Rattle.capnp_values_queries.specs.declared.slots.PlainType.{PlainType as Plain}
use Rattle.capnp_values_queries.specs.declared.slots.PlainType.TheVariants as P
use Rattle.capnp_values_queries.specs.declared.structs.StructSchema.{StructSchema}
use Rattle.capnp_values_queries.specs.declared.fields.Field.{Field}
use Rattle.capnp_schema_structs.specs.Inside.{LieIn}
use Rattle.capnp_schema_structs.specs.Edits.{IsThere, HoldsShape}
use Rattle.capnp_copy_arenas.proofs.lemmas.RoomLaws.{some_of, words_stay}

-- the data words
pub data_there : (s : Segments) (p : Place) (d k : ℕ) → is_some (words_at s p (d + k)) ≡ true → is_some (words_at s p d) ≡ true
data_there s p d k h = let x = some_of s p (d + k) h in ap is_some (words_front s p d k x.0 x.1)

-- a pointer's word
pointer_there : (s : Segments) (p : Place) (d k i : ℕ) → i < k → is_some (words_at s p (d + k)) ≡ true → is_some (words_at s (after (after p d) i) 1) ≡ true
pointer_there s p d k i l h =
    let x = some_of s p (d + k) h in
    let back = words_back s p d k x.0 x.1 in
    let e : k ≡ i + (1 + (k - i - 1)) = omega (arith, l) in
    let y = words_back s (after p d) i (1 + (k - i - 1)) (drop d x.0) (subst (λ (n : ℕ). words_at s (after p d) n ≡ Some (drop d x.0)) e back) in
    ap is_some (words_front s (after (after p d) i) 1 (k - i - 1) (drop i (drop d x.0)) y)

pub slot_there : (s : Segments) (p : StructPlace) (i : ℕ) (q : Place) → i < p.pointers → q ≡ after (after (place_view p.start) p.data_words) i → IsThere s p → is_some (words_at s q 1) ≡ true
slot_there s p i q l e there = subst (λ (x : Place). is_some (words_at s x 1) ≡ true) (sym e) (pointer_there s (place_view p.start) p.data_words p.pointers i l there.words)

-- wide enough for a shape, it is so for a smaller one
pub wide_within : (p : StructPlace) (g h : Shape) → words_of_shape g ≤ words_of_shape h → pointers_of_shape g ≤ pointers_of_shape h → HoldsShape p h → HoldsShape p g
wide_within p g h words pointers wide =
    let more = wide.words in
    let others = wide.pointers in
    record { words = omega (arith, words, more); pointers = omega (arith, pointers, others) }

-- a number that lies in one of its words
pub in_word : (p : StructPlace) (at width : ℕ) (more : List Area) → 0 < width → at + width ≤ at / 64 * 64 + 64 → LieIn p.data_words p.pointers (bit_area at width ∷ more) → AreInWord p at width
in_word p at width more some one h = (h.0, one, some)

-- numbers counted in their own width lie in one word
one_of : (w o : ℕ) → (w ≡ 1) ⊎ (w ≡ 8) ⊎ (w ≡ 16) ⊎ (w ≡ 32) ⊎ (w ≡ 64) → w * o + w ≤ w * o / 64 * 64 + 64
one_of w o (inl e) = subst (λ w. w * o + w ≤ w * o / 64 * 64 + 64) (sym e) (omega arith)
one_of w o (inr (inl e)) = subst (λ w. w * o + w ≤ w * o / 64 * 64 + 64) (sym e) (omega arith)
one_of w o (inr (inr (inl e))) = subst (λ w. w * o + w ≤ w * o / 64 * 64 + 64) (sym e) (omega arith)
one_of w o (inr (inr (inr (inl e)))) = subst (λ w. w * o + w ≤ w * o / 64 * 64 + 64) (sym e) (omega arith)
one_of w o (inr (inr (inr (inr e)))) = subst (λ w. w * o + w ≤ w * o / 64 * 64 + 64) (sym e) (omega arith)

widths : (t : Plain) → let w = width (plain_of t) in (w ≡ 1) ⊎ (w ≡ 8) ⊎ (w ≡ 16) ⊎ (w ≡ 32) ⊎ (w ≡ 64)
widths P.Bool = inl refl
widths P.Int8 = inr (inl refl)
widths P.Int16 = inr (inr (inl refl))
widths P.Int32 = inr (inr (inr (inl refl)))
widths P.Int64 = inr (inr (inr (inr refl)))
widths P.UInt8 = inr (inl refl)
widths P.UInt16 = inr (inr (inl refl))
widths P.UInt32 = inr (inr (inr (inl refl)))
widths P.UInt64 = inr (inr (inr (inr refl)))
widths (P.Enum raw) = inr (inr (inl refl))

pub one_word : (t : Plain) (o : ℕ) → width (plain_of t) * o + width (plain_of t) ≤ width (plain_of t) * o / 64 * 64 + 64
one_word t o = one_of (width (plain_of t)) o (widths t)

pub some_width : (t : Plain) → 0 < width (plain_of t)
some_width P.Bool = omega arith
some_width P.Int8 = omega arith
some_width P.Int16 = omega arith
some_width P.Int32 = omega arith
some_width P.Int64 = omega arith
some_width P.UInt8 = omega arith
some_width P.UInt16 = omega arith
some_width P.UInt32 = omega arith
some_width P.UInt64 = omega arith
some_width (P.Enum raw) = omega arith

-- ---- what accepted schemas give

pub first_areas : (w k : ℕ) (xs ys : List Area) → LieIn w k (xs ++ ys) → LieIn w k xs
first_areas w k [] ys h = tt
first_areas w k (bit_area a n ∷ xs) ys h = (h.0, first_areas w k xs ys h.1)
first_areas w k (pointer_area i ∷ xs) ys h = (h.0, first_areas w k xs ys h.1)

pub last_areas : (w k : ℕ) (xs ys : List Area) → LieIn w k (xs ++ ys) → LieIn w k ys
last_areas w k [] ys h = h
last_areas w k (bit_area a n ∷ xs) ys h = last_areas w k xs ys h.1
last_areas w k (pointer_area i ∷ xs) ys h = last_areas w k xs ys h.1

wider : (w k v j : ℕ) (xs : List Area) → w ≤ v → k ≤ j → AllInside w k xs → LieIn v j xs
wider w k v j [] a b h = tt
wider w k v j (bit_area at n ∷ xs) a b h = let i = h.0 in (omega (arith, a, i), wider w k v j xs a b h.1)
wider w k v j (pointer_area i ∷ xs) a b h = let l = h.0 in (omega (arith, b, l), wider w k v j xs a b h.1)

shape_areas : (g : Shape) (v j : ℕ) → words_of_shape g ≤ v → pointers_of_shape g ≤ j → IsWithin g → LieIn v j (areas_of g)
shape_areas (shape nid w k u fs) v j a b h = wider w k v j (areas_of (shape nid w k u fs)) a b h

pub areas_inside : (s : StructSchema) (p : StructPlace) → HoldsShape p (shape_of_struct s) → LieIn p.data_words p.pointers (areas_of (shape_of_struct s))
areas_inside s p h = let x = accepted_sound (nodes_around s) s.set.now.accepted (id_of s) in shape_areas (shape_of_struct s) p.data_words p.pointers h.words h.pointers x.within

-- the union's, and those of the fields
pub union_areas : (w k : ℕ) (g : Shape) → LieIn w k (areas_of g) → LieIn w k (union_area (union_in g))
unfolding areas_of
union_areas w k (shape nid words pointers u fs) h = first_areas w k (union_area u) (areas_of_fields fs) h

fields_areas : (w k : ℕ) (fs : Fields) (i : ℕ) (e : Entry) → field_at fs i ≡ Some e → LieIn w k (areas_of_fields fs) → LieIn w k (areas_of_body e.body)
unfolding areas_of
fields_areas w k no_fields i e h x = absurd (cc h)
fields_areas w k (field n m b fs) zero e h x = let is : b ≡ e.body = ap (λ (o : Option Entry). elim o as (λ _. Body) [ None ↦ b | Some y ↦ y.body ]) h in subst (λ y. LieIn w k (areas_of_body y)) is (first_areas w k (areas_of_body b) (areas_of_fields fs) x)
fields_areas w k (field n m b fs) (suc i) e h x = fields_areas w k fs i e h (last_areas w k (areas_of_body b) (areas_of_fields fs) x)

pub field_areas : (w k : ℕ) (g : Shape) (i : ℕ) (e : Entry) → field_at (fields_in g) i ≡ Some e → LieIn w k (areas_of g) → LieIn w k (areas_of_body e.body)
unfolding areas_of
field_areas w k (shape nid words pointers u fs) i e h x = fields_areas w k fs i e h (last_areas w k (union_area u) (areas_of_fields fs) x)

-- ---- what is there stays there

pub there_after : (s u : Segments) (p : StructPlace) → map length u ≡ map length s → IsThere s p → IsThere u p
there_after s u p e h = record { words = words_stay s u (place_view p.start) (p.data_words + p.pointers) e h.words; near = h.near }

-- the fields of its own schema
pub field_inside : (p : StructPlace) (s : StructSchema) (f : Field) → f.parent ≡ s → HoldsShape p (shape_of_struct s) → LieIn p.data_words p.pointers (areas_of (shape_of_struct f.parent))
field_inside p s f e h = subst (λ x. LieIn p.data_words p.pointers (areas_of (shape_of_struct x))) (sym e) (areas_inside s p h)

-- ---- a struct's sizes, by the record of its node

module _ (s : StructSchema) (r : StructNode) (is : IsRecordOf (nodes_around s) (id_of s) r) (p : StructPlace) where
  pub words_said : words_of_shape (shape_of_struct s) ≡ r.words
  words_said = ap words_of_shape is.shape

  pub pointers_said : pointers_of_shape (shape_of_struct s) ≡ r.pointers
  pointers_said = ap pointers_of_shape is.shape

  pub wide : r.words ≤ p.data_words → r.pointers ≤ p.pointers → HoldsShape p (shape_of_struct s)
  wide a b = record { words = subst (λ n. n ≤ p.data_words) (sym words_said) a; pointers = subst (λ n. n ≤ p.pointers) (sym pointers_said) b }

  pub too_few_words : p.data_words < r.words → HoldsShape p (shape_of_struct s) → ⊥
  too_few_words l h = let a = h.words in let e = words_said in omega (arith, l, a, e)

  pub too_few_pointers : p.pointers < r.pointers → HoldsShape p (shape_of_struct s) → ⊥
  too_few_pointers l h = let a = h.pointers in let e = pointers_said in omega (arith, l, a, e)
