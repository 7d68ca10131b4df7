-- Numbers that are put into slots lie inside the words that a struct has by its schema.
use Rattle.std.proofs.Common.{◌≡◌, ℕ, ◌+◌, ◌*◌, ◌<◌, ◌≤◌, Option, Some, None, List, [], ◌∷◌, ◌++◌, arith}
use Rattle.capnp_model.specs.Schemas.{width, Shape, shape, Fields, no_fields, field, Body, void_slot, plain_slot, pointer_slot, group_slot, words_of_shape, pointers_of_shape}
use Rattle.capnp_model.specs.Accepted.{Area, bit_area, pointer_area, union_area, areas_of, areas_of_fields, areas_of_body}
use Rattle.capnp_model.specs.Printing.{fields_in}
use Rattle.capnp_model.specs.Calls.{CallValue}
use Rattle.capnp_model.specs.Steps.{target, target_of}
use Rattle.capnp_model.proofs.lemmas.FineShapes.{found}
use Rattle.capnp_model.proofs.lemmas.ReachedStructs.{AllInside, IsWithin}
use Rattle.capnp_values_queries.specs.Fields.{union_in}
use Rattle.capnp_calls.specs.PlainFields.{PutsInto}
use Rattle.capnp_calls.specs.Splices.{MarksMember, IsNumberOf}
use Rattle.capnp_calls_splice.specs.declared.plain.PlainSet.{PlainSet}

-- ---- areas

inside_front : (w q : ℕ) (xs ys : List Area) → AllInside w q (xs ++ ys) → AllInside w q xs
inside_front w q [] ys h = tt
inside_front w q (bit_area a n ∷ xs) ys h = (h.0, inside_front w q xs ys h.1)
inside_front w q (pointer_area i ∷ xs) ys h = (h.0, inside_front w q xs ys h.1)

inside_back : (w q : ℕ) (xs ys : List Area) → AllInside w q (xs ++ ys) → AllInside w q ys
inside_back w q [] ys h = h
inside_back w q (bit_area a n ∷ xs) ys h = inside_back w q xs ys h.1
inside_back w q (pointer_area i ∷ xs) ys h = inside_back w q xs ys h.1

-- Those of a struct lie inside the words and pointers of its schema.
pub shape_inside : (g : Shape) → IsWithin g → AllInside (words_of_shape g) (pointers_of_shape g) (areas_of g)
shape_inside (shape nid w p u fs) h = h

pub union_inside : (w q : ℕ) (g : Shape) → AllInside w q (areas_of g) → AllInside w q (union_area (union_in g))
unfolding areas_of
union_inside w q (shape nid words pointers u fs) h = inside_front w q (union_area u) (areas_of_fields fs) h

fields_inside : (w q : ℕ) (n : List ℕ) (fs : Fields) (member : Option ℕ) (body : Body) → target_of n fs ≡ target member body → AllInside w q (areas_of_fields fs) → AllInside w q (areas_of_body body)
unfolding areas_of
fields_inside w q n no_fields member body e h = absurd (cc e)
fields_inside w q n (field l m b fs) member body e h =
    found (λ k c. AllInside w q (areas_of_body c)) n member body l m b fs e (inside_front w q (areas_of_body b) (areas_of_fields fs) h)
    (λ k. fields_inside w q n fs member body k (inside_back w q (areas_of_body b) (areas_of_fields fs) h))

-- Those of a field that a name finds.
pub body_inside : (w q : ℕ) (g : Shape) (n : List ℕ) (member : Option ℕ) (body : Body) → target_of n (fields_in g) ≡ target member body → AllInside w q (areas_of g) → AllInside w q (areas_of_body body)
unfolding areas_of
body_inside w q (shape nid words pointers u fs) n member body e h = fields_inside w q n fs member body e (inside_back w q (union_area u) (areas_of_fields fs) h)

pub group_inside : (w q : ℕ) (g : Shape) → AllInside w q (areas_of_body (group_slot g)) → AllInside w q (areas_of g)
unfolding areas_of
group_inside w q g h = h

-- ---- numbers

-- The word of a number, if there is one, is one of the first.
abbrev pub IsBelow : ℕ → Option PlainSet → Type 0
IsBelow limit None = Unit {0}
IsBelow limit (Some p) = p.word < limit

placed_below : (limit at size : ℕ) (p : PlainSet) → 64 * p.word + p.shift ≡ at → p.width ≡ size → at + size ≤ 64 * limit → p.word < limit
placed_below limit at size p place width inside = let some = p.some in omega (arith, place, width, inside, some)

pub number_below : (limit q : ℕ) (p : PlainSet) (body : Body) (v : CallValue) → PutsInto body v p → AllInside limit q (areas_of_body body) → p.word < limit
unfolding areas_of
number_below limit q p (void_slot j) v h inside = absurd h
number_below limit q p (plain_slot t at d) v h inside = placed_below limit at (width t) p h.place h.width inside.0
number_below limit q p (pointer_slot i ty d) v h inside = absurd h
number_below limit q p (group_slot g) v h inside = absurd h

pub any_below : (limit q : ℕ) (p : Option PlainSet) (body : Body) (v : CallValue) → IsNumberOf p body v → AllInside limit q (areas_of_body body) → IsBelow limit p
any_below limit q None body v h inside = tt
any_below limit q (Some p) body v h inside = number_below limit q p body v h inside

pub mark_below : (limit q : ℕ) (m : PlainSet) (union member : Option ℕ) → MarksMember m union member → AllInside limit q (union_area union) → m.word < limit
mark_below limit q m (Some at) (Some k) h inside = placed_below limit at 16 m h.place h.width inside.0
mark_below limit q m (Some at) None h inside = absurd h
mark_below limit q m None member h inside = absurd h
