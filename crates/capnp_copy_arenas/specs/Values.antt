-- What becomes of a pointer's value.
use Rattle.std.specs.Prelude.{◌≡◌, ℕ, suc, Ok, replicate}
use Rattle.capnp_model.specs.Segments.{Segments, Place}
use Rattle.capnp_model.specs.Pointers.{Object, Found, found_at}
use Rattle.capnp_model.specs.Trees.{Tree}
use Rattle.capnp_model_writes.specs.Footprints.{Owns}
use Rattle.capnp_model_writes.specs.Changes.{Replaces}
use Rattle.capnp_model_writes.specs.NewObjects.{New, new_words, new_pointer, new_object, new_tree, Fits}

-- Whatever value is owned there becomes the tree, and nothing else changes.
abbrev pub Becomes : Segments → Segments → Place → Tree → Type 0
Becomes s u p v = (n : ℕ) (t : Tree) → Owns n s p t → Replaces (suc n) s u p v

-- The pointer at a place leads to the object, over a pad or not.
abbrev pub LeadsTo : Segments → Place → Object → Type 0
LeadsTo s p o = (pads : ℕ) × (found_at s p ≡ Ok (record { pads = pads; object = o }))

-- The value becomes that of any new object of n zero words whose pointer's word is this one, but
-- for the offset.
abbrev pub BecomesZeros : Segments → Segments → Place → ℕ → ℕ → Type 0
BecomesZeros s u p n w = (x : New) → new_words x ≡ replicate n 0 → new_pointer 0 x ≡ w → Fits x → Becomes s u p (new_tree x)

-- The pointer at a place leads to any such object, where it begins at a place.
abbrev pub LeadsToZeros : Segments → Place → Place → ℕ → ℕ → Type 0
LeadsToZeros s p r n w = (x : New) → new_words x ≡ replicate n 0 → new_pointer 0 x ≡ w → Fits x → LeadsTo s p (new_object r x)
