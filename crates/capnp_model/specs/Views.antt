-- What a struct's fields read: its data section and its children.
use Rattle.std.specs.Prelude.{◌≡◌, ℕ, List, [], ◌∷◌}
use Rattle.capnp_model.specs.Schemas.{Ty}
use Rattle.capnp_model.specs.Readings.{Children, Extent, field_bits}
use Rattle.capnp_model.specs.Accepted.{Area, bit_area, pointer_area}

-- The extent of the data section, the section, and what the children read as.
pub record View : Type 0 where
  pub size : Extent
  pub section : ℕ
  pub kids : Children

-- Two views have the same bits, or the same child, in an area.
abbrev pub SameAt : Area → View → View → Type 0
SameAt (bit_area a n) v v' = field_bits v.size v.section a n ≡ field_bits v'.size v'.section a n
SameAt (pointer_area i) v v' = (ty : Ty) → v.kids i ty ≡ v'.kids i ty

-- They are the same in each of the areas.
abbrev pub SameAll : List Area → View → View → Type 0
SameAll [] v v' = Unit {0}
SameAll (x ∷ xs) v v' = SameAt x v v' × SameAll xs v v'
