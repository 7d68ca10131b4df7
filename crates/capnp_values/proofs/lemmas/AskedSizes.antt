-- The sizes of elements that lists are asked for with.
use Rattle.std.proofs.Common.{◌≡◌, ◌==◌, if◌then◌else◌, Bool, true, false, refl}
use Rattle.capnp_model.specs.Schemas.{width, Ty, void, plain, text, blob, untyped, interface, struct, list}
use Rattle.capnp_model.specs.Readings.{expected_size}
use Rattle.capnp_units.specs.declared.sizes.ElementSize.TheVariants.{Bit, Byte, TwoBytes, FourBytes, EightBytes}
use Rattle.capnp_units.specs.Sizes.{size_number}
use Rattle.capnp_values.specs.ListSizes.{size_of}

-- Lists are asked for with the size that they are written with.
pub size_asked : (ty : Ty) → size_number (size_of ty) ≡ expected_size ty
size_asked void = refl
size_asked (plain p) = by (width p == 1) (width p == 8) (width p == 16) (width p == 32)
  where
    by : (a b c d : Bool) → size_number (if a then Bit else (if b then Byte else (if c then TwoBytes else (if d then FourBytes else EightBytes)))) ≡ (if a then 1 else (if b then 2 else (if c then 3 else (if d then 4 else 5))))
    by true b c d = refl
    by false true c d = refl
    by false false true d = refl
    by false false false true = refl
    by false false false false = refl
size_asked text = refl
size_asked blob = refl
size_asked untyped = refl
size_asked interface = refl
size_asked (struct id) = refl
size_asked (list ty) = refl
