-- The numbers of element sizes.
use Rattle.std.proofs.Common.{◌≡◌, refl, arith}
use Rattle.capnp_units.specs.declared.sizes.ElementSize.{ElementSize}
use Rattle.capnp_units.specs.declared.sizes.ElementSize.TheVariants.{Void, Bit, Byte, TwoBytes, FourBytes, EightBytes, Pointer, InlineComposite}
use Rattle.capnp_units.specs.Sizes.{size_number}

-- The number of structs is theirs alone.
pub composite_by_number : (z : ElementSize) → size_number z ≡ 7 → z ≡ InlineComposite
composite_by_number Void e = absurd (omega (arith, e))
composite_by_number Bit e = absurd (omega (arith, e))
composite_by_number Byte e = absurd (omega (arith, e))
composite_by_number TwoBytes e = absurd (omega (arith, e))
composite_by_number FourBytes e = absurd (omega (arith, e))
composite_by_number EightBytes e = absurd (omega (arith, e))
composite_by_number Pointer e = absurd (omega (arith, e))
composite_by_number InlineComposite e = refl
