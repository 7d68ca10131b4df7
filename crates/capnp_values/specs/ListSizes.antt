-- The sizes that lists are asked for with, by the type of their elements. (Encoding, "Lists")
use Rattle.std.specs.Prelude.{◌==◌, if◌then◌else◌}
use Rattle.capnp_model.specs.Schemas.{width, Ty, void, plain, text, blob, untyped, interface, struct, list}
use Rattle.capnp_units.specs.declared.sizes.ElementSize.{ElementSize}
use Rattle.capnp_units.specs.declared.sizes.ElementSize.TheVariants as size

-- The size that lists of the type are asked for with.
abbrev pub size_of : Ty → ElementSize
size_of void = size.Void
size_of (plain p) = if width p == 1 then size.Bit else (if width p == 8 then size.Byte else (if width p == 16 then size.TwoBytes else (if width p == 32 then size.FourBytes else size.EightBytes)))
size_of (struct id) = size.InlineComposite
size_of text = size.Pointer
size_of blob = size.Pointer
size_of untyped = size.Pointer
size_of interface = size.Pointer
size_of (list ty) = size.Pointer
