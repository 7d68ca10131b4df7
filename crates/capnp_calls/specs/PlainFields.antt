-- Plain slots that calls set by numbers. (Encoding, "Structs")
use Rattle.std.specs.Prelude.{◌≡◌, ℕ, ◌+◌, ◌*◌, bit_xor}
use Rattle.capnp_model.specs.Schemas.{PlainType, width, Body, void_slot, plain_slot, pointer_slot, group_slot}
use Rattle.capnp_model.specs.Calls.{CallValue, bits_of, plain_content}
use Rattle.capnp_calls_splice.specs.declared.plain.PlainSet.{PlainSet}

-- A slot that begins at a bit of the data is set to a value by putting the number, with the slot's default.
pub record SetsPlainSlot (q : PlainType) (at default : ℕ) (v : CallValue) (p : PlainSet) : Type 0 where
  pub value : plain_content q v ≡ bits_of (bit_xor p.bits default)
  pub place : 64 * p.word + p.shift ≡ at
  pub width : p.width ≡ width q

-- What a field is is set to a value by putting the number: a plain slot.
abbrev pub PutsInto : Body → CallValue → PlainSet → Type 0
PutsInto (void_slot j) v p = ⊥
PutsInto (plain_slot q at d) v p = SetsPlainSlot q at d v p
PutsInto (pointer_slot i ty d) v p = ⊥
PutsInto (group_slot g) v p = ⊥
