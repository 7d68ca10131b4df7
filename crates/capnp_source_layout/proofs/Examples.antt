-- Worked examples: structs as the compiler laid them out.
use Rattle.std.proofs.Common.{◌≡◌, ℕ, List, None, Some, [], ◌∷◌, refl, arith}
use Rattle.capnp_source_layout.specs.declared.sections.DataSize.TheVariants.{Bit, Byte, TwoBytes, FourBytes, EightBytes}
use Rattle.capnp_source_layout.specs.declared.structs.FieldSize.TheVariants.{Data, Pointer}
use Rattle.capnp_source_layout.specs.declared.structs.Scope.{Scope}
use Rattle.capnp_source_layout.specs.declared.structs.Scope.TheVariants.{Struct, Union, Member}
use Rattle.capnp_source_layout.specs.declared.structs.Step.TheVariants.{Field}
use Rattle.capnp_source_layout.specs.Sections.{offsets_of, words_of}
use Rattle.capnp_source_layout.specs.Slots.{data_slot, pointer_slot, field_slots, discriminant_slots, outward, AreAlternatives, AreApart}

-- UInt16, Bool and an enum: the flag takes the hole behind the first number, and the enum the next place of its size
leaf : offsets_of (TwoBytes ∷ Bit ∷ TwoBytes ∷ []) ≡ 0 ∷ 16 ∷ 2 ∷ []
leaf = refl

-- holes of every size are filled
item : offsets_of (TwoBytes ∷ EightBytes ∷ TwoBytes ∷ Bit ∷ FourBytes ∷ TwoBytes ∷ EightBytes ∷ []) ≡ 0 ∷ 1 ∷ 1 ∷ 32 ∷ 4 ∷ 3 ∷ 3 ∷ []
item = refl

item_words : words_of (TwoBytes ∷ EightBytes ∷ TwoBytes ∷ Bit ∷ FourBytes ∷ TwoBytes ∷ EightBytes ∷ []) ≡ 4
item_words = refl

bytes_in_holes : offsets_of (TwoBytes ∷ Bit ∷ EightBytes ∷ Byte ∷ TwoBytes ∷ Byte ∷ EightBytes ∷ []) ≡ 0 ∷ 16 ∷ 1 ∷ 3 ∷ 2 ∷ 6 ∷ 2 ∷ []
bytes_in_holes = refl

-- a union of two UInt16 and a text after it: the members share the first 16 bits, and the discriminant, which comes with the second member, takes the next 16
scopes : List Scope
scopes = Struct ∷ Union 0 ∷ Member 1 ∷ Member 1 ∷ []

fields : field_slots 1 (Field 2 (Data TwoBytes) ∷ Field 3 (Data TwoBytes) ∷ Field 0 Pointer ∷ []) (0 ∷ 0 ∷ 0 ∷ []) ≡ data_slot 2 16 0 ∷ data_slot 3 16 0 ∷ pointer_slot 1 0 0 ∷ []
fields = refl

discriminants : discriminant_slots scopes (None ∷ Some 1 ∷ None ∷ None ∷ []) ≡ data_slot 0 16 1 ∷ []
unfolding scopes
discriminants = refl

-- the two members are of one union, so they may overlap
outside : outward scopes 1 2 ≡ 0
unfolding scopes
outside = refl

members : AreAlternatives scopes 2 3
unfolding scopes
members = record { union = 1; from_a = 0; from_b = 0; one = refl; other = refl; differ = λ e. omega (arith, e) }

-- a member and the discriminant do not overlap
discriminant : AreApart scopes (data_slot 2 16 0) (data_slot 0 16 1)
discriminant o = absurd (omega (arith, o.2, o.3))
