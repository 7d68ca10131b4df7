-- Canonical copies by way of words of their own. (Encoding, "Canonicalization")
use Rattle.std.specs.Prelude.{◌≡◌, ◌⊎◌, ℕ, ◌+◌, ◌-◌, ◌^◌, min, List, length, Result, Ok, Err, ⊤}
use Rattle.capnp_model.specs.Segments.{Segments, Place}
use Rattle.capnp_units.specs.declared.errors.Error.{Error}
use Rattle.capnp_units.specs.declared.kinds.ErrorKind.TheVariants.{OutOfMemory}
use Rattle.capnp_units.specs.declared.limiter.ReadLimiter.{ReadLimiter}
use Rattle.capnp_units.specs.declared.sizes.MessageSize.{MessageSize}
use Rattle.capnp_wire.specs.Views.{PointerView}
use Rattle.capnp_wire.specs.ValueSizes.{PointerSize}
use Rattle.capnp_layout_builders.specs.Copied.{Walk}
use Rattle.capnp_layout_canonical.specs.Copied.{CopiesPointerCanonical}

-- The value is measured, then copied by way of as many words as its objects have, and one, but no more than a message has.
pub record CopiesMeasured (v : PointerView) (s u : Segments) (p : Place) (old : ReadLimiter) (result : Result ⊤ Error) (new : ReadLimiter) : Type 0 where
  pub size : MessageSize
  pub mid : ReadLimiter
  pub measured : PointerSize v old (Ok size) mid
  pub lent : List (List ℕ)
  pub after : List (List ℕ)
  pub room : length lent ≡ min size.word_count (2 ^ 29 - 2) + 1
  pub copy : CopiesPointerCanonical v lent after s u p mid result new

-- The value is measured, and there is no memory for those words.
abbrev pub IsWithoutRoom : PointerView → ReadLimiter → Error → ReadLimiter → Type 0
IsWithoutRoom v old e new = (e.kind ≡ OutOfMemory) × ((size : MessageSize) × PointerSize v old (Ok size) new)

-- Nothing is copied: the value can't be measured, or there is no memory.
abbrev pub IsUnmeasured : PointerView → Segments → Segments → ReadLimiter → Error → ReadLimiter → Type 0
IsUnmeasured v s u old e new = (u ≡ s) × (PointerSize v old (Err e) new ⊎ IsWithoutRoom v old e new)

-- The value is measured and copied, or refused before, and all stands.
abbrev pub MeasuresAndCopies : PointerView → Segments → Segments → Place → Walk
MeasuresAndCopies v s u p old (Ok done) new = CopiesMeasured v s u p old (Ok done) new
MeasuresAndCopies v s u p old (Err e) new = IsUnmeasured v s u old e new ⊎ CopiesMeasured v s u p old (Err e) new
