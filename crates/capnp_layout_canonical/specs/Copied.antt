-- Canonical copies of what readers stand at. (Encoding, "Canonicalization")
use Rattle.std.specs.Prelude.{◌≡◌, ⊤, ℕ, List, MatchOption, Result}
use Rattle.capnp_model.specs.Segments.{Segments, Place}
use Rattle.capnp_units.specs.declared.errors.Error.{Error}
use Rattle.capnp_units.specs.declared.limiter.ReadLimiter.{ReadLimiter}
use Rattle.capnp_wire.specs.Views.{PointerView}
use Rattle.capnp_copy_values.specs.Copies.{copy_source, limited_words, FollowsFew}
use Rattle.capnp_copy_values.specs.Canonical.{LentCopy, lent_copy, CopiesCanonical, WritesFew}
use Rattle.capnp_layout_builders.specs.Copied.{Walk, Charged, WithoutLevels, BecomesNull}

-- The pointer of a message that gets a value, and the message's words before and after.
pub record SlotChange : Type 0 where
  pub old : Segments
  pub new : Segments
  pub slot : Place

abbrev pub slot_changed : Segments → Segments → Place → SlotChange
slot_changed s u p = record { old = s; new = u; slot = p }

-- The value of a pointer is put in place of that of another, trimmed, by way of lent words, which are these after it. Or it
-- is refused, and all words stand.
pub record CopiesThrough (x : LentCopy) (after : List (List ℕ)) (y : SlotChange) (old : ReadLimiter) (result : Result ⊤ Error) (new : ReadLimiter) : Type 0 where
  pub copy : CopiesCanonical x y.slot (limited_words y.old old) result (limited_words y.new new)
  pub few : FollowsFew old new
  pub written : WritesFew old new x.lent after

-- A canonical copy of a pointer's value that is read is put in place of the value at p; a pointer that stands nowhere is null.
abbrev pub CopiesPointerCanonical : PointerView → List (List ℕ) → List (List ℕ) → Segments → Segments → Place → Walk
CopiesPointerCanonical v lent after s u p old result new =
    MatchOption v.levels (WithoutLevels s u old result new × (after ≡ lent)) (λ n.
    MatchOption v.place (BecomesNull s u p old result new × (after ≡ lent)) (λ q.
    Charged v.basis.paid (CopiesThrough (lent_copy (copy_source n v.basis.segments q) lent) after (slot_changed s u p)) old result new))
