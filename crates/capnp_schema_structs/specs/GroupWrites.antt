-- What a group is set to, and the writes that set it. (Encoding, "Structs")
use Rattle.std.specs.Prelude.{ℕ, Bool, true, false, Option, List, [], ◌∷◌, ◌++◌}
use Rattle.capnp_model.specs.Trees.{Trees, child}
use Rattle.capnp_model.specs.Schemas.{width, Shape, shape, Fields, no_fields, field, Body, void_slot, plain_slot, pointer_slot, group_slot, Schema, default_or_null}
use Rattle.capnp_model.specs.Readings.{Extent, whole_words, field_bits, discriminant}
use Rattle.capnp_model.specs.Edits.{Cell, Edit, put_bits, mark, cleared, has_turn, pointer_writes}

-- A struct that a group is set to: how far its data section goes, its data and its children. An
-- element of a list of numbers has one of just its bits, and what lies past them reads as zero.
pub record GroupSource : Type 0 where
  pub extent : Extent
  pub section : ℕ
  pub kids : Trees

-- One whose data are whole words, as those of a struct in a message are.
abbrev pub in_words : Cell → GroupSource
in_words c = record { extent = whole_words; section = c.section; kids = c.kids }

-- The writes that set a group to it, in their order; of whole words they are the model's `group_writes`.
unfoldable mutual
  -- The group is cleared, then the source's active member is set, then its other fields by index.
  pub writes_of_group : Schema → Shape → Edit → GroupSource → List Edit
  writes_of_group s (shape nid words pointers union fs) before from =
      let active : Option ℕ = discriminant union from.extent from.section in
      (λ c. cleared (shape nid words pointers union fs) (before c)) ∷ (writes_of_fields s true fs union active from ++ writes_of_fields s false fs union active from)

  -- The writes of the fields that have their turn.
  pub writes_of_fields : Schema → Bool → Fields → Option ℕ → Option ℕ → GroupSource → List Edit
  writes_of_fields s members no_fields union active from = []
  writes_of_fields s members (field n member body fs) union active from =
      elim (has_turn members member active) [
        | true ↦ writes_of_body s body member (mark union member) from ++ writes_of_fields s members fs union active from
        | false ↦ writes_of_fields s members fs union active from
      ]

  -- The writes of a field.
  pub writes_of_body : Schema → Body → Option ℕ → Edit → GroupSource → List Edit
  writes_of_body s (void_slot j) member before from = before ∷ []
  writes_of_body s (plain_slot p at d) member before from = (λ c. put_bits at (width p) (field_bits from.extent from.section at (width p)) (before c)) ∷ []
  writes_of_body s (pointer_slot i ty d) member before from = pointer_writes s member i ty (default_or_null d) before (child from.kids i)
  writes_of_body s (group_slot g) member before from = writes_of_group s g before from
