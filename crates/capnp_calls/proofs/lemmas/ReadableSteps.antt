-- The default of a struct can be read.
use Rattle.std.proofs.Common.{◌≡◌, ℕ, true, Option, Some, None}
use Rattle.capnp_model.specs.Schemas.{struct, Value, no_value, bits, text_bytes, blob_bytes, list_segment, struct_segment, untyped_value, interface_value}
use Rattle.capnp_model.specs.Accepted.{is_default_of, opens_as, is_good_value}
use Rattle.capnp_records.proofs.lemmas.Segments.{segment_found}
use Rattle.capnp_calls.specs.Slots.{IsWellTypedDefault, IsReadableDefault}

pub struct_default_found : (id : ℕ) (d : Option Value) → IsWellTypedDefault (struct id) d → IsReadableDefault d
struct_default_found id d h = by d h.is h.reads
  where
    by : (d : Option Value) → is_default_of (struct id) d ≡ true → is_good_value (λ t. opens_as t (struct id)) d ≡ true → IsReadableDefault d
    by None k l = tt
    by (Some no_value) k l = tt
    by (Some (bits q n)) k l = tt
    by (Some (text_bytes bs)) k l = absurd (cc k)
    by (Some (blob_bytes bs)) k l = absurd (cc k)
    by (Some (list_segment bs)) k l = absurd (cc k)
    by (Some (struct_segment bs)) k l = segment_found (λ t. opens_as t (struct id)) bs l
    by (Some untyped_value) k l = tt
    by (Some interface_value) k l = tt
