-- Bytes that are got behind a default that was begun.
use Rattle.std.proofs.Common.{◌≡◌, inl, inr, ℕ, ◌^◌, ◌<◌, Option, None, Result, Ok, Err, IfOk, IfErr, sym, subst}
use Rattle.capnp_model.specs.Coverage.{Grows}
use Rattle.capnp_model.specs.Kinds.{Kind}
use Rattle.capnp_model.specs.Segments.{Segments}
use Rattle.capnp_units.specs.declared.errors.Error.{Error}
use Rattle.capnp_wire_objects.specs.declared.place.Place as code
use Rattle.capnp_wire_objects.specs.Places.{place_view}
use Rattle.capnp_copy_arenas.specs.declared.bytes.BlobPlace.{BlobPlace}
use Rattle.capnp_layout_builders.specs.Blobs.{BlobGot, NoBlobGot}
use Rattle.capnp_schema_values.specs.Defaults.{ByteList, BytesBegin}
use Rattle.capnp_schema_values.specs.Blobs.{BytesGot, NoBytesGot}

module _ (named : Segments → code.Place → Result BlobPlace Kind) (d : Option ByteList) (s m u : Segments) (slot : code.Place) (begun : BytesBegin d s m (place_view slot)) where
  pub bytes_got : (whole : ℕ → ℕ) (o : BlobPlace) → BlobGot named whole None m u slot o → o.start.position < 2 ^ 61 → BytesGot named whole d s u slot o
  bytes_got whole o got near = record {
    begins = subst (λ (x : Segments). BytesBegin d s x (place_view slot)) (sym got.begins.0) begun;
    bytes = got.blob;
    object = got.object;
    near = near;
  }

  pub no_bytes_got : (e : Error) → NoBlobGot named None m u slot e → NoBytesGot named d s u slot e
  no_bytes_got e (inl b) = absurd (cc b.1)
  no_bytes_got e (inr b) = inr (subst (λ (x : Segments). BytesBegin d s x (place_view slot)) (sym b.0.0) begun, b.1)

  -- the same of what is answered
  pub got_if_ok : (whole : ℕ → ℕ) (r : Result BlobPlace Error) → IfOk r (BlobGot named whole None m u slot) → IfOk r (λ o. o.start.position < 2 ^ 61) → IfOk r (BytesGot named whole d s u slot)
  got_if_ok whole (Ok o) got near = bytes_got whole o got near
  got_if_ok whole (Err e) got near = tt

  pub refused_if_err : (r : Result BlobPlace Error) → IfErr r (NoBlobGot named None m u slot) → IfErr r (NoBytesGot named d s u slot)
  refused_if_err (Ok o) h = tt
  refused_if_err (Err e) h = no_bytes_got e h

  -- nothing is written but the default
  same_words : (whole : ℕ → ℕ) (r : Result BlobPlace Error) → IfOk r (BlobGot named whole None m u slot) → IfErr r (NoBlobGot named None m u slot) → u ≡ m
  same_words whole (Ok o) got h = got.begins.0
  same_words whole (Err e) got (inl b) = absurd (cc b.1)
  same_words whole (Err e) got (inr b) = b.0.0

  pub bytes_grow : (whole : ℕ → ℕ) (r : Result BlobPlace Error) → Grows s m → IfOk r (BlobGot named whole None m u slot) → IfErr r (NoBlobGot named None m u slot) → Grows s u
  bytes_grow whole r g got h = subst (Grows s) (sym (same_words whole r got h)) g
