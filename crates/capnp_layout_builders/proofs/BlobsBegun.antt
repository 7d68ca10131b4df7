-- Texts and data that are got, with a default in place of null.
use Rattle.std.proofs.Common.{◌≡◌, ◌⊎◌, ℕ, List, Option, Some, Result, Ok, Err, IfOk, sym}
use Rattle.capnp_model.specs.Kinds.{Kind}
use Rattle.capnp_model.specs.Segments.{Segments, word_at}
use Rattle.capnp_model.specs.Pointers.{a_list}
use Rattle.capnp_units.specs.declared.errors.Error.{Error}
use Rattle.capnp_wire_objects.specs.declared.place.Place as code
use Rattle.capnp_wire_objects.specs.Places.{place_view, seen}
use Rattle.capnp_copy_arenas.specs.declared.bytes.BlobPlace.{BlobPlace}
use Rattle.capnp_copy_arenas.specs.Values.{LeadsTo}
use Rattle.capnp_layout_builders.specs.Blobs.{BlobGot}
use Rattle.capnp_layout_builders.specs.Gets.{Begins}
use Rattle.capnp_layout_builders.proofs.lemmas.Begun.{Laws, listed_then}

pub got_by : (named : Segments → code.Place → Result BlobPlace Kind) (whole : ℕ → ℕ) (l : Laws) (default : Option (List (List ℕ))) (s u : Segments) (slot : code.Place) → Begins default s u (place_view slot) (Ok tt) → (r : Result BlobPlace Error) → seen (λ o. o) r ≡ named u slot → IfOk r (λ o. (word_at u (place_view slot) ≡ Some 0) ⊎ LeadsTo u (place_view slot) (a_list (place_view o.start) 2 (whole o.count))) → IfOk r (BlobGot named whole default s u slot)
got_by named whole l default s u slot b (Err e) is o = tt
got_by named whole l default s u slot b (Ok x) is o = record { begins = b; value = listed_then l default s u (place_view slot) tt b; blob = sym is; object = o }
