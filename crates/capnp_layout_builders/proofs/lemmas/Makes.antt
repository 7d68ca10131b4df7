-- What is told of a result, by what it is.
use Rattle.std.proofs.Common.{◌≡◌, ◌⊎◌, ◌↔◌, ℕ, ◌+◌, ◌*◌, ◌^◌, ◌≤◌, Result, Ok, Err, IfErr, OnOk, OnErr}
use Rattle.capnp_model.specs.Sections.{words_for}
use Rattle.capnp_model.specs.Trees.{Tree}
use Rattle.capnp_units.specs.declared.errors.Error.{Error}
use Rattle.capnp_units.specs.declared.kinds.ErrorKind.TheVariants.{SizeOverflow}
use Rattle.capnp_units.specs.Segments.{words_in}
use Rattle.capnp_wire_objects.specs.declared.place.Place as code
use Rattle.capnp_wire_objects.specs.Places.{place_view}
use Rattle.capnp_copy_arenas.specs.Allocations.{total_words, TakesJust, TakesAtMost, NoRoom}
use Rattle.capnp_copy_arenas.specs.Values.{Becomes}
use Rattle.capnp_layout_builders.specs.Making.{ArenaState, Makes, BytesNotSet}

pub makes_if : {X E : Type 0} (old new : ArenaState) (slot : code.Place) (v : Tree) (n : ℕ) (r : Result X E) → OnOk r (Becomes (words_in old.segments) (words_in new.segments) (place_view slot) v) → OnOk r (TakesJust (words_in old.segments) old.room (words_in new.segments) slot.segment n) → OnOk r (TakesAtMost (words_in old.segments) (words_in new.segments) n 1) → new.books ≡ old.books → OnOk r (Makes old new slot v n)
makes_if old new slot v n (Ok x) b t m k = record { becomes = b; taken = t; bound = m; books = k }
makes_if old new slot v n (Err e) b t m k = tt

pub not_set_if : {X : Type 0} (old new : ArenaState) (segment n : ℕ) (r : Result X Error) → IfErr r (λ e. (e.kind ≡ SizeOverflow) ↔ ((2 ^ 29 ≤ n) ⊎ (2 ^ 29 ≤ total_words (words_in old.segments) + (words_for (8 * n) + 1)))) → OnErr r ((2 ^ 29 ≤ n) ⊎ NoRoom (words_in old.segments) old.room segment (words_for (8 * n))) → OnErr r (new.segments ≡ old.segments) → new.books ≡ old.books → IfErr r (BytesNotSet old new segment n)
not_set_if old new segment n (Ok x) h f s k = tt
not_set_if old new segment n (Err e) h f s k = ((h, f), (s, k))
