-- What the root of a message reads as.
use Rattle.std.specs.Prelude.{◌≡◌, ℕ, ℤ, List, [], ◌∷◌, None, Result, Ok, Err}
use Rattle.capnp_model.specs.Answers.{levels}
use Rattle.capnp_model.specs.Kinds.{Kind}
use Rattle.capnp_units.specs.declared.errors.Error.{Error}
use Rattle.capnp_units.specs.declared.limiter.ReadLimiter.{ReadLimiter}
use Rattle.capnp_wire_objects.specs.Places.{seen}
use Rattle.capnp_wire.specs.Reads.{root_of}
use Rattle.capnp_wire.specs.Views.{PointerView, arena_ground}

-- The root pointer is read so; where there is none the read is refused by the kind that says so, and takes nothing. (Encoding, "Messages")
abbrev pub ReadsRoot : {T : Type 0} → (PointerView → ReadLimiter → Result T Error → ReadLimiter → Type 0) → Result PointerView Kind → ReadLimiter → Result T Error → ReadLimiter → Type 0
ReadsRoot reads (Ok p) old result new = reads p old result new
ReadsRoot reads (Err kind) old result new = (seen (λ t. t) result ≡ Err kind) × (new ≡ old)

-- A pointer that isn't there, which reads as null, over an arena under a nesting limit.
abbrev pub no_pointer : List (List ℕ) → ℤ → PointerView
no_pointer bytes nesting = record { basis = arena_ground bytes; place = None; levels = levels nesting }

-- The root pointer of a message that is built; it is null where nothing was written. (Encoding, "Messages")
abbrev pub built_root : List (List ℕ) → ℤ → Result PointerView Kind
built_root [] nesting = Ok (no_pointer [] nesting)
built_root (bytes ∷ segments) nesting = root_of (bytes ∷ segments) nesting
