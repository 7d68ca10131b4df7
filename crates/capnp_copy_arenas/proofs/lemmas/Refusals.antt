-- A refusal of an arena is one of its allocator, or of the list of its segments.
use Rattle.std.proofs.Common.{◌≡◌, ◌⊎◌, ◌↔◌, ◌-◌, ◌^◌, ◌≤◌, ℕ, inl, inr, length, vec_capacity, ap, subst, arith}
use Rattle.capnp_units.specs.declared.errors.Error.{Error}
use Rattle.capnp_units.specs.declared.kinds.ErrorKind.{ErrorKind}
use Rattle.capnp_units.specs.declared.kinds.ErrorKind.TheVariants.{SizeOverflow}
use Rattle.capnp_copy_arenas.specs.Refusals.{IsSizeOrRefusal, arena_refuses, CannotGrow}
use Rattle.capnp_copy_arenas.specs.declared.allocator.Allocator.{Ghosts as Allocator}
use Rattle.capnp_copy_arenas.specs.declared.allocator.SegmentBytes.{Ghosts as SegmentBytes}
use Rattle.capnp_copy_arenas.specs.declared.segments.BuilderArenaImpl.{BuilderArenaImpl}

-- the message passes its limit just where the kind says so, or the arena refused
pub size_or_refusal : {X : Type 0} (R : X → ℕ → ErrorKind → Type 0) (P : Type 0) (x : X) (n : ℕ) (e : Error) → (e.kind ≡ SizeOverflow) ↔ P → P ⊎ R x n e.kind → IsSizeOrRefusal R e
size_or_refusal R P x n e is (inl p) = inl (is.1 p)
size_or_refusal R P x n e is (inr r) = inr (x, n, r)

-- no more room than before
still_full : (cap was count before : ℕ) → cap ≡ was → count ≡ before → CannotGrow cap count → CannotGrow was before
still_full cap was count before room same (inl l) = inl (omega (arith, room, same, l))
still_full cap was count before room same (inr l) = inr (omega (arith, same, l))

-- an arena with the allocator, the segments and the room for them that another has refuses as that
pub refuses_before : {A S : Type 0} {allocator : Allocator A S} {segment : SegmentBytes S} (now old : BuilderArenaImpl A S allocator segment) (n : ℕ) (kind : ErrorKind) → now.allocator ≡ old.allocator → vec_capacity now.segments ≡ vec_capacity old.segments → now.segments.items ≡ old.segments.items → arena_refuses now n kind → arena_refuses old n kind
refuses_before {A = A} {allocator = allocator} now old n kind one room same (inl r) = inl (subst (λ (a : A). allocator.refuses a n kind) one r)
refuses_before {A = A} {allocator = allocator} now old n kind one room same (inr r) = inr (r.0, still_full (vec_capacity now.segments) (vec_capacity old.segments) (length now.segments.items) (length old.segments.items) room (ap length same) r.1)
