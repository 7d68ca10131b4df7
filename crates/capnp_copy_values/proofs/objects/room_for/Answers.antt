-- What is told of the words is told of the object.
use Rattle.std.proofs.Common.{◌≡◌, ◌⊎◌, ◌↔◌, ◌<◌, ◌≤◌, ◌+◌, ◌^◌, inl, inr, ℕ, Result, Ok, Err, OnErr, IfOk, IfErr, subst}
use Rattle.std.proofs.lemmas.Result.{err_from_is_err_and}
use Rattle.capnp_units.specs.Segments.{words_in}
use Rattle.capnp_units.specs.declared.errors.Error.{Error}
use Rattle.capnp_units.specs.declared.kinds.ErrorKind.{ErrorKind}
use Rattle.capnp_units.specs.declared.kinds.ErrorKind.TheVariants.{SizeOverflow}
use Rattle.capnp_copy_arenas.specs.Allocations.{total_words, NoRoom}
use Rattle.capnp_copy_arenas.specs.Refusals.{IsSizeOrRefusal}
use Rattle.capnp_copy_arenas.specs.Rooms.{IsNearWhereRoom, UsesRoomNear}
use Rattle.capnp_copy_arenas.proofs.lemmas.Refusals.{size_or_refusal}
use Rattle.capnp_copy_values.proofs.objects.room_for.Goals as goal

on_err : {X Y P Q : Type 0} (f : P → Q) (r : Result X Y) → OnErr r P → OnErr r Q
on_err f (Ok x) h = tt
on_err f (Err e) h = f h

told_refusal : {T X : Type 0} (R : X → ℕ → ErrorKind → Type 0) (P : Type 0) (K : Error → Type 0) (x : X) (n : ℕ) (r : Result T Error) → ((e : Error) → K e → (e.kind ≡ SizeOverflow) ↔ P) → IfErr r K → IfErr r (λ e. P ⊎ R x n e.kind) → IfErr r (IsSizeOrRefusal R)
told_refusal R P K x n (Ok y) f k h = tt
told_refusal R P K x n (Err e) f k h = size_or_refusal R P x n e (f e k) h

pub returns-clause-near : goal.returns-clause-near
returns-clause-near g c =
    let s = words_in (g.A.ReaderArena.segments c.args.arena.now) in
    let free = g.A.BuilderArena.room c.args.arena.now in
    subst (λ (n : ℕ). IfOk c.allocate_near.result (IsNearWhereRoom s free c.args.slot.segment n)) c.in_ok-words.ensures.words.0 c.allocate_near.ensures.near

pub returns-clause-full : goal.returns-clause-full
returns-clause-full g c =
    let s = words_in (g.A.ReaderArena.segments c.args.arena.now) in
    let free = g.A.BuilderArena.room c.args.arena.now in
    on_err (λ h. inr (subst (λ (n : ℕ). NoRoom s free c.args.slot.segment n) c.in_ok-words.ensures.words.0 h)) c.allocate_near.result c.allocate_near.ensures.full

pub returns-clause-cause : goal.returns-clause-cause
returns-clause-cause g c =
    let s = words_in (g.A.ReaderArena.segments c.args.arena.now) in
    let n : ℕ = c.in_ok-words.words in
    told_refusal g.A.BuilderArena.refuses (2 ^ 29 ≤ total_words s + (n + 1)) (λ e. (0 < n) × ((e.kind ≡ SizeOverflow) ↔ (2 ^ 29 ≤ total_words s + (n + 1)))) c.args.arena.now (n + 1) c.allocate_near.result (λ e kind. kind.1) c.allocate_near.ensures.kind c.allocate_near.ensures.cause

pub returns-in_err-words-clause-full : goal.returns-in_err-words-clause-full
returns-in_err-words-clause-full g c =
    let p = err_from_is_err_and c.from_residual.result c.from_residual.ensures.1 in
    rw p.1 (inl c.in_err-words.ensures.kind.1)

pub returns-in_err-words-clause-cause : goal.returns-in_err-words-clause-cause
returns-in_err-words-clause-cause g c =
    let p = err_from_is_err_and c.from_residual.result c.from_residual.ensures.1 in
    rw (p.1, p.2) (inl c.in_err-words.ensures.kind.0)

pub returns-clause-left : goal.returns-clause-left
returns-clause-left g c =
    let free = g.A.BuilderArena.room c.args.arena.now in
    let left = g.A.BuilderArena.room c.allocate_near.new.arena in
    subst (λ (n : ℕ). IfOk c.allocate_near.result (UsesRoomNear free left c.args.slot.segment n)) c.in_ok-words.ensures.words.0 c.allocate_near.ensures.left
