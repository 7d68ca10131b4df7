-- The root word, and what is behind it.
use Rattle.std.proofs.Common.{◌≡◌, ℕ, Err, refl, ap, ◌∙◌, subst, arith}
use Rattle.std.proofs.lemmas.Result.{err_from_is_err_and}
use Rattle.capnp_model.specs.Segments.{Segments, Place}
use Rattle.capnp_model.specs.Traversal.{tree_at}
use Rattle.capnp_model.specs.Trimming.{trim}
use Rattle.capnp_units.specs.declared.errors.Error.{Error}
use Rattle.capnp_units.specs.Segments.{words_in}
use Rattle.capnp_wire_objects.specs.Places.{place_view}
use Rattle.capnp_wire_canonical.specs.Reaches.{reach}
use Rattle.capnp_wire_canonical.specs.Writes.{filled}
use Rattle.capnp_wire_canonical.specs.Copies.{WritesCopy, copy_state}
use Rattle.capnp_wire_canonical.specs.Objects.{write_spot, value_copy, canonical_copy}
use Rattle.capnp_wire_canonical.proofs.Copying.{no_room, made_of, behind_none}
use Rattle.capnp_wire_canonical.proofs.Rooms.{no_room_for_root}
use Rattle.capnp_wire_canonical.proofs.Objects.{filled_length, root_written}
use Rattle.capnp_wire_canonical.proofs.copy.write_canonical.Goals as goal

pub returns-in_err-used : goal.returns-in_err-used
returns-in_err-used g c =
    let s : Segments = words_in (g.A.ReaderArena.segments c.args.arena.now) in
    let p : Place = place_view c.args.place in
    let old = c.args.into.now in
    let l = c.args.limiter.now in
    let r = err_from_is_err_and c.from_residual.result c.from_residual.ensures.1 in
    let full = c.in_err-used.ensures.1 in
    no_room (canonical_copy (reach c.args.levels s) p) (copy_state old l) c.from_residual.result c.in_err-used.field-0.0 (r.1 ∙ ap (λ (y : Error). Err y) r.2) c.in_err-used.ensures.0 (omega arith)
    (no_room_for_root (tree_at c.args.levels s p) old (omega arith))

pub returns : goal.returns
returns g c =
    let s : Segments = words_in (g.A.ReaderArena.segments c.args.arena.now) in
    let p : Place = place_view c.args.place in
    let n = c.args.levels in
    let old = c.args.into.now in
    let used = c.in_ok-used.used in
    let one : used ≡ 1 = c.in_ok-used.ensures.0 in
    let bound = c.in_ok-used.ensures.1 in
    let x = subst (λ (j : ℕ). WritesCopy (value_copy (reach n s) p (write_spot 0 j)) (copy_state old c.args.limiter.now) c.write_at.result (copy_state c.write_at.new.into c.write_at.new.limiter)) one c.write_at.ensures in
    made_of (value_copy (reach n s) p (write_spot 0 1)) (canonical_copy (reach n s) p) (copy_state old c.args.limiter.now) (copy_state old c.args.limiter.now) (copy_state c.write_at.new.into c.write_at.new.limiter) c.write_at.result refl refl
    (λ t is. (t, is, (λ clean. clean), root_written (trim t) (filled 1 old) (filled_length 1 old (omega arith)))) (λ t is. (t, is)) (behind_none 1 old) (omega arith) (omega arith) (omega arith) x
