-- The words of a list, without the bits behind its last element.
use Rattle.std.proofs.Common.{◌≡◌, ℕ, ◌*◌, ◌%◌, ◌^◌, [], Err, ap, sym, ◌∙◌, arith}
use Rattle.std.proofs.lemmas.Result.{err_from_is_err_and}
use Rattle.capnp_model.specs.Sections.{words_for}
use Rattle.capnp_model.specs.Segments.{Segments}
use Rattle.capnp_model.specs.Trees.{size_bits, has_capability}
use Rattle.capnp_model.specs.Traversal.{tree_at}
use Rattle.capnp_model.specs.Trimming.{trim}
use Rattle.capnp_units.specs.declared.errors.Error.{Error}
use Rattle.capnp_units.specs.Segments.{words_in}
use Rattle.capnp_units.specs.Sizes.{size_number, data_bits}
use Rattle.capnp_wire_objects.specs.declared.object.Object.TheVariants as object
use Rattle.capnp_wire_objects.specs.Places.{place_view}
use Rattle.capnp_wire_objects.specs.Inside.{section_at, tree_in}
use Rattle.capnp_wire_objects.proofs.lemmas.Measuring.{data_bits_plain}
use Rattle.capnp_wire_canonical.specs.Copies.{copy_state}
use Rattle.capnp_wire_canonical.specs.Writes.{with_link}
use Rattle.capnp_wire_canonical.proofs.Copying.{no_room}
use Rattle.capnp_wire_canonical.proofs.Rooms.{no_room_for_list}
use Rattle.capnp_wire_canonical.proofs.Finals.{own_at_least}
use Rattle.capnp_wire_canonical.proofs.list_copies.write_list.Goals as goal

pub returns-in_err-end_of : goal.returns-in_err-end_of
returns-in_err-end_of g c = λ levels l most room.
    let s : Segments = words_in (g.A.ReaderArena.segments c.args.arena.now) in
    let z = size_number c.args.list.size in
    let n = c.args.list.count in
    let o = object.List c.args.list.start c.args.list.size n in
    let old = c.args.into.now in
    let e = c.in_err-end_of.field-0.0 in
    let r = err_from_is_err_and c.from_residual.result c.from_residual.ensures.1 in
    let own = own_at_least z n in
    let bits : ℕ = data_bits z * n in
    let section = section_at s (place_view c.args.list.start) (words_for bits) in
    let words : c.args.list.words ≡ words_for (data_bits z * n) = (c.requires.measured.1 ∙ ap words_for c.requires.measured.0) in
    let same : words_for (data_bits z * n) ≡ words_for (size_bits z * n) = ap (λ (j : ℕ). words_for (j * n)) (sym (data_bits_plain z c.requires.inside.0)) in
    let full = c.in_err-end_of.ensures.1 in
    no_room (record { there = tree_in s (tree_at levels s) o; bad = has_capability; put = λ t. with_link c.args.at (trim t); path = []; used = c.args.used; most = most }) (copy_state old l) c.from_residual.result e (r.1 ∙ ap (λ (y : Error). Err y) r.2) c.in_err-end_of.ensures.0 (omega arith)
    (no_room_for_list c.args.at c.args.used c.args.list.words old c.requires.place.1 full z n (section % 2 ^ bits) (omega arith))
