use Rattle.std.proofs.Common.{option_copied, inl, rules}
use Rattle.std.proofs.lemmas.Result.{err_from_is_err_and}
use Rattle.capnp_model.specs.Segments.{Segments}
use Rattle.capnp_units.specs.Segments.{words_in}
use Rattle.capnp_layout_builders.specs.Blobs.{data_named}
use Rattle.capnp_wire_objects.specs.Places.{place_view}
use Rattle.capnp_layout_builders.proofs.lemmas.Begun.{Laws, refused_as}
use Rattle.capnp_layout_builders.proofs.BlobsBegun.{got_by}
use Rattle.capnp_layout_builders.proofs.blobs.data_here.Goals as goal

pub returns : goal.returns
returns g c =
    let s : Segments = words_in (g.A.ReaderArena.segments c.args.arena.now) in
    let u : Segments = words_in (g.A.ReaderArena.segments c.begin.new.arena) in
    let laws : Laws = record {
      none = c.changes_of_values.ensures.none;
      again = c.changes_of_values.ensures.again;
      owned = c.changes_of_values.ensures.owned;
      more_owned = c.changes_with_more_levels.ensures.owned;
      more_replaced = c.changes_with_more_levels.ensures.replaced;
    } in
    record {
      got = got_by data_named (λ n. n) laws (option_copied c.args.default) s u c.args.slot c.in_ok-begin.ensures.begins c.data_at.result c.data_at.ensures.data c.data_at.ensures.object;
      near = c.data_at.ensures.near;
      refused = refused_as (option_copied c.args.default) s u (place_view c.args.slot) (data_named u c.args.slot) c.in_ok-begin.ensures.begins c.data_at.result c.data_at.ensures.data;
      books = search rules;
    }

pub returns-in_err-begin : goal.returns-in_err-begin
returns-in_err-begin g c =
    let p = err_from_is_err_and c.from_residual.result c.from_residual.ensures.1 in
    let e = c.in_err-begin.ensures in
    rw (p.1, p.2) (record { got = tt; near = tt; refused = inl e.begins; books = e.books })
