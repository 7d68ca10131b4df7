use Rattle.std.proofs.Common.{refl}
use Rattle.std.proofs.lemmas.Result.{err_from_is_err_and}
use Rattle.capnp_units.specs.Segments.{words_in}
use Rattle.capnp_layout_builders.proofs.ListsMade.{struct_list_whole}
use Rattle.capnp_layout_builders.proofs.pointer_builder.PointerBuilder.init_struct_list.Goals as goal

pub returns : goal.returns
returns g c =
    let e = c.in_ok-place.ensures in
    let l = c.in_ok-place.ensures.list in
    let u = words_in (g.A.ReaderArena.segments c.init_struct_list.new.arena) in
    let whole = struct_list_whole u c.in_ok-place.place c.args.element_count c.args.element_size.data_words c.args.element_size.pointers l.0 l.1 l.2 l.3 l.4 e.there e.near in
    ((refl, (λ w. refl), tt), record { same = refl; made = (record { becomes = e.value; taken = e.taken; bound = e.bound; books = e.books }, e.object, e.list, (e.there, e.near), whole); kind = tt; cause = tt; refused = tt })

pub returns-in_err-place : goal.returns-in_err-place
returns-in_err-place g c =
    let p = err_from_is_err_and c.from_residual.result c.from_residual.ensures.1 in
    let e = c.in_err-place.ensures in
    rw (p.1, p.2) ((refl, (λ w. tt), (e.refused, e.books)), record { same = tt; made = tt; kind = (e.kind, e.full); cause = e.cause; refused = tt })
