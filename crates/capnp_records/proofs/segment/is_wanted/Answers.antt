use Rattle.std.proofs.Common.{ap, sym, ◌∙◌}
use Rattle.capnp_model.specs.Segments.{root}
use Rattle.capnp_units.specs.Errors.{kind_of}
use Rattle.capnp_units.specs.Segments.{words_in}
use Rattle.capnp_records.specs.Segments.{wants}
use Rattle.capnp_records.specs.declared.segment.Wanted.{Wanted}
use Rattle.capnp_records.proofs.lemmas.Segments.{wanted_by_form, no_value}
use Rattle.capnp_records.proofs.segment.is_wanted.Goals as goal

pub returns-in-Ok : goal.returns-in-Ok
returns-in-Ok g c = λ t there.
    let s = words_in (g.A.ReaderArena.segments c.args.arena.now) in
    c.opens_as.ensures
    ∙ wanted_by_form c.values_by_levels.ensures.trees 63 s root c.in-Ok.found t c.in-Of.ty c.in-Ok.ensures.object there
    ∙ ap (λ (w : Wanted). wants w t) (sym c.in-Of.is)

pub returns-in-Err : goal.returns-in-Err
returns-in-Err g c = λ t there.
    let s = words_in (g.A.ReaderArena.segments c.args.arena.now) in
    absurd (no_value c.values_on_walks.ensures.cost c.values_by_levels.ensures.refused 63 s root t (kind_of c.in-Err.field-0.kind) c.in-Err.ensures.object there)
