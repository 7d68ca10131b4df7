use Rattle.std.proofs.Common.{true, false, inl, inr, sym, ◌∙◌, subst}
use Rattle.std.specs.Prelude.{IfErr}
use Rattle.std.proofs.lemmas.Result.{err_from_is_err_and}
use Rattle.capnp_units.specs.Segments.{words_in}
use Rattle.capnp_records.specs.Sets.{nodes_of}
use Rattle.capnp_relay_kinds.specs.Kinds.{IsNotTold}
use Rattle.capnp_relay_kinds.proofs.Messages.{nothing_read, told_of, wants, around_root}
use Rattle.capnp_relay_kinds.proofs.kinds.first_out_of_kind.Goals as goal

pub returns-in_err-_size-clause-refused : goal.returns-in_err-_size-clause-refused
returns-in_err-_size-clause-refused g c =
    let s = words_in (g.A.ReaderArena.segments c.args.arena.now) in
    let r = err_from_is_err_and c.from_residual.result c.from_residual.ensures.1 in
    subst (λ z. IfErr z (IsNotTold c.args.root c.args.limits s)) (sym r.1)
    (inl (nothing_read c.values_on_walks.ensures.cost c.args.root c.args.limits s c.min-levels.result c.min-levels.ensures c.new-limiter.result c.size_at.new.limiter c.new-limiter.ensures.left c.in_err-_size.field-0.0 r.0 r.2 c.in_err-_size.ensures))

pub returns-in_err-good-clause-refused : goal.returns-in_err-good-clause-refused
returns-in_err-good-clause-refused g c =
    let s = words_in (g.A.ReaderArena.segments c.args.arena.now) in
    let x = c.in_ok-_size.ensures in
    let kind = around_root c.args.root (nodes_of c.set-set.result.now) x.0 c.set-set.ensures in
    let r = err_from_is_err_and c.from_residual-in_err-good.result c.from_residual-in_err-good.ensures.1 in
    subst (λ z. IfErr z (IsNotTold c.args.root c.args.limits s)) (sym r.1)
    (inr (wants c.values_on_walks.ensures.cost c.args.root c.args.limits s c.min-levels.result c.min-levels.ensures c.new-limiter.result c.size_at.new.limiter c.new-limiter.ensures.left x.0 x.3 x.1 r.0 r.2 (sym kind ∙ c.in_err-good.ensures x.0 x.1)))

pub returns-then-good-clause-told : goal.returns-then-good-clause-told
returns-then-good-clause-told g c =
    let s = words_in (g.A.ReaderArena.segments c.args.arena.now) in
    let x = c.in_ok-_size.ensures in
    let kind = around_root c.args.root (nodes_of c.set-set.result.now) x.0 c.set-set.ensures in
    told_of c.values_on_walks.ensures.cost c.args.root c.args.limits s c.min-levels.result c.min-levels.ensures c.new-limiter.result c.size_at.new.limiter c.new-limiter.ensures.left x.0 x.3 x.1 c.values_that_are_read.ensures.deep c.values_that_are_read.ensures.levels true
    (sym c.if-good.true ∙ c.in_ok-good.ensures x.0 x.1 ∙ kind)

pub returns-clause-told : goal.returns-clause-told
returns-clause-told g c =
    let s = words_in (g.A.ReaderArena.segments c.args.arena.now) in
    let x = c.in_ok-_size.ensures in
    let kind = around_root c.args.root (nodes_of c.set-set.result.now) x.0 c.set-set.ensures in
    told_of c.values_on_walks.ensures.cost c.args.root c.args.limits s c.min-levels.result c.min-levels.ensures c.new-limiter.result c.size_at.new.limiter c.new-limiter.ensures.left x.0 x.3 x.1 c.values_that_are_read.ensures.deep c.values_that_are_read.ensures.levels false
    (sym c.if-good.false ∙ c.in_ok-good.ensures x.0 x.1 ∙ kind)
