use Rattle.std.proofs.Common.{is_none, Option, IfSome, sym, ◌∙◌, subst}
use Rattle.capnp_calls_versions.specs.declared.breaks.Break.{Break}
use Rattle.capnp_calls_versions.specs.Holders.{held_schema}
use Rattle.capnp_calls_versions.specs.Walks.{Decides, older_schema, keeps_at}
use Rattle.capnp_calls_versions.specs.Faults.{IsBreakAt}
use Rattle.capnp_calls_versions.proofs.AllKept.{begun, walked_on, walked_all, walked_into, breaks_there}
use Rattle.capnp_calls_versions.proofs.compatible.first_broken.Goals as goal

pub loop-i-init : goal.loop-i-init
loop-i-init c =
    let o = older_schema c.args.versions.now in
    let n = held_schema c.args.versions.now.newer in
    let s = c.new-reached.ensures.sound o n in
    begun c.args.versions.now c.args.levels c.args.older c.args.newer c.new-reached.result c.reach.new.self c.new-reached.ensures.none (c.in_ok-reach.ensures.pairs o n s) (c.in_ok-reach.ensures.sound o n s)

pub returns-in_default-clause-answer : goal.returns-in_default-clause-answer
returns-in_default-clause-answer c = walked_all c.args.versions.now c.args.levels c.args.older c.args.newer c.loop-i.i c.loop-i.reached c.loop-i.invariant (sym c.in_default.is ∙ c.pair.ensures)

pub loop-i-preserved : goal.loop-i-preserved
loop-i-preserved c =
    walked_on c.args.versions.now c.args.levels c.args.older c.args.newer c.loop-i.i c.in-Some.a c.in-Some.b c.loop-i.reached c.keeps.new.reached c.loop-i.invariant (sym c.in-Some.ensures)
    (subst (λ (x : Option Break). Decides c.args.versions.now c.loop-i.reached c.keeps.new.reached (is_none x) (keeps_at c.args.versions.now c.args.levels c.in-Some.a c.in-Some.b)) c.in_default-2.is c.in_ok-broken.ensures.decides)

pub returns-in-Some-2-clause-answer : goal.returns-in-Some-2-clause-answer
returns-in-Some-2-clause-answer c =
    walked_into c.args.versions.now c.args.levels c.args.older c.args.newer c.loop-i.i c.in-Some.a c.in-Some.b c.loop-i.reached c.keeps.new.reached c.loop-i.invariant (sym c.in-Some.ensures)
    (subst (λ (x : Option Break). Decides c.args.versions.now c.loop-i.reached c.keeps.new.reached (is_none x) (keeps_at c.args.versions.now c.args.levels c.in-Some.a c.in-Some.b)) c.in-Some-2.is c.in_ok-broken.ensures.decides)

pub returns-in-Some-2-clause-breaks : goal.returns-in-Some-2-clause-breaks
returns-in-Some-2-clause-breaks c =
    breaks_there c.args.versions.now c.args.levels c.args.older c.args.newer c.loop-i.i c.in-Some.a c.in-Some.b c.loop-i.reached c.in-Some-2.broken c.loop-i.invariant (sym c.in-Some.ensures)
    (subst (λ (x : Option Break). IfSome x (IsBreakAt c.args.versions.now c.args.levels c.in-Some.a c.in-Some.b)) c.in-Some-2.is c.in_ok-broken.ensures.breaks)
