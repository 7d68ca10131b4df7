use Rattle.std.proofs.Common.{◌+◌, is_none, Option, IfSome, List, sym, ◌∙◌, ap, subst}
use Rattle.capnp_calls_versions.specs.declared.breaks.Break.{Break}
use Rattle.capnp_calls_versions.specs.Holders.{held_schema}
use Rattle.capnp_calls_versions.specs.Walks.{Decides, older_schema, keeps_at}
use Rattle.capnp_calls_versions.specs.Faults.{IsBreakAt}
use Rattle.capnp_calls_versions.proofs.AllKept.{begun}
use Rattle.capnp_calls_versions.proofs.AllBroken.{Told, told_first, told_kept, told_broken, told_is, told_all, told_answer}
use Rattle.capnp_calls_versions.proofs.all_breaks.all_broken.Goals.{in-None+in_ok-reach_all-in-None, in-Some-2+in_ok-push-in-Some-2}
use Rattle.capnp_calls_versions.proofs.all_breaks.all_broken.Goals as goal

pub loop-i-init : goal.loop-i-init
loop-i-init c =
    let o = older_schema c.args.versions.now in
    let n = held_schema c.args.versions.now.newer in
    let s = c.new-reached.ensures.sound o n in
    subst (λ (xs : List Break). Told c.args.versions.now c.args.levels c.args.older c.args.newer 0 c.reach.new.self xs) (sym c.new-breaks.ensures.items)
    (told_first c.args.versions.now c.args.levels c.args.older c.args.newer c.reach.new.self
    (begun c.args.versions.now c.args.levels c.args.older c.args.newer c.new-reached.result c.reach.new.self c.new-reached.ensures.none (c.in_ok-reach.ensures.pairs o n s) (c.in_ok-reach.ensures.sound o n s)))

pub loop-i-preserved : goal.loop-i-preserved
loop-i-preserved c =
    let o = older_schema c.args.versions.now in
    let n = held_schema c.args.versions.now.newer in
    elim c.match-branch-3.branch [
      | in-None+in_ok-reach_all-in-None w ↦
          told_is c.args.versions.now c.args.levels c.args.older c.args.newer (c.loop-i.i + 1) _ _ _ _ w.reached-is (ap (λ z. z.items) w.breaks-is)
          (told_kept c.args.versions.now c.args.levels c.args.older c.args.newer c.loop-i.i c.in-Some.a c.in-Some.b c.new-named.result c.keeps.new.reached c.new-named.ensures.none c.loop-i.reached w.reach_all.new.self c.loop-i.breaks.items c.loop-i.invariant (sym c.in-Some.ensures)
          (subst (λ (x : Option Break). Decides c.args.versions.now c.new-named.result c.keeps.new.reached (is_none x) (keeps_at c.args.versions.now c.args.levels c.in-Some.a c.in-Some.b)) w.in-None.is c.in_ok-keeps.ensures.decides)
          (w.in_ok-reach_all-in-None.ensures.pairs o n c.loop-i.invariant.sound) (w.in_ok-reach_all-in-None.ensures.sound o n c.loop-i.invariant.sound) w.in_ok-reach_all-in-None.ensures.grows)
      | in-Some-2+in_ok-push-in-Some-2 w ↦
          told_is c.args.versions.now c.args.levels c.args.older c.args.newer (c.loop-i.i + 1) _ _ _ _ w.reached-is (ap (λ z. z.items) w.breaks-is)
          (subst (λ (xs : List Break). Told c.args.versions.now c.args.levels c.args.older c.args.newer (c.loop-i.i + 1) c.loop-i.reached xs) (sym w.in_ok-push-in-Some-2.ensures.items)
          (told_broken c.args.versions.now c.args.levels c.args.older c.args.newer c.loop-i.i c.in-Some.a c.in-Some.b c.new-named.result c.keeps.new.reached c.new-named.ensures.none c.loop-i.reached c.loop-i.breaks.items w.in-Some-2.broken c.loop-i.invariant (sym c.in-Some.ensures)
          (subst (λ (x : Option Break). Decides c.args.versions.now c.new-named.result c.keeps.new.reached (is_none x) (keeps_at c.args.versions.now c.args.levels c.in-Some.a c.in-Some.b)) w.in-Some-2.is c.in_ok-keeps.ensures.decides)
          (subst (λ (x : Option Break). IfSome x (IsBreakAt c.args.versions.now c.args.levels c.in-Some.a c.in-Some.b)) w.in-Some-2.is c.in_ok-keeps.ensures.breaks)))
    ]

pub returns-in_default-clause-answer : goal.returns-in_default-clause-answer
returns-in_default-clause-answer c = told_answer c.args.versions.now c.args.levels c.args.older c.args.newer c.loop-i.i c.loop-i.reached (sym c.in_default.is ∙ c.pair.ensures) c.loop-i.breaks.items c.loop-i.invariant

pub returns-in_default-clause-all : goal.returns-in_default-clause-all
returns-in_default-clause-all c = told_all c.args.versions.now c.args.levels c.args.older c.args.newer c.loop-i.i c.loop-i.reached (sym c.in_default.is ∙ c.pair.ensures) c.loop-i.breaks.items c.loop-i.invariant
