use Rattle.std.proofs.Common.{Bool, ◌==◌, List, [], ◌∷◌, ◌++◌, length, refl, sym, ◌∙◌, ap, subst}
use Rattle.std.specs.Bool.{MatchBool}
use Rattle.capnp_records.specs.Sets.{nodes_of}
use Rattle.capnp_calls_versions.specs.declared.breaks.Break.{Break}
use Rattle.capnp_calls_versions.specs.declared.breaks.Rule.TheVariants as rule
use Rattle.capnp_calls_versions.specs.Holders.{held_schema}
use Rattle.capnp_calls_versions.specs.Renamed.{renamings_of}
use Rattle.capnp_calls_versions.specs.Walks.{are_alike}
use Rattle.capnp_calls_versions.specs.Roots.{AreRootsCompatibleWith}
use Rattle.capnp_calls_versions.proofs.AllKept.{answer_is, alike, other_sorts_are_not}
use Rattle.capnp_calls_versions.proofs.AllBroken.{all_from, all_at_roots, one_is_some}
use Rattle.capnp_calls_versions.proofs.all_breaks.all_breaks.Goals as goal

pub returns-then-not-are_alike-clause-answer : goal.returns-then-not-are_alike-clause-answer
returns-then-not-are_alike-clause-answer c =
    let v = c.in_ok-versions.versions in
    subst (λ (b : Bool). MatchBool b (AreRootsCompatibleWith (renamings_of c.args.renamings.now) c.args.older c.args.newer) (AreRootsCompatibleWith (renamings_of c.args.renamings.now) c.args.older c.args.newer → ⊥))
    (sym (one_is_some c.push.new.self.items (record { older = c.args.older.id; newer = c.args.newer.id; rule = rule.Roots }) (c.in_ok-push.ensures.items ∙ ap (λ (xs : List Break). xs ++ record { older = c.args.older.id; newer = c.args.newer.id; rule = rule.Roots } ∷ []) c.new-breaks.ensures.items)))
    (other_sorts_are_not v c.args.older.id c.args.newer.id (renamings_of c.args.renamings.now) (nodes_of c.args.older.set.now) (nodes_of c.args.newer.set.now) c.in_ok-versions.ensures.older c.in_ok-versions.ensures.newer
    (sym (c.are_alike.ensures ∙ ap (λ (x : Bool). are_alike x c.is_group-2.result) c.is_group.ensures ∙ ap (are_alike ((held_schema v.older).is_group c.args.older.id)) c.is_group-2.ensures) ∙ c.if-not-are_alike.true))

pub returns-then-not-are_alike-clause-all : goal.returns-then-not-are_alike-clause-all
returns-then-not-are_alike-clause-all c =
    let v = c.in_ok-versions.versions in
    all_at_roots v c.args.older.id c.args.newer.id (renamings_of c.args.renamings.now) (nodes_of c.args.older.set.now) (nodes_of c.args.newer.set.now) c.in_ok-versions.ensures.names c.in_ok-versions.ensures.older c.in_ok-versions.ensures.newer
    c.push.new.self.items (record { older = c.args.older.id; newer = c.args.newer.id; rule = rule.Roots }) (c.in_ok-push.ensures.items ∙ ap (λ (xs : List Break). xs ++ record { older = c.args.older.id; newer = c.args.newer.id; rule = rule.Roots } ∷ []) c.new-breaks.ensures.items) refl
    (sym (c.are_alike.ensures ∙ ap (λ (x : Bool). are_alike x c.is_group-2.result) c.is_group.ensures ∙ ap (are_alike ((held_schema v.older).is_group c.args.older.id)) c.is_group-2.ensures) ∙ c.if-not-are_alike.true)

pub returns-clause-answer : goal.returns-clause-answer
returns-clause-answer c =
    let v = c.in_ok-versions.versions in
    answer_is v c.levels-levels.result c.args.older.id c.args.newer.id (length c.in_ok-all_broken.field-0.items == 0) (renamings_of c.args.renamings.now) (nodes_of c.args.older.set.now) (nodes_of c.args.newer.set.now) c.in_ok-versions.ensures.names c.in_ok-versions.ensures.older c.in_ok-versions.ensures.newer
    c.levels-levels.ensures (sym c.is_group.ensures ∙ alike c.is_group.result c.is_group-2.result (sym c.are_alike.ensures ∙ c.if-not-are_alike.false) ∙ c.is_group-2.ensures) c.in_ok-all_broken.ensures.answer

pub returns-clause-all : goal.returns-clause-all
returns-clause-all c =
    let v = c.in_ok-versions.versions in
    all_from v c.args.older.id c.args.newer.id (renamings_of c.args.renamings.now) (nodes_of c.args.older.set.now) (nodes_of c.args.newer.set.now) c.in_ok-versions.ensures.names c.in_ok-versions.ensures.older c.in_ok-versions.ensures.newer
    c.levels-levels.result c.in_ok-all_broken.field-0.items c.levels-levels.ensures
    (sym c.is_group.ensures ∙ alike c.is_group.result c.is_group-2.result (sym c.are_alike.ensures ∙ c.if-not-are_alike.false) ∙ c.is_group-2.ensures) c.in_ok-all_broken.ensures.all
