use Rattle.std.proofs.Common.{Bool, is_none, sym, ◌∙◌, ap}
use Rattle.capnp_records.specs.Sets.{nodes_of}
use Rattle.capnp_calls_versions.specs.Holders.{held_schema}
use Rattle.capnp_calls_versions.specs.Renamed.{renamings_of}
use Rattle.capnp_calls_versions.specs.Walks.{are_alike}
use Rattle.capnp_calls_versions.proofs.Stops.{some_weaker}
use Rattle.capnp_calls_versions.proofs.AllKept.{answer_is, alike, other_sorts_are_not, breaks_from, breaks_at_roots}
use Rattle.capnp_calls_versions.proofs.compatible.first_break.Goals as goal

pub returns-then-not-are_alike-clause-answer : goal.returns-then-not-are_alike-clause-answer
returns-then-not-are_alike-clause-answer c =
    let v = c.in_ok-versions.versions in
    other_sorts_are_not v c.args.older.id c.args.newer.id (renamings_of c.args.renamings.now) (nodes_of c.args.older.set.now) (nodes_of c.args.newer.set.now) c.in_ok-versions.ensures.older c.in_ok-versions.ensures.newer
    (sym (c.are_alike.ensures ∙ ap (λ (x : Bool). are_alike x c.is_group-2.result) c.is_group.ensures ∙ ap (are_alike ((held_schema v.older).is_group c.args.older.id)) c.is_group-2.ensures) ∙ c.if-not-are_alike.true)

pub returns-then-not-are_alike-clause-breaks : goal.returns-then-not-are_alike-clause-breaks
returns-then-not-are_alike-clause-breaks c =
    let v = c.in_ok-versions.versions in
    breaks_at_roots v c.args.older.id c.args.newer.id (renamings_of c.args.renamings.now) (nodes_of c.args.older.set.now) (nodes_of c.args.newer.set.now) c.in_ok-versions.ensures.names c.in_ok-versions.ensures.older c.in_ok-versions.ensures.newer
    (sym (c.are_alike.ensures ∙ ap (λ (x : Bool). are_alike x c.is_group-2.result) c.is_group.ensures ∙ ap (are_alike ((held_schema v.older).is_group c.args.older.id)) c.is_group-2.ensures) ∙ c.if-not-are_alike.true)

pub returns-clause-answer : goal.returns-clause-answer
returns-clause-answer c =
    let v = c.in_ok-versions.versions in
    answer_is v c.levels-levels.result c.args.older.id c.args.newer.id (is_none c.in_ok-first_broken.field-0) (renamings_of c.args.renamings.now) (nodes_of c.args.older.set.now) (nodes_of c.args.newer.set.now) c.in_ok-versions.ensures.names c.in_ok-versions.ensures.older c.in_ok-versions.ensures.newer
    c.levels-levels.ensures (sym c.is_group.ensures ∙ alike c.is_group.result c.is_group-2.result (sym c.are_alike.ensures ∙ c.if-not-are_alike.false) ∙ c.is_group-2.ensures) c.in_ok-first_broken.ensures.answer

pub returns-clause-breaks : goal.returns-clause-breaks
returns-clause-breaks c =
    let v = c.in_ok-versions.versions in
    some_weaker c.in_ok-first_broken.field-0 _ _
    (λ x h. breaks_from v c.args.older.id c.args.newer.id (renamings_of c.args.renamings.now) (nodes_of c.args.older.set.now) (nodes_of c.args.newer.set.now) c.in_ok-versions.ensures.names c.in_ok-versions.ensures.older c.in_ok-versions.ensures.newer c.levels-levels.result x c.levels-levels.ensures h)
    c.in_ok-first_broken.ensures.breaks
