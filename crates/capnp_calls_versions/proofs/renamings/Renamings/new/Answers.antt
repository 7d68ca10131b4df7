use Rattle.std.proofs.Common.{◌≡◌, true, false, ◌&&◌, List, map, sym, ◌∙◌, ap}
use Rattle.std.specs.Cmp.Derive.{both_true}
use Rattle.capnp_model.specs.Partners.{are_distinct_names}
use Rattle.capnp_model.proofs.lemmas.Tests.{and_false}
use Rattle.capnp_calls_versions.specs.declared.renamings.Renaming.{Renaming}
use Rattle.capnp_calls_versions.specs.declared.renamings.Version.TheVariants as version
use Rattle.capnp_calls_versions.specs.Renamings.{key_in}
use Rattle.capnp_calls_versions.proofs.RenamedLists.{one_to_one}
use Rattle.capnp_calls_versions.proofs.renamings.Renamings.new.Goals as goal

pub returns-then-not-branch-clause-refused : goal.returns-then-not-branch-clause-refused
returns-then-not-branch-clause-refused c =
    let older : are_distinct_names (map (key_in version.Older) c.args.list.items) ≡ false = ap (λ (xs : List Renaming). are_distinct_names (map (key_in version.Older) xs)) (sym c.deref.ensures.value) ∙ sym c.in_ok-are_apart.ensures ∙ c.if-not-branch.true in
    one_to_one c.args.list.items ∙ ap (λ b. b && are_distinct_names (map (key_in version.Newer) c.args.list.items)) older

pub returns-then-not-branch-2-clause-refused : goal.returns-then-not-branch-2-clause-refused
returns-then-not-branch-2-clause-refused c =
    let newer : are_distinct_names (map (key_in version.Newer) c.args.list.items) ≡ false = ap (λ (xs : List Renaming). are_distinct_names (map (key_in version.Newer) xs)) (sym c.deref-2.ensures.value) ∙ sym c.in_ok-are_apart-2.ensures ∙ c.if-not-branch-2.true in
    one_to_one c.args.list.items ∙ ap (λ b. are_distinct_names (map (key_in version.Older) c.args.list.items) && b) newer ∙ and_false (are_distinct_names (map (key_in version.Older) c.args.list.items))

pub invariant_of-result : goal.invariant_of-result
invariant_of-result c =
    let older : are_distinct_names (map (key_in version.Older) c.args.list.items) ≡ true = ap (λ (xs : List Renaming). are_distinct_names (map (key_in version.Older) xs)) (sym c.deref.ensures.value) ∙ sym c.in_ok-are_apart.ensures ∙ c.if-not-branch.false in
    let newer : are_distinct_names (map (key_in version.Newer) c.args.list.items) ≡ true = ap (λ (xs : List Renaming). are_distinct_names (map (key_in version.Newer) xs)) (sym c.deref-2.ensures.value) ∙ sym c.in_ok-are_apart-2.ensures ∙ c.if-not-branch-2.false in
    record { distinct = one_to_one c.args.list.items ∙ both_true older newer }
