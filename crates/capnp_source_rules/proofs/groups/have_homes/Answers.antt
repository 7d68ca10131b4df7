-- one field more
use Rattle.std.proofs.Common.{◌≡◌, Some, nat_eq, All, subst, arith}
use Rattle.std.specs.HashMap.{get}
use Rattle.capnp_source_nodes.specs.declared.nodes.Field.{Field}
use Rattle.capnp_source_rules.specs.Groups.{group_of}
use Rattle.capnp_source_rules.proofs.Numbers.{groups_from, groups_end}
use Rattle.capnp_source_rules.proofs.groups.have_homes.Goals as goal

pub loop-field-preserved : goal.loop-field-preserved
loop-field-preserved c rest =
    let homes = c.args.homes.now in
    let home = c.args.home in
    let here = subst (λ (f : Field). All (λ g. get nat_eq homes g ≡ Some home) (group_of f.body)) c.field-item.is (c.has_home.ensures c.if-not-has_home.false) in
    c.loop-field.invariant (groups_from (λ g. get nat_eq homes g ≡ Some home) c.args.fields.now c.loop-field.field-index c.field-item.result c.loop-field-test.true here rest)

pub returns : goal.returns
returns c is = c.loop-field.invariant (groups_end (λ g. get nat_eq c.args.homes.now g ≡ Some c.args.home) c.args.fields.now c.loop-field.field-index (omega arith))
