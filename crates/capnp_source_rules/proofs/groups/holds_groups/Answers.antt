-- the groups of a struct
use Rattle.std.proofs.Common.{◌≡◌, Some, List, nat_eq, true, All, subst}
use Rattle.std.specs.HashMap.{get}
use Rattle.capnp_source_nodes.specs.declared.nodes.Field.{Field}
use Rattle.capnp_source_rules.specs.Groups.{groups_in}
use Rattle.capnp_source_rules.proofs.Numbers.{held}
use Rattle.capnp_source_rules.proofs.groups.holds_groups.Goals as goal

pub returns-in-Struct : goal.returns-in-Struct
returns-in-Struct c is =
    let homes = c.args.homes.now in
    let node = c.args.node.now in
    let s = c.in-Struct.body in
    held homes node s c.in-Struct.is
    (subst (λ (fs : List Field). All (λ g. get nat_eq homes g ≡ Some (true, (node.id, (s.data_words, s.pointers)))) (groups_in fs)) c.deref.ensures.value (c.have_homes.ensures is))
