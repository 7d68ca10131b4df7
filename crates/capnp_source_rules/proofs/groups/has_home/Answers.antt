-- the one group that a field is
use Rattle.std.proofs.Common.{◌≡◌, Some, [], nat_eq, All, sym, subst}
use Rattle.std.specs.HashMap.{get}
use Rattle.std.proofs.lemmas.List.Elements.{All-nil, All-cons}
use Rattle.capnp_source_nodes.specs.declared.nodes.FieldBody.{FieldBody}
use Rattle.capnp_source_rules.specs.Groups.{group_of}
use Rattle.capnp_source_rules.proofs.groups.has_home.Goals as goal

pub returns-in-Group : goal.returns-in-Group
returns-in-Group c is =
    let homes = c.args.homes.now in
    let home = c.args.home in
    subst (λ (b : FieldBody). All (λ g. get nat_eq homes g ≡ Some home) (group_of b)) (sym c.in-Group.is)
    (All-cons (λ g. get nat_eq homes g ≡ Some home) c.in-Group.id [] (c.has.ensures is) (All-nil (λ g. get nat_eq homes g ≡ Some home)))
