-- those that are left decide
use Rattle.std.proofs.Common.{◌≡◌, Some, nat_eq, All, drop}
use Rattle.std.specs.HashMap.{get}
use Rattle.capnp_source_rules.specs.Groups.{groups_in}
use Rattle.capnp_source_rules.proofs.groups.have_homes.Given as goal

abbrev pub invariant-loop-field : goal.invariant-loop-field
invariant-loop-field l =
    All (λ g. get nat_eq l.homes g ≡ Some l.home) (groups_in (drop l.field-index l.fields))
    → All (λ g. get nat_eq l.homes g ≡ Some l.home) (groups_in l.fields)
