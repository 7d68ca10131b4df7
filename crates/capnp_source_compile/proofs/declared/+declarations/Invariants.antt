-- those that are left decide
use Rattle.std.proofs.Common.{◌≡◌, Some, nat_eq, All, drop}
use Rattle.std.specs.HashMap.{get}
use Rattle.capnp_source_compile.specs.Declarations.{declared_in_all}
use Rattle.capnp_source_compile.proofs.declared.+declarations.Given as goal

abbrev pub invariant-are_there-loop-declaration : goal.invariant-are_there-loop-declaration
invariant-are_there-loop-declaration l =
    All (λ d. get nat_eq l.nodes d.0 ≡ Some d.1) (declared_in_all l.scope (drop l.declaration-index l.fn.declarations))
    → All (λ d. get nat_eq l.nodes d.0 ≡ Some d.1) (declared_in_all l.scope l.fn.declarations)
