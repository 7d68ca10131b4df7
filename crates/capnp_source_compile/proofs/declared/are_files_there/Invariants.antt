-- those that are left decide
use Rattle.std.proofs.Common.{◌≡◌, Some, nat_eq, All, length}
use Rattle.std.specs.HashMap.{get}
use Rattle.capnp_source_compile.specs.Declarations.{declared_by_asked}
use Rattle.capnp_source_compile.proofs.declared.are_files_there.Given as goal

abbrev pub invariant-loop-left : goal.invariant-loop-left
invariant-loop-left l =
    All (λ d. get nat_eq l.nodes d.0 ≡ Some d.1) (declared_by_asked l.left)
    → All (λ d. get nat_eq l.nodes d.0 ≡ Some d.1) (declared_by_asked l.fn.files)

abbrev pub decreases-loop-left : goal.decreases-loop-left
decreases-loop-left l = length l.left
