-- the slots so far
use Rattle.std.specs.List.{AllWithin}
use Rattle.capnp_source_layout.specs.Certificates.{IsHeld}
use Rattle.capnp_source_layout.proofs.checks.are_held.Given as goal

abbrev pub invariant-loop-number : goal.invariant-loop-number
invariant-loop-number l = AllWithin (IsHeld l.scopes l.slots) l.slots 0 l.number
