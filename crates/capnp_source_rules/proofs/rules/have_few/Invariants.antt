-- the enumerants so far
use Rattle.std.specs.List.{AllWithin}
use Rattle.capnp_source_nodes.specs.declared.nodes.Enumerant.{Enumerant}
use Rattle.capnp_source_rules.specs.Rules.{AreFew}
use Rattle.capnp_source_rules.proofs.rules.have_few.Given as goal

abbrev pub invariant-loop-enumerant : goal.invariant-loop-enumerant
invariant-loop-enumerant l = AllWithin (λ (e : Enumerant). AreFew e.annotations.items) l.enumerants 0 l.enumerant-index
