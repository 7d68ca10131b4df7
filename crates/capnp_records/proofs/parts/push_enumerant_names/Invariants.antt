use Rattle.std.proofs.Common.{◌≡◌, ◌++◌, map, take}
use Rattle.capnp_records.specs.NodeViews.{enumerant_of}
use Rattle.capnp_records.proofs.parts.push_enumerant_names.Given as goal

abbrev pub invariant-loop-enumerant : goal.invariant-loop-enumerant
invariant-loop-enumerant l = map (λ s. s.now) l.names.items ≡ map (λ s. s.now) l.fn.names.items ++ map (λ e. e.name) (map enumerant_of (take l.enumerant-index l.enumerants))
