use Rattle.std.proofs.Common.{◌≡◌, ◌++◌, map, take}
use Rattle.std.specs.List.{flat_map}
use Rattle.capnp_records.specs.NodeViews.{type_record_of, enumerant_of}
use Rattle.capnp_records.proofs.parts.push_enumerant_types.Given as goal

abbrev pub invariant-loop-enumerant : goal.invariant-loop-enumerant
invariant-loop-enumerant l = map type_record_of l.types.items ≡ map type_record_of l.fn.types.items ++ map (λ a. a.type) (flat_map (λ as'. as') (map (λ e. e.annotations) (map enumerant_of (take l.enumerant-index l.enumerants))))
