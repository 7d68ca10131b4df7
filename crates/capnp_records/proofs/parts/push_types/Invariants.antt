use Rattle.std.proofs.Common.{◌≡◌, ◌++◌, map, take}
use Rattle.capnp_records.specs.NodeViews.{type_record_of, annotation_of}
use Rattle.capnp_records.proofs.parts.push_types.Given as goal

abbrev pub invariant-loop-annotation : goal.invariant-loop-annotation
invariant-loop-annotation l = map type_record_of l.types.items ≡ map type_record_of l.fn.types.items ++ map (λ a. a.type) (map annotation_of (take l.annotation-index l.annotations))
