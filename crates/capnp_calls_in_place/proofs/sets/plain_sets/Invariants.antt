-- The calls so far put the numbers so far.
use Rattle.std.proofs.Common.{take}
use Rattle.capnp_calls.specs.Resolved.{calls_of, KnowSplices}
use Rattle.capnp_values_queries.specs.declared.structs.StructSchema.{StructSchema}
use Rattle.capnp_calls_in_place.specs.PlainSets.{ArePlain}
use Rattle.capnp_calls_in_place.proofs.sets.plain_sets.Given as goal

abbrev pub invariant-loop-call : goal.invariant-loop-call
invariant-loop-call l = (schema : StructSchema) → KnowSplices schema l.calls → ArePlain schema (calls_of (take l.call-index l.calls)) l.sets.items
