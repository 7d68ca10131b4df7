-- The segments so far are counted.
use Rattle.std.proofs.Common.{◌≡◌, ◌-◌, ◌^◌, min}
use Rattle.capnp_wire_objects.specs.Arenas.{words_before}
use Rattle.capnp_wire_objects.proofs.arena.words_in_all.Given as goal

abbrev pub invariant-loop-id : goal.invariant-loop-id
invariant-loop-id g l = l.words ≡ min (words_before (g.S.ReaderSegments.segments l.segments) l.id) (2 ^ 64 - 1)
