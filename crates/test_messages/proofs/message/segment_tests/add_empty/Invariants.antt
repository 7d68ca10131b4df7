use Rattle.std.proofs.Common.{◌≡◌, ◌++◌}
use Rattle.std.specs.List.{flat_map}
use Rattle.test_messages.proofs.message.segment_tests.add_empty.Given as goal

abbrev pub invariant-loop : goal.invariant-loop
invariant-loop g l =
    (g.L.Allocator.place l.arena.allocator ≡ g.L.Allocator.place l.fn.arena.allocator)
    × (flat_map (λ h. g.L.Segment.SegmentBytes.loans h.segment) l.arena.segments.items ++ g.L.Allocator.loans l.arena.allocator
    ≡ flat_map (λ h. g.L.Segment.SegmentBytes.loans h.segment) l.fn.arena.segments.items ++ g.L.Allocator.loans l.fn.arena.allocator)
