use Rattle.std.proofs.Common.{◌≡◌, ◌++◌, vec_len}
use Rattle.std.specs.List.{flat_map}
use Rattle.capnp_copy_arenas.proofs.segments.BuilderArenaImpl.release.Given as goal

abbrev pub decreases-loop-held : goal.decreases-loop-held
decreases-loop-held g l = vec_len l.self.segments

abbrev pub invariant-loop-held : goal.invariant-loop-held
invariant-loop-held g l =
    (g.A.Allocator.place l.self.allocator ≡ g.A.Allocator.place l.initial.self.allocator)
    × (flat_map (λ s. g.A.Segment.SegmentBytes.loans s.segment) l.self.segments.items ++ g.A.Allocator.loans l.self.allocator
    ≡ flat_map (λ s. g.A.Segment.SegmentBytes.loans s.segment) l.initial.self.segments.items ++ g.A.Allocator.loans l.initial.self.allocator)
