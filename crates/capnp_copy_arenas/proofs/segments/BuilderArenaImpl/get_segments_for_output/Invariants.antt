use Rattle.std.proofs.Common.{◌≡◌, ◌*◌, map, take}
use Rattle.capnp_copy_arenas.proofs.segments.BuilderArenaImpl.get_segments_for_output.Given as goal

abbrev pub invariant-loop-held : goal.invariant-loop-held
invariant-loop-held g l = map (λ b. b.now) l.all.items ≡ map (λ h. take (8 * h.used) (g.A.Segment.SegmentBytes.bytes h.segment)) (take l.held-index l.held-items)
