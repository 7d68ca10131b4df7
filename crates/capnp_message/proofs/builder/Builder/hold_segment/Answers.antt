use Rattle.std.proofs.Common.{◌*◌, take, ◌∙◌}
use Rattle.capnp_units.specs.Segments.{whole_words}
use Rattle.capnp_message.proofs.Building.{on_ok, map_both}
use Rattle.capnp_message.proofs.builder.Builder.hold_segment.Goals as goal

pub returns-clause-words : goal.returns-clause-words
returns-clause-words g c =
    let h = c.hold_segment in
    on_ok h.result h.ensures.words (λ e. map_both (λ h. take (8 * h.used) (g.A.Segment.SegmentBytes.bytes h.segment)) whole_words h.new.self.segments.items ∙ e)
