use Rattle.std.proofs.Common.{inr, ap, ◌∙◌}
use Rattle.capnp_message.specs.Built.{used_words}
use Rattle.capnp_message.proofs.Building.{root_set}
use Rattle.capnp_message.proofs.Refused.{err_as}
use Rattle.capnp_message.proofs.builder.Builder.set_root.Goals as goal

pub returns-clause-value : goal.returns-clause-value
returns-clause-value g c =
    let set = c.set_pointer_builder in
    let pointer = c.get_root-pointer.ensures in
    let words = used_words (λ h. h.used) (λ h. g.A.Segment.SegmentBytes.bytes h.segment) in
    root_set set.result _ _ _ _ _ (ap (λ m. words m.arena.segments.items) pointer.now ∙ c.in_ok-begin.ensures.rooted) pointer.place set.ensures.value

pub returns-clause-cause : goal.returns-clause-cause
returns-clause-cause g c = err_as c.set_pointer_builder.result _ _ c.set_pointer_builder.ensures.cause (λ e h. inr h)
