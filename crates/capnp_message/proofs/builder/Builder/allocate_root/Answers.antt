use Rattle.std.proofs.Common.{ap}
use Rattle.capnp_message.specs.Built.{used_words}
use Rattle.capnp_message.proofs.Written.{root_made, not_too_many, no_items}
use Rattle.capnp_message.proofs.Refused.{word_refused}
use Rattle.capnp_message.proofs.builder.Builder.allocate_root.Goals as goal

pub returns-in-Ok-clause-made : goal.returns-in-Ok-clause-made
returns-in-Ok-clause-made g c = λ e. root_made _ _ _ _ (ap (used_words (λ h. h.used) (λ h. g.A.Segment.SegmentBytes.bytes h.segment)) e) c.in-Ok.ensures.ok

pub returns-in-Err-clause-kind : goal.returns-in-Err-clause-kind
returns-in-Err-clause-kind g c = not_too_many _ _ (ap (used_words (λ h. h.used) (λ h. g.A.Segment.SegmentBytes.bytes h.segment)) (no_items c.args.self.now.memory.arena.segments.items c.len.result c.if-len-eq0.true c.len.ensures)) c.in-Err.ensures.kind

pub returns-in-Err-clause-cause : goal.returns-in-Err-clause-cause
returns-in-Err-clause-cause g c = word_refused _ _ _ (ap (used_words (λ h. h.used) (λ h. g.A.Segment.SegmentBytes.bytes h.segment)) (no_items c.args.self.now.memory.arena.segments.items c.len.result c.if-len-eq0.true c.len.ensures)) c.in-Err.ensures.kind c.in-Err.ensures.cause
