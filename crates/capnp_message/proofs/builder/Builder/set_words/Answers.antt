use Rattle.std.proofs.Common.{◌≡◌, inl, inr, ◌/◌, length, ap, arith}
use Rattle.capnp_message.specs.Built.{used_words}
use Rattle.capnp_message.proofs.Building.{first_there, first_words, no_words}
use Rattle.capnp_message.proofs.builder.Builder.set_words.Goals as goal

pub write_words-requires-clause-there : goal.write_words-requires-clause-there
write_words-requires-clause-there g c =
    let words = used_words (λ h. h.used) (λ h. g.A.Segment.SegmentBytes.bytes h.segment) in
    first_there _ _ c.in-Ok.segment c.in-Ok.at (length c.args.words.now) (length c.words_as_bytes-bytes.result.now / 8) (ap words c.requires.empty) c.in-Ok.ensures.ok (omega (arith, c.words_as_bytes-bytes.ensures.len))

pub returns-in-Ok-clause-words : goal.returns-in-Ok-clause-words
returns-in-Ok-clause-words g c =
    let words = used_words (λ h. h.used) (λ h. g.A.Segment.SegmentBytes.bytes h.segment) in
    first_words _ _ _ c.in-Ok.segment c.in-Ok.at (length c.args.words.now) (length c.words_as_bytes-bytes.result.now / 8) c.words_as_bytes-bytes.result.now c.args.words.now (ap words c.requires.empty) c.in-Ok.ensures.ok c.write_words.ensures.words c.words_as_bytes-bytes.ensures.bytes (let e : length c.args.words.now ≡ length c.args.words.now = omega arith in e) (omega (arith, c.words_as_bytes-bytes.ensures.len)) c.told-words

pub returns-in-Err-clause-kind : goal.returns-in-Err-clause-kind
returns-in-Err-clause-kind g c =
    let words = used_words (λ h. h.used) (λ h. g.A.Segment.SegmentBytes.bytes h.segment) in
    let none = no_words _ (ap words c.requires.empty) in
    let kind = c.in-Err.ensures.kind in
    (λ q. let more = kind.0 q in omega (arith, more, none), λ l. kind.1 (omega (arith, l, none)))

pub returns-in-Err-clause-cause : goal.returns-in-Err-clause-cause
returns-in-Err-clause-cause g c =
    let words = used_words (λ h. h.used) (λ h. g.A.Segment.SegmentBytes.bytes h.segment) in
    let none = no_words _ (ap words c.requires.empty) in
    elim c.in-Err.ensures.cause [ inl l ↦ inl (omega (arith, l, none)) | inr r ↦ inr r ]
