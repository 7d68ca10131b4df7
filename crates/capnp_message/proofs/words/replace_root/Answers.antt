use Rattle.std.proofs.Common.{ℕ, List, map, ap, sym, refl, inl, ◌∙◌, Bor, rules}
use Rattle.capnp_units.specs.Segments.{words_in}
use Rattle.capnp_wire_canonical.specs.Writes.{words_view}
use Rattle.capnp_message.specs.declared.reader.SegmentArray.{SegmentArray}
use Rattle.capnp_message.proofs.Building.{one_segment, copied_root}
use Rattle.capnp_message.proofs.words.replace_root.Goals as goal

pub returns-then-not-has_words-clause-copy : goal.returns-then-not-has_words-clause-copy
returns-then-not-has_words-clause-copy g c = inl (sym c.has_words.ensures.there ∙ c.if-not-has_words.true, search rules, refl)

pub returns-clause-copy : goal.returns-clause-copy
returns-clause-copy g c =
    let bytes = c.words_as_bytes in
    let one = one_segment bytes.result.now c.args.words.now bytes.ensures.bytes bytes.ensures.len c.told-words in
    let array = ap (λ (a : SegmentArray). words_in (map (λ b. b.now) a.segments.now)) c.new-source.ensures.segments in
    let slice = ap (λ (bs : List (Bor (List ℕ))). words_in (map (λ b. b.now) bs)) c.new.ensures in
    copied_root c.args.levels _ _ _ (words_view c.args.words.now) _ _ _ (array ∙ slice ∙ one) (record { endless = c.new-unlimited.ensures.limit; unused = c.new-unlimited.ensures.granted }) c.copy_from.ensures.copy
