use Rattle.std.proofs.Common.{◌≡◌, ℕ, ◌+◌, ◌-◌, ◌*◌, ◌/◌, ◌≤◌, List, length, get_or, ap, sym, ◌∙◌, arith}
use Rattle.capnp_copy_arenas.specs.Memory.{overwritten}
use Rattle.capnp_copy_arenas.specs.Allocations.{words_used}
use Rattle.capnp_copy_arenas.proofs.HeldWords.{written_map, total_set, in_range, in_words, used_length, used_overwritten, map_set_same}
use Rattle.capnp_copy_arenas.proofs.Zeros.{overwritten_length}
use Rattle.capnp_copy_arenas.proofs.grown.write_in_segment.Goals as goal

pub write-requires : goal.write-requires
write-requires g c =
    let d = c.index-all-index.result in
    let old = get_or c.args.all.now c.args.place.segment d in
    let inside = in_words (λ h. words_used h.used (g.S.SegmentBytes.bytes h.segment)) c.args.all.now c.args.place.segment c.args.place.position (length c.args.from.now / 8) d c.requires.there in
    omega (arith, c.requires.whole, inside, used_length old.used (g.S.SegmentBytes.bytes old.segment) old.inside)

pub returns-then-index-all-clause-words : goal.returns-then-index-all-clause-words
returns-then-index-all-clause-words g c =
    let d = c.index-all-index.result in
    let old = get_or c.args.all.now c.args.place.segment d in
    let new = c.write.new.self in
    let bytes = g.S.SegmentBytes.bytes in
    let inside = in_words (λ h. words_used h.used (g.S.SegmentBytes.bytes h.segment)) c.args.all.now c.args.place.segment c.args.place.position (length c.args.from.now / 8) d c.requires.there in
    let same : words_used new.used (bytes new.segment) ≡ words_used old.used (overwritten (8 * c.args.place.position) (c.args.from.now) (bytes old.segment)) = ap (λ (bs : List ℕ). words_used new.used bs) c.write.ensures.bytes ∙ ap (λ (m : ℕ). words_used m (overwritten (8 * c.args.place.position) (c.args.from.now) (bytes old.segment))) c.write.ensures.used in
    written_map _ c.args.all.now c.args.place.segment c.args.place.position _ new d
    (same ∙ used_overwritten old.used c.args.place.position (length c.args.from.now / 8) (c.args.from.now) (bytes old.segment) (sym c.requires.whole) (omega (arith, inside, used_length old.used (bytes old.segment) old.inside)) old.inside)

pub returns-then-index-all-clause-total : goal.returns-then-index-all-clause-total
returns-then-index-all-clause-total g c =
    let t = total_set (λ h. h.used) c.args.all.now c.args.place.segment c.write.new.self c.index-all-index.result c.if-index-all.true in
    omega (arith, t, c.write.ensures.used)

pub returns-else-index-all-clause-words : goal.returns-else-index-all-clause-words
returns-else-index-all-clause-words g c =
    absurd (omega (arith, c.if-index-all.false, in_range (λ h. words_used h.used (g.S.SegmentBytes.bytes h.segment)) c.args.all.now c.args.place.segment c.args.place.position (length c.args.from.now / 8) c.requires.there))

pub returns-then-index-all-clause-room : goal.returns-then-index-all-clause-room
returns-then-index-all-clause-room g c =
    let d = c.index-all-index.result in
    let old = get_or c.args.all.now c.args.place.segment d in
    let new = c.write.new.self in
    let bytes = g.S.SegmentBytes.bytes in
    let inside = in_words (λ h. words_used h.used (g.S.SegmentBytes.bytes h.segment)) c.args.all.now c.args.place.segment c.args.place.position (length c.args.from.now / 8) d c.requires.there in
    let within : 8 * c.args.place.position + length (c.args.from.now) ≤ length (bytes old.segment) = omega (arith, c.requires.whole, inside, used_length old.used (bytes old.segment) old.inside, old.inside) in
    let long : length (bytes new.segment) ≡ length (bytes old.segment) = ap length c.write.ensures.bytes ∙ overwritten_length (8 * c.args.place.position) (c.args.from.now) (bytes old.segment) within in
    let same : length (bytes new.segment) / 8 - new.used ≡ length (bytes old.segment) / 8 - old.used = omega (arith, long, c.write.ensures.used) in
    map_set_same (λ h. length (bytes h.segment) / 8 - h.used) c.args.all.now c.args.place.segment new d same
