use Rattle.std.proofs.Common.{◌≡◌, ℕ, ◌+◌, ◌-◌, ◌*◌, ◌/◌, ◌≤◌, List, length, replicate, get_or, ap, ◌∙◌, arith}
use Rattle.std.proofs.lemmas.List.{length-replicate}
use Rattle.capnp_model_writes.specs.Writes.{spliced}
use Rattle.capnp_model.proofs.lemmas.WordsInBytes.{words_in_bytes-zeros}
use Rattle.capnp_copy_arenas.specs.Memory.{overwritten}
use Rattle.capnp_copy_arenas.specs.Allocations.{words_used}
use Rattle.capnp_copy_arenas.proofs.HeldWords.{written_map, total_set, in_range, in_words, used_length, used_overwritten, map_set_same}
use Rattle.capnp_copy_arenas.proofs.Zeros.{overwritten_length}
use Rattle.capnp_copy_arenas.proofs.grown.zero_in_segment.Goals as goal

pub zero-requires : goal.zero-requires
zero-requires g c =
    let d = c.index-all-index.result in
    let old = get_or c.args.all.now c.args.place.segment d in
    let inside = in_words (λ h. words_used h.used (g.S.SegmentBytes.bytes h.segment)) c.args.all.now c.args.place.segment c.args.place.position (c.args.count) d c.requires.there in
    omega (arith, inside, used_length old.used (g.S.SegmentBytes.bytes old.segment) old.inside)

pub returns-then-index-all-clause-words : goal.returns-then-index-all-clause-words
returns-then-index-all-clause-words g c =
    let d = c.index-all-index.result in
    let old = get_or c.args.all.now c.args.place.segment d in
    let new = c.zero.new.self in
    let bytes = g.S.SegmentBytes.bytes in
    let inside = in_words (λ h. words_used h.used (g.S.SegmentBytes.bytes h.segment)) c.args.all.now c.args.place.segment c.args.place.position (c.args.count) d c.requires.there in
    let same : words_used new.used (bytes new.segment) ≡ words_used old.used (overwritten (8 * c.args.place.position) (replicate {A = ℕ} (8 * c.args.count) 0) (bytes old.segment)) = ap (λ (bs : List ℕ). words_used new.used bs) c.zero.ensures.bytes ∙ ap (λ (m : ℕ). words_used m (overwritten (8 * c.args.place.position) (replicate {A = ℕ} (8 * c.args.count) 0) (bytes old.segment))) c.zero.ensures.used in
    written_map _ c.args.all.now c.args.place.segment c.args.place.position _ new d
    (same ∙ used_overwritten old.used c.args.place.position (c.args.count) (replicate {A = ℕ} (8 * c.args.count) 0) (bytes old.segment) (length-replicate {A = ℕ} (8 * c.args.count) 0) (omega (arith, inside, used_length old.used (bytes old.segment) old.inside)) old.inside ∙ ap (λ (ws : List ℕ). spliced c.args.place.position ws (words_used old.used (bytes old.segment))) (words_in_bytes-zeros c.args.count))

pub returns-then-index-all-clause-total : goal.returns-then-index-all-clause-total
returns-then-index-all-clause-total g c =
    let t = total_set (λ h. h.used) c.args.all.now c.args.place.segment c.zero.new.self c.index-all-index.result c.if-index-all.true in
    omega (arith, t, c.zero.ensures.used)

pub returns-else-index-all-clause-words : goal.returns-else-index-all-clause-words
returns-else-index-all-clause-words g c =
    absurd (omega (arith, c.if-index-all.false, in_range (λ h. words_used h.used (g.S.SegmentBytes.bytes h.segment)) c.args.all.now c.args.place.segment c.args.place.position (c.args.count) c.requires.there))

pub returns-then-index-all-clause-room : goal.returns-then-index-all-clause-room
returns-then-index-all-clause-room g c =
    let d = c.index-all-index.result in
    let old = get_or c.args.all.now c.args.place.segment d in
    let new = c.zero.new.self in
    let bytes = g.S.SegmentBytes.bytes in
    let inside = in_words (λ h. words_used h.used (g.S.SegmentBytes.bytes h.segment)) c.args.all.now c.args.place.segment c.args.place.position (c.args.count) d c.requires.there in
    let within : 8 * c.args.place.position + length (replicate {A = ℕ} (8 * c.args.count) 0) ≤ length (bytes old.segment) = omega (arith, length-replicate {A = ℕ} (8 * c.args.count) 0, inside, used_length old.used (bytes old.segment) old.inside, old.inside) in
    let long : length (bytes new.segment) ≡ length (bytes old.segment) = ap length c.zero.ensures.bytes ∙ overwritten_length (8 * c.args.place.position) (replicate {A = ℕ} (8 * c.args.count) 0) (bytes old.segment) within in
    let same : length (bytes new.segment) / 8 - new.used ≡ length (bytes old.segment) / 8 - old.used = omega (arith, long, c.zero.ensures.used) in
    map_set_same (λ h. length (bytes h.segment) / 8 - h.used) c.args.all.now c.args.place.segment new d same
