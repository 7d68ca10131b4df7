use Rattle.std.proofs.Common.{arith, true, false, ◌≡◌, ◌≤◌, ◌<◌, ◌+◌, ◌*◌, ◌%◌, ◌^◌, sum, length, drop, subst, Ok, sym, ap, ◌∙◌, List, ℕ}
use Rattle.std.specs.Int.{from_le_bytes, w64}
use Rattle.capnp_model.specs.Messages.{within, flat_at}
use Rattle.capnp_units.specs.Segments.{words_in}
use Rattle.capnp_stream.specs.Flat.{table_lengths, table_bytes, frame_segments}
use Rattle.capnp_stream.proofs.lemmas.WordLemmas.{from_le_bytes-take}
use Rattle.capnp_stream.proofs.FlatLemmas.{flat-nothing, flat-wants, flat-many, flat-cut, flat-large, flat-ends, flat-whole}
use Rattle.capnp_stream.proofs.flat.info_at.Goals as goal

pub returns-then-is_empty-clause-refused : goal.returns-then-is_empty-clause-refused
returns-then-is_empty-clause-refused c = rw c.from.ensures (flat-nothing c.args.limit c.args.bytes.now (grind (arith, c.if-is_empty.ensures)))

pub returns-in_default-clause-refused : goal.returns-in_default-clause-refused
returns-in_default-clause-refused c = rw c.from-in_default.ensures (flat-wants c.args.limit c.args.bytes.now (grind (arith, c.if-is_empty.ensures)) (omega (arith, c.in_default.ensures.cases)))

pub returns-then-count-ge-SEGMENTS_COUNT_LIMIT-clause-refused : goal.returns-then-count-ge-SEGMENTS_COUNT_LIMIT-clause-refused
returns-then-count-ge-SEGMENTS_COUNT_LIMIT-clause-refused c =
    let bytes = c.args.bytes.now in
    let word = c.from_le_bytes-word.result in
    let f : List ℕ → ℕ = from_le_bytes w64 in
    let parts = c.in-Some.ensures.cases in
    let long : 8 ≤ length bytes = omega (arith, parts.2) in
    let reads : word ≡ from_le_bytes w64 bytes = c.from_le_bytes-word.ensures ∙ ap f parts.0 ∙ from_le_bytes-take 8 bytes (omega arith) long in
    rw c.from-then-count-ge-SEGMENTS_COUNT_LIMIT.ensures (flat-many c.args.limit bytes word reads long (omega (arith, c.if-count-ge-SEGMENTS_COUNT_LIMIT.true)))

pub returns-then-bytes-table-clause-refused : goal.returns-then-bytes-table-clause-refused
returns-then-bytes-table-clause-refused c =
    let bytes = c.args.bytes.now in
    let word = c.from_le_bytes-word.result in
    let f : List ℕ → ℕ = from_le_bytes w64 in
    let parts = c.in-Some.ensures.cases in
    let long : 8 ≤ length bytes = omega (arith, parts.2) in
    let reads : word ≡ from_le_bytes w64 bytes = c.from_le_bytes-word.ensures ∙ ap f parts.0 ∙ from_le_bytes-take 8 bytes (omega arith) long in
    let few : word % 2 ^ 32 < 511 = omega (arith, c.if-count-ge-SEGMENTS_COUNT_LIMIT.false) in
    rw c.from-then-bytes-table.ensures (flat-cut c.args.limit bytes word reads long few (omega (arith, c.if-bytes-table.true)))

pub returns-then-not-is_within-clause-refused : goal.returns-then-not-is_within-clause-refused
returns-then-not-is_within-clause-refused c =
    let bytes = c.args.bytes.now in
    let word = c.from_le_bytes-word.result in
    let f : List ℕ → ℕ = from_le_bytes w64 in
    let parts = c.in-Some.ensures.cases in
    let long : 8 ≤ length bytes = omega (arith, parts.2) in
    let reads : word ≡ from_le_bytes w64 bytes = c.from_le_bytes-word.ensures ∙ ap f parts.0 ∙ from_le_bytes-take 8 bytes (omega arith) long in
    let few : word % 2 ^ 32 < 511 = omega (arith, c.if-count-ge-SEGMENTS_COUNT_LIMIT.false) in
    let whole : table_bytes (word % 2 ^ 32 + 1) ≤ length bytes = omega (arith, c.if-bytes-table.false) in
    let total : c.words_before-total.result ≡ sum (table_lengths (word % 2 ^ 32 + 1) bytes) = c.words_before-total.ensures.total in
    let large : within (sum (table_lengths (word % 2 ^ 32 + 1) bytes)) c.args.limit ≡ false = ap (λ n. within n c.args.limit) (sym total) ∙ sym c.is_within.ensures ∙ c.if-not-is_within.true in
    rw c.from-then-not-is_within.ensures (flat-large c.args.limit bytes word reads long few whole large)

pub returns-then-bytes-table-2-clause-refused : goal.returns-then-bytes-table-2-clause-refused
returns-then-bytes-table-2-clause-refused c =
    let bytes = c.args.bytes.now in
    let word = c.from_le_bytes-word.result in
    let f : List ℕ → ℕ = from_le_bytes w64 in
    let parts = c.in-Some.ensures.cases in
    let long : 8 ≤ length bytes = omega (arith, parts.2) in
    let reads : word ≡ from_le_bytes w64 bytes = c.from_le_bytes-word.ensures ∙ ap f parts.0 ∙ from_le_bytes-take 8 bytes (omega arith) long in
    let few : word % 2 ^ 32 < 511 = omega (arith, c.if-count-ge-SEGMENTS_COUNT_LIMIT.false) in
    let whole : table_bytes (word % 2 ^ 32 + 1) ≤ length bytes = omega (arith, c.if-bytes-table.false) in
    let total : c.words_before-total.result ≡ sum (table_lengths (word % 2 ^ 32 + 1) bytes) = c.words_before-total.ensures.total in
    let kept : within (sum (table_lengths (word % 2 ^ 32 + 1) bytes)) c.args.limit ≡ true = ap (λ n. within n c.args.limit) (sym total) ∙ sym c.is_within.ensures ∙ c.if-not-is_within.false in
    rw c.from-then-bytes-table-2.ensures (flat-ends c.args.limit bytes word reads long few whole kept (omega (arith, total, c.if-bytes-table-2.true)))

pub returns-clause-message : goal.returns-clause-message
returns-clause-message c =
    let bytes = c.args.bytes.now in
    let word = c.from_le_bytes-word.result in
    let f : List ℕ → ℕ = from_le_bytes w64 in
    let parts = c.in-Some.ensures.cases in
    let long : 8 ≤ length bytes = omega (arith, parts.2) in
    let reads : word ≡ from_le_bytes w64 bytes = c.from_le_bytes-word.ensures ∙ ap f parts.0 ∙ from_le_bytes-take 8 bytes (omega arith) long in
    let few : word % 2 ^ 32 < 511 = omega (arith, c.if-count-ge-SEGMENTS_COUNT_LIMIT.false) in
    let whole : table_bytes (word % 2 ^ 32 + 1) ≤ length bytes = omega (arith, c.if-bytes-table.false) in
    let total : c.words_before-total.result ≡ sum (table_lengths (word % 2 ^ 32 + 1) bytes) = c.words_before-total.ensures.total in
    let kept : within (sum (table_lengths (word % 2 ^ 32 + 1) bytes)) c.args.limit ≡ true = ap (λ n. within n c.args.limit) (sym total) ∙ sym c.is_within.ensures ∙ c.if-not-is_within.false in
    let Of : ℕ → Type 0 = λ t. flat_at c.args.limit bytes ≡ Ok (words_in (frame_segments (word % 2 ^ 32 + 1) bytes), drop (table_bytes (word % 2 ^ 32 + 1) + 8 * t) bytes) in
    subst Of (sym total) (flat-whole c.args.limit bytes word reads long few whole kept (omega (arith, total, c.if-bytes-table-2.false, c.if-bytes-table.false)))
