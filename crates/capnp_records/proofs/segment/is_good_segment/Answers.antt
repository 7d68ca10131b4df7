use Rattle.std.proofs.Common.{◌*◌, ◌^◌, ◌<◌, length, sym, ◌∙◌, arith}
use Rattle.capnp_records.specs.Segments.{wants}
use Rattle.capnp_records.proofs.lemmas.Segments.{small_segment, too_many_bad, in_parts_bad, not_canonical_bad, canonical_good}
use Rattle.capnp_records.proofs.segment.is_good_segment.Goals as goal
use Rattle.capnp_records.proofs.segment.is_good_segment.Goals.{then-bytes-ge-TOO_MANY_BYTES-via-then-bytes-ge-TOO_MANY_BYTES, then-bytes-ge-TOO_MANY_BYTES-via-else-bytes-ge-TOO_MANY_BYTES+then-bytes-ne0}

pub returns-then-bytes-ge-TOO_MANY_BYTES : goal.returns-then-bytes-ge-TOO_MANY_BYTES
returns-then-bytes-ge-TOO_MANY_BYTES c = elim c.then-bytes-ge-TOO_MANY_BYTES.branch [
  | then-bytes-ge-TOO_MANY_BYTES-via-then-bytes-ge-TOO_MANY_BYTES w ↦ sym (too_many_bad (wants c.args.wanted) c.args.bytes.now (omega (arith, w.if-bytes-ge-TOO_MANY_BYTES.true)))
  | then-bytes-ge-TOO_MANY_BYTES-via-else-bytes-ge-TOO_MANY_BYTES+then-bytes-ne0 w ↦ sym (in_parts_bad (wants c.args.wanted) c.args.bytes.now w.if-bytes-ne0.true)
]

pub is_canonical-requires : goal.is_canonical-requires
is_canonical-requires c = rw (c.new-arena.ensures.segments, c.as_slice.ensures) (small_segment c.args.bytes.now (omega (arith, c.if-bytes-ge-TOO_MANY_BYTES.false)))

pub returns-then-is_canonical : goal.returns-then-is_canonical
returns-then-is_canonical c =
    let few : length c.args.bytes.now < 8 * 2 ^ 29 = omega (arith, c.if-bytes-ge-TOO_MANY_BYTES.false) in
    let is = rw (c.new-arena.ensures.segments, c.as_slice.ensures) at c.is_canonical.ensures in
    let asked = rw (c.new-arena.ensures.segments, c.as_slice.ensures) at c.is_wanted.ensures in
    canonical_good (wants c.args.wanted) c.args.bytes.now c.is_wanted.result few c.if-bytes-ne0.false (λ i. omega (arith, c.type_inv.bytes i)) (sym is ∙ c.if-is_canonical.true) asked

pub returns-else-is_canonical : goal.returns-else-is_canonical
returns-else-is_canonical c =
    let few : length c.args.bytes.now < 8 * 2 ^ 29 = omega (arith, c.if-bytes-ge-TOO_MANY_BYTES.false) in
    let is = rw (c.new-arena.ensures.segments, c.as_slice.ensures) at c.is_canonical.ensures in
    c.if-is_canonical.false ∙ sym (not_canonical_bad (wants c.args.wanted) c.args.bytes.now few (sym is ∙ c.if-is_canonical.false))
