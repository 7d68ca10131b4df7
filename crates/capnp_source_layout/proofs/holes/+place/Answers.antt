use Rattle.std.proofs.Common.{◌≡◌, ◌+◌, ◌*◌, ◌≤◌, None, Some, get_or, set, sym, ap, ◌∙◌, arith}
use Rattle.capnp_source_layout.specs.Holes.{Placed, place}
use Rattle.capnp_source_layout.proofs.Places.{place_end, place_hole, place_half_next, large_end, large_half, if_none}
use Rattle.capnp_source_layout.proofs.holes.+place.Goals as goal

-- a word is added
pub returns-in_err-words-clause-large : goal.returns-in_err-words-clause-large
returns-in_err-words-clause-large t c = if_none _ _ c.from_residual.ensures (large_end c.args.size c.args.words.now c.args.holes.now c.if-size-holes.true c.in_err-words.ensures)

pub returns-then-size-holes-clause-offset : goal.returns-then-size-holes-clause-offset
returns-then-size-holes-clause-offset t c = sym (ap (λ (p : Placed). p.offset) (place_end _ _ _ c.if-size-holes.true))

pub returns-then-size-holes-clause-words : goal.returns-then-size-holes-clause-words
returns-then-size-holes-clause-words t c = c.in_ok-words.ensures.1 ∙ sym (ap (λ (p : Placed). p.words) (place_end _ _ _ c.if-size-holes.true))

pub returns-then-size-holes-clause-holes : goal.returns-then-size-holes-clause-holes
returns-then-size-holes-clause-holes t c = sym (ap (λ (p : Placed). p.holes) (place_end _ _ _ c.if-size-holes.true))

-- a hole of the size is handed out
pub returns-in-Some-clause-offset : goal.returns-in-Some-clause-offset
returns-in-Some-clause-offset t c = sym (ap (λ (p : Placed). p.offset) (place_hole _ _ _ c.in-Some.hole c.if-size-holes.false c.in-Some.is))

pub returns-in-Some-clause-words : goal.returns-in-Some-clause-words
returns-in-Some-clause-words t c = sym (ap (λ (p : Placed). p.words) (place_hole _ _ _ c.in-Some.hole c.if-size-holes.false c.in-Some.is))

pub returns-in-Some-clause-holes : goal.returns-in-Some-clause-holes
returns-in-Some-clause-holes t c = sym (ap (λ (p : Placed). p.holes) (place_hole _ _ _ c.in-Some.hole c.if-size-holes.false c.in-Some.is))

-- a place of twice the size is cut
pub returns-in_err-twice-clause-large : goal.returns-in_err-twice-clause-large
returns-in_err-twice-clause-large t c =
    let no_hole : get_or c.args.holes.now c.args.size None ≡ None = cc in
    if_none _ _ c.from_residual-in_err-twice.ensures (large_half c.args.size c.args.words.now c.args.holes.now c.if-size-holes.false no_hole c.in_err-twice.ensures.large)

pub returns-in_err-offset-clause-large : goal.returns-in_err-offset-clause-large
returns-in_err-offset-clause-large t c =
    let no_hole : get_or c.args.holes.now c.args.size None ≡ None = cc in
    let large : 9223372036854775808 ≤ (place (c.args.size + 1) c.args.words.now c.args.holes.now).offset = omega (arith, c.in_ok-twice.ensures.offset, c.in_err-offset.ensures) in
    if_none _ _ c.from_residual-in_err-offset.ensures (large_half c.args.size c.args.words.now c.args.holes.now c.if-size-holes.false no_hole large)

pub returns-clause-offset : goal.returns-clause-offset
returns-clause-offset t c =
    let no_hole : get_or c.args.holes.now c.args.size None ≡ None = cc in
    let twice : c.in_ok-offset.offset ≡ 2 * (place (c.args.size + 1) c.args.words.now c.args.holes.now).offset = omega (arith, c.in_ok-twice.ensures.offset, c.in_ok-offset.ensures.1) in
    twice ∙ sym (ap (λ (p : Placed). p.offset) (place_half_next _ _ _ c.if-size-holes.false no_hole))

pub returns-clause-words : goal.returns-clause-words
returns-clause-words t c =
    let no_hole : get_or c.args.holes.now c.args.size None ≡ None = cc in
    c.in_ok-twice.ensures.words ∙ sym (ap (λ (p : Placed). p.words) (place_half_next _ _ _ c.if-size-holes.false no_hole))

pub returns-clause-holes : goal.returns-clause-holes
returns-clause-holes t c =
    let no_hole : get_or c.args.holes.now c.args.size None ≡ None = cc in
    let half : c.in_ok-checked_add.field-0 ≡ 2 * (place (c.args.size + 1) c.args.words.now c.args.holes.now).offset + 1 = omega (arith, c.in_ok-twice.ensures.offset, c.in_ok-offset.ensures.1, c.in_ok-checked_add.ensures.1) in
    (λ i. set (c.in_ok-twice.ensures.holes i) c.args.size (Some (half i))) ∙ sym (ap (λ (p : Placed). p.holes) (place_half_next _ _ _ c.if-size-holes.false no_hole))
