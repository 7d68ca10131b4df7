use Rattle.std.proofs.Common.{◌≡◌, ℕ, ◌+◌, ◌-◌, ◌/◌, ◌<◌, length, map, get_or, inl, inr, ap, sym, ◌∙◌, arith}
use Rattle.std.proofs.lemmas.List.{get_or-map}
use Rattle.std.proofs.lemmas.Option.{IfSome_then}
use Rattle.capnp_copy_arenas.specs.Allocations.{words_used}
use Rattle.capnp_copy_arenas.proofs.HeldWords.{zeros_map, end_map, total_set, used_length, used_more, total_at, if_none, on_some, told_of_set}
use Rattle.capnp_copy_arenas.proofs.grown.grow_in.Goals as goal

pub returns-clause-at : goal.returns-clause-at
returns-clause-at g c =
    let d = c.index-all-index.result in
    let old = get_or c.args.all.now c.args.index c.index-all-index.result in
    IfSome_then c.grow.result c.grow.ensures.some (λ at e. (
      c.if-index-all.false,
      e.0 ∙ sym (end_map _ c.args.all.now c.args.index d c.if-index-all.false ∙ used_length old.used (g.S.SegmentBytes.bytes old.segment) old.inside),
    ))

pub returns-clause-words : goal.returns-clause-words
returns-clause-words g c =
    let d = c.index-all-index.result in
    let old = get_or c.args.all.now c.args.index c.index-all-index.result in
    let new = c.grow.new.self in
    let bytes = g.S.SegmentBytes.bytes in
    IfSome_then c.grow.result c.grow.ensures.some (λ at e. (
    let long : length (bytes new.segment) ≡ length (bytes old.segment) = ap (λ s. length (bytes s)) c.grow.ensures.segment in
    let same : words_used new.used (bytes new.segment) ≡ words_used (old.used + c.args.words) (bytes old.segment) = ap (λ s. words_used new.used (bytes s)) c.grow.ensures.segment ∙ ap (λ (n : ℕ). words_used n (bytes old.segment)) e.1 in
    zeros_map _ c.args.all.now c.args.index c.args.words new d c.if-index-all.false (same ∙ used_more old.used c.args.words (bytes old.segment) (omega (arith, new.inside, long, e.1)) old.rest)
    ))

pub returns-clause-total : goal.returns-clause-total
returns-clause-total g c =
    let d = c.index-all-index.result in
    let t = total_set (λ h. h.used) c.args.all.now c.args.index c.grow.new.self d c.if-index-all.false in
    IfSome_then c.grow.result c.grow.ensures.some (λ at e. omega (arith, e.1, t))

pub returns-clause-room : goal.returns-clause-room
returns-clause-room g c =
    let d = c.index-all-index.result in
    let old = get_or c.args.all.now c.args.index c.index-all-index.result in
    let new = c.grow.new.self in
    let bytes = g.S.SegmentBytes.bytes in
    let long : length (bytes new.segment) ≡ length (bytes old.segment) = ap (λ s. length (bytes s)) c.grow.ensures.segment in
    let is = get_or-map (λ h. length (bytes h.segment) / 8 - h.used) c.args.all.now c.args.index d 0 c.if-index-all.false in
    on_some c.grow.result c.grow.ensures.some (λ at e. omega (arith, is, long, new.inside, e.1))

pub returns-clause-full : goal.returns-clause-full
returns-clause-full g c =
    let d = c.index-all-index.result in
    let old = get_or c.args.all.now c.args.index c.index-all-index.result in
    let bytes = g.S.SegmentBytes.bytes in
    let is = get_or-map (λ h. length (bytes h.segment) / 8 - h.used) c.args.all.now c.args.index d 0 c.if-index-all.false in
    let t = total_at (λ h. h.used) c.args.all.now c.args.index d c.if-index-all.false in
    if_none c.grow.result c.grow.ensures.full (elim [ inl l ↦ inr (inl (omega (arith, is, old.inside, l))) | inr l ↦ inr (inr (omega (arith, t, l))) ])

pub returns-clause-left : goal.returns-clause-left
returns-clause-left g c =
    let d = c.index-all-index.result in
    let old = get_or c.args.all.now c.args.index c.index-all-index.result in
    let new = c.grow.new.self in
    let bytes = g.S.SegmentBytes.bytes in
    let long : length (bytes new.segment) ≡ length (bytes old.segment) = ap (λ s. length (bytes s)) c.grow.ensures.segment in
    let is = get_or-map (λ h. length (bytes h.segment) / 8 - h.used) c.args.all.now c.args.index d 0 c.if-index-all.false in
    let now = told_of_set (λ h. length (bytes h.segment) / 8 - h.used) c.args.all.now c.args.index c.grow.new.self c.if-index-all.false in
    on_some c.grow.result c.grow.ensures.some (λ at e. omega (arith, is, now, long, new.inside, e.1))
