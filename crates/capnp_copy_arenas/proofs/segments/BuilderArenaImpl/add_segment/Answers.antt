use Rattle.std.proofs.Common.{◌≡◌, ℕ, [], ◌∷◌, ◌++◌, length, map, ap, ◌∙◌, arith, rules}
use Rattle.std.proofs.lemmas.List.{length-append}
use Rattle.capnp_copy_arenas.specs.Allocations.{total_of, words_used}
use Rattle.capnp_copy_arenas.proofs.HeldWords.{total_push, push_map, used_zeros}
use Rattle.capnp_copy_arenas.proofs.segments.BuilderArenaImpl.add_segment.Goals as goal

pub invariant_of-self-in-Ok : goal.invariant_of-self-in-Ok
invariant_of-self-in-Ok g c =
    let xs = c.args.self.now.segments.items in
    let held = c.new-held.result in
    let items : c.push.new.self.items ≡ xs ++ held ∷ [] = search rules in
    record {
      sum = omega (arith, ap (total_of (λ h. h.used)) items, total_push (λ h. h.used) xs held, c.args.self.now.sum, c.new-held.ensures.used);
      few = omega (arith, c.requires.few);
      numbered = omega (arith, ap length items, length-append xs (held ∷ []), c.if-len.false);
    }

pub returns-in-Ok-clause-words : goal.returns-in-Ok-clause-words
returns-in-Ok-clause-words g c =
    let xs = c.args.self.now.segments.items in
    let held = c.new-held.result in
    let items : c.push.new.self.items ≡ xs ++ held ∷ [] = search rules in
    let bytes = g.A.Segment.SegmentBytes.bytes in
    let same : words_used held.used (bytes held.segment) ≡ words_used c.args.used (bytes c.in_ok-segment.segment) = ap (λ (n : ℕ). words_used n (bytes held.segment)) c.new-held.ensures.used ∙ ap (λ s. words_used c.args.used (bytes s)) c.new-held.ensures.segment in
    ap (map _) items ∙ push_map _ xs c.args.used held (same ∙ used_zeros c.args.used (bytes c.in_ok-segment.segment) (omega (arith, c.in_ok-segment.ensures.room, c.requires.fits)) c.in_ok-segment.ensures.zeros)
