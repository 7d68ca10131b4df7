-- The used bytes of one segment after the other.
use Rattle.std.proofs.Common.{◌≡◌, ◌*◌, ◌+◌, ◌<◌, ◌≤◌, ◌++◌, ◌∷◌, [], ℕ, List, length, map, take, get_or, ap, sym, ◌∙◌}
use Rattle.std.proofs.lemmas.List.{map-append, take_more, take_all}
use Rattle.capnp_copy_arenas.proofs.segments.BuilderArenaImpl.get_segments_for_output.Goals as goal

-- one more is seen
one_more : {X Y Z : Type 0} (v : X → Y) (f : Z → Y) (xs ys : List X) (zs : List Z) (i : ℕ) (x : X) (z : Z) → i < length zs → map v xs ≡ map f (take i zs) → ys ≡ xs ++ x ∷ [] → z ≡ get_or zs i z → v x ≡ f z
    → map v ys ≡ map f (take (i + 1) zs)
one_more {Y = Y} v f xs ys zs i x z within so_far pushed here is =
    ap (map v) pushed ∙ map-append v xs (x ∷ []) ∙ ap (λ (us : List Y). us ++ v x ∷ []) so_far ∙ ap (λ (u : Y). map f (take i zs) ++ u ∷ []) (is ∙ ap f here)
    ∙ sym (ap (map f) (take_more zs i z within) ∙ map-append f (take i zs) (get_or zs i z ∷ []))

-- all are seen
all_seen : {Y Z : Type 0} (f : Z → Y) (us : List Y) (zs xs : List Z) (i : ℕ) → us ≡ map f (take i zs) → length zs ≤ i → zs ≡ xs → us ≡ map f xs
all_seen f us zs xs i so_far past same = so_far ∙ ap (map f) (take_all i zs past ∙ same)

pub loop-held-preserved : goal.loop-held-preserved
loop-held-preserved g c =
    one_more (λ b. b.now) (λ h. take (8 * h.used) (g.A.Segment.SegmentBytes.bytes h.segment)) c.loop-held.all.items c.push.new.self.items c.deref-held-items.result.now c.loop-held.held-index c.used_bytes.result c.held-item.result
    c.loop-held-test.true c.loop-held.invariant c.in_ok-push.ensures.items c.held-item.is c.used_bytes.ensures

pub returns : goal.returns
returns g c = record {
  segments = all_seen (λ h. take (8 * h.used) (g.A.Segment.SegmentBytes.bytes h.segment)) _ c.deref-held-items.result.now c.args.self.now.segments.items c.loop-held.held-index c.loop-held.invariant c.loop-held-test.false c.deref-held-items.ensures.value;
  kind = tt;
}
