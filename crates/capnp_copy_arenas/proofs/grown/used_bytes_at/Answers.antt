-- The used bytes of the segment that is there.
use Rattle.std.proofs.Common.{◌≡◌, ◌*◌, ℕ, ltb, true, false, Some, None, List, length, map, take, get_or, ap, sym, ◌∙◌, arith}
use Rattle.std.specs.Prelude.{slice_get, option_map}
use Rattle.std.proofs.lemmas.Bool.{ltb-true, ltb-false}
use Rattle.std.proofs.lemmas.List.{length-map}
use Rattle.std.proofs.lemmas.Option.{slice_get-map, slice_get_past, slice_get-get_or}
use Rattle.capnp_copy_arenas.proofs.grown.used_bytes_at.Goals as goal

-- what is seen of the element that is there
seen_at : {X Y : Type 0} (v : X → Y) (xs : List X) (i : ℕ) (x : X) (y : Y) → true ≡ ltb i (length xs) → x ≡ get_or xs i x → y ≡ v x → Some y ≡ slice_get (map v xs) i
seen_at v xs i x y within here is = ap Some (is ∙ ap v here) ∙ sym (slice_get-map v xs i ∙ ap (option_map v) (slice_get-get_or xs i x (ltb-true i (length xs) (sym within))))

-- past the last there is none
none_at : {X Y : Type 0} (v : X → Y) (xs : List X) (i : ℕ) → false ≡ ltb i (length xs) → None ≡ slice_get (map v xs) i
none_at v xs i past = let behind = ltb-false i (length xs) (sym past) in sym (slice_get_past (map v xs) i (omega (arith, length-map xs v)))

pub returns-in-None : goal.returns-in-None
returns-in-None g c = none_at (λ h. take (8 * h.used) (g.S.SegmentBytes.bytes h.segment)) c.args.all.now c.args.id c.in-None.ensures.lookup.0

pub returns-in-Some : goal.returns-in-Some
returns-in-Some g c =
    let found = c.in-Some.ensures.lookup in
    seen_at (λ h. take (8 * h.used) (g.S.SegmentBytes.bytes h.segment)) c.args.all.now c.args.id c.in-Some.held.now c.used_bytes.result.now found.0 found.1 c.used_bytes.ensures
