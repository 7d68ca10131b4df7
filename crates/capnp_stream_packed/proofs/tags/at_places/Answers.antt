use Rattle.std.proofs.Common.{ℕ, get_or, map, ap, ◌∙◌, arith}
use Rattle.std.proofs.lemmas.Simd.{pick_l_whole}
use Rattle.capnp_stream_packed.proofs.TagLemmas.{lane, eight_alike}
use Rattle.capnp_stream_packed.proofs.tags.at_places.Goals as goal

pub returns : goal.returns
returns c =
    let bytes = c.args.bytes.now in
    let places = c.args.places in
    let at = λ (i : ℕ). lane bytes (get_or places i 0) (omega arith) (c.requires i) in
    eight_alike _ _ _ _ _ _ _ _ _ _ _ _ _ _ _ _ (at 0) (at 1) (at 2) (at 3) (at 4) (at 5) (at 6) (at 7) ∙ ap (map (λ (i : ℕ). get_or bytes i 0)) (pick_l_whole 0 places 8 (omega arith))
