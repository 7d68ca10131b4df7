use Rattle.std.proofs.Common.{◌≡◌, ◌<◌, ℕ, List, [], get_or, map, refl, ap, ◌∙◌, arith}
use Rattle.std.specs.List.{range_with_len}
use Rattle.std.proofs.lemmas.List.FromFn.{get_or-map-range_with_len}
use Rattle.capnp_stream_packed.specs.Tags.{marks, places, eight_places}
use Rattle.capnp_stream_packed.proofs.places.places_of.Goals as goal

row-of : (table : List (List ℕ)) → table ≡ map eight_places (range_with_len 0 256) → (tag : ℕ) → tag < 256 → get_or table tag [] ≡ eight_places tag
row-of table is tag below = ap (λ (rows : List (List ℕ)). get_or rows tag []) is ∙ get_or-map-range_with_len eight_places 0 256 tag tag [] below (omega arith)

pub returns : goal.returns
unfolding places marks
returns c = row-of _ refl c.args.tag (omega arith)
