use Rattle.std.proofs.Common.{◌≡◌, ℕ, List, [], get_or, map, refl, ap, ◌∙◌, ◌<◌, arith}
use Rattle.std.specs.List.{range_with_len}
use Rattle.std.proofs.lemmas.List.FromFn.{get_or-map-range_with_len}
use Rattle.capnp_stream_packed.specs.Tags.{sources}
use Rattle.capnp_stream_packed.proofs.sources.sources_of.Goals as goal

row-of : (table : List (List ℕ)) → table ≡ map (λ t. sources 8 t 0) (range_with_len 0 256) → (tag : ℕ) → tag < 256 → get_or table tag [] ≡ sources 8 tag 0
row-of table is tag below = ap (λ (rows : List (List ℕ)). get_or rows tag []) is ∙ get_or-map-range_with_len (λ t. sources 8 t 0) 0 256 tag tag [] below (omega arith)

pub returns : goal.returns
unfolding sources
returns c = row-of _ refl c.args.tag (omega arith)
