-- Segments that are whole words can be written.
use Rattle.std.specs.Prelude.{◌≡◌, ℕ, ◌<◌, ◌^◌, List, length, All, map}
use Rattle.std.proofs.Common.{arith}
use Rattle.std.proofs.lemmas.List.{length-map}
use Rattle.std.proofs.lemmas.List.Elements.{All-map}
use Rattle.capnp_stream.specs.Writing.{IsSegment, AreWritable}

pub writable : {X : Type 0} (f : X → List ℕ) (xs : List X) → 0 < length xs → length xs < 2 ^ 32 → All (λ x. IsSegment (f x)) xs → AreWritable (map f xs)
writable f xs some few fit =
    let count : length (map f xs) ≡ length xs = length-map xs f in
    record {
      some = omega (arith, count, some);
      few = omega (arith, count, few);
      words = All-map IsSegment f xs fit;
    }
