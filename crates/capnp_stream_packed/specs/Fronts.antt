-- Unpacked pieces are fronts of the bytes. (Encoding, "Packing")
use Rattle.std.proofs.Common.{ℕ, suc, []}
use Rattle.capnp_model.specs.Packing.{unpacked_from, unpacked}
use Rattle.capnp_model.proofs.lemmas.MessagePrefixes.{unpacked_more}
use Rattle.capnp_stream.specs.Pieces.{EndsEarly, ReadsFronts}

wants : (n : ℕ) → EndsEarly (unpacked (suc n) [])
unfolding unpacked_from
wants n = tt

pub unpacked_fronts : ReadsFronts unpacked
unpacked_fronts = record { no_further = unpacked_more; wants = wants }
