use Rattle.std.proofs.Common.{◌<◌, ◌^◌, ℕ, Fits, w8, List, [], ◌∷◌, suc, get_or, arith}
use Rattle.std.specs.List.{AllByRecursion}
use Rattle.capnp_values.proofs.dynamic_struct.are_bytes.Goals as goal

all_bytes : (bs : List ℕ) → ((i : ℕ) → Fits w8 (get_or bs i 0)) → AllByRecursion (λ b. b < 2 ^ 8) bs
all_bytes [] h = tt
all_bytes (b ∷ bs) h = let first : Fits w8 b = h 0 in (omega (arith, first), all_bytes bs (λ i. h (suc i)))

pub returns : goal.returns
returns c = all_bytes c.args.bytes.now c.type_inv.bytes
