use Rattle.std.proofs.Common.{◌≡◌, ◌++◌, ◌*◌, ◌∷◌, replicate}
use Rattle.capnp_values_print.proofs.single.push_line.Given as goal

abbrev pub invariant-loop : goal.invariant-loop
invariant-loop l = l.out.items ≡ l.fn.out.items ++ (10 ∷ replicate (2 * l.counter) 32)
