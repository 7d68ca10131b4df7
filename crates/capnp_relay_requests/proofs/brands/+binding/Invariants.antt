-- each step into a type leaves one level fewer
use Rattle.std.proofs.Common.{◌+◌, ◌*◌}
use Rattle.capnp_relay_requests.proofs.brands.+binding.Given as goal

abbrev pub decreases-push_bound : goal.decreases-push_bound
decreases-push_bound t l = 4 * l.levels + 1

abbrev pub decreases-bindings_in : goal.decreases-bindings_in
decreases-bindings_in t l = 4 * l.levels + 2

abbrev pub decreases-branded : goal.decreases-branded
decreases-branded t l = 4 * l.levels + 3

abbrev pub decreases-type_in : goal.decreases-type_in
decreases-type_in t l = 4 * l.levels
