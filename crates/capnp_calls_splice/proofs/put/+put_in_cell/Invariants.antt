-- Fewer hops are left.
use Rattle.std.proofs.Common.{length}
use Rattle.capnp_calls_splice.proofs.put.+put_in_cell.Given as goal

abbrev pub decreases-put_in_cell : goal.decreases-put_in_cell
decreases-put_in_cell l = length l.hops.now
