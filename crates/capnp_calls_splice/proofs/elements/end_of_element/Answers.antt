-- The elements behind it are the rest of the list.
use Rattle.std.proofs.Common.{arith}
use Rattle.capnp_calls_splice.proofs.elements.end_of_element.Goals as goal

pub returns : goal.returns
returns c = record { tells = λ m es count are ends. c.end_before_cells.ensures.tells m es (omega (arith, count)) are ends }
