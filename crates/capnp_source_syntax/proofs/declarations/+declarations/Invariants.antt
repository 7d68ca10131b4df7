-- a block's declarations have one level less
use Rattle.std.proofs.Common.{◌+◌, ◌*◌}
use Rattle.capnp_source_syntax.proofs.declarations.+declarations.Given as goal

abbrev pub decreases-declaration : goal.decreases-declaration
decreases-declaration l = 2 * l.levels + 1

abbrev pub decreases-members : goal.decreases-members
decreases-members l = 2 * l.levels
