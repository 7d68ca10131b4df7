use Rattle.capnp_copy_arenas.proofs.Shifts.{joined_lt, word_is, word_lt}
use Rattle.capnp_copy_arenas.proofs.bits.word_with.Goals as goal

pub overflow_add-result : goal.overflow_add-result
overflow_add-result c = record { fits = joined_lt c.args.word c.args.at c.args.width c.args.value c.requires.within.0 c.requires.within.1 c.requires.fits c.ranges.word.fits }

pub overflow_add-result-2 : goal.overflow_add-result-2
overflow_add-result-2 c = record { fits = word_lt c.args.word c.args.at c.args.width c.args.value c.requires.within.0 c.requires.within.1 c.requires.fits c.ranges.word.fits }

pub returns-clause-bits : goal.returns-clause-bits
returns-clause-bits c = word_is c.args.word c.args.at c.args.width c.args.value c.requires.within.0 c.requires.within.1 c.requires.fits c.ranges.word.fits
