use Rattle.std.proofs.Common.{arith}
use Rattle.cases_growths.proofs.Rest.{zeros_behind_end}
use Rattle.cases_growths.proofs.typed.told_of_words.Goals as goal

-- the segment ends where its used words do
pub told_of_held-requires-clause-rest : goal.told_of_held-requires-clause-rest
told_of_held-requires-clause-rest c = zeros_behind_end 16 c.in_ok-words.words.items (omega (arith, c.if-len-ne16.false, c.len.ensures))
