use Rattle.std.proofs.Common.{rules, inl}
use Rattle.hagzimot_commands.proofs.word_calls.enumerant_of.Goals as goal

pub returns-in-Ok : goal.returns-in-Ok
returns-in-Ok c = inl (c.in-Some.node.now, search rules, search rules)
