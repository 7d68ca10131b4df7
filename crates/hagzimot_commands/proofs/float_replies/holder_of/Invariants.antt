-- the fields so far are kept
use Rattle.std.proofs.Common.{◌≡◌, map, take}
use Rattle.hagzimot_commands.specs.FloatReplies.{field_placed, named_placed}
use Rattle.hagzimot_commands.proofs.float_replies.holder_of.Given as goal

abbrev pub invariant-loop-index : goal.invariant-loop-index
invariant-loop-index l = map named_placed l.fields.items ≡ map field_placed (take l.index-counter l.told)
