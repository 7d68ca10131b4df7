-- How many levels a call can add to a value.
use Rattle.std.specs.Prelude.{ℕ, ◌+◌, max, length}
use Rattle.capnp_model.specs.Trees.{depth}
use Rattle.capnp_model.specs.Calls.{Verb, set_to, message, Call}

-- The levels of what a verb puts at the end of a path: those of the message that is set, else at most one.
abbrev pub verb_depth : Verb → ℕ
verb_depth (set_to (message t)) = max 1 (depth t)
verb_depth _ = 1

-- The levels at which a call can leave a value. Each step goes one level down. What stands there is
-- the verb's value or a field's default, which has at most 64 levels.
abbrev pub call_depth : Call → ℕ
call_depth c = length c.path + max 64 (verb_depth c.verb)
