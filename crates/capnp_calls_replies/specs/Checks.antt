-- Calls that some record takes, as the schema and the call tell. (Encoding, "Structs" and "Lists")
use Rattle.std.specs.Prelude.{ℕ, ◌≡◌, Bool, true, false, Option, Some, None, List}
use Rattle.capnp_model.specs.Schemas.{struct, Node, Schema}
use Rattle.capnp_model.specs.Readings.{number}
use Rattle.capnp_model.specs.Calls.{Verb, Call}
use Rattle.capnp_model.specs.Steps.{Outcome, refused, shown, done, at_field, at_element}
use Rattle.capnp_model.specs.InKindCalls.{PathEnd, at_slot, at_value, nowhere, end_of}
use Rattle.capnp_model.specs.Answers.{Reply, reply_text, reply_done, reply_refused}
use Rattle.capnp_values_queries.specs.Fields.{Entry}
use Rattle.capnp_values_queries.specs.Handles.{entry_of_field}
use Rattle.capnp_values_queries.specs.Structs.{nodes_around}
use Rattle.capnp_values_queries.specs.Types.{ty_of, is_type_of}
use Rattle.capnp_values_queries.specs.declared.fields.Field.{Field}
use Rattle.capnp_calls_replies.specs.declared.checks.End.{End}
use Rattle.capnp_calls_replies.specs.declared.checks.End.TheVariants as ends

-- It isn't refused.
abbrev pub is_taken : {A : Type 0} → Outcome A → Bool
is_taken (refused k) = false
is_taken (shown how r) = true
is_taken (done x) = true

-- At the end of a path a verb is taken, where what is read there can be shown: only a `get` asks for that.
abbrev pub takes_at : Schema → Verb → PathEnd → Bool
takes_at s verb (at_slot body) = is_taken (at_field s verb body (number 0))
takes_at s verb (at_value ty) = is_taken (at_element s verb ty (number 0))
takes_at s verb nowhere = false

-- The path leads to a field or an element under the schema, and the verb is taken there.
abbrev pub can_take : Schema → ℕ → Call → Bool
can_take s id call = takes_at s call.verb (end_of s call.path (at_value (struct id)))

-- The reply to a write that is done.
abbrev pub is_done_reply : Reply → Bool
is_done_reply (reply_text bs) = false
is_done_reply reply_done = true
is_done_reply (reply_refused k) = false

-- ---- where a path leads, as the model has it

abbrev pub end_of_entry : Option Entry → PathEnd
end_of_entry None = nowhere
end_of_entry (Some e) = at_slot e.body

abbrev pub end_of_field : Field → PathEnd
end_of_field f = end_of_entry (entry_of_field f)

abbrev pub end_view : End → PathEnd
end_view (ends.Field f) = end_of_field f
end_view (ends.Value ty) = at_value (ty_of ty)

abbrev pub reached_end : Option End → PathEnd
reached_end None = nowhere
reached_end (Some e) = end_view e

-- What is there is of the set of the nodes.
abbrev pub IsEndOf : List Node → End → Type 0
IsEndOf nodes (ends.Field f) = nodes_around f.parent ≡ nodes
IsEndOf nodes (ends.Value ty) = is_type_of nodes ty ≡ true
