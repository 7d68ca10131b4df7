-- What a clause reads of calls at the roots of messages.
use Rattle.std.specs.Prelude.{List}
use Rattle.capnp_model.specs.Calls.{Call}
use Rattle.capnp_calls.specs.Resolved.{calls_of}
use Rattle.capnp_values_queries.specs.declared.structs.StructSchema.{StructSchema}
use Rattle.capnp_relay_answers.specs.declared.root_calls.RootCalls.{RootCalls}

-- The schema of the roots.
abbrev pub root_schema : RootCalls → StructSchema
root_schema c = c.schema

-- The calls, in turn.
abbrev pub root_calls : RootCalls → List Call
root_calls c = calls_of c.calls.items
