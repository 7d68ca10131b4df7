-- What a relay is asked by its arguments.
use Rattle.std.specs.Prelude.{Some, List, map}
use Rattle.capnp_model.specs.Calls.{Call as ModelCall}
use Rattle.capnp_values_queries.specs.declared.structs.StructSchema.{StructSchema}
use Rattle.capnp_calls.specs.declared.call.Call.{Call}
use Rattle.capnp_calls.specs.CallViews.{call_view}
use Rattle.capnp_relay_streams.specs.declared.options.RelayOptions.{RelayOptions}
use Rattle.capnp_relay_streams.specs.Messages.{IsAnswerInForm, IsTooLargeIn}
use Rattle.capnp_relay_streams.specs.Options.{reader_of, writer_of}
use Rattle.capnp_relay_loop.specs.Work.{LoopWork, work}

-- The calls at the roots of messages, in the plain or the canonical form, in the forms and within
-- the limits of the options. It is told whether the output and the log may want memory.
abbrev pub calls_work : StructSchema → List ModelCall → RelayOptions → Type 0 → Type 0 → LoopWork
calls_work root calls options out_grows log_grows =
    work (reader_of options.input) (writer_of options.output) (Some options.bounds.words) (IsAnswerInForm options.plain root calls options.bounds) (IsTooLargeIn options.plain root calls options.bounds) out_grows log_grows

-- The same of calls that a relay is given.
abbrev pub relay_work : StructSchema → List Call → RelayOptions → Type 0 → Type 0 → LoopWork
relay_work root calls options out_grows log_grows = calls_work root (map call_view calls) options out_grows log_grows
