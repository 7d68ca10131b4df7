-- What contracts see of calls files.
use Rattle.std.specs.Prelude.{Option, option_map, Vec, map}
use Rattle.std.specs.declared.alloc.Global.{Global}
use Rattle.capnp_calls.specs.CallViews.{step_view}
use Rattle.capnp_calls.specs.declared.call.Step.{Step}
use Rattle.capnp_calls.specs.declared.call.Verb.{Verb}
use Rattle.capnp_calls.specs.declared.call.CallValue.{CallValue}
use Rattle.capnp_relay_files.specs.CallsFiles.{CallParts, CallsText, given_of}
use Rattle.capnp_relay_files.specs.declared.calls_file.CallsFile.{CallsFile}

-- What a call is made of.
abbrev pub parts_of : (Vec Step Global × Verb × Option CallValue) → CallParts
parts_of c = record { path = map step_view c.0.items; verb = c.1; value = option_map given_of c.2 }

-- What a calls file says.
abbrev pub file_of : CallsFile → CallsText
file_of f = record { calls = map parts_of f.calls.items; words = f.words; nesting = f.nesting }
