-- The calls that the parts in a calls file make.
use Rattle.std.specs.Prelude.{ℕ, suc, ◌^◌, nat_lt, Option, Some, None, option_map, ok_or, Result, Ok, List, [], ◌∷◌}
use Rattle.capnp_model.specs.Chains.{◌>>=◌, ◌provided◌}
use Rattle.capnp_model.specs.Calls.{Step, CallValue, whole_number, truth, enumerant, text_value, blob_value, message, Verb as ModelVerb, get, set_to, init, initn, clear, Call}
use Rattle.capnp_calls.specs.Frames.{value_in}
use Rattle.capnp_calls.specs.declared.call.Verb.{Verb}
use Rattle.capnp_calls.specs.declared.call.Verb.TheVariants as verb
use Rattle.capnp_relay_files.specs.CallsFiles.{SetArgument, given_number, given_bool, given_enum, given_text, given_data, given_message, CallParts}
use Rattle.capnp_relay_program.specs.Faults.{◌then_or_stop◌}
use Rattle.capnp_relay_program.specs.declared.stop.Stop.{Stop}
use Rattle.capnp_relay_program.specs.declared.stop.Stop.TheVariants as stop

-- What `set` takes; of a message its value, where it has one.
abbrev pub value_to_set : SetArgument → Option CallValue
value_to_set (given_number z) = Some (whole_number z)
value_to_set (given_bool b) = Some (truth b)
value_to_set (given_enum n) = Some (enumerant n)
value_to_set (given_text bs) = Some (text_value bs)
value_to_set (given_data bs) = Some (blob_value bs)
value_to_set (given_message bs) = option_map message (value_in bs)

-- What a verb and a value make: `set` wants a value, the others want none, and lists have fewer than 2^29 elements.
abbrev pub verb_given : Verb → Option SetArgument → Option ModelVerb
verb_given verb.Set (Some v) = value_to_set v >>= λ x. Some (set_to x)
verb_given verb.Set None = None
verb_given _ (Some v) = None
verb_given verb.Get None = Some get
verb_given verb.Init None = Some init
verb_given (verb.Initn n) None = initn n provided nat_lt n (2 ^ 29)
verb_given verb.Clear None = Some clear

-- The call along a path, which has a step.
abbrev pub call_along_steps : List Step → ModelVerb → Option Call
call_along_steps [] v = None
call_along_steps (s ∷ path) v = Some (record { path = s ∷ path; verb = v })

-- The call that its parts make.
abbrev pub call_given : CallParts → Option Call
call_given parts = verb_given parts.verb parts.value >>= call_along_steps parts.path

-- The calls, numbered from a number on, or the first that is refused.
abbrev pub calls_from : ℕ → List CallParts → Result (List Call) Stop
calls_from n [] = Ok []
calls_from n (parts ∷ more) =
    ok_or (call_given parts) (stop.Call n) then_or_stop λ call.
    calls_from (suc n) more then_or_stop λ calls.
    Ok (call ∷ calls)
