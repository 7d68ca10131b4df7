-- What contracts see of calls.
use Rattle.std.specs.Prelude.{◌≡◌, ◌^◌, nat_lt, if◌then◌else◌, Option, Some, None, option_map, IsSome, Result, Ok, Err, List, [], ◌∷◌, map, string_bytes}
use Rattle.capnp_model.specs.Calls.{Step as ModelStep, name, index, CallValue as ModelValue, whole_number, truth, enumerant, text_value, blob_value, message, Verb as ModelVerb, get, set_to, init, initn, clear, Call as ModelCall}
use Rattle.capnp_calls.specs.Frames.{one_frame, value_in}
use Rattle.capnp_calls.specs.Messages.{tree_of_message}
use Rattle.capnp_calls.specs.declared.call.Step.{Step}
use Rattle.capnp_calls.specs.declared.call.Step.TheVariants as step
use Rattle.capnp_calls.specs.declared.call.Verb.{Verb}
use Rattle.capnp_calls.specs.declared.call.Verb.TheVariants as verb
use Rattle.capnp_calls.specs.declared.call.CallValue.{CallValue}
use Rattle.capnp_calls.specs.declared.call.CallValue.TheVariants as value
use Rattle.capnp_calls.specs.declared.call.SlotValue.{SlotValue}
use Rattle.capnp_calls.specs.declared.call.SlotValue.TheVariants as slot
use Rattle.capnp_calls.specs.declared.call.Action.{Action}
use Rattle.capnp_calls.specs.declared.call.Action.TheVariants as action
use Rattle.capnp_calls.specs.declared.call.Call.{Call}
use Rattle.capnp_calls.specs.declared.call.CallFault.{CallFault}
use Rattle.capnp_calls.specs.declared.call.CallFault.TheVariants as fault

-- A step.
abbrev pub step_view : Step → ModelStep
step_view (step.Name n) = name (string_bytes n)
step_view (step.Index i) = index i

-- What a call sets.
abbrev pub slot_value_view : SlotValue → ModelValue
slot_value_view (slot.Number z) = whole_number z
slot_value_view (slot.Bool b) = truth b
slot_value_view (slot.Enum n) = enumerant n
slot_value_view (slot.Text t) = text_value (string_bytes t)
slot_value_view (slot.Data bs) = blob_value bs.items
slot_value_view (slot.Message m) = message (tree_of_message m)

-- What a call does.
abbrev pub action_view : Action → ModelVerb
action_view action.Get = get
action_view (action.Set v) = set_to (slot_value_view v)
action_view action.Init = init
action_view (action.Initn n) = initn n
action_view action.Clear = clear

-- The verb, without what it sets.
abbrev pub verb_of : ModelVerb → Verb
verb_of get = verb.Get
verb_of (set_to v) = verb.Set
verb_of init = verb.Init
verb_of (initn n) = verb.Initn n
verb_of clear = verb.Clear

-- A call.
abbrev pub call_view : Call → ModelCall
call_view c = record { path = map step_view c.path.items; verb = action_view c.action }

-- ---- making a call

-- The value that is given; of a message its trimmed value, where it has one.
abbrev pub taken_value : CallValue → Option ModelValue
taken_value (value.Number z) = Some (whole_number z)
taken_value (value.Bool b) = Some (truth b)
taken_value (value.Enum n) = Some (enumerant n)
taken_value (value.Text t) = Some (text_value (string_bytes t))
taken_value (value.Data bs) = Some (blob_value bs.items)
taken_value (value.Message bs) = option_map message (value_in bs.items)

-- `set` to a value that is taken.
abbrev pub set_verb : Option ModelValue → Result ModelVerb CallFault
set_verb None = Err fault.Message
set_verb (Some v) = Ok (set_to v)

-- What a verb and a value make: `set` wants a value, the others want none, and lists have fewer than 2^29 elements.
abbrev pub verb_from : Verb → Option CallValue → Result ModelVerb CallFault
verb_from verb.Set (Some v) = set_verb (taken_value v)
verb_from verb.Set None = Err fault.ValueAndVerb
verb_from _ (Some v) = Err fault.ValueAndVerb
verb_from verb.Get None = Ok get
verb_from verb.Init None = Ok init
verb_from (verb.Initn n) None = if nat_lt n (2 ^ 29) then Ok (initn n) else Err fault.Size
verb_from verb.Clear None = Ok clear

-- The call along a path.
abbrev pub call_along : List ModelStep → Result ModelVerb CallFault → Result ModelCall CallFault
call_along path (Ok v) = Ok (record { path = path; verb = v })
call_along path (Err f) = Err f

-- What a path, a verb and a value make: a call, or the first refusal.
abbrev pub call_from : List Step → Verb → Option CallValue → Result ModelCall CallFault
call_from [] v x = Err fault.EmptyPath
call_from (s ∷ path) v x = call_along (map step_view (s ∷ path)) (verb_from v x)

-- ---- refusals

-- A message that is one frame.
abbrev pub IsFrame : CallValue → Type 0
IsFrame (value.Message bs) = IsSome (one_frame bs.items)
IsFrame _ = ⊥

-- `set` to such a message.
abbrev pub GivesFrame : Verb → Option CallValue → Type 0
GivesFrame verb.Set (Some v) = IsFrame v
GivesFrame _ _ = ⊥

-- `set` to such a message, along a path.
abbrev pub SetsFrame : List Step → Verb → Option CallValue → Type 0
SetsFrame [] v x = ⊥
SetsFrame (s ∷ path) v x = GivesFrame v x

-- What is made is refused by the fault; want of memory is one where some is wanted.
abbrev pub IsCallRefusal : {A : Type 0} → Type 0 → Result A CallFault → CallFault → Type 0
IsCallRefusal wants made fault.Memory = wants
IsCallRefusal wants made f = made ≡ Err f
