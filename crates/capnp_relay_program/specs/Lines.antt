-- The lines that tell faults.
use Rattle.std.specs.Prelude.{ℕ, List, ◌++◌, codes, decimal}
use Rattle.capnp_units.specs.Errors.{kind_of}
use Rattle.capnp_units.specs.declared.kinds.ErrorKind.{ErrorKind}
use Rattle.capnp_model.specs.Kinds.{kind_name}
use Rattle.capnp_relay_loop.specs.declared.ends.Fault.{Fault}
use Rattle.capnp_relay_loop.specs.declared.ends.Fault.TheVariants as fault
use Rattle.capnp_relay_program.specs.declared.stop.Stop.{Stop}
use Rattle.capnp_relay_program.specs.declared.stop.Stop.TheVariants as stop

-- What the line says of input that begins with no message.
abbrev pub framing_words : ErrorKind → List ℕ
framing_words kind = codes "framing " ++ kind_name (kind_of kind)

-- What the line says of a fault of the relay.
abbrev pub fault_words : Fault → List ℕ
fault_words fault.Source = codes "source"
fault_words (fault.Framing kind) = framing_words kind
fault_words fault.Out = codes "out"
fault_words fault.Log = codes "log"
fault_words fault.Memory = codes "memory"
fault_words fault.Size = codes "size"

-- What the line says of a broken rule and its node.
abbrev pub rule_words : ℕ → ℕ → List ℕ
rule_words rule node = codes "schema rule " ++ (decimal rule ++ (codes " node " ++ decimal node))

-- What the line says of a call.
abbrev pub call_words : ℕ → List ℕ
call_words number = codes "call " ++ decimal number

-- What the line says of a call that isn't admitted.
abbrev pub not_admitted_words : ℕ → List ℕ
not_admitted_words number = call_words number ++ codes " not admitted"

-- What the line says of a fault.
abbrev pub stop_words : Stop → List ℕ
stop_words stop.Arguments = codes "arguments"
stop_words stop.SchemaFile = codes "schema file"
stop_words (stop.SchemaRule rule node) = rule_words rule node
stop_words stop.Root = codes "root"
stop_words stop.RenamesFile = codes "renames file"
stop_words stop.CallsFile = codes "calls file"
stop_words (stop.Call number) = call_words number
stop_words stop.Options = codes "options"
stop_words stop.NotCompatible = codes "not compatible"
stop_words (stop.NotAdmitted number) = not_admitted_words number
stop_words (stop.Relay fault) = fault_words fault

-- The line that tells a fault.
abbrev pub fault_line : Stop → List ℕ
fault_line stop = codes "fault: " ++ (stop_words stop ++ codes "\n")
