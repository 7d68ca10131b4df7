-- Messages that are not shown.
use Rattle.std.specs.Prelude.{◌≡◌, ◌≢◌, Some, None, ⊤}
use Rattle.capnp_model.specs.Segments.{Segments}
use Rattle.capnp_model.specs.Trees.{Tree}
use Rattle.capnp_model.specs.Messages.{frame}
use Rattle.capnp_model.specs.Answers.{Limits, value_within}
use Rattle.capnp_message.specs.declared.options.ReaderOptions.{ReaderOptions}
use Rattle.capnp_values_queries.specs.declared.structs.StructSchema.{StructSchema}
use Rattle.capnp_relay_show.specs.Answers.{IsShowFault}
use Rattle.capnp_relay_show.specs.declared.show.ShowFault.{ShowFault}
use Rattle.capnp_relay_show.specs.declared.show.ShowFault.TheVariants as fault

-- Why the message of these segments has no text: as `show` says of its frame, but that memory may be wanted for the frame too.
abbrev pub IsNotShown : StructSchema → ReaderOptions → Segments → ShowFault → Type 0
IsNotShown root options s why = why ≢ fault.Memory → IsShowFault root options (frame s) why

-- The message of these segments has a value within the limits, without a capability.
abbrev pub HasValueWithin : Limits → Segments → Type 0
HasValueWithin limits s = (t : Tree) × (value_within limits s ≡ Some t)

-- Why the record of a value has no layout.
abbrev pub IsRecordFault : ShowFault → Type 0
IsRecordFault fault.Root = ⊤
IsRecordFault fault.Unreadable = ⊤
IsRecordFault fault.Memory = ⊤
IsRecordFault fault.Value = ⊥
IsRecordFault fault.Size = ⊥
IsRecordFault (fault.Framing kind) = ⊥

-- Why the message of these segments has no layout: `Value` exactly where it has no value within the limits, but that memory may be wanted first.
abbrev pub IsLayoutFault : Limits → Segments → ShowFault → Type 0
IsLayoutFault limits s fault.Value = value_within limits s ≡ None
IsLayoutFault limits s fault.Root = HasValueWithin limits s
IsLayoutFault limits s fault.Unreadable = HasValueWithin limits s
IsLayoutFault limits s fault.Memory = ⊤
IsLayoutFault limits s fault.Size = ⊥
IsLayoutFault limits s (fault.Framing kind) = ⊥
