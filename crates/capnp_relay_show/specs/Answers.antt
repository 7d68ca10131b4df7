-- What `show` answers.
use Rattle.std.specs.Prelude.{ℕ, ◌≡◌, ◌^◌, ◌≤◌, List, length, Some, Result, Ok, Err}
use Rattle.capnp_model.specs.Segments.{Segments, root}
use Rattle.capnp_model.specs.Trees.{Tree}
use Rattle.capnp_model.specs.Traversal.{cost_at}
use Rattle.capnp_model.specs.Trimming.{trim}
use Rattle.capnp_model.specs.Encoding.{canonical_words}
use Rattle.capnp_model.specs.Answers.{Limits, levels, value_within}
use Rattle.capnp_units.specs.Errors.{kind_of}
use Rattle.capnp_message.specs.declared.options.ReaderOptions.{ReaderOptions}
use Rattle.capnp_values_queries.specs.Structs.{schema_around, id_of}
use Rattle.capnp_values_queries.specs.declared.structs.StructSchema.{StructSchema}
use Rattle.capnp_model.specs.Printing.{as_it_is}
use Rattle.capnp_relay_show.specs.Showing.{NotShown, not_framed, no_value, no_struct, no_text, first_message, front_message_shown}
use Rattle.capnp_relay_show.specs.declared.show.ShowFault.{ShowFault}
use Rattle.capnp_relay_show.specs.declared.show.ShowFault.TheVariants as fault

-- The limits that options set.
abbrev pub limits_of : ReaderOptions → Limits
limits_of o = record { words = o.traversal_limit_in_words; nesting = o.nesting_limit }

-- What is shown under a schema and options. Characters past ASCII stand as they are.
abbrev pub shown_by : StructSchema → ReaderOptions → List ℕ → Result (List ℕ) NotShown
shown_by r options bytes = front_message_shown (schema_around r) as_it_is (id_of r) (limits_of options) bytes

-- The message at the front of bytes has a value within the limits, without a capability; following
-- it costs n words.
pub record HasValue (limits : Limits) (bytes : List ℕ) (cost : ℕ) : Type 0 where
  pub message : Segments × List ℕ
  pub framed : first_message limits.words bytes ≡ Ok message
  pub nesting : ℕ
  pub deep : levels limits.nesting ≡ Some nesting
  pub value : Tree
  pub within : value_within limits message.0 ≡ Some value
  pub cost_is : cost_at nesting message.0 root ≡ cost

-- Why nothing is shown: as the model has it; for want of memory, or since a message has no room for the value's canonical words, where there is a value.
abbrev pub IsShowFault : StructSchema → ReaderOptions → List ℕ → ShowFault → Type 0
IsShowFault r options bytes (fault.Framing kind) = shown_by r options bytes ≡ Err (not_framed (kind_of kind))
IsShowFault r options bytes fault.Value = shown_by r options bytes ≡ Err no_value
IsShowFault r options bytes fault.Root = shown_by r options bytes ≡ Err no_struct
IsShowFault r options bytes fault.Unreadable = shown_by r options bytes ≡ Err no_text
IsShowFault r options bytes fault.Memory = (cost : ℕ) × HasValue (limits_of options) bytes cost
IsShowFault r options bytes fault.Size = (cost : ℕ) × (v : HasValue (limits_of options) bytes cost) × (2 ^ 29 ≤ length (canonical_words (trim v.value)))
