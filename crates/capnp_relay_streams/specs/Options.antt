-- What a clause reads of the options of a relay.
use Rattle.std.specs.Prelude.{◌≡◌, ℕ, pos, ◌-◌, ◌^◌, ◌<◌, ◌≤◌, ◌<ℤ◌, Some, None, true, false}
use Rattle.capnp_model.specs.Bytes.{bytes_of_words}
use Rattle.capnp_model.specs.Packing.{packed, unpacked}
use Rattle.capnp_model.specs.Messages.{Reader, Writer, plain_words}
use Rattle.capnp_relay_streams.specs.declared.options.Form.{Form}
use Rattle.capnp_relay_streams.specs.declared.options.Form.TheVariants as form
use Rattle.capnp_message.specs.declared.options.ReaderOptions.{ReaderOptions}
use Rattle.capnp_relay_streams.specs.declared.options.OptionsFault.{OptionsFault}
use Rattle.capnp_relay_streams.specs.declared.options.OptionsFault.TheVariants as fault
use Rattle.capnp_relay_streams.specs.declared.options.RelayOptions.{RelayOptions}

-- The options are of these forms and limits.
pub record IsOf (from to : Form) (options : ReaderOptions) (o : RelayOptions) : Type 0 where
  pub input : o.input ≡ from
  pub output : o.output ≡ to
  pub words : options.traversal_limit_in_words ≡ Some o.bounds.words
  pub small : o.bounds.words < 2 ^ 29 - 1
  pub nesting : options.nesting_limit ≡ pos o.bounds.nesting
  pub canonical : o.plain ≡ false

-- The options, in the plain form.
abbrev pub as_plain : RelayOptions → RelayOptions
as_plain o = record { input = o.input; output = o.output; bounds = o.bounds; plain = true }

-- Why limits are refused: the first of these that holds.
abbrev pub IsOptionsRefusal : ReaderOptions → OptionsFault → Type 0
IsOptionsRefusal options fault.NoWordLimit = options.traversal_limit_in_words ≡ None
IsOptionsRefusal options fault.WordLimitTooLarge = (n : ℕ) × (options.traversal_limit_in_words ≡ Some n) × (2 ^ 29 - 1 ≤ n)
IsOptionsRefusal options fault.NegativeNesting = (n : ℕ) × (options.traversal_limit_in_words ≡ Some n) × (n < 2 ^ 29 - 1) × (options.nesting_limit <ℤ pos 0)

-- How words are read in a form.
abbrev pub reader_of : Form → Reader
reader_of form.Framed = plain_words
reader_of form.Packed = unpacked

-- How words are written in a form.
abbrev pub writer_of : Form → Writer
writer_of form.Framed = bytes_of_words
writer_of form.Packed = packed
