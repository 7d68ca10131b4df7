-- How many words calls make.
use Rattle.std.specs.Prelude.{◌≡◌, ℕ, ◌+◌, ◌*◌, ◌/◌, ◌<◌, ◌≤◌, ◌==◌, nat_lt, max, find, Option, Some, None, if◌then◌else◌, List, ⊤}
use Rattle.capnp_model.specs.Calls.{Verb as ModelVerb, get, set_to, init, initn, clear, Step as ModelStep}
use Rattle.capnp_records.specs.declared.node.BaseType.{BaseType}
use Rattle.capnp_records.specs.declared.node.BaseType.TheVariants as base
use Rattle.capnp_records.specs.declared.node.NodeBody.{NodeBody}
use Rattle.capnp_records.specs.declared.node.NodeBody.TheVariants as body
use Rattle.capnp_records.specs.declared.node.NodeRecord.{NodeRecord}
use Rattle.hagzimot_commands.specs.Paths.{struct_landing, walked}
use Rattle.hagzimot_commands.specs.declared.paths.Landing.{Landing}
use Rattle.hagzimot_commands.specs.declared.paths.Landing.TheVariants as landing
use Rattle.hagzimot_commands.specs.declared.strict.Misfit.{Misfit}
use Rattle.hagzimot_commands.specs.declared.strict.Misfit.TheVariants as misfit

-- How many words a struct takes, or one where it has none: as many following it costs.
abbrev pub struct_words : NodeBody → ℕ
struct_words (body.Struct s) = max (s.data_word_count + s.pointer_count) 1
struct_words (body.Enum e) = 0

abbrev pub words_of_node : Option NodeRecord → ℕ
words_of_node None = 0
words_of_node (Some n) = struct_words n.body

-- How many bits an element of a list takes.
abbrev pub base_bits : List NodeRecord → BaseType → ℕ
base_bits nodes base.Void = 0
base_bits nodes base.Bool = 1
base_bits nodes base.Int8 = 8
base_bits nodes base.UInt8 = 8
base_bits nodes base.Int16 = 16
base_bits nodes base.UInt16 = 16
base_bits nodes (base.Enum id) = 16
base_bits nodes base.Int32 = 32
base_bits nodes base.UInt32 = 32
base_bits nodes base.Float32 = 32
base_bits nodes (base.Struct id) = words_of_node (find (λ n. n.id == id) nodes) * 64
base_bits nodes _ = 64

-- How many bits a text, data or a list has for each byte or element that is made.
abbrev pub bits_each : List NodeRecord → Landing → ℕ
bits_each nodes (landing.Group id) = 0
bits_each nodes (landing.Value ty) = if ty.list_count == 0 then 8 else if ty.list_count == 1 then base_bits nodes ty.base else 64

-- How many words n of them take at least.
abbrev pub made_words : List NodeRecord → Landing → ℕ → ℕ
made_words nodes at n = (n * bits_each nodes at + 63) / 64

-- What `initn` makes has at most so many words, where its path leads somewhere.
abbrev pub MakesAtMost : List NodeRecord → ℕ → List ModelStep → ModelVerb → ℕ → Type 0
MakesAtMost nodes root path (initn n) limit = (at : Landing) × (walked nodes (struct_landing root) path ≡ Some at) × (made_words nodes at n ≤ limit)
MakesAtMost nodes root path _ limit = ⊤

-- What `initn` makes has more words.
abbrev pub MakesMore : List NodeRecord → ℕ → List ModelStep → ModelVerb → ℕ → Misfit → Type 0
MakesMore nodes root path verb limit (misfit.Size count words most) = (at : Landing) × (walked nodes (struct_landing root) path ≡ Some at) × (verb ≡ initn count) × (words ≡ made_words nodes at count) × (most ≡ limit) × (limit < words)
MakesMore nodes root path verb limit _ = ⊤
