-- Calls that are given as words, as `lines[0].count=3`.
use Rattle.std.specs.Prelude.{◌≡◌, ℕ, pos, ◌==◌, ◌⊎◌, if◌then◌else◌, Option, Some, None, Ok, List, [], ◌∷◌, ◌++◌, map, find, codes, decimal, string_bytes}
use Rattle.std.specs.List.{flat_map, position, before_first, after_first}
use Rattle.std.specs.Str.{bytes_eq}
use Rattle.std.specs.Str.Parse.{IsNumeral, digits_value, without_leading_plus, without_leading_sign, signed_digits_value}
use Rattle.hex.specs.Hex.{decode_of}
use Rattle.capnp_model.specs.Calls.{Step as ModelStep, name, index}
use Rattle.capnp_calls.specs.CallViews.{step_view}
use Rattle.capnp_calls.specs.declared.call.Step.{Step}
use Rattle.capnp_calls.specs.declared.call.Step.TheVariants as step
use Rattle.capnp_calls.specs.declared.call.Verb.{Verb}
use Rattle.capnp_calls.specs.declared.call.Verb.TheVariants as verb
use Rattle.capnp_calls.specs.declared.call.CallValue.{CallValue}
use Rattle.capnp_calls.specs.declared.call.CallValue.TheVariants as value
use Rattle.capnp_records.specs.declared.node.BaseType.{BaseType}
use Rattle.capnp_records.specs.declared.node.BaseType.TheVariants as base
use Rattle.capnp_records.specs.declared.node.NodeRecord.{NodeRecord}
use Rattle.capnp_relay_requests.specs.declared.request.FloatField.{FloatField}
use Rattle.hagzimot_schemas.specs.Nodes.{enumerants_of_body}
use Rattle.hagzimot_commands.specs.declared.paths.Landing.TheVariants as landing
use Rattle.hagzimot_commands.specs.declared.word_calls.WordVerb.{WordVerb}
use Rattle.hagzimot_commands.specs.declared.word_calls.WordVerb.TheVariants as asked
use Rattle.hagzimot_commands.specs.Paths.{struct_landing, walked}

-- The text of a step: a name behind a point, an index in brackets.
abbrev pub step_text : ModelStep → List ℕ
step_text (name text) = codes "." ++ text
step_text (index i) = codes "[" ++ (decimal i ++ codes "]")

-- A text spells a path; it begins without a point.
abbrev pub SpellsPath : List ℕ → List Step → Type 0
SpellsPath text path = codes "." ++ text ≡ flat_map (λ s. step_text (step_view s)) path

-- The text of a path: that of its steps, but for the point before a first name.
abbrev pub path_told : List Step → List ℕ
path_told [] = []
path_told (step.Name n ∷ path) = string_bytes n ++ flat_map (λ s. step_text (step_view s)) path
path_told (step.Index i ∷ path) = flat_map (λ s. step_text (step_view s)) (step.Index i ∷ path)

-- The number of the first enumerant of a name.
abbrev pub enumerant_numbered : NodeRecord → List ℕ → Option ℕ
enumerant_numbered n text = position (λ e. bytes_eq (string_bytes e.name) text) (enumerants_of_body n.body)

-- A word is this number in decimal digits.
abbrev pub IsNumberWord : List ℕ → ℕ → Type 0
IsNumberWord word n = IsNumeral 10 (without_leading_plus word) × (n ≡ digits_value 10 (without_leading_plus word))

-- A word is an enumerant's name, or its number.
abbrev pub SpellsEnumerant : List NodeRecord → ℕ → List ℕ → ℕ → Type 0
SpellsEnumerant nodes id word n = ((node : NodeRecord) × (find (λ m. m.id == id) nodes ≡ Some node) × (enumerant_numbered node word ≡ Some n)) ⊎ IsNumberWord word n

-- A word for the value of Void.
abbrev pub IsVoidWord : List ℕ → Type 0
IsVoidWord word = (word ≡ []) ⊎ ((word ≡ codes "void") ⊎ (word ≡ codes "()"))

-- A word spells a value of a type.
abbrev pub SpellsValue : List NodeRecord → BaseType → List ℕ → CallValue → Type 0
SpellsValue nodes b word (value.Number z) = (IsNumeral 10 (without_leading_sign word) × (z ≡ signed_digits_value 10 word)) ⊎ ((b ≡ base.Void) × (z ≡ pos 0) × IsVoidWord word)
SpellsValue nodes b word (value.Bool x) = (b ≡ base.Bool) × (word ≡ (if x then codes "true" else codes "false"))
SpellsValue nodes b word (value.Enum n) = (id : ℕ) × (b ≡ base.Enum id) × SpellsEnumerant nodes id word n
SpellsValue nodes b word (value.Text t) = (b ≡ base.Text) × (string_bytes t ≡ word)
SpellsValue nodes b word (value.Data bytes) = (b ≡ base.Data) × (decode_of word ≡ Ok bytes.items)
SpellsValue nodes b word (value.Message bytes) = ⊥

-- What stands in front of the first `=` of words, and what stands behind it.
abbrev pub path_part : List ℕ → List ℕ
path_part words = before_first (λ b. b == 61) words

abbrev pub value_part : List ℕ → List ℕ
value_part words = after_first (λ b. b == 61) words

-- The value is a number, where some fields are floats: it may be the bits of one.
abbrev pub MayBeBits : List FloatField → CallValue → Type 0
MayBeBits floats (value.Number z) = floats ≡ [] → ⊥
MayBeBits floats _ = ⊥

-- The value is one of the type that stands where the path leads, which is no list; or the bits of a float.
pub record SpellsValueThere (nodes : List NodeRecord) (floats : List FloatField) (root : ℕ) (path : List Step) (word : List ℕ) (v : CallValue) : Type 0 where
  pub base : BaseType
  pub leads : walked nodes (struct_landing root) (map step_view path) ≡ Some (landing.Value (record { list_count = 0; base = base }))
  pub spells : SpellsValue nodes base word v ⊎ MayBeBits floats v

-- Words make a call of a path, a verb and a value.
abbrev pub MakeCall : List NodeRecord → List FloatField → ℕ → WordVerb → List ℕ → List Step → Verb → Option CallValue → Type 0
MakeCall nodes floats root asked.Get words path v x = SpellsPath words path × (v ≡ verb.Get) × (x ≡ None)
MakeCall nodes floats root asked.Init words path v x = SpellsPath words path × (v ≡ verb.Init) × (x ≡ None)
MakeCall nodes floats root asked.Clear words path v x = SpellsPath words path × (v ≡ verb.Clear) × (x ≡ None)
MakeCall nodes floats root asked.Initn words path v x = SpellsPath (path_part words) path × (n : ℕ) × (v ≡ verb.Initn n) × IsNumberWord (value_part words) n × (x ≡ None)
MakeCall nodes floats root asked.Set words path v x = SpellsPath (path_part words) path × (v ≡ verb.Set) × (y : CallValue) × (x ≡ Some y) × SpellsValueThere nodes floats root path (value_part words) y
