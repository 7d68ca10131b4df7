-- What a calls file says: calls, and the limits of the messages.
use Rattle.std.specs.Prelude.{ℕ, ℤ, pos, negsuc, ◌-◌, ◌^◌, Bool, nat_lt, if◌then◌else◌, Option, Some, None, option_map, option_and_then, is_none, List, [], ◌∷◌, codes, string_bytes}
use Rattle.std.specs.Str.{bytes_eq}
use Rattle.capnp_model.specs.Chains.{◌>>=◌, ◌provided◌}
use Rattle.capnp_model.specs.Calls.{Step, name, index}
use Rattle.serde_json.specs.Data.{Data}
use Rattle.serde_json.specs.Find.{get, as_bool, as_str, as_number, as_object, as_i64, as_integer}
use Rattle.capnp_calls.specs.declared.call.Verb.{Verb}
use Rattle.capnp_calls.specs.declared.call.Verb.TheVariants as verb
use Rattle.capnp_calls.specs.declared.call.CallValue.{CallValue}
use Rattle.capnp_calls.specs.declared.call.CallValue.TheVariants as value
use Rattle.capnp_relay_files.specs.Json.{json_value_in, find_named, with_keys, only_member, number_in, number_at, number_or, text_at, hex_in, items_at}

-- ---- what is read

-- What a call gives to `set`.
pub data SetArgument : Type 0 where
  given_number : ℤ → SetArgument
  given_bool : Bool → SetArgument
  given_enum : ℕ → SetArgument
  given_text given_data given_message : List ℕ → SetArgument

-- What a call is made of.
pub record CallParts : Type 0 where
  pub path : List Step
  pub verb : Verb
  pub value : Option SetArgument

-- The calls of a file, the words that a message may have, and how deep it may be nested.
pub record CallsText : Type 0 where
  pub calls : List CallParts
  pub words : ℕ
  pub nesting : ℤ

-- What a Rust value gives.
abbrev pub given_of : CallValue → SetArgument
given_of (value.Number z) = given_number z
given_of (value.Bool b) = given_bool b
given_of (value.Enum n) = given_enum n
given_of (value.Text t) = given_text (string_bytes t)
given_of (value.Data v) = given_data v.items
given_of (value.Message v) = given_message v.items

-- ---- steps, verbs, values

-- A step: a name, or an index.
abbrev pub step_in : Data → Option Step
step_in d = elim (as_str d) [ None ↦ option_map index (number_in (2 ^ 32 - 1) d) | Some n ↦ Some (name n) ]

-- The verbs without a size.
abbrev pub named_verbs : List (List ℕ × Verb)
named_verbs = (codes "get", verb.Get) ∷ (codes "set", verb.Set) ∷ (codes "init", verb.Init) ∷ (codes "clear", verb.Clear) ∷ []

-- A verb; `initn` and no other has a size.
abbrev pub verb_by : List ℕ → Data → Option Verb
verb_by n d =
    if bytes_eq n (codes "initn") then option_map verb.Initn (number_at (codes "size") (2 ^ 32 - 1) d)
    else (find_named n named_verbs >>= λ v. v provided is_none (get (codes "size") d))

-- What stands under the one key of a value.
abbrev pub given_by : List ℕ → Data → Option SetArgument
given_by key d =
    if bytes_eq key (codes "number") then option_map given_number (option_and_then as_integer (as_number d)) else
    (if bytes_eq key (codes "bool") then option_map given_bool (as_bool d) else
    (if bytes_eq key (codes "enum") then option_map given_enum (number_in 65535 d) else
    (if bytes_eq key (codes "text") then option_map given_text (as_str d) else
    (if bytes_eq key (codes "data") then option_map given_data (hex_in d) else
    (if bytes_eq key (codes "message") then option_map given_message (hex_in d) else None)))))

-- A value: an object with one key.
abbrev pub given_in : Data → Option SetArgument
given_in d = as_object d >>= λ ms. only_member ms >>= λ m. given_by m.0 m.1

-- The value of a call, which may be absent.
abbrev pub value_of_call : Data → Option (Option SetArgument)
value_of_call d = elim (get (codes "value") d) [ None ↦ Some None | Some x ↦ option_map Some (given_in x) ]

-- ---- calls

-- A call.
abbrev pub call_in : Data → Option CallParts
call_in d =
    with_keys (codes "path" ∷ codes "verb" ∷ codes "size" ∷ codes "value" ∷ []) d >>= λ o.
    items_at (codes "path") step_in o >>= λ path.
    text_at (codes "verb") o >>= λ n.
    verb_by n o >>= λ v.
    value_of_call o >>= λ x.
    Some (record { path = path; verb = v; value = x })

-- A number that 32 bits hold with a sign.
abbrev pub in_32_bits : ℤ → Option ℤ
in_32_bits (pos n) = pos n provided nat_lt n (2 ^ 31)
in_32_bits (negsuc n) = negsuc n provided nat_lt n (2 ^ 31)

-- How deep messages may be nested; 64 where nothing is said.
abbrev pub nesting_in : Data → Option ℤ
nesting_in d = elim (get (codes "nesting") d) [ None ↦ Some (pos 64) | Some x ↦ option_and_then as_i64 (as_number x) >>= in_32_bits ]

-- The calls and the limits of an object.
abbrev pub calls_text : Data → Option CallsText
calls_text d =
    with_keys (codes "calls" ∷ codes "words" ∷ codes "nesting" ∷ []) d >>= λ o.
    items_at (codes "calls") call_in o >>= λ cs.
    number_or 8388608 (codes "words") (2 ^ 64 - 1) o >>= λ w.
    nesting_in o >>= λ n.
    Some (record { calls = cs; words = w; nesting = n })

-- What a calls file says.
abbrev pub calls_in : List ℕ → Option CallsText
calls_in bytes = json_value_in bytes >>= calls_text
