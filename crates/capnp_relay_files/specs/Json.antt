-- Looking into JSON values that have a form: objects with the keys that are named, numbers within a range.
use Rattle.std.specs.Prelude.{ℕ, Bool, true, ◌&&◌, nat_le, if◌then◌else◌, Option, Some, None, option_map, option_and_then, List, [], ◌∷◌}
use Rattle.std.specs.List.{list_any}
use Rattle.std.specs.Str.{bytes_eq, is_utf8}
use Rattle.capnp_model.specs.Chains.{◌>>=◌, ◌provided◌}
use Rattle.serde_json.specs.Data.{Data, Items, no_items, item, Members, no_members, member}
use Rattle.serde_json.specs.Find.{as_number, as_object, as_u64, as_str, as_array, get}
use Rattle.serde_json.specs.Read.{read}
use Rattle.hex.specs.Hex.{decode_of}
use Rattle.std.specs.Result.{result_ok}

-- The value that a file's bytes spell.
abbrev pub json_value_in : List ℕ → Option Data
json_value_in bytes = if is_utf8 bytes then read bytes else None

-- What a name stands for.
abbrev pub find_named : {X : Type 0} → List ℕ → List (List ℕ × X) → Option X
find_named n [] = None
find_named n (x ∷ xs) = if bytes_eq n x.0 then Some x.1 else find_named n xs

-- Whether each key is one of these.
abbrev pub has_only : List (List ℕ) → Members → Bool
has_only keys no_members = true
has_only keys (member k d ms) = list_any (bytes_eq k) keys && has_only keys ms

-- The value, where it is an object without other keys than these.
abbrev pub with_keys : List (List ℕ) → Data → Option Data
with_keys keys d = as_object d >>= λ ms. d provided has_only keys ms

-- The key and the value of the only member.
abbrev pub only_member : Members → Option (List ℕ × Data)
only_member no_members = None
only_member (member k d no_members) = Some (k, d)
only_member (member k d (member l e ms)) = None

-- A number that is at most so much.
abbrev pub number_in : ℕ → Data → Option ℕ
number_in most d = option_and_then as_u64 (as_number d) >>= λ n. n provided nat_le n most

-- The number of a key.
abbrev pub number_at : List ℕ → ℕ → Data → Option ℕ
number_at key most d = get key d >>= number_in most

-- The number of a key that may be absent.
abbrev pub number_or : ℕ → List ℕ → ℕ → Data → Option ℕ
number_or absent key most d = elim (get key d) [ None ↦ Some absent | Some x ↦ number_in most x ]

-- The text of a key.
abbrev pub text_at : List ℕ → Data → Option (List ℕ)
text_at key d = get key d >>= as_str

-- The bytes that a text spells in hex.
abbrev pub hex_in : Data → Option (List ℕ)
hex_in d = as_str d >>= λ t. result_ok (decode_of t)

-- What each item reads as, where all of them do.
abbrev pub each_item : {X : Type 0} → (Data → Option X) → Items → Option (List X)
each_item f no_items = Some []
each_item f (item d ds) = f d >>= λ x. option_map (λ xs. x ∷ xs) (each_item f ds)

-- The items of a key, each read.
abbrev pub items_at : {X : Type 0} → List ℕ → (Data → Option X) → Data → Option (List X)
items_at key f d = get key d >>= λ x. as_array x >>= each_item f
