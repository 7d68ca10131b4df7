-- What the words of a run say.
use Rattle.std.specs.Prelude.{ℕ, ◌+◌, ◌-◌, ◌*◌, ◌^◌, Bool, true, false, not, ◌&&◌, nat_lt, Option, Some, None, List, [], ◌∷◌, ◌++◌, map, length, codes}
use Rattle.std.specs.Str.{bytes_eq, all_ascii_digits}
use Rattle.capnp_model.specs.Chains.{◌>>=◌, ◌provided◌}
use Rattle.capnp_relay_files.specs.Json.{find_named}
use Rattle.capnp_relay_streams.specs.declared.options.Form.{Form}
use Rattle.capnp_relay_streams.specs.declared.options.Form.TheVariants.{Framed, Packed}
use Rattle.capnp_relay_program.specs.declared.arguments.Arguments.{Arguments}
use Rattle.capnp_relay_program.specs.declared.arguments.Forms.{Forms}

-- The number that decimal digits spell, by the weight of each.
unfoldable pub digits_number : List ℕ → ℕ
digits_number [] = 0
digits_number (d ∷ ds) = (d - 48) * 10 ^ length ds + digits_number ds

-- There is no word there.
abbrev pub is_empty : List ℕ → Bool
is_empty [] = true
is_empty (b ∷ bs) = false

-- The number of a word that is decimal digits alone, at least one, where it is below 2^64.
abbrev pub decimal_in : List ℕ → Option ℕ
decimal_in word = digits_number word provided (all_ascii_digits word && (not (is_empty word) && nat_lt (digits_number word) (2 ^ 64)))

-- The form of the input, that of the output, and whether messages are written as they were built.
abbrev pub forms : Form → Form → Bool → Forms
forms input output plain = record { input = input; output = output; plain = plain }

-- The words for the forms, where messages are written canonically.
abbrev pub named_forms : List (List ℕ × Forms)
named_forms = (codes "framed", forms Framed Framed false) ∷ (codes "packed", forms Packed Packed false) ∷ (codes "framed-packed", forms Framed Packed false) ∷ (codes "packed-framed", forms Packed Framed false) ∷ []

-- Such a word with `+plain` behind it, and its forms, where messages are written as they were built.
abbrev pub named_plain : List ℕ × Forms → List ℕ × Forms
named_plain x = (x.0 ++ codes "+plain", forms x.1.input x.1.output true)

-- The forms of a word.
abbrev pub forms_named : List ℕ → Option Forms
forms_named word = find_named word (named_forms ++ map named_plain named_forms)

-- A root and forms, and whether there are a newer schema file and a renames file.
abbrev pub arguments_of : List ℕ → List ℕ → Bool → Bool → Option Arguments
arguments_of root form newer renames = decimal_in root >>= λ id. forms_named form >>= λ fs. Some (record { root = id; forms = fs; newer = newer; renames = renames })

-- Four words, a schema file, a calls file, the root and the forms; or five, with a newer schema file; or six, with a renames file.
abbrev pub arguments_in : List (List ℕ) → Option Arguments
arguments_in [] = None
arguments_in (schema ∷ []) = None
arguments_in (schema ∷ calls ∷ []) = None
arguments_in (schema ∷ calls ∷ root ∷ []) = None
arguments_in (schema ∷ calls ∷ root ∷ form ∷ []) = arguments_of root form false false
arguments_in (schema ∷ calls ∷ root ∷ form ∷ newer ∷ []) = arguments_of root form true false
arguments_in (schema ∷ calls ∷ root ∷ form ∷ newer ∷ renames ∷ []) = arguments_of root form true true
arguments_in (schema ∷ calls ∷ root ∷ form ∷ newer ∷ renames ∷ more ∷ words) = None

-- The one word that asks for the usage.
abbrev pub is_help : List (List ℕ) → Bool
is_help [] = false
is_help (word ∷ []) = bytes_eq word (codes "--help")
is_help (word ∷ more ∷ words) = false
