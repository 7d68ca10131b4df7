-- Ids of schema files that are texts of digits.
use Rattle.std.specs.Prelude.{ℕ, ◌==◌, Bool, true, false, not, ◌&&◌, ◌||◌, nat_le, if◌then◌else◌, List, [], ◌∷◌, ◌++◌, codes}
use Rattle.std.specs.List.{starts_with}
use Rattle.hagzimot_forms.specs.declared.id_numbers.Place.{Place}
use Rattle.hagzimot_forms.specs.declared.id_numbers.Place.TheVariants.{Apart, Text, Escape, Key, Colon, Id}

-- A decimal digit.
abbrev pub is_digit_byte : ℕ → Bool
is_digit_byte b = nat_le 48 b && nat_le b 57

-- The digits at the front end with a quote.
unfoldable pub digits_end : List ℕ → Bool
digits_end [] = false
digits_end (b ∷ bytes) = if is_digit_byte b then digits_end bytes else b == 34

-- The text whose bytes these are is an id's digits, without a zero in front.
abbrev pub is_id_text : List ℕ → Bool
is_id_text [] = false
is_id_text (b ∷ bytes) = if b == 48 then starts_with ◌==◌ bytes (codes "\"") else is_digit_byte b && digits_end bytes

-- The text whose bytes these are is the key of an id.
abbrev pub is_id_key : List ℕ → Bool
is_id_key bytes = starts_with ◌==◌ bytes (codes "id\"") || starts_with ◌==◌ bytes (codes "group\"") || starts_with ◌==◌ bytes (codes "struct\"") || starts_with ◌==◌ bytes (codes "enum\"")

-- Where the byte behind one of a text stands; the text is the key of an id or not.
abbrev pub next_in_text : Bool → ℕ → Place
next_in_text key b = if b == 92 then Escape key else if b == 34 then (if key then Key else Apart) else Text key

-- Where the bytes of a text stand, by where its quote does.
abbrev pub at_quote : Place → List ℕ → Place
at_quote Colon behind = if is_id_text behind then Id else Text (is_id_key behind)
at_quote Apart behind = Text (is_id_key behind)
at_quote (Text key) behind = Text (is_id_key behind)
at_quote (Escape key) behind = Text (is_id_key behind)
at_quote Key behind = Text (is_id_key behind)
at_quote Id behind = Text (is_id_key behind)

-- Where the byte behind a colon stands.
abbrev pub at_colon : Place → Place
at_colon Key = Colon
at_colon Apart = Apart
at_colon (Text key) = Apart
at_colon (Escape key) = Apart
at_colon Colon = Apart
at_colon Id = Apart

-- JSON's blanks.
abbrev pub is_json_blank : ℕ → Bool
is_json_blank b = b == 32 || b == 9 || b == 10 || b == 13

-- Where the byte behind one outside texts stands.
abbrev pub next_outside : Place → ℕ → List ℕ → Place
next_outside p b behind = if is_json_blank b then p else if b == 34 then at_quote p behind else if b == 58 then at_colon p else Apart

-- Where the byte behind this one stands.
abbrev pub next_place : Place → ℕ → List ℕ → Place
next_place (Text key) b behind = next_in_text key b
next_place (Escape key) b behind = Text key
next_place Id b behind = if b == 34 then Apart else Id
next_place Apart b behind = next_outside Apart b behind
next_place Key b behind = next_outside Key b behind
next_place Colon b behind = next_outside Colon b behind

-- It is in an id.
abbrev pub is_in_id : Place → Bool
is_in_id Id = true
is_in_id Apart = false
is_in_id (Text key) = false
is_in_id (Escape key) = false
is_in_id Key = false
is_in_id Colon = false

-- A byte stays that isn't one of the quotes around an id.
abbrev pub stays_told : Place → ℕ → Place → Bool
stays_told p b next = not (b == 34) || not (is_in_id p || is_in_id next)

-- What is told of the bytes behind a place.
unfoldable pub numbers_from : Place → List ℕ → List ℕ
numbers_from p [] = []
numbers_from p (b ∷ bytes) = (if stays_told p b (next_place p b bytes) then b ∷ [] else []) ++ numbers_from (next_place p b bytes) bytes

-- The file with numbers for ids that are texts of digits.
abbrev pub ids_as_numbers : List ℕ → List ℕ
ids_as_numbers bytes = numbers_from Apart bytes
