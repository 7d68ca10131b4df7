-- What bytes that are no JSON in UTF-8 spell.
use Rattle.std.proofs.Common.{◌≡◌, ℕ, Bool, true, false, if◌then◌else◌, Some, None, List, refl, IsUtf8}
use Rattle.std.proofs.lemmas.Str.{IsUtf8-from_is_utf8, is_utf8-from_IsUtf8}
use Rattle.std.specs.Str.{is_utf8}
use Rattle.serde_json.specs.Data.{Data}
use Rattle.serde_json.specs.Read.{read}
use Rattle.capnp_relay_files.specs.Json.{json_value_in}

pub value-read : (bytes : List ℕ) (d : Data) → IsUtf8 bytes → read bytes ≡ Some d → json_value_in bytes ≡ Some d
value-read bytes d h r = rw (is_utf8-from_IsUtf8 bytes h) r

only_utf8 : (b : Bool) (bytes : List ℕ) → (b ≡ true → read bytes ≡ None) → (if b then read bytes else None) ≡ None
only_utf8 true bytes h = h refl
only_utf8 false bytes h = refl

pub no-value : (bytes : List ℕ) → (IsUtf8 bytes → read bytes ≡ None) → json_value_in bytes ≡ None
no-value bytes h = only_utf8 (is_utf8 bytes) bytes (λ e. h (IsUtf8-from_is_utf8 bytes e))
