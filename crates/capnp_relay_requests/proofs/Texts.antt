-- Texts in UTF-8.
use Rattle.std.proofs.Common.{◌≡◌, ℕ, if◌then◌else◌, List, Ok, Err, ap}
use Rattle.std.specs.Str.{IsUtf8, is_utf8}
use Rattle.std.proofs.lemmas.Str.{IsUtf8-from_is_utf8, is_utf8-from_IsUtf8}
use Rattle.capnp_model.proofs.lemmas.Tests.{never_true}
use Rattle.capnp_relay_requests.specs.declared.fault.RequestFault.{RequestFault}
use Rattle.capnp_relay_requests.specs.Names.{checked_utf8}

pub utf8_text : (fault : RequestFault) (bytes : List ℕ) → IsUtf8 bytes → checked_utf8 fault bytes ≡ Ok bytes
utf8_text fault bytes h = ap (λ b. if b then Ok bytes else Err fault) (is_utf8-from_IsUtf8 bytes h)

pub no_text : (fault : RequestFault) (bytes : List ℕ) → (IsUtf8 bytes → ⊥) → checked_utf8 fault bytes ≡ Err fault
no_text fault bytes h = ap (λ b. if b then Ok bytes else Err fault) (never_true (is_utf8 bytes) (λ t. h (IsUtf8-from_is_utf8 bytes t)))
