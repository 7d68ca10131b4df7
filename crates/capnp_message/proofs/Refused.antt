-- Why a message's own calls are refused.
use Rattle.std.proofs.Common.{◌≡◌, ◌↔◌, ◌⊎◌, inl, inr, ℕ, ◌+◌, ◌<◌, ◌≤◌, ◌^◌, List, [], length, Option, Some, None, Result, Ok, Err, Vec, ap, arith}
use Rattle.std.specs.declared.alloc.Global.{Global}
use Rattle.std.specs.Result.{IfErr}
use Rattle.std.specs.Int.{from_le_bytes, w64}
use Rattle.std.proofs.lemmas.List.{length-map}
use Rattle.capnp_model.specs.Segments.{Segments}
use Rattle.capnp_units.specs.declared.errors.Error.{Error}
use Rattle.capnp_units.specs.declared.kinds.ErrorKind.{ErrorKind}
use Rattle.capnp_units.specs.declared.kinds.ErrorKind.TheVariants.{SizeOverflow}
use Rattle.capnp_units.specs.declared.limiter.ReadLimiter.{ReadLimiter}
use Rattle.capnp_copy_arenas.specs.Allocations.{total_words}
use Rattle.capnp_message.specs.Canonical.{GivesCanonical}
use Rattle.capnp_message.proofs.Written.{not_too_many}

-- what is said of an error says another thing of it
pub err_as : {X : Type 0} (r : Result X Error) (P Q : Error → Type 0) → IfErr r P → ((e : Error) → P e → Q e) → IfErr r Q
err_as (Ok x) P Q h f = tt
err_as (Err e) P Q h f = f e h

-- what is so of any error
pub err_of : {X : Type 0} (r : Result X Error) (Q : Error → Type 0) → ((e : Error) → Q e) → IfErr r Q
err_of (Ok x) Q f = tt
err_of (Err e) Q f = f e

-- a first word is no word too many, so that it was refused
pub word_refused : (s : Segments) (k : ErrorKind) (R : Type 0) → s ≡ [] → (k ≡ SizeOverflow) ↔ (2 ^ 29 ≤ total_words s + 1) → (2 ^ 29 ≤ total_words s + 1) ⊎ R → R
word_refused s k R none is (inl l) = absurd (not_too_many s k none is (is.1 l))
word_refused s k R none is (inr r) = r

-- canonical words that were given are no words too many
pub given_few : (o limit : Option ℕ) (s : Segments) (old new : ReadLimiter) (v : Vec (List ℕ) Global) (ws : List (List ℕ)) → GivesCanonical o limit s old (Ok v) new → ws ≡ v.items → length ws < 2 ^ 29
given_few None limit s old new v ws g is = absurd (let h = g.0 in cc)
given_few (Some n) limit s old new v ws g is = omega (arith, g.few, length-map v.items (from_le_bytes w64), ap length is)
