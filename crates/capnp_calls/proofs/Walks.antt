-- What is kept of a canonical copy under the limits of readers that are told no others.
use Rattle.std.proofs.Common.{◌≡◌, ℕ, ◌≤◌, Some, None, option_map, List, ap, sym, ◌∙◌, subst, arith}
use Rattle.capnp_model.specs.Segments.{Segments, root}
use Rattle.capnp_model.specs.Trimming.{trim}
use Rattle.capnp_model.specs.Encoding.{canonical_words}
use Rattle.capnp_model.specs.Answers.{value_within}
use Rattle.capnp_model.specs.Visits.{Visit}
use Rattle.capnp_model.proofs.lemmas.Chaining.{some_is}
use Rattle.capnp_units.specs.Limits.{left_of, Allows}
use Rattle.capnp_units.specs.declared.errors.Error.{Error}
use Rattle.capnp_units.specs.declared.limiter.ReadLimiter.{ReadLimiter}
use Rattle.capnp_wire_canonical.specs.Reaches.{reach}
use Rattle.capnp_wire_canonical.specs.Copies.{copy_state, Written, Filled}
use Rattle.capnp_wire_canonical.specs.Objects.{canonical_copy}
use Rattle.capnp_wire_canonical.specs.Writes.{filled}
use Rattle.capnp_wire_canonical.proofs.lemmas.Limited.{WalkLaws, limits, written_within}
use Rattle.capnp_calls.specs.Frames.{default_limits}
use Rattle.capnp_calls.specs.Copied.{canonical_words_in}

-- what a copy writes are the canonical words of the value
pub written_words : WalkLaws → (s : Segments) (words n : ℕ) (l m : ReadLimiter) (old new : List (List ℕ)) (end : ℕ) → left_of l ≡ Some words
    → Written (canonical_copy (reach n s) root) (copy_state old l) end (copy_state new m)
    → Some (filled end new) ≡ option_map (λ t. canonical_words (trim t)) (value_within (limits words n) s)
written_words laws s words n l m old new end left w = ap Some w.words ∙ sym (ap (option_map (λ t. canonical_words (trim t))) (written_within laws s words n l m old new end left w))

-- a copy finds no room only where there is room for no more words than are left
pub full_few : (path : List Visit) (room words : ℕ) (l m : ReadLimiter) (e : Error) → left_of l ≡ Some words → Filled path room 1 l e m → room ≤ words
full_few path room words l m e left f =
    let allowed : f.walked.cost ≤ words = subst (λ o. Allows o f.walked.cost) left f.walked.spends.allowed in
    let same : f.cost ≡ f.walked.cost = some_is _ _ (sym f.cost_is ∙ f.walked.cost_is) in
    let full = f.full in
    omega (arith, allowed, same, full)

-- without a value there are no words
pub no_words : (s : Segments) → value_within default_limits s ≡ None → None ≡ canonical_words_in s
no_words s none = sym (ap (option_map (λ t. canonical_words (trim t))) none)
