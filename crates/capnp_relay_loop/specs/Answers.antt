-- What is counted of an answer.
use Rattle.std.specs.Prelude.{◌≡◌, ℕ, ◌+◌, ◌^◌, ◌<◌, ◌≤◌, List, [], ◌∷◌, Option, Some, None, length, ⊤}
use Rattle.capnp_model.specs.Answers.{Answer, Reply, written}
use Rattle.capnp_wire_canonical.specs.Writes.{filled}
use Rattle.capnp_relay_loop.specs.declared.ends.Counts.{Counts}

-- 1 for a written answer.
abbrev pub written_one : Answer → ℕ
written_one (written segments replies) = 1
written_one _ = 0

-- 1 for a refusal.
abbrev pub refused_one : Answer → ℕ
refused_one (written segments replies) = 0
refused_one _ = 1

-- The counts after one more answer.
pub record CountsOne (old new : Counts) (answer : Answer) : Type 0 where
  pub written : new.written ≡ old.written + written_one answer
  pub refused : new.refused ≡ old.refused + refused_one answer

-- n words at the front of a buffer, where they are, are the one segment of an answer.
abbrev pub WritesFront : List (List ℕ) → Answer → Option ℕ → Type 0
WritesFront words a (Some count) = (replies : List Reply) × (a ≡ written (filled count words ∷ []) replies) × (count ≤ length words) × (count < 2 ^ 29)
WritesFront words a None = ⊤
