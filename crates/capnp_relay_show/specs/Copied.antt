-- Canonical copies of the values of messages.
use Rattle.std.specs.Prelude.{ℕ, ◌≡◌, ◌-◌, ◌^◌, ◌≤◌, ◌<◌, ◌&&◌, not, Option, Some, None, List, [], ◌∷◌, length}
use Rattle.capnp_model.specs.Chains.{◌>>=◌, ◌provided◌}
use Rattle.capnp_model.specs.Segments.{Segments, root}
use Rattle.capnp_model.specs.Trees.{Tree, has_capability}
use Rattle.capnp_model.specs.Trimming.{trim}
use Rattle.capnp_model.specs.Messages.{within}
use Rattle.capnp_model.specs.Traversal.{tree_at, cost_at}
use Rattle.capnp_model.specs.Encoding.{canonical_words}
use Rattle.capnp_relay_show.specs.declared.show.ShowFault.{ShowFault}
use Rattle.capnp_relay_show.specs.declared.show.ShowFault.TheVariants as fault

-- The value of a message, n levels deep and within a limit of words, without a capability.
abbrev pub value_to : ℕ → Option ℕ → Segments → Option Tree
value_to n limit s = tree_at n s root >>= λ t. t provided (not (has_capability t) && within (cost_at n s root) limit)

-- The segments are one, of the words of the value, trimmed; a message has room for them.
pub record IsCopy (n : ℕ) (limit : Option ℕ) (s copy : Segments) : Type 0 where
  pub value : Tree
  pub there : value_to n limit s ≡ Some value
  pub are : copy ≡ canonical_words (trim value) ∷ []
  pub room : length (canonical_words (trim value)) < 2 ^ 29

-- Why there is no copy: there is no value, or for want of memory, or a message has no room for its canonical words.
abbrev pub IsNoCopy : ℕ → Option ℕ → Segments → ShowFault → Type 0
IsNoCopy n limit s fault.Value = value_to n limit s ≡ None
IsNoCopy n limit s fault.Memory = (t : Tree) × (value_to n limit s ≡ Some t)
IsNoCopy n limit s fault.Size = (t : Tree) × (value_to n limit s ≡ Some t) × (2 ^ 29 ≤ length (canonical_words (trim t)))
IsNoCopy n limit s (fault.Framing kind) = ⊥
IsNoCopy n limit s fault.Root = ⊥
IsNoCopy n limit s fault.Unreadable = ⊥
