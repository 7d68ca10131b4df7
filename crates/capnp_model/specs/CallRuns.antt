-- Calls one after the other on a record, and what they start from.
use Rattle.std.specs.Prelude.{ℕ, ◌≡◌, ◌^◌, ◌<◌, false, List, [], ◌∷◌}
use Rattle.std.specs.List.{AllByRecursion}
use Rattle.capnp_model.specs.Trees.{Tree, structure}
use Rattle.capnp_model.specs.Schemas.{Node, Schema}
use Rattle.capnp_model.specs.Readings.{Record, whole_words, no_children, read_child}
use Rattle.capnp_model.specs.Calls.{Verb, set_to, enumerant, Call}
use Rattle.capnp_model.specs.Steps.{step, record_after}
use Rattle.capnp_model.specs.Answers.{Reply, reply_of}
use Rattle.capnp_model.specs.Accepted.{schema_of, IsAccepted}
use Rattle.capnp_model.specs.InKindCalls.{IsInKind}
use Rattle.capnp_model.specs.NamedPaths.{IsOpen}
use Rattle.capnp_model.specs.Views.{View}

-- What a caller can give: an enum value has sixteen bits.
abbrev pub IsGiven : Verb → Type 0
IsGiven (set_to (enumerant n)) = n < 2 ^ 16
IsGiven verb = Unit {0}

-- Each call is one that a caller can give.
abbrev pub AreGiven : List Call → Type 0
AreGiven calls = AllByRecursion (λ c. IsGiven c.verb) calls

-- What calls start from: an accepted schema whose root is no group, a struct or null, calls that a caller can give, and
-- all lists in kind.
pub record IsStart (nodes : List Node) (id : ℕ) (calls : List Call) (t : Tree) : Type 0 where
  pub accepted : IsAccepted nodes
  pub root : (schema_of nodes).is_group id ≡ false
  pub given : AreGiven calls
  pub opens : IsOpen t
  pub kinds : IsInKind (schema_of nodes) id calls t

-- What a struct's fields see of a value, a null as the empty struct.
abbrev pub view_of_value : Schema → Tree → View
view_of_value s (structure words section kids) = record { size = whole_words; section = section; kids = read_child s kids }
view_of_value s t = record { size = whole_words; section = 0; kids = no_children }

-- The record after all calls.
unfoldable pub records_after : Schema → ℕ → List Call → Record → Record
records_after s id [] r = r
records_after s id (c ∷ cs) r = records_after s id cs (record_after s id c r)

-- The replies of all calls, each at the record that the earlier ones leave; `quoted` is as in replies.
unfoldable pub record_replies : Schema → (List ℕ → List ℕ) → ℕ → List Call → Record → List Reply
record_replies s quoted id [] r = []
record_replies s quoted id (c ∷ cs) r = reply_of s quoted (step s id c r) ∷ record_replies s quoted id cs (record_after s id c r)
