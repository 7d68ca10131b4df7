-- Calls under an older schema in the words of a newer one: names are replaced by those of partners, step by step.
use Rattle.std.specs.Prelude.{ℕ, Option, Some, None, List, [], ◌∷◌, map}
use Rattle.capnp_model.specs.Schemas.{struct, id_of_shape, pointer_slot, group_slot, Schema}
use Rattle.capnp_model.specs.Partners.{Renaming, partner_name}
use Rattle.capnp_model.specs.Calls.{Step, name, index, Call}
use Rattle.capnp_model.specs.InKindCalls.{PathEnd, at_slot, at_value, nowhere, next_end}

-- The node whose fields a name meets.
abbrev pub node_at : Schema → PathEnd → Option ℕ
node_at s (at_slot (group_slot g)) = Some (id_of_shape g)
node_at s (at_slot (pointer_slot i (struct id) d)) = Some (id_of_shape (s.shape_of id))
node_at s (at_value (struct id)) = Some (id_of_shape (s.shape_of id))
node_at s _ = None

-- A step by the partner's name.
abbrev pub renamed_step : List Renaming → Option ℕ → Step → Step
renamed_step rs (Some id) (name l) = name (partner_name rs id l)
renamed_step rs _ st = st

-- A path from where it stands, by the partners' names.
unfoldable pub renamed_path : List Renaming → Schema → List Step → PathEnd → List Step
renamed_path rs s [] at = []
renamed_path rs s (st ∷ path) at = renamed_step rs (node_at s at) st ∷ renamed_path rs s path (next_end s st at)

-- A call from a root on.
abbrev pub renamed_call : List Renaming → Schema → ℕ → Call → Call
renamed_call rs s id c = record { path = renamed_path rs s c.path (at_value (struct id)); verb = c.verb }

-- Calls from a root on; the same where nothing is renamed.
abbrev pub renamed_calls : List Renaming → Schema → ℕ → List Call → List Call
renamed_calls [] s id calls = calls
renamed_calls (r ∷ rs) s id calls = map (renamed_call (r ∷ rs) s id) calls
