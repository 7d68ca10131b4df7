-- Replies of calls in which floats are told, and the calls files that set them.
use Rattle.std.specs.Prelude.{◌≡◌, ◌≢◌, ℕ, ◌<◌, ◌==◌, ⊤, Option, None, option_and_then, slice_get, List, ◌++◌, map, codes, string_bytes, IsUtf8}
use Rattle.capnp_model.specs.Chains.{◌>>=◌}
use Rattle.serde_json.specs.Data.{Items}
use Rattle.serde_json.specs.Find.{get as member, as_array}
use Rattle.serde_json.specs.Read.{read}
use Rattle.capnp_model.specs.Calls.{Verb as ModelVerb, get, Call as ModelCall}
use Rattle.capnp_records.specs.declared.node.FieldRecord.{FieldRecord}
use Rattle.capnp_records.specs.declared.node.NodeRecord.{NodeRecord}
use Rattle.hagzimot_schemas.specs.Nodes.{fields_of_body}
use Rattle.hagzimot_commands.specs.declared.float_calls.FloatCallsTrouble.{FloatCallsTrouble}
use Rattle.hagzimot_commands.specs.declared.float_calls.FloatCallsTrouble.TheVariants as trouble
use Rattle.hagzimot_commands.specs.declared.float_calls.FloatTrouble.TheVariants as why
use Rattle.hagzimot_commands.specs.declared.float_replies.Holder.{Holder}
use Rattle.hagzimot_commands.specs.declared.float_replies.NamedPlace.{NamedPlace}
use Rattle.hagzimot_commands.specs.declared.float_replies.Place.{Place}
use Rattle.hagzimot_commands.specs.declared.float_replies.FloatReplies.{FloatReplies}
use Rattle.hagzimot_commands.specs.declared.paths.Landing.{Landing}
use Rattle.hagzimot_commands.specs.Paths.{struct_landing, landing_of, walked}

-- A field's name, and what it is; the same as it is kept.
abbrev pub field_placed : FieldRecord → List ℕ × Landing
field_placed f = (string_bytes f.name, landing_of f.body)

abbrev pub named_placed : NamedPlace → List ℕ × Landing
named_placed f = (string_bytes f.name, f.place.at)

-- The id of a node, and its fields; the same as they are kept.
abbrev pub fields_placed : NodeRecord → ℕ × List (List ℕ × Landing)
fields_placed n = (n.id, map field_placed (fields_of_body n.body))

abbrev pub holder_placed : Holder → ℕ × List (List ℕ × Landing)
holder_placed h = (h.id, map named_placed h.fields.items)

-- What a reply tells where a call of a verb is made: the value there, of a `get`.
abbrev pub told_by : ModelVerb → Option Landing → Option Landing
told_by get at = at
told_by _ at = None

-- What the reply of a call tells: the value to which its path leads, if it leads anywhere.
abbrev pub reply_at : List NodeRecord → ℕ → ModelCall → Option Landing
reply_at nodes root call = told_by call.verb (walked nodes (struct_landing root) call.path)

-- What the reply of the call of a number tells, counted from 0: where it is a value, that.
abbrev pub place_of_reply : FloatReplies → ℕ → Option Place
place_of_reply told n = slice_get told.calls.items n >>= λ place. place

-- A text begins with another.
pub record Extends (front text : List ℕ) : Type 0 where
  pub rest : List ℕ
  pub is : text ≡ front ++ rest

-- The array of a calls file's calls.
abbrev pub json_calls : List ℕ → Option Items
json_calls bytes = option_and_then as_array (option_and_then (member (codes "calls")) (read bytes))

-- Why a calls file with floats isn't read: it has no calls, or a call can't set its float.
abbrev pub IsFloatCallsTrouble : List ℕ → FloatCallsTrouble → Type 0
IsFloatCallsTrouble bytes trouble.Form = IsUtf8 bytes → json_calls bytes ≡ None
IsFloatCallsTrouble bytes (trouble.Call number fault) = (0 < number) × (fault ≢ why.Memory) × (json_calls bytes ≢ None)
IsFloatCallsTrouble bytes trouble.Memory = ⊤
