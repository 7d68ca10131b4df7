-- Calls at the root of a record that put lists which are too long for a message. (Encoding, "Lists")
use Rattle.std.specs.Prelude.{◌≡◌, ◌^◌, ◌≤◌, Bool, true, false, List, ◌∷◌, ◌++◌}
use Rattle.capnp_model.specs.Trees.{Tree}
use Rattle.capnp_model.specs.Schemas.{struct}
use Rattle.capnp_model.specs.Readings.{record_of}
use Rattle.capnp_model.specs.Calls.{CallValue, whole_number, truth, enumerant, text_value, blob_value, message, Verb, get, set_to, init, initn, clear, Call, Content}
use Rattle.capnp_model.specs.InKindCalls.{at_value, end_of}
use Rattle.capnp_model.specs.Steps.{step}
use Rattle.capnp_model.specs.Answers.{edits}
use Rattle.capnp_values_queries.specs.Structs.{schema_around, id_of}
use Rattle.capnp_values_queries.specs.declared.structs.StructSchema.{StructSchema}
use Rattle.capnp_calls.specs.Sizes.{content_len, end_content, IsDone}

-- What a call puts where its path ends.
abbrev pub content_put : StructSchema → Call → Content
content_put root c = end_content (schema_around root) c.verb (end_of (schema_around root) c.path (at_value (struct (id_of root))))

-- The call is not refused at a struct of this tree, and puts a list of 2^29 elements or more, or one of structs of 2^29 words or more.
pub record PutsLong (root : StructSchema) (c : Call) (t : Tree) : Type 0 where
  pub is_done : IsDone (step (schema_around root) (id_of root) c (record_of (schema_around root) (id_of root) t))
  pub is_long : 2 ^ 29 ≤ content_len (content_put root c)

-- One of the calls puts such a list, at the tree that the calls before it make.
pub record LongInTurn (root : StructSchema) (calls : List Call) (t : Tree) : Type 0 where
  pub before : List Call
  pub call : Call
  pub behind : List Call
  pub split : calls ≡ before ++ call ∷ behind
  pub long : PutsLong root call (edits (schema_around root) (id_of root) before t)

-- A value is a message's.
abbrev pub is_message : CallValue → Bool
is_message (whole_number z) = false
is_message (truth b) = false
is_message (enumerant n) = false
is_message (text_value bs) = false
is_message (blob_value bs) = false
is_message (message t) = true

-- A verb sets the value of a message.
abbrev pub sets_message : Verb → Bool
sets_message get = false
sets_message (set_to v) = is_message v
sets_message init = false
sets_message (initn n) = false
sets_message clear = false
