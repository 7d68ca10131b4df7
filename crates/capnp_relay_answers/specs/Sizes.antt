-- How many words of memory a message and its edits may take. (Encoding, "Structs" and "Lists")
use Rattle.std.specs.Prelude.{◌≡◌, ◌⊎◌, ⊤, ℕ, ◌+◌, ◌*◌, ◌^◌, ◌≤◌, max, List, length, fold, sum_by}
use Rattle.capnp_model.specs.Schemas.{NodeKind, struct_node, enum_node, Node}
use Rattle.capnp_model.specs.Calls.{CallValue, text_value, blob_value, message, Verb, set_to, initn, Call}
use Rattle.capnp_values_queries.specs.Structs.{nodes_around}
use Rattle.capnp_values_queries.specs.declared.structs.StructSchema.{StructSchema}
use Rattle.capnp_units.specs.declared.kinds.ErrorKind.TheVariants.{SizeOverflow}
use Rattle.capnp_calls_run.specs.declared.fault.RunFault.{RunFault}
use Rattle.capnp_calls_run.specs.declared.fault.RunFault.TheVariants as faults
use Rattle.capnp_relay_answers.specs.declared.bounds.Bounds.{Bounds}

-- The words of a node's structs; an enum has none.
abbrev pub words_of_kind : NodeKind → ℕ
words_of_kind (struct_node s) = s.words + s.pointers
words_of_kind (enum_node es) = 0

-- The words of the widest struct of a schema.
abbrev pub widest_struct : List Node → ℕ
widest_struct nodes = fold (λ most n. max most (words_of_kind n.kind)) 0 nodes

-- At most so many words, or elements, are in a value that is set. That of a message was read within 2^23 words.
abbrev pub most_set : CallValue → ℕ
most_set (text_value bs) = length bs
most_set (blob_value bs) = length bs
most_set (message t) = 2 ^ 23
most_set v = 0

-- At most so many does a verb put.
abbrev pub most_put : Verb → ℕ
most_put (set_to v) = most_set v
most_put (initn n) = n
most_put v = 0

-- A call puts these, and makes a default of at most 2^16 words, or a struct, at each step.
abbrev pub most_by : Call → ℕ
most_by c = most_put c.verb + 2 ^ 16 * length c.path

-- A word, or an element, that came or is put is copied twice at most, each time with a pad, and
-- each element gets as wide as the widest struct once.
abbrev pub words_at_most : StructSchema → List Call → Bounds → ℕ
words_at_most schema calls bounds = (4 + widest_struct (nodes_around schema)) * (bounds.words + sum_by most_by calls)

-- A sum is told, or, where it is 2^29 or more, that it is.
abbrev pub IsSumTold : ℕ → ℕ → Type 0
IsSumTold most told = (told ≡ most) ⊎ ((2 ^ 29 ≤ told) × (2 ^ 29 ≤ most))

-- So many words may be taken that they pass what a message may have in memory.
abbrev pub MayPassWords : StructSchema → List Call → Bounds → Type 0
MayPassWords schema calls bounds = 2 ^ 29 ≤ words_at_most schema calls bounds

-- Calls in turn end early for a size: one puts a list that is too long, or the message's words
-- passed what it may have, and so many may be taken.
abbrev pub EndsBySize : RunFault → StructSchema → List Call → Bounds → Type 0
EndsBySize faults.Size schema calls bounds = ⊤
EndsBySize (faults.Refused e) schema calls bounds = (e.kind ≡ SizeOverflow) × MayPassWords schema calls bounds
