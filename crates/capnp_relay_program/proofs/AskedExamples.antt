-- What words and files ask for, computed: faults in their order, calls with their numbers, and limits.
use Rattle.std.proofs.Common.{◌≡◌, ℕ, pos, negsuc, true, false, Option, Some, None, Result, Ok, Err, List, [], ◌∷◌, codes, refl}
use Rattle.capnp_model.specs.Calls.{name, whole_number, Verb, get, set_to, Call}
use Rattle.capnp_model.specs.Messages.{message_at}
use Rattle.capnp_model.specs.Partners.{Renaming}
use Rattle.capnp_calls.specs.Frames.{value_in}
use Rattle.capnp_calls.specs.declared.call.Verb.TheVariants as verb
use Rattle.capnp_relay_files.specs.CallsFiles.{CallParts, given_number, given_message}
use Rattle.capnp_relay_program.specs.declared.stop.Stop.TheVariants as stop
use Rattle.capnp_relay_streams.specs.declared.options.Form.TheVariants.{Framed, Packed}
use Rattle.capnp_relay_program.specs.Arguments.{digits_number, forms, forms_named}
use Rattle.capnp_relay_program.specs.Calls.{calls_from}
use Rattle.capnp_relay_program.specs.Asked.{root_in, apart_in, file_renamings, limits_in, request, asked}

-- p.json c.json 1 framed
words : List (List ℕ)
words = codes "p.json" ∷ codes "c.json" ∷ codes "1" ∷ codes "framed" ∷ []

-- Three words, and no files.
few_words : asked (request (codes "p.json" ∷ codes "c.json" ∷ codes "1" ∷ []) None None None None) ≡ Err stop.Arguments
few_words = refl

-- A root that is no number, and no files.
no_number : asked (request (codes "p.json" ∷ codes "c.json" ∷ codes "+1" ∷ codes "framed" ∷ []) None None None None) ≡ Err stop.Arguments
unfolding digits_number
no_number = refl

-- Neither file: the schema file's fault is the first.
no_files : asked (request words None None None None) ≡ Err stop.SchemaFile
unfolding digits_number words
no_files = refl

-- Seven words are too many.
many_words : asked (request (codes "p.json" ∷ codes "c.json" ∷ codes "1" ∷ codes "framed" ∷ codes "n.json" ∷ codes "r.json" ∷ codes "x" ∷ []) None None None None) ≡ Err stop.Arguments
many_words = refl

-- Output in the plain form, and `+plain` that isn't behind all of the word.
plain_output : forms_named (codes "framed-packed+plain") ≡ Some (forms Framed Packed true)
plain_output = refl

plain_within : forms_named (codes "framed+plain-packed") ≡ None
plain_within = refl

-- A renames file that isn't there, and no renames file, since no word names it.
no_renames : file_renamings true None ≡ Err stop.RenamesFile
no_renames = refl

unnamed_renames : file_renamings false None ≡ Ok []
unnamed_renames = refl

-- Two fields of node 1 with one newer name; of two nodes they may have it.
renamed_to_c : ℕ → List ℕ → Renaming
renamed_to_c node older = record { node = node; older = older; newer = codes "c" }

twice : apart_in (renamed_to_c 1 (codes "a") ∷ renamed_to_c 1 (codes "b") ∷ []) ≡ None
unfolding renamed_to_c
twice = refl

of_two_nodes : apart_in (renamed_to_c 1 (codes "a") ∷ renamed_to_c 2 (codes "b") ∷ []) ≡ Some (renamed_to_c 1 (codes "a") ∷ renamed_to_c 2 (codes "b") ∷ [])
unfolding renamed_to_c
of_two_nodes = refl

-- A schema of no nodes: the root is missing before the calls file is.
no_nodes : root_in [] 1 ≡ Err stop.Root
no_nodes = refl

-- A calls file's parts of a call.
get_a : CallParts
get_a = record { path = name (codes "a") ∷ []; verb = verb.Get; value = None }

set_a : CallParts
set_a = record { path = name (codes "a") ∷ []; verb = verb.Set; value = Some (given_number (pos 7)) }

set_without_value : CallParts
set_without_value = record { path = name (codes "a") ∷ []; verb = verb.Set; value = None }

set_to_message : CallParts
set_to_message = record { path = name (codes "a") ∷ []; verb = verb.Set; value = Some (given_message []) }

no_path : CallParts
no_path = record { path = []; verb = verb.Get; value = None }

many_elements : ℕ → CallParts
many_elements n = record { path = name (codes "t") ∷ []; verb = verb.Initn n; value = None }

call_on_a : Verb → Call
call_on_a v = record { path = name (codes "a") ∷ []; verb = v }

two_calls : calls_from 1 (set_a ∷ get_a ∷ []) ≡ Ok (call_on_a (set_to (whole_number (pos 7))) ∷ call_on_a get ∷ [])
unfolding set_a get_a call_on_a
two_calls = refl

second_call : calls_from 1 (set_a ∷ set_without_value ∷ no_path ∷ []) ≡ Err (stop.Call 2)
unfolding set_a set_without_value no_path
second_call = refl

first_call : calls_from 1 (no_path ∷ set_without_value ∷ []) ≡ Err (stop.Call 1)
unfolding set_without_value no_path
first_call = refl

message_call : calls_from 1 (set_to_message ∷ []) ≡ Err (stop.Call 1)
unfolding set_to_message value_in message_at
message_call = refl

large_list : calls_from 1 (many_elements 536870912 ∷ []) ≡ Err (stop.Call 1)
unfolding many_elements
large_list = refl

most_words : limits_in 536870910 (pos 0) ≡ Ok (record { words = 536870910; nesting = 0 })
most_words = refl

too_many_words : limits_in 536870911 (pos 64) ≡ Err stop.Options
too_many_words = refl

negative_nesting : limits_in 1000 (negsuc 0) ≡ Err stop.Options
negative_nesting = refl
