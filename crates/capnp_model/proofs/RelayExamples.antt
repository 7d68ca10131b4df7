-- Worked runs of a relay, from the bytes that come in to those that go out and the lines of the log.
use Rattle.std.proofs.Common.{◌≡◌, ℕ, refl, List, [], ◌∷◌, map, Some, codes}
use Rattle.std.specs.Prelude.{pos}
use Rattle.std.specs.Fmt.{digits}
use Rattle.std.specs.Str.{is_utf8, chars}
use Rattle.capnp_model.specs.Kinds.{FailedToFillTheWholeBuffer, PrematureEndOfPackedInput, PackedInputDidNotEndCleanlyOnASegmentBoundary, InvalidNumberOfSegments, MessageTooLarge}
use Rattle.capnp_model.specs.Segments.{Segments}
use Rattle.capnp_model.specs.Trees.{null, structure, plain_list, struct_list, none, ◌▸◌, no_elements, element, has_capability}
use Rattle.capnp_model.specs.Traversal.{tree_at, cost_at}
use Rattle.capnp_model.specs.Trimming.{trim}
use Rattle.capnp_model.specs.Encoding.{canonical_words}
use Rattle.capnp_model.specs.Bytes.{bytes_of_words}
use Rattle.capnp_model.specs.Packing.{packed, unpacked, unpacked_from}
use Rattle.capnp_model.specs.Messages.{Reader, Writer, plain_words, message_at}
use Rattle.capnp_model.specs.Schemas.{Schema}
use Rattle.capnp_model.specs.Readings.{shape_record, read_child, read, record_of, record_by_shape}
use Rattle.capnp_model.specs.Printing.{print, record_text, on_one_line, indented}
use Rattle.capnp_model.specs.Calls.{Step, name, index, whole_number, text_value, message, Verb, get, set_to, initn, clear, Call}
use Rattle.capnp_model.specs.Groups.{group_fault, copied_record}
use Rattle.capnp_model.specs.Steps.{step, step_field}
use Rattle.capnp_model.specs.Edits.{edit, edit_field, cleared, group_writes}
use Rattle.capnp_model.specs.Accepted.{shape_in, schema_of}
use Rattle.capnp_model.specs.Answers.{Answer, Limits, edits, replies, value_within, opened_root, answer, IsAnswer}
use Rattle.capnp_model.specs.Runs.{End, finished, broken, IsRun}
use Rattle.capnp_model.proofs.ExampleSchemas.{example_nodes, newer_nodes}

abbrev call : List Step → Verb → Call
call p v = record { path = p; verb = v }

abbrev set_number : ℕ → Verb
set_number n = set_to (whole_number (pos n))

abbrev examples : Schema
examples = schema_of example_nodes

abbrev newer_examples : Schema
newer_examples = schema_of newer_nodes

abbrev limits : ℕ → ℕ → Limits
limits words nesting = record { words = Some words; nesting = pos nesting }

-- A run under the example schemas, with limits of words and levels.
abbrev Relays : Reader → Writer → ℕ → ℕ → ℕ → List Call → List ℕ → List ℕ → List ℕ → End → Type 0
Relays read write words nesting id calls bytes output log end =
    IsRun read write (Some words) (IsAnswer examples (λ x. x) id calls (limits words nesting)) bytes output log end

-- The answers to messages under the example schemas.
abbrev answers_to : ℕ → ℕ → ℕ → List Call → List Segments → List Answer
answers_to words nesting id calls messages = map (answer examples (λ x. x) id calls (limits words nesting)) messages

null_becomes_the_empty_struct : Relays plain_words bytes_of_words 1000 64 1 [] (0 ∷ 0 ∷ 0 ∷ 0 ∷ 1 ∷ 0 ∷ 0 ∷ 0 ∷ 0 ∷ 0 ∷ 0 ∷ 0 ∷ 0 ∷ 0 ∷ 0 ∷ 0 ∷ []) (0 ∷ 0 ∷ 0 ∷ 0 ∷ 1 ∷ 0 ∷ 0 ∷ 0 ∷ 252 ∷ 255 ∷ 255 ∷ 255 ∷ 0 ∷ 0 ∷ 0 ∷ 0 ∷ []) (codes "message 1 written\n") finished
unfolding message_at unpacked_from packed answer value_within opened_root tree_at cost_at canonical_words trim has_capability edits replies edit step record_of record_by_shape shape_record read_child read step_field edit_field digits is_utf8 chars lib.Utf8.encode print cleared group_writes group_fault copied_record schema_of shape_in
null_becomes_the_empty_struct = record { messages = ((0 ∷ []) ∷ []) ∷ []; rest = []; begins = ([], refl, refl); answers = answers_to 1000 64 1 [] (((0 ∷ []) ∷ []) ∷ []); answered = (refl, tt); writes = refl; logs = refl; ends = refl }

a_number_is_set : Relays plain_words bytes_of_words 1000 64 1 (call (name (codes "a") ∷ []) (set_number 7) ∷ []) (0 ∷ 0 ∷ 0 ∷ 0 ∷ 1 ∷ 0 ∷ 0 ∷ 0 ∷ 0 ∷ 0 ∷ 0 ∷ 0 ∷ 0 ∷ 0 ∷ 0 ∷ 0 ∷ []) (0 ∷ 0 ∷ 0 ∷ 0 ∷ 2 ∷ 0 ∷ 0 ∷ 0 ∷ 0 ∷ 0 ∷ 0 ∷ 0 ∷ 1 ∷ 0 ∷ 0 ∷ 0 ∷ 7 ∷ 0 ∷ 0 ∷ 0 ∷ 0 ∷ 0 ∷ 0 ∷ 0 ∷ []) (codes "message 1 written; done\n") finished
unfolding message_at unpacked_from packed answer value_within opened_root tree_at cost_at canonical_words trim has_capability edits replies edit step record_of record_by_shape shape_record read_child read step_field edit_field digits is_utf8 chars lib.Utf8.encode print cleared group_writes group_fault copied_record schema_of shape_in
a_number_is_set = record { messages = ((0 ∷ []) ∷ []) ∷ []; rest = []; begins = ([], refl, refl); answers = answers_to 1000 64 1 (call (name (codes "a") ∷ []) (set_number 7) ∷ []) (((0 ∷ []) ∷ []) ∷ []); answered = (refl, tt); writes = refl; logs = refl; ends = refl }

packed_number_is_set : Relays unpacked packed 1000 64 1 (call (name (codes "a") ∷ []) (set_number 7) ∷ []) (16 ∷ 1 ∷ 0 ∷ 0 ∷ []) (16 ∷ 2 ∷ 16 ∷ 1 ∷ 1 ∷ 7 ∷ []) (codes "message 1 written; done\n") finished
unfolding message_at unpacked_from packed answer value_within opened_root tree_at cost_at canonical_words trim has_capability edits replies edit step record_of record_by_shape shape_record read_child read step_field edit_field digits is_utf8 chars lib.Utf8.encode print cleared group_writes group_fault copied_record schema_of shape_in
packed_number_is_set = record { messages = ((0 ∷ []) ∷ []) ∷ []; rest = []; begins = ([], refl, refl); answers = answers_to 1000 64 1 (call (name (codes "a") ∷ []) (set_number 7) ∷ []) (((0 ∷ []) ∷ []) ∷ []); answered = (refl, tt); writes = refl; logs = refl; ends = refl }

far_pointer_is_gone : Relays plain_words bytes_of_words 1000 64 1 [] (1 ∷ 0 ∷ 0 ∷ 0 ∷ 1 ∷ 0 ∷ 0 ∷ 0 ∷ 2 ∷ 0 ∷ 0 ∷ 0 ∷ 0 ∷ 0 ∷ 0 ∷ 0 ∷ 2 ∷ 0 ∷ 0 ∷ 0 ∷ 1 ∷ 0 ∷ 0 ∷ 0 ∷ 0 ∷ 0 ∷ 0 ∷ 0 ∷ 1 ∷ 0 ∷ 0 ∷ 0 ∷ 7 ∷ 0 ∷ 0 ∷ 0 ∷ 0 ∷ 0 ∷ 0 ∷ 0 ∷ []) (0 ∷ 0 ∷ 0 ∷ 0 ∷ 2 ∷ 0 ∷ 0 ∷ 0 ∷ 0 ∷ 0 ∷ 0 ∷ 0 ∷ 1 ∷ 0 ∷ 0 ∷ 0 ∷ 7 ∷ 0 ∷ 0 ∷ 0 ∷ 0 ∷ 0 ∷ 0 ∷ 0 ∷ []) (codes "message 1 written\n") finished
unfolding message_at unpacked_from packed answer value_within opened_root tree_at cost_at canonical_words trim has_capability edits replies edit step record_of record_by_shape shape_record read_child read step_field edit_field digits is_utf8 chars lib.Utf8.encode print cleared group_writes group_fault copied_record schema_of shape_in
far_pointer_is_gone = record { messages = ((4294967298 ∷ []) ∷ (4294967296 ∷ 7 ∷ []) ∷ []) ∷ []; rest = []; begins = ([], refl, refl); answers = answers_to 1000 64 1 [] (((4294967298 ∷ []) ∷ (4294967296 ∷ 7 ∷ []) ∷ []) ∷ []); answered = (refl, tt); writes = refl; logs = refl; ends = refl }

unnamed_word_is_kept : Relays plain_words bytes_of_words 1000 64 1 (call (name (codes "a") ∷ []) (set_number 7) ∷ []) (0 ∷ 0 ∷ 0 ∷ 0 ∷ 3 ∷ 0 ∷ 0 ∷ 0 ∷ 0 ∷ 0 ∷ 0 ∷ 0 ∷ 2 ∷ 0 ∷ 0 ∷ 0 ∷ 1 ∷ 0 ∷ 0 ∷ 0 ∷ 0 ∷ 0 ∷ 0 ∷ 0 ∷ 99 ∷ 0 ∷ 0 ∷ 0 ∷ 0 ∷ 0 ∷ 0 ∷ 0 ∷ []) (0 ∷ 0 ∷ 0 ∷ 0 ∷ 3 ∷ 0 ∷ 0 ∷ 0 ∷ 0 ∷ 0 ∷ 0 ∷ 0 ∷ 2 ∷ 0 ∷ 0 ∷ 0 ∷ 7 ∷ 0 ∷ 0 ∷ 0 ∷ 0 ∷ 0 ∷ 0 ∷ 0 ∷ 99 ∷ 0 ∷ 0 ∷ 0 ∷ 0 ∷ 0 ∷ 0 ∷ 0 ∷ []) (codes "message 1 written; done\n") finished
unfolding message_at unpacked_from packed answer value_within opened_root tree_at cost_at canonical_words trim has_capability edits replies edit step record_of record_by_shape shape_record read_child read step_field edit_field digits is_utf8 chars lib.Utf8.encode print cleared group_writes group_fault copied_record schema_of shape_in
unnamed_word_is_kept = record { messages = ((8589934592 ∷ 1 ∷ 99 ∷ []) ∷ []) ∷ []; rest = []; begins = ([], refl, refl); answers = answers_to 1000 64 1 (call (name (codes "a") ∷ []) (set_number 7) ∷ []) (((8589934592 ∷ 1 ∷ 99 ∷ []) ∷ []) ∷ []); answered = (refl, tt); writes = refl; logs = refl; ends = refl }

a_field_is_cleared : Relays plain_words bytes_of_words 1000 64 1 (call (name (codes "a") ∷ []) (clear) ∷ []) (0 ∷ 0 ∷ 0 ∷ 0 ∷ 2 ∷ 0 ∷ 0 ∷ 0 ∷ 0 ∷ 0 ∷ 0 ∷ 0 ∷ 1 ∷ 0 ∷ 0 ∷ 0 ∷ 7 ∷ 0 ∷ 0 ∷ 0 ∷ 0 ∷ 0 ∷ 0 ∷ 0 ∷ []) (0 ∷ 0 ∷ 0 ∷ 0 ∷ 1 ∷ 0 ∷ 0 ∷ 0 ∷ 252 ∷ 255 ∷ 255 ∷ 255 ∷ 0 ∷ 0 ∷ 0 ∷ 0 ∷ []) (codes "message 1 written; done\n") finished
unfolding message_at unpacked_from packed answer value_within opened_root tree_at cost_at canonical_words trim has_capability edits replies edit step record_of record_by_shape shape_record read_child read step_field edit_field digits is_utf8 chars lib.Utf8.encode print cleared group_writes group_fault copied_record schema_of shape_in
a_field_is_cleared = record { messages = ((4294967296 ∷ 7 ∷ []) ∷ []) ∷ []; rest = []; begins = ([], refl, refl); answers = answers_to 1000 64 1 (call (name (codes "a") ∷ []) (clear) ∷ []) (((4294967296 ∷ 7 ∷ []) ∷ []) ∷ []); answered = (refl, tt); writes = refl; logs = refl; ends = refl }

a_text_is_set_and_read : Relays plain_words bytes_of_words 1000 64 1 (call (name (codes "t") ∷ []) (set_to (text_value (codes "hi"))) ∷ call (name (codes "t") ∷ []) (get) ∷ []) (0 ∷ 0 ∷ 0 ∷ 0 ∷ 1 ∷ 0 ∷ 0 ∷ 0 ∷ 0 ∷ 0 ∷ 0 ∷ 0 ∷ 0 ∷ 0 ∷ 0 ∷ 0 ∷ []) (0 ∷ 0 ∷ 0 ∷ 0 ∷ 3 ∷ 0 ∷ 0 ∷ 0 ∷ 0 ∷ 0 ∷ 0 ∷ 0 ∷ 0 ∷ 0 ∷ 1 ∷ 0 ∷ 1 ∷ 0 ∷ 0 ∷ 0 ∷ 26 ∷ 0 ∷ 0 ∷ 0 ∷ 104 ∷ 105 ∷ 0 ∷ 0 ∷ 0 ∷ 0 ∷ 0 ∷ 0 ∷ []) (codes "message 1 written; done; \"hi\"\n") finished
unfolding message_at unpacked_from packed answer value_within opened_root tree_at cost_at canonical_words trim has_capability edits replies edit step record_of record_by_shape shape_record read_child read step_field edit_field digits is_utf8 chars lib.Utf8.encode print cleared group_writes group_fault copied_record schema_of shape_in
a_text_is_set_and_read = record { messages = ((0 ∷ []) ∷ []) ∷ []; rest = []; begins = ([], refl, refl); answers = answers_to 1000 64 1 (call (name (codes "t") ∷ []) (set_to (text_value (codes "hi"))) ∷ call (name (codes "t") ∷ []) (get) ∷ []) (((0 ∷ []) ∷ []) ∷ []); answered = (refl, tt); writes = refl; logs = refl; ends = refl }

another_member_becomes_active : Relays plain_words bytes_of_words 1000 64 3 (call (name (codes "v") ∷ []) (set_number 9) ∷ call (name (codes "u") ∷ []) (get) ∷ []) (0 ∷ 0 ∷ 0 ∷ 0 ∷ 2 ∷ 0 ∷ 0 ∷ 0 ∷ 0 ∷ 0 ∷ 0 ∷ 0 ∷ 1 ∷ 0 ∷ 0 ∷ 0 ∷ 7 ∷ 0 ∷ 0 ∷ 0 ∷ 0 ∷ 0 ∷ 0 ∷ 0 ∷ []) (0 ∷ 0 ∷ 0 ∷ 0 ∷ 2 ∷ 0 ∷ 0 ∷ 0 ∷ 0 ∷ 0 ∷ 0 ∷ 0 ∷ 1 ∷ 0 ∷ 0 ∷ 0 ∷ 9 ∷ 0 ∷ 1 ∷ 0 ∷ 0 ∷ 0 ∷ 0 ∷ 0 ∷ []) (codes "message 1 written; done; refused InactiveMember\n") finished
unfolding message_at unpacked_from packed answer value_within opened_root tree_at cost_at canonical_words trim has_capability edits replies edit step record_of record_by_shape shape_record read_child read step_field edit_field digits is_utf8 chars lib.Utf8.encode print cleared group_writes group_fault copied_record schema_of shape_in
another_member_becomes_active = record { messages = ((4294967296 ∷ 7 ∷ []) ∷ []) ∷ []; rest = []; begins = ([], refl, refl); answers = answers_to 1000 64 3 (call (name (codes "v") ∷ []) (set_number 9) ∷ call (name (codes "u") ∷ []) (get) ∷ []) (((4294967296 ∷ 7 ∷ []) ∷ []) ∷ []); answered = (refl, tt); writes = refl; logs = refl; ends = refl }

unknown_member_stays : Relays plain_words bytes_of_words 1000 64 3 (call (name (codes "u") ∷ []) (get) ∷ []) (0 ∷ 0 ∷ 0 ∷ 0 ∷ 2 ∷ 0 ∷ 0 ∷ 0 ∷ 0 ∷ 0 ∷ 0 ∷ 0 ∷ 1 ∷ 0 ∷ 0 ∷ 0 ∷ 7 ∷ 0 ∷ 2 ∷ 0 ∷ 0 ∷ 0 ∷ 0 ∷ 0 ∷ []) (0 ∷ 0 ∷ 0 ∷ 0 ∷ 2 ∷ 0 ∷ 0 ∷ 0 ∷ 0 ∷ 0 ∷ 0 ∷ 0 ∷ 1 ∷ 0 ∷ 0 ∷ 0 ∷ 7 ∷ 0 ∷ 2 ∷ 0 ∷ 0 ∷ 0 ∷ 0 ∷ 0 ∷ []) (codes "message 1 written; refused InactiveMember\n") finished
unfolding message_at unpacked_from packed answer value_within opened_root tree_at cost_at canonical_words trim has_capability edits replies edit step record_of record_by_shape shape_record read_child read step_field edit_field digits is_utf8 chars lib.Utf8.encode print cleared group_writes group_fault copied_record schema_of shape_in
unknown_member_stays = record { messages = ((4294967296 ∷ 131079 ∷ []) ∷ []) ∷ []; rest = []; begins = ([], refl, refl); answers = answers_to 1000 64 3 (call (name (codes "u") ∷ []) (get) ∷ []) (((4294967296 ∷ 131079 ∷ []) ∷ []) ∷ []); answered = (refl, tt); writes = refl; logs = refl; ends = refl }

capability_is_refused : Relays plain_words bytes_of_words 1000 64 1 [] (0 ∷ 0 ∷ 0 ∷ 0 ∷ 1 ∷ 0 ∷ 0 ∷ 0 ∷ 3 ∷ 0 ∷ 0 ∷ 0 ∷ 0 ∷ 0 ∷ 0 ∷ 0 ∷ 0 ∷ 0 ∷ 0 ∷ 0 ∷ 1 ∷ 0 ∷ 0 ∷ 0 ∷ 0 ∷ 0 ∷ 0 ∷ 0 ∷ 0 ∷ 0 ∷ 0 ∷ 0 ∷ []) (0 ∷ 0 ∷ 0 ∷ 0 ∷ 1 ∷ 0 ∷ 0 ∷ 0 ∷ 252 ∷ 255 ∷ 255 ∷ 255 ∷ 0 ∷ 0 ∷ 0 ∷ 0 ∷ []) (codes "message 1 refused: value\nmessage 2 written\n") finished
unfolding message_at unpacked_from packed answer value_within opened_root tree_at cost_at canonical_words trim has_capability edits replies edit step record_of record_by_shape shape_record read_child read step_field edit_field digits is_utf8 chars lib.Utf8.encode print cleared group_writes group_fault copied_record schema_of shape_in
capability_is_refused = record { messages = ((3 ∷ []) ∷ []) ∷ ((0 ∷ []) ∷ []) ∷ []; rest = []; begins = (0 ∷ 0 ∷ 0 ∷ 0 ∷ 1 ∷ 0 ∷ 0 ∷ 0 ∷ 0 ∷ 0 ∷ 0 ∷ 0 ∷ 0 ∷ 0 ∷ 0 ∷ 0 ∷ [], refl, ([], refl, refl)); answers = answers_to 1000 64 1 [] (((3 ∷ []) ∷ []) ∷ ((0 ∷ []) ∷ []) ∷ []); answered = (refl, (refl, tt)); writes = refl; logs = refl; ends = refl }

costly_void_list_is_refused : Relays plain_words bytes_of_words 1000 64 1 [] (0 ∷ 0 ∷ 0 ∷ 0 ∷ 3 ∷ 0 ∷ 0 ∷ 0 ∷ 0 ∷ 0 ∷ 0 ∷ 0 ∷ 0 ∷ 0 ∷ 2 ∷ 0 ∷ 0 ∷ 0 ∷ 0 ∷ 0 ∷ 0 ∷ 0 ∷ 0 ∷ 0 ∷ 1 ∷ 0 ∷ 0 ∷ 0 ∷ 248 ∷ 255 ∷ 255 ∷ 255 ∷ []) ([]) (codes "message 1 refused: value\n") finished
unfolding message_at unpacked_from packed answer value_within opened_root tree_at cost_at canonical_words trim has_capability edits replies edit step record_of record_by_shape shape_record read_child read step_field edit_field digits is_utf8 chars lib.Utf8.encode print cleared group_writes group_fault copied_record schema_of shape_in
costly_void_list_is_refused = record { messages = ((562949953421312 ∷ 0 ∷ 18446744039349813249 ∷ []) ∷ []) ∷ []; rest = []; begins = ([], refl, refl); answers = answers_to 1000 64 1 [] (((562949953421312 ∷ 0 ∷ 18446744039349813249 ∷ []) ∷ []) ∷ []); answered = (refl, tt); writes = refl; logs = refl; ends = refl }

cut_first_word_ends_the_run : Relays plain_words bytes_of_words 1000 64 1 [] (0 ∷ 0 ∷ 0 ∷ 0 ∷ []) ([]) [] (broken FailedToFillTheWholeBuffer)
unfolding message_at unpacked_from packed answer value_within opened_root tree_at cost_at canonical_words trim has_capability edits replies edit step record_of record_by_shape shape_record read_child read step_field edit_field digits is_utf8 chars lib.Utf8.encode print cleared group_writes group_fault copied_record schema_of shape_in
cut_first_word_ends_the_run = record { messages = []; rest = 0 ∷ 0 ∷ 0 ∷ 0 ∷ []; begins = refl; answers = answers_to 1000 64 1 [] ([]); answered = tt; writes = refl; logs = refl; ends = ((λ e. absurd (cc e)), refl) }

nothing_comes_in : Relays plain_words bytes_of_words 1000 64 1 [] ([]) ([]) [] finished
unfolding message_at unpacked_from packed answer value_within opened_root tree_at cost_at canonical_words trim has_capability edits replies edit step record_of record_by_shape shape_record read_child read step_field edit_field digits is_utf8 chars lib.Utf8.encode print cleared group_writes group_fault copied_record schema_of shape_in
nothing_comes_in = record { messages = []; rest = []; begins = refl; answers = answers_to 1000 64 1 [] ([]); answered = tt; writes = refl; logs = refl; ends = refl }

struct_list_is_trimmed : Relays plain_words bytes_of_words 1000 64 2 [] (0 ∷ 0 ∷ 0 ∷ 0 ∷ 7 ∷ 0 ∷ 0 ∷ 0 ∷ 0 ∷ 0 ∷ 0 ∷ 0 ∷ 0 ∷ 0 ∷ 1 ∷ 0 ∷ 1 ∷ 0 ∷ 0 ∷ 0 ∷ 39 ∷ 0 ∷ 0 ∷ 0 ∷ 8 ∷ 0 ∷ 0 ∷ 0 ∷ 1 ∷ 0 ∷ 1 ∷ 0 ∷ 5 ∷ 0 ∷ 0 ∷ 0 ∷ 0 ∷ 0 ∷ 0 ∷ 0 ∷ 0 ∷ 0 ∷ 0 ∷ 0 ∷ 0 ∷ 0 ∷ 0 ∷ 0 ∷ 6 ∷ 0 ∷ 0 ∷ 0 ∷ 0 ∷ 0 ∷ 0 ∷ 0 ∷ 0 ∷ 0 ∷ 0 ∷ 0 ∷ 0 ∷ 0 ∷ 0 ∷ 0 ∷ []) (0 ∷ 0 ∷ 0 ∷ 0 ∷ 5 ∷ 0 ∷ 0 ∷ 0 ∷ 0 ∷ 0 ∷ 0 ∷ 0 ∷ 0 ∷ 0 ∷ 1 ∷ 0 ∷ 1 ∷ 0 ∷ 0 ∷ 0 ∷ 23 ∷ 0 ∷ 0 ∷ 0 ∷ 8 ∷ 0 ∷ 0 ∷ 0 ∷ 1 ∷ 0 ∷ 0 ∷ 0 ∷ 5 ∷ 0 ∷ 0 ∷ 0 ∷ 0 ∷ 0 ∷ 0 ∷ 0 ∷ 6 ∷ 0 ∷ 0 ∷ 0 ∷ 0 ∷ 0 ∷ 0 ∷ 0 ∷ []) (codes "message 1 written\n") finished
unfolding message_at unpacked_from packed answer value_within opened_root tree_at cost_at canonical_words trim has_capability edits replies edit step record_of record_by_shape shape_record read_child read step_field edit_field digits is_utf8 chars lib.Utf8.encode print cleared group_writes group_fault copied_record schema_of shape_in
struct_list_is_trimmed = record { messages = ((281474976710656 ∷ 167503724545 ∷ 281479271677960 ∷ 5 ∷ 0 ∷ 6 ∷ 0 ∷ []) ∷ []) ∷ []; rest = []; begins = ([], refl, refl); answers = answers_to 1000 64 2 [] (((281474976710656 ∷ 167503724545 ∷ 281479271677960 ∷ 5 ∷ 0 ∷ 6 ∷ 0 ∷ []) ∷ []) ∷ []); answered = (refl, tt); writes = refl; logs = refl; ends = refl }

edited_value_is_too_deep : Relays plain_words bytes_of_words 1000 1 1 (call (name (codes "t") ∷ []) (set_to (text_value (codes "hi"))) ∷ []) (0 ∷ 0 ∷ 0 ∷ 0 ∷ 1 ∷ 0 ∷ 0 ∷ 0 ∷ 0 ∷ 0 ∷ 0 ∷ 0 ∷ 0 ∷ 0 ∷ 0 ∷ 0 ∷ []) ([]) (codes "message 1 refused: depth\n") finished
unfolding message_at unpacked_from packed answer value_within opened_root tree_at cost_at canonical_words trim has_capability edits replies edit step record_of record_by_shape shape_record read_child read step_field edit_field digits is_utf8 chars lib.Utf8.encode print cleared group_writes group_fault copied_record schema_of shape_in
edited_value_is_too_deep = record { messages = ((0 ∷ []) ∷ []) ∷ []; rest = []; begins = ([], refl, refl); answers = answers_to 1000 1 1 (call (name (codes "t") ∷ []) (set_to (text_value (codes "hi"))) ∷ []) (((0 ∷ []) ∷ []) ∷ []); answered = (refl, tt); writes = refl; logs = refl; ends = refl }

packed_group_is_cut : Relays unpacked packed 1000 64 1 [] (240 ∷ 1 ∷ 2 ∷ []) ([]) [] (broken PrematureEndOfPackedInput)
unfolding message_at unpacked_from packed answer value_within opened_root tree_at cost_at canonical_words trim has_capability edits replies edit step record_of record_by_shape shape_record read_child read step_field edit_field digits is_utf8 chars lib.Utf8.encode print cleared group_writes group_fault copied_record schema_of shape_in
packed_group_is_cut = record { messages = []; rest = 240 ∷ 1 ∷ 2 ∷ []; begins = refl; answers = answers_to 1000 64 1 [] ([]); answered = tt; writes = refl; logs = refl; ends = ((λ e. absurd (cc e)), refl) }

packed_run_is_too_long : Relays unpacked packed 1000 64 1 [] (0 ∷ 1 ∷ []) ([]) [] (broken PackedInputDidNotEndCleanlyOnASegmentBoundary)
unfolding message_at unpacked_from packed answer value_within opened_root tree_at cost_at canonical_words trim has_capability edits replies edit step record_of record_by_shape shape_record read_child read step_field edit_field digits is_utf8 chars lib.Utf8.encode print cleared group_writes group_fault copied_record schema_of shape_in
packed_run_is_too_long = record { messages = []; rest = 0 ∷ 1 ∷ []; begins = refl; answers = answers_to 1000 64 1 [] ([]); answered = tt; writes = refl; logs = refl; ends = ((λ e. absurd (cc e)), refl) }

too_many_segments_end_the_run : Relays plain_words bytes_of_words 1000 64 1 [] (255 ∷ 1 ∷ 0 ∷ 0 ∷ 0 ∷ 0 ∷ 0 ∷ 0 ∷ []) ([]) [] (broken InvalidNumberOfSegments)
unfolding message_at unpacked_from packed answer value_within opened_root tree_at cost_at canonical_words trim has_capability edits replies edit step record_of record_by_shape shape_record read_child read step_field edit_field digits is_utf8 chars lib.Utf8.encode print cleared group_writes group_fault copied_record schema_of shape_in
too_many_segments_end_the_run = record { messages = []; rest = 255 ∷ 1 ∷ 0 ∷ 0 ∷ 0 ∷ 0 ∷ 0 ∷ 0 ∷ []; begins = refl; answers = answers_to 1000 64 1 [] ([]); answered = tt; writes = refl; logs = refl; ends = ((λ e. absurd (cc e)), refl) }

too_many_words_end_the_run : Relays plain_words bytes_of_words 1 64 1 [] (0 ∷ 0 ∷ 0 ∷ 0 ∷ 2 ∷ 0 ∷ 0 ∷ 0 ∷ []) ([]) [] (broken MessageTooLarge)
unfolding message_at unpacked_from packed answer value_within opened_root tree_at cost_at canonical_words trim has_capability edits replies edit step record_of record_by_shape shape_record read_child read step_field edit_field digits is_utf8 chars lib.Utf8.encode print cleared group_writes group_fault copied_record schema_of shape_in
too_many_words_end_the_run = record { messages = []; rest = 0 ∷ 0 ∷ 0 ∷ 0 ∷ 2 ∷ 0 ∷ 0 ∷ 0 ∷ []; begins = refl; answers = answers_to 1 64 1 [] ([]); answered = tt; writes = refl; logs = refl; ends = ((λ e. absurd (cc e)), refl) }

trailing_zero_word_is_cut : Relays plain_words bytes_of_words 1000 64 1 [] (0 ∷ 0 ∷ 0 ∷ 0 ∷ 4 ∷ 0 ∷ 0 ∷ 0 ∷ 0 ∷ 0 ∷ 0 ∷ 0 ∷ 3 ∷ 0 ∷ 0 ∷ 0 ∷ 17 ∷ 17 ∷ 17 ∷ 17 ∷ 17 ∷ 17 ∷ 17 ∷ 17 ∷ 0 ∷ 0 ∷ 0 ∷ 0 ∷ 0 ∷ 0 ∷ 0 ∷ 128 ∷ 0 ∷ 0 ∷ 0 ∷ 0 ∷ 0 ∷ 0 ∷ 0 ∷ 0 ∷ []) (0 ∷ 0 ∷ 0 ∷ 0 ∷ 3 ∷ 0 ∷ 0 ∷ 0 ∷ 0 ∷ 0 ∷ 0 ∷ 0 ∷ 2 ∷ 0 ∷ 0 ∷ 0 ∷ 17 ∷ 17 ∷ 17 ∷ 17 ∷ 17 ∷ 17 ∷ 17 ∷ 17 ∷ 0 ∷ 0 ∷ 0 ∷ 0 ∷ 0 ∷ 0 ∷ 0 ∷ 128 ∷ []) (codes "message 1 written\n") finished
unfolding message_at unpacked_from packed answer value_within opened_root tree_at cost_at canonical_words trim has_capability edits replies edit step record_of record_by_shape shape_record read_child read step_field edit_field digits is_utf8 chars lib.Utf8.encode print cleared group_writes group_fault copied_record schema_of shape_in
trailing_zero_word_is_cut = record { messages = ((12884901888 ∷ 1229782938247303441 ∷ 9223372036854775808 ∷ 0 ∷ []) ∷ []) ∷ []; rest = []; begins = ([], refl, refl); answers = answers_to 1000 64 1 [] (((12884901888 ∷ 1229782938247303441 ∷ 9223372036854775808 ∷ 0 ∷ []) ∷ []) ∷ []); answered = (refl, tt); writes = refl; logs = refl; ends = refl }

unknown_name_is_refused : Relays plain_words bytes_of_words 1000 64 1 (call (name (codes "zz") ∷ []) (get) ∷ []) (0 ∷ 0 ∷ 0 ∷ 0 ∷ 1 ∷ 0 ∷ 0 ∷ 0 ∷ 0 ∷ 0 ∷ 0 ∷ 0 ∷ 0 ∷ 0 ∷ 0 ∷ 0 ∷ []) (0 ∷ 0 ∷ 0 ∷ 0 ∷ 1 ∷ 0 ∷ 0 ∷ 0 ∷ 252 ∷ 255 ∷ 255 ∷ 255 ∷ 0 ∷ 0 ∷ 0 ∷ 0 ∷ []) (codes "message 1 written; refused FieldNotFound\n") finished
unfolding message_at unpacked_from packed answer value_within opened_root tree_at cost_at canonical_words trim has_capability edits replies edit step record_of record_by_shape shape_record read_child read step_field edit_field digits is_utf8 chars lib.Utf8.encode print cleared group_writes group_fault copied_record schema_of shape_in
unknown_name_is_refused = record { messages = ((0 ∷ []) ∷ []) ∷ []; rest = []; begins = ([], refl, refl); answers = answers_to 1000 64 1 (call (name (codes "zz") ∷ []) (get) ∷ []) (((0 ∷ []) ∷ []) ∷ []); answered = (refl, tt); writes = refl; logs = refl; ends = refl }

empty_segment_is_refused : Relays plain_words bytes_of_words 1000 64 1 [] (0 ∷ 0 ∷ 0 ∷ 0 ∷ 0 ∷ 0 ∷ 0 ∷ 0 ∷ 0 ∷ 0 ∷ 0 ∷ 0 ∷ 1 ∷ 0 ∷ 0 ∷ 0 ∷ 0 ∷ 0 ∷ 0 ∷ 0 ∷ 0 ∷ 0 ∷ 0 ∷ 0 ∷ []) (0 ∷ 0 ∷ 0 ∷ 0 ∷ 1 ∷ 0 ∷ 0 ∷ 0 ∷ 252 ∷ 255 ∷ 255 ∷ 255 ∷ 0 ∷ 0 ∷ 0 ∷ 0 ∷ []) (codes "message 1 refused: value\nmessage 2 written\n") finished
unfolding message_at unpacked_from packed answer value_within opened_root tree_at cost_at canonical_words trim has_capability edits replies edit step record_of record_by_shape shape_record read_child read step_field edit_field digits is_utf8 chars lib.Utf8.encode print cleared group_writes group_fault copied_record schema_of shape_in
empty_segment_is_refused = record { messages = (([]) ∷ []) ∷ ((0 ∷ []) ∷ []) ∷ []; rest = []; begins = (0 ∷ 0 ∷ 0 ∷ 0 ∷ 1 ∷ 0 ∷ 0 ∷ 0 ∷ 0 ∷ 0 ∷ 0 ∷ 0 ∷ 0 ∷ 0 ∷ 0 ∷ 0 ∷ [], refl, ([], refl, refl)); answers = answers_to 1000 64 1 [] ((([]) ∷ []) ∷ ((0 ∷ []) ∷ []) ∷ []); answered = (refl, (refl, tt)); writes = refl; logs = refl; ends = refl }

list_root_is_refused : Relays plain_words bytes_of_words 1000 64 1 [] (0 ∷ 0 ∷ 0 ∷ 0 ∷ 1 ∷ 0 ∷ 0 ∷ 0 ∷ 1 ∷ 0 ∷ 0 ∷ 0 ∷ 0 ∷ 0 ∷ 0 ∷ 0 ∷ []) ([]) (codes "message 1 refused: root\n") finished
unfolding message_at unpacked_from packed answer value_within opened_root tree_at cost_at canonical_words trim has_capability edits replies edit step record_of record_by_shape shape_record read_child read step_field edit_field digits is_utf8 chars lib.Utf8.encode print cleared group_writes group_fault copied_record schema_of shape_in
list_root_is_refused = record { messages = ((1 ∷ []) ∷ []) ∷ []; rest = []; begins = ([], refl, refl); answers = answers_to 1000 64 1 [] (((1 ∷ []) ∷ []) ∷ []); answered = (refl, tt); writes = refl; logs = refl; ends = refl }

element_is_set : Relays plain_words bytes_of_words 1000 64 2 (call (name (codes "items") ∷ index 0 ∷ []) (set_to (message (structure 3 2381976568446569244354302716464634789893 none))) ∷ []) (0 ∷ 0 ∷ 0 ∷ 0 ∷ 9 ∷ 0 ∷ 0 ∷ 0 ∷ 0 ∷ 0 ∷ 0 ∷ 0 ∷ 0 ∷ 0 ∷ 1 ∷ 0 ∷ 1 ∷ 0 ∷ 0 ∷ 0 ∷ 55 ∷ 0 ∷ 0 ∷ 0 ∷ 8 ∷ 0 ∷ 0 ∷ 0 ∷ 3 ∷ 0 ∷ 0 ∷ 0 ∷ 1 ∷ 0 ∷ 0 ∷ 0 ∷ 0 ∷ 0 ∷ 0 ∷ 0 ∷ 0 ∷ 0 ∷ 0 ∷ 0 ∷ 0 ∷ 0 ∷ 0 ∷ 0 ∷ 0 ∷ 0 ∷ 0 ∷ 0 ∷ 0 ∷ 0 ∷ 0 ∷ 0 ∷ 2 ∷ 0 ∷ 0 ∷ 0 ∷ 0 ∷ 0 ∷ 0 ∷ 0 ∷ 0 ∷ 0 ∷ 0 ∷ 0 ∷ 0 ∷ 0 ∷ 0 ∷ 0 ∷ 0 ∷ 0 ∷ 0 ∷ 0 ∷ 0 ∷ 0 ∷ 0 ∷ 0 ∷ []) (0 ∷ 0 ∷ 0 ∷ 0 ∷ 5 ∷ 0 ∷ 0 ∷ 0 ∷ 0 ∷ 0 ∷ 0 ∷ 0 ∷ 0 ∷ 0 ∷ 1 ∷ 0 ∷ 1 ∷ 0 ∷ 0 ∷ 0 ∷ 23 ∷ 0 ∷ 0 ∷ 0 ∷ 8 ∷ 0 ∷ 0 ∷ 0 ∷ 1 ∷ 0 ∷ 0 ∷ 0 ∷ 5 ∷ 0 ∷ 0 ∷ 0 ∷ 0 ∷ 0 ∷ 0 ∷ 0 ∷ 2 ∷ 0 ∷ 0 ∷ 0 ∷ 0 ∷ 0 ∷ 0 ∷ 0 ∷ []) (codes "message 1 written; done\n") finished
unfolding message_at unpacked_from packed answer value_within opened_root tree_at cost_at canonical_words trim has_capability edits replies edit step record_of record_by_shape shape_record read_child read step_field edit_field digits is_utf8 chars lib.Utf8.encode print cleared group_writes group_fault copied_record schema_of shape_in
element_is_set = record { messages = ((281474976710656 ∷ 236223201281 ∷ 12884901896 ∷ 1 ∷ 0 ∷ 0 ∷ 2 ∷ 0 ∷ 0 ∷ []) ∷ []) ∷ []; rest = []; begins = ([], refl, refl); answers = answers_to 1000 64 2 (call (name (codes "items") ∷ index 0 ∷ []) (set_to (message (structure 3 2381976568446569244354302716464634789893 none))) ∷ []) (((281474976710656 ∷ 236223201281 ∷ 12884901896 ∷ 1 ∷ 0 ∷ 0 ∷ 2 ∷ 0 ∷ 0 ∷ []) ∷ []) ∷ []); answered = (refl, tt); writes = refl; logs = refl; ends = refl }

default_is_read_and_overwritten : Relays plain_words bytes_of_words 1000 64 4 (call (name (codes "n") ∷ []) (get) ∷ call (name (codes "n") ∷ []) (set_number 0) ∷ call (name (codes "n") ∷ []) (get) ∷ []) (0 ∷ 0 ∷ 0 ∷ 0 ∷ 1 ∷ 0 ∷ 0 ∷ 0 ∷ 0 ∷ 0 ∷ 0 ∷ 0 ∷ 0 ∷ 0 ∷ 0 ∷ 0 ∷ []) (0 ∷ 0 ∷ 0 ∷ 0 ∷ 2 ∷ 0 ∷ 0 ∷ 0 ∷ 0 ∷ 0 ∷ 0 ∷ 0 ∷ 1 ∷ 0 ∷ 0 ∷ 0 ∷ 5 ∷ 0 ∷ 0 ∷ 0 ∷ 0 ∷ 0 ∷ 0 ∷ 0 ∷ []) (codes "message 1 written; 5; done; 0\n") finished
unfolding message_at unpacked_from packed answer value_within opened_root tree_at cost_at canonical_words trim has_capability edits replies edit step record_of record_by_shape shape_record read_child read step_field edit_field digits is_utf8 chars lib.Utf8.encode print cleared group_writes group_fault copied_record schema_of shape_in
default_is_read_and_overwritten = record { messages = ((0 ∷ []) ∷ []) ∷ []; rest = []; begins = ([], refl, refl); answers = answers_to 1000 64 4 (call (name (codes "n") ∷ []) (get) ∷ call (name (codes "n") ∷ []) (set_number 0) ∷ call (name (codes "n") ∷ []) (get) ∷ []) (((0 ∷ []) ∷ []) ∷ []); answered = (refl, tt); writes = refl; logs = refl; ends = refl }

number_out_of_range_is_refused : Relays plain_words bytes_of_words 1000 64 3 (call (name (codes "v") ∷ []) (set_number 70000) ∷ []) (0 ∷ 0 ∷ 0 ∷ 0 ∷ 2 ∷ 0 ∷ 0 ∷ 0 ∷ 0 ∷ 0 ∷ 0 ∷ 0 ∷ 1 ∷ 0 ∷ 0 ∷ 0 ∷ 7 ∷ 0 ∷ 0 ∷ 0 ∷ 0 ∷ 0 ∷ 0 ∷ 0 ∷ []) (0 ∷ 0 ∷ 0 ∷ 0 ∷ 2 ∷ 0 ∷ 0 ∷ 0 ∷ 0 ∷ 0 ∷ 0 ∷ 0 ∷ 1 ∷ 0 ∷ 0 ∷ 0 ∷ 7 ∷ 0 ∷ 0 ∷ 0 ∷ 0 ∷ 0 ∷ 0 ∷ 0 ∷ []) (codes "message 1 written; refused TypeMismatch\n") finished
unfolding message_at unpacked_from packed answer value_within opened_root tree_at cost_at canonical_words trim has_capability edits replies edit step record_of record_by_shape shape_record read_child read step_field edit_field digits is_utf8 chars lib.Utf8.encode print cleared group_writes group_fault copied_record schema_of shape_in
number_out_of_range_is_refused = record { messages = ((4294967296 ∷ 7 ∷ []) ∷ []) ∷ []; rest = []; begins = ([], refl, refl); answers = answers_to 1000 64 3 (call (name (codes "v") ∷ []) (set_number 70000) ∷ []) (((4294967296 ∷ 7 ∷ []) ∷ []) ∷ []); answered = (refl, tt); writes = refl; logs = refl; ends = refl }

unreadable_text_is_refused : Relays plain_words bytes_of_words 1000 64 1 (call (name (codes "t") ∷ []) (get) ∷ []) (0 ∷ 0 ∷ 0 ∷ 0 ∷ 3 ∷ 0 ∷ 0 ∷ 0 ∷ 0 ∷ 0 ∷ 0 ∷ 0 ∷ 0 ∷ 0 ∷ 1 ∷ 0 ∷ 1 ∷ 0 ∷ 0 ∷ 0 ∷ 18 ∷ 0 ∷ 0 ∷ 0 ∷ 104 ∷ 105 ∷ 0 ∷ 0 ∷ 0 ∷ 0 ∷ 0 ∷ 0 ∷ []) (0 ∷ 0 ∷ 0 ∷ 0 ∷ 3 ∷ 0 ∷ 0 ∷ 0 ∷ 0 ∷ 0 ∷ 0 ∷ 0 ∷ 0 ∷ 0 ∷ 1 ∷ 0 ∷ 1 ∷ 0 ∷ 0 ∷ 0 ∷ 18 ∷ 0 ∷ 0 ∷ 0 ∷ 104 ∷ 105 ∷ 0 ∷ 0 ∷ 0 ∷ 0 ∷ 0 ∷ 0 ∷ []) (codes "message 1 written; refused UnreadablePointer\n") finished
unfolding message_at unpacked_from packed answer value_within opened_root tree_at cost_at canonical_words trim has_capability edits replies edit step record_of record_by_shape shape_record read_child read step_field edit_field digits is_utf8 chars lib.Utf8.encode print cleared group_writes group_fault copied_record schema_of shape_in
unreadable_text_is_refused = record { messages = ((281474976710656 ∷ 77309411329 ∷ 26984 ∷ []) ∷ []) ∷ []; rest = []; begins = ([], refl, refl); answers = answers_to 1000 64 1 (call (name (codes "t") ∷ []) (get) ∷ []) (((281474976710656 ∷ 77309411329 ∷ 26984 ∷ []) ∷ []) ∷ []); answered = (refl, tt); writes = refl; logs = refl; ends = refl }

index_out_of_range_is_refused : Relays plain_words bytes_of_words 1000 64 2 (call (name (codes "items") ∷ index 0 ∷ []) (get) ∷ []) (0 ∷ 0 ∷ 0 ∷ 0 ∷ 1 ∷ 0 ∷ 0 ∷ 0 ∷ 0 ∷ 0 ∷ 0 ∷ 0 ∷ 0 ∷ 0 ∷ 0 ∷ 0 ∷ []) (0 ∷ 0 ∷ 0 ∷ 0 ∷ 1 ∷ 0 ∷ 0 ∷ 0 ∷ 252 ∷ 255 ∷ 255 ∷ 255 ∷ 0 ∷ 0 ∷ 0 ∷ 0 ∷ []) (codes "message 1 written; refused IndexOutOfRange\n") finished
unfolding message_at unpacked_from packed answer value_within opened_root tree_at cost_at canonical_words trim has_capability edits replies edit step record_of record_by_shape shape_record read_child read step_field edit_field digits is_utf8 chars lib.Utf8.encode print cleared group_writes group_fault copied_record schema_of shape_in
index_out_of_range_is_refused = record { messages = ((0 ∷ []) ∷ []) ∷ []; rest = []; begins = ([], refl, refl); answers = answers_to 1000 64 2 (call (name (codes "items") ∷ index 0 ∷ []) (get) ∷ []) (((0 ∷ []) ∷ []) ∷ []); answered = (refl, tt); writes = refl; logs = refl; ends = refl }

group_is_cleared : Relays plain_words bytes_of_words 1000 64 5 (call (name (codes "g") ∷ []) (clear) ∷ []) (0 ∷ 0 ∷ 0 ∷ 0 ∷ 2 ∷ 0 ∷ 0 ∷ 0 ∷ 0 ∷ 0 ∷ 0 ∷ 0 ∷ 1 ∷ 0 ∷ 0 ∷ 0 ∷ 1 ∷ 0 ∷ 2 ∷ 0 ∷ 3 ∷ 0 ∷ 0 ∷ 0 ∷ []) (0 ∷ 0 ∷ 0 ∷ 0 ∷ 2 ∷ 0 ∷ 0 ∷ 0 ∷ 0 ∷ 0 ∷ 0 ∷ 0 ∷ 1 ∷ 0 ∷ 0 ∷ 0 ∷ 0 ∷ 0 ∷ 0 ∷ 0 ∷ 3 ∷ 0 ∷ 0 ∷ 0 ∷ []) (codes "message 1 written; done\n") finished
unfolding message_at unpacked_from packed answer value_within opened_root tree_at cost_at canonical_words trim has_capability edits replies edit step record_of record_by_shape shape_record read_child read step_field edit_field digits is_utf8 chars lib.Utf8.encode print cleared group_writes group_fault copied_record schema_of shape_in
group_is_cleared = record { messages = ((4294967296 ∷ 12885032961 ∷ []) ∷ []) ∷ []; rest = []; begins = ([], refl, refl); answers = answers_to 1000 64 5 (call (name (codes "g") ∷ []) (clear) ∷ []) (((4294967296 ∷ 12885032961 ∷ []) ∷ []) ∷ []); answered = (refl, tt); writes = refl; logs = refl; ends = refl }

group_is_set : Relays plain_words bytes_of_words 1000 64 5 (call (name (codes "g") ∷ []) (set_to (message (structure 1 524297 none))) ∷ []) (0 ∷ 0 ∷ 0 ∷ 0 ∷ 2 ∷ 0 ∷ 0 ∷ 0 ∷ 0 ∷ 0 ∷ 0 ∷ 0 ∷ 1 ∷ 0 ∷ 0 ∷ 0 ∷ 1 ∷ 0 ∷ 2 ∷ 0 ∷ 3 ∷ 0 ∷ 0 ∷ 0 ∷ []) (0 ∷ 0 ∷ 0 ∷ 0 ∷ 2 ∷ 0 ∷ 0 ∷ 0 ∷ 0 ∷ 0 ∷ 0 ∷ 0 ∷ 1 ∷ 0 ∷ 0 ∷ 0 ∷ 9 ∷ 0 ∷ 8 ∷ 0 ∷ 3 ∷ 0 ∷ 0 ∷ 0 ∷ []) (codes "message 1 written; done\n") finished
unfolding message_at unpacked_from packed answer value_within opened_root tree_at cost_at canonical_words trim has_capability edits replies edit step record_of record_by_shape shape_record read_child read step_field edit_field digits is_utf8 chars lib.Utf8.encode print cleared group_writes group_fault copied_record schema_of shape_in
group_is_set = record { messages = ((4294967296 ∷ 12885032961 ∷ []) ∷ []) ∷ []; rest = []; begins = ([], refl, refl); answers = answers_to 1000 64 5 (call (name (codes "g") ∷ []) (set_to (message (structure 1 524297 none))) ∷ []) (((4294967296 ∷ 12885032961 ∷ []) ∷ []) ∷ []); answered = (refl, tt); writes = refl; logs = refl; ends = refl }

new_list_is_trimmed : Relays plain_words bytes_of_words 1000 64 2 (call (name (codes "items") ∷ []) (initn 2) ∷ []) (0 ∷ 0 ∷ 0 ∷ 0 ∷ 1 ∷ 0 ∷ 0 ∷ 0 ∷ 0 ∷ 0 ∷ 0 ∷ 0 ∷ 0 ∷ 0 ∷ 0 ∷ 0 ∷ []) (0 ∷ 0 ∷ 0 ∷ 0 ∷ 3 ∷ 0 ∷ 0 ∷ 0 ∷ 0 ∷ 0 ∷ 0 ∷ 0 ∷ 0 ∷ 0 ∷ 1 ∷ 0 ∷ 1 ∷ 0 ∷ 0 ∷ 0 ∷ 7 ∷ 0 ∷ 0 ∷ 0 ∷ 8 ∷ 0 ∷ 0 ∷ 0 ∷ 0 ∷ 0 ∷ 0 ∷ 0 ∷ []) (codes "message 1 written; done\n") finished
unfolding message_at unpacked_from packed answer value_within opened_root tree_at cost_at canonical_words trim has_capability edits replies edit step record_of record_by_shape shape_record read_child read step_field edit_field digits is_utf8 chars lib.Utf8.encode print cleared group_writes group_fault copied_record schema_of shape_in
new_list_is_trimmed = record { messages = ((0 ∷ []) ∷ []) ∷ []; rest = []; begins = ([], refl, refl); answers = answers_to 1000 64 2 (call (name (codes "items") ∷ []) (initn 2) ∷ []) (((0 ∷ []) ∷ []) ∷ []); answered = (refl, tt); writes = refl; logs = refl; ends = refl }

element_of_new_list_is_set : Relays plain_words bytes_of_words 1000 64 2 (call (name (codes "items") ∷ []) (initn 2) ∷ call (name (codes "items") ∷ index 1 ∷ name (codes "a") ∷ []) (set_number 6) ∷ []) (0 ∷ 0 ∷ 0 ∷ 0 ∷ 1 ∷ 0 ∷ 0 ∷ 0 ∷ 0 ∷ 0 ∷ 0 ∷ 0 ∷ 0 ∷ 0 ∷ 0 ∷ 0 ∷ []) (0 ∷ 0 ∷ 0 ∷ 0 ∷ 5 ∷ 0 ∷ 0 ∷ 0 ∷ 0 ∷ 0 ∷ 0 ∷ 0 ∷ 0 ∷ 0 ∷ 1 ∷ 0 ∷ 1 ∷ 0 ∷ 0 ∷ 0 ∷ 23 ∷ 0 ∷ 0 ∷ 0 ∷ 8 ∷ 0 ∷ 0 ∷ 0 ∷ 1 ∷ 0 ∷ 0 ∷ 0 ∷ 0 ∷ 0 ∷ 0 ∷ 0 ∷ 0 ∷ 0 ∷ 0 ∷ 0 ∷ 6 ∷ 0 ∷ 0 ∷ 0 ∷ 0 ∷ 0 ∷ 0 ∷ 0 ∷ []) (codes "message 1 written; done; done\n") finished
unfolding message_at unpacked_from packed answer value_within opened_root tree_at cost_at canonical_words trim has_capability edits replies edit step record_of record_by_shape shape_record read_child read step_field edit_field digits is_utf8 chars lib.Utf8.encode print cleared group_writes group_fault copied_record schema_of shape_in
element_of_new_list_is_set = record { messages = ((0 ∷ []) ∷ []) ∷ []; rest = []; begins = ([], refl, refl); answers = answers_to 1000 64 2 (call (name (codes "items") ∷ []) (initn 2) ∷ call (name (codes "items") ∷ index 1 ∷ name (codes "a") ∷ []) (set_number 6) ∷ []) (((0 ∷ []) ∷ []) ∷ []); answered = (refl, tt); writes = refl; logs = refl; ends = refl }

field_of_null_child_is_set : Relays plain_words bytes_of_words 1000 64 7 (call (name (codes "child") ∷ name (codes "a") ∷ []) (get) ∷ call (name (codes "child") ∷ name (codes "a") ∷ []) (set_number 7) ∷ call (name (codes "child") ∷ name (codes "a") ∷ []) (get) ∷ []) (0 ∷ 0 ∷ 0 ∷ 0 ∷ 1 ∷ 0 ∷ 0 ∷ 0 ∷ 0 ∷ 0 ∷ 0 ∷ 0 ∷ 0 ∷ 0 ∷ 0 ∷ 0 ∷ []) (0 ∷ 0 ∷ 0 ∷ 0 ∷ 3 ∷ 0 ∷ 0 ∷ 0 ∷ 0 ∷ 0 ∷ 0 ∷ 0 ∷ 0 ∷ 0 ∷ 1 ∷ 0 ∷ 0 ∷ 0 ∷ 0 ∷ 0 ∷ 1 ∷ 0 ∷ 0 ∷ 0 ∷ 7 ∷ 0 ∷ 0 ∷ 0 ∷ 0 ∷ 0 ∷ 0 ∷ 0 ∷ []) (codes "message 1 written; 0; done; 7\n") finished
unfolding message_at unpacked_from packed answer value_within opened_root tree_at cost_at canonical_words trim has_capability edits replies edit step record_of record_by_shape shape_record read_child read step_field edit_field digits is_utf8 chars lib.Utf8.encode print cleared group_writes group_fault copied_record schema_of shape_in
field_of_null_child_is_set = record { messages = ((0 ∷ []) ∷ []) ∷ []; rest = []; begins = ([], refl, refl); answers = answers_to 1000 64 7 (call (name (codes "child") ∷ name (codes "a") ∷ []) (get) ∷ call (name (codes "child") ∷ name (codes "a") ∷ []) (set_number 7) ∷ call (name (codes "child") ∷ name (codes "a") ∷ []) (get) ∷ []) (((0 ∷ []) ∷ []) ∷ []); answered = (refl, tt); writes = refl; logs = refl; ends = refl }

marked_zero_byte_is_gone : Relays unpacked packed 1000 64 1 [] (48 ∷ 2 ∷ 0 ∷ 16 ∷ 1 ∷ 1 ∷ 7 ∷ []) (16 ∷ 2 ∷ 16 ∷ 1 ∷ 1 ∷ 7 ∷ []) (codes "message 1 written\n") finished
unfolding message_at unpacked_from packed answer value_within opened_root tree_at cost_at canonical_words trim has_capability edits replies edit step record_of record_by_shape shape_record read_child read step_field edit_field digits is_utf8 chars lib.Utf8.encode print cleared group_writes group_fault copied_record schema_of shape_in
marked_zero_byte_is_gone = record { messages = ((4294967296 ∷ 7 ∷ []) ∷ []) ∷ []; rest = []; begins = ([], refl, refl); answers = answers_to 1000 64 1 [] (((4294967296 ∷ 7 ∷ []) ∷ []) ∷ []); answered = (refl, tt); writes = refl; logs = refl; ends = refl }

framed_to_packed : Relays plain_words packed 1000 64 1 (call (name (codes "a") ∷ []) (set_number 7) ∷ []) (0 ∷ 0 ∷ 0 ∷ 0 ∷ 1 ∷ 0 ∷ 0 ∷ 0 ∷ 0 ∷ 0 ∷ 0 ∷ 0 ∷ 0 ∷ 0 ∷ 0 ∷ 0 ∷ []) (16 ∷ 2 ∷ 16 ∷ 1 ∷ 1 ∷ 7 ∷ []) (codes "message 1 written; done\n") finished
unfolding message_at unpacked_from packed answer value_within opened_root tree_at cost_at canonical_words trim has_capability edits replies edit step record_of record_by_shape shape_record read_child read step_field edit_field digits is_utf8 chars lib.Utf8.encode print cleared group_writes group_fault copied_record schema_of shape_in
framed_to_packed = record { messages = ((0 ∷ []) ∷ []) ∷ []; rest = []; begins = ([], refl, refl); answers = answers_to 1000 64 1 (call (name (codes "a") ∷ []) (set_number 7) ∷ []) (((0 ∷ []) ∷ []) ∷ []); answered = (refl, tt); writes = refl; logs = refl; ends = refl }

packed_to_framed : Relays unpacked bytes_of_words 1000 64 1 (call (name (codes "a") ∷ []) (set_number 7) ∷ []) (16 ∷ 1 ∷ 0 ∷ 0 ∷ []) (0 ∷ 0 ∷ 0 ∷ 0 ∷ 2 ∷ 0 ∷ 0 ∷ 0 ∷ 0 ∷ 0 ∷ 0 ∷ 0 ∷ 1 ∷ 0 ∷ 0 ∷ 0 ∷ 7 ∷ 0 ∷ 0 ∷ 0 ∷ 0 ∷ 0 ∷ 0 ∷ 0 ∷ []) (codes "message 1 written; done\n") finished
unfolding message_at unpacked_from packed answer value_within opened_root tree_at cost_at canonical_words trim has_capability edits replies edit step record_of record_by_shape shape_record read_child read step_field edit_field digits is_utf8 chars lib.Utf8.encode print cleared group_writes group_fault copied_record schema_of shape_in
packed_to_framed = record { messages = ((0 ∷ []) ∷ []) ∷ []; rest = []; begins = ([], refl, refl); answers = answers_to 1000 64 1 (call (name (codes "a") ∷ []) (set_number 7) ∷ []) (((0 ∷ []) ∷ []) ∷ []); answered = (refl, tt); writes = refl; logs = refl; ends = refl }

cycle_is_refused : Relays plain_words bytes_of_words 1000 64 1 [] (0 ∷ 0 ∷ 0 ∷ 0 ∷ 2 ∷ 0 ∷ 0 ∷ 0 ∷ 0 ∷ 0 ∷ 0 ∷ 0 ∷ 0 ∷ 0 ∷ 1 ∷ 0 ∷ 252 ∷ 255 ∷ 255 ∷ 255 ∷ 0 ∷ 0 ∷ 1 ∷ 0 ∷ 0 ∷ 0 ∷ 0 ∷ 0 ∷ 1 ∷ 0 ∷ 0 ∷ 0 ∷ 0 ∷ 0 ∷ 0 ∷ 0 ∷ 0 ∷ 0 ∷ 0 ∷ 0 ∷ []) (0 ∷ 0 ∷ 0 ∷ 0 ∷ 1 ∷ 0 ∷ 0 ∷ 0 ∷ 252 ∷ 255 ∷ 255 ∷ 255 ∷ 0 ∷ 0 ∷ 0 ∷ 0 ∷ []) (codes "message 1 refused: value\nmessage 2 written\n") finished
unfolding message_at unpacked_from packed answer value_within opened_root tree_at cost_at canonical_words trim has_capability edits replies edit step record_of record_by_shape shape_record read_child read step_field edit_field digits is_utf8 chars lib.Utf8.encode print cleared group_writes group_fault copied_record schema_of shape_in
cycle_is_refused = record { messages = ((281474976710656 ∷ 281479271677948 ∷ []) ∷ []) ∷ ((0 ∷ []) ∷ []) ∷ []; rest = []; begins = (0 ∷ 0 ∷ 0 ∷ 0 ∷ 1 ∷ 0 ∷ 0 ∷ 0 ∷ 0 ∷ 0 ∷ 0 ∷ 0 ∷ 0 ∷ 0 ∷ 0 ∷ 0 ∷ [], refl, ([], refl, refl)); answers = answers_to 1000 64 1 [] (((281474976710656 ∷ 281479271677948 ∷ []) ∷ []) ∷ ((0 ∷ []) ∷ []) ∷ []); answered = (refl, (refl, tt)); writes = refl; logs = refl; ends = refl }

cycle_is_refused_at_many_levels : Relays plain_words bytes_of_words 1000 2000 1 [] (0 ∷ 0 ∷ 0 ∷ 0 ∷ 2 ∷ 0 ∷ 0 ∷ 0 ∷ 0 ∷ 0 ∷ 0 ∷ 0 ∷ 0 ∷ 0 ∷ 1 ∷ 0 ∷ 252 ∷ 255 ∷ 255 ∷ 255 ∷ 0 ∷ 0 ∷ 1 ∷ 0 ∷ []) ([]) (codes "message 1 refused: value\n") finished
unfolding message_at unpacked_from packed answer value_within opened_root tree_at cost_at canonical_words trim has_capability edits replies edit step record_of record_by_shape shape_record read_child read step_field edit_field digits is_utf8 chars lib.Utf8.encode print cleared group_writes group_fault copied_record schema_of shape_in
cycle_is_refused_at_many_levels = record { messages = ((281474976710656 ∷ 281479271677948 ∷ []) ∷ []) ∷ []; rest = []; begins = ([], refl, refl); answers = answers_to 1000 2000 1 [] (((281474976710656 ∷ 281479271677948 ∷ []) ∷ []) ∷ []); answered = (refl, tt); writes = refl; logs = refl; ends = refl }

shared_target_is_copied_twice : Relays plain_words bytes_of_words 4 64 1 [] (0 ∷ 0 ∷ 0 ∷ 0 ∷ 4 ∷ 0 ∷ 0 ∷ 0 ∷ 0 ∷ 0 ∷ 0 ∷ 0 ∷ 0 ∷ 0 ∷ 2 ∷ 0 ∷ 4 ∷ 0 ∷ 0 ∷ 0 ∷ 1 ∷ 0 ∷ 0 ∷ 0 ∷ 0 ∷ 0 ∷ 0 ∷ 0 ∷ 1 ∷ 0 ∷ 0 ∷ 0 ∷ 7 ∷ 0 ∷ 0 ∷ 0 ∷ 0 ∷ 0 ∷ 0 ∷ 0 ∷ []) (0 ∷ 0 ∷ 0 ∷ 0 ∷ 5 ∷ 0 ∷ 0 ∷ 0 ∷ 0 ∷ 0 ∷ 0 ∷ 0 ∷ 0 ∷ 0 ∷ 2 ∷ 0 ∷ 4 ∷ 0 ∷ 0 ∷ 0 ∷ 1 ∷ 0 ∷ 0 ∷ 0 ∷ 4 ∷ 0 ∷ 0 ∷ 0 ∷ 1 ∷ 0 ∷ 0 ∷ 0 ∷ 7 ∷ 0 ∷ 0 ∷ 0 ∷ 0 ∷ 0 ∷ 0 ∷ 0 ∷ 7 ∷ 0 ∷ 0 ∷ 0 ∷ 0 ∷ 0 ∷ 0 ∷ 0 ∷ []) (codes "message 1 written\n") finished
unfolding message_at unpacked_from packed answer value_within opened_root tree_at cost_at canonical_words trim has_capability edits replies edit step record_of record_by_shape shape_record read_child read step_field edit_field digits is_utf8 chars lib.Utf8.encode print cleared group_writes group_fault copied_record schema_of shape_in
shared_target_is_copied_twice = record { messages = ((562949953421312 ∷ 4294967300 ∷ 4294967296 ∷ 7 ∷ []) ∷ []) ∷ []; rest = []; begins = ([], refl, refl); answers = answers_to 4 64 1 [] (((562949953421312 ∷ 4294967300 ∷ 4294967296 ∷ 7 ∷ []) ∷ []) ∷ []); answered = (refl, tt); writes = refl; logs = refl; ends = refl }

many_empty_structs_are_kept : Relays plain_words bytes_of_words 1000 64 1 [] (0 ∷ 0 ∷ 0 ∷ 0 ∷ 3 ∷ 0 ∷ 0 ∷ 0 ∷ 0 ∷ 0 ∷ 0 ∷ 0 ∷ 0 ∷ 0 ∷ 1 ∷ 0 ∷ 1 ∷ 0 ∷ 0 ∷ 0 ∷ 7 ∷ 0 ∷ 0 ∷ 0 ∷ 152 ∷ 15 ∷ 0 ∷ 0 ∷ 0 ∷ 0 ∷ 0 ∷ 0 ∷ []) (0 ∷ 0 ∷ 0 ∷ 0 ∷ 3 ∷ 0 ∷ 0 ∷ 0 ∷ 0 ∷ 0 ∷ 0 ∷ 0 ∷ 0 ∷ 0 ∷ 1 ∷ 0 ∷ 1 ∷ 0 ∷ 0 ∷ 0 ∷ 7 ∷ 0 ∷ 0 ∷ 0 ∷ 152 ∷ 15 ∷ 0 ∷ 0 ∷ 0 ∷ 0 ∷ 0 ∷ 0 ∷ []) (codes "message 1 written\n") finished
unfolding message_at unpacked_from packed answer value_within opened_root tree_at cost_at canonical_words trim has_capability edits replies edit step record_of record_by_shape shape_record read_child read step_field edit_field digits is_utf8 chars lib.Utf8.encode print cleared group_writes group_fault copied_record schema_of shape_in
many_empty_structs_are_kept = record { messages = ((281474976710656 ∷ 30064771073 ∷ 3992 ∷ []) ∷ []) ∷ []; rest = []; begins = ([], refl, refl); answers = answers_to 1000 64 1 [] (((281474976710656 ∷ 30064771073 ∷ 3992 ∷ []) ∷ []) ∷ []); answered = (refl, tt); writes = refl; logs = refl; ends = refl }

one_empty_struct_too_many_is_refused : Relays plain_words bytes_of_words 1000 64 1 [] (0 ∷ 0 ∷ 0 ∷ 0 ∷ 3 ∷ 0 ∷ 0 ∷ 0 ∷ 0 ∷ 0 ∷ 0 ∷ 0 ∷ 0 ∷ 0 ∷ 1 ∷ 0 ∷ 1 ∷ 0 ∷ 0 ∷ 0 ∷ 7 ∷ 0 ∷ 0 ∷ 0 ∷ 156 ∷ 15 ∷ 0 ∷ 0 ∷ 0 ∷ 0 ∷ 0 ∷ 0 ∷ []) ([]) (codes "message 1 refused: value\n") finished
unfolding message_at unpacked_from packed answer value_within opened_root tree_at cost_at canonical_words trim has_capability edits replies edit step record_of record_by_shape shape_record read_child read step_field edit_field digits is_utf8 chars lib.Utf8.encode print cleared group_writes group_fault copied_record schema_of shape_in
one_empty_struct_too_many_is_refused = record { messages = ((281474976710656 ∷ 30064771073 ∷ 3996 ∷ []) ∷ []) ∷ []; rest = []; begins = ([], refl, refl); answers = answers_to 1000 64 1 [] (((281474976710656 ∷ 30064771073 ∷ 3996 ∷ []) ∷ []) ∷ []); answered = (refl, tt); writes = refl; logs = refl; ends = refl }

bad_tag_is_refused : Relays plain_words bytes_of_words 1000 64 1 [] (0 ∷ 0 ∷ 0 ∷ 0 ∷ 3 ∷ 0 ∷ 0 ∷ 0 ∷ 0 ∷ 0 ∷ 0 ∷ 0 ∷ 0 ∷ 0 ∷ 1 ∷ 0 ∷ 1 ∷ 0 ∷ 0 ∷ 0 ∷ 7 ∷ 0 ∷ 0 ∷ 0 ∷ 9 ∷ 0 ∷ 0 ∷ 0 ∷ 0 ∷ 0 ∷ 0 ∷ 0 ∷ []) ([]) (codes "message 1 refused: value\n") finished
unfolding message_at unpacked_from packed answer value_within opened_root tree_at cost_at canonical_words trim has_capability edits replies edit step record_of record_by_shape shape_record read_child read step_field edit_field digits is_utf8 chars lib.Utf8.encode print cleared group_writes group_fault copied_record schema_of shape_in
bad_tag_is_refused = record { messages = ((281474976710656 ∷ 30064771073 ∷ 9 ∷ []) ∷ []) ∷ []; rest = []; begins = ([], refl, refl); answers = answers_to 1000 64 1 [] (((281474976710656 ∷ 30064771073 ∷ 9 ∷ []) ∷ []) ∷ []); answered = (refl, tt); writes = refl; logs = refl; ends = refl }

newer_schema_shows_the_kept_word : record_text newer_examples (λ x. x) on_one_line 1 (record_of newer_examples 1 (trim (structure 2 1826227663297245609991 none))) ≡ Some (codes "(a = 7, b = 99)")
unfolding message_at unpacked_from packed answer value_within opened_root tree_at cost_at canonical_words trim has_capability edits replies edit step record_of record_by_shape shape_record read_child read step_field edit_field digits is_utf8 chars lib.Utf8.encode print cleared group_writes group_fault copied_record schema_of shape_in record_text
newer_schema_shows_the_kept_word = refl

text_is_shown : record_text examples (λ x. x) on_one_line 1 (record_of examples 1 (trim (structure 0 0 ((plain_list 2 3 26984) ▸ none)))) ≡ Some (codes "(a = 0, t = \"hi\")")
unfolding message_at unpacked_from packed answer value_within opened_root tree_at cost_at canonical_words trim has_capability edits replies edit step record_of record_by_shape shape_record read_child read step_field edit_field digits is_utf8 chars lib.Utf8.encode print cleared group_writes group_fault copied_record schema_of shape_in record_text
text_is_shown = refl

new_member_is_shown : record_text newer_examples (λ x. x) on_one_line 3 (record_of newer_examples 3 (trim (structure 1 131079 none))) ≡ Some (codes "(w = 7)")
unfolding message_at unpacked_from packed answer value_within opened_root tree_at cost_at canonical_words trim has_capability edits replies edit step record_of record_by_shape shape_record read_child read step_field edit_field digits is_utf8 chars lib.Utf8.encode print cleared group_writes group_fault copied_record schema_of shape_in record_text
new_member_is_shown = refl

struct_list_is_shown : record_text examples (λ x. x) on_one_line 2 (record_of examples 2 (trim (structure 0 0 ((struct_list 1 1 (element 5 (null ▸ none) (element 6 (null ▸ none) no_elements))) ▸ none)))) ≡ Some (codes "(items = [(a = 5), (a = 6)])")
unfolding message_at unpacked_from packed answer value_within opened_root tree_at cost_at canonical_words trim has_capability edits replies edit step record_of record_by_shape shape_record read_child read step_field edit_field digits is_utf8 chars lib.Utf8.encode print cleared group_writes group_fault copied_record schema_of shape_in record_text
struct_list_is_shown = refl

struct_list_is_shown_on_lines : record_text examples (λ x. x) (indented 0) 2 (record_of examples 2 (trim (structure 0 0 ((struct_list 1 1 (element 5 (null ▸ none) (element 6 (null ▸ none) no_elements))) ▸ none)))) ≡ Some (codes "(\n  items = [\n    (\n      a = 5\n    ),\n    (\n      a = 6\n    )\n  ]\n)")
unfolding message_at unpacked_from packed answer value_within opened_root tree_at cost_at canonical_words trim has_capability edits replies edit step record_of record_by_shape shape_record read_child read step_field edit_field digits is_utf8 chars lib.Utf8.encode print cleared group_writes group_fault copied_record schema_of shape_in record_text
struct_list_is_shown_on_lines = refl

cleared_group_is_shown : record_text examples (λ x. x) on_one_line 5 (record_of examples 5 (trim (structure 1 12884901888 none))) ≡ Some (codes "(g = (x = 0, y = 0), z = 3)")
unfolding message_at unpacked_from packed answer value_within opened_root tree_at cost_at canonical_words trim has_capability edits replies edit step record_of record_by_shape shape_record read_child read step_field edit_field digits is_utf8 chars lib.Utf8.encode print cleared group_writes group_fault copied_record schema_of shape_in record_text
cleared_group_is_shown = refl

invalid_text_is_shown : record_text examples (λ x. x) on_one_line 1 (record_of examples 1 (trim (structure 0 0 ((plain_list 2 3 65384) ▸ none)))) ≡ Some (codes "(a = 0, t = <invalid utf-8: [104, 255]>)")
unfolding message_at unpacked_from packed answer value_within opened_root tree_at cost_at canonical_words trim has_capability edits replies edit step record_of record_by_shape shape_record read_child read step_field edit_field digits is_utf8 chars lib.Utf8.encode print cleared group_writes group_fault copied_record schema_of shape_in record_text
invalid_text_is_shown = refl
