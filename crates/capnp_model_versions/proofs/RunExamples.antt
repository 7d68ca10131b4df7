-- Worked runs of relays.
use Rattle.std.proofs.Common.{◌≡◌, ℕ, ◌+◌, ◌*◌, ◌-◌, ◌^◌, inr, Some, List, [], ◌∷◌, ◌++◌, length, refl, codes, subst, arith}
use Rattle.std.specs.Prelude.{pos}
use Rattle.std.specs.List.{flat_map}
use Rattle.std.specs.Fmt.{digits}
use Rattle.capnp_model.specs.Segments.{Segments}
use Rattle.capnp_model.specs.Traversal.{tree_at, cost_at}
use Rattle.capnp_model.specs.Trees.{null, has_capability}
use Rattle.capnp_model.specs.Trimming.{trim}
use Rattle.capnp_model.specs.Encoding.{canonical_words}
use Rattle.capnp_model.specs.Messages.{plain_words, message_at, frame, packed_message}
use Rattle.capnp_model.specs.Bytes.{bytes_of_words}
use Rattle.capnp_model.specs.Packing.{packed, unpacked, unpacked_from}
use Rattle.capnp_model.specs.Readings.{record_of, record_by_shape, shape_record, read, read_child}
use Rattle.capnp_model.specs.Calls.{name, clear, Call}
use Rattle.capnp_model.specs.Steps.{step, step_field}
use Rattle.capnp_model.specs.Edits.{edit, edit_field}
use Rattle.capnp_model.specs.Accepted.{schema_of, shape_in, has_no_overlap, areas_of}
use Rattle.capnp_model.specs.InKind.{in_kind}
use Rattle.capnp_model.specs.InKindCalls.{defaults_in_kind, named_structs, end_of}
use Rattle.capnp_model.specs.CallRuns.{IsStart}
use Rattle.capnp_model.specs.Answers.{Reply, reply_done, refused_value, refused_root, refused_depth, written, Limits, edits, replies, value_within, opened_root, answer}
use Rattle.capnp_model.specs.Runs.{finished}
use Rattle.capnp_model.specs.SameRuns.{Work}
use Rattle.capnp_model.proofs.lemmas.Chaining.{some_is}
use Rattle.capnp_model_versions.specs.OwnOutput.{SizesSuffice, HaveFewWords, HoldsOfWritten, SufficeEach}
use Rattle.capnp_model_versions.specs.TwoRelays.{TwoRelays, CanRelay, HasShortCalls}
use Rattle.capnp_model_versions.specs.RunsInARow.{RunsInARow, WriteOnBothRoads}
use Rattle.capnp_model_versions.proofs.SizeExamples.{voids, so_many, voids_are_accepted}

-- ---- without calls a framed message has two words more than the limit at most

abbrev at_most : ℕ → Limits
at_most words = record { words = Some words; nesting = pos 64 }

-- a struct of one word, and a null
abbrev one_word : Segments
one_word = ((2 ^ 32) ∷ 7 ∷ []) ∷ []

abbrev null_root : Segments
null_root = (0 ∷ []) ∷ []

abbrev empty_struct : Segments
empty_struct = ((2 ^ 32 - 4) ∷ []) ∷ []

one_word_is_written : answer (schema_of voids) (λ x. x) 1 [] (at_most 1) one_word ≡ written one_word []
unfolding answer value_within opened_root tree_at cost_at canonical_words trim has_capability edits replies schema_of shape_in
one_word_is_written = refl

and_meets_the_bound : length (frame one_word) ≡ 8 * (1 + 2)
and_meets_the_bound = refl

null_is_written_as_the_empty_struct : answer (schema_of voids) (λ x. x) 1 [] (at_most 0) null_root ≡ written empty_struct []
unfolding answer value_within opened_root tree_at cost_at canonical_words trim has_capability edits replies schema_of shape_in
null_is_written_as_the_empty_struct = refl

which_meets_it_too : length (frame empty_struct) ≡ 8 * (0 + 2)
which_meets_it_too = refl

-- ---- two relays in a row

-- a list of n voids, behind a struct of one pointer
abbrev so_long : ℕ → Segments
so_long n = ((2 ^ 48) ∷ (1 + 2 ^ 35 * n) ∷ []) ∷ []

abbrev a_capability : Segments
a_capability = (3 ∷ []) ∷ []

abbrev row : TwoRelays
row = record { nodes = voids; root = 1; quoted = λ x. x; calls = so_many 2; later_calls = so_many 3; limits = at_most 100; later_limits = at_most 200 }

-- of two messages the first is refused for its value. Framed messages come in, packed ones go from one to the other, and framed ones go out
runs_of_the_row : RunsInARow row (flat_map frame (a_capability ∷ null_root ∷ [])) (packed_message (so_long 2)) (frame (so_long 3)) (frame (so_long 3))
unfolding message_at unpacked_from packed answer value_within opened_root tree_at cost_at canonical_words trim has_capability edits replies edit step record_of record_by_shape shape_record read_child read step_field edit_field digits schema_of shape_in
runs_of_the_row = record {
  read = plain_words;
  write = packed;
  read_again = unpacked;
  write_again = bytes_of_words;
  is_form = inr (refl, refl);
  log = codes "message 1 refused: value\nmessage 2 written; done\n";
  second_log = codes "message 1 written; done\n";
  joined_log = codes "message 1 refused: value\nmessage 2 written; done; done\n";
  end = finished;
  second_end = finished;
  joined_end = finished;
  first_run = record {
    messages = a_capability ∷ null_root ∷ [];
    answers = refused_value ∷ written (so_long 2) (reply_done ∷ []) ∷ [];
    rest = [];
    begins = (frame null_root, refl, ([], refl, refl));
    answered = (refl, (refl, tt));
    writes = refl;
    logs = refl;
    ends = refl;
  };
  second_run = record {
    messages = so_long 2 ∷ [];
    answers = written (so_long 3) (reply_done ∷ []) ∷ [];
    rest = [];
    begins = ([], refl, refl);
    answered = (refl, tt);
    writes = refl;
    logs = refl;
    ends = refl;
  };
  joined_run = record {
    messages = a_capability ∷ null_root ∷ [];
    answers = refused_value ∷ written (so_long 3) (reply_done ∷ reply_done ∷ []) ∷ [];
    rest = [];
    begins = (frame null_root, refl, ([], refl, refl));
    answered = (refl, (refl, tt));
    writes = refl;
    logs = refl;
    ends = refl;
  };
}

-- nothing is asked of the message that is refused
and_both_roads_are_taken : WriteOnBothRoads runs_of_the_row.first_run.answers runs_of_the_row.second_run.answers runs_of_the_row.joined_run.answers
unfolding runs_of_the_row
and_both_roads_are_taken = (tt, tt)

-- and the sizes and the calls are as the law asks
row_starts : IsStart voids 1 (so_many 2 ++ so_many 3) null
unfolding in_kind schema_of shape_in has_no_overlap areas_of defaults_in_kind named_structs end_of
row_starts = record {
  accepted = voids_are_accepted;
  root = refl;
  given = (tt, (tt, tt));
  opens = tt;
  kinds = record { of_tree = refl; reached = 1 ∷ []; has_root = refl; are_closed = refl; of_defaults = refl; of_values = (refl, (refl, tt)) };
}

row_can_relay : CanRelay row null_root
unfolding value_within tree_at cost_at has_capability
row_can_relay = record {
  plain = (record { whole = tt; sets_none = refl }, tt);
  later_plain = (record { whole = tt; sets_none = refl }, tt);
  start = λ t h. subst (IsStart voids 1 (so_many 2 ++ so_many 3)) (some_is null t h) row_starts;
}

row_is_short : HasShortCalls row
row_is_short = record {
  spelled = record { accepted = voids_are_accepted; small = ((omega arith, omega arith), tt); verbs = (tt, tt) };
  short = (omega arith, tt);
}

and_it_is_asked_of_what_is_written : HoldsOfWritten (λ s one. CanRelay row s × HaveFewWords one) runs_of_the_row.first_run.messages runs_of_the_row.first_run.answers
unfolding runs_of_the_row
and_it_is_asked_of_what_is_written = ((row_can_relay, (omega arith, tt)), tt)

-- what is too deep between the two relays may not be so behind them: then the roads differ
abbrev one_level : Limits
one_level = record { words = Some 100; nesting = pos 1 }

abbrev clears : List Call
clears = record { path = name (codes "v") ∷ []; verb = clear } ∷ []

first_is_too_deep : answer (schema_of voids) (λ x. x) 1 (so_many 1) one_level null_root ≡ refused_depth
unfolding answer value_within opened_root tree_at cost_at canonical_words trim has_capability edits replies edit step record_of record_by_shape shape_record read_child read step_field edit_field schema_of shape_in
first_is_too_deep = refl

joined_is_written : answer (schema_of voids) (λ x. x) 1 (so_many 1 ++ clears) one_level null_root ≡ written empty_struct (reply_done ∷ reply_done ∷ [])
unfolding answer value_within opened_root tree_at cost_at canonical_words trim has_capability edits replies edit step record_of record_by_shape shape_record read_child read step_field edit_field schema_of shape_in
joined_is_written = refl

so_roads_differ : WriteOnBothRoads (refused_depth ∷ []) [] (written empty_struct (reply_done ∷ reply_done ∷ []) ∷ []) → ⊥
so_roads_differ h = h.0

-- each written message has an answer of the second relay and one of the joined one, and these are alike
none_is_left_out : (s t : Segments) (x y : List Reply) → WriteOnBothRoads (written s x ∷ []) [] (written t y ∷ []) → ⊥
none_is_left_out s t x y h = h

none_is_refused_on_one_road : (s t : Segments) (x y : List Reply) → WriteOnBothRoads (written s x ∷ []) (refused_value ∷ []) (written t y ∷ []) → ⊥
none_is_refused_on_one_road s t x y h = h.0

some_are_refused_on_both : (s : Segments) (x : List Reply) → WriteOnBothRoads (written s x ∷ []) (refused_value ∷ []) (refused_depth ∷ [])
some_are_refused_on_both s x = (tt, tt)

-- sizes are asked for of what is written alone
nothing_is_asked_of_refusals : (w : Work) (s t u : Segments) → SufficeEach w (s ∷ t ∷ u ∷ []) (refused_value ∷ refused_root ∷ refused_depth ∷ [])
nothing_is_asked_of_refusals w s t u = tt

it_is_asked_of_the_written : (w : Work) (s t u : Segments) (rs : List Reply) → SufficeEach w (s ∷ t ∷ []) (refused_value ∷ written u rs ∷ []) → SizesSuffice w t
it_is_asked_of_the_written w s t u rs h = h.0
