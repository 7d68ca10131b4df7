-- What is written of a list that is too long is read as another value: two relays in a row differ from one.
use Rattle.std.proofs.Common.{sym, subst, arith, ◌≡◌, ℕ, ◌+◌, ◌-◌, ◌*◌, ◌^◌, false, None, List, [], ◌∷◌, refl, codes}
use Rattle.std.specs.Prelude.{pos}
use Rattle.capnp_model.specs.Segments.{Segments}
use Rattle.capnp_model.specs.Traversal.{tree_at, cost_at}
use Rattle.capnp_model.specs.Trees.{null, has_capability}
use Rattle.capnp_model.specs.Trimming.{trim}
use Rattle.capnp_model.specs.Encoding.{canonical_words}
use Rattle.capnp_model.specs.Schemas.{BaseType, slot, struct_node, Node}
use Rattle.capnp_model.specs.Readings.{record_of, record_by_shape, shape_record, read, read_child}
use Rattle.capnp_model.specs.Calls.{name, initn, Call}
use Rattle.capnp_model.specs.Steps.{step, step_field}
use Rattle.capnp_model.specs.Edits.{edit, edit_field}
use Rattle.capnp_model.specs.Accepted.{schema_of, shape_in, has_no_overlap, areas_of, IsAccepted}
use Rattle.capnp_model.specs.InKind.{in_kind}
use Rattle.capnp_model.specs.InKindCalls.{defaults_in_kind, named_structs, end_of}
use Rattle.capnp_model.specs.CallRuns.{IsStart}
use Rattle.capnp_model.proofs.lemmas.Chaining.{some_is}
use Rattle.capnp_model_versions.specs.Fitting.{AreSpelled}
use Rattle.capnp_model_versions.specs.OwnOutput.{HaveFewWords}
use Rattle.capnp_model_versions.specs.TwoRelays.{TwoRelays, first, second, joined_relay, RelayWrites, CanRelay}
use Rattle.capnp_model.specs.Answers.{reply_done, written, Limits, edits, replies, value_within, opened_root, answer}

-- a struct with a list of voids
abbrev pub voids : List Node
voids = record {
  id = 1;
  name = codes "N";
  annotations = [];
  kind = struct_node (record {
    words = 0;
    pointers = 1;
    is_group = false;
    discriminant_count = 0;
    discriminant_offset = 0;
    fields = record { name = codes "v"; member = None; annotations = []; kind = slot 0 (record { list_count = 1; base = BaseType.Void }) None } ∷ [];
  });
} ∷ []

abbrev pub so_many : ℕ → List Call
so_many n = record { path = name (codes "v") ∷ []; verb = initn n } ∷ []

abbrev unlimited : Limits
unlimited = record { words = None; nesting = pos 64 }

pub voids_are_accepted : IsAccepted voids
unfolding shape_in has_no_overlap areas_of
voids_are_accepted = refl

-- one relay writes a pointer of 65 bits
too_many_are_written : answer (schema_of voids) (λ x. x) 1 (so_many (2 ^ 29)) unlimited ((0 ∷ []) ∷ []) ≡ written (((2 ^ 48) ∷ (1 + 2 ^ 64) ∷ []) ∷ []) (reply_done ∷ [])
unfolding answer value_within opened_root tree_at cost_at canonical_words trim has_capability edits replies edit step record_of record_by_shape shape_record read_child read step_field edit_field schema_of shape_in
too_many_are_written = refl

-- the next reads a list of no voids there
none_are_read : answer (schema_of voids) (λ x. x) 1 [] unlimited (((2 ^ 48) ∷ (1 + 2 ^ 64) ∷ []) ∷ []) ≡ written (((2 ^ 48) ∷ 1 ∷ []) ∷ []) []
unfolding answer value_within opened_root tree_at cost_at canonical_words trim has_capability edits replies edit step record_of record_by_shape shape_record read_child read step_field edit_field schema_of shape_in
none_are_read = refl

-- one fewer is read as it was written
most_are_read : answer (schema_of voids) (λ x. x) 1 [] unlimited (((2 ^ 48) ∷ (1 + 2 ^ 35 * (2 ^ 29 - 1)) ∷ []) ∷ []) ≡ written (((2 ^ 48) ∷ (1 + 2 ^ 35 * (2 ^ 29 - 1)) ∷ []) ∷ []) []
unfolding answer value_within opened_root tree_at cost_at canonical_words trim has_capability edits replies edit step record_of record_by_shape shape_record read_child read step_field edit_field schema_of shape_in
most_are_read = refl

-- so two relays in a row can write other words than one, if nothing is said of sizes
abbrev pair : TwoRelays
pair = record { nodes = voids; root = 1; quoted = λ x. x; calls = so_many (2 ^ 29); later_calls = []; limits = unlimited; later_limits = unlimited }

starts_at_null : IsStart voids 1 (so_many (2 ^ 29)) null
unfolding in_kind schema_of shape_in has_no_overlap areas_of defaults_in_kind named_structs end_of
starts_at_null = record {
  accepted = voids_are_accepted;
  root = refl;
  given = (tt, tt);
  opens = tt;
  kinds = record { of_tree = refl; reached = 1 ∷ []; has_root = refl; are_closed = refl; of_defaults = refl; of_values = (refl, tt) };
}

can_relay : CanRelay pair ((0 ∷ []) ∷ [])
unfolding value_within tree_at cost_at has_capability
can_relay = record {
  plain = (record { whole = tt; sets_none = refl }, tt);
  later_plain = tt;
  start = λ t h. subst (IsStart voids 1 (so_many (2 ^ 29))) (some_is null t h) starts_at_null;
}

sizes_are_needed : ((r : TwoRelays) (message one two both : Segments) → CanRelay r message → AreSpelled r.nodes r.calls → HaveFewWords one → RelayWrites (first r) message one → RelayWrites (second r) one two → RelayWrites (joined_relay r) message both → two ≡ both) → ⊥
sizes_are_needed law =
    let spelled : AreSpelled voids (so_many (2 ^ 29)) = record { accepted = voids_are_accepted; small = ((omega arith, omega arith), tt); verbs = (tt, tt) } in
    let same : ((2 ^ 48) ∷ 1 ∷ []) ∷ [] ≡ ((2 ^ 48) ∷ (1 + 2 ^ 64) ∷ []) ∷ [] =
    law pair ((0 ∷ []) ∷ []) (((2 ^ 48) ∷ (1 + 2 ^ 64) ∷ []) ∷ []) (((2 ^ 48) ∷ 1 ∷ []) ∷ []) (((2 ^ 48) ∷ (1 + 2 ^ 64) ∷ []) ∷ []) can_relay spelled (omega arith, tt)
    (reply_done ∷ [], sym too_many_are_written) ([], sym none_are_read) (reply_done ∷ [], sym too_many_are_written) in
    absurd (cc same)
