-- What is written reads as the record that the calls make.
use Rattle.std.proofs.Common.{◌≡◌, ℕ, pos, Option, Some, List, [], true, false, ap, sym, ◌∙◌}
use Rattle.capnp_model.specs.Segments.{Segments}
use Rattle.capnp_model.specs.Trees.{Tree, null, capability, structure, plain_list, pointer_list, struct_list}
use Rattle.capnp_model.specs.Trimming.{trim}
use Rattle.capnp_model.specs.InKind.{in_kind}
use Rattle.capnp_model.specs.Schemas.{struct, Node, Schema}
use Rattle.capnp_model.specs.Readings.{record_of}
use Rattle.capnp_model.specs.Calls.{Call}
use Rattle.capnp_model.specs.Accepted.{schema_of, IsAccepted}
use Rattle.capnp_model.specs.NamedPaths.{IsOpen}
use Rattle.capnp_model.specs.CallRuns.{AreGiven, IsStart, records_after}
use Rattle.capnp_model.specs.Answers.{Answer, refused_value, refused_root, refused_depth, written, Reply, edits, opened_root, value_within, answer_value, answer, IsAnswer}
use Rattle.capnp_values_queries.specs.Structs.{nodes_around, schema_around, id_of}
use Rattle.capnp_values_queries.specs.declared.structs.StructSchema.{StructSchema}
use Rattle.capnp_model.specs.Printing.{as_it_is}
use Rattle.capnp_relay_answers.specs.Answers.{MeansAfter}
use Rattle.capnp_relay_answers.specs.Plain.{IsPlainAnswer, with_segments}
use Rattle.capnp_relay_answers.specs.Bounds.{limits_view}
use Rattle.capnp_relay_answers.specs.declared.bounds.Bounds.{Bounds}
use Rattle.capnp_relay_streams.specs.Messages.{ReadsAsMade}

-- what the model's law says
abbrev pub WrittenRecords : Type 0
WrittenRecords =
    (nodes : List Node) (id : ℕ) (calls : List Call) (t : Tree) → IsStart nodes id calls t
    → record_of (schema_of nodes) id (trim (edits (schema_of nodes) id calls (opened_root (schema_of nodes) id t))) ≡ records_after (schema_of nodes) id calls (record_of (schema_of nodes) id t)

module _ (root : StructSchema) (calls : List Call) (bounds : Bounds) where
  abbrev answer_to : Option Tree → Answer
  answer_to value = answer_value (schema_around root) as_it_is (id_of root) calls (pos bounds.nesting) value

  -- a value that is answered by a message is a struct or null
  opens_of : (t : Tree) (segments : Segments) (replies : List Reply) → written segments replies ≡ answer_to (Some t) → IsOpen t
  opens_of null segments replies e = tt
  opens_of (structure w n ts) segments replies e = tt
  opens_of (capability i) segments replies e = absurd (cc e)
  opens_of (plain_list z n k) segments replies e = absurd (cc e)
  opens_of (pointer_list ts) segments replies e = absurd (cc e)
  opens_of (struct_list w p es) segments replies e = absurd (cc e)

  pub ReadsAsMade-of : WrittenRecords → IsAccepted (nodes_around root) → (schema_around root).is_group (id_of root) ≡ false → AreGiven calls → (s : Segments) (a : Answer)
      → IsAnswer (schema_around root) as_it_is (id_of root) calls (limits_view bounds) s a → MeansAfter root calls bounds.nesting (value_within (limits_view bounds) s) a → ReadsAsMade root calls bounds s a
  unfolding answer
  ReadsAsMade-of law accepted no_group given s (written segments replies) e means = λ t found kinds. (
    trim (edits (schema_around root) (id_of root) calls (opened_root (schema_around root) (id_of root) t)),
    means t found,
    law (nodes_around root) (id_of root) calls t (record { accepted = accepted; root = no_group; given = given; opens = opens_of t segments replies (e ∙ ap answer_to found); kinds = kinds }),
  )
  ReadsAsMade-of law accepted no_group given s refused_value e means = tt
  ReadsAsMade-of law accepted no_group given s refused_root e means = tt
  ReadsAsMade-of law accepted no_group given s refused_depth e means = tt

-- ---- the plain form

-- what the model's laws say of edited values and their records
pub record PlainRecords : Type 0 where
  pub written_records : WrittenRecords
  pub start : (nodes : List Node) (id : ℕ) (calls : List Call) (t : Tree) → IsStart nodes id calls t → IsStart nodes id calls (opened_root (schema_of nodes) id t)
  pub next : (nodes : List Node) (id : ℕ) (calls : List Call) (t : Tree) → IsStart nodes id calls t → IsStart nodes id [] (edits (schema_of nodes) id calls t)
  pub trimmed : (s : Schema) (id : ℕ) (t : Tree) → in_kind s t (struct id) ≡ true → record_of s id (trim t) ≡ record_of s id t

module _ (root : StructSchema) (calls : List Call) (bounds : Bounds) where
  plain_opens : (t : Tree) (segments : Segments) (replies : List Reply) → written segments replies ≡ with_segments segments (answer_to root calls bounds (Some t)) → IsOpen t
  plain_opens null segments replies e = tt
  plain_opens (structure w n ts) segments replies e = tt
  plain_opens (capability i) segments replies e = absurd (cc e)
  plain_opens (plain_list z n k) segments replies e = absurd (cc e)
  plain_opens (pointer_list ts) segments replies e = absurd (cc e)
  plain_opens (struct_list w p es) segments replies e = absurd (cc e)

  pub plain_reads : PlainRecords → IsAccepted (nodes_around root) → (schema_around root).is_group (id_of root) ≡ false → AreGiven calls → (s : Segments) (a : Answer)
      → IsPlainAnswer root calls bounds s a → ReadsAsMade root calls bounds s a
  unfolding answer
  plain_reads laws accepted no_group given s (written segments replies) h = λ t found kinds.
      let nodes = nodes_around root in
      let id = id_of root in
      let o = opened_root (schema_of nodes) id t in
      let e = edits (schema_of nodes) id calls o in
      let starts : IsStart nodes id calls t = record { accepted = accepted; root = no_group; given = given; opens = plain_opens t segments replies (h.same ∙ ap (λ v. with_segments segments (answer_to root calls bounds v)) found); kinds = kinds } in
      let last : IsStart nodes id [] e = laws.next nodes id calls o (laws.start nodes id calls t starts) in
      (e, (h.plain t found).alone.means, sym (laws.trimmed (schema_of nodes) id e last.kinds.of_tree) ∙ laws.written_records nodes id calls t starts)
  plain_reads laws accepted no_group given s refused_value h = tt
  plain_reads laws accepted no_group given s refused_root h = tt
  plain_reads laws accepted no_group given s refused_depth h = tt
