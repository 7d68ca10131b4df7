-- What is written in the plain form reads under the newer schema as the newer machine makes it.
use Rattle.std.proofs.Common.{◌≡◌, ℕ, Bool, true, false, if◌then◌else◌, Some, List, [], ◌∷◌, map, sym, ap, ◌∙◌, subst}
use Rattle.capnp_model.specs.Segments.{Segments}
use Rattle.capnp_model.specs.Trees.{Tree, null, capability, structure, plain_list, pointer_list, struct_list}
use Rattle.capnp_model.specs.Trimming.{trim}
use Rattle.capnp_model.specs.Encoding.{canonical_words}
use Rattle.capnp_model.specs.Calls.{Call as ModelCall}
use Rattle.capnp_model.specs.Accepted.{IsAccepted, schema_of}
use Rattle.capnp_model.specs.InKind.{in_kind}
use Rattle.capnp_model.specs.NamedPaths.{IsOpen}
use Rattle.capnp_model.specs.CallRuns.{AreGiven, IsStart, records_after, record_replies}
use Rattle.capnp_model.specs.Answers.{Answer, refused_value, refused_root, refused_depth, written, Reply, replies, edits, opened_root, answer}
use Rattle.capnp_model.specs.Partners.{Renaming}
use Rattle.capnp_model.specs.Printing.{as_it_is}
use Rattle.capnp_model.specs.Readings.{Record, record_of}
use Rattle.capnp_model.specs.Schemas.{Ty, struct, Node, Schema}
use Rattle.capnp_model.proofs.lemmas.TrimmedKinds.{record_opened_by}
use Rattle.capnp_values_queries.specs.Structs.{nodes_around, schema_around, id_of}
use Rattle.capnp_values_queries.specs.declared.structs.StructSchema.{StructSchema}
use Rattle.capnp_calls.specs.declared.call.Call.{Call}
use Rattle.capnp_calls.specs.Roots.{record_at}
use Rattle.capnp_relay_streams.specs.Answers.{limits_view, Bounds, with_segments}
use Rattle.capnp_relay_streams.specs.Messages.{IsPlainAnswerBy}
use Rattle.capnp_model_versions.specs.SameReplies.{SameReplies}
use Rattle.capnp_model_versions.specs.TwoVersions.{TwoVersions, older, newer}
use Rattle.capnp_model_versions.specs.RenamedVersions.{newer_calls, CanRunWith}
use Rattle.capnp_model_versions.proofs.lemmas.WholeValues.{fits-whole}
use Rattle.capnp_model_versions.proofs.lemmas.WrittenValues.{value-fits}
use Rattle.capnp_relay_streams.specs.Newer.{MayRun, ReadsAsNewer, ReadsAsRenamed}
use Rattle.capnp_relay_streams.proofs.NewerRecords.{Records, Replies, HasReplied, T, U, versions, answer_to, replies_of, can_run, given_renamed, same_renamed}

-- what the laws say
pub record NewerLaws : Type 0 where
  pub records : Records
  pub same_replies : Replies
  pub values : (rs : List Renaming) (v : TwoVersions) (calls : List ModelCall) (t : Tree) → CanRunWith rs v calls t → trim (edits (older v) v.older_root calls t) ≡ trim (edits (newer v) v.newer_root (newer_calls rs v calls) t)
  pub kinds : (s : Schema) (t : Tree) (ty : Ty) → in_kind s (trim t) ty ≡ in_kind s t ty
  pub next : (nodes : List Node) (id : ℕ) (calls : List ModelCall) (t : Tree) → IsStart nodes id calls t → IsStart nodes id [] (edits (schema_of nodes) id calls t)
  pub trimmed : (s : Schema) (id : ℕ) (t : Tree) → in_kind s t (struct id) ≡ true → record_of s id (trim t) ≡ record_of s id t

module _ (rs : List Renaming) (root newer_root : StructSchema) (calls : List Call) (bounds : Bounds) where
  abbrev C : List ModelCall
  C = T rs root newer_root calls bounds

  abbrev D : List ModelCall
  D = U rs root newer_root calls bounds

  struct_replied : (t : Tree) (segments : Segments) (said : List Reply) → IsOpen t → (e : Tree) → (b : Bool)
      → written segments said ≡ with_segments segments (if b then written (canonical_words (trim e) ∷ []) (replies (schema_around root) as_it_is (id_of root) C (opened_root (schema_around root) (id_of root) t)) else refused_depth)
      → HasReplied rs root newer_root calls bounds t said
  struct_replied t segments said o e true h = record { opens = o; are = replies_of rs root newer_root calls bounds segments segments said _ h }
  struct_replied t segments said o e false h = absurd (cc h)

  replied_at : (t : Tree) (segments : Segments) (said : List Reply) → written segments said ≡ with_segments segments (answer_to rs root newer_root calls bounds (Some t)) → HasReplied rs root newer_root calls bounds t said
  replied_at null segments said e = struct_replied null segments said tt _ _ e
  replied_at (structure w n ts) segments said e = struct_replied (structure w n ts) segments said tt _ _ e
  replied_at (capability i) segments said e = absurd (cc e)
  replied_at (plain_list z n k) segments said e = absurd (cc e)
  replied_at (pointer_list ts) segments said e = absurd (cc e)
  replied_at (struct_list w p es) segments said e = absurd (cc e)

  module _ (laws : NewerLaws) (accepted : IsAccepted (nodes_around root)) (newer_accepted : IsAccepted (nodes_around newer_root))
      (no_group : (schema_around root).is_group (id_of root) ≡ false) (given : AreGiven C) (may : MayRun rs root newer_root calls) where
    newer_makes : (s : Segments) (segments : Segments) (said : List Reply) → IsPlainAnswerBy root C bounds s (written segments said) → ReadsAsNewer newer_root D bounds s (written segments said)
    unfolding answer
    newer_makes s segments said h = λ t found kinds.
        let o = schema_around root in
        let n = schema_around newer_root in
        let m = id_of newer_root in
        let v = versions rs root newer_root calls bounds in
        let had : HasReplied rs root newer_root calls bounds t said = replied_at t segments said (h.answers.same ∙ ap (λ x. with_segments segments (answer_to rs root newer_root calls bounds x)) found) in
        let start : IsStart (nodes_around newer_root) m D t = record { accepted = newer_accepted; root = sym may.compatible.same_sort ∙ no_group; given = given_renamed rs o (id_of root) C given; opens = had.opens; kinds = kinds } in
        let u : Tree = opened_root o (id_of root) t in
        let can = can_run rs root newer_root calls bounds laws.records laws.same_replies accepted newer_accepted no_group given may t (fits-whole t (value-fits (limits_view bounds) s t found)) start in
        let reads : record_at newer_root u ≡ record_at newer_root t = record_opened_by o (id_of root) n m t had.opens kinds.of_tree in
        let newer_replies : Record → List Reply = record_replies n as_it_is m D in
        let same : SameReplies C said (newer_replies (record_at newer_root u)) =
        subst (λ r. SameReplies C r (newer_replies (record_at newer_root u))) (sym had.are) (laws.same_replies rs v C u as_it_is can) in
        let e : Tree = edits o (id_of root) C u in
        let last : IsStart (nodes_around newer_root) m [] (edits n m D u) = laws.next (nodes_around newer_root) m D u can.start in
        let kind : in_kind n e (struct m) ≡ true = sym (laws.kinds n e (struct m)) ∙ ap (λ x. in_kind n x (struct m)) (laws.values rs v C u can) ∙ laws.kinds n (edits n m D u) (struct m) ∙ last.kinds.of_tree in
        record {
          value = e;
          means = (h.answers.plain t found).alone.means;
          record_made = sym (laws.trimmed n m e kind) ∙ laws.records rs v C u can ∙ ap (records_after n m D) reads;
          replied = subst (λ r. SameReplies D said (newer_replies r)) reads (same_renamed rs o (id_of root) C said (newer_replies (record_at newer_root u)) same);
        }

    pub plain_reads_as_renamed : (s : Segments) (a : Answer) → IsPlainAnswerBy root C bounds s a → ReadsAsRenamed (record { renamings = rs; older = root; newer = newer_root }) C bounds s a
    plain_reads_as_renamed s (written segments said) h = newer_makes s segments said h
    plain_reads_as_renamed s refused_value h = tt
    plain_reads_as_renamed s refused_root h = tt
    plain_reads_as_renamed s refused_depth h = tt
