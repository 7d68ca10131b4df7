-- What is written reads under the newer schema as the newer machine makes it.
use Rattle.std.proofs.Common.{◌≡◌, ℕ, pos, Option, Bool, true, false, if◌then◌else◌, Some, List, [], ◌∷◌, map, sym, ap, ◌∙◌, subst}
use Rattle.std.specs.List.{AllByRecursion, list_all}
use Rattle.capnp_model.specs.Segments.{Segments}
use Rattle.capnp_model.specs.Trees.{Tree, null, capability, structure, plain_list, pointer_list, struct_list}
use Rattle.capnp_model.specs.Trimming.{trim}
use Rattle.capnp_model.specs.Encoding.{canonical_words}
use Rattle.capnp_model.specs.Calls.{Call as ModelCall}
use Rattle.capnp_model.specs.Accepted.{IsAccepted}
use Rattle.capnp_model.specs.NamedPaths.{IsOpen}
use Rattle.capnp_model.specs.CallRuns.{IsGiven, AreGiven, IsStart, records_after, record_replies}
use Rattle.capnp_model.specs.Answers.{Answer, refused_value, refused_root, refused_depth, written, Reply, replies, edits, opened_root, answer_value, answer}
use Rattle.capnp_values_queries.specs.Structs.{nodes_around, schema_around, id_of}
use Rattle.capnp_values_queries.specs.declared.structs.StructSchema.{StructSchema}
use Rattle.capnp_calls.specs.Messages.{tree_of_message}
use Rattle.capnp_calls.proofs.lemmas.Kept.{message_fits}
use Rattle.capnp_calls.specs.declared.call.Call.{Call}
use Rattle.capnp_calls.specs.declared.call.Action.{Action}
use Rattle.capnp_calls.specs.declared.call.Action.TheVariants as action
use Rattle.capnp_calls.specs.declared.call.SlotValue.{SlotValue}
use Rattle.capnp_calls.specs.declared.call.SlotValue.TheVariants as slot
use Rattle.capnp_calls.specs.CallViews.{call_view, action_view}
use Rattle.capnp_model.specs.Printing.{as_it_is}
use Rattle.capnp_relay_streams.specs.Answers.{limits_view}
use Rattle.capnp_relay_streams.specs.Answers.{Bounds}
use Rattle.capnp_relay_streams.specs.Messages.{IsAnswerBy}
use Rattle.capnp_model_versions.specs.Whole.{IsWhole, IsWholeVerb}
use Rattle.capnp_model_versions.specs.SameReplies.{SameReplies}
use Rattle.capnp_model_versions.specs.TwoVersions.{TwoVersions, older, newer, newer_record}
use Rattle.capnp_model_versions.specs.RenamedVersions.{newer_calls, CanRunWith}
use Rattle.capnp_model_versions.proofs.lemmas.WholeValues.{fits-whole}
use Rattle.capnp_model_versions.proofs.lemmas.WrittenValues.{value-fits}
use Rattle.capnp_model.proofs.lemmas.Tests.{and_left, and_right}
use Rattle.capnp_model_versions.proofs.lemmas.TrimmedRelays.{whole_opened}
use Rattle.capnp_calls.specs.Roots.{record_at}
use Rattle.capnp_model.specs.Partners.{Renaming}
use Rattle.capnp_model.specs.RenamedCalls.{renamed_call, renamed_calls}
use Rattle.capnp_model.specs.Schemas.{Schema}
use Rattle.capnp_model.specs.Readings.{Record}
use Rattle.capnp_relay_streams.specs.Newer.{is_admitted_between, MayRun, ReadsAsNewer, ReadsAsRenamed}
use Rattle.capnp_model.proofs.lemmas.TrimmedKinds.{start_opened_by, record_opened_by}

-- ---- what the laws say

abbrev pub Records : Type 0
Records = (rs : List Renaming) (v : TwoVersions) (calls : List ModelCall) (t : Tree) → CanRunWith rs v calls t
    → newer_record v (trim (edits (older v) v.older_root calls t)) ≡ records_after (newer v) v.newer_root (newer_calls rs v calls) (newer_record v t)

abbrev pub Replies : Type 0
Replies = (rs : List Renaming) (v : TwoVersions) (calls : List ModelCall) (t : Tree) (quoted : List ℕ → List ℕ) → CanRunWith rs v calls t
    → SameReplies calls (replies (older v) quoted v.older_root calls t) (record_replies (newer v) quoted v.newer_root (newer_calls rs v calls) (newer_record v t))

-- ---- calls in the newer's words keep their verbs

module _ (r : Renaming) (rs : List Renaming) (s : Schema) (id : ℕ) where
  each_given : (calls : List ModelCall) → AreGiven calls → AreGiven (map (renamed_call (r ∷ rs) s id) calls)
  each_given [] h = tt
  each_given (c ∷ cs) h = (h.0, each_given cs h.1)

  each_same : (calls : List ModelCall) (xs ys : List Reply) → SameReplies calls xs ys → SameReplies (map (renamed_call (r ∷ rs) s id) calls) xs ys
  each_same [] [] [] h = tt
  each_same [] [] (y ∷ ys) h = absurd h
  each_same [] (x ∷ xs) ys h = absurd h
  each_same (c ∷ cs) [] ys h = absurd h
  each_same (c ∷ cs) (x ∷ xs) [] h = absurd h
  each_same (c ∷ cs) (x ∷ xs) (y ∷ ys) h = (h.0, each_same cs xs ys h.1)

pub given_renamed : (rs : List Renaming) (s : Schema) (id : ℕ) (calls : List ModelCall) → AreGiven calls → AreGiven (renamed_calls rs s id calls)
given_renamed [] s id calls h = h
given_renamed (r ∷ rs) s id calls h = each_given r rs s id calls h

pub same_renamed : (rs : List Renaming) (s : Schema) (id : ℕ) (calls : List ModelCall) (xs ys : List Reply) → SameReplies calls xs ys → SameReplies (renamed_calls rs s id calls) xs ys
same_renamed [] s id calls xs ys h = h
same_renamed (r ∷ rs) s id calls xs ys h = each_same r rs s id calls xs ys h

-- ---- what calls set

whole_value : (v : SlotValue) → IsGiven (action_view (action.Set v)) → IsWholeVerb (action_view (action.Set v))
whole_value (slot.Number z) h = tt
whole_value (slot.Bool b) h = tt
whole_value (slot.Enum n) h = h
whole_value (slot.Text t) h = tt
whole_value (slot.Data bs) h = tt
whole_value (slot.Message m) h = fits-whole (tree_of_message m) (message_fits m)

whole_action : (a : Action) → IsGiven (action_view a) → IsWholeVerb (action_view a)
whole_action action.Get h = tt
whole_action (action.Set v) h = whole_value v h
whole_action action.Init h = tt
whole_action (action.Initn n) h = tt
whole_action action.Clear h = tt

whole_calls : (calls : List Call) → AreGiven (map call_view calls) → AllByRecursion (λ c. IsWholeVerb c.verb) (map call_view calls)
whole_calls [] h = tt
whole_calls (c ∷ cs) h = (whole_action c.action h.0, whole_calls cs h.1)

-- ---- each call is admitted

admitted_calls : (rs : List Renaming) (root newer_root : StructSchema) (calls : List ModelCall) → list_all (is_admitted_between rs root newer_root) calls ≡ true → AllByRecursion (λ c. is_admitted_between rs root newer_root c ≡ true) calls
admitted_calls rs root newer_root [] h = tt
admitted_calls rs root newer_root (c ∷ cs) h = (and_left _ _ h, admitted_calls rs root newer_root cs (and_right (is_admitted_between rs root newer_root c) _ h))

-- ---- one answer

module _ (rs : List Renaming) (root newer_root : StructSchema) (calls : List Call) (bounds : Bounds) where
  abbrev pub T : List ModelCall
  T = map call_view calls

  -- the calls in the newer's words
  abbrev pub U : List ModelCall
  U = renamed_calls rs (schema_around root) (id_of root) T

  abbrev pub versions : TwoVersions
  versions = record { older_nodes = nodes_around root; newer_nodes = nodes_around newer_root; older_root = id_of root; newer_root = id_of newer_root }

  abbrev pub answer_to : Option Tree → Answer
  answer_to value = answer_value (schema_around root) as_it_is (id_of root) T (pos bounds.nesting) value

  -- a value that is answered by a message is a struct or null, and the replies are those at the opened root
  pub record HasReplied (t : Tree) (said : List Reply) : Type 0 where
    pub opens : IsOpen t
    pub are : said ≡ replies (schema_around root) as_it_is (id_of root) T (opened_root (schema_around root) (id_of root) t)

  pub replies_of : (a b : Segments) (x y : List Reply) → written a x ≡ written b y → x ≡ y
  replies_of a b x y e = cc

  struct_replied : (t : Tree) (segments : Segments) (said : List Reply) → IsOpen t → (e : Tree) → (b : Bool)
      → written segments said ≡ (if b then written (canonical_words (trim e) ∷ []) (replies (schema_around root) as_it_is (id_of root) T (opened_root (schema_around root) (id_of root) t)) else refused_depth) → HasReplied t said
  struct_replied t segments said o e true h = record { opens = o; are = replies_of segments _ said _ h }
  struct_replied t segments said o e false h = absurd (cc h)

  replied_at : (t : Tree) (segments : Segments) (said : List Reply) → written segments said ≡ answer_to (Some t) → HasReplied t said
  replied_at null segments said e = struct_replied null segments said tt _ _ e
  replied_at (structure w n ts) segments said e = struct_replied (structure w n ts) segments said tt _ _ e
  replied_at (capability i) segments said e = absurd (cc e)
  replied_at (plain_list z n k) segments said e = absurd (cc e)
  replied_at (pointer_list ts) segments said e = absurd (cc e)
  replied_at (struct_list w p es) segments said e = absurd (cc e)

  module _ (records : Records) (same_replies : Replies) (accepted : IsAccepted (nodes_around root)) (newer_accepted : IsAccepted (nodes_around newer_root))
      (no_group : (schema_around root).is_group (id_of root) ≡ false) (given : AreGiven T) (may : MayRun rs root newer_root calls) where
    pub can_run : (t : Tree) → IsWhole t → IsStart (nodes_around newer_root) (id_of newer_root) U t → CanRunWith rs versions T (opened_root (schema_around root) (id_of root) t)
    can_run t whole start = record {
      versions = record { older_accepted = accepted; newer_accepted = newer_accepted; compatible = may.compatible };
      admitted = admitted_calls rs root newer_root (map call_view calls) may.admitted;
      whole_verbs = whole_calls calls given;
      whole = whole_opened (schema_around root) (id_of root) t whole;
      start = start_opened_by (schema_around root) (id_of root) (nodes_around newer_root) (id_of newer_root) U t start;
    }

    newer_makes : (s : Segments) (segments : Segments) (said : List Reply) → IsAnswerBy root T bounds s (written segments said) → ReadsAsNewer newer_root U bounds s (written segments said)
    unfolding answer
    newer_makes s segments said h = λ t found kinds.
        let o = schema_around root in
        let n = schema_around newer_root in
        let had : HasReplied t said = replied_at t segments said (h.same ∙ ap answer_to found) in
        let start : IsStart (nodes_around newer_root) (id_of newer_root) U t = record { accepted = newer_accepted; root = sym may.compatible.same_sort ∙ no_group; given = given_renamed rs o (id_of root) T given; opens = had.opens; kinds = kinds } in
        let u : Tree = opened_root o (id_of root) t in
        let can = can_run t (fits-whole t (value-fits (limits_view bounds) s t found)) start in
        let reads : record_at newer_root u ≡ record_at newer_root t = record_opened_by o (id_of root) n (id_of newer_root) t had.opens kinds.of_tree in
        let newer_replies : Record → List Reply = record_replies n as_it_is (id_of newer_root) U in
        let same : SameReplies T said (newer_replies (record_at newer_root u)) =
        subst (λ r. SameReplies T r (newer_replies (record_at newer_root u))) (sym had.are) (same_replies rs versions T u as_it_is can) in
        record {
          value = trim (edits o (id_of root) T u);
          means = h.means t found;
          record_made = records rs versions T u can ∙ ap (records_after n (id_of newer_root) U) reads;
          replied = subst (λ r. SameReplies U said (newer_replies r)) reads (same_renamed rs o (id_of root) T said (newer_replies (record_at newer_root u)) same);
        }

    pub ReadsAsRenamed-of : (s : Segments) (a : Answer) → IsAnswerBy root T bounds s a → ReadsAsRenamed (record { renamings = rs; older = root; newer = newer_root }) T bounds s a
    ReadsAsRenamed-of s (written segments said) h = newer_makes s segments said h
    ReadsAsRenamed-of s refused_value h = tt
    ReadsAsRenamed-of s refused_root h = tt
    ReadsAsRenamed-of s refused_depth h = tt
