-- Calls under an older schema and, in the newer's words, under a newer one that is compatible with renamed fields.
use Rattle.std.proofs.Common.{◌≡◌, ℕ, ◌*◌, true, List, [], ◌∷◌, map, sym, ◌∙◌, ap, subst}
use Rattle.std.specs.List.{AllByRecursion}
use Rattle.capnp_model.specs.Trees.{Tree}
use Rattle.capnp_model.specs.Trimming.{trim}
use Rattle.capnp_model.specs.Schemas.{Node, Shape, Schema, words_of_shape}
use Rattle.capnp_model.specs.Readings.{record_of}
use Rattle.capnp_model.specs.Printing.{fields_in}
use Rattle.capnp_model.specs.Calls.{Call}
use Rattle.capnp_model.specs.Accepted.{schema_of, IsAccepted}
use Rattle.capnp_model.specs.Partners.{Renaming, renamed_shape, renamed}
use Rattle.capnp_model.specs.Compatible.{has_pair, keeps, IsCompatible}
use Rattle.capnp_model.specs.Admitted.{is_admitted_with, IsAdmitted}
use Rattle.capnp_model.specs.RenamedCalls.{renamed_call}
use Rattle.capnp_model.specs.CallRuns.{IsStart, records_after, record_replies}
use Rattle.capnp_model.specs.Answers.{replies, edits}
use Rattle.capnp_model.proofs.lemmas.KeptShapes.{pair_is_kept}
use Rattle.capnp_model.proofs.lemmas.ActiveMembers.{shape_good}
use Rattle.capnp_model.proofs.lemmas.FineShapes.{IsGood}
use Rattle.capnp_model_versions.specs.Whole.{IsWhole, IsWholeVerb}
use Rattle.capnp_model_versions.specs.SameReplies.{SameReplies}
use Rattle.capnp_model_versions.specs.TwoVersions.{TwoVersions, older, newer, newer_record, CanRun}
use Rattle.capnp_model_versions.specs.RenamedViews.{projected_with, older_view_with}
use Rattle.capnp_model_versions.specs.RenamedVersions.{newer_calls, AreCompatibleWith, CanRunWith}
use Rattle.capnp_model_versions.proofs.Within.{IsWithin, accepted-within}
use Rattle.capnp_model_versions.proofs.RenamedWrites.{shape-is}
use Rattle.capnp_model_versions.proofs.RenamedShapes.{words-renamed, within-renamed, good-renamed}
use Rattle.capnp_model_versions.proofs.RenamedAdmission.{admitted-twins}
use Rattle.capnp_model_versions.proofs.OlderNames.{named_fields, named-view, named-record}
use Rattle.capnp_model_versions.proofs.OlderRecords.{older-record}
use Rattle.capnp_model_versions.proofs.RenamedCalls.{IsTwin, edits-same, replies-same}
use Rattle.capnp_model_versions.proofs.Versions.{IsOlderOf, calls-across, records-across, replies-across, values-across-versions, records-across-versions, replies-across-versions}

module _ (rs : List Renaming) (nodes nodes' : List Node) (accepted : IsAccepted nodes) (accepted' : IsAccepted nodes') (older newer : ℕ) (compatible : IsCompatible (renamed rs (schema_of nodes)) (schema_of nodes') older newer) where
  abbrev o : Schema
  o = schema_of nodes

  abbrev o' : Schema
  o' = renamed rs o

  abbrev n : Schema
  n = schema_of nodes'

  closed : (i j : ℕ) → has_pair compatible.pairs i j ≡ true → keeps o' n compatible.pairs (o'.shape_of i) (n.shape_of j) ≡ true
  closed i j h = pair_is_kept o' n compatible.pairs compatible.pairs i j compatible.are_kept h

  within : (id : ℕ) → IsWithin (64 * words_of_shape (renamed_shape rs (o.shape_of id))) (renamed_shape rs (o.shape_of id))
  within id =
      subst (λ (w : ℕ). IsWithin (64 * w) (renamed_shape rs (o.shape_of id))) (sym (words-renamed rs (o.shape_of id)))
      (within-renamed rs (64 * words_of_shape (o.shape_of id)) (o.shape_of id) (accepted-within nodes accepted id))

  good : (i j : ℕ) → has_pair compatible.pairs i j ≡ true → IsGood o' (renamed_shape rs (o.shape_of i))
  good i j h =
      good-renamed rs o n compatible.pairs (o.shape_of i) (n.shape_of j) (sym (ap (λ (g : Shape). keeps o' n compatible.pairs g (n.shape_of j)) (shape-is rs o i)) ∙ closed i j h)
      (shape_good nodes accepted i) (shape_good nodes' accepted' j)

  -- the older schema in the newer's words
  pub renamed-older : IsOlderOf o' n older newer
  renamed-older = record {
    compatible = compatible;
    within = λ id. subst (λ (g : Shape). IsWithin (64 * words_of_shape g) g) (sym (shape-is rs o id)) (within id);
    good = λ i j h. subst (λ (g : Shape). IsGood o' g) (sym (shape-is rs o i)) (good i j h);
  }

  -- the older record is the older view of the newer
  pub renamed-view : (t : Tree) → record_of o older t ≡ projected_with rs o older (record_of n newer t)
  renamed-view t =
      sym (named-record rs o older t) ∙ ap (named_fields o (fields_in (o.shape_of older))) (older-record o' n older newer renamed-older.compatible renamed-older.good t)
      ∙ named-view rs o older (record_of n newer t)

  -- ---- calls

  abbrev call' : Call → Call
  call' c = renamed_call rs o older c

  -- a call that is admitted is so in the newer's words
  record IsBoth (c : Call) : Type 0 where
    pub twin : IsTwin rs o older c
    pub admitted : IsAdmitted o' n older newer (call' c)

  both : (c : Call) → is_admitted_with rs o n older newer c ≡ true → IsBoth c
  both c h =
      let two = admitted-twins rs o n compatible.pairs c.verb closed (shape_good nodes' accepted') c.path older newer compatible.has_roots h in
      record { twin = two.0; admitted = two.1 }

  all_twins : (calls : List Call) → AllByRecursion (λ c. is_admitted_with rs o n older newer c ≡ true) calls → AllByRecursion (IsTwin rs o older) calls
  all_twins [] h = tt
  all_twins (c ∷ cs) h = ((both c h.0).twin, all_twins cs h.1)

  all_admitted : (calls : List Call) → AllByRecursion (λ c. is_admitted_with rs o n older newer c ≡ true) calls → AllByRecursion (λ c. IsAdmitted o' n older newer c) (map call' calls)
  all_admitted [] h = tt
  all_admitted (c ∷ cs) h = ((both c h.0).admitted, all_admitted cs h.1)

  all_whole : (calls : List Call) → AllByRecursion (λ c. IsWholeVerb c.verb) calls → AllByRecursion (λ c. IsWholeVerb c.verb) (map call' calls)
  all_whole [] h = tt
  all_whole (c ∷ cs) h = (h.0, all_whole cs h.1)

  -- ---- the laws

  module _ (calls : List Call) (admitted : AllByRecursion (λ c. is_admitted_with rs o n older newer c ≡ true) calls) (verbs : AllByRecursion (λ c. IsWholeVerb c.verb) calls) (t : Tree) (whole : IsWhole t) (start : IsStart nodes' newer (map call' calls) t) where
    pub renamed-values : trim (edits o older calls t) ≡ trim (edits n newer (map call' calls) t)
    renamed-values =
        ap trim (edits-same rs o older calls (all_twins calls admitted) t)
        ∙ calls-across o' nodes' accepted' older newer renamed-older (map call' calls) (all_admitted calls admitted) (all_whole calls verbs) t whole start

    pub renamed-records : record_of n newer (trim (edits o older calls t)) ≡ records_after n newer (map call' calls) (record_of n newer t)
    renamed-records =
        ap (λ (u : Tree). record_of n newer (trim u)) (edits-same rs o older calls (all_twins calls admitted) t)
        ∙ records-across o' nodes' accepted' older newer renamed-older (map call' calls) (all_admitted calls admitted) (all_whole calls verbs) t whole start

    pub renamed-replies : (quoted : List ℕ → List ℕ) → SameReplies calls (replies o quoted older calls t) (record_replies n quoted newer (map call' calls) (record_of n newer t))
    renamed-replies quoted =
        replies-same rs o older quoted calls (all_twins calls admitted) t _
        (replies-across o' nodes' accepted' older newer renamed-older quoted (map call' calls) (all_admitted calls admitted) (all_whole calls verbs) t whole start)

-- nothing is renamed
pub unrenamed : (v : TwoVersions) (calls : List Call) (t : Tree) → CanRunWith [] v calls t → CanRun v calls t
unrenamed v calls t h = record {
  versions = record { older_accepted = h.versions.older_accepted; newer_accepted = h.versions.newer_accepted; compatible = h.versions.compatible };
  admitted = h.admitted;
  whole_verbs = h.whole_verbs;
  whole = h.whole;
  start = h.start;
}

-- THE LAWS
pub values-across-renamed : (rs : List Renaming) (v : TwoVersions) (calls : List Call) (t : Tree) → CanRunWith rs v calls t → trim (edits (older v) v.older_root calls t) ≡ trim (edits (newer v) v.newer_root (newer_calls rs v calls) t)
values-across-renamed [] v calls t h = values-across-versions v calls t (unrenamed v calls t h)
values-across-renamed (r ∷ rs) v calls t h =
    renamed-values (r ∷ rs) v.older_nodes v.newer_nodes h.versions.older_accepted h.versions.newer_accepted v.older_root v.newer_root h.versions.compatible calls h.admitted h.whole_verbs t h.whole h.start

pub records-across-renamed : (rs : List Renaming) (v : TwoVersions) (calls : List Call) (t : Tree) → CanRunWith rs v calls t
    → newer_record v (trim (edits (older v) v.older_root calls t)) ≡ records_after (newer v) v.newer_root (newer_calls rs v calls) (newer_record v t)
records-across-renamed [] v calls t h = records-across-versions v calls t (unrenamed v calls t h)
records-across-renamed (r ∷ rs) v calls t h =
    renamed-records (r ∷ rs) v.older_nodes v.newer_nodes h.versions.older_accepted h.versions.newer_accepted v.older_root v.newer_root h.versions.compatible calls h.admitted h.whole_verbs t h.whole h.start

pub replies-across-renamed : (rs : List Renaming) (v : TwoVersions) (calls : List Call) (t : Tree) (quoted : List ℕ → List ℕ) → CanRunWith rs v calls t
    → SameReplies calls (replies (older v) quoted v.older_root calls t) (record_replies (newer v) quoted v.newer_root (newer_calls rs v calls) (newer_record v t))
replies-across-renamed [] v calls t quoted h = replies-across-versions v calls t quoted (unrenamed v calls t h)
replies-across-renamed (r ∷ rs) v calls t quoted h =
    renamed-replies (r ∷ rs) v.older_nodes v.newer_nodes h.versions.older_accepted h.versions.newer_accepted v.older_root v.newer_root h.versions.compatible calls h.admitted h.whole_verbs t h.whole h.start quoted

pub view-across-renamed : (rs : List Renaming) (v : TwoVersions) (t : Tree) → AreCompatibleWith rs v → record_of (older v) v.older_root t ≡ older_view_with rs v (newer_record v t)
view-across-renamed rs v t h = renamed-view rs v.older_nodes v.newer_nodes h.older_accepted h.newer_accepted v.older_root v.newer_root h.compatible t
