-- Calls under an older schema and under a compatible newer one.
use Rattle.std.proofs.Common.{◌≡◌, ℕ, ◌*◌, ◌≤◌, true, false, List, [], ◌∷◌, refl, sym, ◌∙◌, ap, subst}
use Rattle.std.specs.List.{AllByRecursion}
use Rattle.capnp_model.specs.Trees.{Tree, null, structure, child}
use Rattle.capnp_model.specs.Trimming.{trim}
use Rattle.capnp_model.specs.Schemas.{struct, Node, Schema, words_of_shape}
use Rattle.capnp_model.specs.Readings.{Record, whole_words, shape_record, record_by_shape, record_of}
use Rattle.capnp_model.specs.Printing.{fields_in}
use Rattle.capnp_model.specs.Calls.{Step, name, index, Verb, get, set_to, init, initn, clear, Call}
use Rattle.capnp_model.specs.Steps.{Outcome, refused, shown, done, outcome_map, on_name, step_field, step, step_path}
use Rattle.capnp_model.specs.Edits.{edit}
use Rattle.capnp_model.specs.Accepted.{schema_of, IsAccepted}
use Rattle.capnp_model.specs.Compatible.{has_pair, keeps, IsCompatible}
use Rattle.capnp_model.specs.Admitted.{at_element, is_admitted_from, IsAdmitted}
use Rattle.capnp_model.specs.Projection.{project_fields, projected}
use Rattle.capnp_model.specs.InKind.{in_kind}
use Rattle.capnp_model.specs.NamedPaths.{IsOpen}
use Rattle.capnp_model.specs.CallRuns.{IsStart, records_after, record_replies}
use Rattle.capnp_model.specs.Answers.{reply_of, replies, edits}
use Rattle.capnp_model.proofs.lemmas.KeptShapes.{pair_is_kept}
use Rattle.capnp_model.proofs.lemmas.TrimmedAnswers.{trimmed_record}
use Rattle.capnp_model.proofs.lemmas.TrimmedKinds.{in_kind-trim}
use Rattle.capnp_model.proofs.lemmas.EditLaws.{edit_open, next_start, last_start, record_after_calls, replies_to_calls}
use Rattle.capnp_model.proofs.lemmas.ActiveMembers.{shape_good}
use Rattle.capnp_model.proofs.lemmas.FineShapes.{IsGood}
use Rattle.capnp_model_versions.specs.Whole.{IsWhole, IsWholeVerb}
use Rattle.capnp_model_versions.specs.SameReplies.{IsWrite, SameUnlessGet, SameReplies}
use Rattle.capnp_model_versions.specs.TwoVersions.{TwoVersions, older, newer, newer_record, older_view, AreCompatible, CanEdit, CanStep, CanRun}
use Rattle.capnp_model_versions.proofs.Alike.{Alike, alike-self}
use Rattle.capnp_model_versions.proofs.Follows.{NameFollows, FieldFollows}
use Rattle.capnp_model_versions.proofs.Within.{IsWithin, accepted-within}
use Rattle.capnp_model_versions.proofs.TrimmedEdits.{written-alike, left}
use Rattle.capnp_model_versions.proofs.KeptFollows.{words_kept, root-kept}
use Rattle.capnp_model_versions.proofs.SeenValues.{kids_of, nothing_seen, child_seen}
use Rattle.capnp_model_versions.proofs.OlderRecords.{older-record}
use Rattle.capnp_model_versions.proofs.OlderSteps.{root-view}
use Rattle.capnp_model_versions.proofs.WriteOnly.{Sees, not-seen}

-- ---- two schemas

-- an older schema of which the newer keeps what is reached: its shapes lie within their structs, and those that are reached are good
pub record IsOlderOf (o n : Schema) (older newer : ℕ) : Type 0 where
  pub compatible : IsCompatible o n older newer
  pub within : (id : ℕ) → IsWithin (64 * words_of_shape (o.shape_of id)) (o.shape_of id)
  pub good : (i j : ℕ) → has_pair compatible.pairs i j ≡ true → IsGood o (o.shape_of i)

-- an accepted one is
accepted-older : (nodes nodes' : List Node) (older newer : ℕ) → IsAccepted nodes → IsCompatible (schema_of nodes) (schema_of nodes') older newer → IsOlderOf (schema_of nodes) (schema_of nodes') older newer
accepted-older nodes nodes' older newer accepted compatible = record {
  compatible = compatible;
  within = accepted-within nodes accepted;
  good = λ i j h. shape_good nodes accepted i;
}

module _ (o : Schema) (nodes' : List Node) (accepted' : IsAccepted nodes') (older newer : ℕ) (is_older : IsOlderOf o (schema_of nodes') older newer) where
  abbrev n : Schema
  n = schema_of nodes'

  abbrev compatible : IsCompatible o n older newer
  compatible = is_older.compatible

  closed : (i j : ℕ) → has_pair compatible.pairs i j ≡ true → keeps o n compatible.pairs (o.shape_of i) (n.shape_of j) ≡ true
  closed i j h = pair_is_kept o n compatible.pairs compatible.pairs i j compatible.are_kept h

  module _ (c : Call) (admitted : IsAdmitted o n older newer c) where
    -- ---- the record machines

    module _ (write : IsWrite c.verb) where
      at_name : (l : List ℕ) (path : List Step) → is_admitted_from [] o n (name l ∷ path) c.verb (at_element (struct older) (struct newer)) ≡ true → (t : Tree) → let r : Record = record_by_shape n (n.shape_of newer) t in
          on_name (step_field o path c.verb) l (fields_in (o.shape_of older)) (project_fields o (fields_in (o.shape_of older)) r) ≡ outcome_map (project_fields o (fields_in (o.shape_of older))) (on_name (step_field n path c.verb) l (fields_in (n.shape_of newer)) r)
      unfolding record_by_shape
      at_name l path h t = by t
        where
          seen : (section : ℕ) (f : ℕ → Tree) → let r : Record = shape_record (n.shape_of newer) whole_words section (kids_of n f) in
              on_name (step_field o path c.verb) l (fields_in (o.shape_of older)) (project_fields o (fields_in (o.shape_of older)) r) ≡ outcome_map (project_fields o (fields_in (o.shape_of older))) (on_name (step_field n path c.verb) l (fields_in (n.shape_of newer)) r)
          seen section f =
              root-view o n compatible.pairs c.verb write closed is_older.within (accepted-within nodes' accepted') is_older.good (shape_good nodes' accepted') path l older newer compatible.has_roots h whole_words section f

          by : (t : Tree) → let r : Record = record_by_shape n (n.shape_of newer) t in
              on_name (step_field o path c.verb) l (fields_in (o.shape_of older)) (project_fields o (fields_in (o.shape_of older)) r) ≡ outcome_map (project_fields o (fields_in (o.shape_of older))) (on_name (step_field n path c.verb) l (fields_in (n.shape_of newer)) r)
          by (structure w x ts) =
              subst
              (λ z. on_name (step_field o path c.verb) l (fields_in (o.shape_of older)) (project_fields o (fields_in (o.shape_of older)) (shape_record (n.shape_of newer) whole_words x z))
              ≡ outcome_map (project_fields o (fields_in (o.shape_of older))) (on_name (step_field n path c.verb) l (fields_in (n.shape_of newer)) (shape_record (n.shape_of newer) whole_words x z)))
              (sym (child_seen n ts)) (seen x (child ts))
          by t =
              subst
              (λ z. on_name (step_field o path c.verb) l (fields_in (o.shape_of older)) (project_fields o (fields_in (o.shape_of older)) (shape_record (n.shape_of newer) whole_words 0 z))
              ≡ outcome_map (project_fields o (fields_in (o.shape_of older))) (on_name (step_field n path c.verb) l (fields_in (n.shape_of newer)) (shape_record (n.shape_of newer) whole_words 0 z)))
              (sym (nothing_seen n)) (seen 0 (λ i. null))

      at_path : (path : List Step) → is_admitted_from [] o n path c.verb (at_element (struct older) (struct newer)) ≡ true → (t : Tree) → let r : Record = record_by_shape n (n.shape_of newer) t in
          step_path o (fields_in (o.shape_of older)) path c.verb (project_fields o (fields_in (o.shape_of older)) r) ≡ outcome_map (project_fields o (fields_in (o.shape_of older))) (step_path n (fields_in (n.shape_of newer)) path c.verb r)
      at_path [] h t = refl
      at_path (index k ∷ path) h t = refl
      at_path (name l ∷ path) h t = at_name l path h t

      -- THE LAW: the older machine at the older view
      pub older-step : (t : Tree) → step o older c (projected o older (record_of n newer t)) ≡ outcome_map (projected o older) (step n newer c (record_of n newer t))
      unfolding step record_of projected
      older-step t = at_path c.path admitted t

      -- the outcome at the record of another value of the same newer record
      pub older-outcome : (t u : Tree) → record_of n newer t ≡ record_of n newer u → step o older c (record_of o older t) ≡ outcome_map (projected o older) (step n newer c (record_of n newer u))
      older-outcome t u same =
          ap (step o older c) (older-record o n older newer is_older.compatible is_older.good t) ∙ older-step t ∙ ap (λ r. outcome_map (projected o older) (step n newer c r)) same

      pub same-reply : (quoted : List ℕ → List ℕ) (t u : Tree) → record_of n newer t ≡ record_of n newer u → reply_of o quoted (step o older c (record_of o older t)) ≡ reply_of n quoted (step n newer c (record_of n newer u))
      unfolding step
      same-reply quoted t u same = ap (reply_of o quoted) (older-outcome t u same) ∙ by (step n newer c (record_of n newer u)) refl
        where
          never : (z : Outcome Record) → step n newer c (record_of n newer u) ≡ z → Sees false z → ⊥
          never z e h = not-seen n false c.verb write (fields_in (n.shape_of newer)) c.path (record_of n newer u) (subst (λ x. Sees false x) (sym e) h)

          by : (z : Outcome Record) → step n newer c (record_of n newer u) ≡ z → reply_of o quoted (outcome_map (projected o older) z) ≡ reply_of n quoted z
          by (refused k) e = refl
          by (done r) e = refl
          by (shown how r) e = absurd (never (shown how r) e tt)

    -- ---- the edits

    module _ (whole : IsWholeVerb c.verb) where
      follows : (l : List ℕ) (path : List Step) → c.path ≡ name l ∷ path → NameFollows o n c.verb (FieldFollows o n c.verb path) l (64 * words_of_shape (o.shape_of older)) (o.shape_of older) (n.shape_of newer)
      follows l path e =
          (root-kept o n compatible.pairs c.verb closed is_older.within (accepted-within nodes' accepted') is_older.good (shape_good nodes' accepted') path l older newer compatible.has_roots
          (ap (λ z. is_admitted_from [] o n z c.verb (at_element (struct older) (struct newer))) (sym e) ∙ admitted)).0

      words : words_of_shape (o.shape_of older) ≤ words_of_shape (n.shape_of newer)
      words = words_kept o n compatible.pairs (o.shape_of older) (n.shape_of newer) (closed older newer compatible.has_roots)

      -- a call that neither carries out
      neither : (t u : Tree) → Alike t u → ((r : Record) → step o older c (record_of o older t) ≡ done r → ⊥) → ((r : Record) → step n newer c (record_of n newer u) ≡ done r → ⊥) → Alike (edit o older c t) (edit n newer c u)
      neither t u a h k = subst (λ z. Alike z (edit n newer c u)) (sym (left o older c t h)) (subst (λ z. Alike t z) (sym (left n newer c u k)) a)

      never_done : (s : Schema) (id : ℕ) (t : Tree) → c.verb ≡ get → (r : Record) → step s id c (record_of s id t) ≡ done r → ⊥
      unfolding step
      never_done s id t e r h =
          not-seen s true get tt (fields_in (s.shape_of id)) c.path (record_of s id t) (subst (λ z. Sees true z) (sym (ap (λ v. step_path s (fields_in (s.shape_of id)) c.path v (record_of s id t)) (sym e) ∙ h)) tt)

      written_both : IsWrite c.verb → (t u : Tree) → Alike t u → IsOpen t → IsOpen u → record_of n newer t ≡ record_of n newer u → Alike (edit o older c t) (edit n newer c u)
      written_both write t u a x y same = by (step n newer c (record_of n newer u)) refl
        where
          by : (z : Outcome Record) → step n newer c (record_of n newer u) ≡ z → Alike (edit o older c t) (edit n newer c u)
          by (done r) e = written-alike o n c whole older newer words follows t u a x y (projected o older r) r (older-outcome write t u same ∙ ap (outcome_map (projected o older)) e) e
          by (refused k) e = neither t u a (λ r h. cc (sym (older-outcome write t u same ∙ ap (outcome_map (projected o older)) e) ∙ h)) (λ r h. cc (sym e ∙ h))
          by (shown how z) e = neither t u a (λ r h. cc (sym (older-outcome write t u same ∙ ap (outcome_map (projected o older)) e) ∙ h)) (λ r h. cc (sym e ∙ h))

      -- THE LAW: values of one trimmed value and one newer record
      pub versions-alike : (t u : Tree) → Alike t u → IsOpen t → IsOpen u → record_of n newer t ≡ record_of n newer u → Alike (edit o older c t) (edit n newer c u)
      versions-alike t u a x y same = by c.verb refl
        where
          by : (v : Verb) → c.verb ≡ v → Alike (edit o older c t) (edit n newer c u)
          by get e = neither t u a (never_done o older t e) (never_done n newer u e)
          by (set_to w) e = written_both (subst IsWrite (sym e) tt) t u a x y same
          by init e = written_both (subst IsWrite (sym e) tt) t u a x y same
          by (initn k) e = written_both (subst IsWrite (sym e) tt) t u a x y same
          by clear e = written_both (subst IsWrite (sym e) tt) t u a x y same

    -- the replies, unless it is a `get`
    pub replies-same : (quoted : List ℕ → List ℕ) (t u : Tree) → record_of n newer t ≡ record_of n newer u → SameUnlessGet c.verb (reply_of o quoted (step o older c (record_of o older t))) (reply_of n quoted (step n newer c (record_of n newer u)))
    replies-same quoted t u same = by c.verb (λ w. same-reply w quoted t u same)
      where
        by : (v : Verb) → (IsWrite v → reply_of o quoted (step o older c (record_of o older t)) ≡ reply_of n quoted (step n newer c (record_of n newer u)))
            → SameUnlessGet v (reply_of o quoted (step o older c (record_of o older t))) (reply_of n quoted (step n newer c (record_of n newer u)))
        by get h = tt
        by (set_to w) h = h tt
        by init h = h tt
        by (initn k) h = h tt
        by clear h = h tt

  -- ---- calls in turn

  same_records : (t u : Tree) → trim t ≡ trim u → in_kind n u (struct newer) ≡ true → (in_kind n t (struct newer) ≡ true) × (record_of n newer t ≡ record_of n newer u)
  same_records t u e kind =
      let there : in_kind n t (struct newer) ≡ true = sym (in_kind-trim n t (struct newer)) ∙ ap (λ z. in_kind n z (struct newer)) e ∙ in_kind-trim n u (struct newer) ∙ kind in
      (there, sym (trimmed_record n newer t there) ∙ ap (record_of n newer) e ∙ trimmed_record n newer u kind)

  -- what stands after calls under both
  pub record AreAfter (quoted : List ℕ → List ℕ) (calls : List Call) (t u : Tree) : Type 0 where
    pub alike : Alike (edits o older calls t) (edits n newer calls u)
    pub replied : SameReplies calls (replies o quoted older calls t) (replies n quoted newer calls u)

  pub are-after : (quoted : List ℕ → List ℕ) (calls : List Call) → AllByRecursion (λ c. IsAdmitted o n older newer c) calls → AllByRecursion (λ c. IsWholeVerb c.verb) calls → (t u : Tree) → Alike t u → IsOpen t → IsStart nodes' newer calls u → AreAfter quoted calls t u
  unfolding edits replies
  are-after quoted [] admitted whole t u a x start = record { alike = a; replied = tt }
  are-after quoted (c ∷ cs) admitted whole t u a x start =
      let same = (same_records t u a.trims start.kinds.of_tree).1 in
      let rest = are-after quoted cs admitted.1 whole.1 (edit o older c t) (edit n newer c u) (versions-alike c admitted.0 whole.0 t u a x start.opens same) (edit_open o older c t x) (next_start nodes' newer c cs u start) in
      record { alike = rest.alike; replied = (replies-same c admitted.0 quoted t u same, rest.replied) }

  -- ---- the laws
  edits-across : (c : Call) → IsAdmitted o n older newer c → IsWholeVerb c.verb → (t : Tree) → IsWhole t → IsOpen t → trim (edit o older c t) ≡ trim (edit n newer c t)
  edits-across c admitted whole t h x = (versions-alike c admitted whole t t (alike-self t h) x x refl).trims

  pub calls-across : (calls : List Call) → AllByRecursion (λ c. IsAdmitted o n older newer c) calls → AllByRecursion (λ c. IsWholeVerb c.verb) calls → (t : Tree) → IsWhole t → IsStart nodes' newer calls t → trim (edits o older calls t) ≡ trim (edits n newer calls t)
  calls-across calls admitted whole t h start = (are-after (λ bs. bs) calls admitted whole t t (alike-self t h) start.opens start).alike.trims

  pub records-across : (calls : List Call) → AllByRecursion (λ c. IsAdmitted o n older newer c) calls → AllByRecursion (λ c. IsWholeVerb c.verb) calls → (t : Tree) → IsWhole t → IsStart nodes' newer calls t
      → record_of n newer (trim (edits o older calls t)) ≡ records_after n newer calls (record_of n newer t)
  records-across calls admitted whole t h start =
      let last = last_start nodes' newer calls t start in
      let both = same_records (edits o older calls t) (edits n newer calls t) (calls-across calls admitted whole t h start) last.kinds.of_tree in
      trimmed_record n newer (edits o older calls t) both.0 ∙ both.1 ∙ record_after_calls nodes' newer calls t start

  pub replies-across : (quoted : List ℕ → List ℕ) (calls : List Call) → AllByRecursion (λ c. IsAdmitted o n older newer c) calls → AllByRecursion (λ c. IsWholeVerb c.verb) calls → (t : Tree) → IsWhole t → IsStart nodes' newer calls t
      → SameReplies calls (replies o quoted older calls t) (record_replies n quoted newer calls (record_of n newer t))
  replies-across quoted calls admitted whole t h start =
      subst (SameReplies calls (replies o quoted older calls t)) (replies_to_calls nodes' newer quoted calls t start) (are-after quoted calls admitted whole t t (alike-self t h) start.opens start).replied

-- THE LAWS
is-older : (v : TwoVersions) → AreCompatible v → IsOlderOf (older v) (newer v) v.older_root v.newer_root
is-older v h = accepted-older v.older_nodes v.newer_nodes v.older_root v.newer_root h.older_accepted h.compatible

pub steps-across-versions : (v : TwoVersions) (c : Call) (t : Tree) → CanStep v c → step (older v) v.older_root c (older_view v (newer_record v t)) ≡ outcome_map (older_view v) (step (newer v) v.newer_root c (newer_record v t))
steps-across-versions v c t h = older-step (older v) v.newer_nodes h.versions.newer_accepted v.older_root v.newer_root (is-older v h.versions) c h.admitted h.writes t

pub edits-across-versions : (v : TwoVersions) (c : Call) (t : Tree) → CanEdit v c t → trim (edit (older v) v.older_root c t) ≡ trim (edit (newer v) v.newer_root c t)
edits-across-versions v c t h = edits-across (older v) v.newer_nodes h.versions.newer_accepted v.older_root v.newer_root (is-older v h.versions) c h.admitted h.whole_verb t h.whole h.opens

pub values-across-versions : (v : TwoVersions) (calls : List Call) (t : Tree) → CanRun v calls t → trim (edits (older v) v.older_root calls t) ≡ trim (edits (newer v) v.newer_root calls t)
values-across-versions v calls t h = calls-across (older v) v.newer_nodes h.versions.newer_accepted v.older_root v.newer_root (is-older v h.versions) calls h.admitted h.whole_verbs t h.whole h.start

pub records-across-versions : (v : TwoVersions) (calls : List Call) (t : Tree) → CanRun v calls t → newer_record v (trim (edits (older v) v.older_root calls t)) ≡ records_after (newer v) v.newer_root calls (newer_record v t)
records-across-versions v calls t h = records-across (older v) v.newer_nodes h.versions.newer_accepted v.older_root v.newer_root (is-older v h.versions) calls h.admitted h.whole_verbs t h.whole h.start

pub replies-across-versions : (v : TwoVersions) (calls : List Call) (t : Tree) (quoted : List ℕ → List ℕ) → CanRun v calls t
    → SameReplies calls (replies (older v) quoted v.older_root calls t) (record_replies (newer v) quoted v.newer_root calls (newer_record v t))
replies-across-versions v calls t quoted h = replies-across (older v) v.newer_nodes h.versions.newer_accepted v.older_root v.newer_root (is-older v h.versions) quoted calls h.admitted h.whole_verbs t h.whole h.start
