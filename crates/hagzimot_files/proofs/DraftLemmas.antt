-- What the calls of a draft leave under each name.
use Rattle.std.proofs.Common.{◌≡◌, inl, inr, zero, suc, Bool, true, false, Option, None, option_map, List, ◌∷◌, bytes_eq, IsTrue, refl, sym, ap, ap₂, subst, ◌∙◌, arith, true≢false}
use Rattle.std.proofs.lemmas.Bool.{false_from_ne_true}
use Rattle.std.proofs.lemmas.Slice.Eq.{bytes_eq-Decides}
use Rattle.hagzimot_files.specs.Calls.{Name, FileContent, FileTree, FileCall, put, synced, renamed_to, removed, synced_names, as_synced, tree_after}
use Rattle.hagzimot_files.specs.Drafts.{held_after, ready, Throughout, KeepsOthers, ReplacesFile, HasSyncedNames, IsOldOrNew, made_ready, with_synced_names, MayRemove}

put_here : (name : Name) (content : Option FileContent) (held : Name → Option FileContent) → put name content held name ≡ content
unfolding put
put_here name content held = rw ((bytes_eq-Decides name name).1 refl) refl

put_else : (other name : Name) (content : Option FileContent) (held : Name → Option FileContent) → bytes_eq other name ≡ false → put name content held other ≡ held other
unfolding put
put_else other name content held ne = rw ne refl

differs_back : (a b : Name) → bytes_eq a b ≡ false → bytes_eq b a ≡ false
differs_back a b ne = false_from_ne_true (bytes_eq b a) (λ same. true≢false (sym ((bytes_eq-Decides a b).1 (sym ((bytes_eq-Decides b a).0 same))) ∙ ne))

throughout_here : (P : List FileCall → Type 0) (old : List FileCall) → P old → Throughout P old old
throughout_here P old p zero few = p
throughout_here P old p (suc count) few = absurd (omega (arith, few))

throughout_next : (P : List FileCall → Type 0) (old new : List FileCall) (call : FileCall) → P (call ∷ new) → Throughout P old new → Throughout P old (call ∷ new)
throughout_next P old new call p before zero few = p
throughout_next P old new call p before (suc count) few = before count (omega (arith, few))

keeps_same : (draft : Name) (old : List FileCall) → KeepsOthers draft old old
keeps_same draft old start other ne = refl

keeps_both : (draft : Name) (old mid new : List FileCall) → KeepsOthers draft old mid → KeepsOthers draft mid new → KeepsOthers draft old new
keeps_both draft old mid new first then start other ne = then start other ne ∙ first start other ne

removed_keeps : (draft : Name) (old : List FileCall) → KeepsOthers draft old (removed draft ∷ old)
removed_keeps draft old start other ne = put_else other draft None (tree_after start old).held ne

ready_keeps : (sync : Bool) (draft : Name) (old : List FileCall) → KeepsOthers draft old (made_ready sync draft old)
ready_keeps true draft old start other ne = put_else other draft (option_map as_synced (held_after start old draft)) (tree_after start old).held ne
ready_keeps false draft old start other ne = refl

ready_holds : (sync : Bool) (draft : Name) (old : List FileCall) (start : FileTree) → held_after start (made_ready sync draft old) draft ≡ ready sync (held_after start old draft)
unfolding ready
ready_holds true draft old start = put_here draft (option_map as_synced (held_after start old draft)) (tree_after start old).held
ready_holds false draft old start = refl

pub may_remove_keeps : (draft : Name) (old new : List FileCall) → MayRemove draft old new → KeepsOthers draft old new
may_remove_keeps draft old new (inl same) = rw same (keeps_same draft old)
may_remove_keeps draft old new (inr is) = rw is (removed_keeps draft old)

module _ (draft path : Name) (sync : Bool) (old : List FileCall) (ne : bytes_eq path draft ≡ false) where
  abbrev mid : List FileCall
  mid = made_ready sync draft old

  abbrev P : List FileCall → Type 0
  P = IsOldOrNew draft path sync old

  ready_moments : (s : Bool) → Throughout P old (made_ready s draft old)
  ready_moments true = throughout_next P old old (synced draft) (inl (ready_keeps true draft old)) (throughout_here P old (inl (keeps_same draft old)))
  ready_moments false = throughout_here P old (inl (keeps_same draft old))

  given_up_moments : (before new : List FileCall) → KeepsOthers draft old before → Throughout P old before → MayRemove draft before new → Throughout P old new
  given_up_moments before new keeps moments (inl same) = rw same moments
  given_up_moments before new keeps moments (inr is) = rw is (throughout_next P old before (removed draft) (inl (keeps_both draft old before (removed draft ∷ before) keeps (removed_keeps draft before))) moments)

  -- a draft that isn't ready is given up
  pub unready : (before new : List FileCall) → before ≡ old → MayRemove draft before new → KeepsOthers draft old new × Throughout P old new
  unready before new same is =
      let at_old : MayRemove draft old new = subst (λ b. MayRemove draft b new) same is in
      (may_remove_keeps draft old new at_old, given_up_moments old new (keeps_same draft old) (throughout_here P old (inl (keeps_same draft old))) at_old)

  -- a draft that can't have its name is given up
  pub unnamed : (flag : Bool) (ready failed new : List FileCall) → flag ≡ sync → ready ≡ made_ready flag draft old → failed ≡ ready → MayRemove draft failed new
      → KeepsOthers draft old new × Throughout P old new
  unnamed flag ready failed new is_sync is_ready same is =
      let at_mid : MayRemove draft mid new = subst (λ b. MayRemove draft b new) (same ∙ (is_ready ∙ ap (λ s. made_ready s draft old) is_sync)) is in (
        keeps_both draft old mid new (ready_keeps sync draft old) (may_remove_keeps draft mid new at_mid),
        given_up_moments mid new (ready_keeps sync draft old) (ready_moments sync) at_mid,
      )

  -- a draft that has its name
  named_replaces : ReplacesFile draft path sync old (renamed_to draft path ∷ mid)
  named_replaces = record {
    held = λ start. put_here path (held_after start mid draft) (put draft None (tree_after start mid).held) ∙ ready_holds sync draft old start;
    gone = λ start. put_else draft path (held_after start mid draft) (put draft None (tree_after start mid).held) (differs_back path draft ne) ∙ put_here draft None (tree_after start mid).held;
    others = λ start other other_draft other_path. put_else other path (held_after start mid draft) (put draft None (tree_after start mid).held) other_path
        ∙ (put_else other draft None (tree_after start mid).held other_draft ∙ ready_keeps sync draft old start other other_draft);
  }

  named_moments : Throughout P old (renamed_to draft path ∷ mid)
  named_moments = throughout_next P old mid (renamed_to draft path) (inr named_replaces) (ready_moments sync)

  named_is : (flag : Bool) (to : Name) (ready named : List FileCall) → flag ≡ sync → to ≡ path → ready ≡ made_ready flag draft old → named ≡ renamed_to draft to ∷ ready → named ≡ renamed_to draft path ∷ mid
  named_is flag to ready named is_sync is_path is_ready is =
      is ∙ ap₂ (λ t r. renamed_to draft t ∷ r) is_path (is_ready ∙ ap (λ s. made_ready s draft old) is_sync)

  -- a draft whose name could not be synced
  pub unsynced : (flag : Bool) (to : Name) (ready named new : List FileCall) → flag ≡ sync → to ≡ path → ready ≡ made_ready flag draft old → named ≡ renamed_to draft to ∷ ready → new ≡ named
      → ReplacesFile draft path sync old new × Throughout P old new
  unsynced flag to ready named new is_sync is_path is_ready is same =
      rw (same ∙ named_is flag to ready named is_sync is_path is_ready is) (named_replaces, named_moments)

  ended_replaces : (s : Bool) → ReplacesFile draft path sync old (with_synced_names s (renamed_to draft path ∷ mid))
  ended_replaces true = record { held = named_replaces.held; gone = named_replaces.gone; others = named_replaces.others }
  ended_replaces false = named_replaces

  ended_moments : (s : Bool) → Throughout P old (with_synced_names s (renamed_to draft path ∷ mid))
  ended_moments true = throughout_next P old (renamed_to draft path ∷ mid) synced_names (inr (ended_replaces true)) named_moments
  ended_moments false = named_moments

  ended_lasts : (s : Bool) (calls : List FileCall) → IsTrue s → HasSyncedNames (with_synced_names s calls)
  ended_lasts true calls is = λ start. refl
  ended_lasts false calls is = absurd (true≢false (sym is))

  -- a draft that has its name for good
  pub ended : (flag : Bool) (to : Name) (ready named new : List FileCall) → flag ≡ sync → to ≡ path → ready ≡ made_ready flag draft old → named ≡ renamed_to draft to ∷ ready → new ≡ with_synced_names sync named
      → ReplacesFile draft path sync old new × (IsTrue sync → HasSyncedNames new) × Throughout P old new
  ended flag to ready named new is_sync is_path is_ready is is_new =
      rw (is_new ∙ ap (with_synced_names sync) (named_is flag to ready named is_sync is_path is_ready is)) (ended_replaces sync, ended_lasts sync (renamed_to draft path ∷ mid), ended_moments sync)
