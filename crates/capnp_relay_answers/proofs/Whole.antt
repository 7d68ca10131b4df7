-- What is answered to a message, from what is answered at its opened root.
use Rattle.std.proofs.Common.{◌≡◌, ℕ, zero, suc, pos, ◌+◌, ◌<◌, ◌≤◌, ◌^◌, true, false, Option, Some, None, List, [], ◌∷◌, ◌++◌, length, refl, ap, sym, ◌∙◌, subst, inl, inr, append-nil, arith}
use Rattle.std.specs.Prelude.{slice_get, take, ◌⊎◌}
use Rattle.std.specs.Int.{from_le_bytes, w64}
use Rattle.capnp_model.specs.Segments.{Segments, root}
use Rattle.capnp_model.specs.Trees.{Tree, null, capability, structure, plain_list, pointer_list, struct_list, depth}
use Rattle.capnp_model.specs.Fits.{Fits}
use Rattle.capnp_model.specs.Trimming.{trim}
use Rattle.capnp_model.specs.Encoding.{canonical_words}
use Rattle.capnp_model.specs.Calls.{Call}
use Rattle.capnp_model.specs.Answers.{Answer, refused_root, answer, answer_value, answer_struct, opened_root, widened_root, value_within, edits}
use Rattle.capnp_values_queries.specs.Structs.{schema_around, shape_of_struct, id_of}
use Rattle.capnp_values_queries.specs.declared.structs.StructSchema.{StructSchema}
use Rattle.capnp_calls.specs.LongLists.{LongInTurn}
use Rattle.capnp_model.specs.Printing.{as_it_is}
use Rattle.capnp_wire_canonical.specs.Writes.{filled, words_view}
use Rattle.capnp_model_writes.specs.Footprints.{Owns}
use Rattle.capnp_calls_run.specs.Runs.{EndsLongRoot}
use Rattle.capnp_calls_run.specs.declared.fault.RunFault.{RunFault}
use Rattle.capnp_calls_run.specs.declared.fault.RunFault.TheVariants as faults
use Rattle.capnp_model.proofs.lemmas.Lists.{length-take-short}
use Rattle.capnp_relay_answers.specs.Bounds.{limits_view}
use Rattle.capnp_relay_answers.specs.declared.bounds.Bounds.{Bounds}
use Rattle.capnp_relay_loop.specs.MessageAnswers.{answer_view}
use Rattle.capnp_relay_answers.specs.Answers.{AnswersRoot, AnswersStruct, AnswersWords, IsAnswered, MeansTree, LongFrom, LongFromWords, IsTooLargeFrom, MakesTooLarge}
use Rattle.capnp_relay_answers.specs.Reading.{ReadsValue, can_be_opened}
use Rattle.capnp_relay_answers.specs.Sizes.{EndsBySize, MayPassWords}
use Rattle.capnp_relay_loop.specs.declared.answer.MessageAnswer.{MessageAnswer}
use Rattle.capnp_relay_loop.specs.declared.answer.MessageAnswer.TheVariants as answers
use Rattle.capnp_relay_loop.specs.declared.answer.Reason.TheVariants as reasons

pub one_value : (t u : Tree) → Some t ≡ Some u → t ≡ u
one_value t u e = cc

-- ---- from a value's canonical words

pub view_front : (n : ℕ) (words : List (List ℕ)) → words_view (take n words) ≡ filled n words
view_front zero words = refl
view_front (suc n) [] = refl
view_front (suc n) (w ∷ ws) = ap (λ xs. from_le_bytes w64 w ∷ xs) (view_front n ws)

pub length_filled : (count : ℕ) (into : List (List ℕ)) → length (filled count into) ≤ count
length_filled count into = length-take-short count (words_view into)

-- how canonical words are owned
abbrev pub OwnsWords : Type 0
OwnsWords = (t : Tree) (n : ℕ) (s : Segments) (more : List ℕ) → Fits t → depth t ≤ n → length (canonical_words t) ≤ 2 ^ 29 → slice_get s 0 ≡ Some (canonical_words t ++ more) → Owns n s root t

-- a value whose canonical words are the one segment
pub owned_alone : OwnsWords → (levels : ℕ) (s : Segments) (words : List ℕ) (t : Tree) → s ≡ words ∷ [] → length words < 2 ^ 29 → Fits t → depth t ≤ levels → words ≡ canonical_words t → Owns (suc (2 ^ 29 + levels)) s root t
owned_alone owned levels s words t is few fits deep same =
    let first : slice_get s 0 ≡ Some (canonical_words t ++ []) = ap (λ x. slice_get x 0) (is ∙ ap (λ ws. ws ∷ []) same) ∙ ap (λ ws. Some ws) (sym (append-nil (canonical_words t))) in
    owned t (suc (2 ^ 29 + levels)) s [] fits (omega (arith, deep)) (omega (arith, few, ap length same)) first

module _ (schema : StructSchema) (calls : List Call) where
  pub at_words : OwnsWords → (levels : ℕ) (s : Segments) (words : List ℕ) (into : List (List ℕ)) (a : MessageAnswer) → s ≡ words ∷ [] → length words < 2 ^ 29 → AnswersRoot schema calls levels s into a → AnswersWords schema calls levels words into a
  at_words owned levels s words into a is few all t fits deep same = all (2 ^ 29 + levels) t (omega arith) (owned_alone owned levels s words t is few fits deep same)

  pub long_words : OwnsWords → (levels : ℕ) (s : Segments) (words : List ℕ) → s ≡ words ∷ [] → length words < 2 ^ 29 → EndsLongRoot s schema calls → LongFromWords schema calls levels words
  long_words owned levels s words is few long t fits deep same = long (2 ^ 29 + levels) t (omega arith) (owned_alone owned levels s words t is few fits deep same)

  -- ---- from a value within the bounds

  pub opened_is : (t : Tree) → opened_root (schema_around schema) (id_of schema) t ≡ widened_root (shape_of_struct schema) (trim t)
  unfolding opened_root
  opened_is t = refl

  abbrev pub answer_to : ℕ → Option Tree → Answer
  answer_to nesting t = answer_value (schema_around schema) as_it_is (id_of schema) calls (pos nesting) t

  abbrev answer_at : ℕ → Tree → Answer
  answer_at nesting t = answer_struct (schema_around schema) as_it_is (id_of schema) calls (pos nesting) (opened_root (schema_around schema) (id_of schema) t)

  pub at_opened : (nesting : ℕ) (t : Tree) → can_be_opened (trim t) ≡ true → answer_to nesting (Some t) ≡ answer_at nesting t
  unfolding trim
  at_opened nesting null e = refl
  at_opened nesting (structure words section kids) e = refl
  at_opened nesting (capability i) e = absurd cc
  at_opened nesting (plain_list size n section) e = absurd cc
  at_opened nesting (pointer_list ts) e = absurd cc
  at_opened nesting (struct_list d k es) e = absurd cc

  at_list : (nesting : ℕ) (t : Tree) → can_be_opened (trim t) ≡ false → answer_to nesting (Some t) ≡ refused_root
  unfolding trim
  at_list nesting null e = absurd cc
  at_list nesting (structure words section kids) e = absurd cc
  at_list nesting (capability i) e = refl
  at_list nesting (plain_list size n section) e = refl
  at_list nesting (pointer_list ts) e = refl
  at_list nesting (struct_list d k es) e = refl

  pub long_opened : (t : Tree) → can_be_opened (trim t) ≡ true → LongInTurn schema calls (opened_root (schema_around schema) (id_of schema) t) → LongFrom schema calls (Some t)
  unfolding trim
  long_opened null e long = long
  long_opened (structure words section kids) e long = long
  long_opened (capability i) e long = absurd cc
  long_opened (plain_list size n section) e long = absurd cc
  long_opened (pointer_list ts) e long = absurd cc
  long_opened (struct_list d k es) e long = absurd cc

  module _ (bounds : Bounds) (s : Segments) where
    pub answer_is : answer (schema_around schema) as_it_is (id_of schema) calls (limits_view bounds) s ≡ answer_to bounds.nesting (value_within (limits_view bounds) s)
    unfolding answer
    answer_is = refl

    pub no_value : (into : List (List ℕ)) → value_within (limits_view bounds) s ≡ None → IsAnswered schema calls bounds s into (answers.Refused reasons.Value)
    no_value into none =
        record {
          same = sym (answer_is ∙ ap (answer_to bounds.nesting) none);
          means = λ t is. tt;
          stands = tt;
        }

    pub no_struct : (old into : List (List ℕ)) (count : ℕ) → (r : ReadsValue bounds s old count) → can_be_opened (trim r.value) ≡ false → IsAnswered schema calls bounds s into (answers.Refused reasons.Root)
    no_struct old into count r list =
        record {
          same = sym (answer_is ∙ ap (answer_to bounds.nesting) r.within ∙ at_list bounds.nesting r.value list);
          means = λ t is. tt;
          stands = tt;
        }

    pub at_struct : (old into : List (List ℕ)) (count : ℕ) (a : MessageAnswer) → (r : ReadsValue bounds s old count) → can_be_opened (trim r.value) ≡ true
        → AnswersStruct schema calls bounds.nesting into (widened_root (shape_of_struct schema) (trim r.value)) a → IsAnswered schema calls bounds s into a
    at_struct old into count a r opens made =
        let opened = opened_is r.value in
        record {
          same = made.same ∙ ap (answer_struct (schema_around schema) as_it_is (id_of schema) calls (pos bounds.nesting)) (sym opened) ∙ sym (answer_is ∙ ap (answer_to bounds.nesting) r.within ∙ at_opened bounds.nesting r.value opens);
          means = λ t is. subst (λ x. MeansTree bounds.nesting (trim (edits (schema_around schema) (id_of schema) calls x)) (answer_view into a)) (sym opened ∙ ap (opened_root (schema_around schema) (id_of schema)) (one_value r.value t (sym r.within ∙ is))) made.means;
          stands = made.stands;
        }

    pub at_value : (old into : List (List ℕ)) (count : ℕ) (a : MessageAnswer) → (r : ReadsValue bounds s old count) → can_be_opened (trim r.value) ≡ true
        → AnswersWords schema calls bounds.nesting (filled count old) into a → IsAnswered schema calls bounds s into a
    at_value old into count a r opens all = at_struct old into count a r opens (all (trim r.value) r.fits r.deep r.words)

    pub too_large : (old : List (List ℕ)) (count : ℕ) → (r : ReadsValue bounds s old count) → can_be_opened (trim r.value) ≡ true → IsTooLargeFrom schema calls bounds (filled count old) → MakesTooLarge schema calls bounds s
    too_large old count r opens (inl long) =
        let made = long (trim r.value) r.fits r.deep r.words in
        inl (subst (LongFrom schema calls) (sym r.within) (long_opened r.value opens (subst (LongInTurn schema calls) (sym (opened_is r.value)) made)))
    too_large old count r opens (inr passes) = inr passes

-- ---- what is wanted

-- a run that is told as too large puts a long list, or its words may pass those of a message
pub too_long : {Long : Type 0} (schema : StructSchema) (calls : List Call) (bounds : Bounds) (f : RunFault) → (f ≡ faults.Size → Long) → EndsBySize f schema calls bounds → Long ⊎ MayPassWords schema calls bounds
too_long schema calls bounds faults.Size long ends = inl (long refl)
too_long schema calls bounds (faults.Refused e) long ends = inr ends.1
