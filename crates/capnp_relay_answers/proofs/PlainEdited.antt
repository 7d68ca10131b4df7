-- What calls make of a value that is owned alone, and how its segments go out.
use Rattle.std.proofs.Common.{◌≡◌, ℕ, zero, suc, pos, ◌+◌, ◌<◌, ◌≤◌, ◌^◌, true, false, Some, List, [], ◌∷◌, ◌++◌, length, refl, ap, sym, ◌∙◌, subst, inl, inr, append-nil, arith}
use Rattle.std.specs.Prelude.{nat_le, slice_get, ◌⊎◌}
use Rattle.std.proofs.lemmas.Bool.Decides.{nat_tests}
use Rattle.std.proofs.lemmas.Option.{slice_get_within}
use Rattle.capnp_model.specs.Segments.{Segments, Place, place, root, word_at}
use Rattle.capnp_model.specs.Trees.{Tree, depth}
use Rattle.capnp_model.specs.Fits.{Fits}
use Rattle.capnp_model.specs.Means.{Means}
use Rattle.capnp_model.specs.Encoding.{canonical_words}
use Rattle.capnp_model.specs.Coverage.{span, times_held}
use Rattle.capnp_model.specs.Traversal.{tree_at}
use Rattle.capnp_model.specs.Calls.{Call}
use Rattle.capnp_model.specs.Answers.{Reply as ModelReply, answer_struct, edits, widened_root}
use Rattle.capnp_model.specs.Printing.{as_it_is}
use Rattle.capnp_values_queries.specs.Structs.{schema_around, shape_of_struct, id_of}
use Rattle.capnp_values_queries.specs.declared.structs.StructSchema.{StructSchema}
use Rattle.capnp_model_writes.specs.Footprints.{footprint, Owns}
use Rattle.capnp_model_writes.specs.Changes.{Replaces, ZeroBeside}
use Rattle.capnp_model_writes.proofs.lemmas.Spans.{held_is, held_in}
use Rattle.capnp_calls_run.specs.Runs.{RunsRoot, EndsLongRoot}
use Rattle.capnp_relay_answers.specs.declared.bounds.Bounds.{Bounds}
use Rattle.capnp_relay_answers.specs.Sizes.{MayPassWords}
use Rattle.capnp_relay_loop.specs.declared.answer.MessageAnswer.{MessageAnswer}
use Rattle.capnp_relay_loop.specs.declared.answer.MessageAnswer.TheVariants as answers
use Rattle.capnp_relay_loop.specs.declared.answer.Reason.TheVariants as reasons
use Rattle.capnp_relay_answers.specs.Plain.{AnswersPlainStruct, AreTooMany, AtRoot, AtWords, IsLongPlain, MeansAlone, NothingBeside, PutsOut, WritesPlain, with_segments, written_segments}
use Rattle.capnp_relay_answers.proofs.Edited.{answers_written, answers_deep}
use Rattle.capnp_relay_answers.proofs.Whole.{OwnsWords, owned_alone}

-- what the laws of values say
pub record PlainLaws : Type 0 where
  pub after : (n : ℕ) (s u : Segments) (p : Place) (t v : Tree) → Owns n s p t → Replaces n s u p v → Owns n u p v
  pub zeros : (n : ℕ) (s u : Segments) (p : Place) (v : Tree) → Replaces n s u p v → ZeroBeside s (footprint n s p) → ZeroBeside u (footprint n u p)
  pub fewer : (n m : ℕ) (s u : Segments) (p : Place) (t v : Tree) → depth t ≤ m → depth v ≤ m → Owns n s p t → Replaces n s u p v → Replaces m s u p v
  pub meant : (n : ℕ) (s : Segments) (p : Place) (t : Tree) → tree_at n s p ≡ Some t → Means n s p t
  pub one : (n m : ℕ) (s : Segments) (p : Place) (t u : Tree) → Means n s p t → Means m s p u → t ≡ u
  pub deep : (n : ℕ) (s : Segments) (p : Place) (t : Tree) → tree_at n s p ≡ Some t → depth t ≤ n

-- a root that has a value has a segment
pub has_segment : (n : ℕ) (s : Segments) (t : Tree) → tree_at n s root ≡ Some t → 0 < length s
unfolding tree_at
has_segment zero [] t there = absurd cc
has_segment (suc n) [] t there = absurd cc
has_segment n (xs ∷ s) t there = omega arith

module _ (laws : PlainLaws) (s u : Segments) (schema : StructSchema) (calls : List Call) (levels : ℕ) (told : List ModelReply) (runs : RunsRoot s u schema calls told) where
  abbrev opened : Tree → Tree
  opened t = widened_root (shape_of_struct schema) t

  abbrev after_calls : Tree → Tree
  after_calls t = edits (schema_around schema) (id_of schema) calls t

  -- what is built means the value after the calls, alone
  pub means_alone : (n : ℕ) (t : Tree) → 2 ^ 29 ≤ n → depth t ≤ levels → Owns (suc n) s root t → NothingBeside levels s → (v : Tree) → tree_at levels u root ≡ Some v → MeansAlone levels (after_calls (opened t)) u
  means_alone n t most low owns zeros v kept =
      let run = runs n t most owns in
      let e = run.0 in
      let now = laws.after (suc n) s u root t e owns run.1 in
      let is : v ≡ e = laws.one levels (suc n) u root v e (laws.meant levels u root v kept) (laws.meant (suc n) u root e now.means) in
      let there : tree_at levels u root ≡ Some e = kept ∙ ap (λ x. Some x) is in
      let shallow : depth e ≤ levels = laws.deep levels u root e there in
      let alone : MeansAlone levels e u = record { means = there; zeros = laws.zeros levels s u root e (laws.fewer (suc n) levels s u root t e low shallow owns run.1) zeros } in
      subst (λ x. MeansAlone levels x u) run.2.tree alone

  -- what goes out is the answer
  pub plain_root : (into : List (List ℕ)) (a : MessageAnswer) → PutsOut u told into a → (v : Tree) → tree_at levels u root ≡ Some v → AtRoot schema levels s (λ t. AnswersPlainStruct schema calls levels into t a)
  plain_root into a puts v kept n t most low owns zeros =
      let run = runs n t most owns in
      let alone = means_alone n t most low owns zeros v kept in
      let deep : depth (after_calls (opened t)) ≤ levels = laws.deep levels u root (after_calls (opened t)) alone.means in
      let keeps : nat_le (depth (after_calls (opened t))) levels ≡ true = grind (arith, nat_tests) in
      let model = answer_struct (schema_around schema) as_it_is (id_of schema) calls (pos levels) (opened t) in
      record {
        same = puts.view ∙ ap (with_segments u) (answers_written schema calls levels (opened t) (after_calls (opened t)) told refl run.2.replied keeps) ∙ ap (λ x. with_segments (written_segments x) model) (sym puts.view);
        plain = subst (WritesPlain levels (after_calls (opened t))) (sym puts.view) (record { some = has_segment levels u v kept; few = puts.few; small = puts.small; alone = alone });
        stands = puts.stands;
      }

  -- a value that is too deep
  pub plain_deep : (into : List (List ℕ)) → ((n : ℕ) (t : Tree) → tree_at n u root ≡ Some t → levels < depth t) → AtRoot schema levels s (λ t. AnswersPlainStruct schema calls levels into t (answers.Refused reasons.Depth))
  plain_deep into deeper n t most low owns zeros =
      let run = runs n t most owns in
      let now = laws.after (suc n) s u root t run.0 owns run.1 in
      let far = deeper (suc n) run.0 now.means in
      let keeps : nat_le (depth run.0) levels ≡ false = grind (arith, nat_tests) in
      record {
        same = ap (with_segments []) (answers_deep schema calls levels (opened t) run.0 run.2.tree keeps);
        plain = tt;
        stands = tt;
      }

  -- more segments than go out
  pub plain_many : (bounds : Bounds) → levels ≡ bounds.nesting → 511 < length u → (v : Tree) → tree_at levels u root ≡ Some v → AtRoot schema levels s (IsLongPlain schema calls bounds)
  plain_many bounds same many v kept n t most low owns zeros =
      inr (subst (λ n. AreTooMany n (edits (schema_around schema) (id_of schema) calls (opened t))) same (u, many, means_alone n t most low owns zeros v kept))

-- a list that is too long, or words that may pass those of a message
pub plain_long : (s : Segments) (schema : StructSchema) (calls : List Call) (bounds : Bounds) → EndsLongRoot s schema calls ⊎ MayPassWords schema calls bounds → AtRoot schema bounds.nesting s (IsLongPlain schema calls bounds)
plain_long s schema calls bounds (inl long) n t most low owns zeros = inl (inl (long n t most owns))
plain_long s schema calls bounds (inr passes) n t most low owns zeros = inl (inr passes)

-- ---- from a value's canonical words

-- how many words canonical words take
abbrev pub TakesWords : Type 0
TakesWords =
    (t : Tree) (n : ℕ) (s : Segments) (more : List ℕ) (q : Place) → Fits t → depth t ≤ n → length (canonical_words t) ≤ 2 ^ 29 → slice_get s 0 ≡ Some (canonical_words t ++ more)
    → footprint n s root q ≡ times_held (span root (length (canonical_words t)) ∷ []) q

inside_alone : (words : List ℕ) (i k w : ℕ) → word_at (words ∷ []) (place i k) ≡ Some w → (0 ≡ i) × (k < length words)
inside_alone words zero k w there = (refl, slice_get_within words k w there)
inside_alone words (suc i) k w there = absurd cc

-- no word is beside canonical words that are the one segment
words_alone : TakesWords → (levels : ℕ) (s : Segments) (words : List ℕ) (t : Tree) → s ≡ words ∷ [] → length words < 2 ^ 29 → Fits t → depth t ≤ levels → words ≡ canonical_words t → NothingBeside levels s
words_alone takes levels s words t is few fits deep same q w there none =
    let first : slice_get s 0 ≡ Some (canonical_words t ++ []) = ap (λ x. slice_get x 0) (is ∙ ap (λ ws. ws ∷ []) same) ∙ ap (λ ws. Some ws) (sym (append-nil (canonical_words t))) in
    let long = ap length same in
    let taken = takes t levels s [] q fits deep (omega (arith, few, long)) first in
    let at = inside_alone words q.segment q.position w (ap (λ x. word_at x q) (sym is) ∙ there) in
    let k = length (canonical_words t) in
    let one = held_in root k q at.0 (omega arith) (omega (arith, at.1, long)) in
    absurd (omega (arith, none, taken, held_is root k [] q, one))

module _ (schema : StructSchema) (Holds : Tree → Type 0) where
  pub at_plain_words : OwnsWords → TakesWords → (levels : ℕ) (s : Segments) (words : List ℕ) → s ≡ words ∷ [] → length words < 2 ^ 29 → AtRoot schema levels s Holds → AtWords schema levels words Holds
  at_plain_words owned takes levels s words is few all t fits deep same =
      all (2 ^ 29 + levels) t (omega arith) deep (owned_alone owned levels s words t is few fits deep same) (words_alone takes levels s words t is few fits deep same)
