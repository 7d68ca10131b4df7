-- What calls make of a value that is owned, and what is written of it.
use Rattle.std.proofs.Common.{◌≡◌, ℕ, suc, pos, ◌<◌, ◌≤◌, ◌^◌, true, false, Some, List, [], ◌∷◌, length, map, refl, ap, sym, ◌∙◌, subst, arith}
use Rattle.std.specs.Prelude.{nat_le}
use Rattle.std.proofs.lemmas.Bool.Decides.{nat_tests}
use Rattle.capnp_model.specs.Segments.{Segments, Place, root}
use Rattle.capnp_model.specs.Trees.{Tree, depth}
use Rattle.capnp_model.specs.Fits.{Fits}
use Rattle.capnp_model.specs.Means.{Means}
use Rattle.capnp_model.specs.Trimming.{trim}
use Rattle.capnp_model.specs.Encoding.{canonical_words}
use Rattle.capnp_model.specs.Traversal.{tree_at}
use Rattle.capnp_model.specs.Calls.{Call}
use Rattle.capnp_model.specs.Answers.{Reply as ModelReply, written, refused_depth, answer_struct, edits, replies, widened_root}
use Rattle.capnp_units.specs.declared.limiter.ReadLimiter.{ReadLimiter}
use Rattle.capnp_values_queries.specs.Structs.{schema_around, shape_of_struct, id_of}
use Rattle.capnp_values_queries.specs.declared.structs.StructSchema.{StructSchema}
use Rattle.capnp_calls.specs.Replies.{reply_view}
use Rattle.capnp_model.specs.Printing.{as_it_is}
use Rattle.capnp_calls.specs.declared.reply.Reply.{Reply}
use Rattle.capnp_wire_canonical.specs.Reaches.{reach}
use Rattle.capnp_wire_canonical.specs.Copies.{copy_state, Written}
use Rattle.capnp_wire_canonical.specs.Objects.{canonical_copy}
use Rattle.capnp_wire_canonical.specs.Writes.{filled}
use Rattle.capnp_model_writes.specs.Footprints.{Owns}
use Rattle.capnp_model_writes.specs.Changes.{Replaces}
use Rattle.capnp_calls_run.specs.Runs.{RunsRoot}
use Rattle.capnp_relay_loop.specs.MessageAnswers.{answer_view}
use Rattle.capnp_relay_answers.specs.Answers.{AnswersRoot, MeansTree, StandsAlone}
use Rattle.capnp_relay_answers.proofs.Whole.{length_filled}
use Rattle.capnp_relay_loop.specs.declared.answer.MessageAnswer.{MessageAnswer}
use Rattle.capnp_relay_loop.specs.declared.answer.MessageAnswer.TheVariants as answers
use Rattle.capnp_relay_loop.specs.declared.answer.Reason.TheVariants as reasons

-- what the laws of values say
pub record EditLaws : Type 0 where
  pub after : (n : ℕ) (s u : Segments) (p : Place) (t v : Tree) → Owns n s p t → Replaces n s u p v → Owns n u p v
  pub meant : (n : ℕ) (s : Segments) (p : Place) (t : Tree) → tree_at n s p ≡ Some t → Means n s p t
  pub one : (n m : ℕ) (s : Segments) (p : Place) (t u : Tree) → Means n s p t → Means m s p u → t ≡ u
  pub deep : (n : ℕ) (s : Segments) (p : Place) (t : Tree) → tree_at n s p ≡ Some t → depth t ≤ n
  pub fits : (n : ℕ) (s : Segments) (p : Place) (t : Tree) → tree_at n s p ≡ Some t → Fits t
  pub trim_fits : (t : Tree) → Fits t → Fits (trim t)
  pub trim_depth : (t : Tree) → depth (trim t) ≤ depth t
  pub means : (t : Tree) (n : ℕ) → Fits t → depth t ≤ n → length (canonical_words t) ≤ 2 ^ 29 → tree_at n (canonical_words t ∷ []) root ≡ Some t

pub answers_written : (schema : StructSchema) (calls : List Call) (levels : ℕ) (t e : Tree) (told : List ModelReply) → e ≡ edits (schema_around schema) (id_of schema) calls t → told ≡ replies (schema_around schema) as_it_is (id_of schema) calls t → nat_le (depth e) levels ≡ true
    → written (canonical_words (trim e) ∷ []) told ≡ answer_struct (schema_around schema) as_it_is (id_of schema) calls (pos levels) t
answers_written schema calls levels t e told is same low = rw (sym is, low, same) refl

pub answers_deep : (schema : StructSchema) (calls : List Call) (levels : ℕ) (t e : Tree) → e ≡ edits (schema_around schema) (id_of schema) calls t → nat_le (depth e) levels ≡ false
    → refused_depth ≡ answer_struct (schema_around schema) as_it_is (id_of schema) calls (pos levels) t
answers_deep schema calls levels t e is far = rw (sym is, far) refl

module _ (laws : EditLaws) (s u : Segments) (schema : StructSchema) (calls : List Call) (levels : ℕ) (told : List Reply) (runs : RunsRoot s u schema calls (map reply_view told)) where
  pub writes_root : (a : MessageAnswer) (count : ℕ) (old new : List (List ℕ)) (l m : ReadLimiter) → Written (canonical_copy (reach levels u) root) (copy_state old l) count (copy_state new m)
      → answer_view new a ≡ written (filled count new ∷ []) (map reply_view told) → (count ≤ length new → count < 2 ^ 29 → StandsAlone new a) → AnswersRoot schema calls levels s new a
  writes_root a count old new l m w view stands n t most owns =
      let run = runs n t most owns in
      let now = laws.after (suc n) s u root t run.0 owns run.1 in
      let is : w.what ≡ run.0 = laws.one levels (suc n) u root w.what run.0 (laws.meant levels u root w.what w.there_is) (laws.meant (suc n) u root run.0 now.means) in
      let e = run.0 in
      let there : tree_at levels u root ≡ Some e = w.there_is ∙ ap (λ x. Some x) is in
      let words : filled count new ≡ canonical_words (trim e) = w.words ∙ ap (λ x. canonical_words (trim x)) is in
      let low : depth e ≤ levels = laws.deep levels u root e there in
      let counted = length_filled count new in
      let long = ap length words in
      let near = w.near in
      let short : length (canonical_words (trim e)) ≤ 2 ^ 29 = omega (arith, counted, long, near) in
      let less = laws.trim_depth e in
      let means = laws.means (trim e) levels (laws.trim_fits e (laws.fits levels u root e there)) (omega (arith, less, low)) short in
      let keeps : nat_le (depth e) levels ≡ true = grind (arith, nat_tests) in
      record {
        same = view ∙ ap (λ ws. written (ws ∷ []) (map reply_view told)) words ∙ answers_written schema calls levels (widened_root (shape_of_struct schema) t) e (map reply_view told) run.2.tree run.2.replied keeps;
        means = subst (MeansTree levels (trim (edits (schema_around schema) (id_of schema) calls (widened_root (shape_of_struct schema) t)))) (sym view) (subst (λ ws. tree_at levels (ws ∷ []) root ≡ Some (trim (edits (schema_around schema) (id_of schema) calls (widened_root (shape_of_struct schema) t)))) (sym words) (means ∙ ap (λ x. Some (trim x)) run.2.tree));
        stands = stands w.bound w.near;
      }

  pub deep_root : (into : List (List ℕ)) → ((n : ℕ) (t : Tree) → tree_at n u root ≡ Some t → levels < depth t)
      → AnswersRoot schema calls levels s into (answers.Refused reasons.Depth)
  deep_root into deeper n t most owns =
      let run = runs n t most owns in
      let now = laws.after (suc n) s u root t run.0 owns run.1 in
      let far = deeper (suc n) run.0 now.means in
      let keeps : nat_le (depth run.0) levels ≡ false = grind (arith, nat_tests) in
      record {
        same = answers_deep schema calls levels (widened_root (shape_of_struct schema) t) run.0 run.2.tree keeps;
        means = tt;
        stands = tt;
      }
