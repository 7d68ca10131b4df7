-- What is answered to a message in the plain form, from what is answered at its opened root.
use Rattle.std.proofs.Common.{◌≡◌, ℕ, pos, true, List, [], ap, sym, ◌∙◌, subst, inl, inr}
use Rattle.capnp_model.specs.Segments.{Segments}
use Rattle.capnp_model.specs.Trimming.{trim}
use Rattle.capnp_model.specs.Calls.{Call}
use Rattle.capnp_model.specs.Answers.{answer_struct, edits, opened_root, widened_root}
use Rattle.capnp_model.specs.Printing.{as_it_is}
use Rattle.capnp_values_queries.specs.Structs.{schema_around, shape_of_struct, id_of}
use Rattle.capnp_values_queries.specs.declared.structs.StructSchema.{StructSchema}
use Rattle.capnp_calls.specs.LongLists.{LongInTurn}
use Rattle.capnp_wire_canonical.specs.Writes.{filled}
use Rattle.capnp_relay_loop.specs.MessageAnswers.{answer_view}
use Rattle.capnp_relay_loop.specs.declared.answer.MessageAnswer.{MessageAnswer}
use Rattle.capnp_relay_loop.specs.declared.answer.MessageAnswer.TheVariants as answers
use Rattle.capnp_relay_loop.specs.declared.answer.Reason.{Reason}
use Rattle.capnp_relay_loop.specs.declared.answer.Reason.TheVariants as reasons
use Rattle.capnp_relay_answers.specs.Answers.{IsAnswered, LongFrom}
use Rattle.capnp_relay_answers.specs.declared.bounds.Bounds.{Bounds}
use Rattle.capnp_relay_answers.specs.Plain.{AnswersPlainStruct, AreTooMany, AtWords, IsLongPlain, IsPlainAnswered, IsTooLargePlain, WritesPlain, with_segments, written_segments}
use Rattle.capnp_relay_answers.specs.Reading.{ReadsValue, can_be_opened}
use Rattle.capnp_relay_answers.proofs.Whole.{one_value, opened_is, answer_to, at_opened, answer_is, long_opened}

module _ (schema : StructSchema) (calls : List Call) (bounds : Bounds) (s : Segments) where
  -- a message that is skipped is skipped in the plain form too
  pub skipped : (into : List (List ℕ)) (reason : Reason) → IsAnswered schema calls bounds s into (answers.Refused reason) → IsPlainAnswered schema calls bounds s into (answers.Refused reason)
  skipped into reasons.Value h = record { answers = record { same = ap (with_segments []) h.same; plain = λ t is. tt }; stands = tt }
  skipped into reasons.Root h = record { answers = record { same = ap (with_segments []) h.same; plain = λ t is. tt }; stands = tt }
  skipped into reasons.Depth h = record { answers = record { same = ap (with_segments []) h.same; plain = λ t is. tt }; stands = tt }

  pub at_plain_value : (old into : List (List ℕ)) (count : ℕ) (a : MessageAnswer) → (r : ReadsValue bounds s old count) → can_be_opened (trim r.value) ≡ true
      → AtWords schema bounds.nesting (filled count old) (λ t. AnswersPlainStruct schema calls bounds.nesting into t a) → IsPlainAnswered schema calls bounds s into a
  at_plain_value old into count a r opens all =
      let made = all (trim r.value) r.fits r.deep r.words in
      let opened = opened_is schema calls r.value in
      let view = answer_view into a in
      record {
        answers = record {
          same = made.same
              ∙ ap (λ x. with_segments (written_segments view) (answer_struct (schema_around schema) as_it_is (id_of schema) calls (pos bounds.nesting) x)) (sym opened)
              ∙ ap (with_segments (written_segments view)) (sym (answer_is schema calls bounds s ∙ ap (answer_to schema calls bounds.nesting) r.within ∙ at_opened schema calls bounds.nesting r.value opens));
          plain = λ t is. subst (λ x. WritesPlain bounds.nesting (edits (schema_around schema) (id_of schema) calls x) view) (sym opened ∙ ap (opened_root (schema_around schema) (id_of schema)) (one_value r.value t (sym r.within ∙ is))) made.plain;
        };
        stands = made.stands;
      }

  pub too_large_plain : (old : List (List ℕ)) (count : ℕ) → (r : ReadsValue bounds s old count) → can_be_opened (trim r.value) ≡ true → AtWords schema bounds.nesting (filled count old) (IsLongPlain schema calls bounds)
      → IsTooLargePlain schema calls bounds s
  too_large_plain old count r opens all = by (all (trim r.value) r.fits r.deep r.words)
    where
      by : IsLongPlain schema calls bounds (widened_root (shape_of_struct schema) (trim r.value)) → IsTooLargePlain schema calls bounds s
      by (inl (inl long)) =
          inl (inl (subst (LongFrom schema calls) (sym r.within) (long_opened schema calls r.value opens (subst (LongInTurn schema calls) (sym (opened_is schema calls r.value)) long))))
      by (inl (inr passes)) = inl (inr passes)
      by (inr many) =
          inr (r.value, r.within, subst (λ x. AreTooMany bounds.nesting (edits (schema_around schema) (id_of schema) calls x)) (sym (opened_is schema calls r.value)) many)
