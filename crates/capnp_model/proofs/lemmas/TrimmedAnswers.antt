-- The record of a trimmed value, and answers, which know no more of a value than what trimming leaves.
use Rattle.std.proofs.Common.{ℤ, ◌≡◌, ℕ, true, List, Option, Some, refl, sym, ◌∙◌, ap}
use Rattle.capnp_model.specs.Segments.{Segments}
use Rattle.capnp_model.specs.Trees.{Tree, null, capability, structure, plain_list, pointer_list, struct_list}
use Rattle.capnp_model.specs.Trimming.{trim}
use Rattle.capnp_model.specs.Schemas.{struct, Schema}
use Rattle.capnp_model.specs.Readings.{Record, record_as, read, record_by_shape, record_of}
use Rattle.capnp_model.specs.InKind.{in_kind}
use Rattle.capnp_model.specs.Calls.{Call}
use Rattle.capnp_model.specs.Answers.{Answer, Limits, value_within, opened_root, answer_struct, answer_value, answer, widened_root}
use Rattle.capnp_model.proofs.TrimmedReading.{read-trim}
use Rattle.capnp_model.proofs.lemmas.TrimTwice.{trim-trim}
use Rattle.capnp_model.proofs.lemmas.Paths.{record_is}

-- THE LAW: a trimmed value has the value's record, where lists are in kind.
pub trimmed_record : (s : Schema) (id : ℕ) (t : Tree) → in_kind s t (struct id) ≡ true → record_of s id (trim t) ≡ record_of s id t
unfolding record_of record_by_shape trim read
trimmed_record s id null h = refl
trimmed_record s id (capability i) h = refl
trimmed_record s id (structure w n ts) h = record_is _ _ (read-trim s (structure w n ts) (struct id) h)
trimmed_record s id (plain_list z n k) h = refl
trimmed_record s id (pointer_list ts) h = refl
trimmed_record s id (struct_list w p es) h = refl

-- THE LAW: messages within the limits with equal trimmed values are answered alike.
module _ (s : Schema) (quoted : List ℕ → List ℕ) (id : ℕ) (calls : List Call) (nesting : ℤ) where
  abbrev at : Tree → Answer
  at t = answer_value s quoted id calls nesting (Some t)

  -- a value is answered as its trimmed value
  by_trimmed : (t : Tree) → trim (trim t) ≡ trim t → at t ≡ at (trim t)
  unfolding trim opened_root
  by_trimmed null h = refl
  by_trimmed (capability i) h = refl
  by_trimmed (structure w n ts) h = ap (λ u. answer_struct s quoted id calls nesting (widened_root (s.shape_of id) u)) (sym h)
  by_trimmed (plain_list z n k) h = refl
  by_trimmed (pointer_list ts) h = refl
  by_trimmed (struct_list w p es) h = refl

pub answers_alike : (s : Schema) (quoted : List ℕ → List ℕ) (id : ℕ) (calls : List Call) (limits : Limits) (a b : Segments) (t u : Tree)
    → value_within limits a ≡ Some t → value_within limits b ≡ Some u → trim t ≡ trim u → answer s quoted id calls limits a ≡ answer s quoted id calls limits b
unfolding answer
answers_alike s quoted id calls limits a b t u ea eb e =
    let v = λ (o : Option Tree). answer_value s quoted id calls limits.nesting o in
    ap v ea ∙ by_trimmed s quoted id calls limits.nesting t (trim-trim t) ∙ ap (λ x. v (Some x)) e ∙ sym (by_trimmed s quoted id calls limits.nesting u (trim-trim u)) ∙ ap v (sym eb)
