-- The places of calls that are refused.
use Rattle.std.proofs.Common.{◌≡◌, ℕ, zero, suc, ◌+◌, false, cond, not, ltb, List, [], ◌∷◌, map, replicate, position, Some, None, refl, ap, ap₂, ◌∙◌, arith, one-add}
use Rattle.std.specs.List.{position_or_len}
use Rattle.std.proofs.lemmas.List.{length-map, length-replicate}
use Rattle.capnp_model.specs.Answers.{reply_done}
use Rattle.capnp_calls.specs.Replies.{reply_view}
use Rattle.capnp_calls.specs.declared.reply.Reply.{Reply}
use Rattle.capnp_relay_loop.specs.MessageAnswers.{refusal_view}
use Rattle.capnp_relay_loop.specs.declared.answer.Reason.{Reason}
use Rattle.capnp_relay_loop.specs.declared.answer.Reason.TheVariants as reasons
use Rattle.hagzimot_outcomes.specs.Outcomes.{is_refusal, refused_place}
use Rattle.hagzimot_outcomes.specs.Watching.{refused_call}

place_mapped : (rs : List Reply) → position_or_len is_refusal (map reply_view rs) ≡ position_or_len (λ r. is_refusal (reply_view r)) rs
place_mapped [] = refl
place_mapped (r ∷ rs) = ap (λ n. cond (not (is_refusal (reply_view r))) (1 + n) 0) (place_mapped rs)

-- the replies of the model have the place of the replies
pub refused_mapped : (rs : List Reply) → position is_refusal (map reply_view rs) ≡ refused_place rs
refused_mapped rs = ap₂ (λ n k. cond (ltb n k) (Some n) None) (place_mapped rs) (length-map rs reply_view)

place_done : (n : ℕ) → position_or_len is_refusal (replicate n reply_done) ≡ n
place_done zero = refl
place_done (suc n) = ap (λ k. 1 + k) (place_done n) ∙ one-add n

not_below : (n : ℕ) → cond (ltb n n) (Some n) None ≡ None
not_below n = let e : ltb n n ≡ false = grind arith in ap (λ b. cond b (Some n) None) e

-- calls that are done have no refusal
pub none_of_done : (n : ℕ) → position is_refusal (replicate n reply_done) ≡ None
none_of_done n = ap₂ (λ k l. cond (ltb k l) (Some k) None) (place_done n) (length-replicate n reply_done) ∙ not_below n

-- a refused message has none
pub none_of_refusal : (reason : Reason) → refused_call (refusal_view reason) ≡ None
none_of_refusal reasons.Value = refl
none_of_refusal reasons.Root = refl
none_of_refusal reasons.Depth = refl
