use Rattle.std.proofs.Common.{◌≡◌, ◌++◌, ℕ, List, codes, map, ap, sym, ◌∙◌, append_assoc}
use Rattle.std.specs.List.{flat_map}
use Rattle.std.proofs.lemmas.Result.{IfOk-weaker}
use Rattle.std.proofs.lemmas.List.Folds.{flat_map-map}
use Rattle.capnp_model.specs.Runs.{reply_words}
use Rattle.capnp_model.specs.Answers.{Reply as ModelReply}
use Rattle.capnp_calls.specs.Replies.{reply_view}
use Rattle.capnp_calls.specs.declared.reply.Reply.{Reply}
use Rattle.capnp_relay_loop.proofs.logging.push_answer.Goals as goal

pub returns-in_ok-extend_from_slice-in-Written : goal.returns-in_ok-extend_from_slice-in-Written
returns-in_ok-extend_from_slice-in-Written c =
    let line = c.args.line.now.items in
    let replies = c.in-Written.replies.items in
    let h : ModelReply → List ℕ = λ r. codes "; " ++ reply_words r in
    let f : Reply → List ℕ = λ r. h (reply_view r) in
    let items : c.extend_from_slice.new.self.items ≡ line ++ codes "written" = c.in_ok-extend_from_slice-in-Written.ensures.items in
    let all : flat_map f c.deref.result.now ≡ flat_map h (map reply_view replies) = ap (flat_map f) c.deref.ensures.value ∙ sym (flat_map-map h reply_view replies) in
    λ words. rw c.in-Written.is (IfOk-weaker c.push_replies.result _ _ (λ _ e.
    e ∙ ap (λ l. l ++ flat_map f c.deref.result.now) items
    ∙ append_assoc line (codes "written") (flat_map f c.deref.result.now)
    ∙ ap (λ l. line ++ (codes "written" ++ l)) all) c.push_replies.ensures)

pub returns-in_ok-extend_from_slice-in-Several : goal.returns-in_ok-extend_from_slice-in-Several
returns-in_ok-extend_from_slice-in-Several c =
    let line = c.args.line.now.items in
    let replies = c.in-Several.replies.items in
    let h : ModelReply → List ℕ = λ r. codes "; " ++ reply_words r in
    let f : Reply → List ℕ = λ r. h (reply_view r) in
    let items : c.extend_from_slice-in-Several.new.self.items ≡ line ++ codes "written" = c.in_ok-extend_from_slice-in-Several.ensures.items in
    let all : flat_map f c.deref-in-Several.result.now ≡ flat_map h (map reply_view replies) = ap (flat_map f) c.deref-in-Several.ensures.value ∙ sym (flat_map-map h reply_view replies) in
    λ words. rw c.in-Several.is (IfOk-weaker c.push_replies-in-Several.result _ _ (λ _ e.
    e ∙ ap (λ l. l ++ flat_map f c.deref-in-Several.result.now) items
    ∙ append_assoc line (codes "written") (flat_map f c.deref-in-Several.result.now)
    ∙ ap (λ l. line ++ (codes "written" ++ l)) all) c.push_replies-in-Several.ensures)
