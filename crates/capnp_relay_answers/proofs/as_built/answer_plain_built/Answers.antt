use Rattle.std.proofs.Common.{ℕ, List, [], ◌∷◌, take, ap, ◌∙◌, arith}
use Rattle.std.proofs.lemmas.Result.{IfOk-weaker}
use Rattle.capnp_calls.specs.Resolved.{calls_of}
use Rattle.capnp_wire_canonical.specs.Writes.{filled, words_view}
use Rattle.capnp_relay_answers.specs.Plain.{AnswersPlainStruct, IsLongPlain}
use Rattle.capnp_relay_answers.proofs.Whole.{view_front, length_filled}
use Rattle.capnp_relay_answers.proofs.PlainEdited.{at_plain_words}
use Rattle.capnp_relay_answers.proofs.as_built.answer_plain_built.Goals as goal

pub returns-clause-all : goal.returns-clause-all
returns-clause-all g c =
    let front = ap (λ (ws : List (List ℕ)). words_view (take c.args.count ws) ∷ []) c.deref.ensures.value ∙ ap (λ (ws : List ℕ). ws ∷ []) (view_front c.args.count c.args.words.now.items) in
    let counted = length_filled c.args.count c.args.words.now.items in
    let few = c.requires.count.1 in
    let laws = c.canonical_words_in_place.ensures in
    IfOk-weaker c.answer_plain_root.result _ _ (λ a h. at_plain_words c.args.schema (λ t. AnswersPlainStruct c.args.schema (calls_of c.args.calls.now) c.args.bounds.nesting c.answer_plain_root.new.words.items t a)
    laws.owned laws.takes c.args.bounds.nesting _ (filled c.args.count c.args.words.now.items) (c.in_ok-set_words.ensures.words ∙ front) (omega (arith, counted, few)) h) c.answer_plain_root.ensures.all

pub returns-clause-size : goal.returns-clause-size
returns-clause-size g c err =
    let front = ap (λ (ws : List (List ℕ)). words_view (take c.args.count ws) ∷ []) c.deref.ensures.value ∙ ap (λ (ws : List ℕ). ws ∷ []) (view_front c.args.count c.args.words.now.items) in
    let counted = length_filled c.args.count c.args.words.now.items in
    let few = c.requires.count.1 in
    let laws = c.canonical_words_in_place.ensures in
    at_plain_words c.args.schema (IsLongPlain c.args.schema (calls_of c.args.calls.now) c.args.bounds)
    laws.owned laws.takes c.args.bounds.nesting _ (filled c.args.count c.args.words.now.items) (c.in_ok-set_words.ensures.words ∙ front) (omega (arith, counted, few)) (c.answer_plain_root.ensures.size err)
