use Rattle.std.proofs.Common.{◌≡◌, ℕ, suc, ◌+◌, [], ◌∷◌, drop, ap, sym, subst, ◌∙◌, add-one}
use Rattle.std.specs.Prelude.{map}
use Rattle.std.proofs.Math.Seq.{drop-cons}
use Rattle.std.proofs.lemmas.List.{drop_all}
use Rattle.capnp_model.specs.Accepted.{schema_of}
use Rattle.capnp_model.specs.InKindCalls.{nowhere, at_value, next_end, end_of}
use Rattle.capnp_model.specs.Schemas.{struct}
use Rattle.capnp_values_queries.specs.Structs.{nodes_around, schema_around, id_of}
use Rattle.capnp_values_queries.specs.Types.{ty_of}
use Rattle.capnp_calls.specs.CallViews.{step_view, action_view, call_view}
use Rattle.capnp_calls_replies.specs.Checks.{takes_at, end_of_field, end_view, IsEndOf}
use Rattle.capnp_calls_replies.proofs.CheckedEnds.{nowhere_on, none_left, one_step}
use Rattle.capnp_calls_replies.proofs.checks.could_be_taken.Goals as goal

pub returns-in-None : goal.returns-in-None
returns-in-None c =
    let s = schema_around c.args.root in
    let path = c.path-path.result.now in
    let i : ℕ = c.loop-step.step-index in
    let st = step_view c.step-item.result in
    let rest = map step_view (drop (i + 1) path) in
    let old = end_view c.loop-step.end in
    let start = at_value (struct (id_of c.args.root)) in
    let split : drop i path ≡ c.step-item.result ∷ drop (i + 1) path = drop-cons path i c.step-item.result c.loop-step-test.true ∙ ap (λ x. x ∷ drop (suc i) path) (sym c.step-item.is) ∙ ap (λ n. c.step-item.result ∷ drop n path) (sym (add-one i)) in
    let gone : nowhere ≡ next_end s st old = c.in-None.ensures.end ∙ ap (λ ns. next_end (schema_of ns) st old) c.set.ensures in
    ap (takes_at s (call_view c.args.call.now).verb)
    (sym (nowhere_on s rest) ∙ ap (end_of s rest) gone ∙ sym (one_step s st rest old) ∙ ap (λ xs. end_of s (map step_view xs) old) (sym split) ∙ c.loop-step.invariant.ends ∙ ap (λ p. end_of s p start) c.path-path.ensures)

pub loop-step-preserved : goal.loop-step-preserved
loop-step-preserved c =
    let s = schema_around c.args.root in
    let path = c.path-path.result.now in
    let i : ℕ = c.loop-step.step-index in
    let st = step_view c.step-item.result in
    let rest = map step_view (drop (i + 1) path) in
    let old = end_view c.loop-step.end in
    let split : drop i path ≡ c.step-item.result ∷ drop (i + 1) path = drop-cons path i c.step-item.result c.loop-step-test.true ∙ ap (λ x. x ∷ drop (suc i) path) (sym c.step-item.is) ∙ ap (λ n. c.step-item.result ∷ drop n path) (sym (add-one i)) in
    let goes : end_view c.in-Some.next ≡ next_end s st old = c.in-Some.ensures.end ∙ ap (λ ns. next_end (schema_of ns) st old) c.set.ensures in
    record {
      ends = ap (end_of s rest) goes ∙ sym (one_step s st rest old) ∙ ap (λ xs. end_of s (map step_view xs) old) (sym split) ∙ c.loop-step.invariant.ends;
      known = subst (λ ns. IsEndOf ns c.in-Some.next) c.set.ensures c.in-Some.ensures.of_set;
    }

pub returns-in-Field : goal.returns-in-Field
returns-in-Field c =
    let root = c.args.root in
    let s = schema_around root in
    let f = c.in-Field.field in
    let path = c.path-path.result.now in
    let old = end_view c.loop-step.end in
    let start = at_value (struct (id_of root)) in
    let none : drop c.loop-step.step-index path ≡ [] = drop_all c.loop-step.step-index path c.loop-step-test.false in
    let known : nodes_around f.parent ≡ nodes_around root = subst (IsEndOf (nodes_around root)) c.in-Field.is c.loop-step.invariant.known in
    let leads : end_of_field f ≡ end_of s (call_view c.args.call.now).path start = ap end_view (sym c.in-Field.is) ∙ sym (none_left s old) ∙ ap (λ xs. end_of s (map step_view xs) old) (sym none) ∙ c.loop-step.invariant.ends ∙ ap (λ p. end_of s p start) c.path-path.ensures in
    c.field_takes.ensures ∙ ap (λ ns. takes_at (schema_of ns) (action_view c.action.result.now) (end_of_field f)) known
    ∙ ap (λ v. takes_at s v (end_of_field f)) c.action.ensures.action ∙ ap (takes_at s (call_view c.args.call.now).verb) leads

pub returns-in-Value : goal.returns-in-Value
returns-in-Value c =
    let root = c.args.root in
    let s = schema_around root in
    let at = at_value (ty_of c.in-Value.ty) in
    let path = c.path-path.result.now in
    let old = end_view c.loop-step.end in
    let start = at_value (struct (id_of root)) in
    let none : drop c.loop-step.step-index path ≡ [] = drop_all c.loop-step.step-index path c.loop-step-test.false in
    let leads : at ≡ end_of s (call_view c.args.call.now).path start = ap end_view (sym c.in-Value.is) ∙ sym (none_left s old) ∙ ap (λ xs. end_of s (map step_view xs) old) (sym none) ∙ c.loop-step.invariant.ends ∙ ap (λ p. end_of s p start) c.path-path.ensures in
    c.element_takes.ensures s ∙ ap (λ v. takes_at s v at) c.action-in-Value.ensures.action ∙ ap (takes_at s (call_view c.args.call.now).verb) leads
