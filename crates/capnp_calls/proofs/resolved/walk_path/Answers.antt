use Rattle.std.proofs.Common.{◌≡◌, ℕ, suc, ◌+◌, true, Option, None, Some, List, [], ◌∷◌, ◌++◌, drop, ap, sym, subst, ◌∙◌, append-nil, add-one}
use Rattle.std.specs.Prelude.{map, IfSome}
use Rattle.std.proofs.Math.Seq.{drop-cons}
use Rattle.std.proofs.lemmas.List.{drop_all}
use Rattle.capnp_model.specs.Accepted.{schema_of}
use Rattle.capnp_model.specs.InKindCalls.{next_end, end_of}
use Rattle.capnp_model.specs.Schemas.{Node}
use Rattle.capnp_records.specs.Sets.{nodes_of}
use Rattle.capnp_values_queries.specs.Structs.{schema_around}
use Rattle.capnp_calls_splice.specs.declared.plain.PlainSet.{PlainSet}
use Rattle.capnp_calls.specs.CallViews.{step_view}
use Rattle.capnp_calls.specs.Hops.{StepsAlone, GoesOn, goes_straight, hops_made, onward_if, MarksStep, LeadsToMember, LeadsToElement}
use Rattle.capnp_calls.specs.Ends.{end_view, IsEndOf, IsStepFound}
use Rattle.capnp_calls_splice.specs.declared.splice.Hop.{Hop}
use Rattle.capnp_calls.specs.declared.splices.Onward.{Onward}
use Rattle.capnp_calls.specs.declared.splices.Onward.TheVariants as ways
use Rattle.capnp_calls.proofs.PathEnds.{none_left, one_step}
use Rattle.capnp_calls.proofs.StraightPaths.{StraightTo, one_more, one_member, one_element, at_end, went_straight, went_into}
use Rattle.capnp_calls.proofs.lemmas.EachWay.{GrowsTo, way_grown, whole_way}
use Rattle.capnp_calls.proofs.resolved.walk_path.Goals as goal

-- What holds of what is there.
if_some : {A : Type 0} (P Q : A → Type 0) (o : Option A) → ((m : A) → P m → Q m) → IfSome o P → IfSome o Q
if_some P Q None f h = tt
if_some P Q (Some m) f h = f m h

pub loop-step-preserved : goal.loop-step-preserved
loop-step-preserved c =
    let s = schema_around c.args.root in
    let path = c.args.path.now in
    let whole = map step_view path in
    let i : ℕ = c.loop-step.step-index in
    let st = step_view c.step-item.result in
    let rest = map step_view (drop (i + 1) path) in
    let old = end_view c.loop-step.end in
    let next = c.next_end-next.result in
    let split : drop i path ≡ c.step-item.result ∷ drop (i + 1) path = drop-cons path i c.step-item.result c.loop-step-test.true ∙ ap (λ x. x ∷ drop (suc i) path) (sym c.step-item.is) ∙ ap (λ n. c.step-item.result ∷ drop n path) (sym (add-one i)) in
    let goes : end_view next.end ≡ next_end s st old = c.next_end-next.ensures.end ∙ ap (λ ns. next_end (schema_of ns) st old) c.set.ensures in
    let begins : GrowsTo s whole c.loop-step.fields.items (st ∷ rest) old = subst (λ xs. GrowsTo s whole c.loop-step.fields.items (map step_view xs) old) split c.loop-step.invariant.grows in
    let finds : IsStepFound s st (end_view next.end) next.found = subst (λ (ns : List Node). IsStepFound (schema_of ns) st (end_view next.end) next.found) c.set.ensures c.next_end-next.ensures.found in
    let before : c.loop-step.course.is_straight ≡ true → StraightTo c.args.root whole c.loop-step.hops.items old (st ∷ rest) = λ on. subst (λ xs. StraightTo c.args.root whole c.loop-step.hops.items old (map step_view xs)) split (c.loop-step.invariant.straight on) in
    let onward : Onward = c.in_ok-onward.onward in
    let was = c.loop-step.course.is_straight in
    let first = c.next_hop.result in
    let went : onward ≡ onward_if was first = c.in_ok-onward.ensures.onward in
    let by_hops : goes_straight onward ≡ true → (was ≡ true) × GoesOn onward old st = λ on.
    let all = went_straight was first onward went on in
    (all.0, subst (λ (o : Onward). GoesOn o old st) all.1 c.next_hop.ensures) in
    record {
      ends = ap (end_of s rest) goes ∙ sym (one_step s st rest old) ∙ ap (λ xs. end_of s (map step_view xs) old) (sym split) ∙ c.loop-step.invariant.ends;
      known = subst (λ ns. IsEndOf ns next.end) c.set.ensures c.next_end-next.ensures.of_set;
      small = c.next_end-next.ensures.small;
      straight = λ on.
          let now = c.course_after-course.ensures.straight on in
          let all = by_hops now.0 in
          one_more c.args.root whole c.loop-step.hops.items c.note_hop.new.hops.items onward old (end_view next.end) st rest (before all.0) c.in_ok-onward.ensures.hops all.1 now.0
          (subst (λ (ns : List Node). StepsAlone (schema_of ns) st old) c.set.ensures (c.next_end-next.ensures.alone now.1)) goes;
      member = if_some (λ m. (goes_straight onward ≡ true) × (next.mark ≡ Some m)) (λ m. rest ≡ [] → LeadsToMember c.args.root c.note_hop.new.hops.items whole (end_view next.end) m) c.course_after-course.result.mark
          (λ m h none.
          let all = by_hops h.0 in
          let marks : MarksStep s m st old = subst (λ (ns : List Node). MarksStep (schema_of ns) m st old) c.set.ensures (subst (λ (o : Option PlainSet). IfSome o (λ m. MarksStep (schema_of (nodes_of c.set.result.now)) m st old)) h.1 c.next_end-next.ensures.mark) in
          one_member c.args.root whole c.loop-step.hops.items c.note_hop.new.hops.items onward old (end_view next.end) st rest m (before all.0) c.in_ok-onward.ensures.hops all.1 h.0 marks goes none)
          c.course_after-course.ensures.mark;
      element = if_some (λ place. onward ≡ ways.Into place) (λ place. rest ≡ [] → LeadsToElement c.args.root c.note_hop.new.hops.items whole (end_view next.end) place) c.course_after-course.result.element
          (λ place into none.
          let all = went_into was first onward place went into in
          let here : GoesOn (ways.Into place) old st = subst (λ (o : Onward). GoesOn o old st) all.1 c.next_hop.ensures in
          let same : c.note_hop.new.hops.items ≡ c.loop-step.hops.items = c.in_ok-onward.ensures.hops ∙ ap (λ o. c.loop-step.hops.items ++ hops_made o) into ∙ append-nil c.loop-step.hops.items in
          subst (λ (hs : List Hop). LeadsToElement c.args.root hs whole (end_view next.end) place) (sym same) (one_element c.args.root whole c.loop-step.hops.items place old (end_view next.end) st rest (before all.0) here goes none))
          c.course_after-course.ensures.element;
      grows = way_grown s whole rest st old (end_view next.end) next.found c.loop-step.fields.items c.note.new.fields.items c.in_ok-note.ensures.items goes finds c.next_end-next.ensures.begun begins;
    }

pub returns-clause-end : goal.returns-clause-end
returns-clause-end c =
    let s = schema_around c.args.root in
    let none : drop c.loop-step.step-index c.args.path.now ≡ [] = drop_all c.loop-step.step-index c.args.path.now c.loop-step-test.false in
    sym (none_left s (end_view c.loop-step.end)) ∙ ap (λ xs. end_of s (map step_view xs) (end_view c.loop-step.end)) (sym none) ∙ c.loop-step.invariant.ends

pub returns-clause-course : goal.returns-clause-course
returns-clause-course c =
    let root = c.args.root in
    let whole = map step_view c.args.path.now in
    let hops = c.loop-step.hops.items in
    let end = end_view c.loop-step.end in
    let left = map step_view (drop c.loop-step.step-index c.args.path.now) in
    let none : drop c.loop-step.step-index c.args.path.now ≡ [] = drop_all c.loop-step.step-index c.args.path.now c.loop-step-test.false in
    record {
      straight = λ on. at_end root whole hops end (subst (λ xs. StraightTo root whole hops end (map step_view xs)) none (c.loop-step.invariant.straight on));
      member = if_some (λ m. left ≡ [] → LeadsToMember root hops whole end m) (LeadsToMember root hops whole end) c.loop-step.course.mark (λ m h. h (ap (map step_view) none)) c.loop-step.invariant.member;
      element = if_some (λ place. left ≡ [] → LeadsToElement root hops whole end place) (LeadsToElement root hops whole end) c.loop-step.course.element (λ place h. h (ap (map step_view) none)) c.loop-step.invariant.element;
    }

pub returns-clause-way : goal.returns-clause-way
returns-clause-way c =
    let s = schema_around c.args.root in
    let whole = map step_view c.args.path.now in
    let end = end_view c.loop-step.end in
    let found = c.loop-step.fields.items in
    let none : drop c.loop-step.step-index c.args.path.now ≡ [] = drop_all c.loop-step.step-index c.args.path.now c.loop-step-test.false in
    whole_way s whole found end (subst (λ xs. GrowsTo s whole found (map step_view xs) end) none c.loop-step.invariant.grows)
