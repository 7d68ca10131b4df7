use Rattle.std.proofs.Common.{◌≡◌, ℕ, suc, ◌+◌, List, ◌∷◌, [], ◌++◌, drop, take, Err, length, refl, ap, sym, subst, ◌∙◌, add-one, append_assoc}
use Rattle.std.specs.Prelude.{map}
use Rattle.std.proofs.Math.Seq.{drop-cons, take-suc}
use Rattle.std.proofs.lemmas.List.{map-append, drop_all, take_all, take-append-drop, length_push}
use Rattle.std.proofs.lemmas.Option.{slice_get_read}
use Rattle.std.proofs.lemmas.Result.{err_from_is_err_and}
use Rattle.capnp_model.specs.Calls.{Call as ModelCall}
use Rattle.capnp_model.specs.Answers.{Reply}
use Rattle.capnp_model.specs.Trees.{Tree, structure}
use Rattle.capnp_units.specs.Segments.{words_in}
use Rattle.capnp_calls.specs.declared.resolved.Resolved.{Resolved}
use Rattle.capnp_calls.specs.Resolved.{call_of}
use Rattle.capnp_calls.proofs.lemmas.ResolvedCalls.{call_at, given_resolved}
use Rattle.capnp_calls.specs.Replies.{reply_view}
use Rattle.capnp_values_queries.specs.Structs.{nodes_around, id_of}
use Rattle.capnp_calls_run.specs.declared.fault.RunFault.{RunFault}
use Rattle.capnp_calls_run.specs.declared.fault.RunFault.TheVariants as faults
use Rattle.capnp_calls.specs.Roots.{record_at}
use Rattle.capnp_copy_arenas.specs.Refusals.{IsSizeOrRefusal}
use Rattle.capnp_calls_run.specs.Runs.{PutsLongAt}
use Rattle.capnp_calls_run.proofs.InTurn.{SoFar, at_first, one_more, none_behind, ends_long, size_kept}
use Rattle.capnp_calls_run.proofs.Stopped.{stops_behind, stops_next}
use Rattle.capnp_calls_run.proofs.run.run_at.Goals as goal

pub loop-call-init : goal.loop-call-init
loop-call-init g c =
    let s = words_in (g.A.ReaderArena.segments c.args.arena.now) in
    let calls = map call_of c.args.calls.now in
    record {
      so_far = subst (λ xs. SoFar s s c.args.object c.args.schema [] calls calls (map reply_view xs)) (sym c.new-replies.ensures.items) (at_first s c.args.object c.args.schema calls);
      count = ap length c.new-replies.ensures.items;
      books = refl;
    }

pub answer-requires-clause-resolved : goal.answer-requires-clause-resolved
answer-requires-clause-resolved g c =
    let calls = c.args.calls.now in
    let this : Resolved = c.call-item.result in
    call_at c.args.schema calls c.loop-call.call-index this c.requires.resolved (slice_get_read calls (length calls) c.loop-call.call-index this refl c.loop-call-test.true c.call-item.is)

pub loop-call-preserved : goal.loop-call-preserved
loop-call-preserved g c =
    let seg = g.A.ReaderArena.segments in
    let s = words_in (seg c.args.arena.now) in
    let u = words_in (seg c.loop-call.arena) in
    let v = words_in (seg c.answer.new.arena) in
    let p = c.args.object in
    let root = c.args.schema in
    let i : ℕ = c.loop-call.call-index in
    let calls = c.args.calls.now in
    let all = map call_of calls in
    let this : Resolved = c.call-item.result in
    let behind : List Resolved = drop (i + 1) calls in
    let split : drop i calls ≡ this ∷ behind =
    drop-cons calls i this c.loop-call-test.true ∙ ap (λ x. x ∷ drop (suc i) calls) (sym c.call-item.is) ∙ ap (λ n. this ∷ drop n calls) (sym (add-one i)) in
    let seen : map call_of (drop i calls) ≡ call_of this ∷ map call_of behind = ap (map call_of) split in
    let front : take (i + 1) calls ≡ take i calls ++ this ∷ [] =
    ap (λ n. take n calls) (add-one i) ∙ take-suc calls i this c.loop-call-test.true ∙ ap (λ x. take i calls ++ x ∷ []) (sym c.call-item.is) in
    let done : map call_of (take (i + 1) calls) ≡ map call_of (take i calls) ++ call_of this ∷ [] = ap (map call_of) front ∙ map-append call_of (take i calls) (this ∷ []) in
    let before = map reply_view c.loop-call.replies.items in
    let pushed : map reply_view c.push.new.self.items ≡ before ++ reply_view c.in_ok-answer.field-0 ∷ [] =
    ap (map reply_view) c.in_ok-push.ensures.items ∙ map-append reply_view c.loop-call.replies.items (c.in_ok-answer.field-0 ∷ []) in
    let front_calls = map call_of (take i calls) in
    let old : SoFar s u p root front_calls (call_of this ∷ map call_of behind) all before = subst (λ rest. SoFar s u p root front_calls rest all before) seen c.loop-call.invariant.so_far in
    let next = one_more c.changes_of_objects.ensures.owned c.changes_of_objects.ensures.again s u v p root front_calls (call_of this) (map call_of behind) all before (reply_view c.in_ok-answer.field-0) old c.in_ok-answer.ensures.answer in
    let P : List ModelCall → Type 0 = λ xs. SoFar s v p root xs (map call_of behind) all (before ++ reply_view c.in_ok-answer.field-0 ∷ []) in
    let Q : List Reply → Type 0 = λ xs. SoFar s v p root (map call_of (take (i + 1) calls)) (map call_of behind) all xs in
    record {
      so_far = subst Q (sym pushed) (subst P (sym done) next);
      count = ap length c.in_ok-push.ensures.items ∙ length_push c.loop-call.replies.items c.in_ok-answer.field-0 ∙ ap (λ n. n + 1) c.loop-call.invariant.count;
      books = c.in_ok-answer.ensures.books ∙ c.loop-call.invariant.books;
    }

pub returns-clause-all : goal.returns-clause-all
returns-clause-all g c n section kids most owns =
    let root = c.args.schema in
    let calls = c.args.calls.now in
    let all = map call_of calls in
    let last = c.loop-call.call-index in
    let none : drop last calls ≡ [] = drop_all last calls c.loop-call-test.false in
    let every : take last calls ≡ calls = take_all last calls c.loop-call-test.false in
    let seg = g.A.ReaderArena.segments in
    let s = words_in (seg c.args.arena.now) in
    let u = words_in (seg c.loop-call.arena) in
    let told = map reply_view c.loop-call.replies.items in
    let P : List Resolved → Type 0 = λ xs. SoFar s u c.args.object root (map call_of xs) [] all told in
    let Q : List Resolved → Type 0 = λ xs. SoFar s u c.args.object root (map call_of (take last calls)) (map call_of xs) all told in
    let whole : SoFar s u c.args.object root all [] all told = subst P every (subst Q none c.loop-call.invariant.so_far) in
    let a = whole n section kids most owns in
    let old : Tree = structure c.args.object.data_words section kids in
    let new : Tree = structure c.args.object.data_words a.0 a.1 in (
      new,
      a.2,
      record {
        replied = none_behind root all all told old new a.3;
        tree = a.3.tree;
        fields = λ kinds.
            ap (record_at root) a.3.tree
            ∙ c.records_after_calls.ensures.reads (nodes_around root) (id_of root) all old (record { accepted = root.set.now.accepted; root = c.roots_are_no_groups.ensures root c.requires.root; given = given_resolved calls; opens = tt; kinds = kinds });
      },
    )

pub returns-in_err-answer-clause-size : goal.returns-in_err-answer-clause-size
returns-in_err-answer-clause-size g c err =
    let seg = g.A.ReaderArena.segments in
    let s = words_in (seg c.args.arena.now) in
    let u = words_in (seg c.loop-call.arena) in
    let p = c.args.object in
    let root = c.args.schema in
    let calls = c.args.calls.now in
    let all = map call_of calls in
    let i : ℕ = c.loop-call.call-index in
    let this : Resolved = c.call-item.result in
    let behind : List Resolved = drop (i + 1) calls in
    let split : drop i calls ≡ this ∷ behind =
    drop-cons calls i this c.loop-call-test.true ∙ ap (λ x. x ∷ drop (suc i) calls) (sym c.call-item.is) ∙ ap (λ n. this ∷ drop n calls) (sym (add-one i)) in
    let whole : calls ≡ take i calls ++ this ∷ behind = sym (take-append-drop i calls) ∙ ap (λ xs. take i calls ++ xs) split in
    let parts : all ≡ map call_of (take i calls) ++ call_of this ∷ map call_of behind = ap (map call_of) whole ∙ map-append call_of (take i calls) (this ∷ behind) in
    let told = map reply_view c.loop-call.replies.items in
    let so_far : SoFar s u p root (map call_of (take i calls)) (call_of this ∷ map call_of behind) all told = subst (λ rest. SoFar s u p root (map call_of (take i calls)) rest all told) (ap (map call_of) split) c.loop-call.invariant.so_far in
    let r = err_from_is_err_and c.from_residual.result c.from_residual.ensures.1 in
    let is : c.in_err-answer.field-0.0 ≡ faults.Size = size_kept c.from_residual.result r.0 c.in_err-answer.field-0.0 r.1 r.2 err in
    let long : PutsLongAt u p root (call_of this) = c.in_err-answer.ensures.size (ap (λ (f : RunFault). Err f) is) in
    ends_long c.changes_of_objects.ensures.owned s u p root (map call_of (take i calls)) (call_of this) (map call_of behind) all told parts so_far long

pub returns-in_err-answer-clause-stops : goal.returns-in_err-answer-clause-stops
returns-in_err-answer-clause-stops g c =
    let seg = g.A.ReaderArena.segments in
    let s = words_in (seg c.args.arena.now) in
    let u = words_in (seg c.loop-call.arena) in
    let v = words_in (seg c.answer.new.arena) in
    let p = c.args.object in
    let root = c.args.schema in
    let calls = c.args.calls.now in
    let all = map call_of calls in
    let i : ℕ = c.loop-call.call-index in
    let this : Resolved = c.call-item.result in
    let behind : List Resolved = drop (i + 1) calls in
    let split : drop i calls ≡ this ∷ behind =
    drop-cons calls i this c.loop-call-test.true ∙ ap (λ x. x ∷ drop (suc i) calls) (sym c.call-item.is) ∙ ap (λ n. this ∷ drop n calls) (sym (add-one i)) in
    let whole : calls ≡ take i calls ++ this ∷ behind = sym (take-append-drop i calls) ∙ ap (λ xs. take i calls ++ xs) split in
    let parts : all ≡ map call_of (take i calls) ++ call_of this ∷ map call_of behind = ap (map call_of) whole ∙ map-append call_of (take i calls) (this ∷ behind) in
    let told = map reply_view c.loop-call.replies.items in
    let so_far : SoFar s u p root (map call_of (take i calls)) (call_of this ∷ map call_of behind) all told = subst (λ rest. SoFar s u p root (map call_of (take i calls)) rest all told) (ap (map call_of) split) c.loop-call.invariant.so_far in
    let r = err_from_is_err_and c.from_residual.result c.from_residual.ensures.1 in
    rw (r.1, r.2) (stops_next (IsSizeOrRefusal g.A.BuilderArena.refuses) c.changes_of_objects.ensures.owned s u v p root (map call_of (take i calls)) (call_of this) (map call_of behind) all told c.in_err-answer.field-0.0 parts so_far c.in_err-answer.ensures.stops)

pub returns-in_err-push-clause-stops : goal.returns-in_err-push-clause-stops
returns-in_err-push-clause-stops g c =
    let seg = g.A.ReaderArena.segments in
    let s = words_in (seg c.args.arena.now) in
    let u = words_in (seg c.loop-call.arena) in
    let v = words_in (seg c.answer.new.arena) in
    let p = c.args.object in
    let root = c.args.schema in
    let calls = c.args.calls.now in
    let all = map call_of calls in
    let i : ℕ = c.loop-call.call-index in
    let this : Resolved = c.call-item.result in
    let behind : List Resolved = drop (i + 1) calls in
    let split : drop i calls ≡ this ∷ behind =
    drop-cons calls i this c.loop-call-test.true ∙ ap (λ x. x ∷ drop (suc i) calls) (sym c.call-item.is) ∙ ap (λ n. this ∷ drop n calls) (sym (add-one i)) in
    let whole : calls ≡ take i calls ++ this ∷ behind = sym (take-append-drop i calls) ∙ ap (λ xs. take i calls ++ xs) split in
    let front : List ModelCall = map call_of (take i calls) in
    let parts : all ≡ front ++ call_of this ∷ map call_of behind = ap (map call_of) whole ∙ map-append call_of (take i calls) (this ∷ behind) in
    let told = map reply_view c.loop-call.replies.items in
    let so_far : SoFar s u p root front (call_of this ∷ map call_of behind) all told = subst (λ rest. SoFar s u p root front rest all told) (ap (map call_of) split) c.loop-call.invariant.so_far in
    let next = one_more c.changes_of_objects.ensures.owned c.changes_of_objects.ensures.again s u v p root front (call_of this) (map call_of behind) all told (reply_view c.in_ok-answer.field-0) so_far c.in_ok-answer.ensures.answer in
    let r = err_from_is_err_and c.from_residual-in_err-push.result c.from_residual-in_err-push.ensures.1 in
    rw (r.1, r.2) (stops_behind (IsSizeOrRefusal g.A.BuilderArena.refuses) s v p root (front ++ call_of this ∷ []) (map call_of behind) all (told ++ reply_view c.in_ok-answer.field-0 ∷ []) _ (parts ∙ sym (append_assoc front (call_of this ∷ []) (map call_of behind))) refl next)
