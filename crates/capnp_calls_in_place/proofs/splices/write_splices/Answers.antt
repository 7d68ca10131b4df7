-- One call more, and what stands at the end.
use Rattle.std.proofs.Common.{◌≡◌, ◌+◌, ◌<◌, true, List, [], ◌∷◌, ◌++◌, length, take, Result, Ok, Err, IfErr, refl, ap, sym, subst, ◌∙◌, arith}
use Rattle.std.specs.Prelude.{is_some}
use Rattle.std.proofs.lemmas.List.{take_more, take_all}
use Rattle.std.proofs.lemmas.Option.{slice_get_read}
use Rattle.capnp_wire_canonical.specs.Writes.{filled}
use Rattle.capnp_calls.specs.declared.resolved.Resolved.{Resolved}
use Rattle.capnp_calls.specs.Resolved.{calls_of}
use Rattle.capnp_calls_splice.specs.Splices.{StandsWithin}
use Rattle.capnp_calls_splice.specs.declared.splice.Splice.{Splice}
use Rattle.capnp_calls_splice.specs.declared.splice.Spliced.TheVariants as outcomes
use Rattle.capnp_calls_in_place.specs.CallSplices.{have_splices, TellsCall}
use Rattle.capnp_calls_in_place.proofs.CallWays.{splices_of, each_splice, as_many, more_splices, have_more, wanting}
use Rattle.capnp_calls_in_place.proofs.SpliceRuns.{HaveSpliced, next_spliced, spliced_words}
use Rattle.capnp_calls_in_place.proofs.splices.write_splices.Goals as goal

at_err : {T E W : Type 0} → (r : Result T E) → W → IfErr r (λ _. W)
at_err (Ok x) w = tt
at_err (Err e) w = w

pub loop-call-preserved : goal.loop-call-preserved
loop-call-preserved c =
    let i = c.loop-call.call-index in
    let calls = c.args.calls.now in
    let call : Resolved = c.call-item.result in
    let old = c.loop-call.words.items in
    let buffer = c.write_splice.new.words.items in
    let told : TellsCall call c.loop-call.left old buffer (outcomes.Done c.in-Done.more) = rw c.in-Done.is at c.in_ok-more.ensures.told in
    let splice : Splice = told.0 in
    let stands : StandsWithin buffer c.in-Done.more = told.2.1 in
    let more : take (i + 1) calls ≡ take i calls ++ call ∷ [] = take_more calls i call c.loop-call-test.true ∙ ap (λ (r : Resolved). take i calls ++ r ∷ []) (sym c.call-item.is) in
    record {
      inside = stands.inside;
      start = λ e. absurd (cc e);
      whole = λ e. absurd (cc e);
      some = λ e. omega arith;
      stands = λ e. stands;
      have = ap have_splices more ∙ have_more (take i calls) call c.loop-call.invariant.have (ap is_some told.1);
      puts = λ t fits is.
          subst (λ (ps : List Splice). HaveSpliced ps t (filled c.in-Done.more buffer)) (sym (ap splices_of more ∙ more_splices (take i calls) call splice told.1))
          (next_spliced (splices_of (take i calls)) splice t (filled c.loop-call.left old) (filled c.in-Done.more buffer) (c.loop-call.invariant.puts t fits is) told.2.0);
    }

pub returns-clause-told : goal.returns-clause-told
returns-clause-told c = (
  λ schema t known fits is spelled.
      let calls = c.args.calls.now in
      let words = filled c.loop-call.left c.loop-call.words.items in
      let all : take c.loop-call.call-index calls ≡ calls = take_all c.loop-call.call-index calls c.loop-call-test.false in
      let have : have_splices calls ≡ true = ap have_splices (sym all) ∙ c.loop-call.invariant.have in
      let some = c.loop-call.invariant.some c.if-is_whole-2.false in
      let end = c.loop-call.auto.call-index-end in
      let many : 0 < length calls = omega (arith, some, end) in
      spliced_words schema (calls_of calls) (splices_of calls) t words (each_splice schema calls known have) fits is (subst (λ n. 0 < n) (sym (as_many calls have)) many)
      (subst (λ (rs : List Resolved). HaveSpliced (splices_of rs) t words) all (c.loop-call.invariant.puts t fits spelled)),
  c.loop-call.invariant.stands c.if-is_whole-2.false,
)

pub returns-in_err-more-clause-wanted : goal.returns-in_err-more-clause-wanted
returns-in_err-more-clause-wanted c =
    let calls = c.args.calls.now in
    let call : Resolved = c.call-item.result in
    at_err c.from_residual.result
    (wanting calls c.loop-call.call-index call c.loop-call.left c.loop-call.words.items (slice_get_read calls (length calls) c.loop-call.call-index call refl c.loop-call-test.true c.call-item.is) c.loop-call.invariant.inside c.in_err-more.ensures.short)
