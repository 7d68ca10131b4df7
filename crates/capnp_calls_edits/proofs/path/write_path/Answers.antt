use Rattle.std.proofs.Common.{List, subst}
use Rattle.std.specs.Prelude.{map}
use Rattle.capnp_model.specs.Calls.{Step, Verb}
use Rattle.capnp_units.specs.Segments.{words_in}
use Rattle.capnp_calls.specs.CallViews.{step_view, action_view}
use Rattle.capnp_calls.specs.Resolved.{call_of}
use Rattle.capnp_calls_edits.specs.Written.{WritesPath, WhereDone}
use Rattle.capnp_calls_edits.specs.Elements.{WritesWithin, WhereDoneWithin}
use Rattle.capnp_calls_edits.proofs.lemmas.Outcomes.{path_within}
use Rattle.capnp_calls_edits.proofs.Behind.{on_ok}
use Rattle.capnp_units.specs.declared.errors.Error.{Error}
use Rattle.capnp_copy_arenas.specs.Refusals.{IsSizeOrRefusal}
use Rattle.capnp_calls_edits.proofs.Claims.{on_err, path_claimed}
use Rattle.capnp_calls_edits.proofs.path.write_path.Goals as goal

pub returns-clause-writes : goal.returns-clause-writes
returns-clause-writes g c =
    let s = words_in (g.A.ReaderArena.segments c.args.arena.now) in
    let u = words_in (g.A.ReaderArena.segments c.write_steps.new.arena) in
    let call = call_of c.args.call.now in
    let path = map step_view c.path.result.now in
    let v = action_view c.action.result.now in
    let W : List Step → Verb → Type 0 = λ p w. WritesPath s u c.args.object c.args.schema (record { path = p; verb = w }) in
    on_ok c.write_steps.result (WritesWithin s u c.args.object c.args.schema (record { path = path; verb = v })) (W call.path call.verb)
    (λ h. subst (W call.path) c.action.ensures (subst (λ p. W p v) c.path.ensures (path_within s u c.args.object c.args.schema path v h))) c.write_steps.ensures.writes

pub returns-clause-cause : goal.returns-clause-cause
returns-clause-cause g c =
    let s = words_in (g.A.ReaderArena.segments c.args.arena.now) in
    let told : Error → Type 0 = IsSizeOrRefusal g.A.BuilderArena.refuses in
    let call = call_of c.args.call.now in
    let path = map step_view c.path.result.now in
    let v = action_view c.action.result.now in
    let W : Error → List Step → Verb → Type 0 = λ e p w. WhereDone s c.args.object c.args.schema (record { path = p; verb = w }) (told e) in
    on_err c.write_steps.result (λ e. WhereDoneWithin s c.args.object c.args.schema (record { path = path; verb = v }) (told e)) (λ e. W e call.path call.verb)
    (λ e h. subst (W e call.path) c.action.ensures (subst (λ p. W e p v) c.path.ensures (path_claimed s c.args.object c.args.schema path v (told e) h))) c.write_steps.ensures.cause
