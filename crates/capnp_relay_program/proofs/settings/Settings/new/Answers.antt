use Rattle.std.proofs.Common.{rules, ◌≡◌, map, string_bytes, option_map, Some, Ok, ℤ, subst, w32}
use Rattle.std.proofs.lemmas.Int.{to_z-of_z}
use Rattle.std.proofs.lemmas.Result.{err_from_is_err_and}
use mir.Val.{SFits}
use Rattle.std.specs.Option.{option_copied}
use Rattle.capnp_calls_versions.specs.Renamed.{renamings_of}
use Rattle.capnp_relay_files.specs.CallViews.{file_of}
use Rattle.capnp_relay_program.specs.Arguments.{arguments_in}
use Rattle.capnp_relay_program.specs.Asked.{request, limits_in, relay_limits}
use Rattle.capnp_relay_program.specs.Versions.{nodes_at}
use Rattle.capnp_relay_program.proofs.Asking.{parts_ask, text_refused, calls_refused}
use Rattle.capnp_relay_program.proofs.settings.Settings.new.Goals as goal

pub returns-clause-ok : goal.returns-clause-ok
returns-clause-ok c =
    let a = c.in_ok-arguments.arguments in
    let text = c.in_ok-text.text in
    let o = c.in_ok-options.options in
    let arguments : arguments_in (map string_bytes c.args.words.now) ≡ Some a = search rules in
    let fits : SFits w32 text.nesting = search rules in
    let limits : limits_in text.words text.nesting ≡ Ok (relay_limits o) = subst (λ (z : ℤ). limits_in text.words z ≡ Ok (relay_limits o)) (to_z-of_z w32 text.nesting fits) c.in_ok-options.ensures.limits in
    parts_ask (request (map string_bytes c.args.words.now) (option_copied c.args.schema) (option_copied c.args.calls) (option_copied c.args.newer) (option_copied c.args.renames)) (nodes_at c.in_ok-version.version) c.in_ok-newer.newer (renamings_of c.in_ok-renamings.renamings) c.in_ok-version.version.root.id c.in_ok-calls.calls.items o a (file_of text) arguments c.in_ok-version.ensures.ok c.in_ok-version.ensures.root c.in_ok-newer.ensures.ok c.in_ok-renamings.ensures.ok c.in_ok-text.ensures.ok c.in_ok-calls.ensures.ok c.in_ok-options.ensures.forms limits

pub returns-in_err-calls-clause-refused : goal.returns-in_err-calls-clause-refused
returns-in_err-calls-clause-refused c =
    let p = err_from_is_err_and c.from_residual-in_err-calls.result c.from_residual-in_err-calls.ensures.1 in
    let arguments : arguments_in (map string_bytes c.args.words.now) ≡ Some c.in_ok-arguments.arguments = search rules in
    rw (p.1, p.2) (calls_refused (request (map string_bytes c.args.words.now) (option_copied c.args.schema) (option_copied c.args.calls) (option_copied c.args.newer) (option_copied c.args.renames)) c.in_ok-arguments.arguments (nodes_at c.in_ok-version.version) (option_map nodes_at c.in_ok-newer.newer) (renamings_of c.in_ok-renamings.renamings) (file_of c.in_ok-text.text) _
    arguments c.in_ok-version.ensures.ok c.in_ok-newer.ensures.ok c.in_ok-renamings.ensures.ok c.in_ok-text.ensures.ok c.in_err-calls.ensures.refused)

pub returns-in_err-text-clause-refused : goal.returns-in_err-text-clause-refused
returns-in_err-text-clause-refused c =
    let p = err_from_is_err_and c.from_residual-in_err-text.result c.from_residual-in_err-text.ensures.1 in
    let arguments : arguments_in (map string_bytes c.args.words.now) ≡ Some c.in_ok-arguments.arguments = search rules in
    rw (p.1, p.2) (text_refused _ (request (map string_bytes c.args.words.now) (option_copied c.args.schema) (option_copied c.args.calls) (option_copied c.args.newer) (option_copied c.args.renames)) c.in_ok-arguments.arguments (nodes_at c.in_ok-version.version) (option_map nodes_at c.in_ok-newer.newer) (renamings_of c.in_ok-renamings.renamings) _
    arguments c.in_ok-version.ensures.ok c.in_ok-newer.ensures.ok c.in_ok-renamings.ensures.ok c.in_err-text.ensures.refused)
