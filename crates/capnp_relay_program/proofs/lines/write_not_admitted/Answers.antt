use Rattle.std.proofs.Common.{◌∙◌, ◌++◌, List, ℕ, codes, decimal, subst}
use Rattle.std.proofs.lemmas.Result.{err_from_is_err_and}
use Rattle.capnp_stream_io.specs.Writes.{Writes, sink_seen}
use Rattle.capnp_relay_program.proofs.Written.{written_behind, written_part}
use Rattle.capnp_relay_program.specs.Lines.{call_words}
use Rattle.capnp_relay_program.proofs.lines.write_not_admitted.Goals as goal

pub returns-in_err-write_call : goal.returns-in_err-write_call
returns-in_err-write_call g c =
    let p = err_from_is_err_and c.from_residual.result c.from_residual.ensures.1 in
    rw (p.1, p.2) (written_part g.L.Write.may_grow (call_words c.args.number) (codes " not admitted") _ _ _ c.in_err-write_call.ensures)

pub returns : goal.returns
returns g c = written_behind g.L.Write.may_grow (call_words c.args.number) (codes " not admitted") _ _ _ _ _ c.in_ok-write_call.ensures c.write_text.ensures
