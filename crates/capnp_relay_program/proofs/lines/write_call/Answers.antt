use Rattle.std.proofs.Common.{◌∙◌, ◌++◌, List, ℕ, codes, decimal, subst}
use Rattle.std.proofs.lemmas.Result.{err_from_is_err_and}
use Rattle.capnp_stream_io.specs.Writes.{Writes, sink_seen}
use Rattle.capnp_relay_program.proofs.Written.{written_behind, written_part}
use Rattle.capnp_relay_program.proofs.lines.write_call.Goals as goal

pub returns-in_err-write_text : goal.returns-in_err-write_text
returns-in_err-write_text g c =
    let p = err_from_is_err_and c.from_residual.result c.from_residual.ensures.1 in
    rw (p.1, p.2) (written_part g.L.Write.may_grow (codes "call ") (decimal c.args.number) _ _ _ c.in_err-write_text.ensures)

pub returns : goal.returns
returns g c = written_behind g.L.Write.may_grow (codes "call ") (decimal c.args.number) _ _ _ _ _ c.in_ok-write_text.ensures c.write_number.ensures
