use Rattle.std.proofs.Common.{◌∙◌, ◌++◌, List, ℕ, codes, decimal, subst}
use Rattle.std.proofs.lemmas.Result.{err_from_is_err_and}
use Rattle.capnp_stream_io.specs.Writes.{Writes, sink_seen}
use Rattle.capnp_relay_program.proofs.Written.{written_behind, written_part}
use Rattle.capnp_relay_program.specs.Lines.{stop_words}
use Rattle.capnp_relay_program.proofs.lines.write_line.Goals as goal

pub returns-in_err-write_text : goal.returns-in_err-write_text
returns-in_err-write_text g c =
    let p = err_from_is_err_and c.from_residual.result c.from_residual.ensures.1 in
    rw (p.1, p.2) (written_part g.L.Write.may_grow (codes "fault: ") (stop_words c.args.stop ++ codes "\n") _ _ _ c.in_err-write_text.ensures)

pub returns-in_err-write_stop : goal.returns-in_err-write_stop
returns-in_err-write_stop g c =
    let p = err_from_is_err_and c.from_residual-in_err-write_stop.result c.from_residual-in_err-write_stop.ensures.1 in
    let says = written_part g.L.Write.may_grow (stop_words c.args.stop) (codes "\n") _ _ _ c.in_err-write_stop.ensures in
    rw (p.1, p.2) (written_behind g.L.Write.may_grow (codes "fault: ") (stop_words c.args.stop ++ codes "\n") _ _ _ _ _ c.in_ok-write_text.ensures says)

pub returns : goal.returns
returns g c =
    let says = written_behind g.L.Write.may_grow (stop_words c.args.stop) (codes "\n") _ _ _ _ _ c.in_ok-write_stop.ensures c.write_text-2.ensures in
    written_behind g.L.Write.may_grow (codes "fault: ") (stop_words c.args.stop ++ codes "\n") _ _ _ _ _ c.in_ok-write_text.ensures says
