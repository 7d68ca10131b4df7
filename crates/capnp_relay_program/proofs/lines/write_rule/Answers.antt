use Rattle.std.proofs.Common.{◌∙◌, ◌++◌, List, ℕ, codes, decimal, subst}
use Rattle.std.proofs.lemmas.Result.{err_from_is_err_and}
use Rattle.capnp_stream_io.specs.Writes.{Writes, sink_seen}
use Rattle.capnp_relay_program.proofs.Written.{written_behind, written_part, number_written}
use Rattle.capnp_relay_program.proofs.lines.write_rule.Goals as goal

pub returns-in_err-write_text : goal.returns-in_err-write_text
returns-in_err-write_text g c =
    let p = err_from_is_err_and c.from_residual.result c.from_residual.ensures.1 in
    rw (p.1, p.2) (written_part g.L.Write.may_grow (codes "schema rule ") (decimal c.args.rule ++ (codes " node " ++ decimal c.args.node)) _ _ _ c.in_err-write_text.ensures)

pub returns-in_err-write_number : goal.returns-in_err-write_number
returns-in_err-write_number g c =
    let p = err_from_is_err_and c.from_residual-in_err-write_number.result c.from_residual-in_err-write_number.ensures.1 in
    let number = written_part g.L.Write.may_grow (decimal c.args.rule) (codes " node " ++ decimal c.args.node) _ _ _ (number_written g.L.Write.may_grow _ c.args.rule _ _ _ c.from.ensures c.in_err-write_number.ensures) in
    rw (p.1, p.2) (written_behind g.L.Write.may_grow (codes "schema rule ") (decimal c.args.rule ++ (codes " node " ++ decimal c.args.node)) _ _ _ _ _ c.in_ok-write_text.ensures number)

pub returns-in_err-write_text-2 : goal.returns-in_err-write_text-2
returns-in_err-write_text-2 g c =
    let p = err_from_is_err_and c.from_residual-in_err-write_text-2.result c.from_residual-in_err-write_text-2.ensures.1 in
    let node = written_part g.L.Write.may_grow (codes " node ") (decimal c.args.node) _ _ _ c.in_err-write_text-2.ensures in
    let number = written_behind g.L.Write.may_grow (decimal c.args.rule) (codes " node " ++ decimal c.args.node) _ _ _ _ _ (number_written g.L.Write.may_grow _ c.args.rule _ _ _ c.from.ensures c.in_ok-write_number.ensures) node in
    rw (p.1, p.2) (written_behind g.L.Write.may_grow (codes "schema rule ") (decimal c.args.rule ++ (codes " node " ++ decimal c.args.node)) _ _ _ _ _ c.in_ok-write_text.ensures number)

pub returns : goal.returns
returns g c =
    let node = written_behind g.L.Write.may_grow (codes " node ") (decimal c.args.node) _ _ _ _ _ c.in_ok-write_text-2.ensures c.write_number-2.ensures in
    let number = written_behind g.L.Write.may_grow (decimal c.args.rule) (codes " node " ++ decimal c.args.node) _ _ _ _ _ (number_written g.L.Write.may_grow _ c.args.rule _ _ _ c.from.ensures c.in_ok-write_number.ensures) node in
    written_behind g.L.Write.may_grow (codes "schema rule ") (decimal c.args.rule ++ (codes " node " ++ decimal c.args.node)) _ _ _ _ _ c.in_ok-write_text.ensures number
