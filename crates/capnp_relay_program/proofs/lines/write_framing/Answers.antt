use Rattle.std.proofs.Common.{◌∙◌, ◌++◌, List, ℕ, codes, decimal, subst}
use Rattle.std.proofs.lemmas.Result.{err_from_is_err_and}
use Rattle.capnp_stream_io.specs.Writes.{Writes, sink_seen}
use Rattle.capnp_relay_program.proofs.Written.{written_behind, written_part}
use Rattle.capnp_units.specs.Errors.{kind_of}
use Rattle.capnp_model.specs.Kinds.{kind_name}
use Rattle.capnp_relay_program.proofs.lines.write_framing.Goals as goal

pub returns-in_err-write_text : goal.returns-in_err-write_text
returns-in_err-write_text g c =
    let p = err_from_is_err_and c.from_residual.result c.from_residual.ensures.1 in
    rw (p.1, p.2) (written_part g.L.Write.may_grow (codes "framing ") (kind_name (kind_of c.args.kind)) _ _ _ c.in_err-write_text.ensures)

pub returns : goal.returns
returns g c =
    let P : List ℕ → Type 0 = λ l. Writes g.L.Write.may_grow l (sink_seen g.L.Write.contents g.L.Write.failures g.L.Write.room c.write_text.new.log) c.write_text-2.result (sink_seen g.L.Write.contents g.L.Write.failures g.L.Write.room c.write_text-2.new.log) in
    let name = subst P (c.as_bytes.ensures.value ∙ c.name.ensures) c.write_text-2.ensures in
    written_behind g.L.Write.may_grow (codes "framing ") (kind_name (kind_of c.args.kind)) _ _ _ _ _ c.in_ok-write_text.ensures name
