use Rattle.std.proofs.Common.{◌∙◌, ◌++◌, List, ℕ, codes, decimal, subst}
use Rattle.std.proofs.lemmas.Result.{err_from_is_err_and}
use Rattle.capnp_stream_io.specs.Writes.{Writes, sink_seen}
use Rattle.capnp_relay_program.proofs.Written.{written_behind, written_part}
use Rattle.capnp_relay_program.proofs.lines.write_number.Goals as goal

pub returns : goal.returns
returns g c =
    let P : List ℕ → Type 0 = λ l. Writes g.L.Write.may_grow l (sink_seen g.L.Write.contents g.L.Write.failures g.L.Write.room c.args.log.now) c.write_text.result (sink_seen g.L.Write.contents g.L.Write.failures g.L.Write.room c.write_text.new.log) in
    subst P (c.as_bytes.ensures.value ∙ c.format.ensures.text) c.write_text.ensures
