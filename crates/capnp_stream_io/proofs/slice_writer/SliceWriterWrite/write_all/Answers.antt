use Rattle.std.proofs.Common.{◌+◌, ◌-◌, length, ◌∙◌, sym, arith}
use Rattle.std.proofs.lemmas.Slice.{drop-put_mid}
use Rattle.std.proofs.lemmas.List.{drop-drop}
use Rattle.capnp_stream_io.proofs.slice_writer.SliceWriterWrite.write_all.Goals as goal

pub returns-clause-rest : goal.returns-clause-rest
returns-clause-rest c =
    let w = c.args.self.now.written in
    let b = length c.args.buf.now in
    let s = c.args.self.now.slice.now in
    drop-put_mid w (w + b - w) s c.copy_from_slice.new.self (w + b) (omega arith) (omega arith) (omega arith)
    ∙ sym (drop-drop b w s)
