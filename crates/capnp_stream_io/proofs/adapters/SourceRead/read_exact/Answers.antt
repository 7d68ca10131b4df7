use Rattle.std.proofs.Common.{◌≡◌, ◌++◌, length, take, sym, ap, ◌∙◌, take-append-drop}
use Rattle.std.specs.Io.Buffered.{reader_buffer, reader_capacity}
use Rattle.capnp_stream_io.proofs.Showing.{taken_shown}
use Rattle.capnp_stream_io.proofs.adapters.SourceRead.read_exact.Goals as goal

pub returns-clause-ok : goal.returns-clause-ok
returns-clause-ok g c =
    let old = c.args.self.now.inner in
    let new = c.consume.new.self in
    let len = length c.args.buf.now in
    let window = reader_buffer old in
    let front = c.copy_from_slice.new.self in
    let shown : c.buffer-window.result.now ≡ window = c.buffer-window.ensures in
    let is : front ≡ take len window = c.copy_from_slice.ensures.after ∙ ap (take len) shown in
    let whole : window ≡ front ++ reader_buffer new = sym (ap (λ l. l ++ reader_buffer new) is ∙ ap (λ l. take len window ++ l) c.consume.ensures.buffer ∙ take-append-drop len window) in
    taken_shown (reader_capacity old) (reader_capacity new) (g.S.Read.remaining old.inner) (g.S.Read.remaining new.inner) window (reader_buffer new) front
    c.consume.ensures.capacity (ap g.S.Read.remaining c.consume.ensures.inner) whole
