-- Data are the bytes.
use Rattle.std.proofs.Common.{ℕ, List, [], Ok, refl}
use Rattle.std.specs.Prelude.{option_copied}
use Rattle.capnp_wire.specs.Views.{seen_pointer}
use Rattle.capnp_wire.specs.Reads.{read_bytes, as_blob}
use Rattle.capnp_wire.proofs.Gets.{read_on}
use Rattle.capnp_wire.proofs.pointer.PointerReader.data_here.Goals as goal

pub returns-in-None : goal.returns-in-None
returns-in-None g c =
    let p = seen_pointer g.A.ReaderArena.segments c.args.self.now in
    read_on (λ (xs : List ℕ). xs) (read_bytes p.basis p.levels) as_blob p c.args.limiter.now c.bytes_here.new.limiter (option_copied c.in_ok-bytes_here.field-0) (Ok []) (rw c.in-None.is refl) c.in_ok-bytes_here.ensures

pub returns-in-Some : goal.returns-in-Some
returns-in-Some g c =
    let p = seen_pointer g.A.ReaderArena.segments c.args.self.now in
    read_on (λ (xs : List ℕ). xs) (read_bytes p.basis p.levels) as_blob p c.args.limiter.now c.bytes_here.new.limiter (option_copied c.in_ok-bytes_here.field-0) (Ok c.in-Some.bytes.now) (rw c.in-Some.is refl) c.in_ok-bytes_here.ensures
