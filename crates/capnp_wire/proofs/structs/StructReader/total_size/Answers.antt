-- The struct's own words, and those behind its pointers.
use Rattle.std.proofs.Common.{arith}
use Rattle.capnp_wire.specs.Views.{seen_struct}
use Rattle.capnp_wire.proofs.Sizing.{struct_size}
use Rattle.capnp_wire.proofs.structs.StructReader.total_size.Goals as goal

pub returns : goal.returns
returns g c =
    struct_size (seen_struct g.A.ReaderArena.segments c.args.self.now) c.in-Some.levels _ c.args.limiter.now c.size_of_pointers.new.limiter c.in_ok-rows.rows c.with_words.result c.in-Some.is (omega arith) c.with_words.ensures c.in_ok-rows.ensures
