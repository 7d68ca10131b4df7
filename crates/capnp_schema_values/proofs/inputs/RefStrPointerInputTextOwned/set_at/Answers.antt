use Rattle.std.proofs.Common.{ℕ, List, length, ◌+◌, subst}
use Rattle.capnp_model.specs.Sections.{number_of}
use Rattle.capnp_units.specs.Segments.{words_in}
use Rattle.capnp_schema_values.specs.Inputs.{PutsByteList}
use Rattle.capnp_schema_values.proofs.InputGrowth.{bytes_grow, bytes_put}
use Rattle.capnp_schema_values.proofs.inputs.RefStrPointerInputTextOwned.set_at.Goals as goal

pub returns-clause-sets : goal.returns-clause-sets
returns-clause-sets g c =
    let a = g.A.ReaderArena.segments c.args.memory.now.arena in
    let b = g.A.ReaderArena.segments c.set_text.new.arena in
    let bytes = c.as_bytes.result.now in
    let e = c.set_text.ensures in
    subst (λ (bs : List ℕ). PutsByteList (length bs + 1) (number_of 8 bs) (words_in a) (words_in b) c.args.place c.set_text.result) c.as_bytes.ensures.value (bytes_put a b c.args.place (length bytes + 1) (number_of 8 bytes) c.set_text.result e.value e.kind e.refused)

pub returns-clause-grows : goal.returns-clause-grows
returns-clause-grows g c =
    bytes_grow (g.A.ReaderArena.segments c.args.memory.now.arena) (g.A.ReaderArena.segments c.set_text.new.arena) c.set_text.result c.set_text.ensures.grows c.set_text.ensures.refused
