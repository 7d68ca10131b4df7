use Rattle.std.proofs.Common.{◌≡◌, ℕ, List, subst, rules}
use Rattle.capnp_units.specs.Segments.{words_in}
use Rattle.capnp_copy_arenas.specs.Bytes.{SetsBytes}
use Rattle.capnp_layout_builders.proofs.text_builder.TextBuilder.push_str.Goals as goal

pub returns-clause-sets : goal.returns-clause-sets
returns-clause-sets g c =
    let s = words_in (g.A.ReaderArena.segments c.args.self.now.memory.now.arena) in
    let u = words_in (g.A.ReaderArena.segments c.set_bytes-self.new.arena) in
    let self = c.args.self.now in
    let same : c.as_bytes.result.now ≡ c.args.string.now = search rules in
    subst (λ (b : List ℕ). SetsBytes s u self.place.start self.position b) same c.set_bytes-self.ensures.sets
