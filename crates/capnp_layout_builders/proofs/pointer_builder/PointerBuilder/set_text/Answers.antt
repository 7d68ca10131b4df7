use Rattle.std.proofs.Common.{◌+◌, ◌*◌, length}
use Rattle.capnp_model.specs.Sections.{number_of, words_for}
use Rattle.capnp_model.specs.Trees.{plain_list}
use Rattle.capnp_layout_builders.specs.Making.{state_of}
use Rattle.capnp_layout_builders.proofs.lemmas.Makes.{makes_if, not_set_if}
use Rattle.capnp_layout_builders.proofs.pointer_builder.PointerBuilder.set_text.Goals as goal

pub returns-clause-made : goal.returns-clause-made
returns-clause-made g c =
    let at = state_of g.A.ReaderArena.segments g.A.BuilderArena.room g.A.BuilderArena.books in
    let e = c.set_text.ensures in
    makes_if (at c.args.self.now.memory.now) (at (record { arena = c.set_text.new.arena })) c.args.self.now.place (plain_list 2 (length c.args.value.now + 1) (number_of 8 c.args.value.now)) (words_for (8 * (length c.args.value.now + 1))) c.set_text.result e.value e.taken e.bound e.books

pub returns-clause-refused : goal.returns-clause-refused
returns-clause-refused g c =
    let at = state_of g.A.ReaderArena.segments g.A.BuilderArena.room g.A.BuilderArena.books in
    let e = c.set_text.ensures in
    not_set_if (at c.args.self.now.memory.now) (at (record { arena = c.set_text.new.arena })) c.args.self.now.place.segment (length c.args.value.now + 1) c.set_text.result e.kind e.full e.refused e.books
