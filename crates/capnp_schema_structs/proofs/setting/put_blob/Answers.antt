use Rattle.std.proofs.Common.{◌+◌, ◌*◌, length}
use Rattle.capnp_model.specs.Sections.{number_of, words_for}
use Rattle.capnp_model.specs.Trees.{plain_list}
use Rattle.capnp_layout_builders.proofs.lemmas.Makes.{makes_if, not_set_if}
use Rattle.capnp_copy_arenas.specs.States.{state_in}
use Rattle.capnp_schema_structs.proofs.Bytes.{text_made, text_refused, blob_made, blob_refused}
use Rattle.capnp_schema_structs.proofs.setting.put_blob.Goals as goal

pub returns-in-Text-clause-made : goal.returns-in-Text-clause-made
returns-in-Text-clause-made g c =
    let at = state_in g.A.ReaderArena.segments g.A.BuilderArena.room g.A.BuilderArena.books in
    let old = at c.args.arena.now in
    let new = at c.set_text.new.arena in
    let r = c.set_text.result in
    let bs = c.in-Text.text.now in
    let e = c.set_text.ensures in
    let made = makes_if old new c.args.slot (plain_list 2 (length bs + 1) (number_of 8 bs)) (words_for (8 * (length bs + 1))) r e.value e.taken e.bound e.books in
    blob_made old new r c.args.slot c.args.blob _ c.in-Text.is (text_made old new r c.args.slot bs made)

pub returns-in-Text-clause-refused : goal.returns-in-Text-clause-refused
returns-in-Text-clause-refused g c =
    let at = state_in g.A.ReaderArena.segments g.A.BuilderArena.room g.A.BuilderArena.books in
    let old = at c.args.arena.now in
    let new = at c.set_text.new.arena in
    let r = c.set_text.result in
    let bs = c.in-Text.text.now in
    let e = c.set_text.ensures in
    let refused = not_set_if old new c.args.slot.segment (length bs + 1) r e.kind e.full e.refused e.books in
    blob_refused old new r c.args.slot.segment c.args.blob _ c.in-Text.is (text_refused old new r c.args.slot.segment bs refused)

pub returns-in-Data-clause-made : goal.returns-in-Data-clause-made
returns-in-Data-clause-made g c =
    let at = state_in g.A.ReaderArena.segments g.A.BuilderArena.room g.A.BuilderArena.books in
    let old = at c.args.arena.now in
    let new = at c.set_data.new.arena in
    let r = c.set_data.result in
    let bs = c.in-Data.data.now in
    let e = c.set_data.ensures in
    let made = makes_if old new c.args.slot (plain_list 2 (length bs) (number_of 8 bs)) (words_for (8 * length bs)) r e.value e.taken e.bound e.books in
    blob_made old new r c.args.slot c.args.blob _ c.in-Data.is made

pub returns-in-Data-clause-refused : goal.returns-in-Data-clause-refused
returns-in-Data-clause-refused g c =
    let at = state_in g.A.ReaderArena.segments g.A.BuilderArena.room g.A.BuilderArena.books in
    let old = at c.args.arena.now in
    let new = at c.set_data.new.arena in
    let r = c.set_data.result in
    let bs = c.in-Data.data.now in
    let e = c.set_data.ensures in
    let refused = not_set_if old new c.args.slot.segment (length bs) r e.kind e.full e.refused e.books in
    blob_refused old new r c.args.slot.segment c.args.blob _ c.in-Data.is refused
