use Rattle.capnp_model.specs.Calls.{blob_tree}
use Rattle.capnp_model.specs.Edits.{put_child}
use Rattle.capnp_model.specs.Sections.{words_for}
use Rattle.capnp_model.specs.Sizes.{object_words}
use Rattle.std.proofs.Common.{◌*◌, length, arith}
use Rattle.capnp_units.specs.Segments.{words_in}
use Rattle.capnp_layout_builders.specs.Making.{Makes, BytesRefused}
use Rattle.capnp_copy_arenas.specs.States.{state_in}
use Rattle.capnp_schema_structs.specs.Puts.{NewObjectRefused}
use Rattle.capnp_schema_structs.proofs.lemmas.SetPointers.{bytes_words}
use Rattle.capnp_schema_structs.specs.Blobs.{list_bytes_of}
use Rattle.capnp_schema_lists.specs.Puts.{PutsElementObject}
use Rattle.capnp_schema_lists.proofs.Pointers.{pointer_there}
use Rattle.capnp_schema_lists.proofs.Contents.{object_put, blob_not_put, put_if, not_put_if, stays_if, grows_if}
use Rattle.capnp_schema_lists.proofs.blobs.put_blob.Goals as goal

pub put_blob-requires : goal.put_blob-requires
put_blob-requires g c =
    let x = pointer_there (words_in (g.A.ReaderArena.segments c.args.arena.now)) c.args.list c.args.index c.element_pointer-slot.result c.requires.pointer c.requires.index c.element_pointer-slot.ensures.place c.requires.there in
    record { there = x.0; near = (let near = x.1 in omega (arith, near)) }

pub returns : goal.returns
returns g c =
    let at = state_in g.A.ReaderArena.segments g.A.BuilderArena.room g.A.BuilderArena.books in
    let old = at c.args.arena.now in
    let new = at c.put_blob.new.arena in
    let r = c.put_blob.result in
    let o = c.args.list in
    let i = c.args.index in
    let slot = c.element_pointer-slot.result in
    let where_it_is = c.element_pointer-slot.ensures in
    let bytes = list_bytes_of c.args.blob in
    let e = c.put_blob.ensures in
    record {
      puts = put_if old new r (Makes old new slot (blob_tree bytes) (words_for (8 * length bytes))) (PutsElementObject old new o (λ words pointers. put_child 0 (blob_tree bytes)) i (object_words (blob_tree bytes)))
          (object_put old new o slot i where_it_is.segment (blob_tree bytes) (words_for (8 * length bytes)) (bytes_words bytes) c.requires.pointer c.requires.index where_it_is.place c.requires.there) e.made;
      refused = not_put_if old new r (BytesRefused old slot.segment (length bytes)) (NewObjectRefused old o.start.segment (blob_tree bytes)) (blob_not_put old new o slot i where_it_is.segment bytes) e.refused;
      cause = e.cause;
      stays = stays_if old new r (BytesRefused old slot.segment (length bytes)) e.refused;
      grows = grows_if old new r (BytesRefused old slot.segment (length bytes)) e.grows e.refused;
      books = e.books;
    }
