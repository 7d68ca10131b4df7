-- The bytes of a list of bytes are lent.
use Rattle.std.proofs.Common.{◌≡◌, ℕ, Ok, None, Some, Option, List, ap, ◌∙◌, subst}
use Rattle.capnp_units.specs.Segments.{words_in}
use Rattle.capnp_wire_objects.specs.declared.object.Object.{Object}
use Rattle.capnp_wire_objects.specs.declared.object.Object.TheVariants as object
use Rattle.capnp_wire_objects.specs.Arenas.{segment_bytes}
use Rattle.capnp_units.specs.declared.sizes.ElementSize.{ElementSize}
use Rattle.capnp_units.specs.declared.sizes.ElementSize.TheVariants.{Byte}
use Rattle.capnp_wire_objects.specs.Objects.{IsInside}
use Rattle.capnp_wire.specs.Views.{backing_bytes, seen_pointer}
use Rattle.capnp_wire.specs.Reached.{begins_in}
use Rattle.capnp_wire.specs.Reads.{read_bytes}
use Rattle.capnp_wire.proofs.Gets.{read_of}
use Rattle.capnp_wire.proofs.Objects.{bytes_inside, byte_list_read}
use Rattle.capnp_wire.proofs.pointer.PointerReader.bytes_here.Goals as goal

pub lend_of-words-requires-clause-bytes : goal.lend_of-words-requires-clause-bytes
lend_of-words-requires-clause-bytes g c = c.in_ok-reached.ensures.bytes ∙ ap (λ (o : Object). segment_bytes (backing_bytes g.A.ReaderArena.segments c.args.self.now.backing) (begins_in o)) c.in-List-default-Byte-default.is

pub lend_of-words-requires-clause-there : goal.lend_of-words-requires-clause-there
lend_of-words-requires-clause-there g c =
    let s = words_in (backing_bytes g.A.ReaderArena.segments c.args.self.now.backing) in
    let b = c.in-List-default-Byte-default in
    let size : b.size ≡ Byte = rw b.is at b.size-is in
    bytes_inside s b.start b.size b.count size (subst (IsInside s) b.is c.in_ok-reached.ensures.inside)

pub returns-in-Null : goal.returns-in-Null
returns-in-Null g c =
    let p = seen_pointer g.A.ReaderArena.segments c.args.self.now in
    read_of (λ (o : Option (List ℕ)). o) (read_bytes p.basis p.levels) p c.args.limiter.now c.reach.new.limiter c.in_ok-reached.reached.object (Ok None) (ap (read_bytes p.basis p.levels) c.in-Null.is) c.in_ok-reached.ensures.object

pub returns-in_ok-level_below-in-List-default-Byte-default : goal.returns-in_ok-level_below-in-List-default-Byte-default
returns-in_ok-level_below-in-List-default-Byte-default g c =
    let p = seen_pointer g.A.ReaderArena.segments c.args.self.now in
    let b = c.in-List-default-Byte-default in
    let read = read_bytes p.basis p.levels in
    let here = byte_list_read p.basis p.levels (c.in_ok-level_below-in-List-default-Byte-default).field-0 b.start b.count _ c.front_of.result.now (c.in_ok-level_below-in-List-default-Byte-default).ensures c.lend_of-words.ensures.section c.front_of.ensures in
    let size : b.size ≡ Byte = rw b.is at b.size-is in
    read_of (λ (o : Option (List ℕ)). o) read p c.args.limiter.now c.reach.new.limiter c.in_ok-reached.reached.object (Ok (Some c.front_of.result.now))
    (ap read b.is ∙ ap (λ (size : ElementSize). read (object.List b.start size b.count)) size ∙ here) c.in_ok-reached.ensures.object
