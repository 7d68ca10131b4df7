use Rattle.std.proofs.Common.{◌≡◌, ◌*◌, ap, arith}
use Rattle.capnp_units.specs.Segments.{words_in}
use Rattle.capnp_units.specs.Sizes.{size_number}
use Rattle.capnp_copy_widening.specs.MovedElements.{least_pointers}
use Rattle.capnp_copy_widening.proofs.lemmas.CopiedNumbers.{fills_voids, fills_beside_pads}
use Rattle.capnp_copy_widening.proofs.elements.fill_elements.Goals as goal

pub returns-in-Void-clause-fills : goal.returns-in-Void-clause-fills
returns-in-Void-clause-fills g c =
    let s = words_in (g.A.ReaderArena.segments c.args.arena.now) in
    let none : size_number c.args.old.size ≡ 0 = ap size_number c.in-Void.is in
    fills_beside_pads s s c.args.old c.args.new c.args.pads (c.args.old.count * least_pointers c.args.old) (fills_voids s c.args.old c.args.new none (c.requires.old.counted (omega (arith, none))) c.requires.wider.of_structs c.requires.wider.as_many)

pub returns-in_default : goal.returns-in_default
returns-in_default g c =
    let s = words_in (g.A.ReaderArena.segments c.args.arena.now) in
    let u = words_in (g.A.ReaderArena.segments c.copy_numbers.new.arena) in
    record {
      fills = fills_beside_pads s u c.args.old c.args.new c.args.pads (c.args.old.count * least_pointers c.args.old) c.copy_numbers.ensures.fills;
      sizes = c.copy_numbers.ensures.sizes;
      books = c.copy_numbers.ensures.books;
    }
