-- An element lies inside the bytes of all.
use Rattle.std.proofs.Common.{arith, length}
use Rattle.capnp_units.specs.Sizes.{size_number}
use Rattle.capnp_wire.specs.Elements.{step_bits, element_bits}
use Rattle.capnp_wire.proofs.Elements.{bytewise, element_inside, element_is}
use Rattle.capnp_wire.proofs.list.ListReader.element_section.Goals as goal

pub slice_bounds-result-end : goal.slice_bounds-result-end
slice_bounds-result-end g c =
    let l = c.args.self.now in
    let step = step_bits (size_number l.size) l.data_words l.pointers in
    let bits = element_bits (size_number l.size) l.data_words in
    let within = element_inside c.step_bits-step.result c.element_bits-width.result step bits c.args.index l.count (length l.bytes.now) c.step_bits-step.ensures c.element_bits-width.ensures
    (bytewise l.size l.data_words l.pointers c.requires.bytes) c.requires.index l.inside in
    omega arith

pub returns-clause-section : goal.returns-clause-section
returns-clause-section g c =
    let l = c.args.self.now in
    let step = step_bits (size_number l.size) l.data_words l.pointers in
    let bits = element_bits (size_number l.size) l.data_words in
    element_is c.step_bits-step.result c.element_bits-width.result _ step bits c.args.index l.count l.bytes.now c.step_bits-step.ensures c.element_bits-width.ensures (omega arith)
    (bytewise l.size l.data_words l.pointers c.requires.bytes) c.requires.index
