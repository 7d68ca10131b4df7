use Rattle.std.proofs.Common.{◌≡◌, ℕ, ◌*◌, subst, rules}
use Rattle.capnp_model.specs.Sections.{with_bits}
use Rattle.capnp_model.specs.Pointers.{a_struct}
use Rattle.capnp_model.specs.Trees.{structure}
use Rattle.capnp_units.specs.Segments.{words_in}
use Rattle.capnp_wire_objects.specs.Places.{place_view}
use Rattle.capnp_model_writes.specs.Changes.{ReplacesObject}
use Rattle.capnp_layout_builders.proofs.struct_builder.StructBuilder.set_data_field.Goals as goal

pub returns-clause-sets : goal.returns-clause-sets
returns-clause-sets g c = λ n section kids o.
    let b = g.T.Primitive.BYTES in
    let old = c.args.self.now in
    let place = old.place in
    let at : c.bit_at-at.result ≡ 8 * (b * c.args.offset) = search rules in
    let value : c.bits_of-bits.result ≡ g.T.Primitive.bits c.args.value = c.bits_of-bits.ensures.bits in
    let e : with_bits c.bit_at-at.result (8 * c.BYTES-2.result) c.bits_of-bits.result section ≡ with_bits (8 * (b * c.args.offset)) (8 * b) (g.T.Primitive.bits c.args.value) section = search rules in
    subst (λ (m : ℕ). ReplacesObject n (words_in (g.A.ReaderArena.segments old.memory.now.arena)) (words_in (g.A.ReaderArena.segments c.set_bits.new.arena)) (a_struct (place_view place.start) place.data_words place.pointers) (structure place.data_words m kids)) e (c.set_bits.ensures.sets n section kids o)
