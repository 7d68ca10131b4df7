use Rattle.std.proofs.Common.{◌≡◌, ◌^◌, ◌<◌, ℕ, sym, subst, arith, rules}
use Rattle.capnp_units.specs.Segments.{words_in}
use Rattle.capnp_units.specs.Sizes.{size_number}
use Rattle.capnp_layout_builders.specs.Elements.{IsAtFront, SetsFront}
use Rattle.capnp_layout_builders.proofs.ElementFronts.{few_bits}
use Rattle.capnp_layout_builders.proofs.list_builder.ListBuilder.set.Goals as goal

pub set_front-requires : goal.set_front-requires
set_front-requires g c =
    let w : ℕ = g.T.PrimitiveElement.width in
    let width : c.data_bits_per_element-width.result ≡ w = search rules in
    let few = few_bits (size_number c.element_size.result) in
    let bits = c.element_size.ensures.bits in
    record {
      inside = subst (λ (x : ℕ). IsAtFront c.args.self.now.place c.args.index x) (sym width) c.requires;
      few = omega (arith, width, few, bits);
      fits = subst (λ (x : ℕ). c.bits_of_element-bits.result < 2 ^ x) (sym width) c.bits_of_element-bits.ensures.fits;
    }

pub returns-clause-sets : goal.returns-clause-sets
returns-clause-sets g c =
    let l = c.args.self.now.place in
    let s = words_in (g.A.ReaderArena.segments c.args.self.now.memory.now.arena) in
    let u = words_in (g.A.ReaderArena.segments c.set_front.new.arena) in
    let width : c.data_bits_per_element-width.result ≡ g.T.PrimitiveElement.width = search rules in
    let narrow = subst (λ (w : ℕ). SetsFront s u l c.args.index w c.bits_of_element-bits.result) width c.set_front.ensures.sets in
    subst (λ (v : ℕ). SetsFront s u l c.args.index g.T.PrimitiveElement.width v) c.bits_of_element-bits.ensures.bits narrow
