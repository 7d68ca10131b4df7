use Rattle.std.proofs.Common.{◌≡◌, ◌*◌, ◌≤◌, ℕ, ap, sym, ◌∙◌, subst, arith, rules}
use Rattle.capnp_model.specs.Sections.{bits_at}
use Rattle.capnp_model.specs.Trees.{size_bits}
use Rattle.capnp_units.specs.Sizes.{size_number}
use Rattle.capnp_wire.specs.Elements.{element_bits}
use Rattle.capnp_copy_arenas.proofs.lemmas.ElementLaws.{no_bits}
use Rattle.capnp_copy_arenas.proofs.lemmas.FieldLaws.{bits_again}
use Rattle.capnp_layout_builders.specs.Elements.{IsAtFront}
use Rattle.capnp_layout_builders.proofs.ElementFronts.{few_bits}
use Rattle.capnp_layout_builders.proofs.list_builder.ListBuilder.get.Goals as goal

pub get_front-bits-requires : goal.get_front-bits-requires
get_front-bits-requires g c =
    let w : ℕ = g.T.PrimitiveElement.width in
    let width : c.data_bits_per_element-width.result ≡ w = search rules in
    let few = few_bits (size_number c.element_size.result) in
    let bits = c.element_size.ensures.bits in
    record {
      inside = subst (λ (x : ℕ). IsAtFront c.args.self.now.place c.args.index x) (sym width) c.requires;
      few = omega (arith, width, few, bits);
    }

pub returns : goal.returns
returns g c =
    let w : ℕ = g.T.PrimitiveElement.width in
    let l = c.args.self.now.place in
    let size : ℕ = size_number l.size in
    let at : ℕ = size_bits size * c.args.index in
    let width : c.data_bits_per_element-width.result ≡ w = search rules in
    let front = c.get_front-bits.ensures in
    record {
      plain = λ lt n section o.
          (let is : c.get_front-bits.result ≡ bits_at at w section = front.plain lt n section o ∙ ap (λ (m : ℕ). bits_at at m section) width in
          c.element_of_bits.ensures ∙ ap (λ (m : ℕ). g.T.PrimitiveElement.of_bits (bits_at 0 w m)) is ∙ ap g.T.PrimitiveElement.of_bits (bits_again at w section));
      pointers = λ six.
          (let none : w ≤ 0 = subst (λ (z : ℕ). w ≤ element_bits z l.data_words) six c.requires.wide in
          let zero : w ≡ 0 = omega (arith, none) in
          c.element_of_bits.ensures ∙ ap (λ (m : ℕ). g.T.PrimitiveElement.of_bits (bits_at 0 w m)) (front.pointers six) ∙ ap (λ (m : ℕ). g.T.PrimitiveElement.of_bits (bits_at 0 m 0)) zero ∙ ap g.T.PrimitiveElement.of_bits (no_bits 0 0));
      structs = λ seven n section kids es count here owns.
          (let is : c.get_front-bits.result ≡ bits_at 0 w section = front.structs seven n section kids es count here owns ∙ ap (λ (m : ℕ). bits_at 0 m section) width in
          c.element_of_bits.ensures ∙ ap (λ (m : ℕ). g.T.PrimitiveElement.of_bits (bits_at 0 w m)) is ∙ ap g.T.PrimitiveElement.of_bits (bits_again 0 w section));
    }
