-- The number of a plain slot.
use Rattle.std.proofs.Common.{ap, sym, ◌∙◌, bit_xor}
use Rattle.std.proofs.lemmas.Nat.{xor_lt}
use Rattle.capnp_model.specs.Schemas.{width}
use Rattle.capnp_model.specs.Calls.{bits_of}
use Rattle.capnp_model.proofs.lemmas.Bits.{xor_twice}
use Rattle.capnp_values_queries.specs.Handles.{plain_of}
use Rattle.capnp_calls.proofs.splices.number_for.Goals as goal

pub number_in-requires : goal.number_in-requires
number_in-requires c = xor_lt (width (plain_of c.args.ty)) c.in_ok-bits.bits c.args.default_bits c.in_ok-bits.ensures.fit c.requires

pub returns : goal.returns
returns c =
    let d = c.args.default_bits in
    let bits = c.in_ok-bits.bits in
    let p = c.number_in in
    record { value = sym c.in_ok-bits.ensures.content ∙ ap bits_of (sym (ap (λ x. bit_xor x d) p.ensures.bits ∙ xor_twice bits d)); place = p.ensures.place; width = p.ensures.width }
