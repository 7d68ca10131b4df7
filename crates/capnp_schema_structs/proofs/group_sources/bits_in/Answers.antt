use Rattle.std.proofs.Common.{rules, ◌≡◌, ◌*◌, ℕ, sym, ap, ◌∙◌}
use Rattle.capnp_model.specs.Readings.{field_bits, just_bits}
use Rattle.capnp_model.specs.Schemas.{width}
use Rattle.capnp_wire.specs.Views.{seen_struct}
use Rattle.capnp_values_queries.specs.Handles.{plain_of}
use Rattle.capnp_schema_structs.proofs.SourceReadings.{field_bits-lt, bit_read, byte_read, two_read, four_read, eight_read, one_bit, no_bit}
use Rattle.capnp_schema_structs.proofs.group_sources.bits_in.Goals as goal

pub returns-then-get_bool_field-clause-bits : goal.returns-then-get_bool_field-clause-bits
returns-then-get_bool_field-clause-bits g c from is =
    let v = seen_struct g.B.ReaderArena.segments c.args.source.now in
    let w : width (plain_of c.args.ty) ≡ 1 = search rules in
    let read = bit_read v from is c.section-section.result.now c.section-section.ensures.section c.section-section.ensures.bits c.args.offset in
    one_bit (field_bits from.extent from.section (1 * c.args.offset) 1) (field_bits (just_bits v.bits) v.section c.args.offset 1) c.get_bool_field.result c.get_bool_field.ensures c.if-get_bool_field.true read ∙ ap (λ (k : ℕ). field_bits from.extent from.section (k * c.args.offset) k) (sym w)

pub returns-else-get_bool_field-clause-bits : goal.returns-else-get_bool_field-clause-bits
returns-else-get_bool_field-clause-bits g c from is =
    let v = seen_struct g.B.ReaderArena.segments c.args.source.now in
    let w : width (plain_of c.args.ty) ≡ 1 = search rules in
    let read = bit_read v from is c.section-section.result.now c.section-section.ensures.section c.section-section.ensures.bits c.args.offset in
    no_bit (field_bits from.extent from.section (1 * c.args.offset) 1) (field_bits (just_bits v.bits) v.section c.args.offset 1) c.get_bool_field.result c.get_bool_field.ensures c.if-get_bool_field.false read (field_bits-lt from.extent from.section (1 * c.args.offset) 1) ∙ ap (λ (k : ℕ). field_bits from.extent from.section (k * c.args.offset) k) (sym w)

pub returns-in-Int8-clause-bits : goal.returns-in-Int8-clause-bits
returns-in-Int8-clause-bits g c from is =
    let v = seen_struct g.B.ReaderArena.segments c.args.source.now in
    let w : width (plain_of c.args.ty) ≡ 8 = search rules in
    let read = byte_read v from is c.section-section.result.now c.section-section.ensures.section c.section-section.ensures.bits c.args.offset in
    c.from.ensures ∙ c.get_data_field.ensures ∙ read ∙ ap (λ (k : ℕ). field_bits from.extent from.section (k * c.args.offset) k) (sym w)

pub returns-in-Int16-clause-bits : goal.returns-in-Int16-clause-bits
returns-in-Int16-clause-bits g c from is =
    let v = seen_struct g.B.ReaderArena.segments c.args.source.now in
    let w : width (plain_of c.args.ty) ≡ 16 = search rules in
    let read = two_read v from is c.section-section.result.now c.section-section.ensures.section c.section-section.ensures.bits c.args.offset in
    c.from-in-Int16.ensures ∙ c.get_data_field-in-Int16.ensures ∙ read ∙ ap (λ (k : ℕ). field_bits from.extent from.section (k * c.args.offset) k) (sym w)

pub returns-in-Int32-clause-bits : goal.returns-in-Int32-clause-bits
returns-in-Int32-clause-bits g c from is =
    let v = seen_struct g.B.ReaderArena.segments c.args.source.now in
    let w : width (plain_of c.args.ty) ≡ 32 = search rules in
    let read = four_read v from is c.section-section.result.now c.section-section.ensures.section c.section-section.ensures.bits c.args.offset in
    c.from-in-Int32.ensures ∙ c.get_data_field-in-Int32.ensures ∙ read ∙ ap (λ (k : ℕ). field_bits from.extent from.section (k * c.args.offset) k) (sym w)

pub returns-in-Int64-clause-bits : goal.returns-in-Int64-clause-bits
returns-in-Int64-clause-bits g c from is =
    let v = seen_struct g.B.ReaderArena.segments c.args.source.now in
    let w : width (plain_of c.args.ty) ≡ 64 = search rules in
    let read = eight_read v from is c.section-section.result.now c.section-section.ensures.section c.section-section.ensures.bits c.args.offset in
    c.get_data_field-in-Int64.ensures ∙ read ∙ ap (λ (k : ℕ). field_bits from.extent from.section (k * c.args.offset) k) (sym w)
