use Rattle.std.proofs.Common.{◌≡◌, ◌*◌, ap, ◌∙◌, arith}
use Rattle.capnp_model.specs.Readings.{field_bits, just_bits}
use Rattle.capnp_units.specs.Segments.{words_in}
use Rattle.capnp_wire.specs.Views.{StructView}
use Rattle.capnp_wire_objects.specs.Inside.{section_at}
use Rattle.capnp_wire_objects.specs.Places.{place_view}
use Rattle.capnp_values_queries.specs.Fields.{union_in}
use Rattle.capnp_values_queries.specs.Structs.{shape_of_struct}
use Rattle.capnp_relay_kinds.proofs.Fields.{a_union}
use Rattle.capnp_relay_kinds.proofs.structs.active_value.Goals as goal

pub returns : goal.returns
returns g c =
    let s = words_in (g.A.ReaderArena.segments c.args.arena.now) in
    let x = c.args.sections in
    let o = c.in-Some.offset in
    let at : 8 * (2 * o) ≡ 16 * o = omega arith in
    a_union (union_in (shape_of_struct c.args.schema)) s (place_view x.start) x.data_words o c.get_data_field.result c.in-Some.ensures
    (c.get_data_field.ensures ∙ ap (λ (v : StructView). field_bits (just_bits v.bits) v.section (8 * (2 * o)) 16) c.at-reader.ensures ∙ ap (λ a. field_bits (just_bits (64 * x.data_words)) (section_at s (place_view x.start) x.data_words) a 16) at)
