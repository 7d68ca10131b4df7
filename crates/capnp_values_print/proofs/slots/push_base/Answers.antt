use Rattle.std.proofs.Common.{option_map, ap}
use Rattle.capnp_records.specs.NodeViews.{base_of, value_of}
use Rattle.capnp_wire.specs.Views.{seen_struct}
use Rattle.capnp_values_print.proofs.SlotTypes.{number_appended, text_appended}
use Rattle.capnp_values_print.proofs.slots.push_base.Goals as goal

pub returns-then-is_number : goal.returns-then-is_number
returns-then-is_number g c =
    let v = seen_struct g.A.ReaderArena.segments c.args.reader.now in
    number_appended v (base_of c.args.base) c.args.offset c.default_bits-bits.result (option_map value_of c.args.default.now) c.args.out.now.items c.push_number.new.out.items
    (c.is_number.ensures c.if-is_number.true) c.default_bits-bits.ensures c.in_ok-push_number.ensures

pub returns-in-Text-None : goal.returns-in-Text-None
returns-in-Text-None g c =
    let v = seen_struct g.A.ReaderArena.segments c.args.reader.now in
    text_appended v (base_of c.args.base) c.args.offset (option_map value_of c.args.default.now) c.in_ok-text.text.now c.args.out.now.items c.push_text.new.out.items
    (ap base_of c.in-Text-None.is-0) (ap (option_map value_of) c.in-Text-None.is-1) c.in_ok-text.ensures c.in_ok-push_text.ensures
