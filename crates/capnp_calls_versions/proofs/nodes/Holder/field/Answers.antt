use Rattle.std.proofs.Common.{string_bytes, sym, ◌∙◌}
use Rattle.std.specs.Str.{bytes_eq}
use Rattle.capnp_records.specs.declared.node.FieldRecord.{FieldRecord}
use Rattle.capnp_calls_versions.proofs.FirstPlaces.{name_place, placed_inside, placed_item, not_placed}
use Rattle.capnp_calls_versions.proofs.nodes.Holder.field.Goals as goal

pub bounds-self-place : goal.bounds-self-place
bounds-self-place c = placed_inside (λ (f : FieldRecord). bytes_eq (string_bytes f.name) c.args.name.now) c.in-Some.place c.args.self.now.fields.now (sym (name_place c.args.name.now 0 c.args.self.now.fields.now) ∙ sym c.in-Some.ensures)

pub returns-in-None : goal.returns-in-None
returns-in-None c = sym (not_placed (λ (f : FieldRecord). bytes_eq (string_bytes f.name) c.args.name.now) 0 c.args.self.now.fields.now (sym (name_place c.args.name.now 0 c.args.self.now.fields.now) ∙ sym c.in-None.ensures))

pub returns-in-Some : goal.returns-in-Some
returns-in-Some c = sym (placed_item (λ (f : FieldRecord). bytes_eq (string_bytes f.name) c.args.name.now) c.in-Some.place c.args.self.now.fields.now c.index-self-place.result (sym (name_place c.args.name.now 0 c.args.self.now.fields.now) ∙ sym c.in-Some.ensures))
