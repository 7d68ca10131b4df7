use Rattle.std.proofs.Common.{◌≡◌, ◌*◌, option_map, Result, Ok, ap, sym, ◌∙◌}
use Rattle.std.specs.Prelude.{option_copied}
use Rattle.capnp_model.specs.Kinds.{Kind}
use Rattle.capnp_model.specs.Schemas.{width}
use Rattle.capnp_model.specs.Accepted.{schema_of, default_tree}
use Rattle.capnp_records.specs.NodeViews.{value_of, field_of}
use Rattle.capnp_wire.specs.Views.{pointer_field}
use Rattle.capnp_values_queries.specs.Types.{ty_of}
use Rattle.capnp_values_queries.specs.Structs.{nodes_around, schema_around, shape_of_struct, id_of}
use Rattle.capnp_values_queries.specs.Handles.{entry_of_field, plain_of, is_plain_of, body_of_place}
use Rattle.capnp_values_queries.specs.Fields.{entry_in}
use Rattle.capnp_values_queries.specs.declared.slots.FieldPlace.TheVariants as place
use Rattle.capnp_values.specs.Sources.{pointer_seen, struct_seen, masked_bits}
use Rattle.capnp_values.specs.Shown.{Shown, a_struct, number_shown, slot_opened}
use Rattle.capnp_values.proofs.lemmas.GoodDefaults.{good_default}
use Rattle.capnp_values.proofs.FieldKinds.{body_said, shown_by_body}
use Rattle.capnp_values.proofs.Named.{pointer_type}
use Rattle.capnp_values.proofs.lemmas.PlainDefaults.{default_fits}
use Rattle.capnp_values.proofs.dynamic_struct.Reader.get.Goals as goal

abbrev answered : Shown → Result Shown Kind
answered x = Ok x

pub plain_value-requires-clause-fits : goal.plain_value-requires-clause-fits
plain_value-requires-clause-fits g c =
    let s = c.args.field.parent in
    let ty = plain_of c.in-Plain.ty in
    default_fits (nodes_around s) s.set.now.accepted (id_of s) c.args.field.index ty (width ty * c.in-Plain.offset) c.in-Plain.default_bits c.in-Plain.ensures.body

pub plain_value-requires-clause-known : goal.plain_value-requires-clause-known
plain_value-requires-clause-known g c =
    let ty = c.in-Plain.ty in
    ap (λ nodes. is_plain_of nodes ty) (c.set-set.ensures ∙ ap nodes_around c.parent.ensures) ∙ c.in-Plain.ensures.of_set

pub returns-in-Void : goal.returns-in-Void
returns-in-Void g c =
    let s = schema_around c.args.field.parent in
    let said = field_of c.get_proto-said.result.now in
    let b = body_of_place (place.Void c.in-Void.offset) in
    let is = body_said (entry_of_field c.args.field) (entry_in s said) b c.get_proto-said.ensures.entry c.in-Void.ensures.body in
    record { said = said; is = c.get_proto-said.ensures; default = good_default c.args.field.parent c.args.field.index said c.get_proto-said.ensures c.default_of-default.ensures.bytes; shows = sym (shown_by_body s (struct_seen g.A.ReaderArena.segments c.args.self.source) said.kind b is) }

pub returns-in-Plain : goal.returns-in-Plain
returns-in-Plain g c =
    let s = schema_around c.args.field.parent in
    let said = field_of c.get_proto-said.result.now in
    let b = body_of_place (place.Plain c.in-Plain.ty c.in-Plain.offset c.in-Plain.default_bits) in
    let is = body_said (entry_of_field c.args.field) (entry_in s said) b c.get_proto-said.ensures.entry c.in-Plain.ensures.body in
    let v = struct_seen g.A.ReaderArena.segments c.args.self.source in
    let ty = plain_of c.in-Plain.ty in
    let bits = masked_bits v (width ty * c.in-Plain.offset) (width ty) c.in-Plain.default_bits in
    record { said = said; is = c.get_proto-said.ensures; default = good_default c.args.field.parent c.args.field.index said c.get_proto-said.ensures c.default_of-default.ensures.bytes; shows = ap (λ (x : Shown). answered x) (c.plain_value.ensures ∙ ap (λ nodes. number_shown (schema_of nodes) ty bits) (c.set-set.ensures ∙ ap nodes_around c.parent.ensures)) ∙ sym (shown_by_body s v said.kind b is) }

pub returns-in-Group : goal.returns-in-Group
returns-in-Group g c =
    let s = schema_around c.args.field.parent in
    let said = field_of c.get_proto-said.result.now in
    let b = body_of_place (place.Group c.in-Group.schema) in
    let v = struct_seen g.A.ReaderArena.segments c.args.self.source in
    let inner = shape_of_struct c.in-Group.schema in
    let is = body_said (entry_of_field c.args.field) (entry_in s said) b c.get_proto-said.ensures.entry c.in-Group.ensures.body in
    record { said = said; is = c.get_proto-said.ensures; default = good_default c.args.field.parent c.args.field.index said c.get_proto-said.ensures c.default_of-default.ensures.bytes; shows = ap (λ nodes. answered (a_struct (schema_of nodes) inner v)) c.in-Group.ensures.of_set ∙ sym (shown_by_body s v said.kind b is) }

pub returns-in-Pointer : goal.returns-in-Pointer
returns-in-Pointer g c =
    let f = c.args.field in
    let s = schema_around f.parent in
    let v = struct_seen g.A.ReaderArena.segments c.args.self.source in
    let said = field_of c.get_proto-said.result.now in
    let b = body_of_place (place.Pointer c.in-Pointer.index c.in-Pointer.ty c.in-Pointer.default) in
    let is = body_said (entry_of_field f) (entry_in s said) b c.get_proto-said.ensures.entry c.in-Pointer.ensures.body in
    let got = ty_of c.get_type.result in
    let ty = ty_of c.in-Pointer.ty in
    let d = option_map value_of (option_copied c.default_of-default.result) in
    let p = pointer_seen g.A.ReaderArena.segments c.pointer.result in
    let same : got ≡ ty = pointer_type (entry_of_field f) c.in-Pointer.index ty got (default_tree (option_map value_of (option_copied c.in-Pointer.default))) c.in-Pointer.ensures.body c.get_type.ensures.ty in
    record {
      said = said;
      is = c.get_proto-said.ensures;
      default = good_default f.parent f.index said c.get_proto-said.ensures c.default_of-default.ensures.bytes;
      shows = c.open_slot.ensures
          ∙ ap (λ nodes. slot_opened (schema_of nodes) got d p) (c.set-set.ensures ∙ ap nodes_around c.parent.ensures)
          ∙ ap (λ t. slot_opened s t d p) same
          ∙ ap (λ q. slot_opened s ty d q) c.pointer.ensures
          ∙ ap (λ x. slot_opened s ty x (pointer_field v c.in-Pointer.index)) c.default_of-default.ensures.said
          ∙ sym (shown_by_body s v said.kind b is);
    }
