use Rattle.std.proofs.Common.{option_map, ◌∙◌, ap}
use Rattle.capnp_model.specs.Schemas.{type_of}
use Rattle.capnp_model.specs.Accepted.{shape_in}
use Rattle.capnp_model.specs.Admitted.{at_body}
use Rattle.capnp_records.specs.NodeViews.{type_record_of, value_of}
use Rattle.capnp_records.specs.declared.node.FieldBody.{FieldBody}
use Rattle.capnp_records.specs.declared.node.FieldBody.TheVariants as B
use Rattle.capnp_calls_versions.specs.Renamed.{names_in}
use Rattle.capnp_calls_versions.specs.Holders.{held_nodes, held_schema}
use Rattle.capnp_calls_versions.specs.Walks.{older_body, newer_body}
use Rattle.capnp_calls_versions.specs.Ways.{goes_on}
use Rattle.capnp_calls_versions.proofs.Ways.{slots_go, slot_group_go, group_slot_go}
use Rattle.capnp_calls_versions.proofs.admitted.at_fields.Goals as goal

pub returns-in-Slot-newer : goal.returns-in-Slot-newer
returns-in-Slot-newer c = λ v path verb.
    ap (λ (x : FieldBody). goes_on v path verb (at_body (older_body v c.args.levels x) (newer_body v c.args.levels c.args.newer.now))) c.in-Slot.is
    ∙ ap (λ (x : FieldBody). goes_on v path verb (at_body (older_body v c.args.levels (B.Slot c.in-Slot.offset c.in-Slot.ty c.in-Slot.default)) (newer_body v c.args.levels x))) c.in-Slot-newer.is
    ∙ slots_go (names_in v.names) (held_schema v.older) (held_schema v.newer) path verb c.in-Slot.offset c.in-Slot-newer.offset (type_of (type_record_of c.in-Slot.ty)) (type_of (type_record_of c.in-Slot-newer.other)) (option_map value_of c.in-Slot.default) (option_map value_of c.in-Slot-newer.default)

pub returns-in-Group-newer : goal.returns-in-Group-newer
returns-in-Group-newer c = λ v path verb.
    ap (λ (x : FieldBody). goes_on v path verb (at_body (older_body v c.args.levels x) (newer_body v c.args.levels c.args.newer.now))) c.in-Slot.is
    ∙ ap (λ (x : FieldBody). goes_on v path verb (at_body (older_body v c.args.levels (B.Slot c.in-Slot.offset c.in-Slot.ty c.in-Slot.default)) (newer_body v c.args.levels x))) c.in-Group-newer.is
    ∙ slot_group_go (names_in v.names) (held_schema v.older) (held_schema v.newer) path verb c.in-Slot.offset (type_of (type_record_of c.in-Slot.ty)) (option_map value_of c.in-Slot.default) (shape_in (held_nodes v.newer) c.args.levels.newer c.in-Group-newer.node)

pub returns-in-Slot-newer-2 : goal.returns-in-Slot-newer-2
returns-in-Slot-newer-2 c = λ v path verb.
    ap (λ (x : FieldBody). goes_on v path verb (at_body (older_body v c.args.levels x) (newer_body v c.args.levels c.args.newer.now))) c.in-Group.is
    ∙ ap (λ (x : FieldBody). goes_on v path verb (at_body (older_body v c.args.levels (B.Group c.in-Group.node)) (newer_body v c.args.levels x))) c.in-Slot-newer-2.is
    ∙ group_slot_go (names_in v.names) (held_schema v.older) (held_schema v.newer) path verb (shape_in (held_nodes v.older) c.args.levels.older c.in-Group.node) c.in-Slot-newer-2.offset (type_of (type_record_of c.in-Slot-newer-2.ty)) (option_map value_of c.in-Slot-newer-2.default)
