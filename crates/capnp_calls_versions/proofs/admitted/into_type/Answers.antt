use Rattle.std.proofs.Common.{ℕ, List, string_bytes, sym, ◌∙◌, ap}
use Rattle.capnp_model.specs.Schemas.{id_of_shape, type_of}
use Rattle.capnp_model.specs.Printing.{fields_in}
use Rattle.capnp_model.specs.Admitted.{into_fields, into_type}
use Rattle.capnp_records.specs.NodeViews.{type_record_of}
use Rattle.capnp_calls.specs.CallViews.{step_view}
use Rattle.capnp_calls.specs.declared.call.Step.{Step}
use Rattle.capnp_calls_versions.specs.Renamed.{names_in}
use Rattle.capnp_calls_versions.specs.Holders.{held_schema}
use Rattle.capnp_calls_versions.specs.Ways.{older_shape, newer_shape, goes_on}
use Rattle.capnp_calls_versions.proofs.ExtendedGroups.{into_struct}
use Rattle.capnp_calls_versions.proofs.admitted.into_type.Goals as goal

pub returns-in-Some-struct_id : goal.returns-in-Some-struct_id
returns-in-Some-struct_id c = λ path verb.
    ap (λ (s : Step). into_type (names_in c.args.versions.now.names) (held_schema c.args.versions.now.older) (held_schema c.args.versions.now.newer) (step_view s) (type_of (type_record_of c.args.older)) (type_of (type_record_of c.args.newer)) (goes_on c.args.versions.now path verb)) c.in-Name.is
    ∙ into_struct c.args.versions.now c.levels.result c.levels.ensures (string_bytes c.in-Name.name) (type_of (type_record_of c.args.older)) (type_of (type_record_of c.args.newer)) c.in-Some.id c.in-Some-struct_id.other (sym c.in-Some.ensures) (sym c.in-Some-struct_id.ensures) (goes_on c.args.versions.now path verb)
    ∙ ap (λ (l : List ℕ). into_fields (names_in c.args.versions.now.names) (id_of_shape (older_shape c.args.versions.now c.levels.result c.in-Some.id)) l (fields_in (older_shape c.args.versions.now c.levels.result c.in-Some.id)) (fields_in (newer_shape c.args.versions.now c.levels.result c.in-Some-struct_id.other)) (goes_on c.args.versions.now path verb)) (sym c.as_str.ensures.value)
    ∙ c.into_fields.ensures path verb
