use Rattle.std.proofs.Common.{ap, sym, ◌∙◌}
use Rattle.capnp_model.specs.Accepted.{schema_of}
use Rattle.capnp_model.specs.Schemas.{struct, list, struct_segment, list_segment}
use Rattle.capnp_records.specs.NodeViews.{value_of}
use Rattle.capnp_records.specs.Sets.{nodes_of}
use Rattle.capnp_values_queries.specs.Types.{ty_of}
use Rattle.capnp_values.specs.Sources.{default_pointer}
use Rattle.capnp_values.specs.Shown.{shown_behind}
use Rattle.capnp_values.specs.ValuesShown.{value_shown}
use Rattle.capnp_values.proofs.dynamic_value.Reader.new.Goals as goal

pub returns-in-Struct-Struct : goal.returns-in-Struct-Struct
returns-in-Struct-Struct g c =
    let s = schema_of (nodes_of c.args.set.now) in
    let id = c.in-Struct-Struct.raw.id in
    c.struct_of_default.ensures
    ∙ ap (λ bytes. shown_behind s (struct id) (default_pointer bytes)) c.deref-in-Struct-Struct.ensures.value
    ∙ ap (λ t. value_shown s t (struct_segment c.in-Struct-Struct.bytes.items)) c.in-Struct-Struct.ensures.ty
    ∙ ap (λ v. value_shown s (ty_of c.args.ty) (value_of v)) (sym c.in-Struct-Struct.is-0)

pub returns-in-List-List : goal.returns-in-List-List
returns-in-List-List g c =
    let s = schema_of (nodes_of c.args.set.now) in
    let element = ty_of c.in-List-List.element_type in
    c.list_of_default.ensures
    ∙ ap (λ bytes. shown_behind s (list element) (default_pointer bytes)) c.deref-in-List-List.ensures.value
    ∙ ap (λ t. value_shown s t (list_segment c.in-List-List.bytes.items)) c.in-List-List.ensures.ty
    ∙ ap (λ v. value_shown s (ty_of c.args.ty) (value_of v)) (sym c.in-List-List.is-0)
