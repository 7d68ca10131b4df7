use Rattle.std.proofs.Common.{◌≡◌, Some, ap, sym, subst, refl}
use Rattle.capnp_model.specs.Readings.{is_active}
use Rattle.capnp_records.specs.NodeViews.{field_of}
use Rattle.capnp_values_queries.specs.Fields.{entry_in, field_at}
use Rattle.capnp_values_queries.specs.Structs.{schema_around, fields_of_struct}
use Rattle.capnp_values_queries.specs.declared.structs.StructSchema.{StructSchema}
use Rattle.capnp_values.specs.Sources.{struct_seen}
use Rattle.capnp_values.specs.Shown.{discriminant_shown}
use Rattle.capnp_values_print.proofs.lemmas.Shows.{none_active, value_active}
use Rattle.capnp_values_print.proofs.members.active_member.Goals as goal

pub returns-in-None : goal.returns-in-None
returns-in-None g c =
    let s = c.args.reader.now.schema in
    let d = discriminant_shown s (struct_seen g.A.ReaderArena.segments c.args.reader.now.source) in
    let found = rw c.in-None.is at c.in_ok-which.ensures in
    none_active (fields_of_struct s) d (sym found.index)

pub returns-in-Some : goal.returns-in-Some
returns-in-Some g c =
    let s = c.args.reader.now.schema in
    let d = discriminant_shown s (struct_seen g.A.ReaderArena.segments c.args.reader.now.source) in
    let f = c.in-Some.field in
    let said = field_of c.get_proto.result.now in
    let found = rw c.in-Some.is at c.in_ok-which.ensures in
    let P : StructSchema → Type 0 = λ s. field_at (fields_of_struct s) f.index ≡ Some (entry_in (schema_around s) said) in
    let there : P s = subst P found.parent c.get_proto.ensures.entry in
    let same : d ≡ Some c.get_proto.result.now.discriminant_value = value_active (fields_of_struct s) d f.index c.get_proto.result.now.discriminant_value (entry_in (schema_around s) said) (sym found.index) there refl in
    λ i e h. ap (is_active e.member) (sym same)
