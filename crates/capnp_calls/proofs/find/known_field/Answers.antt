-- The index is one of the struct's fields.
use Rattle.std.proofs.Common.{◌<◌, sym, subst}
use Rattle.capnp_values_queries.specs.Fields.{field_count}
use Rattle.capnp_values_queries.specs.Structs.{fields_of_struct}
use Rattle.capnp_values_queries.specs.declared.structs.StructSchema.{StructSchema}
use Rattle.capnp_calls.proofs.lemmas.EachWay.{place_inside}
use Rattle.capnp_calls.proofs.find.known_field.Goals as goal

pub get-requires : goal.get-requires
get-requires c =
    subst (λ (q : StructSchema). c.in-Some.place < field_count (fields_of_struct q)) (sym c.in_ok-get_fields-in-Some.ensures) (place_inside c.args.schema c.args.name.now c.args.found c.in-Some.place c.requires.here c.requires.finds c.in-Some.is)
