use Rattle.std.proofs.Common.{option_copied}
use Rattle.capnp_units.specs.Segments.{words_in}
use Rattle.capnp_wire_objects.specs.Places.{place_view}
use Rattle.capnp_schema_structs.proofs.lemmas.Grown.{no_struct_grows}
use Rattle.capnp_schema_values.proofs.GotParts.{struct_grows}
use Rattle.capnp_schema_values.proofs.structs.struct_slot.Goals as goal

pub returns-clause-grows : goal.returns-clause-grows
returns-clause-grows g c =
    struct_grows (option_copied c.default_words.result) (words_in (g.A.ReaderArena.segments c.args.arena.now)) (words_in (g.A.ReaderArena.segments c.struct_or_default.new.arena)) (place_view c.args.slot) c.struct_size.result c.in_ok-place.place c.in_ok-place.ensures.got

pub returns-in_err-place-clause-grows : goal.returns-in_err-place-clause-grows
returns-in_err-place-clause-grows g c = λ n t own.
    no_struct_grows (option_copied c.default_words.result) (words_in (g.A.ReaderArena.segments c.args.arena.now)) (words_in (g.A.ReaderArena.segments c.struct_or_default.new.arena)) (place_view c.args.slot) c.struct_size.result c.in_err-place.field-0.0 c.in_err-place.ensures.refused
