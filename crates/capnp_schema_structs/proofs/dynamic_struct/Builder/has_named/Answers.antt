use Rattle.std.proofs.Common.{subst}
use Rattle.capnp_values.specs.Shown.{TellsField, AnswersNamed}
use Rattle.capnp_schema_structs.specs.Builders.{struct_view_of}
use Rattle.capnp_schema_structs.proofs.dynamic_struct.Builder.has_named.Goals as goal

pub returns : goal.returns
returns g c =
    let v = struct_view_of g.A.ReaderArena.segments g.A.ReaderArena.nesting c.args.self.now in
    subst (λ s. AnswersNamed s c.args.name.now (TellsField v) c.has_named.result) c.reborrow_as_reader.ensures.schema
    (subst (λ x. AnswersNamed c.reborrow_as_reader.result.schema c.args.name.now (TellsField x) c.has_named.result) c.reborrow_as_reader.ensures.source c.has_named.ensures)
