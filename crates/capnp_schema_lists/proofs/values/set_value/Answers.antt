use Rattle.std.proofs.Common.{Err}
use Rattle.capnp_units.specs.Segments.{words_in}
use Rattle.capnp_model_writes.proofs.lemmas.Algebra.{changes_nothing}
use Rattle.capnp_model_writes.proofs.lemmas.Spans.{grows_same}
use Rattle.capnp_values_queries.specs.Types.{ty_of}
use Rattle.capnp_schema_structs.proofs.lemmas.Sources.{flat_stands}
use Rattle.capnp_schema_structs.specs.Values.{struct_given}
use Rattle.capnp_schema_lists.proofs.AnyValues.{pointers_of, leaves}
use Rattle.capnp_schema_lists.proofs.values.set_value.Goals as goal

pub set_source-requires-clause-pointer : goal.set_source-requires-clause-pointer
set_source-requires-clause-pointer g c = pointers_of c.args.list (ty_of c.args.ty) c.in-Some-list_for.ensures.lists c.requires.holds.0

pub returns-then-are_capabilities-clause-leaves : goal.returns-then-are_capabilities-clause-leaves
returns-then-are_capabilities-clause-leaves g c =
    let s = words_in (g.A.ReaderArena.segments c.args.memory.now.arena) in
    leaves (struct_given g.B.ReaderArena.segments c.args.value.now (ty_of c.args.ty)) s s (Err c.from.result) (grows_same s) (changes_nothing s (λ q. 0))

pub returns-clause-leaves : goal.returns-clause-leaves
returns-clause-leaves g c =
    let old = g.A.ReaderArena.segments c.args.memory.now.arena in
    let new = g.A.ReaderArena.segments c.set_flat.new.arena in
    leaves (struct_given g.B.ReaderArena.segments c.args.value.now (ty_of c.args.ty)) (words_in old) (words_in new) c.set_flat.result c.set_flat.ensures.grows (flat_stands old new c.set_flat.result c.set_flat.ensures.refused)
