use Rattle.std.proofs.Common.{sym, ◌∙◌}
use Rattle.capnp_model.specs.Accepted.{schema_of}
use Rattle.capnp_records.specs.Sets.{nodes_of}
use Rattle.capnp_values_queries.specs.Types.{ty_of}
use Rattle.capnp_schema_structs.proofs.EmptyValues.{struct_list_empty, some_empty, no_list}
use Rattle.capnp_schema_structs.proofs.group_empties.empty_list.Goals as goal

pub returns-then-is_struct_list-clause-list : goal.returns-then-is_struct_list-clause-list
returns-then-is_struct_list-clause-list c = struct_list_empty (schema_of (nodes_of c.args.set.now)) (ty_of c.args.ty) (sym c.is_struct_list.ensures ∙ c.if-is_struct_list.true)

pub returns-clause-list : goal.returns-clause-list
returns-clause-list c =
    some_empty (schema_of (nodes_of c.args.set.now)) (ty_of c.args.ty) (sym c.is_struct_list.ensures ∙ c.if-is_struct_list.false) c.list_for.result c.list_for.ensures.list

pub returns-clause-none : goal.returns-clause-none
returns-clause-none c = no_list (schema_of (nodes_of c.args.set.now)) (ty_of c.args.ty) c.list_for.result c.list_for.ensures.list
