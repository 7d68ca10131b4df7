use Rattle.std.proofs.lemmas.Result.{IfOk-weaker}
use Rattle.capnp_model.specs.Accepted.{schema_of}
use Rattle.capnp_records.specs.Sets.{nodes_of}
use Rattle.capnp_values_queries.specs.Types.{ty_of}
use Rattle.capnp_units.specs.Errors.{kind_of}
use Rattle.capnp_values.specs.Shown.{shown}
use Rattle.capnp_values.specs.Sources.{list_seen}
use Rattle.capnp_calls_replies.proofs.Typed.{typed}
use Rattle.capnp_calls_replies.proofs.Parts.{element_answers}
use Rattle.capnp_calls_replies.proofs.Gets.{element_got, element_refused}
use Rattle.capnp_calls_replies.proofs.shown.shown_element.Goals as goal

pub returns-in-Ok-clause-replied : goal.returns-in-Ok-clause-replied
returns-in-Ok-clause-replied g c =
    let l = c.args.list in
    let nodes = nodes_of l.set.now in
    let v = list_seen g.A.ReaderArena.segments l.source in
    let ty = typed l.element_type in
    let t = ty_of l.element_type in
    IfOk-weaker c.text_reply.result _ _ (λ reply h rs are.
    element_got c.wholes_are_read.ensures c.pointers_are_read.ensures nodes l.set.now.accepted ty.0 t ty.1 v rs are c.args.index c.requires (shown g.A.ReaderArena.segments c.in-Ok.value) reply c.in-Ok.ensures
    (element_answers c.elements_are_read.ensures (schema_of nodes) ty.0 t ty.1 v rs are c.args.index c.requires) h) c.text_reply.ensures.text

pub returns-in-Err-clause-replied : goal.returns-in-Err-clause-replied
returns-in-Err-clause-replied g c rs are =
    let l = c.args.list in
    let nodes = nodes_of l.set.now in
    let v = list_seen g.A.ReaderArena.segments l.source in
    let ty = typed l.element_type in
    let t = ty_of l.element_type in
    element_refused c.wholes_are_read.ensures c.pointers_are_read.ensures nodes l.set.now.accepted ty.0 t ty.1 v rs are c.args.index c.requires (kind_of c.in-Err.field-0.kind) c.in-Err.ensures
    (element_answers c.elements_are_read.ensures (schema_of nodes) ty.0 t ty.1 v rs are c.args.index c.requires)
