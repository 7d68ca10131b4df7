use Rattle.std.proofs.Common.{rules, sym, ◌∙◌, subst, Result, List}
use Rattle.capnp_model.specs.Schemas.{Node}
use Rattle.capnp_wire.specs.Views.{seen_list}
use Rattle.capnp_relay_requests.specs.declared.annotations.Context.{Context}
use Rattle.capnp_relay_requests.specs.declared.fault.RequestFault.{RequestFault}
use Rattle.capnp_relay_requests.specs.Steps.{IsRequestRefusal}
use Rattle.capnp_relay_requests.proofs.Declared.{records_are}
use Rattle.capnp_relay_requests.proofs.request.told_in.Goals as goal

pub returns-in_err-nodes-clause-refused : goal.returns-in_err-nodes-clause-refused
returns-in_err-nodes-clause-refused g c =
    let l = seen_list g.A.ReaderArena.segments c.in_ok-list.list in
    let known : Context = record { floats = c.args.floats; types = c.in_ok-types.types } in
    let same = records_are (g.A.ReaderArena.segments c.args.arena.now) (g.A.ReaderArena.nesting c.args.arena.now) l known c.in_ok-list.ensures.ok c.in_ok-types.ensures in
    let told = subst (λ (r : Result (List Node) RequestFault). IsRequestRefusal r c.in_err-nodes.field-0.0) (sym same) c.in_err-nodes.ensures.refused in
    search rules

pub returns-clause-nodes : goal.returns-clause-nodes
returns-clause-nodes g c =
    let l = seen_list g.A.ReaderArena.segments c.in_ok-list.list in
    let known : Context = record { floats = c.args.floats; types = c.in_ok-types.types } in
    let same = records_are (g.A.ReaderArena.segments c.args.arena.now) (g.A.ReaderArena.nesting c.args.arena.now) l known c.in_ok-list.ensures.ok c.in_ok-types.ensures in
    same ∙ c.in_ok-nodes.ensures.ok
