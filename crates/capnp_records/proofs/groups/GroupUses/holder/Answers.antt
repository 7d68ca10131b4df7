use Rattle.std.proofs.Common.{◌≡◌, ◌<◌, ℕ, List, Some, map, length, get_or, slice_get, sym, ◌∙◌, ap, arith}
use Rattle.capnp_model.specs.Accepted.{holder_of}
use Rattle.capnp_records.specs.NodeViews.{node_of}
use Rattle.capnp_records.specs.declared.node.NodeRecord.{NodeRecord}
use Rattle.capnp_records.proofs.lemmas.FieldPlaces.{get_at, length_mapped}
use Rattle.capnp_records.proofs.Holders.{no_holder, holder_placed, PlacedHolder}
use Rattle.capnp_records.proofs.groups.GroupUses.holder.Goals as goal

inside : (ns : List NodeRecord) (id place : ℕ) → PlacedHolder (map node_of ns) id 0 place → place < length ns
inside ns id place p = let a = p.place in let b = p.inside in let l = length_mapped node_of ns in omega (arith, a, b, l)

found : (ns : List NodeRecord) (id place : ℕ) (x : NodeRecord) → PlacedHolder (map node_of ns) id 0 place → x ≡ get_or ns place x → holder_of (map node_of ns) id ≡ Some (node_of x)
found ns id place x p e =
    let a = p.place in
    let same : p.steps ≡ place = omega (arith, a) in
    p.found ∙ ap (slice_get (map node_of ns)) same ∙ get_at node_of ns place x (inside ns id place p) e

pub returns-in_default : goal.returns-in_default
returns-in_default c = sym (no_holder c.args.id 0 (map node_of c.args.nodes.records.now) (sym (c.requires.holders c.args.id) ∙ sym c.in_default.ensures.value))

pub at-requires : goal.at-requires
at-requires c = inside c.args.nodes.records.now c.args.id c.in-Some.place.now (holder_placed c.args.id 0 c.in-Some.place.now (map node_of c.args.nodes.records.now) (sym (c.requires.holders c.args.id) ∙ sym c.in-Some.ensures.value))

pub returns : goal.returns
returns c =
    let p = holder_placed c.args.id 0 c.in-Some.place.now (map node_of c.args.nodes.records.now) (sym (c.requires.holders c.args.id) ∙ sym c.in-Some.ensures.value) in
    sym (found c.args.nodes.records.now c.args.id c.in-Some.place.now c.at.result.now p c.at.ensures)
