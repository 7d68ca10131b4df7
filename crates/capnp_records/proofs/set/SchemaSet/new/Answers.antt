use Rattle.std.proofs.Common.{List, map, sym, subst, ◌∙◌, ap}
use Rattle.std.specs.List.{list_all}
use Rattle.capnp_model.specs.Schemas.{Node}
use Rattle.capnp_model.specs.Accepted.{is_short, IsAccepted}
use Rattle.capnp_model.proofs.lemmas.SoundRules.{rules_kept}
use Rattle.capnp_records.specs.NodeViews.{node_of}
use Rattle.capnp_records.specs.Tables.{members_in, others_in, AreNodesByName, node_place}
use Rattle.capnp_records.specs.declared.node.NodeRecord.{NodeRecord}
use Rattle.capnp_records.proofs.set.SchemaSet.new.Goals as goal

pub tables_of-requires : goal.tables_of-requires
tables_of-requires c =
    let short = (rules_kept (map node_of c.new.result.records.now) c.in_ok-check.ensures.kept).short in
    ap (λ ns. list_all is_short (map node_of ns)) (c.deref-3.ensures.value ∙ sym c.deref-2.ensures.value ∙ sym c.new.ensures) ∙ short

pub invariant_of-result : goal.invariant_of-result
invariant_of-result c = record {
  accepted = subst (λ (ns : List NodeRecord). IsAccepted (map node_of ns)) (c.new.ensures ∙ c.deref-2.ensures.value) c.in_ok-check.ensures.kept;
  placed = λ id. c.in_ok-places.ensures id ∙ ap (λ (ns : List NodeRecord). node_place id 0 (map node_of ns)) c.deref.ensures.value;
  members = c.in_ok-tables.ensures.members ∙ ap (λ (ns : List NodeRecord). map (λ (n : Node). members_in n.kind) (map node_of ns)) c.deref-3.ensures.value;
  others = c.in_ok-tables.ensures.others ∙ ap (λ (ns : List NodeRecord). map (λ (n : Node). others_in n.kind) (map node_of ns)) c.deref-3.ensures.value;
  by_name = subst (λ (ns : List NodeRecord). AreNodesByName (map node_of ns) c.in_ok-tables.tables.items) c.deref-3.ensures.value c.in_ok-tables.ensures.by_name;
}
