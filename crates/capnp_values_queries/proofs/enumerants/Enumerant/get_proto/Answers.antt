use Rattle.std.proofs.Common.{◌≡◌, ◌<◌, ℕ, map, length, sym, ◌∙◌, ap, subst}
use Rattle.capnp_records.specs.NodeViews.{enumerant_of}
use Rattle.capnp_records.proofs.lemmas.FieldPlaces.{length_mapped}
use Rattle.capnp_values_queries.proofs.EnumRecords.{recorded_are, enumerant_known}
use Rattle.capnp_values_queries.proofs.enumerants.Enumerant.get_proto.Goals as goal

pub returns : goal.returns
returns c =
    let parent = c.args.self.parent in
    let xs = c.records.result.now in
    let count = ap length (recorded_are parent (map enumerant_of xs) c.records.ensures) ∙ length_mapped enumerant_of xs in
    let lt = subst (λ (n : ℕ). c.args.self.ordinal < n) count c.args.self.inside in
    enumerant_known parent xs c.records.ensures c.args.self.ordinal c.index-records-self.result lt c.index-records-self.is
