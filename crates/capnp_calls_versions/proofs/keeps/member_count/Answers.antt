use Rattle.std.proofs.Common.{◌==◌, not, ◌∙◌, rules}
use Rattle.std.proofs.lemmas.Iterator.{YieldsList-from_slice}
use Rattle.std.proofs.lemmas.Iterator.Consumers.{count_from_yields_List, YieldsList-from_filter}
use Rattle.std.proofs.lemmas.List.Sums.{length-filter}
use Rattle.capnp_records.specs.declared.node.FieldRecord.{FieldRecord}
use Rattle.capnp_calls_versions.proofs.keeps.member_count.Goals as goal

pub returns : goal.returns
returns c =
    count_from_yields_List _ c.count.result c.count.ensures.ran (YieldsList-from_filter _ (λ (f : FieldRecord). not (f.discriminant_value == 65535)) (YieldsList-from_slice c.args.fields.now cc) c.filter.ensures.closure (λ x b q k. search rules))
    ∙ length-filter (λ (f : FieldRecord). not (f.discriminant_value == 65535)) c.args.fields.now
