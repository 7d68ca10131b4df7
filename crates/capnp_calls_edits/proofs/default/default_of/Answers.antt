use Rattle.std.proofs.Common.{List, ℕ, Option, sym, subst}
use Rattle.std.specs.Prelude.{option_map, option_copied}
use Rattle.capnp_model.specs.Schemas.{default_or_null}
use Rattle.capnp_records.specs.NodeViews.{field_of, struct_of, value_of}
use Rattle.capnp_values_queries.specs.Structs.{nodes_around, id_of, IsRecordOf}
use Rattle.capnp_calls_edits.specs.Written.{HoldsDefaultOrNull}
use Rattle.capnp_calls_edits.proofs.Defaults.{default_held}
use Rattle.capnp_calls_edits.proofs.default.default_of.Goals as goal

pub returns : goal.returns
returns c i ty d body inside =
    let n = struct_of c.record-holder.result.now in
    let holder = subst (λ p. IsRecordOf (nodes_around p) (id_of p) n) c.parent.ensures c.record-holder.ensures in
    let said = option_map value_of (option_copied c.default_said.result) in
    let held = default_held c.args.field (field_of c.get_proto.result.now) c.get_proto.ensures n holder i ty d body said c.default_said.ensures inside in
    subst (λ (words : Option (List (List ℕ))). HoldsDefaultOrNull words (default_or_null d)) (sym c.default_words.ensures) held
