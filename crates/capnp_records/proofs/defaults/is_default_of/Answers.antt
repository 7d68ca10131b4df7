use Rattle.std.proofs.Common.{◌-◌, option_map, sym, ◌∙◌, ap}
use Rattle.capnp_model.specs.Schemas.{Ty, base_type, lists_of}
use Rattle.capnp_model.specs.Accepted.{is_default_of}
use Rattle.capnp_records.specs.NodeViews.{base_of, value_of}
use Rattle.capnp_records.proofs.lemmas.Stored.{is_list}
use Rattle.capnp_records.proofs.defaults.is_default_of.Goals as goal

pub returns-then-ty-gt0 : goal.returns-then-ty-gt0
returns-then-ty-gt0 c =
    let n = c.args.ty.list_count in
    let b = base_type (base_of c.args.ty.base) in
    c.is_default_of_list.ensures (lists_of (n - 1) b) ∙ ap (λ (t : Ty). is_default_of t (option_map value_of c.args.default.now)) (sym (is_list n b c.if-ty-gt0.true))
