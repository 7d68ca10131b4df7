use Rattle.std.proofs.Common.{ap, sym, ◌∙◌, arith}
use Rattle.capnp_model.specs.Schemas.{base_type}
use Rattle.capnp_records.specs.NodeViews.{base_of}
use Rattle.capnp_values_queries.specs.Types.{is_pointer}
use Rattle.capnp_values_print.proofs.SlotTypes.{lists_pointer, no_list}
use Rattle.capnp_values_print.proofs.slots.is_pointer.Goals as goal

pub returns-then-ty-gt0 : goal.returns-then-ty-gt0
returns-then-ty-gt0 c = sym (lists_pointer c.args.ty.list_count (base_type (base_of c.args.ty.base)) c.if-ty-gt0.true)

pub returns : goal.returns
returns c = c.is_base_pointer.ensures ∙ ap is_pointer (sym (no_list c.args.ty.list_count (base_type (base_of c.args.ty.base)) (omega (arith, c.if-ty-gt0.false))))
