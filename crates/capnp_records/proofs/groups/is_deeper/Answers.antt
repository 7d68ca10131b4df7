use Rattle.std.proofs.Common.{nat_eq, nat_lt, sym, ◌∙◌, ap}
use Rattle.std.specs.HashMap.{get}
use Rattle.std.specs.List.{list_all}
use Rattle.capnp_model.specs.Accepted.{groups_of_field}
use Rattle.capnp_model.proofs.lemmas.Tests.{and_true}
use Rattle.capnp_records.specs.NodeViews.{kind_of_field}
use Rattle.capnp_records.specs.Uses.{depths_in}
use Rattle.capnp_records.specs.declared.node.FieldBody.{FieldBody}
use Rattle.capnp_records.proofs.groups.is_deeper.Goals as goal

pub returns-in-Slot : goal.returns-in-Slot
returns-in-Slot c = sym (ap (λ (b : FieldBody). list_all (λ g. nat_lt c.args.least (depths_in (get nat_eq c.args.depths.now) g)) (groups_of_field (kind_of_field b))) c.in-Slot.is)

pub returns-in-Group : goal.returns-in-Group
returns-in-Group c =
    ap (nat_lt c.args.least) c.depth_in.ensures
    ∙ sym (and_true (nat_lt c.args.least (depths_in (get nat_eq c.args.depths.now) c.in-Group.node)))
    ∙ sym (ap (λ (b : FieldBody). list_all (λ g. nat_lt c.args.least (depths_in (get nat_eq c.args.depths.now) g)) (groups_of_field (kind_of_field b))) c.in-Group.is)
