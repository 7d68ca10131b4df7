use Rattle.std.proofs.Common.{rules}
use Rattle.test_layout.proofs.Deep.{Laws, edited_at}
use Rattle.test_layout.proofs.builders.deep_tests.set_inner_number.Goals as goal

pub returns-clause-edited : goal.returns-clause-edited
returns-clause-edited g c =
    let laws : Laws = record {
      again = c.changes_of_values.ensures.again;
      owned = c.changes_of_values.ensures.owned;
      more_owned = c.changes_with_more_levels.ensures.owned;
      more_replaced = c.changes_with_more_levels.ensures.replaced;
      down = c.values_behind_structs.ensures.down;
      up = c.values_behind_structs.ensures.up;
      number = c.values_behind_structs.ensures.number;
    } in
    let outer = c.in_ok-outer.ensures.got.got in
    let inner = c.in_ok-inner.ensures.got.got in
    edited_at laws _ _ _ _ _ _ _ _ _ _ _ _ c.in_ok-inner.inner.place c.args.value (search rules) c.get_root.ensures.place (search rules) c.get_pointer_field-slot.ensures.place (search rules) outer.value outer.object outer.enough.1 inner.value inner.object c.set_data_field.ensures.sets
