-- Which operators hold of two values, by their order.
use Rattle.std.specs.Prelude.{Bool, true, false, not, ◌||◌, Option, Some, None}
use Rattle.std.specs.declared.cmp.Ordering.{Ordering}
use Rattle.std.specs.declared.cmp.Ordering.TheVariants as order
use Rattle.hagzimot_expressions.specs.declared.tree.Operator.{Operator}
use Rattle.hagzimot_expressions.specs.declared.tree.Operator.TheVariants as op

abbrev pub is_equal_order : Option Ordering → Bool
is_equal_order (Some order.Equal) = true
is_equal_order (Some order.Less) = false
is_equal_order (Some order.Greater) = false
is_equal_order None = false

abbrev pub is_less_order : Option Ordering → Bool
is_less_order (Some order.Equal) = false
is_less_order (Some order.Less) = true
is_less_order (Some order.Greater) = false
is_less_order None = false

abbrev pub is_greater_order : Option Ordering → Bool
is_greater_order (Some order.Equal) = false
is_greater_order (Some order.Less) = false
is_greater_order (Some order.Greater) = true
is_greater_order None = false

-- Whether an operator holds of two values in this order; `None` of values that have none, which are unequal.
abbrev pub fits_order : Operator → Option Ordering → Bool
fits_order op.Equal o = is_equal_order o
fits_order op.Unequal o = not (is_equal_order o)
fits_order op.Less o = is_less_order o
fits_order op.AtMost o = is_less_order o || is_equal_order o
fits_order op.Greater o = is_greater_order o
fits_order op.AtLeast o = is_greater_order o || is_equal_order o
fits_order op.Contains o = false
