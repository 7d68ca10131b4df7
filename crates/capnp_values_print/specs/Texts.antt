-- The texts of single values.
use Rattle.std.specs.Prelude.{ℕ, ◌-◌, ◌^◌, nat_lt, if◌then◌else◌, Bool, true, false, List, ◌++◌, codes, decimal, map}
use Rattle.capnp_values_print.specs.declared.single.Indent.{Indent}
use Rattle.capnp_values_print.specs.declared.single.Indent.TheVariants as indent
use Rattle.capnp_model.specs.Printing.{joined, Style, on_one_line, indented}

-- Bytes in decimal, with a comma and a blank between each two.
unfoldable pub number_list : List ℕ → List ℕ
number_list bs = joined (codes ", ") (map decimal bs)

-- A truth value.
abbrev pub bool_text : Bool → List ℕ
bool_text true = codes "true"
bool_text false = codes "false"

-- A number in two's complement of n bits.
abbrev pub signed_text : ℕ → ℕ → List ℕ
signed_text width n = if nat_lt n (2 ^ (width - 1)) then decimal n else codes "-" ++ decimal (2 ^ width - n)

-- The form.
abbrev pub style_of : Indent → Style
style_of (indent.OnOneLine n) = on_one_line
style_of (indent.At n) = indented n

-- How many structs, groups and lists it stands in.
abbrev pub values_around : Indent → ℕ
values_around (indent.OnOneLine n) = n
values_around (indent.At n) = n
