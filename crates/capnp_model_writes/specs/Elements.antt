-- One of the elements of a list of structs.
use Rattle.std.specs.Prelude.{ℕ, zero, suc}
use Rattle.capnp_model.specs.Trees.{Tree, null, structure, Trees, Elements, no_elements, element}

-- The element at an index, a struct of n data words; null past the last.
abbrev pub element_at : ℕ → Elements → ℕ → Tree
element_at d no_elements i = null
element_at d (element section kids es) zero = structure d section kids
element_at d (element section kids es) (suc i) = element_at d es i

-- The elements with another section and other children at an index.
abbrev pub with_element : Elements → ℕ → ℕ → Trees → Elements
with_element no_elements i section kids = no_elements
with_element (element s ts es) zero section kids = element section kids es
with_element (element s ts es) (suc i) section kids = element s ts (with_element es i section kids)
