-- Children of which some were replaced.
use Rattle.std.specs.Prelude.{ℕ, zero, suc}
use Rattle.capnp_model.specs.Trees.{null, Trees, none, ◌▸◌, resized, Elements, no_elements, element}

-- The children with the first i of others in place of theirs, null past the last of the others.
abbrev pub with_first : ℕ → Trees → Trees → Trees
with_first zero ts us = us
with_first (suc i) ts none = none
with_first (suc i) none (u ▸ us) = null ▸ with_first i none us
with_first (suc i) (t ▸ ts) (u ▸ us) = t ▸ with_first i ts us

-- The elements with the first i of others in place of theirs.
abbrev pub with_first_elements : ℕ → Elements → Elements → Elements
with_first_elements zero es fs = fs
with_first_elements (suc i) es no_elements = no_elements
with_first_elements (suc i) no_elements fs = fs
with_first_elements (suc i) (element s ts es) (element r us fs) = element s ts (with_first_elements i es fs)

-- The elements with k nulls in place of their children.
abbrev pub childless : ℕ → Elements → Elements
childless k no_elements = no_elements
childless k (element section kids es) = element section (resized k none) (childless k es)
