-- Float fields index by index.
use Rattle.std.proofs.Common.{◌≡◌, ℕ, suc, ◌+◌, if◌then◌else◌, List, [], ◌∷◌, ◌++◌, append_assoc, ◌∙◌, ap, arith}
use Rattle.capnp_wire.specs.Views.{ListView, element_as_struct}
use Rattle.capnp_relay_requests.specs.Floats.{is_float_field, floats_among, floats_of_node, floats_of_nodes}

up : (i : ℕ) → suc i ≡ i + 1
up i = omega arith

pub next_field : (id : ℕ) (l : ListView) (i : ℕ) (old was now : List (ℕ × ℕ)) → was ≡ old ++ floats_among id l i → now ≡ was ++ (if is_float_field (element_as_struct l i) then (id, i) ∷ [] else []) → now ≡ old ++ floats_among id l (i + 1)
next_field id l i old was now before is =
    let one : List (ℕ × ℕ) = if is_float_field (element_as_struct l i) then (id, i) ∷ [] else [] in
    is
    ∙ ap (λ ys. ys ++ one) before
    ∙ append_assoc old (floats_among id l i) one
    ∙ ap (λ k. old ++ floats_among id l k) (up i)

pub next_node : (l : ListView) (i : ℕ) (was now : List (ℕ × ℕ)) → was ≡ floats_of_nodes l i → now ≡ was ++ floats_of_node (element_as_struct l i) → now ≡ floats_of_nodes l (i + 1)
next_node l i was now before is =
    is
    ∙ ap (λ ys. ys ++ floats_of_node (element_as_struct l i)) before
    ∙ ap (floats_of_nodes l) (up i)
