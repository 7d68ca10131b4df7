use Rattle.std.proofs.Common.{◌≡◌, ℕ, ◌≤◌, List, length, drop, replicate, ap, sym, ◌∙◌}
use Rattle.std.proofs.lemmas.List.{drop_all}
use Rattle.capnp_copy_arenas.specs.Memory.{ZeroFrom}

-- Nothing is behind the end, and so zeros alone.
pub zeros_behind_end : (n : ℕ) (bytes : List ℕ) → length bytes ≤ n → ZeroFrom n bytes
zeros_behind_end n bytes l =
    let e = drop_all n bytes l in
    e ∙ ap (λ (bs : List ℕ). replicate (length bs) 0) (sym e)
