-- One count more at a place.
use Rattle.std.proofs.Common.{◌≡◌, ℕ, zero, suc, List, [], ◌∷◌, slice_index_or, slice_set, refl, ap, ap₂, sym, ◌∙◌}
use Rattle.hagzimot_outcomes.specs.Counts.{summed, one_more_at}
use Rattle.hagzimot_outcomes.specs.declared.refused_calls.KindCount.{KindCount}

pub counted_at : (items : List KindCount) (place n : ℕ) (known : KindCount) → known ≡ slice_index_or items place known → n ≡ summed known.count 1 → slice_set items place (record { kind = known.kind; count = n }) ≡ one_more_at place items
counted_at [] place n known is counts = refl
counted_at (c ∷ cs) zero n known is counts =
    let number : n ≡ summed c.count 1 = counts ∙ ap (λ (k : KindCount). summed k.count 1) is in
    ap₂ (λ (k : KindCount) (m : ℕ). record { kind = k.kind; count = m } ∷ cs) is number
counted_at (c ∷ cs) (suc place) n known is counts = ap (λ ks. c ∷ ks) (counted_at cs place n known is counts)
