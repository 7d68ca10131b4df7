-- How many calls were refused, of each kind.
use Rattle.std.specs.Prelude.{ℕ, zero, suc, ◌≡◌, ◌+◌, ◌-◌, ◌^◌, min, ◌⊎◌, Option, Some, None, List, [], ◌∷◌, ◌++◌, codes, decimal}
use Rattle.std.specs.List.{flat_map}
use Rattle.capnp_model.specs.Kinds.{kind_name}
use Rattle.capnp_units.specs.Errors.{kind_of}
use Rattle.capnp_units.specs.declared.kinds.ErrorKind.{ErrorKind}
use Rattle.hagzimot_outcomes.specs.declared.refused_calls.KindCount.{KindCount}
use Rattle.hagzimot_outcomes.specs.declared.refused_calls.RefusedCalls.{RefusedCalls}

-- A sum, as far as 64 bits count.
abbrev pub summed : ℕ → ℕ → ℕ
summed a b = min (a + b) (2 ^ 64 - 1)

-- ---- one call more

-- The count at a place is one more, and the others are as they were.
abbrev pub one_more_at : ℕ → List KindCount → List KindCount
one_more_at place [] = []
one_more_at zero (c ∷ cs) = record c { count = summed c.count 1 } ∷ cs
one_more_at (suc place) (c ∷ cs) = c ∷ one_more_at place cs

-- A call of a kind is counted at the place of its kind. A new kind is behind the others, or else the call is counted without it.
abbrev pub CountsOne : Option ℕ → ErrorKind → RefusedCalls → RefusedCalls → Type 0
CountsOne (Some place) kind old new = (new.kinds.items ≡ one_more_at place old.kinds.items) × (new.others ≡ old.others)
CountsOne None kind old new =
    ((new.kinds.items ≡ old.kinds.items ++ (record { kind = kind; count = 1 } ∷ [])) × (new.others ≡ old.others))
    ⊎ ((new.kinds.items ≡ old.kinds.items) × (new.others ≡ summed old.others 1))

-- ---- as text

-- A number and the counts, in one sum.
abbrev pub total_from : ℕ → List KindCount → ℕ
total_from n [] = n
total_from n (c ∷ cs) = total_from (summed n c.count) cs

-- A kind and its count.
abbrev pub kind_text : KindCount → List ℕ
kind_text c = kind_name (kind_of c.kind) ++ (codes " " ++ decimal c.count)

-- Kinds and their counts in parentheses.
abbrev pub kinds_text : List KindCount → List ℕ
kinds_text [] = []
kinds_text (c ∷ cs) = codes " (" ++ (kind_text c ++ (flat_map (λ d. codes ", " ++ kind_text d) cs ++ codes ")"))

-- The line's part on calls.
abbrev pub counts_text : RefusedCalls → List ℕ
counts_text r = decimal (total_from r.others r.kinds.items) ++ (codes " calls refused" ++ kinds_text r.kinds.items)

-- ---- as JSON

-- A kind and its count as a member of an object.
abbrev pub kind_member : KindCount → List ℕ
kind_member c = codes "\"" ++ (kind_name (kind_of c.kind) ++ (codes "\":" ++ decimal c.count))

-- The members of an object.
abbrev pub kind_members : List KindCount → List ℕ
kind_members [] = []
kind_members (c ∷ cs) = kind_member c ++ flat_map (λ d. codes "," ++ kind_member d) cs

-- The object.
abbrev pub counts_json : RefusedCalls → List ℕ
counts_json r = codes "{" ++ (kind_members r.kinds.items ++ codes "}")
