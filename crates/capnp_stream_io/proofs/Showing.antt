-- What a reader with a buffer shows of the bytes that it knows.
use Rattle.std.proofs.Common.{◌≡◌, ℕ, ◌≤◌, Bool, true, false, cond, eqb, List, [], ◌++◌, None, Some, IfSome, sym, ap, ◌∙◌, append_assoc, arith}
use Rattle.std.specs.declared.option.Option.{Option}
use Rattle.std.specs.Io.KnownBytes.{Keeps, Consumes, prepend_known}

-- where it shows none there is none, also when it shows what it kept
pub none_shown : (old mid : Option (List ℕ)) (some all : ℕ) → Keeps old mid → IfSome mid (λ xs. some ≡ 0 → xs ≡ []) → IfSome mid (λ _. some ≤ all) → IfSome old (λ xs. all ≡ 0 → xs ≡ [])
none_shown None mid some all kept ends fewer = tt
none_shown (Some xs) None some all kept ends fewer = absurd kept
none_shown (Some xs) (Some ys) some all kept ends fewer = λ none. sym kept ∙ ends (omega (arith, fewer, none))

-- what is taken of the bytes that it shows is taken of all
pub taken_shown : (capacity after : ℕ) (behind new : Option (List ℕ)) (window left front : List ℕ) → after ≡ capacity → new ≡ behind → window ≡ front ++ left
    → Consumes (cond (eqb capacity 0) None (prepend_known window behind)) (cond (eqb after 0) None (prepend_known left new)) front
taken_shown capacity after behind new window left front same kept is = rw (same, kept) (by (eqb capacity 0) behind)
  where
    by : (none : Bool) (b : Option (List ℕ)) → Consumes (cond none None (prepend_known window b)) (cond none None (prepend_known left b)) front
    by true b = tt
    by false None = tt
    by false (Some more) = ap (λ l. l ++ more) is ∙ append_assoc front left more
