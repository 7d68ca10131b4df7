-- Zeros behind the used bytes.
use Rattle.std.proofs.Common.{◌≡◌, ℕ, ◌+◌, ◌*◌, ◌-◌, ◌≤◌, List, ◌++◌, length, take, drop, replicate, ap, sym, ◌∙◌, subst, arith}
use Rattle.std.proofs.lemmas.List.{drop-replicate, length-drop, length-take, length-append, append_assoc, drop-drop, drop_at}
use Rattle.capnp_copy_arenas.specs.Memory.{ZeroFrom, overwritten}

zeros_after : (n k : ℕ) (bs : List ℕ) → ZeroFrom n bs → ZeroFrom (n + k) bs
zeros_after n k bs z =
    let e = sym (drop-drop k n bs) in
    e ∙ ap (λ (xs : List ℕ). drop k xs) z ∙ drop-replicate k (length (drop n bs)) 0
    ∙ ap (λ (m : ℕ). replicate m 0) (sym (ap (λ (xs : List ℕ). length xs) e ∙ length-drop k (drop n bs)))

pub zero_from_more : (u w : ℕ) (bs : List ℕ) → ZeroFrom (8 * u) bs → ZeroFrom (8 * (u + w)) bs
zero_from_more u w bs z =
    let P : ℕ → Type 0 = λ n. ZeroFrom n bs in
    subst P (omega arith) (zeros_after (8 * u) (8 * w) bs z)

pub overwritten_length : (at : ℕ) (from bs : List ℕ) → at + length from ≤ length bs → length (overwritten at from bs) ≡ length bs
overwritten_length at from bs l =
    omega (arith, l, length-append (take at bs) (from ++ drop (at + length from) bs), length-append from (drop (at + length from) bs), length-take at bs, length-drop (at + length from) bs)

-- what is behind what was written is as it was
pub drop_overwritten : (n at : ℕ) (from bs : List ℕ) → at + length from ≤ n → n ≤ length bs → drop n (overwritten at from bs) ≡ drop n bs
drop_overwritten n at from bs l m =
    let long : length (take at bs ++ from) ≡ at + length from = omega (arith, l, m, length-append (take at bs) from, length-take at bs) in
    let k : ℕ = n - (at + length from) in
    let sum : n ≡ (at + length from) + (n - (at + length from)) = omega (arith, l) in
    let shape : overwritten at from bs ≡ (take at bs ++ from) ++ drop (at + length from) bs = sym (append_assoc (take at bs) from (drop (at + length from) bs)) in
    ap (λ (i : ℕ). drop i (overwritten at from bs)) sum
    ∙ sym (drop-drop (n - (at + length from)) (at + length from) (overwritten at from bs))
    ∙ ap (λ (xs : List ℕ). drop (n - (at + length from)) (drop (at + length from) xs)) shape
    ∙ ap (λ (xs : List ℕ). drop (n - (at + length from)) xs) (drop_at (take at bs ++ from) (drop (at + length from) bs) (at + length from) long)
    ∙ drop-drop (n - (at + length from)) (at + length from) bs
    ∙ ap (λ (i : ℕ). drop i bs) (sym sum)

pub zero_behind : (n at : ℕ) (from bs : List ℕ) → at + length from ≤ n → n ≤ length bs → ZeroFrom n bs → ZeroFrom n (overwritten at from bs)
zero_behind n at from bs l m z =
    let e = drop_overwritten n at from bs l m in
    e ∙ z ∙ ap (λ (xs : List ℕ). replicate (length xs) 0) (sym e)

pub zero_from_all : (n : ℕ) (bs : List ℕ) → bs ≡ replicate (length bs) 0 → ZeroFrom n bs
zero_from_all n bs z = ap (drop n) z ∙ drop-replicate n (length bs) 0 ∙ ap (λ (m : ℕ). replicate m 0) (sym (length-drop n bs))
