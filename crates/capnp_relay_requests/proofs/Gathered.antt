-- What is read index by index.
use Rattle.std.proofs.Common.{◌≡◌, inl, inr, ℕ, zero, suc, ◌+◌, ◌-◌, ◌<◌, List, [], ◌∷◌, ◌++◌, map, Result, Ok, Err, sym, ◌∙◌, ap, subst, arith}
use Rattle.std.proofs.lemmas.List.{map-append}
use Rattle.capnp_relay_requests.specs.declared.fault.RequestFault.{RequestFault}
use Rattle.capnp_relay_requests.specs.Steps.{◌and_read◌, gathered, read_each, with_one, IsRequestRefusal}

up : (i : ℕ) → i + 1 ≡ suc i
up i = omega arith

-- one more is read and put to the others
pub put_more : {X Y : Type 0} (put : List Y → X → List Y) (read : ℕ → Result X RequestFault) (i : ℕ) (ys : List Y) (x : X) → gathered put read i ≡ Ok ys → read i ≡ Ok x → gathered put read (i + 1) ≡ Ok (put ys x)
put_more put read i ys x h r =
    ap (gathered put read) (up i)
    ∙ ap (λ o. o and_read λ zs. read i and_read λ z. Ok (put zs z)) h
    ∙ ap (λ o. o and_read λ z. Ok (put ys z)) r

-- one more is read behind the others
pub read_more : {X Y : Type 0} (of : Y → X) (read : ℕ → Result X RequestFault) (i : ℕ) (ys now : List Y) (y : Y) → read_each read i ≡ Ok (map of ys) → read i ≡ Ok (of y) → now ≡ ys ++ (y ∷ []) → read_each read (i + 1) ≡ Ok (map of now)
read_more of read i ys now y h r is =
    put_more with_one read i (map of ys) (of y) h r ∙ ap Ok (sym (map-append of ys (y ∷ [])) ∙ ap (map of) (sym is))

-- an index behind another, and so many on
abbrev behind : ℕ → ℕ → ℕ
behind zero i = suc i
behind (suc k) i = suc (behind k i)

one_on : (k i : ℕ) → suc (k + suc i) ≡ suc k + suc i
one_on k i = omega arith

none_on : (i : ℕ) → suc i ≡ 0 + suc i
none_on i = omega arith

behind_is : (k i : ℕ) → behind k i ≡ k + suc i
behind_is zero i = none_on i
behind_is (suc k) i = ap suc (behind_is k i) ∙ one_on k i

stops_later : {X Y : Type 0} (put : List Y → X → List Y) (read : ℕ → Result X RequestFault) (i k : ℕ) (ys : List Y) (e : RequestFault) → gathered put read i ≡ Ok ys → read i ≡ Err e → gathered put read (behind k i) ≡ Err e
stops_later put read i zero ys e h r =
    ap (λ o. o and_read λ zs. read i and_read λ z. Ok (put zs z)) h
    ∙ ap (λ o. o and_read λ z. Ok (put ys z)) r
stops_later put read i (suc k) ys e h r =
    ap (λ o. o and_read λ zs. read (behind k i) and_read λ z. Ok (put zs z)) (stops_later put read i k ys e h r)

left_over : (i n : ℕ) → i < n → (n - suc i) + suc i ≡ n
left_over i n lt = omega (arith, lt)

-- a refusal at an index is that of all
pub refused_at : {X Y : Type 0} (put : List Y → X → List Y) (read : ℕ → Result X RequestFault) (i n : ℕ) (ys : List Y) (e : RequestFault) → i < n → gathered put read i ≡ Ok ys → IsRequestRefusal (read i) e → IsRequestRefusal (gathered put read n) e
refused_at put read i n ys e lt h (inl m) = inl m
refused_at put read i n ys e lt h (inr r) = inr (subst (λ (k : ℕ). gathered put read k ≡ Err e) (behind_is (n - suc i) i ∙ left_over i n lt) (stops_later put read i (n - suc i) ys e h r))
