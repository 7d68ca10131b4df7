-- What stands behind the last colon.
use Rattle.std.proofs.Common.{◌≡◌, ℕ, zero, suc, ◌-◌, ◌<◌, ◌≤◌, ◌==◌, if◌then◌else◌, Option, Some, None, List, [], ◌∷◌, length, take, drop, get_or, sym, ◌∙◌, ap, arith, le_of_eq, drop-cons}
use Rattle.std.proofs.lemmas.List.{take_all, length-drop}
use Rattle.capnp_model.proofs.lemmas.Tests.{number_is}
use Rattle.capnp_relay_requests.specs.Names.{after_colon, behind_colon}

-- what stands behind the last colon of a rest stands behind that of the whole
pub in_rest : (k : ℕ) (bs r : List ℕ) → after_colon (drop k bs) ≡ Some r → after_colon bs ≡ Some r
in_rest zero bs r h = h
in_rest (suc k) [] r h = h
in_rest (suc k) (b ∷ bs) r h = ap (λ (o : Option (List ℕ)). elim o [ Some s ↦ Some s | None ↦ if b == 58 then Some bs else None ]) (in_rest k bs r h)

rest_is : (bs : List ℕ) (at : ℕ) → take (length bs - at) (drop at bs) ≡ drop at bs
rest_is bs at = take_all (length bs - at) (drop at bs) (le_of_eq (length-drop at bs))

-- what is chosen of a whole
abbrev chosen : List ℕ → Option (List ℕ) → List ℕ
chosen bs o = elim o [ Some r ↦ r | None ↦ bs ]

at_colon : (b : ℕ) (bs : List ℕ) → b ≡ 58 → after_colon bs ≡ None → after_colon (b ∷ bs) ≡ Some bs
at_colon b bs is none =
    ap (λ (o : Option (List ℕ)). elim o [ Some s ↦ Some s | None ↦ if b == 58 then Some bs else None ]) none
    ∙ ap (λ t. if t then Some bs else None) (ap (λ k. k == 58) is ∙ number_is 58)

before : (at n : ℕ) → 0 < at → at ≤ n → at - 1 < n
before at n some inside = omega (arith, some, inside)

up : (at : ℕ) → 0 < at → suc (at - 1) ≡ at
up at some = omega (arith, some)

-- the rest behind a colon, in which there is none
pub found_here : (bs : List ℕ) (at : ℕ) → 0 < at → at ≤ length bs → get_or bs (at - 1) 0 ≡ 58 → after_colon (drop at bs) ≡ None → take (length bs - at) (drop at bs) ≡ behind_colon bs
found_here bs at some inside is none =
    let split : drop (at - 1) bs ≡ get_or bs (at - 1) 0 ∷ drop at bs = drop-cons bs (at - 1) 0 (before at (length bs) some inside) ∙ ap (λ k. get_or bs (at - 1) 0 ∷ drop k bs) (up at some) in
    let here : after_colon (drop (at - 1) bs) ≡ Some (drop at bs) = ap after_colon split ∙ at_colon (get_or bs (at - 1) 0) (drop at bs) is none in
    rest_is bs at ∙ sym (ap (chosen bs) (in_rest (at - 1) bs (drop at bs) here))

-- the whole, in which there is none
pub found_nowhere : (bs : List ℕ) (at : ℕ) → at ≡ 0 → after_colon (drop at bs) ≡ None → take (length bs - at) (drop at bs) ≡ behind_colon bs
found_nowhere bs at begin none =
    let whole : drop at bs ≡ bs = ap (λ k. drop k bs) begin in
    rest_is bs at ∙ whole ∙ sym (ap (chosen bs) (sym (ap after_colon whole) ∙ none))
