-- Reading in steps, each of which may be refused.
use Rattle.std.specs.Prelude.{◌≡◌, ◌⊎◌, ℕ, zero, suc, List, [], ◌∷◌, ◌++◌, Result, Ok, Err}
use Rattle.capnp_relay_requests.specs.declared.fault.RequestFault.{RequestFault}
use Rattle.capnp_relay_requests.specs.declared.fault.RequestFault.TheVariants.{Memory}

infixl 10 ◌and_read◌
-- The second step at what the first gives, or the first one's refusal.
abbrev pub ◌and_read◌ : {A B : Type 0} → Result A RequestFault → (A → Result B RequestFault) → Result B RequestFault
(Ok x) and_read f = f x
(Err e) and_read f = Err e

-- What is read at each of n indexes, put to what was read before, or the refusal at the first that
-- has one.
abbrev pub gathered : {X Y : Type 0} → (List Y → X → List Y) → (ℕ → Result X RequestFault) → ℕ → Result (List Y) RequestFault
gathered put read zero = Ok []
gathered put read (suc n) = gathered put read n and_read λ ys. read n and_read λ x. Ok (put ys x)

-- One more behind others.
abbrev pub with_one : {X : Type 0} → List X → X → List X
with_one xs x = xs ++ (x ∷ [])

-- What is read at each of n indexes.
abbrev pub read_each : {X : Type 0} → (ℕ → Result X RequestFault) → ℕ → Result (List X) RequestFault
read_each read n = gathered with_one read n

-- The refusal of a call: that of what is told, or want of memory.
abbrev pub IsRequestRefusal : {X : Type 0} → Result X RequestFault → RequestFault → Type 0
IsRequestRefusal told e = (e ≡ Memory) ⊎ (told ≡ Err e)
