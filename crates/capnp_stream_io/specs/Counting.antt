-- What a call leaves of a device's count of failures.
use Rattle.std.specs.Prelude.{◌≡◌, ℕ, ◌+◌, ◌-◌, ◌^◌, min, Ok, Err}
use Rattle.std.specs.declared.result.Result.{Result}
use Rattle.capnp_units.specs.declared.errors.Error.{Error}
use Rattle.capnp_units.specs.declared.kinds.ErrorKind.{ErrorKind}
use Rattle.capnp_units.specs.declared.kinds.ErrorKind.TheVariants.{Device}

-- The count rose by one in the call, or stayed at its greatest value.
abbrev pub Rose : ℕ → ℕ → Type 0
Rose old new = new ≡ min (old + 1) (2 ^ 64 - 1)

-- A call that is refused by `Device` raised the count, one that is refused otherwise left it.
abbrev pub KindCounts : ErrorKind → ℕ → ℕ → Type 0
KindCounts Device old new = Rose old new
KindCounts _ old new = new ≡ old

-- `Device` is returned only where the count rose, and what ends otherwise leaves the count.
abbrev pub Counts : {A : Type 0} → Result A Error → ℕ → ℕ → Type 0
Counts (Ok x) old new = new ≡ old
Counts (Err e) old new = KindCounts e.kind old new
