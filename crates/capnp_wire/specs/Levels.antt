-- The levels of pointers that may still be followed.
use Rattle.std.specs.Prelude.{ℕ, ◌-◌, ◌==◌, if◌then◌else◌, Option, Some, None, Result, Ok, Err}
use Rattle.capnp_model.specs.Kinds.{Kind, NestingLimitExceeded}

-- A struct and a list take a level. Under a negative limit there are no levels, not even for null.
abbrev pub level_below : Option ℕ → Result (Option ℕ) Kind
level_below None = Err NestingLimitExceeded
level_below (Some n) = if n == 0 then Err NestingLimitExceeded else Ok (Some (n - 1))
