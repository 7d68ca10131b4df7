-- What is read.
use Rattle.std.specs.Prelude.{ℕ}
use Rattle.capnp_model.specs.Segments.{Segments}

-- What a walk reads, and how many levels deep.
pub record Reach : Type 0 where
  pub levels : ℕ
  pub segments : Segments

-- Segments, n levels deep.
abbrev pub reach : ℕ → Segments → Reach
reach n s = record { levels = n; segments = s }
