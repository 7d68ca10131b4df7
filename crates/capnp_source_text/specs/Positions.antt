-- Positions in a source.
use Rattle.std.specs.Prelude.{ℕ, ◌+◌, ◌==◌, List, count_by}
use Rattle.std.specs.List.{suffix_len}
use Rattle.std.specs.Prelude.{not}
use Rattle.capnp_source_text.specs.declared.positions.Position.{Position}

abbrev pub line_feed : ℕ
line_feed = 10

-- The position after a text: its line is one more than its line feeds, its column one more than the bytes after the
-- last line feed.
abbrev pub position_behind : List ℕ → Position
position_behind bs = record {
  line = count_by (λ b. b == line_feed) bs + 1;
  column = suffix_len (λ b. not (b == line_feed)) bs + 1;
}
