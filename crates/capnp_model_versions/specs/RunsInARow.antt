-- Whole runs of two relays in a row, and one of the relay with the calls of both.
use Rattle.std.specs.Prelude.{ℕ, List, [], ◌∷◌}
use Rattle.capnp_model.specs.Messages.{Reader, Writer}
use Rattle.capnp_model.specs.Answers.{Answer, refused_value, refused_root, refused_depth, written}
use Rattle.capnp_model.specs.Runs.{End}
use Rattle.capnp_model.specs.SameRuns.{IsForm, IsRefused, Relays}
use Rattle.capnp_model_versions.specs.OwnOutput.{IsWritten}
use Rattle.capnp_model_versions.specs.TwoRelays.{TwoRelays, first, second, joined_relay}

-- The first relay reads the bytes and writes those in the middle. The second reads these, in the
-- form that they are written in, and writes the output. The joined one reads as the first does,
-- the same bytes, and writes as the second does.
pub record RunsInARow (r : TwoRelays) (bytes middle output direct : List ℕ) : Type 0 where
  pub read : Reader
  pub write : Writer
  pub read_again : Reader
  pub write_again : Writer
  pub is_form : IsForm read_again write
  pub log : List ℕ
  pub second_log : List ℕ
  pub joined_log : List ℕ
  pub end : End
  pub second_end : End
  pub joined_end : End
  pub first_run : Relays (first r) read write bytes middle log end
  pub second_run : Relays (second r) read_again write_again middle output second_log second_end
  pub joined_run : Relays (joined_relay r) read write_again bytes direct joined_log joined_end

-- Both are written, or neither is.
abbrev pub AreWrittenAlike : Answer → Answer → Type 0
AreWrittenAlike (written segments replies) a = IsWritten a
AreWrittenAlike _ a = IsRefused a

-- By the answers of the first relay, of the second and of the joined one each message is written on
-- both roads or on neither. So what the first finds too deep the joined one refuses. What the first
-- refuses for its value or root the joined one refuses anyway.
abbrev pub WriteOnBothRoads : List Answer → List Answer → List Answer → Type 0
WriteOnBothRoads [] [] [] = Unit {0}
WriteOnBothRoads (written segments replies ∷ answers) (a ∷ later) (b ∷ joined) = AreWrittenAlike a b × WriteOnBothRoads answers later joined
WriteOnBothRoads (refused_value ∷ answers) later (b ∷ joined) = WriteOnBothRoads answers later joined
WriteOnBothRoads (refused_root ∷ answers) later (b ∷ joined) = WriteOnBothRoads answers later joined
WriteOnBothRoads (refused_depth ∷ answers) later (b ∷ joined) = IsRefused b × WriteOnBothRoads answers later joined
WriteOnBothRoads _ _ _ = ⊥
