use Rattle.std.proofs.Common.{take}
use Rattle.capnp_records.specs.Storage.{areas_seen}
use Rattle.capnp_records.specs.Marks.{MarksAreas}
use Rattle.capnp_records.proofs.overlap.put_all.Given as goal

abbrev pub invariant-loop-area : goal.invariant-loop-area
invariant-loop-area l = MarksAreas l.fn.marks l.marks (areas_seen (take l.area-index l.fn.areas)) l.fn.level
