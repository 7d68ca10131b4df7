use Rattle.std.proofs.Common.{take}
use Rattle.capnp_records.specs.Storage.{areas_seen}
use Rattle.capnp_records.specs.Marks.{AllowsAll}
use Rattle.capnp_records.proofs.overlap.allows_all.Given as goal

abbrev pub invariant-loop-area : goal.invariant-loop-area
invariant-loop-area l = AllowsAll l.fn.marks (areas_seen (take l.area-index l.fn.areas)) l.fn.most
