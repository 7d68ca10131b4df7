use Rattle.std.proofs.Common.{take}
use Rattle.capnp_records.specs.Levels.{PassSame, PassMore}
use Rattle.capnp_records.proofs.groups.push_all_new.Given as goal

abbrev pub invariant-loop-id : goal.invariant-loop-id
invariant-loop-id l = record {
  same : PassSame l.seen.keys l.ids.items;
  more : PassMore l.fn.ids.items l.ids.items (take l.id-index l.fn.more);
}
