-- the sinks so far
use Rattle.std.proofs.Common.{◌≡◌, true, false}
use Rattle.std.specs.Io.KnownBytes.{Keeps}
use Rattle.hagzimot_show.specs.Sinks.{GrowsAtEnd, GrowsByLines}
use Rattle.hagzimot_show.proofs.show.show_all.Given as goal

abbrev pub invariant-loop-number : goal.invariant-loop-number
invariant-loop-number g l = record {
  out : GrowsAtEnd (g.W.Write.contents l.fn.out) (g.W.Write.contents l.out);
  log : GrowsAtEnd (g.L.Write.contents l.fn.log) (g.L.Write.contents l.log);
  chosen : l.shower.chosen ≡ l.fn.chosen;
  count_out : l.fn.chosen.is_count ≡ true → Keeps (g.W.Write.contents l.fn.out) (g.W.Write.contents l.out);
  count_log : l.fn.chosen.is_count ≡ true → Keeps (g.L.Write.contents l.fn.log) (g.L.Write.contents l.log);
  shown : l.fn.chosen.is_count ≡ false → GrowsByLines 0 l.shower.counts.shown (g.W.Write.contents l.fn.out) (g.W.Write.contents l.out);
  logged : l.fn.chosen.is_count ≡ false → GrowsByLines 0 l.shower.counts.not_shown (g.L.Write.contents l.fn.log) (g.L.Write.contents l.log);
  counts : l.fn.chosen.is_count ≡ true → l.shower.counts.not_shown ≡ 0;
}
