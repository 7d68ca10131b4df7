use Rattle.std.proofs.Common.{ap, sym, ◌∙◌}
use Rattle.std.specs.Int.{from_le_bytes, w64}
use Rattle.std.specs.List.{take-map}
use Rattle.capnp_wire_canonical.specs.Writes.{words_view}
use Rattle.capnp_relay_requests.proofs.segments.front.Goals as goal

pub returns : goal.returns
returns c = ap words_view c.truncate.ensures.items ∙ sym (take-map (from_le_bytes w64) c.args.count c.args.words.items)
