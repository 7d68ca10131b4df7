use Rattle.std.proofs.Common.{Some, option_map, ap, sym, ◌∙◌}
use Rattle.std.specs.Int.{from_le_bytes, w64}
use Rattle.std.specs.List.{take-map}
use Rattle.capnp_wire_canonical.specs.Writes.{filled, words_view}
use Rattle.capnp_calls.proofs.copied.front.Goals as goal

pub returns-in-Some : goal.returns-in-Some
returns-in-Some c =
    ap Some (ap words_view c.truncate.ensures.items ∙ sym (take-map (from_le_bytes w64) c.in-Some.count c.args.words.items))
    ∙ sym (ap (option_map (λ n. filled n c.args.words.items)) c.in-Some.is)
