use Rattle.std.proofs.Common.{Some, ap, sym, ◌∙◌}
use Rattle.capnp_relay_requests.specs.Places.{words_of_value}
use Rattle.capnp_relay_requests.proofs.segments.write_words.Goals as goal

pub returns-in-Ok : goal.returns-in-Ok
returns-in-Ok g c = ap words_of_value c.in-Ok.ensures.there_is ∙ ap Some (sym c.in-Ok.ensures.words)
