-- The number that the call's splice puts.
use Rattle.std.proofs.Common.{ap, sym, ◌∙◌}
use Rattle.std.specs.Prelude.{option_copied}
use Rattle.capnp_calls_in_place.proofs.NamedFields.{is_plain}
use Rattle.capnp_calls_in_place.proofs.sets.plain_set.Goals as goal

pub returns-in-Some : goal.returns-in-Some
returns-in-Some c = λ schema known. is_plain schema c.args.call.now c.in-Some.splice.now (sym c.splice.ensures ∙ ap option_copied c.in-Some.is) c.number_of.result c.number_of.ensures known
