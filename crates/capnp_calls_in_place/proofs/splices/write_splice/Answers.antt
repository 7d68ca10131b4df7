-- What is told of the splice that was found.
use Rattle.std.proofs.Common.{◌≡◌, Some, refl, ap, sym, ◌∙◌}
use Rattle.std.specs.Prelude.{option_copied}
use Rattle.capnp_calls_splice.specs.declared.splice.Splice.{Splice}
use Rattle.capnp_calls_in_place.proofs.CallWays.{told_call, short_call}
use Rattle.capnp_calls_in_place.proofs.splices.write_splice.Goals as goal

pub returns-in-Some-clause-told : goal.returns-in-Some-clause-told
returns-in-Some-clause-told c =
    let p : Splice = c.in-Some.splice.now in
    let found : c.args.call.now.splice ≡ Some p = sym c.call_splice.ensures.found ∙ ap option_copied c.in-Some.is in
    told_call c.args.call.now p found c.args.count c.args.words.now.items c.put_splice.new.words.items c.put_splice.result c.put_splice.ensures.told

pub returns-in-Some-clause-short : goal.returns-in-Some-clause-short
returns-in-Some-clause-short c =
    let p : Splice = c.in-Some.splice.now in
    let found : c.args.call.now.splice ≡ Some p = sym c.call_splice.ensures.found ∙ ap option_copied c.in-Some.is in
    short_call c.args.call.now p found c.args.count c.args.words.now.items c.put_splice.result c.put_splice.ensures.short

pub returns-in-None-clause-told : goal.returns-in-None-clause-told
returns-in-None-clause-told c = record { words = refl; inside = c.requires.inside }
