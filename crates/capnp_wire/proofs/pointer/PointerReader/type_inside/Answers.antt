-- The object begins inside its segment, or is refused.
use Rattle.std.proofs.Common.{Ok, ap}
use Rattle.capnp_model.specs.Kinds.{OutOfBounds}
use Rattle.capnp_units.specs.Errors.{kind_of}
use Rattle.capnp_wire.proofs.Passing.{passed, not_passed}
use Rattle.capnp_wire.proofs.pointer.PointerReader.type_inside.Goals as goal

pub returns : goal.returns
returns g c = passed _ OutOfBounds (Ok c.args.sort) c.if-not-has_words.ensures.there

pub returns-then-not-has_words : goal.returns-then-not-has_words
returns-then-not-has_words g c = not_passed _ (kind_of c.from.result.kind) OutOfBounds (Ok c.args.sort) c.if-not-has_words.ensures.there (ap kind_of c.from.ensures)
