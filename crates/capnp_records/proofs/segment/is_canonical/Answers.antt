use Rattle.std.proofs.Common.{◌≡◌, ℕ, Bool, true, false, Ok, sym, arith}
use Rattle.capnp_model.specs.Segments.{Segments, root}
use Rattle.capnp_model.specs.Canonical.{is_canonical_message}
use Rattle.capnp_wire_canonical.specs.Standing.{IsSmall}
use Rattle.capnp_wire_canonical.specs.Checks.{TellsMessage}
use Rattle.capnp_units.specs.declared.limiter.ReadLimiter.{ReadLimiter}
use Rattle.capnp_units.specs.Segments.{words_in}
use Rattle.capnp_records.proofs.lemmas.Segments.{stopped_not}
use Rattle.capnp_records.proofs.segment.is_canonical.Goals as goal

pub returns-in-Err : goal.returns-in-Err
returns-in-Err g c =
    sym (stopped_not c.values_on_walks.ensures.cost 64 (words_in (g.A.ReaderArena.segments c.args.arena.now)) c.new-unlimited.result c.is_canonical_message.new.limiter c.in-Err.field-0 c.new-unlimited.ensures.left c.in-Err.ensures.0)

-- What is told of a small message is so.
told : (n : ℕ) (s : Segments) (old new : ReadLimiter) (stands : Bool) → IsSmall s root → TellsMessage n s old (Ok stands) new → stands ≡ is_canonical_message n s
told n s old new true small tells = sym tells.0
told n s old new false small tells = sym (tells.0 small n (omega arith))

pub returns-in-Ok : goal.returns-in-Ok
returns-in-Ok g c =
    told 64 (words_in (g.A.ReaderArena.segments c.args.arena.now)) c.new-unlimited.result c.is_canonical_message.new.limiter c.in-Ok.stands c.requires c.in-Ok.ensures
