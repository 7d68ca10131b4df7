use Rattle.std.proofs.Common.{arith, sym}
use Rattle.capnp_stream.proofs.lemmas.WriteLemmas.{length-there, length-gone, is-segment}
use Rattle.capnp_stream.proofs.messages.length_of.Goals as goal

pub returns-in-Some-clause-length : goal.returns-in-Some-clause-length
returns-in-Some-clause-length g c = length-there (g.S.ReaderSegments.segments c.args.segments.now) c.args.id c.in-Some.bytes.now (sym c.in-Some.ensures)

pub returns-in-Some-clause-bound : goal.returns-in-Some-clause-bound
returns-in-Some-clause-bound g c = let fits = is-segment (g.S.ReaderSegments.segments c.args.segments.now) c.args.id c.in-Some.bytes.now c.requires (sym c.in-Some.ensures) in omega arith

pub returns-in-None-clause-length : goal.returns-in-None-clause-length
returns-in-None-clause-length g c = length-gone (g.S.ReaderSegments.segments c.args.segments.now) c.args.id (sym c.in-None.ensures)
