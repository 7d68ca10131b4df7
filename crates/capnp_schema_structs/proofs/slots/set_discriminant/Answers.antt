use Rattle.std.proofs.Common.{◌*◌, [], Some, None, sym, ap, subst, arith}
use Rattle.capnp_model.specs.Accepted.{union_area}
use Rattle.capnp_model.specs.Edits.{mark}
use Rattle.capnp_units.specs.Segments.{words_in}
use Rattle.capnp_schema_structs.specs.Inside.{LieIn}
use Rattle.capnp_schema_structs.proofs.lemmas.Ready.{in_word}
use Rattle.capnp_schema_structs.proofs.DataWords.{data_same, data_written}
use Rattle.capnp_schema_structs.proofs.lemmas.Writes.{edits_none, edits_alike}
use Rattle.capnp_schema_structs.proofs.slots.set_discriminant.Goals as goal

pub set_bits-requires-clause-inside : goal.set_bits-requires-clause-inside
set_bits-requires-clause-inside g c =
    let p = c.args.object in
    in_word p (16 * c.in-Some.offset) 16 [] (omega arith) (omega arith) (subst (λ o. LieIn p.data_words p.pointers (union_area o)) (sym c.in-Some.ensures) c.requires.inside)

pub returns-in-Some-clause-edits : goal.returns-in-Some-clause-edits
returns-in-Some-clause-edits g c =
    let u = words_in (g.A.ReaderArena.segments c.args.arena.now) in
    edits_alike u (words_in (g.A.ReaderArena.segments c.set_bits.new.arena)) c.args.object (mark (Some (16 * c.in-Some.offset)) (Some c.args.member)) _ (ap (λ o. mark o (Some c.args.member)) c.in-Some.ensures) c.set_bits.ensures.sets

pub returns-in_default-clause-edits : goal.returns-in_default-clause-edits
returns-in_default-clause-edits g c =
    let s = words_in (g.A.ReaderArena.segments c.args.arena.now) in
    edits_alike s s c.args.object (mark None (Some c.args.member)) _ (ap (λ o. mark o (Some c.args.member)) c.in_default.ensures) (edits_none s c.args.object)

pub returns-in-Some-clause-data : goal.returns-in-Some-clause-data
returns-in-Some-clause-data g c =
    let p = c.args.object in
    let inside = subst (λ o. LieIn p.data_words p.pointers (union_area o)) (sym c.in-Some.ensures) c.requires.inside in
    data_written (words_in (g.A.ReaderArena.segments c.args.arena.now)) (words_in (g.A.ReaderArena.segments c.set_bits.new.arena)) p (16 * c.in-Some.offset) inside.0 c.set_bits.ensures.word

pub returns-in_default-clause-data : goal.returns-in_default-clause-data
returns-in_default-clause-data g c = data_same (words_in (g.A.ReaderArena.segments c.args.arena.now)) c.args.object
