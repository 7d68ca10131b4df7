-- Own words that lie elsewhere, or the row of the pointers.
use Rattle.std.proofs.Common.{◌/◌, length, subst, arith}
use Rattle.capnp_model.specs.Segments.{Segments, Place}
use Rattle.capnp_wire_objects.specs.Places.{place_view}
use Rattle.capnp_wire_canonical.specs.Reaches.{reach}
use Rattle.capnp_wire_canonical.specs.Checks.{head_state, TellsStruct}
use Rattle.capnp_wire.specs.Views.{seen_struct}
use Rattle.capnp_wire.proofs.Telling.{lies_told, elsewhere_told}
use Rattle.capnp_wire.proofs.structs.StructReader.stands_in.Goals as goal

pub returns-then-not-lies_at : goal.returns-then-not-lies_at
returns-then-not-lies_at g c =
    elsewhere_told c.args.levels (seen_struct g.A.ReaderArena.segments c.args.self.now) (place_view c.args.start) (place_view c.args.head.now) c.args.limiter.now c.if-not-lies_at.ensures.elsewhere

pub returns : goal.returns
returns g c =
    let v = seen_struct g.A.ReaderArena.segments c.args.self.now in
    let p : Place = place_view c.args.start in
    let h : Place = place_view c.args.head.now in
    let h' : Place = place_view c.is_canonical_struct.new.head in
    let l = c.args.limiter.now in
    let m = c.is_canonical_struct.new.limiter in
    let r = c.is_canonical_struct.result in
    let d = length c.args.self.now.section.now / 8 in
    let k = c.args.self.now.pointers in
    let lies = c.if-not-lies_at.ensures.lies in
    let whole = lies.0.whole in
    lies_told c.args.levels v p h d r h' l m lies.0 (omega arith) (subst (λ (s : Segments). TellsStruct (reach c.args.levels s) p (record { data_words = d; pointers = k }) (head_state h l) r (head_state h' m)) c.requires.same c.is_canonical_struct.ensures)
