-- A default is read without a limit.
use Rattle.std.proofs.Common.{ap, sym}
use Rattle.capnp_model.specs.Segments.{Segments}
use Rattle.capnp_units.specs.Segments.{words_in}
use Rattle.capnp_wire_objects.specs.Places.{place_view}
use Rattle.capnp_wire_canonical.specs.Reaches.{reach}
use Rattle.capnp_wire_canonical.specs.Checks.{head_state, TellsValue}
use Rattle.capnp_wire.specs.Views.{backing_bytes, is_paid, seen_pointer, place_seen}
use Rattle.capnp_wire.proofs.Telling.{told_freely, told_over, pointer_told, pointer_untold, pointer_nowhere}
use Rattle.capnp_wire.proofs.pointer.PointerReader.is_canonical.Goals as goal

pub returns-in_default : goal.returns-in_default
returns-in_default g c = pointer_untold (seen_pointer g.A.ReaderArena.segments c.args.self.now) (place_view c.args.head.now) c.args.limiter.now c.from.result c.in_default.is c.from.ensures

pub returns-in_default-place : goal.returns-in_default-place
returns-in_default-place g c =
    pointer_nowhere (seen_pointer g.A.ReaderArena.segments c.args.self.now) c.in-Some.levels (place_view c.args.head.now) c.args.limiter.now c.in-Some.is (ap place_seen c.in_default-place.is)

pub returns-in-Arena : goal.returns-in-Arena
returns-in-Arena g c =
    let p = seen_pointer g.A.ReaderArena.segments c.args.self.now in
    let n = c.in-Some.levels in
    let q = place_view c.in-Some-place.place in
    let h = place_view c.args.head.now in
    let r = c.is_canonical.result in
    let h' = place_view c.is_canonical.new.head in
    pointer_told p n q h c.args.limiter.now r h' c.is_canonical.new.limiter c.in-Some.is (ap place_seen c.in-Some-place.is)
    (told_over g.A.ReaderArena.segments c.args.self.now.backing _ (λ s l m. TellsValue (reach n s) q (head_state h l) r (head_state h' m)) c.args.limiter.now c.is_canonical.new.limiter c.in-Arena.is c.is_canonical.ensures)

pub returns-in-Default : goal.returns-in-Default
returns-in-Default g c =
    let s : Segments = words_in (backing_bytes g.A.ReaderArena.segments c.args.self.now.backing) in
    let n = c.in-Some.levels in
    let q = place_view c.in-Some-place.place in
    let h = place_view c.args.head.now in
    let h' = place_view c.is_canonical-in-Default.new.head in
    let r = c.is_canonical-in-Default.result in
    pointer_told (seen_pointer g.A.ReaderArena.segments c.args.self.now) n q h c.args.limiter.now r h' c.args.limiter.now c.in-Some.is (ap place_seen c.in-Some-place.is)
    (told_freely (is_paid c.args.self.now.backing) (λ l m. TellsValue (reach n s) q (head_state h l) r (head_state h' m)) c.args.limiter.now c.new-unlimited.result c.is_canonical-in-Default.new.limiter (sym (ap is_paid c.in-Default.is)) c.new-unlimited.ensures.limit c.is_canonical-in-Default.ensures)
