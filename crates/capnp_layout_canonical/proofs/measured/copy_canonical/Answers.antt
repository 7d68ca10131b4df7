use Rattle.std.proofs.Common.{◌≡◌, ◌+◌, ◌-◌, ◌^◌, min, length, arith}
use Rattle.capnp_units.specs.Segments.{words_in}
use Rattle.capnp_wire_objects.specs.Places.{place_view}
use Rattle.capnp_wire.specs.Views.{seen_pointer}
use Rattle.capnp_layout_canonical.proofs.Measures.{then_copied}
use Rattle.capnp_layout_canonical.proofs.measured.copy_canonical.Goals as goal

pub returns-clause-copy : goal.returns-clause-copy
returns-clause-copy g c =
    let v = seen_pointer g.B.ReaderArena.segments c.args.other in
    let s = words_in (g.A.ReaderArena.segments c.args.builder.now.memory.now.arena) in
    let u = words_in (g.A.ReaderArena.segments c.copy_canonical_from.new.builder.memory.now.arena) in
    let room : length c.as_mut_slice.result.now ≡ min c.in_ok-size.size.word_count (2 ^ 29 - 2) + 1 = omega (arith, c.as_mut_slice.ensures.len, c.in_ok-lent.ensures.len, c.room_for.ensures) in
    then_copied v s u (place_view c.args.builder.now.place) c.args.limiter.now c.copy_canonical_from.new.limiter c.copy_canonical_from.result
    (record {
      size = c.in_ok-size.size;
      mid = c.total_size.new.limiter;
      measured = c.in_ok-size.ensures;
      lent = c.as_mut_slice.result.now;
      after = c.copy_canonical_from.new.lent;
      room = room;
      copy = c.copy_canonical_from.ensures.copy;
    })
