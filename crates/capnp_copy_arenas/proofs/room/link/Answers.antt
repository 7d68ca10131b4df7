use Rattle.std.proofs.Common.{◌≡◌, true, sym, subst}
use Rattle.std.specs.Option.{is_some}
use Rattle.capnp_model.specs.Segments.{Segments, words_at}
use Rattle.capnp_units.specs.Segments.{words_in}
use Rattle.capnp_wire_objects.specs.Places.{place_view}
use Rattle.capnp_copy_arenas.proofs.lemmas.RoomLaws.{still_padded}
use Rattle.capnp_copy_arenas.proofs.room.link.Goals as goal

pub write_word-requires : goal.write_word-requires
write_word-requires g c = subst (λ (s : Segments). is_some (words_at s (place_view c.args.slot) 1) ≡ true) (sym c.write_pad.ensures.words) (still_padded (words_in (g.A.ReaderArena.segments c.args.arena.now)) (place_view c.args.slot) c.args.room c.args.pointer 1 c.requires.slot)
