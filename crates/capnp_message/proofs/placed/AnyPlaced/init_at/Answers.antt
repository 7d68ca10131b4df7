use Rattle.std.proofs.Common.{sym, subst}
use Rattle.capnp_units.specs.Segments.{words_in}
use Rattle.capnp_units.specs.declared.sizes.StructSize.{StructSize}
use Rattle.capnp_copy_arenas.specs.declared.fields.StructPlace.{StructPlace}
use Rattle.capnp_message.specs.Placed.{StructPlaced}
use Rattle.capnp_message.proofs.placed.AnyPlaced.init_at.Goals as goal

pub returns-clause-made : goal.returns-clause-made
returns-clause-made g c =
    let s = words_in (g.A.ReaderArena.segments c.args.memory.now.arena) in
    let u = words_in (g.A.ReaderArena.segments c.init_struct_at.new.memory.arena) in
    let made = subst (λ (size : StructSize). StructPlaced size s u c.args.place c.in_ok-place.place) c.STRUCT_SIZE.ensures c.in_ok-place.ensures.made in
    subst (λ (o : StructPlace). StructPlaced g.T.PlacedStruct.STRUCT_SIZE s u c.args.place o) (sym c.at_place.ensures) made
