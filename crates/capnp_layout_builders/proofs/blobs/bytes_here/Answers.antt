use Rattle.std.proofs.Common.{Result, Ok, ap, sym, ◌∙◌}
use Rattle.capnp_model.specs.Kinds.{Kind}
use Rattle.capnp_model.specs.Pointers.{a_list}
use Rattle.capnp_units.specs.declared.sizes.ElementSize.{ElementSize}
use Rattle.capnp_units.specs.Segments.{words_in}
use Rattle.capnp_units.specs.Sizes.{size_number}
use Rattle.capnp_wire_objects.specs.Places.{place_view}
use Rattle.capnp_wire_objects.specs.declared.object.Object.{Object}
use Rattle.capnp_copy_widening.proofs.lemmas.ObjectsThere.{plain_named, leads_named}
use Rattle.capnp_layout_builders.proofs.blobs.bytes_here.Goals as goal

pub returns-in-List-default-Byte-default-clause-object : goal.returns-in-List-default-Byte-default-clause-object
returns-in-List-default-Byte-default-clause-object g c =
    let s = words_in (g.A.ReaderArena.segments c.args.arena.now) in
    let p = place_view c.args.slot in
    let f = c.in_ok-found.found in
    let w = c.in-List-default-Byte-default in
    let whole_is = sym c.in_ok-whole.ensures.object ∙ ap (λ (o : Object). let r : Result Object Kind = Ok o in r) w.is in
    leads_named s p f (a_list (place_view w.start) 2 w.count) (sym c.in_ok-found.ensures.found)
    (plain_named s f.object w.start w.size w.count whole_is ∙ ap (λ (z : ElementSize). a_list (place_view w.start) (size_number z) w.count) w.size-is)
