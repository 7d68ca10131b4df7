-- A default is read without a limit.
use Rattle.std.proofs.Common.{Bool, ap, sym, subst}
use Rattle.capnp_model.specs.Segments.{Segments}
use Rattle.capnp_model.specs.Sizes.{each_object_words, each_capability_count}
use Rattle.capnp_model.specs.Traversal.{tree_at, each}
use Rattle.capnp_model.specs.Coverage.{from_each}
use Rattle.capnp_model.specs.Visits.{visits}
use Rattle.capnp_units.specs.Segments.{words_in}
use Rattle.capnp_wire_objects.specs.Places.{place_view}
use Rattle.capnp_wire.specs.Views.{backing_bytes, is_paid}
use Rattle.capnp_wire.specs.ValueSizes.{SizeOn}
use Rattle.capnp_wire.proofs.Sizing.{freely}
use Rattle.capnp_wire.proofs.structs.StructReader.size_of_pointers.Goals as goal

pub returns-in-Default : goal.returns-in-Default
returns-in-Default g c =
    let s : Segments = words_in (backing_bytes g.A.ReaderArena.segments c.args.self.now.backing) in
    let n = c.args.levels in
    let p = place_view c.args.self.now.first in
    let k = c.args.self.now.pointers in
    let free = freely each_object_words each_capability_count (each (tree_at n s) p k) (from_each (visits n s) p k) c.args.limiter.now c.new-unlimited.result c.size_of_row-in-Default.new.limiter c.size_of_row-in-Default.result c.new-unlimited.ensures.limit c.size_of_row-in-Default.ensures in
    subst (λ (b : Bool). SizeOn b each_object_words each_capability_count (each (tree_at n s) p k) (from_each (visits n s) p k) c.args.limiter.now c.size_of_row-in-Default.result c.args.limiter.now) (sym (ap is_paid c.in-Default.is)) free
