-- A list is copied by its parts.
use Rattle.std.proofs.Common.{ℕ, List, ap, sym, ◌∙◌}
use Rattle.capnp_model.specs.Segments.{Segments}
use Rattle.capnp_units.specs.Segments.{words_in}
use Rattle.capnp_wire_objects.specs.Places.{place_view}
use Rattle.capnp_wire.specs.Views.{backing_bytes, is_paid, seen_list}
use Rattle.capnp_copy_values.specs.declared.lists.ListSource.{ListSource}
use Rattle.capnp_copy_values.specs.Copies.{copy_source, limited_words}
use Rattle.capnp_copy_values.specs.Lists.{CopiesList, list_parts, copy_of_list}
use Rattle.capnp_layout_builders.specs.Copied.{Walk, Charged, IsTold, WithoutLevels, IsListSourceOf}
use Rattle.capnp_layout_builders.proofs.lemmas.Charging.{matched, in_arena, in_default, same_section}
use Rattle.capnp_model.specs.Sizes.{object_words}
use Rattle.capnp_copy_arenas.specs.Refusals.{IsSizeOrRefusal}
use Rattle.capnp_copy_arenas.specs.States.{state_in}
use Rattle.capnp_copy_values.specs.Fits.{IsLong, wanted}
use Rattle.capnp_copy_values.specs.Lists.{listed_object}
use Rattle.capnp_layout_builders.proofs.copies.copy_list.Goals as goal

pub returns-in-Arena-clause-copy : goal.returns-in-Arena-clause-copy
returns-in-Arena-clause-copy g c =
    let bytes = g.B.ReaderArena.segments in
    let v = seen_list bytes c.args.other in
    let s = words_in (g.A.ReaderArena.segments c.args.arena.now) in
    let u = words_in (g.A.ReaderArena.segments c.set_list.new.arena) in
    let x : ListSource = record { start = c.start.result; size = c.element_size.result; count = c.len.result; data_words = c.struct_size-size.result.data_words; pointers = c.struct_size-size.result.pointers } in
    let b = c.bytes-bytes.result.now in
    let parts : IsListSourceOf v x b = record { size = c.element_size.ensures; count = c.len.ensures; data_words = c.struct_size-size.ensures.0; pointers = c.struct_size-size.ensures.1; start = c.start.ensures.place; section = same_section x v b c.element_size.ensures c.len.ensures c.struct_size-size.ensures.0 c.struct_size-size.ensures.1 c.bytes-bytes.ensures.section } in
    let W : ℕ → Segments → Walk = λ n q l r m. (y : ListSource) × (bs : List ℕ) × IsListSourceOf v y bs × CopiesList (copy_source n q (list_parts y bs)) (place_view c.args.slot) (limited_words s l) r (limited_words u m) in
    matched v.levels (WithoutLevels s u c.args.limiter.now c.set_list.result c.set_list.new.limiter) (λ n. Charged v.basis.paid (W n v.basis.segments) c.args.limiter.now c.set_list.result c.set_list.new.limiter) c.in-Some.levels ((sym c.levels.ensures) ∙ c.in-Some.is)
    (in_arena bytes (W c.in-Some.levels) c.backing.result v.basis (bytes c.in-Arena.source.now) c.args.limiter.now c.set_list.new.limiter c.set_list.result c.backing.ensures (ap is_paid c.in-Arena.is) (ap (backing_bytes bytes) c.in-Arena.is) (x, b, parts, c.set_list.ensures.copy))

pub returns-in-Default-clause-copy : goal.returns-in-Default-clause-copy
returns-in-Default-clause-copy g c =
    let bytes = g.B.ReaderArena.segments in
    let v = seen_list bytes c.args.other in
    let s = words_in (g.A.ReaderArena.segments c.args.arena.now) in
    let u = words_in (g.A.ReaderArena.segments c.set_list-in-Default.new.arena) in
    let x : ListSource = record { start = c.start.result; size = c.element_size.result; count = c.len.result; data_words = c.struct_size-size.result.data_words; pointers = c.struct_size-size.result.pointers } in
    let b = c.bytes-bytes.result.now in
    let parts : IsListSourceOf v x b = record { size = c.element_size.ensures; count = c.len.ensures; data_words = c.struct_size-size.ensures.0; pointers = c.struct_size-size.ensures.1; start = c.start.ensures.place; section = same_section x v b c.element_size.ensures c.len.ensures c.struct_size-size.ensures.0 c.struct_size-size.ensures.1 c.bytes-bytes.ensures.section } in
    let W : ℕ → Segments → Walk = λ n q l r m. (y : ListSource) × (bs : List ℕ) × IsListSourceOf v y bs × CopiesList (copy_source n q (list_parts y bs)) (place_view c.args.slot) (limited_words s l) r (limited_words u m) in
    matched v.levels (WithoutLevels s u c.args.limiter.now c.set_list-in-Default.result c.args.limiter.now) (λ n. Charged v.basis.paid (W n v.basis.segments) c.args.limiter.now c.set_list-in-Default.result c.args.limiter.now) c.in-Some.levels ((sym c.levels.ensures) ∙ c.in-Some.is)
    (in_default bytes (W c.in-Some.levels) c.backing.result c.backing-source.result v.basis c.new-unlimited.result c.set_list-in-Default.new.limiter c.args.limiter.now c.set_list-in-Default.result c.backing.ensures (ap is_paid c.in-Default.is) c.backing-source.ensures c.new-unlimited.ensures.limit (x, b, parts, c.set_list-in-Default.ensures.copy))

pub returns-in-Arena-clause-told : goal.returns-in-Arena-clause-told
returns-in-Arena-clause-told g c =
    let bytes = g.B.ReaderArena.segments in
    let v = seen_list bytes c.args.other in
    let s = (state_in g.A.ReaderArena.segments g.A.BuilderArena.room g.A.BuilderArena.books c.args.arena.now) in
    let u = (state_in g.A.ReaderArena.segments g.A.BuilderArena.room g.A.BuilderArena.books c.set_list.new.arena) in
    let x : ListSource = record { start = c.start.result; size = c.element_size.result; count = c.len.result; data_words = c.struct_size-size.result.data_words; pointers = c.struct_size-size.result.pointers } in
    let b = c.bytes-bytes.result.now in
    let parts : IsListSourceOf v x b = record { size = c.element_size.ensures; count = c.len.ensures; data_words = c.struct_size-size.ensures.0; pointers = c.struct_size-size.ensures.1; start = c.start.ensures.place; section = same_section x v b c.element_size.ensures c.len.ensures c.struct_size-size.ensures.0 c.struct_size-size.ensures.1 c.bytes-bytes.ensures.section } in
    let W : ℕ → Segments → Walk = λ n q l r m. (y : ListSource) × (bs : List ℕ) × IsListSourceOf v y bs × IsTold (copy_of_list (copy_source n q (list_parts y bs))) (wanted object_words (IsLong q (listed_object y)) c.args.slot.segment) s u (IsSizeOrRefusal g.A.BuilderArena.refuses) l r m in
    matched v.levels (Unit {0}) (λ n. Charged v.basis.paid (W n v.basis.segments) c.args.limiter.now c.set_list.result c.set_list.new.limiter) c.in-Some.levels ((sym c.levels.ensures) ∙ c.in-Some.is)
    (in_arena bytes (W c.in-Some.levels) c.backing.result v.basis (bytes c.in-Arena.source.now) c.args.limiter.now c.set_list.new.limiter c.set_list.result c.backing.ensures (ap is_paid c.in-Arena.is) (ap (backing_bytes bytes) c.in-Arena.is) (x, b, parts, (c.set_list.ensures.fits, c.set_list.ensures.cause)))

pub returns-in-Default-clause-told : goal.returns-in-Default-clause-told
returns-in-Default-clause-told g c =
    let bytes = g.B.ReaderArena.segments in
    let v = seen_list bytes c.args.other in
    let s = (state_in g.A.ReaderArena.segments g.A.BuilderArena.room g.A.BuilderArena.books c.args.arena.now) in
    let u = (state_in g.A.ReaderArena.segments g.A.BuilderArena.room g.A.BuilderArena.books c.set_list-in-Default.new.arena) in
    let x : ListSource = record { start = c.start.result; size = c.element_size.result; count = c.len.result; data_words = c.struct_size-size.result.data_words; pointers = c.struct_size-size.result.pointers } in
    let b = c.bytes-bytes.result.now in
    let parts : IsListSourceOf v x b = record { size = c.element_size.ensures; count = c.len.ensures; data_words = c.struct_size-size.ensures.0; pointers = c.struct_size-size.ensures.1; start = c.start.ensures.place; section = same_section x v b c.element_size.ensures c.len.ensures c.struct_size-size.ensures.0 c.struct_size-size.ensures.1 c.bytes-bytes.ensures.section } in
    let W : ℕ → Segments → Walk = λ n q l r m. (y : ListSource) × (bs : List ℕ) × IsListSourceOf v y bs × IsTold (copy_of_list (copy_source n q (list_parts y bs))) (wanted object_words (IsLong q (listed_object y)) c.args.slot.segment) s u (IsSizeOrRefusal g.A.BuilderArena.refuses) l r m in
    matched v.levels (Unit {0}) (λ n. Charged v.basis.paid (W n v.basis.segments) c.args.limiter.now c.set_list-in-Default.result c.args.limiter.now) c.in-Some.levels ((sym c.levels.ensures) ∙ c.in-Some.is)
    (in_default bytes (W c.in-Some.levels) c.backing.result c.backing-source.result v.basis c.new-unlimited.result c.set_list-in-Default.new.limiter c.args.limiter.now c.set_list-in-Default.result c.backing.ensures (ap is_paid c.in-Default.is) c.backing-source.ensures c.new-unlimited.ensures.limit (x, b, parts, (c.set_list-in-Default.ensures.fits, c.set_list-in-Default.ensures.cause)))
