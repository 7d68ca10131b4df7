-- A struct is copied by its parts.
use Rattle.std.proofs.Common.{ℕ, ap, sym, ◌∙◌}
use Rattle.capnp_model.specs.Sections.{words_for}
use Rattle.capnp_model.specs.Segments.{Segments}
use Rattle.capnp_units.specs.Segments.{words_in}
use Rattle.capnp_wire_objects.specs.Places.{place_view}
use Rattle.capnp_wire.specs.Views.{backing_bytes, is_paid, seen_struct}
use Rattle.capnp_copy_values.specs.Copies.{CopiesStruct, StructSource, struct_source, copy_source, limited_words, copy_of_struct}
use Rattle.capnp_layout_builders.specs.Copied.{Walk, Charged, IsTold, WithoutLevels, IsSourceOf}
use Rattle.capnp_layout_builders.proofs.lemmas.Charging.{matched, in_arena, in_default}
use Rattle.capnp_model.specs.Sizes.{object_words}
use Rattle.capnp_copy_arenas.specs.Refusals.{IsSizeOrRefusal}
use Rattle.capnp_copy_arenas.specs.States.{state_in}
use Rattle.capnp_copy_values.specs.Fits.{HasLongList, wanted}
use Rattle.capnp_layout_builders.proofs.copies.copy_struct.Goals as goal

pub returns-in-Arena-clause-copy : goal.returns-in-Arena-clause-copy
returns-in-Arena-clause-copy g c =
    let bytes = g.B.ReaderArena.segments in
    let v = seen_struct bytes c.args.other in
    let s = words_in (g.A.ReaderArena.segments c.args.arena.now) in
    let u = words_in (g.A.ReaderArena.segments c.set_struct.new.arena) in
    let x = struct_source c.section-section.result.now c.first_pointer-first.result c.pointers-pointers.result in
    let parts : IsSourceOf v x = record { section = c.section-section.ensures.section; data_words = ap words_for c.section-section.ensures.bits; first = c.first_pointer-first.ensures.place; pointers = c.pointers-pointers.ensures } in
    let W : ℕ → Segments → Walk = λ n q l r m. (y : StructSource) × IsSourceOf v y × CopiesStruct (copy_source n q y) (place_view c.args.slot) (limited_words s l) r (limited_words u m) in
    matched v.levels (WithoutLevels s u c.args.limiter.now c.set_struct.result c.set_struct.new.limiter) (λ n. Charged v.basis.paid (W n v.basis.segments) c.args.limiter.now c.set_struct.result c.set_struct.new.limiter) c.in-Some.levels ((sym c.levels.ensures) ∙ c.in-Some.is)
    (in_arena bytes (W c.in-Some.levels) c.backing.result v.basis (bytes c.in-Arena.source.now) c.args.limiter.now c.set_struct.new.limiter c.set_struct.result c.backing.ensures (ap is_paid c.in-Arena.is) (ap (backing_bytes bytes) c.in-Arena.is) (x, parts, c.set_struct.ensures.copy))

pub returns-in-Default-clause-copy : goal.returns-in-Default-clause-copy
returns-in-Default-clause-copy g c =
    let bytes = g.B.ReaderArena.segments in
    let v = seen_struct bytes c.args.other in
    let s = words_in (g.A.ReaderArena.segments c.args.arena.now) in
    let u = words_in (g.A.ReaderArena.segments c.set_struct-in-Default.new.arena) in
    let x = struct_source c.section-section.result.now c.first_pointer-first.result c.pointers-pointers.result in
    let parts : IsSourceOf v x = record { section = c.section-section.ensures.section; data_words = ap words_for c.section-section.ensures.bits; first = c.first_pointer-first.ensures.place; pointers = c.pointers-pointers.ensures } in
    let W : ℕ → Segments → Walk = λ n q l r m. (y : StructSource) × IsSourceOf v y × CopiesStruct (copy_source n q y) (place_view c.args.slot) (limited_words s l) r (limited_words u m) in
    matched v.levels (WithoutLevels s u c.args.limiter.now c.set_struct-in-Default.result c.args.limiter.now) (λ n. Charged v.basis.paid (W n v.basis.segments) c.args.limiter.now c.set_struct-in-Default.result c.args.limiter.now) c.in-Some.levels ((sym c.levels.ensures) ∙ c.in-Some.is)
    (in_default bytes (W c.in-Some.levels) c.backing.result c.backing-source.result v.basis c.new-unlimited.result c.set_struct-in-Default.new.limiter c.args.limiter.now c.set_struct-in-Default.result c.backing.ensures (ap is_paid c.in-Default.is) c.backing-source.ensures c.new-unlimited.ensures.limit (x, parts, c.set_struct-in-Default.ensures.copy))

pub returns-in-Arena-clause-told : goal.returns-in-Arena-clause-told
returns-in-Arena-clause-told g c =
    let bytes = g.B.ReaderArena.segments in
    let v = seen_struct bytes c.args.other in
    let s = (state_in g.A.ReaderArena.segments g.A.BuilderArena.room g.A.BuilderArena.books c.args.arena.now) in
    let u = (state_in g.A.ReaderArena.segments g.A.BuilderArena.room g.A.BuilderArena.books c.set_struct.new.arena) in
    let x = struct_source c.section-section.result.now c.first_pointer-first.result c.pointers-pointers.result in
    let parts : IsSourceOf v x = record { section = c.section-section.ensures.section; data_words = ap words_for c.section-section.ensures.bits; first = c.first_pointer-first.ensures.place; pointers = c.pointers-pointers.ensures } in
    let W : ℕ → Segments → Walk = λ n q l r m. (y : StructSource) × IsSourceOf v y × IsTold (copy_of_struct (copy_source n q y)) (wanted object_words (HasLongList q) c.args.slot.segment) s u (IsSizeOrRefusal g.A.BuilderArena.refuses) l r m in
    matched v.levels (Unit {0}) (λ n. Charged v.basis.paid (W n v.basis.segments) c.args.limiter.now c.set_struct.result c.set_struct.new.limiter) c.in-Some.levels ((sym c.levels.ensures) ∙ c.in-Some.is)
    (in_arena bytes (W c.in-Some.levels) c.backing.result v.basis (bytes c.in-Arena.source.now) c.args.limiter.now c.set_struct.new.limiter c.set_struct.result c.backing.ensures (ap is_paid c.in-Arena.is) (ap (backing_bytes bytes) c.in-Arena.is) (x, parts, (c.set_struct.ensures.fits, c.set_struct.ensures.cause)))

pub returns-in-Default-clause-told : goal.returns-in-Default-clause-told
returns-in-Default-clause-told g c =
    let bytes = g.B.ReaderArena.segments in
    let v = seen_struct bytes c.args.other in
    let s = (state_in g.A.ReaderArena.segments g.A.BuilderArena.room g.A.BuilderArena.books c.args.arena.now) in
    let u = (state_in g.A.ReaderArena.segments g.A.BuilderArena.room g.A.BuilderArena.books c.set_struct-in-Default.new.arena) in
    let x = struct_source c.section-section.result.now c.first_pointer-first.result c.pointers-pointers.result in
    let parts : IsSourceOf v x = record { section = c.section-section.ensures.section; data_words = ap words_for c.section-section.ensures.bits; first = c.first_pointer-first.ensures.place; pointers = c.pointers-pointers.ensures } in
    let W : ℕ → Segments → Walk = λ n q l r m. (y : StructSource) × IsSourceOf v y × IsTold (copy_of_struct (copy_source n q y)) (wanted object_words (HasLongList q) c.args.slot.segment) s u (IsSizeOrRefusal g.A.BuilderArena.refuses) l r m in
    matched v.levels (Unit {0}) (λ n. Charged v.basis.paid (W n v.basis.segments) c.args.limiter.now c.set_struct-in-Default.result c.args.limiter.now) c.in-Some.levels ((sym c.levels.ensures) ∙ c.in-Some.is)
    (in_default bytes (W c.in-Some.levels) c.backing.result c.backing-source.result v.basis c.new-unlimited.result c.set_struct-in-Default.new.limiter c.args.limiter.now c.set_struct-in-Default.result c.backing.ensures (ap is_paid c.in-Default.is) c.backing-source.ensures c.new-unlimited.ensures.limit (x, parts, (c.set_struct-in-Default.ensures.fits, c.set_struct-in-Default.ensures.cause)))
