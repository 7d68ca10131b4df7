-- A struct is copied by its parts.
use Rattle.std.proofs.Common.{◌≡◌, ℕ, min, None, Err, refl, ap, sym, ◌∙◌, subst, rules}
use Rattle.capnp_model.specs.Sections.{words_for}
use Rattle.capnp_model.specs.Segments.{Segments}
use Rattle.capnp_units.specs.Segments.{words_in}
use Rattle.capnp_wire_objects.specs.Places.{place_view}
use Rattle.capnp_wire.specs.Views.{backing_bytes, is_paid, seen_struct}
use Rattle.capnp_copy_values.specs.Copies.{StructSource, struct_source, copy_source, limited_words, copy_of_row}
use Rattle.capnp_copy_values.specs.Contents.{CopiesContent, SetsSection, fitting}
use Rattle.capnp_layout_builders.specs.Copied.{Walk, Charged, IsTold, TakesDataAlone, IsSourceOf}
use Rattle.capnp_layout_builders.proofs.lemmas.Charging.{matched, unmatched, in_arena, in_default}
use Rattle.capnp_model.specs.Sizes.{each_object_words}
use Rattle.capnp_copy_arenas.specs.Refusals.{IsSizeOrRefusal}
use Rattle.capnp_copy_arenas.specs.States.{state_in}
use Rattle.capnp_copy_values.specs.Fits.{HasLongList, wanted}
use Rattle.capnp_layout_builders.proofs.copies.copy_content.Goals as goal

pub returns-in_default-clause-content : goal.returns-in_default-clause-content
returns-in_default-clause-content g c =
    let v = seen_struct g.B.ReaderArena.segments c.args.other in
    let s = words_in (g.A.ReaderArena.segments c.args.arena.now) in
    let u = words_in (g.A.ReaderArena.segments c.copy_data_from.new.arena) in
    let o = c.args.object in
    let l = c.args.limiter.now in
    let none : v.levels ≡ None = search rules in
    unmatched v.levels (TakesDataAlone v s u o l (Err c.from.result) l) (λ n. Charged v.basis.paid (λ q r m. (x : StructSource) × IsSourceOf v x × CopiesContent (copy_source n v.basis.segments x) o (limited_words s q) r (limited_words u m)) l (Err c.from.result) l) none (record {
      refused = search rules;
      unread = refl;
      sizes = c.copy_data_from.ensures.sizes;
      section = subst (λ (x : ℕ). SetsSection s u o (fitting o.data_words x)) c.section-section.ensures.section c.copy_data_from.ensures.section;
    })

pub returns-in-Arena-clause-content : goal.returns-in-Arena-clause-content
returns-in-Arena-clause-content g c =
    let bytes = g.B.ReaderArena.segments in
    let v = seen_struct bytes c.args.other in
    let s = words_in (g.A.ReaderArena.segments c.args.arena.now) in
    let u = words_in (g.A.ReaderArena.segments c.copy_content_from.new.arena) in
    let x = struct_source c.section-section.result.now c.first_pointer-first.result c.pointers-pointers.result in
    let parts : IsSourceOf v x = record { section = c.section-section.ensures.section; data_words = ap words_for c.section-section.ensures.bits; first = c.first_pointer-first.ensures.place; pointers = c.pointers-pointers.ensures } in
    let W : ℕ → Segments → Walk = λ n q l r m. (y : StructSource) × IsSourceOf v y × CopiesContent (copy_source n q y) c.args.object (limited_words s l) r (limited_words u m) in
    matched v.levels (TakesDataAlone v s u c.args.object c.args.limiter.now c.copy_content_from.result c.copy_content_from.new.limiter) (λ n. Charged v.basis.paid (W n v.basis.segments) c.args.limiter.now c.copy_content_from.result c.copy_content_from.new.limiter) c.in-Some.levels ((sym c.levels.ensures) ∙ c.in-Some.is)
    (in_arena bytes (W c.in-Some.levels) c.backing.result v.basis (bytes c.in-Arena.source.now) c.args.limiter.now c.copy_content_from.new.limiter c.copy_content_from.result c.backing.ensures (ap is_paid c.in-Arena.is) (ap (backing_bytes bytes) c.in-Arena.is) (x, parts, c.copy_content_from.ensures.content))

pub returns-in-Default-clause-content : goal.returns-in-Default-clause-content
returns-in-Default-clause-content g c =
    let bytes = g.B.ReaderArena.segments in
    let v = seen_struct bytes c.args.other in
    let s = words_in (g.A.ReaderArena.segments c.args.arena.now) in
    let u = words_in (g.A.ReaderArena.segments c.copy_content_from-in-Default.new.arena) in
    let x = struct_source c.section-section.result.now c.first_pointer-first.result c.pointers-pointers.result in
    let parts : IsSourceOf v x = record { section = c.section-section.ensures.section; data_words = ap words_for c.section-section.ensures.bits; first = c.first_pointer-first.ensures.place; pointers = c.pointers-pointers.ensures } in
    let W : ℕ → Segments → Walk = λ n q l r m. (y : StructSource) × IsSourceOf v y × CopiesContent (copy_source n q y) c.args.object (limited_words s l) r (limited_words u m) in
    matched v.levels (TakesDataAlone v s u c.args.object c.args.limiter.now c.copy_content_from-in-Default.result c.args.limiter.now) (λ n. Charged v.basis.paid (W n v.basis.segments) c.args.limiter.now c.copy_content_from-in-Default.result c.args.limiter.now) c.in-Some.levels ((sym c.levels.ensures) ∙ c.in-Some.is)
    (in_default bytes (W c.in-Some.levels) c.backing.result c.backing-source.result v.basis c.new-unlimited.result c.copy_content_from-in-Default.new.limiter c.args.limiter.now c.copy_content_from-in-Default.result c.backing.ensures (ap is_paid c.in-Default.is) c.backing-source.ensures c.new-unlimited.ensures.limit (x, parts, c.copy_content_from-in-Default.ensures.content))

pub returns-in-Arena-clause-told : goal.returns-in-Arena-clause-told
returns-in-Arena-clause-told g c =
    let bytes = g.B.ReaderArena.segments in
    let v = seen_struct bytes c.args.other in
    let s = (state_in g.A.ReaderArena.segments g.A.BuilderArena.room g.A.BuilderArena.books c.args.arena.now) in
    let u = (state_in g.A.ReaderArena.segments g.A.BuilderArena.room g.A.BuilderArena.books c.copy_content_from.new.arena) in
    let x = struct_source c.section-section.result.now c.first_pointer-first.result c.pointers-pointers.result in
    let parts : IsSourceOf v x = record { section = c.section-section.ensures.section; data_words = ap words_for c.section-section.ensures.bits; first = c.first_pointer-first.ensures.place; pointers = c.pointers-pointers.ensures } in
    let W : ℕ → Segments → Walk = λ n q l r m. (y : StructSource) × IsSourceOf v y × IsTold (copy_of_row (copy_source n q (place_view y.first)) (min y.pointers c.args.object.pointers)) (wanted each_object_words (HasLongList q) c.args.object.start.segment) s u (IsSizeOrRefusal g.A.BuilderArena.refuses) l r m in
    matched v.levels (Unit {0}) (λ n. Charged v.basis.paid (W n v.basis.segments) c.args.limiter.now c.copy_content_from.result c.copy_content_from.new.limiter) c.in-Some.levels ((sym c.levels.ensures) ∙ c.in-Some.is)
    (in_arena bytes (W c.in-Some.levels) c.backing.result v.basis (bytes c.in-Arena.source.now) c.args.limiter.now c.copy_content_from.new.limiter c.copy_content_from.result c.backing.ensures (ap is_paid c.in-Arena.is) (ap (backing_bytes bytes) c.in-Arena.is) (x, parts, (c.copy_content_from.ensures.fits, c.copy_content_from.ensures.cause)))

pub returns-in-Default-clause-told : goal.returns-in-Default-clause-told
returns-in-Default-clause-told g c =
    let bytes = g.B.ReaderArena.segments in
    let v = seen_struct bytes c.args.other in
    let s = (state_in g.A.ReaderArena.segments g.A.BuilderArena.room g.A.BuilderArena.books c.args.arena.now) in
    let u = (state_in g.A.ReaderArena.segments g.A.BuilderArena.room g.A.BuilderArena.books c.copy_content_from-in-Default.new.arena) in
    let x = struct_source c.section-section.result.now c.first_pointer-first.result c.pointers-pointers.result in
    let parts : IsSourceOf v x = record { section = c.section-section.ensures.section; data_words = ap words_for c.section-section.ensures.bits; first = c.first_pointer-first.ensures.place; pointers = c.pointers-pointers.ensures } in
    let W : ℕ → Segments → Walk = λ n q l r m. (y : StructSource) × IsSourceOf v y × IsTold (copy_of_row (copy_source n q (place_view y.first)) (min y.pointers c.args.object.pointers)) (wanted each_object_words (HasLongList q) c.args.object.start.segment) s u (IsSizeOrRefusal g.A.BuilderArena.refuses) l r m in
    matched v.levels (Unit {0}) (λ n. Charged v.basis.paid (W n v.basis.segments) c.args.limiter.now c.copy_content_from-in-Default.result c.args.limiter.now) c.in-Some.levels ((sym c.levels.ensures) ∙ c.in-Some.is)
    (in_default bytes (W c.in-Some.levels) c.backing.result c.backing-source.result v.basis c.new-unlimited.result c.copy_content_from-in-Default.new.limiter c.args.limiter.now c.copy_content_from-in-Default.result c.backing.ensures (ap is_paid c.in-Default.is) c.backing-source.ensures c.new-unlimited.ensures.limit (x, parts, (c.copy_content_from-in-Default.ensures.fits, c.copy_content_from-in-Default.ensures.cause)))
