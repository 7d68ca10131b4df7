-- A default is copied under no limit.
use Rattle.std.proofs.Common.{ℕ, ap, sym, ◌∙◌}
use Rattle.std.specs.Prelude.{option_map, MatchOption}
use Rattle.capnp_model.specs.Segments.{Segments, Place}
use Rattle.capnp_units.specs.Segments.{words_in}
use Rattle.capnp_wire_objects.specs.Places.{place_view}
use Rattle.capnp_wire.specs.Views.{backing_bytes, is_paid, seen_pointer}
use Rattle.capnp_copy_values.specs.Copies.{CopiesValue, copy_source, copy_of_value, limited_words}
use Rattle.capnp_layout_builders.specs.Copied.{Walk, Charged, IsTold, WithoutLevels, BecomesNull}
use Rattle.capnp_layout_builders.proofs.lemmas.Charging.{matched, in_arena, in_default}
use Rattle.capnp_model.specs.Sizes.{object_words}
use Rattle.capnp_copy_arenas.specs.Refusals.{IsSizeOrRefusal}
use Rattle.capnp_copy_arenas.specs.States.{state_in}
use Rattle.capnp_copy_values.specs.Fits.{HasLongList, wanted}
use Rattle.capnp_layout_builders.proofs.copies.copy_pointer.Goals as goal

pub returns-in-Default-clause-copy : goal.returns-in-Default-clause-copy
returns-in-Default-clause-copy g c =
    let bytes = g.B.ReaderArena.segments in
    let v = seen_pointer bytes c.args.other in
    let s = words_in (g.A.ReaderArena.segments c.args.arena.now) in
    let u = words_in (g.A.ReaderArena.segments c.copy_from-in-Default.new.arena) in
    let p = place_view c.args.slot in
    let l = c.args.limiter.now in
    let r = c.copy_from-in-Default.result in
    let q = place_view c.in-Some-place.place in
    let W : Segments → Walk = λ x l r m. CopiesValue (copy_source c.in-Some.levels x q) p (limited_words s l) r (limited_words u m) in
    let there = (sym c.place.ensures) ∙ (ap (option_map place_view) c.in-Some-place.is) in
    matched v.levels (WithoutLevels s u l r l) (λ n. MatchOption v.place (BecomesNull s u p l r l) (λ y. Charged v.basis.paid (λ a b e. CopiesValue (copy_source n v.basis.segments y) p (limited_words s a) b (limited_words u e)) l r l)) c.in-Some.levels ((sym c.levels.ensures) ∙ c.in-Some.is)
    (matched v.place (BecomesNull s u p l r l) (λ y. Charged v.basis.paid (λ a b e. CopiesValue (copy_source c.in-Some.levels v.basis.segments y) p (limited_words s a) b (limited_words u e)) l r l) q there
    (in_default bytes W c.backing.result c.backing-in-Default.result v.basis c.new-unlimited.result c.copy_from-in-Default.new.limiter l r c.backing.ensures (ap is_paid c.in-Default.is) c.backing-in-Default.ensures c.new-unlimited.ensures.limit c.copy_from-in-Default.ensures.copy))

pub returns-in-Arena-clause-told : goal.returns-in-Arena-clause-told
returns-in-Arena-clause-told g c =
    let bytes = g.B.ReaderArena.segments in
    let v = seen_pointer bytes c.args.other in
    let i = c.args.slot.segment in
    let l = c.args.limiter.now in
    let r = c.copy_from.result in
    let m = c.copy_from.new.limiter in
    let q = place_view c.in-Some-place.place in
    let W : ℕ → Place → Segments → Walk = λ n y x. IsTold (copy_of_value (copy_source n x y)) (wanted object_words (HasLongList x) c.args.slot.segment) (state_in g.A.ReaderArena.segments g.A.BuilderArena.room g.A.BuilderArena.books c.args.arena.now) (state_in g.A.ReaderArena.segments g.A.BuilderArena.room g.A.BuilderArena.books c.copy_from.new.arena) (IsSizeOrRefusal g.A.BuilderArena.refuses) in
    let there = (sym c.place.ensures) ∙ (ap (option_map place_view) c.in-Some-place.is) in
    matched v.levels (Unit {0}) (λ n. MatchOption v.place (Unit {0}) (λ y. Charged v.basis.paid (W n y v.basis.segments) l r m)) c.in-Some.levels ((sym c.levels.ensures) ∙ c.in-Some.is)
    (matched v.place (Unit {0}) (λ y. Charged v.basis.paid (W c.in-Some.levels y v.basis.segments) l r m) q there
    (in_arena bytes (W c.in-Some.levels q) c.backing.result v.basis (bytes c.in-Arena.source.now) l m r c.backing.ensures (ap is_paid c.in-Arena.is) (ap (backing_bytes bytes) c.in-Arena.is) (c.copy_from.ensures.fits, c.copy_from.ensures.cause)))

pub returns-in-Default-clause-told : goal.returns-in-Default-clause-told
returns-in-Default-clause-told g c =
    let bytes = g.B.ReaderArena.segments in
    let v = seen_pointer bytes c.args.other in
    let i = c.args.slot.segment in
    let l = c.args.limiter.now in
    let r = c.copy_from-in-Default.result in
    let m = c.args.limiter.now in
    let q = place_view c.in-Some-place.place in
    let W : ℕ → Place → Segments → Walk = λ n y x. IsTold (copy_of_value (copy_source n x y)) (wanted object_words (HasLongList x) c.args.slot.segment) (state_in g.A.ReaderArena.segments g.A.BuilderArena.room g.A.BuilderArena.books c.args.arena.now) (state_in g.A.ReaderArena.segments g.A.BuilderArena.room g.A.BuilderArena.books c.copy_from-in-Default.new.arena) (IsSizeOrRefusal g.A.BuilderArena.refuses) in
    let there = (sym c.place.ensures) ∙ (ap (option_map place_view) c.in-Some-place.is) in
    matched v.levels (Unit {0}) (λ n. MatchOption v.place (Unit {0}) (λ y. Charged v.basis.paid (W n y v.basis.segments) l r m)) c.in-Some.levels ((sym c.levels.ensures) ∙ c.in-Some.is)
    (matched v.place (Unit {0}) (λ y. Charged v.basis.paid (W c.in-Some.levels y v.basis.segments) l r m) q there
    (in_default bytes (W c.in-Some.levels q) c.backing.result c.backing-in-Default.result v.basis c.new-unlimited.result c.copy_from-in-Default.new.limiter l r c.backing.ensures (ap is_paid c.in-Default.is) c.backing-in-Default.ensures c.new-unlimited.ensures.limit (c.copy_from-in-Default.ensures.fits, c.copy_from-in-Default.ensures.cause)))
