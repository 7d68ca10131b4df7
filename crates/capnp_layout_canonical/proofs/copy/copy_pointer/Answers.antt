-- A default is copied under no limit.
use Rattle.std.proofs.Common.{◌≡◌, ap, sym, ◌∙◌}
use Rattle.std.specs.Prelude.{option_map, MatchOption}
use Rattle.capnp_model.specs.Segments.{Segments}
use Rattle.capnp_units.specs.Segments.{words_in}
use Rattle.capnp_wire_objects.specs.Places.{place_view}
use Rattle.capnp_wire.specs.Views.{is_paid, seen_pointer}
use Rattle.capnp_layout_builders.specs.Copied.{Walk, Charged, WithoutLevels, BecomesNull}
use Rattle.capnp_layout_builders.proofs.lemmas.Charging.{matched, in_default}
use Rattle.capnp_copy_values.specs.Copies.{copy_source}
use Rattle.capnp_copy_values.specs.Canonical.{lent_copy}
use Rattle.capnp_layout_canonical.specs.Copied.{slot_changed, CopiesThrough}
use Rattle.capnp_layout_canonical.proofs.copy.copy_pointer.Goals as goal

pub returns-in-Default-clause-copy : goal.returns-in-Default-clause-copy
returns-in-Default-clause-copy g c =
    let bytes = g.B.ReaderArena.segments in
    let v = seen_pointer bytes c.args.other in
    let s = words_in (g.A.ReaderArena.segments c.args.arena.now) in
    let u = words_in (g.A.ReaderArena.segments c.copy_canonical_from-in-Default.new.arena) in
    let p = place_view c.args.slot in
    let l = c.args.limiter.now in
    let r = c.copy_canonical_from-in-Default.result in
    let q = place_view c.in-Some-place.place in
    let old = c.args.lent.now in
    let after = c.copy_canonical_from-in-Default.new.lent in
    let W : Segments → Walk = λ x. CopiesThrough (lent_copy (copy_source c.in-Some.levels x q) old) after (slot_changed s u p) in
    let there = (sym c.place.ensures) ∙ (ap (option_map place_view) c.in-Some-place.is) in
    matched v.levels (WithoutLevels s u l r l × (after ≡ old)) (λ n. MatchOption v.place (BecomesNull s u p l r l × (after ≡ old)) (λ y. Charged v.basis.paid (CopiesThrough (lent_copy (copy_source n v.basis.segments y) old) after (slot_changed s u p)) l r l)) c.in-Some.levels ((sym c.levels.ensures) ∙ c.in-Some.is)
    (matched v.place (BecomesNull s u p l r l × (after ≡ old)) (λ y. Charged v.basis.paid (CopiesThrough (lent_copy (copy_source c.in-Some.levels v.basis.segments y) old) after (slot_changed s u p)) l r l) q there
    (in_default bytes W c.backing.result c.backing-source.result v.basis c.new-unlimited.result c.copy_canonical_from-in-Default.new.limiter l r c.backing.ensures (ap is_paid c.in-Default.is) c.backing-source.ensures c.new-unlimited.ensures.limit
    (record { copy = c.copy_canonical_from-in-Default.ensures.copy; few = c.copy_canonical_from-in-Default.ensures.few; written = c.copy_canonical_from-in-Default.ensures.lent })))
