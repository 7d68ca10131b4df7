-- The value's words, and their copy.
use Rattle.std.proofs.Common.{ℕ, ◌^◌, ◌≤◌, List, [], ◌∷◌, length, ap, sym, ◌∙◌, subst, arith}
use Rattle.std.specs.List.{take-map}
use Rattle.std.specs.Int.{from_le_bytes, w64}
use Rattle.std.proofs.lemmas.List.{length-take}
use Rattle.std.proofs.lemmas.Result.{err_from_is_err_and}
use Rattle.capnp_model.specs.Segments.{Segments, Place, root}
use Rattle.capnp_model.specs.Trees.{depth}
use Rattle.capnp_model.specs.Trimming.{trim}
use Rattle.capnp_model.specs.Encoding.{canonical_words}
use Rattle.capnp_model.specs.Traversal.{tree_at, cost_at}
use Rattle.capnp_units.specs.Segments.{words_in}
use Rattle.capnp_wire_objects.specs.Places.{place_view}
use Rattle.capnp_wire_canonical.specs.Copies.{copy_visits}
use Rattle.capnp_wire_canonical.specs.Writes.{words_view, filled}
use Rattle.capnp_wire.specs.Views.{Ground}
use Rattle.capnp_model.specs.Sizes.{object_words}
use Rattle.capnp_model.specs.Visits.{visits}
use Rattle.capnp_copy_arenas.specs.Refusals.{IsSizeOrRefusal}
use Rattle.capnp_copy_arenas.specs.States.{state_in}
use Rattle.capnp_copy_values.specs.Copies.{CopiesValue, IsStoppedOr, copy_source, limited_words}
use Rattle.capnp_copy_values.specs.Fits.{FitsWhereRoom, HasLongList, limited_arena, wanted}
use Rattle.capnp_copy_values.specs.Canonical.{canonical_message}
use Rattle.capnp_copy_values.proofs.Copied.{Wrote, walked_few, stopped_few, halted, copied, halted_told, copied_told}
use Rattle.capnp_copy_values.proofs.canonical.copy_canonical_from.Goals as goal

pub returns-in_err-count-clause-copy : goal.returns-in_err-count-clause-copy
returns-in_err-count-clause-copy g c =
    let from : Segments = words_in (g.B.ReaderArena.segments c.args.source.now) in
    let s : Segments = words_in (g.A.ReaderArena.segments c.args.arena.now) in
    let r = err_from_is_err_and c.from_residual.result c.from_residual.ensures.1 in
    halted c.args.levels from (place_view c.args.place) c.args.lent.now s (place_view c.args.slot) c.args.limiter.now c.in_err-count.field-0.0 c.write_canonical.new.into c.write_canonical.new.limiter c.from_residual.result r.0 r.1 r.2 c.in_err-count.ensures

pub returns-in_err-count-clause-few : goal.returns-in_err-count-clause-few
returns-in_err-count-clause-few g c =
    let from : Segments = words_in (g.B.ReaderArena.segments c.args.source.now) in
    let q : Place = place_view c.args.place in
    let n = c.args.levels in
    stopped_few (copy_visits n from q) (c.copies_follow_few.ensures.begun n from q) (c.copies_follow_few.ensures.stopped n from q) c.args.lent.now c.args.limiter.now c.in_err-count.field-0.0 c.write_canonical.new.into c.write_canonical.new.limiter c.in_err-count.ensures.halted

pub returns-clause-copy : goal.returns-clause-copy
returns-clause-copy g c =
    let from : Segments = words_in (g.B.ReaderArena.segments c.args.source.now) in
    let s : Segments = words_in (g.A.ReaderArena.segments c.args.arena.now) in
    let u : Segments = words_in (g.A.ReaderArena.segments c.copy_from.new.arena) in
    let q : Place = place_view c.args.place in
    let p : Place = place_view c.args.slot in
    let n = c.args.levels in
    let end = c.in_ok-count.count in
    let into = c.write_canonical.new.into in
    let wrote : Wrote n from q c.args.lent.now c.args.limiter.now end into c.write_canonical.new.limiter = c.in_ok-count.ensures in
    let t = wrote.what in
    let near = wrote.near in
    let count = length-take end (words_view into) in
    let few : length (filled end into) ≤ 2 ^ 29 = omega (arith, near, count) in
    let short : length (canonical_words (trim t)) ≤ 2 ^ 29 = subst (λ (ws : List ℕ). length ws ≤ 2 ^ 29) wrote.words few in
    let deep = c.values_that_are_read.ensures.deep n from q t wrote.there_is in
    let shallow = c.trimmed_values.ensures.depth t in
    let within : depth (trim t) ≤ n = omega (arith, deep, shallow) in
    let fits = c.trimmed_values.ensures.fits t (c.values_that_are_read.ensures.fits n from q t wrote.there_is) in
    let means = c.words_mean_their_value.ensures.means (trim t) n fits within short in
    let costs = c.values_on_walks.ensures.cost n (canonical_message t) root (trim t) means in
    let words = sym (take-map (from_le_bytes w64) end into) ∙ wrote.words in
    let is = ap (λ (x : Ground). x.segments) c.default_backing-copy.ensures ∙ c.segments_of_words.ensures ∙ ap (λ (ws : List ℕ). ws ∷ []) words in
    copied n from q c.args.lent.now s u p c.args.limiter.now c.write_canonical.new.limiter c.new-unlimited.result c.copy_from.new.limiter c.copy_from.result t (cost_at n (canonical_message t) root)
    (record { there_is = wrote.there_is; clean = wrote.clean; walked = wrote.walked }) means costs (record { endless = c.new-unlimited.ensures.limit; unused = c.new-unlimited.ensures.granted })
    (subst (λ (f : Segments). CopiesValue (copy_source n f root) p (limited_words s c.new-unlimited.result) c.copy_from.result (limited_words u c.copy_from.new.limiter)) is c.copy_from.ensures.copy)

pub returns-clause-told : goal.returns-clause-told
returns-clause-told g c =
    let from : Segments = words_in (g.B.ReaderArena.segments c.args.source.now) in
    let q : Place = place_view c.args.place in
    let n = c.args.levels in
    let end = c.in_ok-count.count in
    let into = c.write_canonical.new.into in
    let wrote : Wrote n from q c.args.lent.now c.args.limiter.now end into c.write_canonical.new.limiter = c.in_ok-count.ensures in
    let t = wrote.what in
    let near = wrote.near in
    let count = length-take end (words_view into) in
    let few : length (filled end into) ≤ 2 ^ 29 = omega (arith, near, count) in
    let short : length (canonical_words (trim t)) ≤ 2 ^ 29 = subst (λ (ws : List ℕ). length ws ≤ 2 ^ 29) wrote.words few in
    let deep = c.values_that_are_read.ensures.deep n from q t wrote.there_is in
    let shallow = c.trimmed_values.ensures.depth t in
    let within : depth (trim t) ≤ n = omega (arith, deep, shallow) in
    let fits = c.trimmed_values.ensures.fits t (c.values_that_are_read.ensures.fits n from q t wrote.there_is) in
    let means = c.words_mean_their_value.ensures.means (trim t) n fits within short in
    let costs = c.values_on_walks.ensures.cost n (canonical_message t) root (trim t) means in
    let words = sym (take-map (from_le_bytes w64) end into) ∙ wrote.words in
    let is = ap (λ (x : Ground). x.segments) c.default_backing-copy.ensures ∙ c.segments_of_words.ensures ∙ ap (λ (ws : List ℕ). ws ∷ []) words in
    let i = c.args.slot.segment in
    copied_told n from q c.args.lent.now (state_in g.A.ReaderArena.segments g.A.BuilderArena.room g.A.BuilderArena.books c.args.arena.now) (state_in g.A.ReaderArena.segments g.A.BuilderArena.room g.A.BuilderArena.books c.copy_from.new.arena) i (IsSizeOrRefusal g.A.BuilderArena.refuses) c.args.limiter.now c.write_canonical.new.limiter c.new-unlimited.result c.copy_from.new.limiter c.copy_from.result t (cost_at n (canonical_message t) root)
    wrote.there_is means costs (record { endless = c.new-unlimited.ensures.limit; unused = c.new-unlimited.ensures.granted })
    (subst (λ (f : Segments). FitsWhereRoom (tree_at n f root) (visits n f root) (wanted object_words (HasLongList f) c.args.slot.segment) (limited_arena (state_in g.A.ReaderArena.segments g.A.BuilderArena.room g.A.BuilderArena.books c.args.arena.now) c.new-unlimited.result) c.copy_from.result (limited_arena (state_in g.A.ReaderArena.segments g.A.BuilderArena.room g.A.BuilderArena.books c.copy_from.new.arena) c.copy_from.new.limiter)) is c.copy_from.ensures.fits)
    (subst (λ (f : Segments). IsStoppedOr (visits n f root) c.new-unlimited.result c.copy_from.new.limiter (IsSizeOrRefusal g.A.BuilderArena.refuses) c.copy_from.result) is c.copy_from.ensures.cause)

pub returns-in_err-count-clause-told : goal.returns-in_err-count-clause-told
returns-in_err-count-clause-told g c =
    let from : Segments = words_in (g.B.ReaderArena.segments c.args.source.now) in
    let r = err_from_is_err_and c.from_residual.result c.from_residual.ensures.1 in
    halted_told c.args.levels from (place_view c.args.place) c.args.lent.now (state_in g.A.ReaderArena.segments g.A.BuilderArena.room g.A.BuilderArena.books c.args.arena.now) (state_in g.A.ReaderArena.segments g.A.BuilderArena.room g.A.BuilderArena.books c.args.arena.now) c.args.slot.segment (IsSizeOrRefusal g.A.BuilderArena.refuses) c.args.limiter.now c.in_err-count.field-0.0 c.write_canonical.new.into c.write_canonical.new.limiter c.from_residual.result r.0 r.1 r.2 c.in_err-count.ensures

pub returns-clause-few : goal.returns-clause-few
returns-clause-few g c =
    let from : Segments = words_in (g.B.ReaderArena.segments c.args.source.now) in
    let q : Place = place_view c.args.place in
    let n = c.args.levels in
    let wrote : Wrote n from q c.args.lent.now c.args.limiter.now c.in_ok-count.count c.write_canonical.new.into c.write_canonical.new.limiter = c.in_ok-count.ensures in
    walked_few (copy_visits n from q) (c.copies_follow_few.ensures.begun n from q) c.args.limiter.now c.write_canonical.new.limiter wrote.walked
