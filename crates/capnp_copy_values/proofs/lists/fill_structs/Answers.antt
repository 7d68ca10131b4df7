use Rattle.std.proofs.Common.{◌≡◌, ℕ, ◌+◌, ◌-◌, ◌*◌, true, List, length, map, take, drop, refl, ap, sym, ◌∙◌, subst, arith}
use Rattle.std.specs.Option.{is_some}
use Rattle.std.proofs.lemmas.Result.{err_from_is_err_and}
use Rattle.capnp_model.specs.Sections.{number_of, section_of, words_of}
use Rattle.capnp_model.specs.Segments.{Segments, Place, words_at}
use Rattle.capnp_model.specs.Traversal.{tree_at, each_element}
use Rattle.capnp_model.specs.Coverage.{from_elements}
use Rattle.capnp_model.specs.Visits.{visits}
use Rattle.capnp_units.specs.Segments.{whole_words, words_in}
use Rattle.capnp_wire_objects.specs.Places.{place_view}
use Rattle.capnp_wire_objects.proofs.lemmas.Words.{whole_words-length}
use Rattle.capnp_model_writes.proofs.lemmas.Rows.{after_sum}
use Rattle.capnp_wire.proofs.lemmas.Bytes.{section_of_part}
use Rattle.capnp_copy_arenas.proofs.lemmas.RoomLaws.{still_some}
use Rattle.capnp_copy_values.specs.Copies.{FillsElements, LeavesElements, Copied, limited_words, sized_at}
use Rattle.capnp_copy_values.proofs.Elements.{elements_begun, elements_next, elements_stopped, elements_ended, all_at_once, element_within}
use Rattle.capnp_copy_values.proofs.Listed.{all_read}
use Rattle.capnp_copy_values.proofs.Parts.{part_there}
use Rattle.capnp_copy_values.proofs.Refusals.{refused_is}
use Rattle.capnp_copy_arenas.specs.Refusals.{IsSizeOrRefusal}
use Rattle.capnp_copy_values.proofs.Told.{told_err, elements_told}
use Rattle.capnp_copy_arenas.specs.States.{state_in}
use Rattle.capnp_copy_arenas.proofs.lemmas.ZeroedWords.{written_sizes}
use Rattle.capnp_copy_values.specs.Fits.{HasLongList, elements_behind}
use Rattle.capnp_copy_values.proofs.Fitting.{fits_err}
use Rattle.capnp_copy_values.proofs.FittingRows.{elements_fit_begun, elements_fit_next, elements_fit_stopped, elements_fit_ended, plain_elements_fit}
use Rattle.capnp_copy_values.proofs.lists.fill_structs.Goals as goal

pub returns-then-list-eq0-clause-copy : goal.returns-then-list-eq0-clause-copy
returns-then-list-eq0-clause-copy g c =
    let from : Segments = words_in (g.B.ReaderArena.segments c.args.source.now) in
    let s : Segments = words_in (g.A.ReaderArena.segments c.args.arena.now) in
    let u : Segments = words_in (g.A.ReaderArena.segments c.write_words.new.self) in
    let p : Place = place_view c.args.list.start in
    let r : Place = place_view c.args.start in
    let n = c.args.levels in
    let d = c.args.list.data_words in
    let k = c.args.list.pointers in
    let count = c.args.list.count in
    let long = c.requires.all in
    let read = all_read (c.args.list.count * (c.args.list.data_words + c.args.list.pointers)) c.args.bytes.now long (λ i. let h = c.type_inv.bytes i in omega (arith, h)) in
    let size : length (whole_words c.args.bytes.now) ≡ c.args.list.count * (c.args.list.data_words + c.args.list.pointers) = whole_words-length c.args.bytes.now ∙ omega (arith, long) in
    subst (λ (ws : List ℕ). Copied (each_element (tree_at n from) p ws d k count) (from_elements (visits n from) p d k count) (FillsElements n s u (sized_at r d k) count) (limited_words s c.args.limiter.now) (limited_words u c.args.limiter.now)) (sym read)
    (all_at_once n from p (whole_words c.args.bytes.now) d k count s u r c.args.limiter.now c.if-list-eq0.true size c.write_words.ensures.words)

pub loop-i-init : goal.loop-i-init
loop-i-init g c =
    let from : Segments = words_in (g.B.ReaderArena.segments c.args.source.now) in
    let s : Segments = words_in (g.A.ReaderArena.segments c.args.arena.now) in (
      elements_begun c.args.levels from (place_view c.args.list.start) (words_of (c.args.list.count * (c.args.list.data_words + c.args.list.pointers)) (number_of 8 c.args.bytes.now)) c.args.list.data_words c.args.list.pointers c.args.list.count s (place_view c.args.start) c.args.limiter.now,
      refl,
      elements_fit_begun c.args.levels from (place_view c.args.list.start) (words_of (c.args.list.count * (c.args.list.data_words + c.args.list.pointers)) (number_of 8 c.args.bytes.now)) c.args.list.data_words c.args.list.pointers c.args.list.count (state_in g.A.ReaderArena.segments g.A.BuilderArena.room g.A.BuilderArena.books c.args.arena.now) c.args.start.segment,
    )

pub fill_element-requires-clause-there : goal.fill_element-requires-clause-there
fill_element-requires-clause-there g c =
    let s : Segments = words_in (g.A.ReaderArena.segments c.args.arena.now) in
    let u : Segments = words_in (g.A.ReaderArena.segments c.loop-i.arena) in
    let r : Place = place_view c.args.start in
    let w = c.args.list.data_words + c.args.list.pointers in
    let i = c.loop-i.i in
    let all = still_some s u r (1 + c.args.list.count * (c.args.list.data_words + c.args.list.pointers)) c.loop-i.invariant.0.grows c.requires.there in
    let within = element_within i c.args.list.count w w (c.args.list.count * w) c.loop-i-test.true (omega arith) (omega arith) in
    subst (λ (q : Place). is_some (words_at u q (c.args.list.data_words + c.args.list.pointers)) ≡ true) (sym (after_sum r 1 (i * (c.args.list.data_words + c.args.list.pointers)) (1 + i * (c.args.list.data_words + c.args.list.pointers)) refl)) (part_there u r (1 + c.args.list.count * (c.args.list.data_words + c.args.list.pointers)) all (1 + i * (c.args.list.data_words + c.args.list.pointers)) (c.args.list.data_words + c.args.list.pointers) (omega (arith, within)))

pub returns-in_err-fill_element-clause-copy : goal.returns-in_err-fill_element-clause-copy
returns-in_err-fill_element-clause-copy g c =
    let from : Segments = words_in (g.B.ReaderArena.segments c.args.source.now) in
    let s : Segments = words_in (g.A.ReaderArena.segments c.args.arena.now) in
    let u : Segments = words_in (g.A.ReaderArena.segments c.loop-i.arena) in
    let w : Segments = words_in (g.A.ReaderArena.segments c.fill_element.new.arena) in
    let p : Place = place_view c.args.list.start in
    let q : Place = place_view c.args.start in
    let n = c.args.levels in
    let d = c.args.list.data_words in
    let k = c.args.list.pointers in
    let count = c.args.list.count in
    let ws : List ℕ = words_of (c.args.list.count * (c.args.list.data_words + c.args.list.pointers)) (number_of 8 c.args.bytes.now) in
    let r = err_from_is_err_and c.from_residual.result c.from_residual.ensures.1 in
    let e = c.in_err-fill_element.field-0.0 in
    refused_is from (each_element (tree_at n from) p ws d k count) (from_elements (visits n from) p d k count) (FillsElements n s w (sized_at q d k) count) (LeavesElements n s w (sized_at q d k) count) s w c.args.limiter.now c.fill_element.new.limiter c.from_residual.result r.0 e r.1 r.2
    (elements_stopped n from p ws d k count s q c.args.limiter.now c.loop-i.i u w c.loop-i.limiter c.fill_element.new.limiter c.loop-i-test.true c.loop-i.invariant.0 e c.in_err-fill_element.ensures.copy)

pub loop-i-preserved : goal.loop-i-preserved
loop-i-preserved g c =
    let from : Segments = words_in (g.B.ReaderArena.segments c.args.source.now) in
    let s : Segments = words_in (g.A.ReaderArena.segments c.args.arena.now) in
    let u : Segments = words_in (g.A.ReaderArena.segments c.loop-i.arena) in
    let w : Segments = words_in (g.A.ReaderArena.segments c.fill_element.new.arena) in
    let p : Place = place_view c.args.list.start in
    let q : Place = place_view c.args.start in
    let n = c.args.levels in
    let d = c.args.list.data_words in
    let k = c.args.list.pointers in
    let i = c.loop-i.i in
    let long = c.requires.all in
    let bytes = c.args.bytes.now in
    let ws : List ℕ = words_of (c.args.list.count * (c.args.list.data_words + c.args.list.pointers)) (number_of 8 c.args.bytes.now) in
    let read = all_read (c.args.list.count * (c.args.list.data_words + c.args.list.pointers)) c.args.bytes.now long (λ j. let h = c.type_inv.bytes j in omega (arith, h)) in
    let inside = element_within i c.args.list.count (d + k) d (c.args.list.count * (d + k)) c.loop-i-test.true (omega arith) (omega arith) in
    let part = section_of_part (i * (d + k)) d c.args.bytes.now (λ j. let h = c.type_inv.bytes j in omega (arith, h)) (omega (arith, long, inside)) in
    let size : 8 * (i * (d + k)) + 8 * d - 8 * (i * (d + k)) ≡ 8 * d = omega arith in
    let section : number_of 8 (take (8 * (i * (d + k)) + 8 * d - 8 * (i * (d + k))) (drop (8 * (i * (d + k))) c.args.bytes.now)) ≡ section_of (take d (drop (i * (d + k)) (words_of (c.args.list.count * (c.args.list.data_words + c.args.list.pointers)) (number_of 8 c.args.bytes.now)))) =
    ap (λ (j : ℕ). number_of 8 (take j (drop (8 * (i * (d + k))) c.args.bytes.now))) size ∙ part ∙ ap (λ (xs : List ℕ). section_of (take d (drop (i * (d + k)) xs))) (sym read) in (
      elements_next n from p ws d k c.args.list.count s q c.args.limiter.now i u w c.loop-i.limiter c.fill_element.new.limiter c.loop-i-test.true c.loop-i.invariant.0 _ section c.in_ok-fill_element.ensures.copy,
      c.in_ok-fill_element.ensures.books ∙ c.loop-i.invariant.1,
      elements_fit_next n from p ws d k c.args.list.count (state_in g.A.ReaderArena.segments g.A.BuilderArena.room g.A.BuilderArena.books c.args.arena.now) c.args.start.segment i (state_in g.A.ReaderArena.segments g.A.BuilderArena.room g.A.BuilderArena.books c.loop-i.arena) (state_in g.A.ReaderArena.segments g.A.BuilderArena.room g.A.BuilderArena.books c.fill_element.new.arena) c.loop-i.limiter c.fill_element.new.limiter c.loop-i-test.true c.loop-i.invariant.2 c.in_ok-fill_element.ensures.fits,
    )

pub returns-clause-copy : goal.returns-clause-copy
returns-clause-copy g c =
    let from : Segments = words_in (g.B.ReaderArena.segments c.args.source.now) in
    let s : Segments = words_in (g.A.ReaderArena.segments c.args.arena.now) in
    let u : Segments = words_in (g.A.ReaderArena.segments c.loop-i.arena) in
    let past = c.loop-i-test.false in
    let last = c.loop-i.auto.i-end in
    elements_ended c.args.levels from (place_view c.args.list.start) (words_of (c.args.list.count * (c.args.list.data_words + c.args.list.pointers)) (number_of 8 c.args.bytes.now)) c.args.list.data_words c.args.list.pointers c.args.list.count s (place_view c.args.start) c.args.limiter.now c.loop-i.i u c.loop-i.limiter (omega arith) c.loop-i.invariant.0

pub returns-in_err-fill_element-clause-cause : goal.returns-in_err-fill_element-clause-cause
returns-in_err-fill_element-clause-cause g c =
    let from : Segments = words_in (g.B.ReaderArena.segments c.args.source.now) in
    let s : Segments = words_in (g.A.ReaderArena.segments c.args.arena.now) in
    let u : Segments = words_in (g.A.ReaderArena.segments c.loop-i.arena) in
    let p : Place = place_view c.args.list.start in
    let n = c.args.levels in
    let d = c.args.list.data_words in
    let k = c.args.list.pointers in
    let count = c.args.list.count in
    let ws : List ℕ = words_of (c.args.list.count * (c.args.list.data_words + c.args.list.pointers)) (number_of 8 c.args.bytes.now) in
    let r = err_from_is_err_and c.from_residual.result c.from_residual.ensures.1 in
    let e = c.in_err-fill_element.field-0.0 in
    told_err (from_elements (visits n from) p d k count) c.args.limiter.now c.fill_element.new.limiter (IsSizeOrRefusal g.A.BuilderArena.refuses) c.from_residual.result r.0 e r.1 r.2
    (elements_told n from p ws d k count s (place_view c.args.start) c.args.limiter.now c.loop-i.i u c.loop-i.limiter c.fill_element.new.limiter (IsSizeOrRefusal g.A.BuilderArena.refuses) e c.loop-i-test.true c.loop-i.invariant.0 c.in_err-fill_element.ensures.cause)

pub returns-then-list-eq0-clause-fits : goal.returns-then-list-eq0-clause-fits
returns-then-list-eq0-clause-fits g c =
    let from : Segments = words_in (g.B.ReaderArena.segments c.args.source.now) in
    let s : Segments = words_in (g.A.ReaderArena.segments c.args.arena.now) in
    plain_elements_fit (tree_at c.args.levels from) (place_view c.args.list.start) (words_of (c.args.list.count * (c.args.list.data_words + c.args.list.pointers)) (number_of 8 c.args.bytes.now)) c.args.list.data_words c.args.list.pointers c.args.list.count c.args.start.segment (state_in g.A.ReaderArena.segments g.A.BuilderArena.room g.A.BuilderArena.books c.args.arena.now) (state_in g.A.ReaderArena.segments g.A.BuilderArena.room g.A.BuilderArena.books c.write_words.new.self) c.if-list-eq0.true (ap (λ (v : Segments). map length v) c.write_words.ensures.words ∙ written_sizes s _ _) c.write_words.ensures.room

pub returns-in_err-fill_element-clause-fits : goal.returns-in_err-fill_element-clause-fits
returns-in_err-fill_element-clause-fits g c =
    let from : Segments = words_in (g.B.ReaderArena.segments c.args.source.now) in
    let s : Segments = words_in (g.A.ReaderArena.segments c.args.arena.now) in
    let p : Place = place_view c.args.list.start in
    let n = c.args.levels in
    let d = c.args.list.data_words in
    let k = c.args.list.pointers in
    let count = c.args.list.count in
    let ws : List ℕ = words_of (c.args.list.count * (c.args.list.data_words + c.args.list.pointers)) (number_of 8 c.args.bytes.now) in
    let r = err_from_is_err_and c.from_residual.result c.from_residual.ensures.1 in
    let e = c.in_err-fill_element.field-0.0 in
    fits_err elements_behind (each_element (tree_at n from) p ws d k count) (from_elements (visits n from) p d k count) (HasLongList from) c.args.start.segment (state_in g.A.ReaderArena.segments g.A.BuilderArena.room g.A.BuilderArena.books c.args.arena.now) (state_in g.A.ReaderArena.segments g.A.BuilderArena.room g.A.BuilderArena.books c.fill_element.new.arena) c.args.limiter.now c.fill_element.new.limiter c.from_residual.result r.0 e r.1 r.2
    (elements_fit_stopped n from p ws d k count (state_in g.A.ReaderArena.segments g.A.BuilderArena.room g.A.BuilderArena.books c.args.arena.now) c.args.start.segment c.loop-i.i (place_view c.args.start) s (state_in g.A.ReaderArena.segments g.A.BuilderArena.room g.A.BuilderArena.books c.loop-i.arena) (state_in g.A.ReaderArena.segments g.A.BuilderArena.room g.A.BuilderArena.books c.fill_element.new.arena) c.args.limiter.now c.loop-i.limiter c.fill_element.new.limiter e c.loop-i-test.true c.loop-i.invariant.0 c.loop-i.invariant.2 c.in_err-fill_element.ensures.fits)

pub returns-clause-fits : goal.returns-clause-fits
returns-clause-fits g c =
    let from : Segments = words_in (g.B.ReaderArena.segments c.args.source.now) in
    elements_fit_ended c.args.levels from (place_view c.args.list.start) (words_of (c.args.list.count * (c.args.list.data_words + c.args.list.pointers)) (number_of 8 c.args.bytes.now)) c.args.list.data_words c.args.list.pointers c.args.list.count (state_in g.A.ReaderArena.segments g.A.BuilderArena.room g.A.BuilderArena.books c.args.arena.now) c.args.start.segment c.loop-i.i (state_in g.A.ReaderArena.segments g.A.BuilderArena.room g.A.BuilderArena.books c.loop-i.arena) c.args.limiter.now c.loop-i.limiter (omega (arith, c.loop-i-test.false)) c.loop-i.invariant.2
