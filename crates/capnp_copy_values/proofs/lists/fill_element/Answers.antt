use Rattle.std.proofs.Common.{◌≡◌, ℕ, List, ◌+◌, ◌/◌, length, map, ap, sym, ◌∙◌, subst, arith}
use Rattle.capnp_model.specs.Bytes.{words_in_bytes}
use Rattle.capnp_model.specs.Sections.{number_of, section_of}
use Rattle.capnp_model.specs.Segments.{Segments, Place}
use Rattle.capnp_model.specs.Pointers.{a_struct}
use Rattle.capnp_model.specs.Trees.{structure}
use Rattle.capnp_model_writes.specs.Changes.{ReplacesObject}
use Rattle.capnp_wire_objects.proofs.lemmas.Words.{whole_words-length}
use Rattle.capnp_model.specs.Traversal.{tree_at, each}
use Rattle.capnp_model.specs.Coverage.{Grows, from_each}
use Rattle.capnp_model.specs.Visits.{visits}
use Rattle.capnp_units.specs.Segments.{words_in}
use Rattle.capnp_wire_objects.specs.Places.{place_view}
use Rattle.capnp_model_writes.proofs.lemmas.Splices.{splice_grows}
use Rattle.capnp_copy_arenas.proofs.lemmas.RoomLaws.{still_some}
use Rattle.capnp_copy_arenas.specs.Allocations.{total_words}
use Rattle.capnp_copy_values.proofs.Listed.{all_section}
use Rattle.capnp_copy_values.proofs.Made.{words_copied, section_copied}
use Rattle.capnp_copy_values.proofs.Taking.{written_total}
use Rattle.capnp_model.specs.Sizes.{each_object_words}
use Rattle.capnp_copy_arenas.specs.States.{state_in}
use Rattle.capnp_copy_arenas.proofs.lemmas.ZeroedWords.{written_sizes}
use Rattle.capnp_copy_values.specs.Fits.{HasLongList}
use Rattle.capnp_copy_values.proofs.Fitting.{fits_after}
use Rattle.capnp_copy_values.proofs.lists.fill_element.Goals as goal

pub fill_row-requires-clause-there : goal.fill_row-requires-clause-there
fill_row-requires-clause-there g c =
    let s : Segments = words_in (g.A.ReaderArena.segments c.args.arena.now) in
    let m : Segments = words_in (g.A.ReaderArena.segments c.write_words.new.self) in
    let r : Place = place_view c.args.object.start in
    still_some s m r (c.args.object.data_words + c.args.object.pointers) (subst (λ (v : Segments). Grows s v) (sym c.write_words.ensures.words) (splice_grows s r _)) c.requires.there

pub returns-clause-copy : goal.returns-clause-copy
returns-clause-copy g c =
    let b : Segments = words_in (g.B.ReaderArena.segments c.args.source.now) in
    let s : Segments = words_in (g.A.ReaderArena.segments c.args.arena.now) in
    let m : Segments = words_in (g.A.ReaderArena.segments c.write_words.new.self) in
    let u : Segments = words_in (g.A.ReaderArena.segments c.fill_row.new.arena) in
    let r : Place = place_view c.args.object.start in
    let p : Place = place_view c.args.first in
    let n = c.args.levels in
    let bytes = c.args.section.now in
    let long = c.requires.all in
    let words : List ℕ = words_in_bytes (length c.args.section.now / 8) c.args.section.now in
    let count : length (words_in_bytes (length c.args.section.now / 8) c.args.section.now) ≡ c.args.object.data_words = whole_words-length c.args.section.now ∙ omega (arith, long) in
    let number : section_of (words_in_bytes (length c.args.section.now / 8) c.args.section.now) ≡ number_of 8 c.args.section.now = all_section c.args.object.data_words c.args.section.now long (λ i. let h = c.type_inv.section i in omega (arith, h)) in
    section_copied n b p b (each (tree_at n b) p c.args.object.pointers) (from_each (visits n b) p c.args.object.pointers) (number_of 8 c.args.section.now) s m u r c.args.object.data_words c.args.object.pointers c.args.limiter.now c.fill_row.new.limiter c.fill_row.result
    (subst (λ (v : Segments). Grows s v) (sym c.write_words.ensures.words) (splice_grows s r _)) (ap total_words c.write_words.ensures.words ∙ written_total s r _)
    (λ j own kids o. subst (λ (a : ℕ). ReplacesObject j s m (a_struct r c.args.object.data_words c.args.object.pointers) (structure c.args.object.data_words a kids)) number (words_copied j s m r c.args.object.data_words c.args.object.pointers own kids (words_in_bytes (length c.args.section.now / 8) c.args.section.now) count c.requires.there c.write_words.ensures.words o))
    c.fill_row.ensures.copy

pub returns-clause-cause : goal.returns-clause-cause
returns-clause-cause g c = c.fill_row.ensures.cause

pub returns-clause-fits : goal.returns-clause-fits
returns-clause-fits g c =
    let b : Segments = words_in (g.B.ReaderArena.segments c.args.source.now) in
    let s : Segments = words_in (g.A.ReaderArena.segments c.args.arena.now) in
    let n = c.args.levels in
    let q : Place = place_view c.args.first in
    fits_after each_object_words (each (tree_at n b) q c.args.object.pointers) (from_each (visits n b) q c.args.object.pointers) (HasLongList b) c.args.object.start.segment (state_in g.A.ReaderArena.segments g.A.BuilderArena.room g.A.BuilderArena.books c.args.arena.now) (state_in g.A.ReaderArena.segments g.A.BuilderArena.room g.A.BuilderArena.books c.write_words.new.self) (state_in g.A.ReaderArena.segments g.A.BuilderArena.room g.A.BuilderArena.books c.fill_row.new.arena) c.args.limiter.now c.fill_row.new.limiter c.fill_row.result (ap (λ (v : Segments). map length v) c.write_words.ensures.words ∙ written_sizes s (place_view c.args.object.start) _) c.write_words.ensures.room c.fill_row.ensures.fits
