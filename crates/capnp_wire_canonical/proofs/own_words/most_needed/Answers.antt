-- The most of one more part.
use Rattle.std.proofs.Common.{◌≡◌, ℕ, ◌*◌, ◌≤◌, true, ap, sym, ◌∙◌, arith}
use Rattle.capnp_model.specs.Sections.{needed_words}
use Rattle.std.specs.Option.{is_some}
use Rattle.capnp_model.proofs.lemmas.Numbers.{needed_words_le}
use Rattle.capnp_model.specs.Segments.{Segments, Place, after, words_at}
use Rattle.capnp_units.specs.Segments.{words_in}
use Rattle.capnp_wire_objects.specs.Places.{place_view}
use Rattle.capnp_wire_objects.specs.Inside.{section_at, words_there}
use Rattle.capnp_wire_canonical.specs.Widths.{kept}
use Rattle.capnp_wire_canonical.proofs.Kept.{kept_few, widest_none, widest_next, widest_stops}
use Rattle.capnp_wire_canonical.proofs.Parts.{no_words_there, there_length}
use Rattle.capnp_wire_canonical.proofs.own_words.most_needed.Goals as goal

pub returns-then-words-eq0-clause-needed : goal.returns-then-words-eq0-clause-needed
returns-then-words-eq0-clause-needed g c =
    let s : Segments = words_in (g.A.ReaderArena.segments c.args.arena.now) in
    sym (widest_none (λ q. needed_words c.args.words (section_at s q c.args.words)) (place_view c.args.start) c.args.width c.args.count (λ q. ap (λ (n : ℕ). needed_words n (section_at s q n)) c.if-words-eq0.true))

pub returns-then-words-eq0-clause-kept : goal.returns-then-words-eq0-clause-kept
returns-then-words-eq0-clause-kept g c =
    let s : Segments = words_in (g.A.ReaderArena.segments c.args.arena.now) in
    sym (widest_none (λ q. kept (words_there s q c.args.words)) (place_view c.args.start) c.args.width c.args.count (λ q. ap (λ (n : ℕ). kept (words_there s q n)) c.if-words-eq0.true ∙ ap kept (no_words_there s q)))

pub loop-i-preserved : goal.loop-i-preserved
loop-i-preserved g c =
    let s : Segments = words_in (g.A.ReaderArena.segments c.args.arena.now) in
    let p : Place = place_view c.args.start in
    let w = c.args.words in
    record {
      needed = widest_next (λ q. needed_words w (section_at s q w)) p c.args.width c.loop-i.i c.loop-i.most c.more_needed-most.result c.loop-i.invariant.needed c.more_needed-most.ensures.needed;
      kept = widest_next (λ q. kept (words_there s q w)) p c.args.width c.loop-i.i c.loop-i.most c.more_needed-most.result c.loop-i.invariant.kept c.more_needed-most.ensures.kept;
      few = c.more_needed-most.ensures.few;
    }

-- what is there has no more words
kept_there : (s : Segments) (q : Place) (n : ℕ) → is_some (words_at s q n) ≡ true → kept (words_there s q n) ≤ n
kept_there s q n h = let long = there_length s q n h in let few = kept_few (words_there s q n) in omega arith

pub returns-then-most-words : goal.returns-then-most-words
returns-then-most-words g c =
    let s : Segments = words_in (g.A.ReaderArena.segments c.args.arena.now) in
    let p : Place = place_view c.args.start in
    let w = c.args.words in
    let width = c.args.width in
    record {
      needed = widest_stops (λ q. needed_words w (section_at s q w)) p width c.loop-i.i c.args.count w c.loop-i.most c.more_needed-most.result (λ j h. needed_words_le w (section_at s (after p (j * width)) w)) c.loop-i-test.true c.loop-i.invariant.needed c.more_needed-most.ensures.needed c.if-most-words.true;
      kept = widest_stops (λ q. kept (words_there s q w)) p width c.loop-i.i c.args.count w c.loop-i.most c.more_needed-most.result (λ j h. kept_there s (after p (j * width)) w (c.requires.there j h).0) c.loop-i-test.true c.loop-i.invariant.kept c.more_needed-most.ensures.kept c.if-most-words.true;
      few = c.more_needed-most.ensures.few;
    }
