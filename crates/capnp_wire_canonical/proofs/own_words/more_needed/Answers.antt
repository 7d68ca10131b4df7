-- The last word that is not 0.
use Rattle.std.proofs.Common.{◌≡◌, ℕ, ◌-◌, min, get_or, drop, ap, sym, ◌∙◌, arith}
use Rattle.std.specs.Prelude.{unwrap_or}
use Rattle.capnp_model.specs.Sections.{section_of, needed_words}
use Rattle.capnp_model.specs.Segments.{Segments, Place}
use Rattle.capnp_units.specs.Segments.{words_in}
use Rattle.capnp_wire_objects.specs.Places.{place_view}
use Rattle.capnp_wire_objects.specs.Inside.{words_there}
use Rattle.capnp_wire_canonical.specs.Widths.{kept}
use Rattle.capnp_wire_canonical.proofs.lemmas.Scanning.{zero_less, few_needed, last_word, nothing_behind_words}
use Rattle.capnp_wire_canonical.proofs.Kept.{kept_all, kept_less, kept_here, kept_within}
use Rattle.capnp_wire_canonical.proofs.Parts.{there_length, section_is, word_is}
use Rattle.capnp_wire_canonical.proofs.own_words.more_needed.Goals as goal

pub loop-n-init : goal.loop-n-init
loop-n-init g c =
    let s : Segments = words_in (g.A.ReaderArena.segments c.args.arena.now) in
    let p : Place = place_view c.args.start in
    let ws = words_there s p c.args.count in
    let long = there_length s p c.args.count c.requires.there.0 in
    record {
      few = omega arith;
      zeros = ap (λ (n : ℕ). kept (drop n ws)) (sym long) ∙ kept_all ws;
      nothing = ap (λ (n : ℕ). section_of (drop n ws)) (sym long) ∙ nothing_behind_words ws;
    }

pub loop-n-preserved : goal.loop-n-preserved
loop-n-preserved g c =
    let s : Segments = words_in (g.A.ReaderArena.segments c.args.arena.now) in
    let p : Place = place_view c.args.start in
    let ws = words_there s p c.args.count in
    let some = c.loop-n-test.true in
    let few = c.loop-n.invariant.few in
    let word = word_is s p c.args.count c.requires.there.0 (c.loop-n.n - 1) (omega arith) in
    let is : get_or ws (c.loop-n.n - 1) 0 ≡ 0 = sym (c.word_or_zero_in.ensures.word ∙ ap (λ o. unwrap_or o 0) word) ∙ c.if-word_or_zero_in-ne0.false in
    record {
      few = omega arith;
      zeros = kept_less c.loop-n.n ws (omega arith) c.loop-n.invariant.zeros is;
      nothing = zero_less c.loop-n.n ws (omega arith) c.loop-n.invariant.nothing is;
    }

pub returns-then-word_or_zero_in-ne0-clause-needed : goal.returns-then-word_or_zero_in-ne0-clause-needed
returns-then-word_or_zero_in-ne0-clause-needed g c =
    let s : Segments = words_in (g.A.ReaderArena.segments c.args.arena.now) in
    let p : Place = place_view c.args.start in
    let ws = words_there s p c.args.count in
    let some = c.loop-n-test.true in
    let few = c.loop-n.invariant.few in
    let word = word_is s p c.args.count c.requires.there.0 (c.loop-n.n - 1) (omega arith) in
    let is = c.word_or_zero_in.ensures.word ∙ ap (λ o. unwrap_or o 0) word in
    let least : c.loop-n.n ≡ min c.loop-n.n c.args.count = omega arith in
    let needed = least ∙ last_word c.loop-n.n (c.loop-n.n - 1) c.args.count ws c.word_or_zero_in.result (omega arith) c.loop-n.invariant.nothing is c.word_or_zero_in.ensures.fits c.if-word_or_zero_in-ne0.true
    ∙ ap (needed_words c.args.count) (sym (section_is s p c.args.count c.requires.there.0)) in
    omega arith

pub returns-then-word_or_zero_in-ne0-clause-kept : goal.returns-then-word_or_zero_in-ne0-clause-kept
returns-then-word_or_zero_in-ne0-clause-kept g c =
    let s : Segments = words_in (g.A.ReaderArena.segments c.args.arena.now) in
    let p : Place = place_view c.args.start in
    let ws = words_there s p c.args.count in
    let some = c.loop-n-test.true in
    let few = c.loop-n.invariant.few in
    let word = word_is s p c.args.count c.requires.there.0 (c.loop-n.n - 1) (omega arith) in
    let is = c.word_or_zero_in.ensures.word ∙ ap (λ o. unwrap_or o 0) word in
    let all = kept_here c.loop-n.n (c.loop-n.n - 1) ws c.word_or_zero_in.result (omega arith) c.loop-n.invariant.zeros is c.if-word_or_zero_in-ne0.true in
    omega arith

pub returns-clause-needed : goal.returns-clause-needed
returns-clause-needed g c =
    let s : Segments = words_in (g.A.ReaderArena.segments c.args.arena.now) in
    let p : Place = place_view c.args.start in
    let ws = words_there s p c.args.count in
    let past = c.loop-n-test.false in
    let few = few_needed c.args.count c.loop-n.n ws c.loop-n.invariant.nothing in
    let same = ap (needed_words c.args.count) (section_is s p c.args.count c.requires.there.0) in
    omega arith

pub returns-clause-kept : goal.returns-clause-kept
returns-clause-kept g c =
    let s : Segments = words_in (g.A.ReaderArena.segments c.args.arena.now) in
    let ws = words_there s (place_view c.args.start) c.args.count in
    let past = c.loop-n-test.false in
    let few = kept_within c.loop-n.n ws c.loop-n.invariant.zeros in
    omega arith
