-- The last word tells.
use Rattle.std.proofs.Common.{◌≡◌, ℕ, ◌-◌, ◌<◌, min, get_or, drop, ap, sym, ◌∙◌, arith}
use Rattle.std.specs.Prelude.{unwrap_or}
use Rattle.capnp_model.specs.Sections.{section_of, needed_words}
use Rattle.capnp_model.specs.Segments.{Segments, Place}
use Rattle.capnp_units.specs.Segments.{words_in}
use Rattle.capnp_wire_objects.specs.Places.{place_view}
use Rattle.capnp_wire_objects.specs.Inside.{section_at, words_there}
use Rattle.capnp_wire_canonical.specs.Widths.{kept}
use Rattle.capnp_wire_canonical.proofs.lemmas.Scanning.{zero_less, few_needed, last_word, nothing_behind_words}
use Rattle.capnp_wire_canonical.proofs.Kept.{kept_all, kept_less, kept_here, kept_within}
use Rattle.capnp_wire_canonical.proofs.Parts.{no_words_there, there_length, section_is, word_is}
use Rattle.capnp_wire_canonical.proofs.own_words.needs_all.Goals as goal

pub returns-then-count-eq0-clause-all : goal.returns-then-count-eq0-clause-all
returns-then-count-eq0-clause-all g c =
    let s : Segments = words_in (g.A.ReaderArena.segments c.args.arena.now) in
    let p : Place = place_view c.args.start in
    let none : c.args.count ≡ 0 = c.if-count-eq0.true in
    record {
      needed = ap (λ (n : ℕ). needed_words n (section_at s p n)) none ∙ sym none;
      all_kept = ap (λ (n : ℕ). kept (words_there s p n)) none ∙ ap kept (no_words_there s p) ∙ sym none;
    }

pub returns-then-word_or_zero-eq0-clause-words : goal.returns-then-word_or_zero-eq0-clause-words
returns-then-word_or_zero-eq0-clause-words g c = λ all.
    let s : Segments = words_in (g.A.ReaderArena.segments c.args.arena.now) in
    let p : Place = place_view c.args.start in
    let n = c.args.count in
    let ws = words_there s p n in
    let some : 0 < n = omega (arith, c.if-count-eq0.false) in
    let long = there_length s p n c.requires.0 in
    let is : get_or ws (n - 1) 0 ≡ 0 = sym (c.word_or_zero.ensures.word ∙ ap (λ o. unwrap_or o 0) (word_is s p n c.requires.0 (n - 1) (omega arith))) ∙ c.if-word_or_zero-eq0.true in
    let nothing = ap (λ (j : ℕ). section_of (drop j ws)) (sym long) ∙ nothing_behind_words ws in
    let few = few_needed n (n - 1) ws (zero_less n ws some nothing is) in
    let same = ap (needed_words n) (section_is s p n c.requires.0) in
    omega arith

pub returns-then-word_or_zero-eq0-clause-pointers : goal.returns-then-word_or_zero-eq0-clause-pointers
returns-then-word_or_zero-eq0-clause-pointers g c = λ all.
    let s : Segments = words_in (g.A.ReaderArena.segments c.args.arena.now) in
    let p : Place = place_view c.args.start in
    let n = c.args.count in
    let ws = words_there s p n in
    let some : 0 < n = omega (arith, c.if-count-eq0.false) in
    let long = there_length s p n c.requires.0 in
    let is : get_or ws (n - 1) 0 ≡ 0 = sym (c.word_or_zero.ensures.word ∙ ap (λ o. unwrap_or o 0) (word_is s p n c.requires.0 (n - 1) (omega arith))) ∙ c.if-word_or_zero-eq0.true in
    let zeros = ap (λ (j : ℕ). kept (drop j ws)) (sym long) ∙ kept_all ws in
    let few = kept_within (n - 1) ws (kept_less n ws some zeros is) in
    omega arith

pub returns-clause-all : goal.returns-clause-all
returns-clause-all g c =
    let s : Segments = words_in (g.A.ReaderArena.segments c.args.arena.now) in
    let p : Place = place_view c.args.start in
    let n = c.args.count in
    let ws = words_there s p n in
    let some : 0 < n = omega (arith, c.if-count-eq0.false) in
    let long = there_length s p n c.requires.0 in
    let is = c.word_or_zero.ensures.word ∙ ap (λ o. unwrap_or o 0) (word_is s p n c.requires.0 (n - 1) (omega arith)) in
    let zeros = ap (λ (j : ℕ). kept (drop j ws)) (sym long) ∙ kept_all ws in
    let nothing = ap (λ (j : ℕ). section_of (drop j ws)) (sym long) ∙ nothing_behind_words ws in
    let least : n ≡ min n n = omega arith in
    record {
      needed = sym (least ∙ last_word n (n - 1) n ws c.word_or_zero.result (omega arith) nothing is c.word_or_zero.ensures.fits c.if-word_or_zero-eq0.false ∙ ap (needed_words n) (sym (section_is s p n c.requires.0)));
      all_kept = sym (kept_here n (n - 1) ws c.word_or_zero.result (omega arith) zeros is c.if-word_or_zero-eq0.false);
    }
