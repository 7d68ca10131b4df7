-- The last word tells.
use Rattle.std.proofs.Common.{◌≡◌, ℕ, ◌+◌, ◌-◌, ◌*◌, ◌%◌, ◌^◌, ◌<◌, true, eqb, List, get_or, Option, ap, sym, ◌∙◌, subst, arith}
use Rattle.std.specs.Prelude.{unwrap_or}
use Rattle.std.specs.Option.{is_some}
use Rattle.std.proofs.lemmas.Bool.{OnTrue_from, OnFalse_from, eqb-true, eqb-false}
use Rattle.capnp_model.specs.Sections.{words_for, words_of}
use Rattle.capnp_model.specs.Segments.{Segments, Place, place, word_at, words_at}
use Rattle.capnp_units.specs.Segments.{words_in}
use Rattle.capnp_wire_objects.specs.Places.{place_view}
use Rattle.capnp_wire_objects.specs.Inside.{section_at, words_there}
use Rattle.capnp_wire_objects.specs.Objects.{AreThere}
use Rattle.capnp_wire_canonical.specs.Standing.{EndsClear}
use Rattle.capnp_wire_canonical.proofs.Holding.{own_words_are}
use Rattle.capnp_wire_canonical.proofs.Masks.{nothing_cut, shifted}
use Rattle.capnp_wire_canonical.proofs.Parts.{word_is}
use Rattle.capnp_wire_canonical.proofs.StandingLists.{last_whole, last_cut_off}
use Rattle.capnp_wire_canonical.proofs.list_ends.ends_clear.Goals as goal

pub returns-then-spare-eq0-clause-clear : goal.returns-then-spare-eq0-clause-clear
returns-then-spare-eq0-clause-clear g c =
    let s : Segments = words_in (g.A.ReaderArena.segments c.args.arena.now) in
    let q : Place = place_view c.args.list.start in
    let bits = c.args.list.bits in
    sym (nothing_cut bits (section_at s q (words_for bits)) c.if-spare-eq0.true)

-- the last word
last_is : (s : Segments) (q : Place) (bits r i : ℕ) → is_some (words_at s q (words_for bits)) ≡ true → words_of (words_for bits) (section_at s q (words_for bits)) ≡ words_there s q (words_for bits) → (bits % 64 ≡ 0 → ⊥) → r ≡ unwrap_or (word_at s (place q.segment i)) 0 → i ≡ q.position + words_for bits - 1
    → r ≡ get_or (words_of (words_for bits) (section_at s q (words_for bits))) (words_for bits - 1) 0
last_is s q bits r i there own some is at =
    let all = words_for bits in
    let here : i ≡ q.position + (all - 1) = omega (arith, some) in
    let less : all - 1 < all = omega (arith, some) in
    is ∙ ap (λ (j : ℕ). unwrap_or (word_at s (place q.segment j)) 0) here ∙ ap (λ (w : Option ℕ). unwrap_or w 0) (word_is s q all there (all - 1) less) ∙ ap (λ (ws : List ℕ). get_or ws (all - 1) 0) (sym own)

pub returns-clause-clear : goal.returns-clause-clear
returns-clause-clear g c =
    let s : Segments = words_in (g.A.ReaderArena.segments c.args.arena.now) in
    let q : Place = place_view c.args.list.start in
    let bits = c.args.list.bits in
    let all = words_for bits in
    let words : c.args.list.words ≡ all = c.requires.measured.1 in
    let inside = subst (AreThere s q) words c.requires.inside in
    let own = own_words_are s q all inside.0 c.requires.whole in
    let some = c.if-spare-eq0.false in
    let r = c.word_or_zero_in-word.result in
    let last = last_is s q bits r (q.position + c.args.list.words - 1) inside.0 own some c.word_or_zero_in-word.ensures.word (omega arith) in
    let shift : 1 * 2 ^ (bits % 64) % 2 ^ 64 ≡ 2 ^ (bits % 64) = shifted (bits % 64) (omega arith) in
    OnTrue_from _ _ (λ e.
    let same : r % (1 * 2 ^ (bits % 64) % 2 ^ 64) ≡ r = eqb-true _ _ e in
    last_whole bits (section_at s q all) some (ap (λ (v : ℕ). v % 2 ^ (bits % 64)) (sym last) ∙ ap (λ (m : ℕ). r % m) (sym shift) ∙ same ∙ last))

pub returns-clause-spare : goal.returns-clause-spare
returns-clause-spare g c =
    let s : Segments = words_in (g.A.ReaderArena.segments c.args.arena.now) in
    let q : Place = place_view c.args.list.start in
    let bits = c.args.list.bits in
    let all = words_for bits in
    let words : c.args.list.words ≡ all = c.requires.measured.1 in
    let inside = subst (AreThere s q) words c.requires.inside in
    let own = own_words_are s q all inside.0 c.requires.whole in
    let some = c.if-spare-eq0.false in
    let r = c.word_or_zero_in-word.result in
    let last = last_is s q bits r (q.position + c.args.list.words - 1) inside.0 own some c.word_or_zero_in-word.ensures.word (omega arith) in
    let shift : 1 * 2 ^ (bits % 64) % 2 ^ 64 ≡ 2 ^ (bits % 64) = shifted (bits % 64) (omega arith) in
    OnFalse_from (eqb (r % (1 * 2 ^ (bits % 64) % 2 ^ 64)) r) (EndsClear s q bits → ⊥) (λ e clear.
    eqb-false _ _ e (ap (λ (m : ℕ). r % m) shift ∙ ap (λ (v : ℕ). v % 2 ^ (bits % 64)) last ∙ last_cut_off bits (section_at s q all) some clear ∙ sym last))
