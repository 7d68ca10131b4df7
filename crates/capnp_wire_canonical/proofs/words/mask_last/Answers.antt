-- The last word is cut, or none needs to be.
use Rattle.std.proofs.Common.{◌≡◌, ℕ, ◌-◌, ◌%◌, ◌^◌, ◌<◌, ◌++◌, List, get_or, take, set, ap, sym, ◌∙◌, arith}
use Rattle.std.proofs.Math.Seq.{take-set-lt}
use Rattle.std.proofs.lemmas.List.{get_or-take}
use Rattle.capnp_wire_canonical.specs.Writes.{words_view, filled}
use Rattle.capnp_wire_canonical.proofs.Objects.{filled_length}
use Rattle.capnp_wire_canonical.proofs.Masks.{last_cut, nothing_cut, shifted}
use Rattle.capnp_wire_canonical.proofs.words.mask_last.Goals as goal

pub returns-then-spare-ne0-clause-words : goal.returns-then-spare-ne0-clause-words
returns-then-spare-ne0-clause-words c = λ front section e.
    let into = c.args.into.now in
    let end = c.args.end in
    let bits = c.args.bits in
    let xs = filled end into in
    let some = c.requires.some in
    let word = c.word_in.result in
    let positive : 0 < end = omega (arith, c.if-spare-ne0.true) in
    let is : word ≡ get_or xs (end - 1) 0 = c.word_in.ensures ∙ sym (get_or-take end (words_view into) (end - 1) 0 (omega arith)) in
    ap (take end) c.put.ensures.words
    ∙ take-set-lt end (words_view into) (end - 1) _ (omega arith)
    ∙ ap (λ (m : ℕ). set xs (end - 1) (word % m)) (shifted (bits % 64) (omega arith))
    ∙ ap (λ (w : ℕ). set xs (end - 1) (w % 2 ^ (bits % 64))) is
    ∙ last_cut front xs bits section end 0 e (filled_length end into c.requires.end) c.if-spare-ne0.true

pub returns-else-spare-ne0-clause-words : goal.returns-else-spare-ne0-clause-words
returns-else-spare-ne0-clause-words c = λ front section e. e ∙ ap (λ (ws : List ℕ). front ++ ws) (nothing_cut c.args.bits section (omega (arith, c.if-spare-ne0.false)))
