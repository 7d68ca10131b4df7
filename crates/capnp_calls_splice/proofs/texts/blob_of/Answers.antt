-- The words together have all the bytes.
use Rattle.std.proofs.Common.{◌≡◌, ℕ, ◌*◌, ◌/◌, ◌^◌, ◌<◌, length, ap, sym, subst, ◌∙◌, arith, rules}
use Rattle.std.specs.Int.{from_le_bytes, w64}
use Rattle.std.proofs.lemmas.List.{length-map}
use Rattle.std.proofs.Math.Nat.{mod-lt}
use Rattle.std.proofs.lemmas.Nat.{pow_pos}
use Rattle.capnp_model.specs.Sections.{number_of, section_of, words_of, words_for}
use Rattle.capnp_model.proofs.lemmas.Numbers.{number_of_lt, wider, numbers_in-number_of}
use Rattle.capnp_wire_canonical.specs.Writes.{words_view}
use Rattle.capnp_calls_splice.proofs.ByteNumbers.{next_word, next_whole, all_bits}
use Rattle.capnp_calls_splice.proofs.texts.blob_of.Goals as goal

pub loop-i-preserved : goal.loop-i-preserved
loop-i-preserved c =
    let l = c.loop-i in
    record {
      long = search rules;
      whole = next_whole l.words.items c.word_in.result _ c.in_ok-push.ensures.items l.invariant.whole (subst (λ (k : ℕ). k < 2 ^ 64) (sym c.word_in.ensures) (mod-lt (number_of 8 c.args.bytes.now / 2 ^ (64 * l.i)) (pow_pos 64)));
      low = next_word l.words.items c.word_in.result _ (number_of 8 c.args.bytes.now) l.i c.in_ok-push.ensures.items l.invariant.long l.invariant.low c.word_in.ensures;
    }

pub invariant_of-result : goal.invariant_of-result
invariant_of-result c =
    let l = c.loop-i in
    let n : ℕ = number_of 8 c.args.bytes.now in
    let small = number_of_lt 8 c.args.bytes.now in
    let is : section_of (words_view l.words.items) ≡ n = l.invariant.low ∙ all_bits n l.i c.args.len (length c.args.bytes.now) c.requires.all.0 (omega arith) small in
    let room : length l.words.items ≡ words_for (8 * c.args.len) = omega arith in
    record {
      few = c.requires.few;
      room = room;
      spelled = ap (λ (k : ℕ). words_of k (section_of (words_view l.words.items))) (sym room ∙ sym (length-map l.words.items (from_le_bytes w64))) ∙ numbers_in-number_of 64 (words_view l.words.items) l.invariant.whole;
      fits = subst (λ (s : ℕ). s < 2 ^ (8 * c.args.len)) (sym is) (wider n (8 * length c.args.bytes.now) (8 * c.args.len) (omega arith) small);
    }

pub returns-clause-tree : goal.returns-clause-tree
returns-clause-tree c =
    let l = c.loop-i in
    let n : ℕ = number_of 8 c.args.bytes.now in
    (search rules, l.invariant.low ∙ all_bits n l.i c.args.len (length c.args.bytes.now) c.requires.all.0 (omega arith) (number_of_lt 8 c.args.bytes.now))
