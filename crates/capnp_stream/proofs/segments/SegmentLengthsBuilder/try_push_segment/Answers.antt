use Rattle.std.proofs.Common.{arith, ◌≡◌, ◌+◌, ◌∷◌, [], ◌++◌, sym, ap, ◌∙◌, subst, List, ℕ, sum}
use Rattle.capnp_stream.specs.Ranges.{range_lengths, ranges_from}
use Rattle.capnp_stream.proofs.lemmas.WordLemmas.{joined-push, total-push}
use Rattle.capnp_stream.proofs.segments.SegmentLengthsBuilder.try_push_segment.Goals as goal

pub invariant_of-self-2 : goal.invariant_of-self-2
invariant_of-self-2 c =
    let rs = c.args.self.now.indices.items in
    let at = c.args.self.now.total_words in
    let n = c.args.length_in_words in
    let end : c.in-Some.end ≡ at + n = grind (arith, c.in-Some.ensures) in
    let Joined : List (ℕ × ℕ) → Type 0 = λ l. l ≡ ranges_from 0 (range_lengths l) in
    let Totals : List (ℕ × ℕ) → Type 0 = λ l. c.in-Some.end ≡ sum (range_lengths l) in
    let pushed : c.push.new.self.items ≡ rs ++ (at, at + n) ∷ [] = c.in_ok-push.ensures.items ∙ ap (λ k. rs ++ (at, k) ∷ []) end in
    record {
      joined = subst Joined (sym pushed) (joined-push rs at n c.args.self.now.total c.args.self.now.joined);
      total = subst Totals (sym pushed) (end ∙ total-push rs at n c.args.self.now.total);
    }
