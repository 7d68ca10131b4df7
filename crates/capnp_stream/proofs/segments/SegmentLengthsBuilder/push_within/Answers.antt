use Rattle.std.proofs.Common.{◌≡◌, ◌+◌, ◌∷◌, [], ◌++◌, sym, subst, List, ℕ, sum}
use Rattle.capnp_stream.specs.Ranges.{range_lengths, ranges_from}
use Rattle.capnp_stream.proofs.lemmas.WordLemmas.{joined-push, total-push}
use Rattle.capnp_stream.proofs.segments.SegmentLengthsBuilder.push_within.Goals as goal

pub invariant_of-self : goal.invariant_of-self
invariant_of-self c =
    let rs = c.args.self.now.indices.items in
    let at = c.args.self.now.total_words in
    let n = c.args.length_in_words in
    let Joined : List (ℕ × ℕ) → Type 0 = λ l. l ≡ ranges_from 0 (range_lengths l) in
    let Totals : List (ℕ × ℕ) → Type 0 = λ l. at + n ≡ sum (range_lengths l) in
    let pushed : c.push.new.self.items ≡ rs ++ (at, at + n) ∷ [] = c.in-Ok.ensures.items in
    record {
      joined = subst Joined (sym pushed) (joined-push rs at n c.args.self.now.total c.args.self.now.joined);
      total = subst Totals (sym pushed) (total-push rs at n c.args.self.now.total);
    }
