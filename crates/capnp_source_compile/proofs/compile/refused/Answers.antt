-- the order changes nothing else
use Rattle.std.proofs.Common.{◌≤◌, ◌<◌, ℕ, sym, subst}
use Rattle.std.proofs.lemmas.List.Sorted.{All-permutation, length_permutation}
use Rattle.capnp_source_compile.proofs.compile.refused.Goals as goal

pub returns : goal.returns
returns c =
    let placed = c.in_ok-list.list.items in
    let sorted = c.put_in_order.new.problems.items in
    let same = c.put_in_order.ensures.same in
    let count = sym (length_permutation placed sorted same) in
    record {
      some = subst (λ (n : ℕ). 0 < n) count c.in_ok-list.ensures.some;
      few = subst (λ (n : ℕ). n ≤ 100) count c.in_ok-list.ensures.few;
      inside = λ is. All-permutation (λ p. p.file < c.args.count) placed sorted same (c.in_ok-list.ensures.inside is);
      spans = All-permutation (λ p. p.start ≤ p.end) placed sorted same c.in_ok-list.ensures.spans;
      order = c.in_ok-put_in_order.ensures.order;
    }
