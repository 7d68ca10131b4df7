use Rattle.std.proofs.Common.{◌≡◌, ◌<◌, ◌≤◌, ◌&&◌, ◌||◌, ◌==◌, ℕ, nat_lt, Bool, List, length, take, drop, get_or, true, false, sym, ◌∙◌, ap, arith}
use Rattle.std.specs.List.{list_all, list_any}
use Rattle.std.proofs.lemmas.List.{drop_all}
use Rattle.std.proofs.lemmas.Bool.Decides.{nat_tests}
use Rattle.capnp_model.specs.Accepted.{are_once}
use Rattle.capnp_records.proofs.lemmas.ListTests.{default_any}
use Rattle.capnp_records.proofs.Forward.{forward}
use Rattle.capnp_records.proofs.Members.{same_member, from_the_front, next_member, member_twice, member_past, seen_more, marked_member}
use Rattle.capnp_records.proofs.unions.are_once_below.Goals as goal

not_above : (n k : ℕ) → n ≤ k → nat_lt k n ≡ false
not_above n k h = grind (arith, nat_tests)

is_above : (n k : ℕ) → k < n → nat_lt k n ≡ true
is_above n k h = grind (arith, nat_tests)

pub loop-member-init : goal.loop-member-init
loop-member-init c = record {
  decides = ap (λ b. list_all (λ m. nat_lt m c.args.count) c.args.members.now && b) (from_the_front c.args.members.now);
  seen = λ k. ap (λ (xs : List ℕ). nat_lt 0 (get_or xs k 0)) c.new-seen.ensures.items;
}

pub loop-member-preserved : goal.loop-member-preserved
loop-member-preserved c =
    let ms = c.args.members.now in
    let i = c.loop-member.member-index in
    let m = get_or ms i 0 in
    let lt = c.loop-member-test.true in
    let is : m ≡ get_or ms i m = default_any ms i 0 m lt in
    let low : c.mark_at.result ≤ 0 = c.if-mark_at-gt0.false in
    let fresh : list_any (λ d. same_member d m) (take i ms) ≡ false =
    sym (c.loop-member.invariant.seen m) ∙ ap (λ (xs : List ℕ). nat_lt 0 (get_or xs m 0)) (sym c.deref.ensures.value) ∙ ap (nat_lt 0) (sym c.mark_at.ensures) ∙ not_above c.mark_at.result 0 low in
    record {
      decides = next_member ms c.args.count i m (list_all (λ k. nat_lt k c.args.count) ms && are_once ms) lt is c.if-member-count.false fresh c.loop-member.invariant.decides;
      seen = λ k. marked_member c.loop-member.seen.items c.raise.new.marks.items m k c.in_ok-raise.ensures ∙ ap (λ b. b || (k == m)) (c.loop-member.invariant.seen k) ∙ sym (seen_more ms i m k lt is);
    }

pub returns-then-mark_at-gt0 : goal.returns-then-mark_at-gt0
returns-then-mark_at-gt0 c =
    let ms = c.args.members.now in
    let i = c.loop-member.member-index in
    let m = get_or ms i 0 in
    let lt = c.loop-member-test.true in
    let is : m ≡ get_or ms i m = default_any ms i 0 m lt in
    let twice : list_any (λ d. same_member d m) (take i ms) ≡ true =
    sym (c.loop-member.invariant.seen m) ∙ ap (λ (xs : List ℕ). nat_lt 0 (get_or xs m 0)) (sym c.deref.ensures.value) ∙ ap (nat_lt 0) (sym c.mark_at.ensures) ∙ is_above c.mark_at.result 0 c.if-mark_at-gt0.true in
    member_twice ms c.args.count i m (list_all (λ k. nat_lt k c.args.count) ms && are_once ms) lt is twice c.loop-member.invariant.decides

pub returns-then-member-count : goal.returns-then-member-count
returns-then-member-count c =
    let ms = c.args.members.now in
    let i = c.loop-member.member-index in
    let m = get_or ms i 0 in
    let lt = c.loop-member-test.true in
    let is : m ≡ get_or ms i m = default_any ms i 0 m lt in
    member_past ms c.args.count i m (list_all (λ k. nat_lt k c.args.count) ms && are_once ms) lt is c.if-member-count.true c.loop-member.invariant.decides

-- where none is left, all are so
finished : (ms : List ℕ) (count i : ℕ) (all : Bool) → length ms ≤ i → (list_all (λ m. nat_lt m count) (drop i ms) && forward same_member (take i ms) (drop i ms)) ≡ all → true ≡ all
finished ms count i all done is = sym (ap (λ xs. list_all (λ m. nat_lt m count) xs && forward same_member (take i ms) xs) (drop_all i ms done)) ∙ is

pub returns : goal.returns
returns c =
    let ms = c.args.members.now in
    finished ms c.args.count c.loop-member.member-index (list_all (λ m. nat_lt m c.args.count) ms && are_once ms) c.loop-member-test.false c.loop-member.invariant.decides
