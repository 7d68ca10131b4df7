use Rattle.std.proofs.Common.{◌≡◌, ◌+◌, ◌&&◌, ◌||◌, ◌++◌, ◌∷◌, [], ℕ, true, false, not, List, Bor, map, take, drop, get_or, sym, ◌∙◌, ap, subst}
use Rattle.std.specs.List.{list_any}
use Rattle.std.specs.Str.{bytes_eq}
use Rattle.std.specs.HashSet.{PutsKey}
use Rattle.std.specs.List.Sorted.{IsPermutation}
use Rattle.std.proofs.lemmas.List.{map_more}
use Rattle.std.proofs.lemmas.List.Sorted.{list_any-IsPermutation}
use Rattle.capnp_model.proofs.lemmas.Tests.{not_is_false, not_is_true}
use Rattle.capnp_records.proofs.lemmas.ListTests.{default_any}
use Rattle.capnp_records.proofs.Forward.{forward, forward_step}
use Rattle.capnp_records.proofs.DistinctNames.{from_the_front, turned, one_more}
use Rattle.capnp_records.proofs.names.are_distinct.Goals as goal

text : Bor (List ℕ) → List ℕ
text s = s.now

pub loop-name-init : goal.loop-name-init
loop-name-init c = record {
  decides = from_the_front (map (λ s. s.now) c.args.names.now);
  seen = λ q. ap (list_any (λ k. bytes_eq q k.now)) c.in_ok-seen.ensures.empty;
}

pub loop-name-preserved : goal.loop-name-preserved
loop-name-preserved c =
    let names = c.args.names.now in
    let i = c.loop-name.name-index in
    let none : Bor (List ℕ) = record { ref_ptr = (0, 0); now = [] } in
    let y = get_or names i none in
    let lt = c.loop-name-test.true in
    let is : y ≡ get_or names i y = default_any names i none y lt in
    let done : List (List ℕ) = map (λ s. s.now) (take i names) in
    let fresh : list_any (λ k. bytes_eq y.now k.now) c.loop-name.seen.keys ≡ false = not_is_true (list_any (λ k. bytes_eq y.now k.now) c.loop-name.seen.keys) (sym c.if-not-branch.false ∙ c.in_ok-insert.ensures.added) in
    let apart : list_any (λ d. bytes_eq d y.now) done ≡ false = turned y.now done ∙ sym (c.loop-name.invariant.seen y.now) ∙ fresh in
    let moved : IsPermutation (y ∷ c.loop-name.seen.keys) c.insert.new.self.keys = subst (PutsKey c.loop-name.seen c.insert.new.self y) c.if-not-branch.false c.in_ok-insert.ensures.keys in
    let grown : done ++ y.now ∷ [] ≡ map (λ s. s.now) (take (i + 1) names) = ap (λ z. done ++ z.now ∷ []) is ∙ sym (map_more (λ s. s.now) names i y lt) in
    record {
      decides =
          sym (forward_step bytes_eq (λ s. s.now) names i y lt is
          ∙ ap (λ b. not b && forward bytes_eq (map (λ s. s.now) (take (i + 1) names)) (map (λ s. s.now) (drop (i + 1) names))) apart)
          ∙ c.loop-name.invariant.decides;
      seen = λ q.
          sym (list_any-IsPermutation (λ k. bytes_eq q k.now) (y ∷ c.loop-name.seen.keys) c.insert.new.self.keys moved)
          ∙ ap (λ b. bytes_eq q y.now || b) (c.loop-name.invariant.seen q)
          ∙ sym (one_more q y.now done)
          ∙ ap (list_any (bytes_eq q)) grown;
    }

pub returns-then-not-branch : goal.returns-then-not-branch
returns-then-not-branch c =
    let names = c.args.names.now in
    let i = c.loop-name.name-index in
    let none : Bor (List ℕ) = record { ref_ptr = (0, 0); now = [] } in
    let y = get_or names i none in
    let lt = c.loop-name-test.true in
    let is : y ≡ get_or names i y = default_any names i none y lt in
    let done : List (List ℕ) = map (λ s. s.now) (take i names) in
    let there : list_any (λ k. bytes_eq y.now k.now) c.loop-name.seen.keys ≡ true = not_is_false (list_any (λ k. bytes_eq y.now k.now) c.loop-name.seen.keys) (sym c.if-not-branch.true ∙ c.in_ok-insert.ensures.added) in
    let clashes : list_any (λ d. bytes_eq d y.now) done ≡ true = turned y.now done ∙ sym (c.loop-name.invariant.seen y.now) ∙ there in
    sym (forward_step bytes_eq (λ s. s.now) names i y lt is
    ∙ ap (λ b. not b && forward bytes_eq (map (λ s. s.now) (take (i + 1) names)) (map (λ s. s.now) (drop (i + 1) names))) clashes)
    ∙ c.loop-name.invariant.decides
