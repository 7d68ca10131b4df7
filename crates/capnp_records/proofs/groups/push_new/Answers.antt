use Rattle.std.proofs.Common.{◌≡◌, ◌∷◌, ◌++◌, [], ℕ, true, List, sym, ◌∙◌, subst, ◌==◌}
use Rattle.std.specs.List.{list_any}
use Rattle.std.specs.HashSet.{PutsKey}
use Rattle.std.specs.List.Sorted.{IsPermutation}
use Rattle.capnp_model.proofs.lemmas.Tests.{not_is_false}
use Rattle.capnp_records.specs.Levels.{PassSame, PassMore}
use Rattle.capnp_records.proofs.Below.{kept_same, old_passes, new_passes, new_same}
use Rattle.capnp_records.proofs.groups.push_new.Goals as goal

pub returns-then-not-branch : goal.returns-then-not-branch
returns-then-not-branch c =
    let seen = c.args.seen.now.keys in
    let ids = c.args.ids.now.items in
    let there : list_any (λ k. c.args.id == k) seen ≡ true = not_is_false (list_any (λ k. c.args.id == k) seen) (sym c.if-not-branch.true ∙ c.in_ok-insert.ensures.added) in
    let unchanged : c.insert.new.self.keys ≡ seen = subst (PutsKey c.args.seen.now c.insert.new.self c.args.id) c.if-not-branch.true c.in_ok-insert.ensures.keys in
    record {
      same = kept_same seen ids c.insert.new.self.keys c.requires unchanged;
      more = old_passes seen ids c.args.id c.requires there;
    }

pub returns : goal.returns
returns c =
    let seen = c.args.seen.now.keys in
    let ids = c.args.ids.now.items in
    let moved : IsPermutation (c.args.id ∷ seen) c.insert.new.self.keys = subst (PutsKey c.args.seen.now c.insert.new.self c.args.id) c.if-not-branch.false c.in_ok-insert.ensures.keys in
    let pushed : ids ++ c.args.id ∷ [] ≡ c.push.new.self.items = sym c.in_ok-push.ensures.items in
    record {
      same = subst (PassSame c.insert.new.self.keys) pushed (new_same seen ids c.insert.new.self.keys c.args.id c.requires moved);
      more = subst (λ (xs : List ℕ). PassMore ids xs (c.args.id ∷ [])) pushed (new_passes ids c.args.id);
    }
