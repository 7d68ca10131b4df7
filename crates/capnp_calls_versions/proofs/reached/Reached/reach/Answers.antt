use Rattle.std.proofs.Common.{◌≡◌, ◌==◌, ◌&&◌, ◌||◌, ◌++◌, ◌∷◌, [], true, ap, sym, ◌∙◌}
use Rattle.std.specs.List.{list_any}
use Rattle.capnp_model.specs.Compatible.{Pairs, has_pair}
use Rattle.capnp_model.proofs.lemmas.Tests.{not_is_false}
use Rattle.capnp_calls_versions.specs.Pairs.{pairs_of}
use Rattle.capnp_calls_versions.proofs.Known.{reached_before, one_more, either}
use Rattle.capnp_calls_versions.proofs.reached.Reached.reach.Goals as goal

pub returns-in_ok-push-clause-sound : goal.returns-in_ok-push-clause-sound
returns-in_ok-push-clause-sound c = λ o n s.
    let i = c.args.older in
    let j = c.args.newer in
    let grown : pairs_of c.args.self.now ++ (i, j) ∷ [] ≡ c.push.new.self.items = sym c.in_ok-push.ensures.items in
    record {
      seen = λ a b.
          c.in_ok-insert.ensures.updates.0 (a, b)
          ∙ either (i == a && j == b) (list_any (λ p. a == p.0 && b == p.1) c.args.self.now.seen.keys)
          ∙ ap (λ x. (i == a && j == b) || x) (s.seen a b)
          ∙ sym (one_more (pairs_of c.args.self.now) i j a b)
          ∙ ap (λ (ps : Pairs). has_pair ps a b) grown;
      names = s.names;
    }

pub returns-else-branch-clause-pairs : goal.returns-else-branch-clause-pairs
returns-else-branch-clause-pairs c = λ o n s pairs.
    let i = c.args.older in
    let j = c.args.newer in
    let there : list_any (λ p. i == p.0 && j == p.1) c.args.self.now.seen.keys ≡ true = not_is_false (list_any (λ p. i == p.0 && j == p.1) c.args.self.now.seen.keys) (sym c.if-branch.false ∙ c.in_ok-insert.ensures.added) in
    reached_before pairs (pairs_of c.args.self.now) i j (sym (s.seen i j) ∙ there)
