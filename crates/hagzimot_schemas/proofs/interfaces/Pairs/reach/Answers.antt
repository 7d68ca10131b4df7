use Rattle.std.proofs.Common.{◌≡◌, ◌==◌, ◌&&◌, ◌||◌, ◌++◌, ◌∷◌, [], ap, sym, ◌∙◌}
use Rattle.std.specs.List.{list_any}
use Rattle.capnp_model.specs.Compatible.{Pairs, has_pair}
use Rattle.hagzimot_schemas.proofs.KnownPairs.{one_more, either}
use Rattle.hagzimot_schemas.proofs.interfaces.Pairs.reach.Goals as goal

pub returns-in_ok-push-clause-known : goal.returns-in_ok-push-clause-known
returns-in_ok-push-clause-known c =
    let i = c.args.pair.0 in
    let j = c.args.pair.1 in
    let pairs = c.args.self.now.pairs.items in
    let grown : pairs ++ (i, j) ∷ [] ≡ c.push.new.self.items = sym c.in_ok-push.ensures.items in
    record {
      same = λ a b.
          c.in_ok-insert.ensures.updates.0 (a, b)
          ∙ either (i == a && j == b) (list_any (λ p. a == p.0 && b == p.1) c.args.self.now.known.keys)
          ∙ ap (λ x. (i == a && j == b) || x) (c.requires.same a b)
          ∙ sym (one_more pairs i j a b)
          ∙ ap (λ (ps : Pairs). has_pair ps a b) grown;
    }
