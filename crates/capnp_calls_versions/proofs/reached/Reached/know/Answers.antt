use Rattle.std.proofs.Common.{◌≡◌, ◌==◌, ◌&&◌, ℕ, Bool, true, false, cond, refl, ap, sym, ◌∙◌}
use Rattle.std.specs.List.{list_any}
use Rattle.capnp_model.specs.Compatible.{same_names}
use Rattle.capnp_model.specs.Schemas.{Schema}
use Rattle.capnp_model.proofs.lemmas.Tests.{same_number, and_left, and_right}
use Rattle.capnp_calls_versions.proofs.reached.Reached.know.Goals as goal

known : (o n : Schema) (i j a b : ℕ) (old : Bool) → same_names (o.names_of i) (n.names_of j) ≡ true → (old ≡ true → same_names (o.names_of a) (n.names_of b) ≡ true) → cond (i == a && j == b) true old ≡ true → same_names (o.names_of a) (n.names_of b) ≡ true
known o n i j a b old h k e = by (i == a && j == b) refl e
  where
    by : (x : Bool) → (i == a && j == b) ≡ x → cond x true old ≡ true → same_names (o.names_of a) (n.names_of b) ≡ true
    by true p q = ap (λ z. same_names (o.names_of z) (n.names_of b)) (sym (same_number i a (and_left (i == a) (j == b) p))) ∙ ap (λ z. same_names (o.names_of i) (n.names_of z)) (sym (same_number j b (and_right (i == a) (j == b) p))) ∙ h
    by false p q = k q

pub returns-clause-sound : goal.returns-clause-sound
returns-clause-sound c = λ o n s h. record {
  seen = s.seen;
  names = λ a b e. known o n c.args.older c.args.newer a b (list_any (λ p. a == p.0 && b == p.1) c.args.self.now.related.keys) h (s.names a b) (sym (c.in_ok-insert.ensures.updates.0 (a, b)) ∙ e);
}
