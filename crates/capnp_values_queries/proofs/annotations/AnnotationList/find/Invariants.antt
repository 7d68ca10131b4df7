use Rattle.std.proofs.Common.{◌≡◌, ◌==◌, drop}
use Rattle.std.specs.Prelude.{find}
use Rattle.capnp_values_queries.proofs.annotations.AnnotationList.find.Given as goal

-- the rest decides
abbrev pub invariant-loop-i : goal.invariant-loop-i
invariant-loop-i l = find (λ a. a.id == l.fn.id) (drop l.i l.fn.self.annotations.now) ≡ find (λ a. a.id == l.fn.id) l.fn.self.annotations.now
