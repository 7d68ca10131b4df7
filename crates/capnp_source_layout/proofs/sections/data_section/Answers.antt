use Rattle.std.proofs.Common.{◌≤◌, subst, arith}
use Rattle.std.specs.Prelude.{Any}
use Rattle.capnp_source_layout.proofs.Layouts.{is_large_in}
use Rattle.capnp_source_layout.proofs.sections.data_section.Goals as goal

-- the offset that is too large would stand behind the others
pub returns-in_default-place-clause-err : goal.returns-in_default-place-clause-err
returns-in_default-place-clause-err c = subst (Any (λ o. 9223372036854775808 ≤ o)) c.loop-left.invariant.offsets (is_large_in c.loop-left.offsets.items _ _ c.loop-left.left.now _ _ (omega arith) c.size_of.ensures c.in_default-place.ensures.large)
