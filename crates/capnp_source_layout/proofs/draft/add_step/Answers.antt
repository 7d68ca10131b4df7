use Rattle.std.proofs.Common.{[], ◌∷◌, ◌++◌, ◌∙◌}
use Rattle.capnp_source_layout.proofs.draft.add_step.Goals as goal

-- the next offset comes after the others
pub returns-clause-moves_none : goal.returns-clause-moves_none
returns-clause-moves_none c = record {
  offsets = (c.in_ok-narrow.narrow ∷ [], c.in_ok-push.ensures.items ∙ (λ i. (c.in_ok-offset.ensures.offsets i).items ++ c.in_ok-narrow.narrow ∷ []));
  discriminants = c.in_ok-offset.ensures.kept;
  words = c.in_ok-offset.ensures.words;
  pointers = c.in_ok-offset.ensures.pointers;
}
