use Rattle.std.proofs.Common.{⊎_elim}
use Rattle.hagzimot_outcomes.proofs.Refusals.{refused_mapped, none_of_done, none_of_refusal}
use Rattle.hagzimot_outcomes.proofs.watched.replies_of.Goals as goal

pub returns-in-Written : goal.returns-in-Written
returns-in-Written c = λ into. rw (c.in-Written.is, c.as_slice.ensures.value) (refused_mapped c.in-Written.replies.items)

pub returns-in-Several : goal.returns-in-Several
returns-in-Several c = λ into. rw (c.in-Several.is, c.as_slice-in-Several.ensures.value) (refused_mapped c.in-Several.replies.items)

pub returns-in-Done : goal.returns-in-Done
returns-in-Done c = λ into. ⊎_elim (λ d. rw d.2 (none_of_done d.1)) (λ r. rw r.1 (none_of_refusal r.0)) c.in-Done.is
