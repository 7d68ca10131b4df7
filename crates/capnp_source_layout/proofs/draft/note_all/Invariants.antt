-- what there was stays
use Rattle.capnp_source_layout.specs.Drafts.{Keeps}
use Rattle.capnp_source_layout.proofs.draft.note_all.Given as goal

abbrev pub invariant-loop-one : goal.invariant-loop-one
invariant-loop-one l = Keeps l.fn.discriminants l.discriminants
