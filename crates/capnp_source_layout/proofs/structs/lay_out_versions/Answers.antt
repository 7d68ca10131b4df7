-- the draft of the newer version moves nothing of the older
use Rattle.capnp_source_layout.proofs.Kept.{keeps_slots}
use Rattle.capnp_source_layout.proofs.structs.lay_out_versions.Goals as goal

pub returns-clause-kept : goal.returns-clause-kept
returns-clause-kept c = keeps_slots c.add_steps.new.draft c.add_steps-2.new.draft c.in_ok-older.older c.in_ok-newer.newer c.in_ok-add_steps-2.ensures.moves_none c.in_ok-older.ensures.draft c.in_ok-newer.ensures.draft
