-- the fields so far
use Rattle.std.specs.List.{AllWithin}
use Rattle.capnp_source_rules.specs.Rules.{IsGoodField}
use Rattle.capnp_source_rules.proofs.rules.are_good_fields.Given as goal

abbrev pub invariant-loop-field : goal.invariant-loop-field
invariant-loop-field l = AllWithin (IsGoodField l.words l.pointers) l.fields 0 l.field-index
