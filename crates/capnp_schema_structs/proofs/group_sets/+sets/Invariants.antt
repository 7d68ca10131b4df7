-- A field of a group is less deep than the group.
use Rattle.std.proofs.Common.{◌≡◌, ◌+◌, ◌*◌}
use Rattle.capnp_model.specs.Coverage.{Grows}
use Rattle.capnp_model.specs.Edits.{after_writes}
use Rattle.capnp_units.specs.Segments.{words_in}
use Rattle.capnp_wire.specs.Views.{seen_struct}
use Rattle.capnp_values_queries.specs.Structs.{shape_of_struct, fields_of_struct}
use Rattle.capnp_schema_structs.proofs.Groups.{shape_depth, fields_depth}
use Rattle.capnp_schema_structs.specs.GroupWrites.{GroupSource}
use Rattle.capnp_schema_structs.specs.GroupSets.{IsSource, EditsAny}
use Rattle.capnp_schema_structs.proofs.CopiedFields.{front}
use Rattle.capnp_schema_structs.proofs.group_sets.+sets.Given as goal

abbrev pub decreases-copy_field : goal.decreases-copy_field
decreases-copy_field g l = 4 * fields_depth (fields_of_struct l.field.parent) + 1

abbrev pub decreases-copy_turn : goal.decreases-copy_turn
decreases-copy_turn g l = 4 * fields_depth (fields_of_struct l.field.parent) + 2

abbrev pub decreases-copy_fields : goal.decreases-copy_fields
decreases-copy_fields g l = 4 * fields_depth (fields_of_struct l.schema) + 3

abbrev pub decreases-copy_group : goal.decreases-copy_group
decreases-copy_group g l = 4 * shape_depth (shape_of_struct l.schema)

-- the first i fields are set
abbrev pub invariant-copy_fields-loop-i : goal.invariant-copy_fields-loop-i
invariant-copy_fields-loop-i g l =
    let s = words_in (g.A.ReaderArena.segments l.fn.arena) in
    let u = words_in (g.A.ReaderArena.segments l.arena) in
    ((from : GroupSource) → IsSource (seen_struct g.B.ReaderArena.segments l.source) from → EditsAny s u l.object (after_writes (front l.schema l.members from l.i))) × Grows s u × (g.A.BuilderArena.books l.arena ≡ g.A.BuilderArena.books l.fn.arena)
