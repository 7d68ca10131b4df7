-- A field of a group is less deep than the group.
use Rattle.std.proofs.Common.{◌≡◌, ◌+◌, ◌*◌, Some, length, map}
use Rattle.capnp_model.specs.Edits.{mark}
use Rattle.capnp_units.specs.Segments.{words_in}
use Rattle.capnp_values_queries.specs.Fields.{union_in}
use Rattle.capnp_values_queries.specs.Structs.{shape_of_struct, fields_of_struct}
use Rattle.capnp_values_queries.specs.Handles.{body_of_place}
use Rattle.capnp_schema_structs.specs.Edits.{Edits}
use Rattle.capnp_schema_structs.proofs.Groups.{shape_depth, fields_depth, body_depth, cleared_front}
use Rattle.capnp_schema_structs.proofs.slots.+groups.Given as goal

abbrev pub decreases-clear_body : goal.decreases-clear_body
decreases-clear_body g l = 3 * body_depth (body_of_place l.place) + 1

abbrev pub decreases-clear_group : goal.decreases-clear_group
decreases-clear_group g l = 3 * shape_depth (shape_of_struct l.schema)

abbrev pub decreases-clear_member : goal.decreases-clear_member
decreases-clear_member g l = 3 * fields_depth (fields_of_struct l.field.parent) + 2

-- the first i fields are cleared
abbrev pub invariant-clear_group-loop-i : goal.invariant-clear_group-loop-i
invariant-clear_group-loop-i g l =
    let s = words_in (g.A.ReaderArena.segments l.fn.arena) in
    let u = words_in (g.A.ReaderArena.segments l.arena) in
    Edits s u l.object (λ c. cleared_front l.i (fields_of_struct l.schema) (mark (union_in (shape_of_struct l.schema)) (Some 0) c)) × (map length u ≡ map length s) × (g.A.BuilderArena.books l.arena ≡ g.A.BuilderArena.books l.fn.arena)
