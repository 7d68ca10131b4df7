use Rattle.std.proofs.Common.{◌≡◌, ◌&&◌, ◌+◌, ◌*◌, true, length}
use Rattle.capnp_model.specs.Compatible.{Pairs, keeps_fields, member_count}
use Rattle.capnp_calls_versions.specs.Holders.{held_schema, are_sound}
use Rattle.capnp_calls_versions.specs.Pairs.{has_each, pairs_of, IsFront}
use Rattle.capnp_calls_versions.specs.Walks.{IsSoundFor, older_schema, older_fields, newer_fields}
use Rattle.capnp_calls_versions.proofs.Stops.{Stands}
use Rattle.capnp_calls_versions.proofs.keeps.+keeps.Given as goal

abbrev pub decreases-keeps : goal.decreases-keeps
decreases-keeps l = 5 * l.levels.older

abbrev pub decreases-keeps_body : goal.decreases-keeps_body
decreases-keeps_body l = 5 * l.levels.older + 1

abbrev pub decreases-keeps_field : goal.decreases-keeps_field
decreases-keeps_field l = 5 * l.levels.older + 2

abbrev pub decreases-keeps_next : goal.decreases-keeps_next
decreases-keeps_next l = 5 * l.levels.older + 3

abbrev pub decreases-keeps_fields : goal.decreases-keeps_fields
decreases-keeps_fields l = 5 * l.levels.older + 4

-- what is left decides
abbrev pub invariant-keeps_fields-loop-rest : goal.invariant-keeps_fields-loop-rest
invariant-keeps_fields-loop-rest l = record {
  sound : IsSoundFor l.fn.versions l.reached;
  grows : IsFront (pairs_of l.fn.reached) (pairs_of l.reached);
  left_sound : are_sound l.left ≡ true;
  rest_sound : are_sound l.rest ≡ true;
  stands : Stands l.fn.versions l.fn.levels l.fn.node l.fn.older l.fn.newer l.left l.rest;
  tested : (pairs : Pairs)
      → (has_each pairs (pairs_of l.fn.reached) && keeps_fields (older_schema l.fn.versions) (held_schema l.fn.versions.newer) pairs (member_count (older_fields l.fn.versions l.fn.levels l.fn.node l.fn.older)) (older_fields l.fn.versions l.fn.levels l.fn.node l.fn.older) (newer_fields l.fn.versions l.fn.levels l.fn.newer))
      ≡ (has_each pairs (pairs_of l.reached) && keeps_fields (older_schema l.fn.versions) (held_schema l.fn.versions.newer) pairs (member_count (older_fields l.fn.versions l.fn.levels l.fn.node l.fn.older)) (older_fields l.fn.versions l.fn.levels l.fn.node l.left) (newer_fields l.fn.versions l.fn.levels l.rest));
}

abbrev pub decreases-keeps_fields-loop-rest : goal.decreases-keeps_fields-loop-rest
decreases-keeps_fields-loop-rest l = length l.rest
