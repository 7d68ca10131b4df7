use Rattle.std.proofs.Common.{◌≡◌, ◌+◌, ◌*◌, length}
use Rattle.capnp_model.specs.Admitted.{extends_fields}
use Rattle.capnp_calls_versions.specs.Walks.{older_fields, newer_fields}
use Rattle.capnp_calls_versions.proofs.extended.+extended.Given as goal

abbrev pub decreases-is_extended : goal.decreases-is_extended
decreases-is_extended l = 3 * l.levels.newer

abbrev pub decreases-extends_field : goal.decreases-extends_field
decreases-extends_field l = 3 * l.levels.newer + 1

abbrev pub decreases-extends_fields : goal.decreases-extends_fields
decreases-extends_fields l = 3 * l.levels.newer + 2

-- the rest decides
abbrev pub invariant-extends_fields-loop-rest : goal.invariant-extends_fields-loop-rest
invariant-extends_fields-loop-rest l = extends_fields (older_fields l.fn.versions l.fn.levels l.fn.older.id l.fn.older.fields.now) (newer_fields l.fn.versions l.fn.levels l.rest) ≡ extends_fields (older_fields l.fn.versions l.fn.levels l.fn.older.id l.fn.older.fields.now) (newer_fields l.fn.versions l.fn.levels l.fn.newer)

abbrev pub decreases-extends_fields-loop-rest : goal.decreases-extends_fields-loop-rest
decreases-extends_fields-loop-rest l = length l.rest
