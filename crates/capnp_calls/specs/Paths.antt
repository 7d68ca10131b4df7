-- What the record machine and the tree edit make of the rest of a path at the data and the children of a struct or a group.
use Rattle.std.specs.Prelude.{ℕ, Option, List, ◌∷◌}
use Rattle.capnp_model.specs.Schemas.{Shape, Body, Schema}
use Rattle.capnp_model.specs.Readings.{Reading, Record, whole_words, only_if, body_of, read_child, shape_record}
use Rattle.capnp_model.specs.Printing.{fields_in}
use Rattle.capnp_model.specs.Calls.{Step, name, Verb}
use Rattle.capnp_model.specs.Steps.{Outcome, step_field, step_path}
use Rattle.capnp_model.specs.Edits.{Cell, Edit, edit_named, edit_field}
use Rattle.capnp_values_queries.specs.Fields.{union_in}
use Rattle.capnp_calls.specs.Replies.{is_active_in_cell}

-- What the record machine makes of the rest of a path at a field.
unfoldable pub field_outcome : Schema → List Step → Verb → Option ℕ → Option ℕ → Body → Cell → Outcome Reading
field_outcome s path verb union member body c = step_field s path verb body (only_if (is_active_in_cell union member c) (body_of body whole_words c.section (read_child s c.kids)))

-- What the record machine makes of the rest of a path at a struct or a group.
unfoldable pub shape_outcome : Schema → Shape → List Step → Verb → Cell → Outcome Record
shape_outcome s g path verb c = step_path s (fields_in g) path verb (shape_record g whole_words c.section (read_child s c.kids))

-- The change of a field by its name.
abbrev pub shape_edit : Schema → Shape → List Step → Verb → Edit
shape_edit s g (name n ∷ path) verb c = edit_named (edit_field s path verb) n (union_in g) (fields_in g) c
shape_edit s g _ verb c = c
