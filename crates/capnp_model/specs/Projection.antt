-- The older view of a record: fields that the older lacks are dropped at every depth; a union whose active member is
-- dropped is unknown.
use Rattle.std.specs.Prelude.{ℕ, true, false}
use Rattle.capnp_model.specs.Trees.{null}
use Rattle.capnp_model.specs.Partners.{is_partner}
use Rattle.capnp_model.specs.Schemas.{Fields, no_fields, field, Schema}
use Rattle.capnp_model.specs.Readings.{Reading, inactive, null_pointer, fault, number, text_of, blob_of, list_of, record_as, opaque, Readings, no_readings, ◌▹◌, Record, no_more, entry}
use Rattle.capnp_model.specs.Printing.{As, as_type, as_body, fields_in, shape_as, element_type, type_of_as}

unfoldable mutual
  -- The older view of a reading.
  pub project : Schema → As → Reading → Reading
  project o how (record_as r) = record_as (project_fields o (shape_as o how) r)
  project o how (list_of rs) = list_of (project_items o (as_type (element_type (type_of_as how)) null) rs)
  project o how inactive = inactive
  project o how null_pointer = null_pointer
  project o how (fault k) = fault k
  project o how (number n) = number n
  project o how (text_of bs) = text_of bs
  project o how (blob_of bs) = blob_of bs
  project o how (opaque t) = opaque t

  -- The older view of items.
  pub project_items : Schema → As → Readings → Readings
  project_items o how no_readings = no_readings
  project_items o how (r ▹ rs) = project o how r ▹ project_items o how rs

  -- The older view of fields; those of both versions stand in the same order.
  pub project_fields : Schema → Fields → Record → Record
  project_fields o no_fields r = no_more
  project_fields o (field l m b fs) no_more = no_more
  project_fields o (field l m b fs) (entry n r rest) =
      elim (is_partner l n) [ true ↦ entry l (project o (as_body b) r) (project_fields o fs rest) | false ↦ project_fields o (field l m b fs) rest ]

-- The older view of a record.
unfoldable pub projected : Schema → ℕ → Record → Record
projected o older r = project_fields o (fields_in (o.shape_of older)) r
