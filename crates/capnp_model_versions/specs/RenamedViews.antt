-- The older view of a newer record with renamed fields. At every depth each older field is its
-- partner by its older name, and fields that are no partners are dropped. A union whose active
-- member is dropped is unknown.
use Rattle.std.specs.Prelude.{ℕ, true, false, List}
use Rattle.capnp_model.specs.Trees.{null}
use Rattle.capnp_model.specs.Partners.{Renaming, partner_name, is_partner}
use Rattle.capnp_model.specs.Schemas.{struct, id_of_shape, Fields, no_fields, field, Schema}
use Rattle.capnp_model.specs.Readings.{Reading, inactive, null_pointer, fault, number, text_of, blob_of, list_of, record_as, opaque, Readings, no_readings, ◌▹◌, Record, no_more, entry}
use Rattle.capnp_model.specs.Printing.{As, as_type, as_group, as_body, fields_in, shape_as, element_type, type_of_as}
use Rattle.capnp_model_versions.specs.TwoVersions.{TwoVersions, older}

-- The node whose fields a record has, 0 for what is no record.
abbrev pub node_as : Schema → As → ℕ
node_as o (as_group g) = id_of_shape g
node_as o (as_type (struct id) d) = id_of_shape (o.shape_of id)
node_as o (as_type _ d) = 0

unfoldable mutual
  -- The older view of a reading.
  pub project_with : List Renaming → Schema → As → Reading → Reading
  project_with rs o how (record_as r) = record_as (project_fields_with rs o (node_as o how) (shape_as o how) r)
  project_with rs o how (list_of xs) = list_of (project_items_with rs o (as_type (element_type (type_of_as how)) null) xs)
  project_with rs o how inactive = inactive
  project_with rs o how null_pointer = null_pointer
  project_with rs o how (fault k) = fault k
  project_with rs o how (number n) = number n
  project_with rs o how (text_of bs) = text_of bs
  project_with rs o how (blob_of bs) = blob_of bs
  project_with rs o how (opaque t) = opaque t

  -- The older view of items.
  pub project_items_with : List Renaming → Schema → As → Readings → Readings
  project_items_with rs o how no_readings = no_readings
  project_items_with rs o how (x ▹ xs) = project_with rs o how x ▹ project_items_with rs o how xs

  -- The older view of a node's fields; partners stand in the same order.
  pub project_fields_with : List Renaming → Schema → ℕ → Fields → Record → Record
  project_fields_with rs o id no_fields r = no_more
  project_fields_with rs o id (field l m b fs) no_more = no_more
  project_fields_with rs o id (field l m b fs) (entry n x rest) =
      elim (is_partner (partner_name rs id l) n) [
        | true ↦ entry l (project_with rs o (as_body b) x) (project_fields_with rs o id fs rest)
        | false ↦ project_fields_with rs o id (field l m b fs) rest
      ]

-- The older view of a record.
unfoldable pub projected_with : List Renaming → Schema → ℕ → Record → Record
projected_with rs o older r = project_fields_with rs o (id_of_shape (o.shape_of older)) (fields_in (o.shape_of older)) r

-- What the older version sees of a newer record.
abbrev pub older_view_with : List Renaming → TwoVersions → Record → Record
older_view_with rs v r = projected_with rs (older v) v.older_root r
