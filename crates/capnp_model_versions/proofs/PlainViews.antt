-- Where no field is renamed the older view is the one without renamings.
use Rattle.std.proofs.Common.{◌≡◌, ℕ, Bool, true, false, List, [], refl, ◌∙◌, ap}
use Rattle.std.specs.Str.{bytes_eq}
use Rattle.capnp_model.specs.Trees.{null}
use Rattle.capnp_model.specs.Schemas.{id_of_shape, Fields, no_fields, field, Schema}
use Rattle.capnp_model.specs.Readings.{Reading, inactive, null_pointer, fault, number, text_of, blob_of, list_of, record_as, opaque, Readings, no_readings, ◌▹◌, Record, no_more, entry}
use Rattle.capnp_model.specs.Printing.{As, as_type, as_body, fields_in, shape_as, element_type, type_of_as}
use Rattle.capnp_model.specs.Projection.{project, project_items, project_fields, projected}
use Rattle.capnp_model_versions.specs.RenamedViews.{node_as, project_with, project_items_with, project_fields_with, projected_with}

module _ (o : Schema) where
  mutual
    unfolding project project_with

    same : (how : As) (x : Reading) → project_with [] o how x ≡ project o how x
    same how (record_as r) = ap record_as (same_fields (node_as o how) (shape_as o how) r)
    same how (list_of xs) = ap list_of (same_items (as_type (element_type (type_of_as how)) null) xs)
    same how inactive = refl
    same how null_pointer = refl
    same how (fault k) = refl
    same how (number n) = refl
    same how (text_of bs) = refl
    same how (blob_of bs) = refl
    same how (opaque t) = refl

    same_items : (how : As) (xs : Readings) → project_items_with [] o how xs ≡ project_items o how xs
    same_items how no_readings = refl
    same_items how (x ▹ xs) = ap (λ y. y ▹ project_items_with [] o how xs) (same how x) ∙ ap (λ ys. project o how x ▹ ys) (same_items how xs)

    same_fields : (id : ℕ) (fs : Fields) (r : Record) → project_fields_with [] o id fs r ≡ project_fields o fs r
    same_fields id no_fields r = refl
    same_fields id (field l m b fs) no_more = refl
    same_fields id (field l m b fs) (entry n x rest) = by (bytes_eq l n) (same (as_body b) x) (same_fields id fs rest) (same_fields id (field l m b fs) rest)
      where
        by : (c : Bool) → project_with [] o (as_body b) x ≡ project o (as_body b) x → project_fields_with [] o id fs rest ≡ project_fields o fs rest → project_fields_with [] o id (field l m b fs) rest ≡ project_fields o (field l m b fs) rest
            → (elim c as (λ (z : Bool). Record) [ true ↦ entry l (project_with [] o (as_body b) x) (project_fields_with [] o id fs rest) | false ↦ project_fields_with [] o id (field l m b fs) rest ])
            ≡ (elim c as (λ (z : Bool). Record) [ true ↦ entry l (project o (as_body b) x) (project_fields o fs rest) | false ↦ project_fields o (field l m b fs) rest ])
        by true one shared added = ap (λ y. entry l y (project_fields_with [] o id fs rest)) one ∙ ap (entry l (project o (as_body b) x)) shared
        by false one shared added = added

  pub plain-view : (id : ℕ) (r : Record) → projected_with [] o id r ≡ projected o id r
  unfolding projected projected_with
  plain-view id r = same_fields (id_of_shape (o.shape_of id)) (fields_in (o.shape_of id)) r
