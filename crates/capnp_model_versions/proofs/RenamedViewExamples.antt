-- Older views at a worked schema where fields are renamed, worked by hand.
use Rattle.std.proofs.Common.{◌≡◌, ℕ, Some, None, List, [], ◌∷◌, codes, false, refl}
use Rattle.capnp_model.specs.Schemas.{uint, text, Shape, shape, no_fields, field, plain_slot, pointer_slot, group_slot, Schema}
use Rattle.capnp_model.specs.Partners.{Renaming}
use Rattle.capnp_model.specs.Readings.{inactive, null_pointer, number, text_of, record_as, Record, no_more, entry}
use Rattle.capnp_model_versions.specs.RenamedViews.{project_with, projected_with}

-- a number a, and a group g whose union has the members x and y
inner : Shape
inner = shape 2 2 1 (Some 16) (field (codes "x") (Some 0) (plain_slot (uint 16) 32 0) (field (codes "y") (Some 1) (pointer_slot 0 text None) no_fields))

older : Schema
older = record {
  is_group = λ id. false;
  shape_of = λ id. shape 1 2 1 None (field (codes "a") None (plain_slot (uint 16) 0 0) (field (codes "g") None (group_slot inner) no_fields));
  names_of = λ id. [];
}

-- a is c, and the group's y is text
renamings : List Renaming
renamings = record { node = 1; older = codes "a"; newer = codes "c" } ∷ record { node = 2; older = codes "y"; newer = codes "text" } ∷ []

-- the newer has e beside c, and a third member
newer_record : Record
newer_record =
    entry (codes "c") (number 7) (entry (codes "e") (number 1) (entry (codes "g") (record_as (entry (codes "x") inactive (entry (codes "text") (text_of (codes "hi")) (entry (codes "z") inactive no_more)))) no_more))

by_older_names : projected_with renamings older 1 newer_record ≡ entry (codes "a") (number 7) (entry (codes "g") (record_as (entry (codes "x") inactive (entry (codes "y") (text_of (codes "hi")) no_more))) no_more)
unfolding projected_with project_with older inner renamings newer_record
by_older_names = refl

-- the third member is active: the union is unknown
unknown_union : projected_with renamings older 1 (entry (codes "c") (number 7) (entry (codes "g") (record_as (entry (codes "x") inactive (entry (codes "text") inactive (entry (codes "z") null_pointer no_more)))) no_more)) ≡ entry (codes "a") (number 7) (entry (codes "g") (record_as (entry (codes "x") inactive (entry (codes "y") inactive no_more))) no_more)
unfolding projected_with project_with older inner renamings
unknown_union = refl
