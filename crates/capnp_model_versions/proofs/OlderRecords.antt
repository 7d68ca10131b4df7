-- The record under an older schema whose reached shapes are good is the older view of the record under a compatible newer one.
use Rattle.std.proofs.Common.{◌≡◌, ℕ, true}
use Rattle.capnp_model.specs.Trees.{Tree, null, capability, structure, plain_list, pointer_list, struct_list}
use Rattle.capnp_model.specs.Schemas.{Schema}
use Rattle.capnp_model.specs.Readings.{Children, whole_words, no_children, read_child, shape_record, record_by_shape, record_of}
use Rattle.capnp_model.specs.Printing.{fields_in}
use Rattle.capnp_model.specs.Compatible.{has_pair, IsCompatible}
use Rattle.capnp_model.specs.Projection.{project_fields, projected}
use Rattle.capnp_model.proofs.lemmas.FineShapes.{IsGood}
use Rattle.capnp_model.proofs.lemmas.KeptShapes.{HasPair, pair_is_kept}
use Rattle.capnp_model.proofs.lemmas.OlderReading.{KeptShape, KidsAgree, shape_record-project, read_child-project, no_children_agree}
use Rattle.capnp_model_versions.proofs.KeptViews.{shape-kept}

module _ (o n : Schema) (older newer : ℕ) (compatible : IsCompatible o n older newer) (good : (i j : ℕ) → has_pair compatible.pairs i j ≡ true → IsGood o (o.shape_of i)) where
  abbrev R : ℕ → ℕ → Type 0
  R = HasPair o n compatible.pairs

  closed : (i j : ℕ) → R i j → KeptShape o n R (o.shape_of i) (n.shape_of j)
  closed i j h = shape-kept o n compatible.pairs (o.shape_of i) (n.shape_of j) (pair_is_kept o n compatible.pairs compatible.pairs i j compatible.are_kept h) (good i j h)

  viewed : (section : ℕ) (ko kn : Children) → KidsAgree o n R ko kn → shape_record (o.shape_of older) whole_words section ko ≡ project_fields o (fields_in (o.shape_of older)) (shape_record (n.shape_of newer) whole_words section kn)
  viewed section ko kn agree = shape_record-project o n R (o.shape_of older) (n.shape_of newer) whole_words section ko kn agree (closed older newer compatible.has_roots)

  bare : shape_record (o.shape_of older) whole_words 0 no_children ≡ project_fields o (fields_in (o.shape_of older)) (shape_record (n.shape_of newer) whole_words 0 no_children)
  bare = viewed 0 no_children no_children (no_children_agree o n R closed)

  by_tree : (t : Tree) → record_by_shape o (o.shape_of older) t ≡ project_fields o (fields_in (o.shape_of older)) (record_by_shape n (n.shape_of newer) t)
  unfolding record_by_shape
  by_tree null = bare
  by_tree (capability i) = bare
  by_tree (structure words section kids) = viewed section (read_child o kids) (read_child n kids) (read_child-project o n R closed kids)
  by_tree (plain_list size count section) = bare
  by_tree (pointer_list ts) = bare
  by_tree (struct_list w p es) = bare

  -- THE LAW
  pub older-record : (t : Tree) → record_of o older t ≡ projected o older (record_of n newer t)
  unfolding record_of projected
  older-record t = by_tree t
