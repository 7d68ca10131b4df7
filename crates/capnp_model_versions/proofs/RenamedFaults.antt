-- Setting a group from a struct meets the same fault under a schema and under the same in a newer one's words.
use Rattle.std.proofs.Common.{◌≡◌, ℕ, Bool, true, false, Option, Some, None, List, refl, ◌∙◌, ap}
use Rattle.capnp_model.specs.Kinds.{Kind}
use Rattle.capnp_model.specs.Trees.{Tree}
use Rattle.capnp_model.specs.Schemas.{Ty, Shape, shape, Fields, no_fields, field, Body, void_slot, plain_slot, pointer_slot, group_slot, Schema}
use Rattle.capnp_model.specs.Partners.{Renaming, renamed_shape, renamed_fields, renamed_body, renamed}
use Rattle.capnp_model.specs.Readings.{Reading, Extent, discriminant, is_active, only_if, shape_record, fields_of, body_of, read}
use Rattle.capnp_model.specs.Groups.{or_else, is_turn, group_fault, fields_fault, body_fault}
use Rattle.capnp_model_versions.proofs.RenamedReadings.{kids_at, Like, like_null, like_fault, like_number, like_text, like_blob, like_opaque, like_struct, like_list, read-like}

module _ (rs : List Renaming) (o : Schema) where
  abbrev o' : Schema
  o' = renamed rs o

  abbrev at_turn : Bool → Option ℕ → Body → Reading → Option Kind
  at_turn members m b x = elim (is_turn members m x) as (λ (y : Bool). Option Kind) [ true ↦ body_fault members b x | false ↦ None ]

  pointer_alike : (members : Bool) (m : Option ℕ) (i : ℕ) (ty : Ty) (d : Option Tree) (x y : Reading) → Like rs o ty x y → at_turn members m (pointer_slot i ty d) y ≡ at_turn members m (pointer_slot i ty d) x
  unfolding group_fault
  pointer_alike members m i ty d x y (like_null t) = refl
  pointer_alike members m i ty d x y (like_fault t k) = refl
  pointer_alike members m i ty d x y (like_number t n) = refl
  pointer_alike members m i ty d x y (like_text t bs) = refl
  pointer_alike members m i ty d x y (like_blob t bs) = refl
  pointer_alike members m i ty d x y (like_opaque t u) = refl
  pointer_alike true (Some k) i ty d x y (like_struct j size section f) = refl
  pointer_alike true None i ty d x y (like_struct j size section f) = refl
  pointer_alike false (Some k) i ty d x y (like_struct j size section f) = refl
  pointer_alike false None i ty d x y (like_struct j size section f) = refl
  pointer_alike true (Some k) i ty d x y (like_list t xs ys h) = refl
  pointer_alike true None i ty d x y (like_list t xs ys h) = refl
  pointer_alike false (Some k) i ty d x y (like_list t xs ys h) = refl
  pointer_alike false None i ty d x y (like_list t xs ys h) = refl

  mutual
    unfolding group_fault shape_record

    pub group-fault-same : (g : Shape) (size : Extent) (section : ℕ) (f : ℕ → Tree) → group_fault (renamed_shape rs g) (shape_record (renamed_shape rs g) size section (kids_at o' f)) ≡ group_fault g (shape_record g size section (kids_at o f))
    group-fault-same (shape nid w p u fs) size section f =
        ap (λ k. or_else k (fields_fault false (renamed_fields rs nid fs) (fields_of (renamed_fields rs nid fs) (discriminant u size section) size section (kids_at o' f)))) (fields_same nid true fs (discriminant u size section) size section f)
        ∙ ap (or_else (fields_fault true fs (fields_of fs (discriminant u size section) size section (kids_at o f)))) (fields_same nid false fs (discriminant u size section) size section f)

    fields_same : (nid : ℕ) (members : Bool) (fs : Fields) (e : Option ℕ) (size : Extent) (section : ℕ) (f : ℕ → Tree)
        → fields_fault members (renamed_fields rs nid fs) (fields_of (renamed_fields rs nid fs) e size section (kids_at o' f)) ≡ fields_fault members fs (fields_of fs e size section (kids_at o f))
    fields_same nid members no_fields e size section f = refl
    fields_same nid members (field l m b fs) e size section f =
        ap (λ k. or_else k (fields_fault members (renamed_fields rs nid fs) (fields_of (renamed_fields rs nid fs) e size section (kids_at o' f)))) (one_same members m b (is_active m e) size section f)
        ∙ ap (or_else (at_turn members m b (only_if (is_active m e) (body_of b size section (kids_at o f))))) (fields_same nid members fs e size section f)

    one_same : (members : Bool) (m : Option ℕ) (b : Body) (a : Bool) (size : Extent) (section : ℕ) (f : ℕ → Tree)
        → at_turn members m (renamed_body rs b) (only_if a (body_of (renamed_body rs b) size section (kids_at o' f))) ≡ at_turn members m b (only_if a (body_of b size section (kids_at o f)))
    one_same true (Some k) b false size section f = refl
    one_same true None b false size section f = refl
    one_same false (Some k) b false size section f = refl
    one_same false None b false size section f = refl
    one_same members m (void_slot j) true size section f = refl
    one_same members m (plain_slot p at d) true size section f = refl
    one_same members m (pointer_slot i ty d) true size section f = pointer_alike members m i ty d (read o (f i) ty) (read o' (f i) ty) (read-like rs o (f i) ty)
    one_same true (Some k) (group_slot g) true size section f = group-fault-same g size section f
    one_same true None (group_slot g) true size section f = refl
    one_same false (Some k) (group_slot g) true size section f = refl
    one_same false None (group_slot g) true size section f = group-fault-same g size section f
