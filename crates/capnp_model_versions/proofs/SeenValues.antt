-- What the record machine sees of a value: a struct, a list of elements, or a fault.
use Rattle.std.proofs.Common.{◌≡◌, ℕ, zero, suc, Bool, true, false, List, [], ◌∷◌, refl, sym, subst}
use Rattle.capnp_model.specs.Kinds.{Kind}
use Rattle.capnp_model.specs.Trees.{Tree, null, capability, structure, plain_list, pointer_list, struct_list, Trees, none, ◌▸◌, Elements, no_elements, element, child, size_bits, plain_elements}
use Rattle.capnp_model.specs.Schemas.{Ty, struct, list, Schema}
use Rattle.capnp_model.specs.Readings.{Reading, fault, list_of, record_as, Readings, no_readings, ◌▹◌, Children, no_children, only_child, Extent, whole_words, just_bits, shape_record, element_as, list_reading, plain_readings, read, read_child, pointer_elements, struct_elements}
use Rattle.capnp_model.specs.Steps.{opened, or_empty}
use Rattle.capnp_model.proofs.lemmas.Paths.{read_child-is}

-- what the children at places read as
abbrev pub kids_of : Schema → (ℕ → Tree) → Children
kids_of s f i ty = read s (f i) ty

module _ (n : Schema) where
  -- a struct, or a fault
  pub data SeenStruct (j : ℕ) : Reading → Type 0 where
    seen_struct : (size : Extent) (section : ℕ) (f : ℕ → Tree) → SeenStruct j (record_as (shape_record (n.shape_of j) size section (kids_of n f)))
    seen_fault : (k : Kind) → SeenStruct j (fault k)

  pub data SeenItem (ty : Ty) : Reading → Type 0 where
    seen_item : (size : Extent) (section : ℕ) (f : ℕ → Tree) → SeenItem ty (element_as n ty size section (kids_of n f))

  abbrev pub SeenItems : Ty → Readings → Type 0
  SeenItems ty no_readings = Unit {0}
  SeenItems ty (r ▹ rs) = SeenItem ty r × SeenItems ty rs

  -- a list, or a fault
  pub data SeenList (ty : Ty) : Reading → Type 0 where
    seen_list : (rs : Readings) → SeenItems ty rs → SeenList ty (list_of rs)
    seen_no_list : (k : Kind) → SeenList ty (fault k)

  pub nothing_seen : no_children ≡ kids_of n (λ i. null)
  unfolding read
  nothing_seen = refl

  pub child_seen : (ts : Trees) → read_child n ts ≡ kids_of n (child ts)
  child_seen ts = λ k i ty. read_child-is n ts i ty k

  only_seen : (t : Tree) (i : ℕ) (ty : Ty) → only_child (read n t) i ty ≡ read n (child (t ▸ none) i) ty
  unfolding read
  only_seen t zero ty = refl
  only_seen t (suc i) ty = refl

  struct_seen : (j : ℕ) (t : Tree) → SeenStruct j (or_empty n (struct j) (read n t (struct j)))
  unfolding read
  struct_seen j null = subst (λ z. SeenStruct j (record_as (shape_record (n.shape_of j) whole_words 0 z))) (sym nothing_seen) (seen_struct whole_words 0 (λ i. null))
  struct_seen j (structure w m ts) = subst (λ z. SeenStruct j (record_as (shape_record (n.shape_of j) whole_words m z))) (sym (child_seen ts)) (seen_struct whole_words m (child ts))
  struct_seen j (capability i) = seen_fault _
  struct_seen j (plain_list z m x) = seen_fault _
  struct_seen j (pointer_list ts) = seen_fault _
  struct_seen j (struct_list w p es) = seen_fault _

  pub opened-struct-seen : (j : ℕ) (d t : Tree) → SeenStruct j (opened n (struct j) d (read n t (struct j)))
  unfolding read
  opened-struct-seen j d null = struct_seen j d
  opened-struct-seen j d (structure w m ts) = subst (λ z. SeenStruct j (record_as (shape_record (n.shape_of j) whole_words m z))) (sym (child_seen ts)) (seen_struct whole_words m (child ts))
  opened-struct-seen j d (capability i) = seen_fault _
  opened-struct-seen j d (plain_list z m x) = seen_fault _
  opened-struct-seen j d (pointer_list ts) = seen_fault _
  opened-struct-seen j d (struct_list w p es) = seen_fault _

  plain_items : (ty : Ty) (size : ℕ) (xs : List ℕ) → SeenItems ty (plain_readings n size xs ty)
  plain_items ty size [] = tt
  plain_items ty size (x ∷ xs) = (subst (λ z. SeenItem ty (element_as n ty (just_bits size) x z)) (sym nothing_seen) (seen_item (just_bits size) x (λ i. null)), plain_items ty size xs)

  pointer_items : (ty : Ty) (ts : Trees) → SeenItems ty (pointer_elements n ts ty)
  unfolding read
  pointer_items ty none = tt
  pointer_items ty (t ▸ ts) = (subst (λ z. SeenItem ty (element_as n ty (just_bits 0) 0 z)) (λ k i x. (sym (only_seen t i x)) k) (seen_item (just_bits 0) 0 (child (t ▸ none))), pointer_items ty ts)

  struct_items : (ty : Ty) (es : Elements) → SeenItems ty (struct_elements n es ty)
  unfolding read
  struct_items ty no_elements = tt
  struct_items ty (element x ts es) = (subst (λ z. SeenItem ty (element_as n ty whole_words x z)) (sym (child_seen ts)) (seen_item whole_words x (child ts)), struct_items ty es)

  list_found : (ty : Ty) (b : Bool) (rs : Readings) → SeenItems ty rs → SeenList ty (list_reading b rs)
  list_found ty true rs h = seen_list rs h
  list_found ty false rs h = seen_no_list _

  empty_found : (ty : Ty) (b : Bool) (rs : Readings) → SeenItems ty rs → SeenList ty (or_empty n (list ty) (list_reading b rs))
  empty_found ty true rs h = seen_list rs h
  empty_found ty false rs h = seen_no_list _

  opened_found : (ty : Ty) (d : Tree) (b : Bool) (rs : Readings) → SeenItems ty rs → SeenList ty (opened n (list ty) d (list_reading b rs))
  opened_found ty d true rs h = seen_list rs h
  opened_found ty d false rs h = seen_no_list _

  list_seen : (ty : Ty) (t : Tree) → SeenList ty (or_empty n (list ty) (read n t (list ty)))
  unfolding read
  list_seen ty null = seen_list no_readings tt
  list_seen ty (structure w m ts) = seen_no_list _
  list_seen ty (capability i) = seen_no_list _
  list_seen ty (plain_list z m x) = empty_found ty _ _ (plain_items ty (size_bits z) (plain_elements z m x))
  list_seen ty (pointer_list ts) = empty_found ty _ _ (pointer_items ty ts)
  list_seen ty (struct_list w p es) = empty_found ty _ _ (struct_items ty es)

  pub opened-list-seen : (ty : Ty) (d t : Tree) → SeenList ty (opened n (list ty) d (read n t (list ty)))
  unfolding read
  opened-list-seen ty d null = list_seen ty d
  opened-list-seen ty d (structure w m ts) = seen_no_list _
  opened-list-seen ty d (capability i) = seen_no_list _
  opened-list-seen ty d (plain_list z m x) = opened_found ty d _ _ (plain_items ty (size_bits z) (plain_elements z m x))
  opened-list-seen ty d (pointer_list ts) = opened_found ty d _ _ (pointer_items ty ts)
  opened-list-seen ty d (struct_list w p es) = opened_found ty d _ _ (struct_items ty es)
