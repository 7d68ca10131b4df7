-- What a pointer reads as under a schema and under the same in a newer one's words: the same but for names.
use Rattle.std.proofs.Common.{◌≡◌, ℕ, zero, suc, Bool, true, false, if◌then◌else◌, ◌==◌, length, take, slice_index, List, [], ◌∷◌, refl, sym, subst}
use Rattle.capnp_model.specs.Kinds.{Kind, WrongElementSize, TextWithoutZeroByte}
use Rattle.capnp_model.specs.Trees.{Tree, null, capability, structure, plain_list, pointer_list, struct_list, Trees, none, ◌▸◌, Elements, no_elements, element, child, size_bits, plain_elements}
use Rattle.capnp_model.specs.Schemas.{Ty, void, plain, text, blob, untyped, interface, struct, list, Schema}
use Rattle.capnp_model.specs.Partners.{Renaming, renamed}
use Rattle.capnp_model.specs.Readings.{Reading, inactive, null_pointer, fault, number, text_of, blob_of, list_of, record_as, opaque, Readings, no_readings, ◌▹◌, Children, no_children, only_child, Extent, whole_words, just_bits, shape_record, is_list_of, element_as, text_reading, list_reading, plain_readings, read, read_child, pointer_elements, struct_elements}
use Rattle.capnp_model.specs.Steps.{empty_reading, or_empty, opened}
use Rattle.capnp_model.proofs.lemmas.Paths.{read_child-is}

-- ---- what is seen of a reading without its names

pub data Head : Type 0 where
  no_value one_null some : Head
  fault_head : Kind → Head

abbrev pub head : Reading → Head
head inactive = no_value
head null_pointer = one_null
head (fault k) = fault_head k
head (number n) = some
head (text_of bs) = some
head (blob_of bs) = some
head (list_of rs) = some
head (record_as r) = some
head (opaque t) = some

-- ---- readings of one pointer under both

-- what the children at places read as
abbrev pub kids_at : Schema → (ℕ → Tree) → Children
kids_at s f i ty = read s (f i) ty

module _ (rs : List Renaming) (o : Schema) where
  abbrev o' : Schema
  o' = renamed rs o

  -- an element under both
  pub data BothItem (ty : Ty) : Reading → Reading → Type 0 where
    both_item : (size : Extent) (section : ℕ) (f : ℕ → Tree) → BothItem ty (element_as o ty size section (kids_at o f)) (element_as o' ty size section (kids_at o' f))

  abbrev pub BothItems : Ty → Readings → Readings → Type 0
  BothItems ty no_readings no_readings = Unit {0}
  BothItems ty (r ▹ rs) (r' ▹ rs') = BothItem ty r r' × BothItems ty rs rs'
  BothItems ty _ _ = ⊥

  -- what a pointer or an element reads as under both
  pub data Like : Ty → Reading → Reading → Type 0 where
    like_null : (ty : Ty) → Like ty null_pointer null_pointer
    like_fault : (ty : Ty) (k : Kind) → Like ty (fault k) (fault k)
    like_number : (ty : Ty) (n : ℕ) → Like ty (number n) (number n)
    like_text : (ty : Ty) (bs : List ℕ) → Like ty (text_of bs) (text_of bs)
    like_blob : (ty : Ty) (bs : List ℕ) → Like ty (blob_of bs) (blob_of bs)
    like_opaque : (ty : Ty) (t : Tree) → Like ty (opaque t) (opaque t)
    like_struct : (i : ℕ) (size : Extent) (section : ℕ) (f : ℕ → Tree) → Like (struct i) (record_as (shape_record (o.shape_of i) size section (kids_at o f))) (record_as (shape_record (o'.shape_of i) size section (kids_at o' f)))
    like_list : (ty : Ty) (xs ys : Readings) → BothItems ty xs ys → Like (list ty) (list_of xs) (list_of ys)

  pub heads-like : (ty : Ty) (x y : Reading) → Like ty x y → head x ≡ head y
  heads-like ty x y (like_null t) = refl
  heads-like ty x y (like_fault t k) = refl
  heads-like ty x y (like_number t n) = refl
  heads-like ty x y (like_text t bs) = refl
  heads-like ty x y (like_blob t bs) = refl
  heads-like ty x y (like_opaque t u) = refl
  heads-like ty x y (like_struct i size section f) = refl
  heads-like ty x y (like_list t xs ys h) = refl

  module _ (s : Schema) where
    pub nothing_at : no_children ≡ kids_at s (λ i. null)
    unfolding read
    nothing_at = refl

    pub child_at : (ts : Trees) → read_child s ts ≡ kids_at s (child ts)
    child_at ts = λ k i ty. read_child-is s ts i ty k

    only_at : (t : Tree) (i : ℕ) (ty : Ty) → only_child (read s t) i ty ≡ read s (child (t ▸ none) i) ty
    unfolding read
    only_at t zero ty = refl
    only_at t (suc i) ty = refl

  -- ---- elements

  item_like : (ty : Ty) (size : Extent) (section : ℕ) (ks ks' : Children) (f : ℕ → Tree) → ks ≡ kids_at o f → ks' ≡ kids_at o' f → BothItem ty (element_as o ty size section ks) (element_as o' ty size section ks')
  item_like ty size section ks ks' f e e' =
      subst (λ z. BothItem ty (element_as o ty size section z) (element_as o' ty size section ks')) (sym e)
      (subst (λ z. BothItem ty (element_as o ty size section (kids_at o f)) (element_as o' ty size section z)) (sym e') (both_item size section f))

  plain_like : (ty : Ty) (size : ℕ) (xs : List ℕ) → BothItems ty (plain_readings o size xs ty) (plain_readings o' size xs ty)
  plain_like ty size [] = tt
  plain_like ty size (x ∷ xs) = (item_like ty (just_bits size) x no_children no_children (λ i. null) (nothing_at o) (nothing_at o'), plain_like ty size xs)

  pointers_like : (ty : Ty) (ts : Trees) → BothItems ty (pointer_elements o ts ty) (pointer_elements o' ts ty)
  unfolding read
  pointers_like ty none = tt
  pointers_like ty (t ▸ ts) = (item_like ty (just_bits 0) 0 (only_child (read o t)) (only_child (read o' t)) (child (t ▸ none)) (λ k i x. (only_at o t i x) k) (λ k i x. (only_at o' t i x) k), pointers_like ty ts)

  structs_like : (ty : Ty) (es : Elements) → BothItems ty (struct_elements o es ty) (struct_elements o' es ty)
  unfolding read
  structs_like ty no_elements = tt
  structs_like ty (element x ts es) = (item_like ty whole_words x (read_child o ts) (read_child o' ts) (child ts) (child_at o ts) (child_at o' ts), structs_like ty es)

  -- ---- pointers

  list_like : (ty : Ty) (b : Bool) (xs ys : Readings) → BothItems ty xs ys → Like (list ty) (list_reading b xs) (list_reading b ys)
  list_like ty true xs ys h = like_list ty xs ys h
  list_like ty false xs ys h = like_fault (list ty) _

  if_like : (ty : Ty) (b : Bool) (x : Reading) (k : Kind) → Like ty x x → Like ty (if b then x else fault k) (if b then x else fault k)
  if_like ty true x k h = h
  if_like ty false x k h = like_fault ty k

  text_like : (bs : List ℕ) → Like text (text_reading bs) (text_reading bs)
  text_like [] = like_fault text _
  text_like (b ∷ bs) = if_like text (slice_index (b ∷ bs) (length bs) == 0) (text_of (take (length bs) (b ∷ bs))) TextWithoutZeroByte (like_text text (take (length bs) (b ∷ bs)))

  record_like : (i : ℕ) (size : Extent) (section : ℕ) (ks ks' : Children) (f : ℕ → Tree) → ks ≡ kids_at o f → ks' ≡ kids_at o' f
      → Like (struct i) (record_as (shape_record (o.shape_of i) size section ks)) (record_as (shape_record (o'.shape_of i) size section ks'))
  record_like i size section ks ks' f e e' =
      subst (λ z. Like (struct i) (record_as (shape_record (o.shape_of i) size section z)) (record_as (shape_record (o'.shape_of i) size section ks'))) (sym e)
      (subst (λ z. Like (struct i) (record_as (shape_record (o.shape_of i) size section (kids_at o f))) (record_as (shape_record (o'.shape_of i) size section z))) (sym e') (like_struct i size section f))

  pub read-like : (t : Tree) (ty : Ty) → Like ty (read o t ty) (read o' t ty)
  unfolding read
  read-like null ty = like_null ty
  read-like (capability k) void = like_fault void _
  read-like (capability k) (plain p) = like_fault (plain p) _
  read-like (capability k) text = like_fault text _
  read-like (capability k) blob = like_fault blob _
  read-like (capability k) untyped = like_opaque untyped _
  read-like (capability k) interface = like_opaque interface _
  read-like (capability k) (struct i) = like_fault (struct i) _
  read-like (capability k) (list e) = like_fault (list e) _
  read-like (structure w n ts) void = like_fault void _
  read-like (structure w n ts) (plain p) = like_fault (plain p) _
  read-like (structure w n ts) text = like_fault text _
  read-like (structure w n ts) blob = like_fault blob _
  read-like (structure w n ts) untyped = like_opaque untyped _
  read-like (structure w n ts) interface = like_opaque interface _
  read-like (structure w n ts) (struct i) = record_like i whole_words n (read_child o ts) (read_child o' ts) (child ts) (child_at o ts) (child_at o' ts)
  read-like (structure w n ts) (list e) = like_fault (list e) _
  read-like (plain_list z n x) void = like_fault void _
  read-like (plain_list z n x) (plain p) = like_fault (plain p) _
  read-like (plain_list z n x) text = if_like text (z == 2) (text_reading (plain_elements z n x)) WrongElementSize (text_like (plain_elements z n x))
  read-like (plain_list z n x) blob = if_like blob (z == 2) (blob_of (plain_elements z n x)) WrongElementSize (like_blob blob (plain_elements z n x))
  read-like (plain_list z n x) untyped = like_opaque untyped _
  read-like (plain_list z n x) interface = like_opaque interface _
  read-like (plain_list z n x) (struct i) = like_fault (struct i) _
  read-like (plain_list z n x) (list e) = list_like e (is_list_of (plain_list z n x) e) (plain_readings o (size_bits z) (plain_elements z n x) e) (plain_readings o' (size_bits z) (plain_elements z n x) e) (plain_like e (size_bits z) (plain_elements z n x))
  read-like (pointer_list ts) void = like_fault void _
  read-like (pointer_list ts) (plain p) = like_fault (plain p) _
  read-like (pointer_list ts) text = like_fault text _
  read-like (pointer_list ts) blob = like_fault blob _
  read-like (pointer_list ts) untyped = like_opaque untyped _
  read-like (pointer_list ts) interface = like_opaque interface _
  read-like (pointer_list ts) (struct i) = like_fault (struct i) _
  read-like (pointer_list ts) (list e) = list_like e (is_list_of (pointer_list ts) e) (pointer_elements o ts e) (pointer_elements o' ts e) (pointers_like e ts)
  read-like (struct_list w q es) void = like_fault void _
  read-like (struct_list w q es) (plain p) = like_fault (plain p) _
  read-like (struct_list w q es) text = like_fault text _
  read-like (struct_list w q es) blob = like_fault blob _
  read-like (struct_list w q es) untyped = like_opaque untyped _
  read-like (struct_list w q es) interface = like_opaque interface _
  read-like (struct_list w q es) (struct i) = like_fault (struct i) _
  read-like (struct_list w q es) (list e) = list_like e (is_list_of (struct_list w q es) e) (struct_elements o es e) (struct_elements o' es e) (structs_like e es)

  pub element-like : (ty : Ty) (size : Extent) (section : ℕ) (f : ℕ → Tree) → Like ty (element_as o ty size section (kids_at o f)) (element_as o' ty size section (kids_at o' f))
  element-like void size section f = like_number void 0
  element-like (plain p) size section f = like_number (plain p) _
  element-like (struct i) size section f = like_struct i size section f
  element-like text size section f = read-like (f 0) text
  element-like blob size section f = read-like (f 0) blob
  element-like untyped size section f = read-like (f 0) untyped
  element-like interface size section f = read-like (f 0) interface
  element-like (list ty) size section f = read-like (f 0) (list ty)

  -- ---- nulls that are opened

  empty_like : (ty : Ty) → Like ty (empty_reading o ty) (empty_reading o' ty)
  empty_like void = like_null void
  empty_like (plain p) = like_null (plain p)
  empty_like text = like_null text
  empty_like blob = like_null blob
  empty_like untyped = like_null untyped
  empty_like interface = like_null interface
  empty_like (struct i) = record_like i whole_words 0 no_children no_children (λ j. null) (nothing_at o) (nothing_at o')
  empty_like (list e) = like_list e no_readings no_readings tt

  or_empty_like : (ty : Ty) (x y : Reading) → Like ty x y → Like ty (or_empty o ty x) (or_empty o' ty y)
  or_empty_like ty x y (like_null t) = empty_like t
  or_empty_like ty x y (like_fault t k) = like_fault t k
  or_empty_like ty x y (like_number t n) = like_number t n
  or_empty_like ty x y (like_text t bs) = like_text t bs
  or_empty_like ty x y (like_blob t bs) = like_blob t bs
  or_empty_like ty x y (like_opaque t u) = like_opaque t u
  or_empty_like ty x y (like_struct i size section f) = like_struct i size section f
  or_empty_like ty x y (like_list t xs ys h) = like_list t xs ys h

  pub opened-like : (ty : Ty) (d : Tree) (x y : Reading) → Like ty x y → Like ty (opened o ty d x) (opened o' ty d y)
  opened-like ty d x y (like_null t) = or_empty_like t (read o d t) (read o' d t) (read-like d t)
  opened-like ty d x y (like_fault t k) = like_fault t k
  opened-like ty d x y (like_number t n) = like_number t n
  opened-like ty d x y (like_text t bs) = like_text t bs
  opened-like ty d x y (like_blob t bs) = like_blob t bs
  opened-like ty d x y (like_opaque t u) = like_opaque t u
  opened-like ty d x y (like_struct i size section f) = like_struct i size section f
  opened-like ty d x y (like_list t xs ys h) = like_list t xs ys h
