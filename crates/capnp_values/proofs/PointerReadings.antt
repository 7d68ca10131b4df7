-- What pointers show is what their values read as.
use Rattle.std.proofs.Common.{◌≡◌, ℕ, zero, suc, ◌+◌, ◌-◌, ◌*◌, ◌^◌, ◌<◌, ◌≤◌, ◌==◌, Bool, true, false, if◌then◌else◌, List, [], ◌∷◌, length, take, Option, Some, None, Result, Ok, Err, refl, ap, sym, ◌∙◌, subst, arith}
use Rattle.std.specs.Prelude.{nat_lt, slice_index}
use Rattle.std.specs.Option.{ok_or}
use Rattle.capnp_model.specs.Kinds.{Kind, NestingLimitExceeded, OutOfBounds, WrongElementSize, TextWithoutZeroByte}
use Rattle.capnp_model.specs.Chains.{◌and_then◌}
use Rattle.capnp_model.specs.Segments.{Segments, Place, root, after, words_at}
use Rattle.capnp_model.specs.Pointers as model
use Rattle.std.proofs.lemmas.Bool.Decides.{nat_tests}
use Rattle.capnp_model.specs.Trees.{size_bits, plain_elements, Tree, null, capability, structure, plain_list, pointer_list, struct_list, none}
use Rattle.capnp_model.specs.Trimming.{trim}
use Rattle.capnp_model.specs.Traversal.{each, each_element, tree_at, tree_of, leaf_of, list_tree, ListKind, of_bits, of_pointers, of_structs, list_kind, list_words, tag_in}
use Rattle.capnp_model.specs.Schemas.{Shape, Schema, Ty, void, plain, text, blob, untyped, interface, struct, list}
use Rattle.capnp_model.specs.Readings.{Reading, null_pointer, fault, text_of, blob_of, list_of, record_as, opaque, read, text_reading, list_reading, is_list_of, plain_readings, pointer_elements, struct_elements, Readings, no_readings, is_accepted_as, expected_size, whole_words, no_children, shape_record}
use Rattle.capnp_model.specs.Fits.{Fits}
use Rattle.capnp_model.proofs.lemmas.Chaining.{guard_ok, ok_then, bind_some, bind_found, some_is, ok_is, bind_ok}
use Rattle.capnp_model.proofs.lemmas.ReadFits.{tree_at_fits}
use Rattle.capnp_wire_objects.specs.declared.object.Object.{Object}
use Rattle.capnp_wire_objects.specs.declared.object.Object.TheVariants as object
use Rattle.capnp_wire_objects.specs.declared.object.Found.{Found}
use Rattle.capnp_wire_objects.specs.Objects.{plain_size, whole, whole_list, object_at}
use Rattle.capnp_wire_objects.specs.Places.{placed, place_view}
use Rattle.capnp_wire_objects.specs.Inside.{words_there, tree_in}
use Rattle.capnp_wire_objects.specs.Laws.{TreesByLevels}
use Rattle.capnp_wire.specs.Levels.{level_below}
use Rattle.capnp_wire.specs.Views.{Ground, PointerView, StructView, ListView, list_view, pointer_field}
use Rattle.capnp_units.specs.declared.sizes.ElementSize.{ElementSize}
use Rattle.capnp_units.specs.declared.sizes.ElementSize.TheVariants.{Void, Bit, Byte, TwoBytes, FourBytes, EightBytes, Pointer, InlineComposite}
use Rattle.capnp_units.specs.Sizes.{size_number}
use Rattle.capnp_wire.specs.Reads.{read_elements, list_head, struct_of_null, found_behind, object_behind, read_struct, read_blob, read_text, read_list}
use Rattle.capnp_wire.specs.Laws.{bytes_read, reads_behind, ShowsStruct, ShowsList, IsRead, BytesAreRead, StructsAreRead, ListsAreRead}
use Rattle.capnp_values.specs.Shown.{a_text, a_blob, a_struct, a_list, shown_behind}
use Rattle.capnp_values.specs.ListSizes.{size_of}
use Rattle.capnp_values.specs.Standing.{LeadsToValue, IsRecord, AreItems, null_as_empty, Answers, PointersAreRead}
use Rattle.capnp_values.proofs.lemmas.AskedSizes.{size_asked}

-- ---- objects that are there

list_there : (below : Place → Option Tree) (p : Place) (kind : ListKind) (size n : ℕ) (ws : List ℕ) (t : Tree) → list_tree below p kind size n ws ≡ Some t → (o : Object) × (whole_list p kind size n ws ≡ Ok o)
list_there below p of_bits size n ws t e = (object.List (placed p) (plain_size size) n, refl)
list_there below p of_pointers size n ws t e = (object.PointerList (placed p) n, refl)
list_there below p of_structs size n ws t e =
    let a = bind_found (tag_in ws) _ t e in
    (object.StructList (placed (after p 1)) n a.0.count a.0.data_words a.0.pointers, ok_then (tag_in ws) _ a.0 _ a.1 refl)

whole_there : (s : Segments) (below : Place → Option Tree) (m : model.Object) (t : Tree) → tree_of s below m ≡ Some t → (o : Object) × (whole s m ≡ Ok o)
whole_there s below model.nothing t e = (object.Null, refl)
whole_there s below (model.a_capability i) t e = (object.Capability i, refl)
whole_there s below (model.a_struct p d k) t e =
    let a = bind_some (words_at s p (d + k)) _ t e in
    (object.Struct (placed p) d k, ok_then (ok_or (words_at s p (d + k)) OutOfBounds) _ a.0 _ (ap (λ x. ok_or x OutOfBounds) a.1) refl)
whole_there s below (model.a_list p size n) t e =
    let a = bind_some (words_at s p (list_words (list_kind size) size n)) _ t e in
    let o = list_there below p (list_kind size) size n a.0 t a.2 in
    (o.0, ok_then (ok_or (words_at s p (list_words (list_kind size) size n)) OutOfBounds) _ a.0 _ (ap (λ x. ok_or x OutOfBounds) a.1) o.1)

-- where a value is, an object is
object_there : (n : ℕ) (s : Segments) (p : Place) (t : Tree) → tree_at (suc n) s p ≡ Some t → (f : Found) × (object_at s p ≡ Ok f)
unfolding tree_at object_at
object_there n s p t e =
    let a = bind_found (model.found_at s p) _ t e in
    let w = whole_there s (tree_at n s) a.0.object t a.2 in
    (record { pads = a.0.pads; object = w.0 }, ok_then (model.found_at s p) _ a.0 _ a.1 (ok_then (whole s a.0.object) _ w.0 _ w.1 refl))

-- with a level left there is one less below
one_below : (l : ℕ) → level_below (Some (suc l)) ≡ Ok (Some l)
one_below l = by (suc l == 0) refl
  where
    by : (b : Bool) → (suc l == 0) ≡ b → (if b then Err NestingLimitExceeded else Ok (Some (suc l - 1))) ≡ Ok (Some l)
    by true e = absurd (grind (arith, nat_tests))
    by false e = let minus : suc l - 1 ≡ l = omega arith in ap (λ (x : ℕ). Ok (Some x)) minus

-- What a pointer that leads to a value is found to name: null or a capability, or with a level left what is read there.
data Reach (n : ℕ) (p : PointerView) (t : Tree) : Type 0 where
  at_null : (pads : ℕ) → object_behind p ≡ Ok (record { pads = pads; object = object.Null }) → t ≡ null → Reach n p t
  at_capability : (pads i : ℕ) → object_behind p ≡ Ok (record { pads = pads; object = object.Capability i }) → t ≡ capability i → Reach n p t
  at_level : (m l : ℕ) (q : Place) (f : Found) → object_behind p ≡ Ok f → p.levels ≡ Some (suc l) → m ≤ l → IsRead m q f t p.basis p.levels → Reach n p t

leaf_reach : (n : ℕ) (p : PointerView) (t : Tree) (g : model.Found) → (object_behind p ≡ (whole p.basis.segments g.object and_then λ o. Ok (record { pads = g.pads; object = o }))) → leaf_of g.object ≡ Some t → Reach n p t
leaf_reach n p t g e l = by g.object refl
  where
    by : (o : model.Object) → g.object ≡ o → Reach n p t
    by model.nothing is =
        let leaf : leaf_of model.nothing ≡ Some t = sym (ap leaf_of is) ∙ l in
        at_null g.pads (e ∙ ap (λ x. whole p.basis.segments x and_then λ o. Ok (record { pads = g.pads; object = o })) is) (sym (some_is _ _ leaf))
    by (model.a_capability i) is =
        let leaf : leaf_of (model.a_capability i) ≡ Some t = sym (ap leaf_of is) ∙ l in
        at_capability g.pads i (e ∙ ap (λ x. whole p.basis.segments x and_then λ o. Ok (record { pads = g.pads; object = o })) is) (sym (some_is _ _ leaf))
    by (model.a_struct q d k) is =
        let leaf : leaf_of (model.a_struct q d k) ≡ Some t = sym (ap leaf_of is) ∙ l in
        absurd cc
    by (model.a_list q size c) is =
        let leaf : leaf_of (model.a_list q size c) ≡ Some t = sym (ap leaf_of is) ∙ l in
        absurd cc

none_left : (n : ℕ) (p : PointerView) (t : Tree) (q : Place) → p.place ≡ Some q → tree_at zero p.basis.segments q ≡ Some t → Reach n p t
unfolding tree_at object_at
none_left n p t q at e =
    let a = bind_found (model.found_at p.basis.segments q) _ t e in
    leaf_reach n p t a.0 (ap (found_behind p.basis.segments) at ∙ ok_then (model.found_at p.basis.segments q) _ a.0 _ a.1 refl) a.2

reach : (n : ℕ) (p : PointerView) (t : Tree) → LeadsToValue n p t → Reach n p t
reach n p t leads = by n p.place refl leads.enough leads.tree
  where
    g : Ground
    g = p.basis

    level : (m : ℕ) (q : Place) (left : ℕ) → p.place ≡ Some q → p.levels ≡ Some left → suc m ≤ left → tree_at (suc m) p.basis.segments q ≡ Some t → Reach n p t
    level m q zero at levels enough e = absurd (omega arith)
    level m q (suc l) at levels enough e =
        let o = object_there m p.basis.segments q t e in
        let below : level_below p.levels ≡ Ok (Some l) = ap level_below levels ∙ one_below l in
        at_level m l q o.0 (ap (found_behind p.basis.segments) at ∙ o.1) levels (omega arith) (record { found = o.1; tree = e; below = Some l; level = below })

    by : (k : ℕ) (o : Option Place) → p.place ≡ o → k ≤ leads.left → reads_behind (tree_at k p.basis.segments) o ≡ Some t → Reach n p t
    by k None at enough e = at_null 0 (ap (found_behind p.basis.segments) at) (sym (some_is _ _ e))
    by zero (Some q) at enough e = none_left n p t q at e
    by (suc m) (Some q) at enough e = level m q leads.left at leads.levels enough e

-- ---- texts and data

text_behind : (s : Schema) (xs : List ℕ) → Answers s (bytes_read (text_reading xs) and_then λ bytes. Ok (a_text bytes)) (null_as_empty s text (text_reading xs))
text_behind s [] = refl
text_behind s (b ∷ bs) = by (slice_index (b ∷ bs) (length bs) == 0)
  where
    by : (z : Bool) → Answers s (bytes_read (if z then text_of (take (length bs) (b ∷ bs)) else fault TextWithoutZeroByte) and_then λ bytes. Ok (a_text bytes)) (null_as_empty s text (if z then text_of (take (length bs) (b ∷ bs)) else fault TextWithoutZeroByte))
    by true = refl
    by false = refl

text_read : (s : Schema) (t : Tree) → Answers s (bytes_read (read s t text) and_then λ bytes. Ok (a_text bytes)) (null_as_empty s text (read s t text))
unfolding read
text_read s null = refl
text_read s (capability i) = refl
text_read s (structure w n ts) = refl
text_read s (plain_list size n section) = by (size == 2)
  where
    by : (z : Bool) → Answers s (bytes_read (if z then text_reading (plain_elements size n section) else fault WrongElementSize) and_then λ bytes. Ok (a_text bytes)) (null_as_empty s text (if z then text_reading (plain_elements size n section) else fault WrongElementSize))
    by true = text_behind s (plain_elements size n section)
    by false = refl
text_read s (pointer_list ts) = refl
text_read s (struct_list w p es) = refl

blob_read : (s : Schema) (t : Tree) → Answers s (bytes_read (read s t blob) and_then λ bytes. Ok (a_blob bytes)) (null_as_empty s blob (read s t blob))
unfolding read
blob_read s null = refl
blob_read s (capability i) = refl
blob_read s (structure w n ts) = refl
blob_read s (plain_list size n section) = by (size == 2)
  where
    by : (z : Bool) → Answers s (bytes_read (if z then blob_of (plain_elements size n section) else fault WrongElementSize) and_then λ bytes. Ok (a_blob bytes)) (null_as_empty s blob (if z then blob_of (plain_elements size n section) else fault WrongElementSize))
    by true = refl
    by false = refl
blob_read s (pointer_list ts) = refl
blob_read s (struct_list w p es) = refl

-- ---- structs

-- the levels that a struct has which was read
struct_left : (g : Ground) (l : ℕ) (o : Object) (v : StructView) → read_struct g (Some (suc l)) o ≡ Ok v → (v.basis ≡ g) × (left : ℕ) × (v.levels ≡ Some left) × (l ≤ left)
struct_left g l object.Null v e = let is = ok_is _ _ e in (ap (λ (x : StructView). x.basis) (sym is), suc l, ap (λ (x : StructView). x.levels) (sym is), omega arith)
struct_left g l (object.Struct p d k) v e =
    let a = bind_ok (level_below (Some (suc l))) _ v e in
    let is = ok_is _ _ a.2 in
    let below : Some l ≡ a.0 = ok_is _ _ (sym (one_below l) ∙ a.1) in
    (ap (λ (x : StructView). x.basis) (sym is), l, ap (λ (x : StructView). x.levels) (sym is) ∙ sym below, omega arith)
struct_left g l (object.List p size n) v e = absurd cc
struct_left g l (object.PointerList p n) v e = absurd cc
struct_left g l (object.StructList p w n d k) v e = absurd cc
struct_left g l (object.Capability i) v e = absurd cc

-- a pointer behind the last is null
past_first : (below : Place → Option Tree) (p : Place) (i : ℕ) → reads_behind below (if nat_lt i 0 then Some (after p i) else None) ≡ Some null
past_first below p i = by (nat_lt i 0) refl
  where
    by : (b : Bool) → nat_lt i 0 ≡ b → reads_behind below (if b then Some (after p i) else None) ≡ Some null
    by true e = absurd (grind (arith, nat_tests))
    by false e = refl

null_record : (n : ℕ) (g : Ground) (levels : Option ℕ) (left : ℕ) (s : Schema) (h : Shape) → levels ≡ Some left → n ≤ left → IsRecord s h (struct_of_null g levels) (record_as (shape_record h whole_words 0 no_children))
unfolding read
null_record n g levels left s h is enough = record {
  levels = n;
  extent = whole_words;
  section = 0;
  kids = none;
  stands = record { extent = (0, refl, omega arith); same = refl; children = λ i. record { left = left; levels = is; enough = enough; tree = past_first (tree_at n g.segments) root i } };
  is = ap (λ k. record_as (shape_record h whole_words 0 k)) (λ i j ty. null_pointer);
}

-- the record of a struct that was read
struct_record : (m l : ℕ) (p : PointerView) (s : Schema) (id : ℕ) (v : StructView) (t : Tree) → Fits t → v.basis ≡ p.basis → (left : ℕ) → v.levels ≡ Some left → m ≤ left → ShowsStruct (tree_at m p.basis.segments) v t
    → IsRecord s (s.shape_of id) v (null_as_empty s (struct id) (read s t (struct id)))
unfolding read
struct_record m l p s id v null fits basis left levels enough shows =
    record { levels = m; extent = whole_words; section = 0; kids = none; stands = record { extent = (0, shows.1, subst (λ x. x < 2 ^ (64 * 0)) (sym shows.0) (omega arith)); same = shows.0; children = λ i. record { left = left; levels = levels; enough = enough; tree = ap (λ (g : Ground). reads_behind (tree_at m g.segments) (pointer_field v i).place) basis ∙ shows.2 i } }; is = ap (λ k. record_as (shape_record (s.shape_of id) whole_words 0 k)) (λ i j ty. null_pointer) }
struct_record m l p s id v (structure words section kids) fits basis left levels enough shows =
    record { levels = m; extent = whole_words; section = section; kids = kids; stands = record { extent = (words, shows.1, subst (λ x. x < 2 ^ (64 * words)) (sym shows.0) fits.2); same = shows.0; children = λ i. record { left = left; levels = levels; enough = enough; tree = ap (λ (g : Ground). reads_behind (tree_at m g.segments) (pointer_field v i).place) basis ∙ shows.2 i } }; is = refl }
struct_record m l p s id v (capability i) fits basis left levels enough shows = absurd shows
struct_record m l p s id v (plain_list size n section) fits basis left levels enough shows = absurd shows
struct_record m l p s id v (pointer_list ts) fits basis left levels enough shows = absurd shows
struct_record m l p s id v (struct_list w k es) fits basis left levels enough shows = absurd shows

-- ---- lists

elements_left : (g : Ground) (l : ℕ) (expected : ElementSize) (view : Option ℕ → ListView) (size : ElementSize) (d k : ℕ) (v : ListView) → ((x : Option ℕ) → (view x).basis ≡ g) → ((x : Option ℕ) → (view x).levels ≡ x)
    → read_elements (Some (suc l)) expected view size d k ≡ Ok v → (v.basis ≡ g) × (left : ℕ) × (v.levels ≡ Some left) × (l ≤ left)
elements_left g l expected view size d k v basis levels e =
    let a = bind_ok (level_below (Some (suc l))) _ v e in
    let b = guard_ok (is_accepted_as (size_number expected) (list_head size d k)) WrongElementSize _ v a.2 in
    let is : view a.0 ≡ v = ok_is _ _ b.1 in
    let below : Some l ≡ a.0 = ok_is _ _ (sym (one_below l) ∙ a.1) in
    (ap (λ (x : ListView). x.basis) (sym is) ∙ basis a.0, l, ap (λ (x : ListView). x.levels) (sym is) ∙ levels a.0 ∙ sym below, omega arith)

-- the levels that a list has which was read
list_left : (g : Ground) (l : ℕ) (expected : ElementSize) (o : Object) (v : ListView) → read_list g (Some (suc l)) expected o ≡ Ok v → (v.basis ≡ g) × (left : ℕ) × (v.levels ≡ Some left) × (l ≤ left)
list_left g l expected object.Null v e = let is = ok_is _ _ e in (ap (λ (x : ListView). x.basis) (sym is), suc l, ap (λ (x : ListView). x.levels) (sym is), omega arith)
list_left g l expected (object.Struct p d k) v e = absurd cc
list_left g l expected (object.List p size n) v e = elements_left g l expected _ size 0 0 v (λ x. refl) (λ x. refl) e
list_left g l expected (object.PointerList p n) v e = elements_left g l expected _ Pointer 0 0 v (λ x. refl) (λ x. refl) e
list_left g l expected (object.StructList p w n d k) v e = elements_left g l expected _ InlineComposite d k v (λ x. refl) (λ x. refl) e
list_left g l expected (object.Capability i) v e = absurd cc

-- a list that was read is one for the model
abbrev IsListOf : Schema → Ty → Tree → Type 0
IsListOf s ty t = (rs : Readings) × (null_as_empty s (list ty) (read s t (list ty)) ≡ list_of rs)

plain_items : (s : Schema) (ty : Ty) (size n section : ℕ) → is_list_of (plain_list size n section) ty ≡ true → IsListOf s ty (plain_list size n section)
unfolding read
plain_items s ty size n section h = (plain_readings s (size_bits size) (plain_elements size n section) ty, ap (λ b. null_as_empty s (list ty) (list_reading b (plain_readings s (size_bits size) (plain_elements size n section) ty))) h)

elements_accepted : (l : ℕ) (expected : ElementSize) (view : Option ℕ → ListView) (size : ElementSize) (d k : ℕ) (v : ListView) (ty : Ty) → size_number expected ≡ expected_size ty → read_elements (Some (suc l)) expected view size d k ≡ Ok v
    → is_accepted_as (expected_size ty) (list_head size d k) ≡ true
elements_accepted l expected view size d k v ty same e =
    let a = bind_ok (level_below (Some (suc l))) _ v e in
    let b = guard_ok (is_accepted_as (size_number expected) (list_head size d k)) WrongElementSize _ v a.2 in
    ap (λ x. is_accepted_as x (list_head size d k)) (sym same) ∙ b.0

list_items : (below : Place → Option Tree) (g : Ground) (l : ℕ) (expected : ElementSize) (s : Schema) (ty : Ty) (o : Object) (t : Tree) (v : ListView) → size_number expected ≡ expected_size ty → Fits t → tree_in g.segments below o ≡ Some t → read_list g (Some (suc l)) expected o ≡ Ok v → IsListOf s ty t
unfolding read
list_items below g l expected s ty object.Null t v same fits e h = subst (IsListOf s ty) (some_is null t e) (no_readings, refl)
list_items below g l expected s ty (object.Capability i) t v same fits e h = absurd cc
list_items below g l expected s ty (object.Struct p d k) t v same fits e h = absurd cc
list_items below g l expected s ty (object.List p Void n) t v same fits e h = subst (IsListOf s ty) (some_is _ t e) (plain_items s ty 0 n _ (elements_accepted l expected _ Void 0 0 v ty same h))
list_items below g l expected s ty (object.List p Bit n) t v same fits e h = subst (IsListOf s ty) (some_is _ t e) (plain_items s ty 1 n _ (elements_accepted l expected _ Bit 0 0 v ty same h))
list_items below g l expected s ty (object.List p Byte n) t v same fits e h = subst (IsListOf s ty) (some_is _ t e) (plain_items s ty 2 n _ (elements_accepted l expected _ Byte 0 0 v ty same h))
list_items below g l expected s ty (object.List p TwoBytes n) t v same fits e h = subst (IsListOf s ty) (some_is _ t e) (plain_items s ty 3 n _ (elements_accepted l expected _ TwoBytes 0 0 v ty same h))
list_items below g l expected s ty (object.List p FourBytes n) t v same fits e h = subst (IsListOf s ty) (some_is _ t e) (plain_items s ty 4 n _ (elements_accepted l expected _ FourBytes 0 0 v ty same h))
list_items below g l expected s ty (object.List p EightBytes n) t v same fits e h = subst (IsListOf s ty) (some_is _ t e) (plain_items s ty 5 n _ (elements_accepted l expected _ EightBytes 0 0 v ty same h))
list_items below g l expected s ty (object.List p Pointer n) t v same fits e h = let small = (subst Fits (sym (some_is _ t e)) fits).0 in absurd (omega arith)
list_items below g l expected s ty (object.List p InlineComposite n) t v same fits e h = let small = (subst Fits (sym (some_is _ t e)) fits).0 in absurd (omega arith)
list_items below g l expected s ty (object.PointerList p n) t v same fits e h =
    let a = bind_some (each below (place_view p) n) _ t e in
    let ok = elements_accepted l expected _ Pointer 0 0 v ty same h in
    subst (IsListOf s ty) (some_is _ t a.2) (pointer_elements s a.0 ty, ap (λ b. null_as_empty s (list ty) (list_reading b (pointer_elements s a.0 ty))) ok)
list_items below g l expected s ty (object.StructList p w n d k) t v same fits e h =
    let a = bind_some (each_element below (place_view p) (words_there g.segments (place_view p) w) d k n) _ t e in
    let ok = elements_accepted l expected _ InlineComposite d k v ty same h in
    subst (IsListOf s ty) (some_is _ t a.2) (struct_elements s a.0 ty, ap (λ b. null_as_empty s (list ty) (list_reading b (struct_elements s a.0 ty))) ok)

-- ---- each type

untyped_read : (s : Schema) (t : Tree) → null_as_empty s untyped (read s t untyped) ≡ opaque (trim t)
unfolding read trim
untyped_read s null = refl
untyped_read s (capability i) = refl
untyped_read s (structure w n ts) = refl
untyped_read s (plain_list size n section) = refl
untyped_read s (pointer_list ts) = refl
untyped_read s (struct_list w p es) = refl

interface_read : (s : Schema) (t : Tree) → null_as_empty s interface (read s t interface) ≡ opaque (trim t)
unfolding read trim
interface_read s null = refl
interface_read s (capability i) = refl
interface_read s (structure w n ts) = refl
interface_read s (plain_list size n section) = refl
interface_read s (pointer_list ts) = refl
interface_read s (struct_list w p es) = refl

module _ (n : ℕ) (p : PointerView) (t : Tree) (s : Schema) (leads : LeadsToValue n p t) where
  text_case : BytesAreRead → Reach n p t → Answers s (shown_behind s text p) (null_as_empty s text (read s t text))
  unfolding read
  text_case bytes (at_null pads e is) =
      let P : Result Found Kind → Type 0 = λ r. Answers s ((r and_then λ f. read_text p.basis p.levels f.object) and_then λ bs. Ok (a_text bs)) (null_as_empty s text (read s t text)) in
      subst P (sym e) (ap (λ u. null_as_empty s text (read s u text)) is)
  text_case bytes (at_capability pads i e is) =
      let P : Result Found Kind → Type 0 = λ r. Answers s ((r and_then λ f. read_text p.basis p.levels f.object) and_then λ bs. Ok (a_text bs)) (null_as_empty s text (read s t text)) in
      subst P (sym e) (ap (λ u. null_as_empty s text (read s u text)) is)
  text_case bytes (at_level m l q f e levels enough is) =
      let P : Result Found Kind → Type 0 = λ r. Answers s ((r and_then λ f. read_text p.basis p.levels f.object) and_then λ bs. Ok (a_text bs)) (null_as_empty s text (read s t text)) in
      let Q : Result (List ℕ) Kind → Type 0 = λ r. Answers s (r and_then λ bs. Ok (a_text bs)) (null_as_empty s text (read s t text)) in
      subst P (sym e) (subst Q (sym (bytes m q f t p.basis p.levels s is).1) (text_read s t))

  blob_case : BytesAreRead → Reach n p t → Answers s (shown_behind s blob p) (null_as_empty s blob (read s t blob))
  unfolding read
  blob_case bytes (at_null pads e is) =
      let P : Result Found Kind → Type 0 = λ r. Answers s ((r and_then λ f. read_blob p.basis p.levels f.object) and_then λ bs. Ok (a_blob bs)) (null_as_empty s blob (read s t blob)) in
      subst P (sym e) (ap (λ u. null_as_empty s blob (read s u blob)) is)
  blob_case bytes (at_capability pads i e is) =
      let P : Result Found Kind → Type 0 = λ r. Answers s ((r and_then λ f. read_blob p.basis p.levels f.object) and_then λ bs. Ok (a_blob bs)) (null_as_empty s blob (read s t blob)) in
      subst P (sym e) (ap (λ u. null_as_empty s blob (read s u blob)) is)
  blob_case bytes (at_level m l q f e levels enough is) =
      let P : Result Found Kind → Type 0 = λ r. Answers s ((r and_then λ f. read_blob p.basis p.levels f.object) and_then λ bs. Ok (a_blob bs)) (null_as_empty s blob (read s t blob)) in
      let Q : Result (List ℕ) Kind → Type 0 = λ r. Answers s (r and_then λ bs. Ok (a_blob bs)) (null_as_empty s blob (read s t blob)) in
      subst P (sym e) (subst Q (sym (bytes m q f t p.basis p.levels s is).0) (blob_read s t))

  struct_case : StructsAreRead → (id : ℕ) → Reach n p t → Answers s (shown_behind s (struct id) p) (null_as_empty s (struct id) (read s t (struct id)))
  unfolding read
  struct_case structs id (at_null pads e is) =
      let R : Tree → Reading = λ u. null_as_empty s (struct id) (read s u (struct id)) in
      let P : Result Found Kind → Type 0 = λ r. Answers s ((r and_then λ f. read_struct p.basis p.levels f.object) and_then λ v. Ok (a_struct s (s.shape_of id) v)) (R t) in
      let Q : Tree → Type 0 = λ u. (s ≡ s) × IsRecord s (s.shape_of id) (struct_of_null p.basis p.levels) (R u) in
      subst P (sym e) (subst Q (sym is) (refl, null_record n p.basis p.levels leads.left s (s.shape_of id) leads.levels leads.enough))
  struct_case structs id (at_capability pads i e is) =
      let P : Result Found Kind → Type 0 = λ r. Answers s ((r and_then λ f. read_struct p.basis p.levels f.object) and_then λ v. Ok (a_struct s (s.shape_of id) v)) (null_as_empty s (struct id) (read s t (struct id))) in
      subst P (sym e) (ap (λ u. null_as_empty s (struct id) (read s u (struct id))) is)
  struct_case structs id (at_level m l q f e levels enough is) =
      let P : Result Found Kind → Type 0 = λ r. Answers s ((r and_then λ f. read_struct p.basis p.levels f.object) and_then λ v. Ok (a_struct s (s.shape_of id) v)) (null_as_empty s (struct id) (read s t (struct id))) in
      subst P (sym e) (by (read_struct p.basis p.levels f.object) refl)
    where
      by : (r : Result StructView Kind) → read_struct p.basis p.levels f.object ≡ r → Answers s (r and_then λ v. Ok (a_struct s (s.shape_of id) v)) (null_as_empty s (struct id) (read s t (struct id)))
      by (Ok v) h =
          let k = struct_left p.basis l f.object v (ap (λ lv. read_struct p.basis lv f.object) (sym levels) ∙ h) in
          (refl, struct_record m l p s id v t (tree_at_fits (suc m) p.basis.segments q t is.tree) k.0 k.1 k.2 (omega arith) ((structs m q f t p.basis p.levels is).0 v h))
      by (Err kind) h = ap (null_as_empty s (struct id)) ((structs m q f t p.basis p.levels is).1 kind s id h)

  list_case : TreesByLevels → ListsAreRead → (ty : Ty) → Reach n p t → Answers s (shown_behind s (list ty) p) (null_as_empty s (list ty) (read s t (list ty)))
  unfolding read
  list_case trees lists ty (at_null pads e is) =
      let R : Tree → Reading = λ u. null_as_empty s (list ty) (read s u (list ty)) in
      let P : Result Found Kind → Type 0 = λ r. Answers s ((r and_then λ f. read_list p.basis p.levels (size_of ty) f.object) and_then λ v. Ok (a_list s ty v)) (R t) in
      let v : ListView = list_view p.basis (size_of ty) 0 0 root 0 0 p.levels in
      let items : AreItems s ty v (R null) = record { levels = n; tree = null; lists = record { left = leads.left; levels = leads.levels; enough = leads.enough; shows = refl }; items = no_readings; reads = refl; is = refl } in
      let Q : Tree → Type 0 = λ u. (s ≡ s) × AreItems s ty v (R u) in
      subst P (sym e) (subst Q (sym is) (refl, items))
  list_case trees lists ty (at_capability pads i e is) =
      let P : Result Found Kind → Type 0 = λ r. Answers s ((r and_then λ f. read_list p.basis p.levels (size_of ty) f.object) and_then λ v. Ok (a_list s ty v)) (null_as_empty s (list ty) (read s t (list ty))) in
      subst P (sym e) (ap (λ u. null_as_empty s (list ty) (read s u (list ty))) is)
  list_case trees lists ty (at_level m l q f e levels enough is) =
      let P : Result Found Kind → Type 0 = λ r. Answers s ((r and_then λ f. read_list p.basis p.levels (size_of ty) f.object) and_then λ v. Ok (a_list s ty v)) (null_as_empty s (list ty) (read s t (list ty))) in
      subst P (sym e) (by (read_list p.basis p.levels (size_of ty) f.object) refl)
    where
      by : (r : Result ListView Kind) → read_list p.basis p.levels (size_of ty) f.object ≡ r → Answers s (r and_then λ v. Ok (a_list s ty v)) (null_as_empty s (list ty) (read s t (list ty)))
      by (Ok v) h =
          let k = list_left p.basis l (size_of ty) f.object v (ap (λ lv. read_list p.basis lv (size_of ty) f.object) (sym levels) ∙ h) in
          let shows : ShowsList (tree_at m p.basis.segments) v t = (lists m q f t p.basis p.levels (size_of ty) is).0 v h in
          let P : Ground → Type 0 = λ g. ShowsList (tree_at m g.segments) v t in
          let there : tree_in p.basis.segments (tree_at m p.basis.segments) f.object ≡ Some t = sym (trees m p.basis.segments q f is.found) ∙ is.tree in
          let items = list_items (tree_at m p.basis.segments) p.basis l (size_of ty) s ty f.object t v (size_asked ty) (tree_at_fits (suc m) p.basis.segments q t is.tree) there (ap (λ lv. read_list p.basis lv (size_of ty) f.object) (sym levels) ∙ h) in
          (refl, record { levels = m; tree = t; lists = record { left = k.1; levels = k.2; enough = omega arith; shows = subst P (sym k.0) shows }; items = items.0; reads = items.1; is = items.1 })
      by (Err kind) h = ap (null_as_empty s (list ty)) ((lists m q f t p.basis p.levels (size_of ty) is).1 kind s ty (size_asked ty) h)

pub pointers : TreesByLevels → BytesAreRead → StructsAreRead → ListsAreRead → PointersAreRead
pointers trees bytes structs lists n p t s void pointer leads = absurd pointer
pointers trees bytes structs lists n p t s (plain q) pointer leads = absurd pointer
pointers trees bytes structs lists n p t s text pointer leads = text_case n p t s leads bytes (reach n p t leads)
pointers trees bytes structs lists n p t s blob pointer leads = blob_case n p t s leads bytes (reach n p t leads)
pointers trees bytes structs lists n p t s untyped pointer leads = record { levels = n; tree = t; leads = leads; is = untyped_read s t }
pointers trees bytes structs lists n p t s interface pointer leads = (trim t, interface_read s t)
pointers trees bytes structs lists n p t s (struct id) pointer leads = struct_case n p t s leads structs id (reach n p t leads)
pointers trees bytes structs lists n p t s (list ty) pointer leads = list_case n p t s leads trees lists ty (reach n p t leads)
