-- Gets as the model's readings.
use Rattle.std.proofs.Common.{◌≡◌, ℕ, zero, suc, ◌+◌, ◌*◌, ◌%◌, ◌^◌, ◌<◌, nat_lt, Bool, true, false, List, [], ◌∷◌, length, eqb, drop, Option, Some, None, Result, Ok, Err, refl, ap, sym, ◌∙◌, subst, arith, if◌then◌else◌}
use Rattle.std.specs.Prelude.{slice_index}
use Rattle.capnp_model.specs.Kinds.{Kind, WrongPointerKind, WrongElementSize}
use Rattle.capnp_model.specs.Chains.{◌and_then◌, guard}
use Rattle.capnp_model.specs.Sections.{words_for}
use Rattle.capnp_model.specs.Segments.{Place, place, after, root}
use Rattle.capnp_model.specs.Trees.{Tree, null, structure, plain_list, pointer_list, struct_list, Trees, none, ◌▸◌, child, Elements, no_elements, element_count, plain_elements}
use Rattle.capnp_model.specs.Traversal.{tree_at, each, each_element}
use Rattle.capnp_model.specs.Schemas.{Schema, Ty, text, blob, struct, list}
use Rattle.capnp_model.specs.Readings.{fault, text_reading, list_reading, is_list_of, Readings, expected_size, is_accepted_as, plain_readings, pointer_elements, struct_elements, read}
use Rattle.capnp_model.proofs.lemmas.Chaining.{bind_some, some_is, bind_ok, ok_is, guard_ok}
use Rattle.capnp_units.specs.declared.sizes.ElementSize.{ElementSize}
use Rattle.capnp_units.specs.declared.sizes.ElementSize.TheVariants.{Void, Bit, Byte, TwoBytes, FourBytes, EightBytes, Pointer, InlineComposite}
use Rattle.capnp_units.specs.Sizes.{size_number, data_bits}
use Rattle.capnp_wire_objects.specs.declared.object.Object.{Object}
use Rattle.capnp_wire_objects.specs.declared.object.Object.TheVariants as object
use Rattle.capnp_wire_objects.specs.declared.object.Found.{Found}
use Rattle.capnp_wire_objects.specs.declared.place.Place as wire
use Rattle.capnp_wire_objects.specs.Places.{place_view}
use Rattle.capnp_wire_objects.specs.Inside.{words_there, tree_in}
use Rattle.capnp_model.proofs.lemmas.Counts.{each_count}
use Rattle.capnp_wire.specs.Levels.{level_below}
use Rattle.capnp_wire.specs.Views.{Ground, section_at, StructView, struct_view, ListView, list_view, element_as_struct}
use Rattle.capnp_wire.specs.Reads.{read_struct, as_text, read_blob, read_text, read_list, read_elements, list_head}
use Rattle.capnp_wire.specs.Laws.{bytes_read, reads_behind, ShowsStruct, ShowsList, IsRead, BytesAreRead, StructsAreRead, ListsAreRead}
use Rattle.std.proofs.lemmas.Bool.Decides.{nat_tests}
use Rattle.capnp_wire_objects.proofs.lemmas.LevelLaws.{trees}
use Rattle.capnp_wire.proofs.lemmas.ListLaws.{numbers_at, numbers_low, each_child, Holds, holds_at, structs_shown}

-- ---- texts and data

text_bytes : (xs : List ℕ) → as_text (Some xs) ≡ bytes_read (text_reading xs)
text_bytes [] = refl
text_bytes (b ∷ bs) = by (eqb (slice_index (b ∷ bs) (length bs)) 0) refl
  where
    by : (c : Bool) → (eqb (slice_index (b ∷ bs) (length bs)) 0) ≡ c → as_text (Some (b ∷ bs)) ≡ bytes_read (text_reading (b ∷ bs))
    by true e = rw e refl
    by false e = rw e refl

-- What an object's bytes are, by its tree.
abbrev Reads : Ground → Option ℕ → Object → Schema → Tree → Type 0
Reads g levels o s t = (read_blob g levels o ≡ bytes_read (read s t blob)) × (read_text g levels o ≡ bytes_read (read s t text))

module _ (below : Place → Option Tree) (g : Ground) (levels left : Option ℕ) (level : level_below levels ≡ Ok left) (s : Schema) where
  list_bytes : (p : wire.Place) (size : ElementSize) (n : ℕ) → Reads g levels (object.List p size n) s (plain_list (size_number size) n (section_at g.segments (place_view p) (words_for (data_bits (size_number size) * n)) % 2 ^ (data_bits (size_number size) * n)))
  unfolding read
  list_bytes p Void n = (refl, refl)
  list_bytes p Bit n = (refl, refl)
  list_bytes p Byte n =
      let all : ℕ = section_at g.segments (place_view p) (words_for (8 * n)) in
      let same : plain_elements 2 n all ≡ plain_elements 2 n (all % 2 ^ (8 * n)) = sym (numbers_low 8 n all) in
      let blobs : read_blob g levels (object.List p Byte n) ≡ Ok (plain_elements 2 n all) = rw level refl in
      let string : read_text g levels (object.List p Byte n) ≡ as_text (Some (plain_elements 2 n all)) = rw level refl in
      (blobs ∙ ap (λ (xs : List ℕ). Ok xs) same, string ∙ text_bytes (plain_elements 2 n all) ∙ ap (λ (xs : List ℕ). bytes_read (text_reading xs)) same)
  list_bytes p TwoBytes n = (refl, refl)
  list_bytes p FourBytes n = (refl, refl)
  list_bytes p EightBytes n = (refl, refl)
  list_bytes p Pointer n = (refl, refl)
  list_bytes p InlineComposite n = (refl, refl)

  object_bytes : (o : Object) (t : Tree) → tree_in g.segments below o ≡ Some t → Reads g levels o s t
  unfolding read
  object_bytes object.Null t e = subst (Reads g levels object.Null s) (some_is null t e) (refl, refl)
  object_bytes (object.Capability i) t e = subst (Reads g levels (object.Capability i) s) (some_is _ t e) (refl, refl)
  object_bytes (object.Struct p d k) t e = let a = bind_some (each below (after (place_view p) d) k) _ t e in subst (Reads g levels (object.Struct p d k) s) (some_is _ t a.2) (refl, refl)
  object_bytes (object.List p size n) t e = subst (Reads g levels (object.List p size n) s) (some_is _ t e) (list_bytes p size n)
  object_bytes (object.PointerList p n) t e = let a = bind_some (each below (place_view p) n) _ t e in subst (Reads g levels (object.PointerList p n) s) (some_is _ t a.2) (refl, refl)
  object_bytes (object.StructList p words n d k) t e =
      let a = bind_some (each_element below (place_view p) (words_there g.segments (place_view p) words) d k n) _ t e in
      subst (Reads g levels (object.StructList p words n d k) s) (some_is _ t a.2) (refl, refl)

-- the tree of the object that is read
tree_here : (n : ℕ) (p : Place) (f : Found) (t : Tree) (g : Ground) (levels : Option ℕ) → IsRead n p f t g levels → tree_in g.segments (tree_at n g.segments) f.object ≡ Some t
tree_here n p f t g levels r = sym (trees n g.segments p f r.found) ∙ r.tree

pub bytes : BytesAreRead
bytes n p f t g levels s r = object_bytes (tree_at n g.segments) g levels r.below r.level s f.object t (tree_here n p f t g levels r)

-- ---- structs

-- What a struct that is read shows, and why it is refused.
abbrev ReadsStruct : (Place → Option Tree) → Ground → Option ℕ → Object → Tree → Type 0
ReadsStruct below g levels o t = ((v : StructView) → read_struct g levels o ≡ Ok v → ShowsStruct below v t) × ((kind : Kind) (s : Schema) (id : ℕ) → read_struct g levels o ≡ Err kind → read s t (struct id) ≡ fault kind)

module _ (below : Place → Option Tree) (g : Ground) (levels left : Option ℕ) (level : level_below levels ≡ Ok left) where
  object_struct : (o : Object) (t : Tree) → tree_in g.segments below o ≡ Some t → ReadsStruct below g levels o t
  unfolding read
  object_struct object.Null t e =
      subst (ReadsStruct below g levels object.Null) (some_is null t e) (λ v h. subst (λ x. ShowsStruct below x null) (ok_is _ _ h) (refl, refl, λ i. each_child below 0 root none i (nat_lt i 0) refl refl), λ kind s id h. absurd cc)
  object_struct (object.Capability i) t e = subst (ReadsStruct below g levels (object.Capability i)) (some_is _ t e) (λ v h. absurd cc, λ kind s id h. let is : WrongPointerKind ≡ kind = cc in ap fault is)
  object_struct (object.Struct p d k) t e =
      let a = bind_some (each below (after (place_view p) d) k) _ t e in
      let v : StructView = struct_view g (section_at g.segments (place_view p) d) (64 * d) (after (place_view p) d) k left in
      let is : read_struct g levels (object.Struct p d k) ≡ Ok v = rw level refl in
      subst (ReadsStruct below g levels (object.Struct p d k)) (some_is _ t a.2)
      (λ w h. subst (λ x. ShowsStruct below x (structure d (section_at g.segments (place_view p) d) a.0)) (ok_is _ _ (sym is ∙ h)) (refl, refl, λ i. each_child below k (after (place_view p) d) a.0 i (nat_lt i k) refl a.1), λ kind s id h. let no : ◌≡◌ {A = Result StructView Kind} (Ok v) (Err kind) = sym is ∙ h in absurd cc)
  object_struct (object.List p size n) t e = subst (ReadsStruct below g levels (object.List p size n)) (some_is _ t e) (λ v h. absurd cc, λ kind s id h. let is : WrongPointerKind ≡ kind = cc in ap fault is)
  object_struct (object.PointerList p n) t e =
      let a = bind_some (each below (place_view p) n) _ t e in
      subst (ReadsStruct below g levels (object.PointerList p n)) (some_is _ t a.2) (λ v h. absurd cc, λ kind s id h. let is : WrongPointerKind ≡ kind = cc in ap fault is)
  object_struct (object.StructList p words n d k) t e =
      let a = bind_some (each_element below (place_view p) (words_there g.segments (place_view p) words) d k n) _ t e in
      subst (ReadsStruct below g levels (object.StructList p words n d k)) (some_is _ t a.2) (λ v h. absurd cc, λ kind s id h. let is : WrongPointerKind ≡ kind = cc in ap fault is)

pub structs : StructsAreRead
structs n p f t g levels r = object_struct (tree_at n g.segments) g levels r.below r.level f.object t (tree_here n p f t g levels r)

-- ---- lists

-- What a list that is read shows, and why it is refused.
abbrev ReadsList : (Place → Option Tree) → Ground → Option ℕ → ElementSize → Object → Tree → Type 0
ReadsList below g levels expected o t =
    ((l : ListView) → read_list g levels expected o ≡ Ok l → ShowsList below l t)
    × ((kind : Kind) (s : Schema) (ty : Ty) → size_number expected ≡ expected_size ty → read_list g levels expected o ≡ Err kind → read s t (list ty) ≡ fault kind)

elements_count : (f : Place → Option Tree) (n : ℕ) (p : Place) (ws : List ℕ) (d k : ℕ) (es : Elements) → each_element f p ws d k n ≡ Some es → element_count es ≡ n
elements_count f zero p ws d k es e = ap element_count (sym (some_is no_elements es e))
elements_count f (suc n) p ws d k es e =
    let a = bind_some (each f (after p d) k) _ es e in
    let b = bind_some (each_element f (after p (d + k)) (drop (d + k) ws) d k n) _ es a.2 in
    ap element_count (sym (some_is _ _ b.2)) ∙ ap suc (elements_count f n (after p (d + k)) (drop (d + k) ws) d k b.0 b.1)

module _ (below : Place → Option Tree) (g : Ground) (levels left : Option ℕ) (level : level_below levels ≡ Ok left) (expected : ElementSize) where
  -- the view that is answered
  elements_ok : (view : Option ℕ → ListView) (size : ElementSize) (d k : ℕ) (l : ListView) → read_elements levels expected view size d k ≡ Ok l → view left ≡ l
  elements_ok view size d k l e =
      let a = bind_ok (level_below levels) _ l e in
      let b = guard_ok (is_accepted_as (size_number expected) (list_head size d k)) WrongElementSize _ l a.2 in
      ap view (ok_is _ _ (sym level ∙ a.1)) ∙ ok_is _ _ b.1

  -- why the elements are refused
  elements_err : (view : Option ℕ → ListView) (size : ElementSize) (d k : ℕ) (kind : Kind) → read_elements levels expected view size d k ≡ Err kind → (is_accepted_as (size_number expected) (list_head size d k) ≡ false) × (WrongElementSize ≡ kind)
  elements_err view size d k kind e = by (is_accepted_as (size_number expected) (list_head size d k)) refl (sym (rw level refl) ∙ e)
    where
      by : (b : Bool) → is_accepted_as (size_number expected) (list_head size d k) ≡ b → (guard b WrongElementSize and_then λ _. Ok (view left)) ≡ Err kind → (is_accepted_as (size_number expected) (list_head size d k) ≡ false) × (WrongElementSize ≡ kind)
      by true h f = absurd cc
      by false h f = (h, cc)

  -- the tree is refused alike
  refused_alike : (size : ElementSize) (d k : ℕ) (kind : Kind) (t : Tree) (rs : Readings) (ty : Ty) → is_accepted_as (size_number expected) (list_head size d k) ≡ is_accepted_as (size_number expected) t → size_number expected ≡ expected_size ty
      → (is_accepted_as (size_number expected) (list_head size d k) ≡ false) × (WrongElementSize ≡ kind) → list_reading (is_list_of t ty) rs ≡ fault kind
  refused_alike size d k kind t rs ty same e h =
      let no : is_list_of t ty ≡ false = ap (λ (x : ℕ). is_accepted_as x t) (sym e) ∙ sym same ∙ h.0 in
      ap (λ (b : Bool). list_reading b rs) no ∙ ap fault h.1

  -- no pointer is in an element
  no_child_in : (p : Place) (i : ℕ) → reads_behind below (if nat_lt i 0 then Some (after p i) else None) ≡ Some (child none i)
  no_child_in p i = each_child below 0 p none i (nat_lt i 0) refl refl

  plain_list_read : (p : wire.Place) (size : ElementSize) (n : ℕ) → size_number size < 6
      → ReadsList below g levels expected (object.List p size n) (plain_list (size_number size) n (section_at g.segments (place_view p) (words_for (data_bits (size_number size) * n)) % 2 ^ (data_bits (size_number size) * n)))
  unfolding read
  plain_list_read p Void n small =
      let all : ℕ = section_at g.segments (place_view p) (words_for (0 * n)) in
      let view : Option ℕ → ListView = list_view g Void n all (place_view p) 0 0 in (
        λ l h. subst (λ x. ShowsList below x (plain_list (size_number Void) n (all % 2 ^ (0 * n)))) (elements_ok view Void 0 0 l h) (refl, refl, λ i k. (sym (numbers_at 0 n (all % 2 ^ (0 * n)) i k), refl, no_child_in (element_as_struct (view left) i).first)),
        λ kind s ty e h. refused_alike Void 0 0 kind (plain_list 0 n (all % 2 ^ (0 * n))) (plain_readings s 0 (plain_elements 0 n (all % 2 ^ (0 * n))) ty) ty refl e (elements_err view Void 0 0 kind h),
      )
  plain_list_read p Bit n small =
      let all : ℕ = section_at g.segments (place_view p) (words_for (1 * n)) in
      let view : Option ℕ → ListView = list_view g Bit n all (place_view p) 0 0 in (
        λ l h. subst (λ x. ShowsList below x (plain_list (size_number Bit) n (all % 2 ^ (1 * n)))) (elements_ok view Bit 0 0 l h) (refl, refl, λ i k. (sym (numbers_at 1 n (all % 2 ^ (1 * n)) i k), refl, no_child_in (element_as_struct (view left) i).first)),
        λ kind s ty e h. refused_alike Bit 0 0 kind (plain_list 1 n (all % 2 ^ (1 * n))) (plain_readings s 1 (plain_elements 1 n (all % 2 ^ (1 * n))) ty) ty refl e (elements_err view Bit 0 0 kind h),
      )
  plain_list_read p Byte n small =
      let all : ℕ = section_at g.segments (place_view p) (words_for (8 * n)) in
      let view : Option ℕ → ListView = list_view g Byte n all (place_view p) 0 0 in (
        λ l h. subst (λ x. ShowsList below x (plain_list (size_number Byte) n (all % 2 ^ (8 * n)))) (elements_ok view Byte 0 0 l h) (refl, refl, λ i k. (sym (numbers_at 8 n (all % 2 ^ (8 * n)) i k), refl, no_child_in (element_as_struct (view left) i).first)),
        λ kind s ty e h. refused_alike Byte 0 0 kind (plain_list 2 n (all % 2 ^ (8 * n))) (plain_readings s 8 (plain_elements 2 n (all % 2 ^ (8 * n))) ty) ty refl e (elements_err view Byte 0 0 kind h),
      )
  plain_list_read p TwoBytes n small =
      let all : ℕ = section_at g.segments (place_view p) (words_for (16 * n)) in
      let view : Option ℕ → ListView = list_view g TwoBytes n all (place_view p) 0 0 in (
        λ l h. subst (λ x. ShowsList below x (plain_list (size_number TwoBytes) n (all % 2 ^ (16 * n)))) (elements_ok view TwoBytes 0 0 l h) (refl, refl, λ i k. (sym (numbers_at 16 n (all % 2 ^ (16 * n)) i k), refl, no_child_in (element_as_struct (view left) i).first)),
        λ kind s ty e h. refused_alike TwoBytes 0 0 kind (plain_list 3 n (all % 2 ^ (16 * n))) (plain_readings s 16 (plain_elements 3 n (all % 2 ^ (16 * n))) ty) ty refl e (elements_err view TwoBytes 0 0 kind h),
      )
  plain_list_read p FourBytes n small =
      let all : ℕ = section_at g.segments (place_view p) (words_for (32 * n)) in
      let view : Option ℕ → ListView = list_view g FourBytes n all (place_view p) 0 0 in (
        λ l h. subst (λ x. ShowsList below x (plain_list (size_number FourBytes) n (all % 2 ^ (32 * n)))) (elements_ok view FourBytes 0 0 l h) (refl, refl, λ i k. (sym (numbers_at 32 n (all % 2 ^ (32 * n)) i k), refl, no_child_in (element_as_struct (view left) i).first)),
        λ kind s ty e h. refused_alike FourBytes 0 0 kind (plain_list 4 n (all % 2 ^ (32 * n))) (plain_readings s 32 (plain_elements 4 n (all % 2 ^ (32 * n))) ty) ty refl e (elements_err view FourBytes 0 0 kind h),
      )
  plain_list_read p EightBytes n small =
      let all : ℕ = section_at g.segments (place_view p) (words_for (64 * n)) in
      let view : Option ℕ → ListView = list_view g EightBytes n all (place_view p) 0 0 in (
        λ l h. subst (λ x. ShowsList below x (plain_list (size_number EightBytes) n (all % 2 ^ (64 * n)))) (elements_ok view EightBytes 0 0 l h) (refl, refl, λ i k. (sym (numbers_at 64 n (all % 2 ^ (64 * n)) i k), refl, no_child_in (element_as_struct (view left) i).first)),
        λ kind s ty e h. refused_alike EightBytes 0 0 kind (plain_list 5 n (all % 2 ^ (64 * n))) (plain_readings s 64 (plain_elements 5 n (all % 2 ^ (64 * n))) ty) ty refl e (elements_err view EightBytes 0 0 kind h),
      )
  plain_list_read p Pointer n small = absurd (omega arith)
  plain_list_read p InlineComposite n small = absurd (omega arith)

  -- the one child of an element
  one_child : (p : Place) (n i : ℕ) (kids : Trees) (j : ℕ) → each below p n ≡ Some kids → i < n → reads_behind below (if nat_lt j 1 then Some (after (after p (1 * i + 0)) j) else None) ≡ Some (child (child kids i ▸ none) j)
  one_child p n i kids j e h =
      let inside : nat_lt i n ≡ true = grind (arith, nat_tests) in
      let there : p.position + (1 * i + 0) ≡ p.position + i = omega arith in
      let here : below (after p (1 * i + 0)) ≡ Some (child kids i) = ap (λ (q : ℕ). below (place p.segment q)) there ∙ each_child below n p kids i true inside e in
      each_child below 1 (after p (1 * i + 0)) (child kids i ▸ none) j (nat_lt j 1) refl (rw here refl)

  object_list : (o : Object) (t : Tree) → Holds g.segments o → tree_in g.segments below o ≡ Some t → ReadsList below g levels expected o t
  unfolding read
  object_list object.Null t held e = subst (ReadsList below g levels expected object.Null) (some_is null t e) (λ l h. subst (λ x. ShowsList below x null) (ok_is _ _ h) refl, λ kind s ty c h. absurd cc)
  object_list (object.Capability i) t held e = subst (ReadsList below g levels expected (object.Capability i)) (some_is _ t e) (λ l h. absurd cc, λ kind s ty c h. let is : WrongPointerKind ≡ kind = cc in ap fault is)
  object_list (object.Struct p d k) t held e =
      let a = bind_some (each below (after (place_view p) d) k) _ t e in
      subst (ReadsList below g levels expected (object.Struct p d k)) (some_is _ t a.2) (λ l h. absurd cc, λ kind s ty c h. let is : WrongPointerKind ≡ kind = cc in ap fault is)
  object_list (object.List p size n) t held e = subst (ReadsList below g levels expected (object.List p size n)) (some_is _ t e) (plain_list_read p size n held)
  object_list (object.PointerList p n) t held e =
      let a = bind_some (each below (place_view p) n) _ t e in
      let view : Option ℕ → ListView = list_view g Pointer n 0 (place_view p) 0 0 in
      let count = each_count below (place_view p) n a.0 a.1 in
      let nothing : (i : ℕ) → (element_as_struct (view left) i).section ≡ 0 = λ i. omega arith in
      subst (ReadsList below g levels expected (object.PointerList p n)) (some_is _ t a.2) (
        λ l h. subst (λ x. ShowsList below x (pointer_list a.0)) (elements_ok view Pointer 0 0 l h) (refl, sym count, λ i k. (nothing i, refl, λ j. one_child (place_view p) n i a.0 j a.1 (omega arith))),
        λ kind s ty c h. refused_alike Pointer 0 0 kind (pointer_list a.0) (pointer_elements s a.0 ty) ty refl c (elements_err view Pointer 0 0 kind h),
      )
  object_list (object.StructList p words n d k) t held e =
      let a = bind_some (each_element below (place_view p) (words_there g.segments (place_view p) words) d k n) _ t e in
      let view : Option ℕ → ListView = list_view g InlineComposite n (section_at g.segments (place_view p) (n * (d + k))) (place_view p) d k in
      let count = elements_count below n (place_view p) (words_there g.segments (place_view p) words) d k a.0 a.1 in
      subst (ReadsList below g levels expected (object.StructList p words n d k)) (some_is _ t a.2) (
        λ l h. subst (λ x. ShowsList below x (struct_list d k a.0)) (elements_ok view InlineComposite d k l h) (refl, sym count, refl, structs_shown below g.segments g left (place_view p) words n d k a.0 held a.1),
        λ kind s ty c h. refused_alike InlineComposite d k kind (struct_list d k a.0) (struct_elements s a.0 ty) ty refl c (elements_err view InlineComposite d k kind h),
      )

pub lists : ListsAreRead
lists n p f t g levels expected r = object_list (tree_at n g.segments) g levels r.below r.level expected f.object t (holds_at g.segments p f r.found) (tree_here n p f t g levels r)
