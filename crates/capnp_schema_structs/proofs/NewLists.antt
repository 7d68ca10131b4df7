-- New lists, as the model has them.
use Rattle.std.proofs.Common.{◌≡◌, ◌↔◌, ◌⊎◌, inl, inr, ℕ, zero, suc, ◌+◌, ◌*◌, ◌^◌, ◌≤◌, Bool, true, false, ◌==◌, if◌then◌else◌, Result, Option, Some, refl, sym, ap, subst, ◌∙◌, arith}
use Rattle.std.specs.Prelude.{option_map}
use Rattle.capnp_model.specs.Sections.{words_for}
use Rattle.capnp_model.specs.Schemas.{Ty, Field as FieldNode, pointer_slot}
use Rattle.capnp_model.specs.Sizes.{object_words, element_object_words}
use Rattle.capnp_model.specs.Kinds.{InitnIsOnlyValidForListTextOrDataFields}
use Rattle.capnp_model.specs.Trees.{Tree, struct_list, none, element_count, size_bits}
use Rattle.capnp_model.specs.Calls.{Content, object, initn, initn_content, slot_content}
use Rattle.capnp_model.specs.Edits.{Cell, put_child, put_content, put_field}
use Rattle.capnp_units.specs.Segments.{words_in}
use Rattle.capnp_units.specs.declared.errors.Error.{Error}
use Rattle.capnp_units.specs.declared.kinds.ErrorKind.TheVariants.{SizeOverflow}
use Rattle.capnp_model_writes.specs.NewObjects.{new_tree, new_list, new_pointers, zero_elements}
use Rattle.capnp_values_queries.specs.Structs.{schema_around}
use Rattle.capnp_values_queries.specs.Handles.{entry_of_field, IsFieldRecord}
use Rattle.capnp_values_queries.specs.declared.fields.Field.{Field}
use Rattle.capnp_copy_arenas.specs.Allocations.{total_words, TakesJust, TakesAtMost, NoRoom}
use Rattle.capnp_copy_arenas.specs.Lists.{zeros_of, words_of_list}
use Rattle.capnp_copy_arenas.specs.Values.{Becomes}
use Rattle.capnp_wire_objects.specs.Places.{place_view}
use Rattle.capnp_wire_objects.specs.declared.place.Place as code
use Rattle.capnp_copy_arenas.specs.declared.fields.StructPlace.{StructPlace}
use Rattle.capnp_layout_builders.specs.Making.{ArenaState, Makes, ListRefused}
use Rattle.capnp_model_writes.proofs.lemmas.NewKinds.{zero_counted}
use Rattle.capnp_model.proofs.lemmas.Stripping.{count-resized}
use Rattle.capnp_schema_structs.specs.Calls.{edit_of}
use Rattle.capnp_schema_structs.specs.NewLists.{initn_field}
use Rattle.capnp_schema_structs.specs.Puts.{PutsContent, HasTooManyElements, NewObjectRefused}
use Rattle.capnp_schema_structs.proofs.lemmas.GroupFields.{body_is}
use Rattle.capnp_schema_structs.proofs.InitSlots.{no_words}

-- ---- their words

zeros_words : (size n : ℕ) → object_words (new_tree (zeros_of size n)) ≡ words_of_list size n
unfolding object_words
zeros_words size n = by (size == 6)
  where
    by : (b : Bool) → object_words (new_tree (if b then new_pointers n else new_list size n)) ≡ (if b then n else words_for (size_bits size * n))
    by true = let a = no_words n in let b = count-resized n none in omega (arith, a, b)
    by false = refl

elements_words : (d k n : ℕ) → element_object_words d (zero_elements n k) ≡ n * (d + k)
unfolding object_words
elements_words d k zero = omega arith
elements_words d k (suc n) =
    let rest = elements_words d k n in
    let a = no_words k in
    let b = count-resized k none in
    let c : suc n * (d + k) ≡ n * (d + k) + (d + k) = grind arith in
    omega (arith, rest, a, b, c)

structs_words : (d k n : ℕ) → object_words (struct_list d k (zero_elements n k)) ≡ 1 + n * (d + k)
unfolding object_words
structs_words d k n = ap (λ m. 1 + m) (elements_words d k n)

pub list_words : (size n : ℕ) → words_of_list size n ≡ object_words (new_tree (zeros_of size n))
list_words size n = sym (zeros_words size n)

pub struct_list_words : (d k n : ℕ) → 1 + n * (d + k) ≡ object_words (struct_list d k (zero_elements n k))
struct_list_words d k n = sym (structs_words d k n)

-- an object of so many words is made
pub made_of : (old new : ArenaState) (slot : code.Place) (t : Tree) (n : ℕ) → n ≡ object_words t → Becomes (words_in old.segments) (words_in new.segments) (place_view slot) t → TakesJust (words_in old.segments) old.room (words_in new.segments) slot.segment n
    → TakesAtMost (words_in old.segments) (words_in new.segments) n 1 → new.books ≡ old.books → Makes old new slot t (object_words t)
made_of old new slot t n words becomes just most books = subst (λ n. Makes old new slot t n) words (record { becomes = becomes; taken = just; bound = most; books = books })

-- ---- their refusals

-- what is too long by other words
long_as : (old : ArenaState) (segment n m : ℕ) (S T : Type 0) (e : Error) → (S → T) → (T → S) → n ≡ m → ListRefused old segment S n e → ListRefused old segment T m e
long_as old segment n m S T e f g same h =
    let x = subst (λ n. ListRefused old segment S n e) same h in
    ((λ k. elim (x.0.0 k) [ inl a ↦ inl (f a) | inr a ↦ inr a ], λ k. x.0.1 (elim k [ inl a ↦ inl (g a) | inr a ↦ inr a ])), elim x.1 [ inl a ↦ inl (f a) | inr a ↦ inr a ])

long_zeros : (size n : ℕ) → (2 ^ 29 ≤ n → HasTooManyElements (new_tree (zeros_of size n))) × (HasTooManyElements (new_tree (zeros_of size n)) → 2 ^ 29 ≤ n)
long_zeros size n = by (size == 6)
  where
    by : (b : Bool) → (2 ^ 29 ≤ n → HasTooManyElements (new_tree (if b then new_pointers n else new_list size n))) × (HasTooManyElements (new_tree (if b then new_pointers n else new_list size n)) → 2 ^ 29 ≤ n)
    by true = (λ h. subst (λ m. 2 ^ 29 ≤ m) (sym (count-resized n none)) h, λ h. subst (λ m. 2 ^ 29 ≤ m) (count-resized n none) h)
    by false = (λ h. h, λ h. h)

pub list_refused : (old : ArenaState) (segment size n : ℕ) (e : Error) → ListRefused old segment (2 ^ 29 ≤ n) (words_of_list size n) e → NewObjectRefused old segment (new_tree (zeros_of size n)) e
list_refused old segment size n e h = let x = long_zeros size n in long_as old segment (words_of_list size n) (object_words (new_tree (zeros_of size n))) (2 ^ 29 ≤ n) (HasTooManyElements (new_tree (zeros_of size n))) e x.0 x.1 (list_words size n) h

pub structs_refused : (old : ArenaState) (segment n d k : ℕ) (e : Error) → (e.kind ≡ SizeOverflow) ↔ ((2 ^ 29 ≤ n) ⊎ (2 ^ 29 ≤ n * (d + k)) ⊎ (2 ^ 29 ≤ total_words (words_in old.segments) + (n * (d + k) + 2)))
    → (2 ^ 29 ≤ n) ⊎ (2 ^ 29 ≤ n * (d + k)) ⊎ NoRoom (words_in old.segments) old.room segment (1 + n * (d + k)) → NewObjectRefused old segment (struct_list d k (zero_elements n k)) e
structs_refused old segment n d k e kind full =
    let total = total_words (words_in old.segments) in
    let m = n * (d + k) in
    let es = zero_elements n k in
    let count : element_count (zero_elements n k) ≡ n = zero_counted n k in
    let Long : Type 0 = (2 ^ 29 ≤ n) ⊎ (2 ^ 29 ≤ n * (d + k)) in
    let Now : Type 0 = (2 ^ 29 ≤ element_count es) ⊎ (2 ^ 29 ≤ element_count es * (d + k)) in
    let to : Long → Now = subst (λ c. Long → (2 ^ 29 ≤ c) ⊎ (2 ^ 29 ≤ c * (d + k))) (sym count) (λ h. h) in
    let back : Now → Long = subst (λ c. ((2 ^ 29 ≤ c) ⊎ (2 ^ 29 ≤ c * (d + k))) → Long) (sym count) (λ h. h) in
    let more : total + (m + 2) ≡ total + (1 + m + 1) = omega arith in
    let first : ListRefused old segment Long (1 + m) e = (
      (
        λ z. elim (kind.0 z) [ inl a ↦ inl (inl a) | inr (inl a) ↦ inl (inr a) | inr (inr a) ↦ inr (subst (λ w. 2 ^ 29 ≤ w) more a) ],
        λ z. kind.1 (elim z [ inl (inl a) ↦ inl a | inl (inr a) ↦ inr (inl a) | inr a ↦ inr (inr (subst (λ w. 2 ^ 29 ≤ w) (sym more) a)) ]),
      ),
      elim full [ inl a ↦ inl (inl a) | inr (inl a) ↦ inl (inr a) | inr (inr a) ↦ inr a ],
    ) in
    long_as old segment (1 + m) (object_words (struct_list d k es)) Long Now e to back (struct_list_words d k n) first

-- ---- fields

module _ (f : Field) (r : FieldNode) (is : IsFieldRecord f.parent f.index r) (i : ℕ) (ty : Ty) (d : Option Tree) (same : option_map (λ e. e.body) (entry_of_field f) ≡ Some (pointer_slot i ty d)) (n : ℕ) where
  content_is : initn_field (schema_around f.parent) n (entry_of_field f) ≡ initn_content (schema_around f.parent) n ty InitnIsOnlyValidForListTextOrDataFields
  content_is = ap (initn_field (schema_around f.parent) n) is.entry ∙ ap (slot_content (schema_around f.parent) (initn n)) (body_is f r is (pointer_slot i ty d) same)

  pub initn_as : {X : Type 0} (k : Content) → k ≡ initn_content (schema_around f.parent) n ty InitnIsOnlyValidForListTextOrDataFields → (old new : ArenaState) (p : StructPlace) (x : Result X Error) → PutsContent old new p (edit_of f (initn n)) k x → PutsContent old new p (edit_of f (initn n)) (initn_field (schema_around f.parent) n (entry_of_field f)) x
  initn_as k e old new p x h = subst (λ k. PutsContent old new p (edit_of f (initn n)) k x) (e ∙ sym content_is) h

  pub list_put : (t : Tree) → object t ≡ initn_content (schema_around f.parent) n ty InitnIsOnlyValidForListTextOrDataFields → (c : Cell) → put_child i t c ≡ put_field (schema_around f.parent) (initn n) (pointer_slot i ty d) c
  list_put t e c = ap (λ k. put_content (pointer_slot i ty d) k c) e
