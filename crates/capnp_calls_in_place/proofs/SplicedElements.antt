-- What is put at an index of a trimmed list of plain elements, or of texts or data, and the change that does the same to the whole one.
use Rattle.std.proofs.Common.{◌≡◌, ℕ, zero, suc, ◌+◌, ◌*◌, ◌^◌, ◌<◌, Option, None, [], ◌∷◌, refl, ap, sym, subst, ◌∙◌, arith}
use lib.Bits.{xor_zero_r}
use Rattle.capnp_model.specs.Sections.{with_bits, numbers_in, number_of}
use Rattle.capnp_model.specs.Trees.{Tree, null, capability, structure, plain_list, pointer_list, struct_list, Trees, none, ◌▸◌, child, with_child, tree_count, is_null, size_bits, depths}
use Rattle.capnp_model.specs.Trimming.{trim, trim_each}
use Rattle.capnp_model.specs.Schemas.{PlainType, width, Ty, void, plain, text, blob, untyped, interface, struct, list, Body, Schema, default_or_null}
use Rattle.capnp_model.specs.Calls.{index, set_to, CallValue, Content}
use Rattle.capnp_model.specs.Edits.{Cell, Edit, put_child, put_in_element, opened_tree, on_plain, on_pointers, edit_list, as_list, edit_field, edit_element}
use Rattle.capnp_model.proofs.lemmas.Stripping.{child-trim_each}
use Rattle.capnp_model.proofs.lemmas.TrimFits.{count-trim_each, depths-trim_each}
use Rattle.capnp_model.proofs.lemmas.Widening.{trim_each-with_child}
use Rattle.capnp_calls_splice.specs.Blobs.{tree_of_blob}
use Rattle.capnp_calls_splice.specs.DataWords.{put_set}
use Rattle.capnp_calls_splice.specs.Splices.{TakesBlob, IsBlobSlot, PutsBlobAt, IsElement, set_element, PutsIntoCell}
use Rattle.capnp_calls_splice.specs.declared.blob.Blob.{Blob}
use Rattle.capnp_calls_splice.specs.declared.plain.PlainSet.{PlainSet}
use Rattle.capnp_calls_splice.specs.declared.splice.Put.TheVariants as puts
use Rattle.capnp_calls.specs.PlainFields.{SetsPlainSlot}
use Rattle.capnp_calls.specs.Splices.{IsBlobOf, IsElementPut}
use Rattle.capnp_calls_in_place.proofs.SplicedKids.{took_depths}
use Rattle.capnp_calls_in_place.proofs.SplicedCells.{IsEditOf, IsChangeOf, child_is}
use Rattle.capnp_calls_in_place.proofs.SplicedEnds.{opened_is}
use Rattle.capnp_calls_in_place.proofs.SplicedNumbers.{element_put}

-- ---- a list of bytes among pointers

pub slot_inside : (ts : Trees) (k : ℕ) → IsBlobSlot k (trim_each ts) → k < tree_count ts
slot_inside ts k h = let same = count-trim_each ts in let less = h.inside in omega (arith, less, same)

pointers_put : (f : Edit) (t : Tree) → ((c : Cell) → f c ≡ put_child 0 t c) → (k : ℕ) (ts : Trees) → k < tree_count ts → on_pointers f k ts ≡ with_child ts k t
pointers_put f t is k none l = absurd (omega (arith, l))
pointers_put f t is zero (u ▸ ts) l = ap (λ (c : Cell). child c.kids 0 ▸ ts) (is (record { section = 0; kids = u ▸ none }))
pointers_put f t is (suc k) (u ▸ ts) l = ap (λ us. u ▸ us) (pointers_put f t is k ts (omega (arith, l)))

module _ (b : Blob) (k : ℕ) (e : ℕ → ℕ → Edit) (is : (w p : ℕ) (c : Cell) → e w p c ≡ put_child 0 (tree_of_blob b) c) where
  blob_made : IsChangeOf (PutsBlobAt k b) (edit_list e k)
  unfolding trim
  blob_made null new fit h = absurd h
  blob_made (capability i) new fit h = absurd h
  blob_made (structure w section kids) new fit h = absurd h
  blob_made (plain_list z n section) new fit h = absurd h
  blob_made (pointer_list ts) new fit h =
      let t : Tree = tree_of_blob b in
      let put : on_pointers (e 0 1) k ts ≡ with_child ts k t = pointers_put (e 0 1) t (is 0 1) k ts (slot_inside ts k h.0) in
      let takes : TakesBlob (depths (trim_each ts)) (trim (child ts k)) = subst (TakesBlob (depths (trim_each ts))) (child-trim_each ts k) h.0.takes in
      record {
        trimmed = ap (λ (us : Trees). pointer_list (trim_each us)) put ∙ ap pointer_list (trim_each-with_child ts k t) ∙ sym h.1;
        deep = ap (λ (us : Trees). suc (depths us)) put ∙ ap suc (took_depths ts (depths (trim_each ts)) k b (depths-trim_each ts) takes);
        some = refl;
        some_new = ap is_null h.1;
      }
  blob_made (struct_list w p es) new fit h = absurd h

-- ---- a number among plain elements

-- A number takes the place of an element.
abbrev pub PutsElement : ℕ → PlainSet → Tree → Tree → Type 0
PutsElement k p old new = IsElement k p old × (new ≡ set_element p old)

module _ (p : PlainSet) (k : ℕ) (e : ℕ → ℕ → Edit) (is : (c : Cell) → (e 1 0 c).section ≡ with_bits 0 p.width p.bits c.section) where
  number_in : (w n section : ℕ) → w ≡ p.width → k < n → 64 * p.word + p.shift ≡ p.width * k → section < 2 ^ (w * n) → number_of w (on_plain (e 1 0) k (numbers_in w n section)) ≡ put_set p section
  number_in w n section same below place inside =
      let made : number_of p.width (on_plain (e 1 0) k (numbers_in p.width n section)) ≡ put_set p section =
      element_put p.width n k p.bits section (e 1 0) p.fits is below (subst (λ (x : ℕ). section < 2 ^ (x * n)) same inside) ∙ ap (λ (at : ℕ). with_bits at p.width p.bits section) (sym place) in
      subst (λ (x : ℕ). number_of x (on_plain (e 1 0) k (numbers_in x n section)) ≡ put_set p section) (sym same) made

  number_made : IsChangeOf (PutsElement k p) (edit_list e k)
  unfolding trim
  number_made null new fit h = absurd h.0
  number_made (capability i) new fit h = absurd h.0
  number_made (structure w section kids) new fit h = absurd h.0
  number_made (plain_list z n section) new fit h = record {
    trimmed = ap (plain_list z n) (number_in (size_bits z) n section h.0.0 h.0.1 h.0.2 fit.2) ∙ sym h.1;
    deep = refl;
    some = refl;
    some_new = ap is_null h.1;
  }
  number_made (pointer_list ts) new fit h = absurd h.0
  number_made (struct_list w q es) new fit h = absurd h.0

-- ---- at the end of a path

module _ (s : Schema) (v : CallValue) where
  -- The edit of a list of a type that isn't one of structs.
  abbrev in_list : ℕ → Ty → Tree → Tree
  in_list k ty t = edit_list (edit_element s [] (set_to v) ty) k (as_list s ty t)

  blob_change : (b : Blob) (k : ℕ) (ty : Ty) → IsBlobOf b ty v → IsChangeOf (PutsBlobAt k b) (in_list k ty)
  unfolding edit_element
  blob_change b k void h = absurd h.0
  blob_change b k (plain q) h = absurd h.0
  blob_change b k text h = blob_made b k (edit_element s [] (set_to v) text) (λ w p c. ap (λ (x : Content). put_in_element w p text x c) h.1)
  blob_change b k blob h = blob_made b k (edit_element s [] (set_to v) blob) (λ w p c. ap (λ (x : Content). put_in_element w p blob x c) h.1)
  blob_change b k untyped h = absurd h.0
  blob_change b k interface h = absurd h.0
  blob_change b k (struct id) h = absurd h.0
  blob_change b k (list ty) h = absurd h.0

  number_change : (p : PlainSet) (k : ℕ) (q : PlainType) → SetsPlainSlot q (width q * k) 0 v p → IsChangeOf (PutsElement k p) (in_list k (plain q))
  unfolding edit_element
  number_change p k q h = number_made p k (edit_element s [] (set_to v) (plain q))
      (λ c. ap (λ (x : Content). (put_in_element 1 0 (plain q) x c).section) h.value ∙ ap (λ (n : ℕ). with_bits 0 (width q) n c.section) (xor_zero_r p.bits) ∙ ap (λ (w : ℕ). with_bits 0 w p.bits c.section) (sym h.width))

  -- A list of bytes at an index.
  pub blob_at_is : (limit j k : ℕ) (b : Blob) (union : Option ℕ) (body : Body) → IsElementPut (puts.BlobAt j k b) body v → IsEditOf limit (PutsIntoCell (puts.BlobAt j k b)) (edit_field s (index k ∷ []) (set_to v) union None body)
  unfolding edit_field
  blob_at_is limit j k b union body h =
      let ty : Ty = h.0 in
      let d : Tree = default_or_null h.1 in
      subst (λ (x : Body). IsEditOf limit (PutsIntoCell (puts.BlobAt j k b)) (edit_field s (index k ∷ []) (set_to v) union None x)) (sym h.2)
      (child_is limit (PutsBlobAt k b) (λ t. in_list k ty (opened_tree (list ty) d t)) j (opened_is (PutsBlobAt k b) (in_list k ty) (list ty) d (blob_change b k ty h.3)))

  -- A number at an index.
  pub number_at_is : (limit j k : ℕ) (p : PlainSet) (union : Option ℕ) (body : Body) → IsElementPut (puts.NumberAt j k p) body v → IsEditOf limit (PutsIntoCell (puts.NumberAt j k p)) (edit_field s (index k ∷ []) (set_to v) union None body)
  unfolding edit_field
  number_at_is limit j k p union body h =
      let ty : Ty = plain h.0 in
      let d : Tree = default_or_null h.1 in
      let change = child_is limit (PutsElement k p) (λ t. in_list k ty (opened_tree (list ty) d t)) j (opened_is (PutsElement k p) (in_list k ty) (list ty) d (number_change p k h.0 h.3)) in
      subst (λ (x : Body). IsEditOf limit (PutsIntoCell (puts.NumberAt j k p)) (edit_field s (index k ∷ []) (set_to v) union None x)) (sym h.2)
      (λ n m cut new old is puts. change n m cut new old is (puts.0, set_element p (child cut.kids j), (puts.1, refl), puts.2))
