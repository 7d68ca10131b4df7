-- The edits at the ends of paths do what is put there, and whatever isn't null is opened as it is.
use Rattle.std.proofs.Common.{◌≡◌, ℕ, ◌+◌, ◌*◌, ◌^◌, ◌<◌, false, Option, Some, None, bit_xor, refl, ap, sym, subst, ◌∙◌, arith}
use Rattle.capnp_model.specs.Sections.{with_bits, needed_words}
use Rattle.capnp_model.specs.Trees.{Tree, null, capability, structure, plain_list, pointer_list, struct_list, Trees, tree_count, child, with_child, is_null, depths}
use Rattle.capnp_model.specs.Trimming.{stripped, trim, trim_each}
use Rattle.capnp_model.specs.Schemas.{PlainType, width, Ty, Body, void_slot, plain_slot, pointer_slot, group_slot, Schema}
use Rattle.capnp_model.specs.Accepted.{areas_of_body}
use Rattle.capnp_model.specs.Calls.{set_to, CallValue, Content}
use Rattle.capnp_model.specs.Edits.{Cell, Edit, put_bits, put_child, mark, put_content, put_field, opened_tree}
use Rattle.capnp_model.proofs.lemmas.Bits.{xor_twice}
use Rattle.capnp_model.proofs.lemmas.Counts.{count-with_child}
use Rattle.capnp_model.proofs.lemmas.Widening.{stripped-with_child, trim_each-with_child}
use Rattle.capnp_model.proofs.lemmas.ReachedStructs.{AllInside}
use Rattle.capnp_calls_splice.specs.Blobs.{tree_of_blob}
use Rattle.capnp_calls_splice.specs.DataWords.{put_set}
use Rattle.capnp_calls_splice.specs.Splices.{TakesBlob, PutsNumber as PutsInCell, PutsIntoCell}
use Rattle.capnp_calls_splice.specs.declared.blob.Blob.{Blob}
use Rattle.capnp_calls_splice.specs.declared.plain.PlainSet.{PlainSet}
use Rattle.capnp_calls_splice.specs.declared.splice.Put.{Put}
use Rattle.capnp_calls_splice.specs.declared.splice.Put.TheVariants as puts
use Rattle.capnp_calls.specs.PlainFields.{SetsPlainSlot}
use Rattle.capnp_calls.specs.Splices.{IsPutOf, MarksMember, IsNumberOf}
use Rattle.capnp_calls_in_place.proofs.InsideShapes.{number_below}
use Rattle.capnp_calls_in_place.proofs.SplicedCells.{Follows, IsEditOf, Makes, IsChangeOf, with_number, number_is, with_any}
use Rattle.capnp_calls_in_place.proofs.SplicedKids.{child_same, bare_count_more, deeper_whole, took_depths}
use Rattle.capnp_model.proofs.lemmas.TrimTwice.{null_trimmed}

-- Edits that do the same.
pub edits_alike : (limit : ℕ) (puts : ℕ → ℕ → Cell → Cell → Type 0) (f g : Edit) → ((c : Cell) → f c ≡ g c) → IsEditOf limit puts f → IsEditOf limit puts g
edits_alike limit puts f g e h n m cut new old is p = subst (Follows limit n m cut new old) (e old) (h n m cut new old is p)

opened_some : (ty : Ty) (d t : Tree) → is_null t ≡ false → opened_tree ty d t ≡ t
opened_some ty d null some = absurd (cc some)
opened_some ty d (capability i) some = refl
opened_some ty d (structure w section kids) some = refl
opened_some ty d (plain_list z n section) some = refl
opened_some ty d (pointer_list ts) some = refl
opened_some ty d (struct_list w p es) some = refl

-- What isn't null is opened as it is.
pub opened_is : (puts : Tree → Tree → Type 0) (f : Tree → Tree) (ty : Ty) (d : Tree) → IsChangeOf puts f → IsChangeOf puts (λ t. f (opened_tree ty d t))
opened_is puts f ty d h old new fit p =
    let made : Makes old (f old) new = h old new fit p in
    subst (λ (t : Tree). Makes old (f t) new) (sym (opened_some ty d old (sym (null_trimmed old) ∙ made.some))) made

-- ---- the end of a path

-- A list of bytes at a pointer.
blob_is : (limit i : ℕ) (b : Blob) → IsEditOf limit (PutsIntoCell (puts.Blob i b)) (put_child i (tree_of_blob b))
unfolding trim
blob_is limit i b n m cut new old is p =
    let t : Tree = tree_of_blob b in
    let slot = p.1 in
    let same : child cut.kids i ≡ trim (child old.kids i) = child_same old.kids cut.kids i is.kids in
    let takes : TakesBlob (depths cut.kids) (trim (child old.kids i)) = subst (TakesBlob (depths cut.kids)) same slot.takes in
    let sections : new.section ≡ cut.section = ap (λ (c : Cell). c.section) p.2 in
    let children : new.kids ≡ with_child cut.kids i t = ap (λ (c : Cell). c.kids) p.2 in
    let kids : stripped (trim_each (with_child old.kids i t)) ≡ stripped (with_child cut.kids i t) =
    ap stripped (trim_each-with_child old.kids i t) ∙ sym (stripped-with_child (trim_each old.kids) i t) ∙ ap (λ (us : Trees). stripped (with_child us i t)) is.kids ∙ stripped-with_child cut.kids i t in
    let wide = p.0 in
    let more = bare_count_more cut.kids i t refl in
    let bare = ap (λ (us : Trees). tree_count (stripped us)) children in
    record {
      section = is.section ∙ sym sections;
      kids = kids ∙ ap stripped (sym children);
      inside = subst (λ (k : ℕ). new.section < 2 ^ (64 * k)) (sym wide) (subst (λ (s : ℕ). s < 2 ^ (64 * n)) (sym sections) is.inside);
      most = omega (arith, wide);
      words = λ e. ap (needed_words m) sections ∙ ap (λ (k : ℕ). needed_words k cut.section) wide ∙ e ∙ sym wide;
      count = ap tree_count children ∙ count-with_child cut.kids i t slot.inside;
      least = omega (arith, bare, more);
      deep = took_depths old.kids (depths cut.kids) i b (deeper_whole old.kids cut.kids is.kids) takes;
    }

module _ (s : Schema) (v : CallValue) where
  number_put : (p : PlainSet) (q : PlainType) (at d : ℕ) → SetsPlainSlot q at d v p → (c : Cell) → with_number p c ≡ put_field s (set_to v) (plain_slot q at d) c
  number_put p q at d h c =
      let x : ℕ = bit_xor p.bits d in
      let same : with_bits at (width q) (bit_xor x d) c.section ≡ put_set p c.section =
      ap (λ (i : ℕ). with_bits i (width q) (bit_xor x d) c.section) (sym h.place) ∙ ap (λ (w : ℕ). with_bits (64 * p.word + p.shift) w (bit_xor x d) c.section) (sym h.width)
      ∙ ap (λ (y : ℕ). with_bits (64 * p.word + p.shift) p.width y c.section) (xor_twice p.bits d) in
      let made : Cell → Cell = put_bits at (width q) (bit_xor x d) in
      sym (ap (λ (k : Content). put_content (plain_slot q at d) k c) h.value ∙ ap (λ (n : ℕ). record { section = n; kids = c.kids }) same)

  pub put_is : (limit q : ℕ) (put : Put) (body : Body) → IsPutOf put body v → AllInside limit q (areas_of_body body) → IsEditOf limit (PutsIntoCell put) (put_field s (set_to v) body)
  put_is limit q (puts.Number p) (void_slot j) h inside = absurd h
  put_is limit q (puts.Number p) (plain_slot t at d) h inside =
      edits_alike limit (PutsInCell p) (with_number p) (put_field s (set_to v) (plain_slot t at d)) (number_put p t at d h) (number_is limit p (number_below limit q p (plain_slot t at d) v h inside))
  put_is limit q (puts.Number p) (pointer_slot i ty d) h inside = absurd h
  put_is limit q (puts.Number p) (group_slot g) h inside = absurd h
  put_is limit q (puts.Blob j b) (void_slot k) h inside = absurd h
  put_is limit q (puts.Blob j b) (plain_slot t at d) h inside = absurd h
  put_is limit q (puts.Blob j b) (pointer_slot i ty d) h inside =
      edits_alike limit (PutsIntoCell (puts.Blob j b)) (put_child j (tree_of_blob b)) (put_field s (set_to v) (pointer_slot i ty d))
      (λ c. ap (λ (k : ℕ). put_child k (tree_of_blob b) c) (sym h.0) ∙ ap (λ (k : Content). put_content (pointer_slot i ty d) k c) (sym h.1)) (blob_is limit j b)
  put_is limit q (puts.Blob j b) (group_slot g) h inside = absurd h
  put_is limit q (puts.Member m p) body h inside = absurd h
  put_is limit q (puts.BlobAt j k b) body h inside = absurd h
  put_is limit q (puts.NumberAt j k p) body h inside = absurd h

  -- A number, if there is one.
  pub any_put : (p : Option PlainSet) (body : Body) → IsNumberOf p body v → (c : Cell) → with_any p c ≡ put_field s (set_to v) body c
  any_put None (void_slot j) h c = refl
  any_put None (plain_slot q at d) h c = absurd h
  any_put None (pointer_slot i ty d) h c = absurd h
  any_put None (group_slot g) h c = absurd h
  any_put (Some p) (void_slot j) h c = absurd h
  any_put (Some p) (plain_slot q at d) h c = number_put p q at d h c
  any_put (Some p) (pointer_slot i ty d) h c = absurd h
  any_put (Some p) (group_slot g) h c = absurd h

pub unmarked : (union : Option ℕ) (c : Cell) → mark union None c ≡ c
unmarked None c = refl
unmarked (Some at) c = refl

-- The discriminant of a member is put as a number is.
pub marked_is : (m : PlainSet) (union member : Option ℕ) → MarksMember m union member → (c : Cell) → with_number m c ≡ mark union member c
marked_is m (Some at) (Some k) h c =
    let same : put_set m c.section ≡ with_bits at 16 k c.section =
    ap (λ (i : ℕ). with_bits i m.width m.bits c.section) h.place ∙ ap (λ (w : ℕ). with_bits at w m.bits c.section) h.width ∙ ap (λ (x : ℕ). with_bits at 16 x c.section) h.bits in
    ap (λ (n : ℕ). record { section = n; kids = c.kids }) same
marked_is m (Some at) None h c = absurd h
marked_is m None member h c = absurd h
