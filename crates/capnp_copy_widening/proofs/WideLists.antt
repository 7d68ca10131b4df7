-- Lists that are wide enough, and the greater of two sizes.
use Rattle.std.proofs.Common.{◌≡◌, inl, inr, ℕ, zero, suc, max, ◌+◌, ◌*◌, ◌<◌, ◌≤◌, List, drop, Option, Some, Result, Ok, Err, IfOk, OnOk, refl, ap, sym, ◌∙◌, subst, arith}
use Rattle.capnp_model.specs.Kinds.{Kind}
use Rattle.capnp_model.specs.Sections.{words_for}
use Rattle.capnp_model.specs.Segments.{Segments, Place, after, word_at}
use Rattle.capnp_model.specs.Pointers.{nothing, a_list}
use Rattle.capnp_model.specs.Traversal.{each, each_element, tree_at}
use Rattle.capnp_model.specs.Trees.{Tree, null, plain_list, pointer_list, struct_list, Trees, none, ◌▸◌, tree_count, padded_to, Elements, no_elements, element, element_count, plain_elements}
use Rattle.capnp_model.specs.Edits.{elements_of_plain, elements_of_pointers, padded_elements}
use Rattle.capnp_model.specs.Edits as edit
use Rattle.capnp_model.proofs.lemmas.Chaining.{bind_some, bind_ok, some_is, ok_is}
use Rattle.capnp_units.specs.Sizes.{size_number}
use Rattle.capnp_units.specs.declared.errors.Error.{Error}
use Rattle.capnp_units.specs.declared.sizes.ElementSize.TheVariants.{InlineComposite}
use Rattle.capnp_copy_arenas.specs.Elements.{IsWhole}
use Rattle.capnp_wire.specs.Elements.{element_bits, element_pointers}
use Rattle.capnp_wire_objects.specs.Places.{place_view}
use Rattle.capnp_wire_objects.specs.declared.place.Place as code
use Rattle.capnp_wire_objects.specs.declared.object.Object.TheVariants as object
use Rattle.capnp_wire_objects.specs.declared.object.Found.{Found}
use Rattle.capnp_wire_objects.specs.Objects.{object_at, whole}
use Rattle.capnp_model_writes.specs.Footprints.{OwnsObject}
use Rattle.capnp_model_writes.specs.Changes.{Replaces}
use Rattle.capnp_model_writes.proofs.lemmas.Cells.{element_parts}
use Rattle.capnp_model_writes.proofs.lemmas.Levels.{owned_more, replaced_by_itself}
use Rattle.capnp_model_writes.proofs.lemmas.Lift.{object_of_pointer}
use Rattle.capnp_model_writes.proofs.lemmas.Turns.{list_shape}
use Rattle.capnp_model_writes.proofs.lemmas.Zeros.{null_read}
use Rattle.capnp_copy_arenas.specs.declared.init.ListPlace.{ListPlace}
use Rattle.capnp_copy_arenas.specs.Lists.{object_of_list}
use Rattle.capnp_copy_arenas.specs.Values.{LeadsTo}
use Rattle.capnp_model.proofs.lemmas.PointerWords.{list_kind_small}
use Rattle.capnp_model.proofs.lemmas.Counts.{each_count}
use Rattle.capnp_copy_widening.specs.MovedElements.{least_data_words, least_pointers, IsOfList, as_structs}
use Rattle.capnp_copy_widening.specs.Widened.{GrowthRefused, TakesNear}
use Rattle.capnp_copy_widening.specs.WidenedLists.{list_there, IsWideList, WidensList, words_wanted, HasWideList, StructsGot, ListTakes, WideListRefused}
use Rattle.capnp_copy_widening.proofs.lemmas.GotStructs.{padded_enough, padded_most, same_object}
use Rattle.capnp_copy_widening.proofs.lemmas.ObjectsThere.{named_at}
use Rattle.capnp_copy_widening.specs.Got.{list_place_in}
use Rattle.capnp_copy_widening.specs.declared.lists.Taker.TheVariants as taker
use Rattle.capnp_copy_widening.proofs.FilledLists.{struct_words, struct_pointers, structs_shape}
use Rattle.capnp_copy_widening.proofs.SpreadPointers.{one_pointer}
use Rattle.capnp_copy_widening.proofs.lemmas.CopiedNumbers.{plain_shape, one_data_word}
use Rattle.capnp_copy_widening.proofs.KnownLists.{Known, plain_known, pointers_known, structs_known, known_trees}
use Rattle.capnp_copy_arenas.proofs.lemmas.Making.{null_found}

-- ---- elements that are padded

-- each element has so many children
unfoldable pub AllHave : ℕ → Elements → Type 0
AllHave k no_elements = Unit {0}
AllHave k (element section kids es) = (tree_count kids ≡ k) × AllHave k es

each_has : (f : Place → Option Tree) (p : Place) (ws : List ℕ) (d k c : ℕ) (es : Elements) → each_element f p ws d k c ≡ Some es → AllHave k es
unfolding AllHave
each_has f p ws d k zero es e = subst (AllHave k) (some_is _ _ e) tt
each_has f p ws d k (suc c) es e =
    let x = bind_some (each f (after p d) k) _ es e in
    let y = bind_some (each_element f (after p (d + k)) (drop (d + k) ws) d k c) _ es x.2 in
    subst (AllHave k) (some_is _ _ y.2) (each_count f (after p d) k x.0 x.1, each_has f (after p (d + k)) (drop (d + k) ws) d k c y.0 y.1)

enough : (k m : ℕ) (es : Elements) → k ≤ m → AllHave m es → padded_elements k es ≡ es
unfolding AllHave
enough k m no_elements l h = refl
enough k m (element section kids es) l h = ap (λ (ts : Trees). element section ts (padded_elements k es)) (padded_enough k kids (omega (arith, l, h.0))) ∙ ap (λ (fs : Elements). element section kids fs) (enough k m es l h.1)

most : (k m j : ℕ) (es : Elements) → j ≡ max k m → AllHave m es → padded_elements j es ≡ padded_elements k es
unfolding AllHave
most k m j no_elements e h = refl
most k m j (element section kids es) e h = ap (λ (ts : Trees). element section ts (padded_elements j es)) (padded_most k m j kids e h.0) ∙ ap (λ (fs : Elements). element section (padded_to k kids) fs) (most k m j es e h.1)

-- a struct list's elements
has_all : (n : ℕ) (s : Segments) (p : Place) (m d k : ℕ) (es : Elements) → OwnsObject n s (a_list p 7 m) (struct_list d k es) → AllHave k es
has_all n s p m d k es o = let x = element_parts n s p m d k es o.means in each_has (tree_at n s) (after p 1) (drop 1 x.words) d k (element_count es) es x.elements_are

-- ---- null, and lists that are wide enough

pub null_stays : (s : Segments) (p : Place) (d k : ℕ) → word_at s p ≡ Some 0 → WidensList s s p d k
null_stays s p d k e = λ n t o. (
    let is : null ≡ t = some_is _ _ (sym (null_read n s p e) ∙ o.means) in
    let same : t ≡ as_structs d k t = sym is ∙ ap (as_structs d k) is in
    subst (Replaces (suc n) s s p) same (replaced_by_itself (suc n) s p t (owned_more n (suc n) s p t (omega arith) o))
    )

-- a list of structs by the sizes that are known
pub struct_list_is : (n : ℕ) (s : Segments) (old : ListPlace) (t : Tree) → old.size ≡ InlineComposite → IsOfList old t → OwnsObject n s (object_of_list old) t → (es : Elements) × (t ≡ struct_list old.data_words old.pointers es) × AllHave old.pointers es
struct_list_is n s old t size is o =
    let seven : size_number old.size ≡ 7 = ap size_number size in
    let inner : OwnsObject n s (a_list (place_view old.start) 7 old.claimed) t = subst (λ (z : ℕ). OwnsObject n s (a_list (place_view old.start) z old.claimed) t) seven o in
    let shape = structs_shape n s (place_view old.start) old.claimed t inner in
    let known : IsOfList old (struct_list shape.0 shape.1 shape.2) = subst (IsOfList old) shape.3 is in
    let tree : t ≡ struct_list old.data_words old.pointers shape.2 = shape.3 ∙ ap (λ (x : ℕ). struct_list x shape.1 shape.2) known.0 ∙ ap (λ (x : ℕ). struct_list old.data_words x shape.2) known.1 in
    (shape.2, tree, has_all n s (place_view old.start) old.claimed old.data_words old.pointers shape.2 (subst (OwnsObject n s (a_list (place_view old.start) 7 old.claimed)) tree inner))

pub wide_list_stays : (s : Segments) (p : Place) (old : ListPlace) (d k : ℕ) → LeadsTo s p (object_of_list old) → Known s old → IsWideList old d k → WidensList s s p d k
wide_list_stays s p old d k leads known wide = λ n t o. (
    let o1 = owned_more n (suc n) s p t (omega arith) o in
    let inner = object_of_pointer n s p (record { pads = leads.0; object = object_of_list old }) t leads.1 o1 in
    let x = struct_list_is n s old t wide.0 (known_trees s old known n t inner) inner in
    let words : old.data_words ≡ max d old.data_words = let l = wide.1 in omega (arith, l) in
    let pointers : old.pointers ≡ max k old.pointers = let l = wide.2 in omega (arith, l) in
    let stays : struct_list old.data_words old.pointers x.0 ≡ as_structs d k (struct_list old.data_words old.pointers x.0) =
    ap (λ (y : ℕ). struct_list y old.pointers x.0) words ∙ ap (λ (y : ℕ). struct_list (max d old.data_words) y x.0) pointers ∙ ap (struct_list (max d old.data_words) (max k old.pointers)) (sym (enough k old.pointers x.0 wide.2 x.2)) in
    subst (Replaces (suc n) s s p) (x.1 ∙ stays ∙ ap (as_structs d k) (sym x.1)) (replaced_by_itself (suc n) s p t o1)
    )

-- ---- the greater sizes

plain_least : (size d : ℕ) → size < 6 → words_for (element_bits size d) ≡ edit.least_words size
plain_least zero d l = refl
plain_least (suc size) d l = one_data_word (suc size) d (omega arith) l

plain_pointers : (size k : ℕ) → size < 6 → element_pointers size k ≡ 0
plain_pointers zero k l = refl
plain_pointers (suc zero) k l = refl
plain_pointers (suc (suc zero)) k l = refl
plain_pointers (suc (suc (suc zero))) k l = refl
plain_pointers (suc (suc (suc (suc zero)))) k l = refl
plain_pointers (suc (suc (suc (suc (suc zero))))) k l = refl
plain_pointers (suc (suc (suc (suc (suc (suc n)))))) k l = absurd (omega (arith, l))

pointers_least : (size d : ℕ) → size ≡ 6 → words_for (element_bits size d) ≡ 0
pointers_least size d e = rw e refl

most_pointers : (k j : ℕ) (ts : Trees) → j ≡ max k 1 → elements_of_pointers j ts ≡ elements_of_pointers k ts
most_pointers k j none e = refl
most_pointers k j (t ▸ ts) e = ap (λ (us : Trees). element 0 us (elements_of_pointers j ts)) (padded_most k 1 j (t ▸ none) e refl) ∙ ap (λ (es : Elements). element 0 (padded_to k (t ▸ none)) es) (most_pointers k j ts e)

same_structs : (n : ℕ) (s : Segments) (old : ListPlace) (t : Tree) (d k d' k' : ℕ) → Known s old → OwnsObject n s (object_of_list old) t → d' ≡ max d (least_data_words old) → k' ≡ max k (least_pointers old) → as_structs d' k' t ≡ as_structs d k t
same_structs n s old t d k d' k' (plain_known l claims few there) o ed ek =
    let x = plain_shape n s (place_view old.start) (size_number old.size) old.claimed t (list_kind_small (size_number old.size) l) o in
    let words = plain_least (size_number old.size) old.data_words l in
    let pointers = plain_pointers (size_number old.size) old.pointers l in
    let ew : max d' (edit.least_words (size_number old.size)) ≡ max d (edit.least_words (size_number old.size)) = omega (arith, ed, words) in
    let ep : k' ≡ k = omega (arith, ek, pointers) in
    let same : as_structs d' k' (plain_list (size_number old.size) old.claimed x.0) ≡ as_structs d k (plain_list (size_number old.size) old.claimed x.0) =
    ap (λ (y : ℕ). struct_list y k' (elements_of_plain k' (plain_elements (size_number old.size) old.claimed x.0))) ew ∙ ap (λ (y : ℕ). struct_list (max d (edit.least_words (size_number old.size))) y (elements_of_plain y (plain_elements (size_number old.size) old.claimed x.0))) ep in
    ap (as_structs d' k') x.1 ∙ same ∙ ap (as_structs d k) (sym x.1)
same_structs n s old t d k d' k' (pointers_known size claims there) o ed ek =
    let six : size_number old.size ≡ 6 = ap size_number size in
    let x = list_shape n s (place_view old.start) old.claimed t (subst (λ (z : ℕ). OwnsObject n s (a_list (place_view old.start) z old.claimed) t) six o) in
    let words = pointers_least (size_number old.size) old.data_words six in
    let pointers = one_pointer (size_number old.size) old.pointers six in
    let ew : d' ≡ d = omega (arith, ed, words) in
    let ep : k' ≡ max k 1 = omega (arith, ek, pointers) in
    let em : max k' 1 ≡ max k 1 = omega (arith, ep) in
    let same : as_structs d' k' (pointer_list x.0) ≡ as_structs d k (pointer_list x.0) =
    ap (λ (y : ℕ). struct_list y (max k' 1) (elements_of_pointers k' x.0)) ew ∙ ap (λ (y : ℕ). struct_list d y (elements_of_pointers k' x.0)) em ∙ ap (struct_list d (max k 1)) (most_pointers k k' x.0 ep) in
    ap (as_structs d' k') x.1 ∙ same ∙ ap (as_structs d k) (sym x.1)
same_structs n s old t d k d' k' (structs_known size ws there tag) o ed ek =
    let x = struct_list_is n s old t size (known_trees s old (structs_known size ws there tag) n t o) o in
    let words = struct_words (size_number old.size) old.data_words (ap size_number size) in
    let pointers = struct_pointers (size_number old.size) old.pointers (ap size_number size) in
    let ew : max d' old.data_words ≡ max d old.data_words = omega (arith, ed, words) in
    let ep : k' ≡ max k old.pointers = omega (arith, ek, pointers) in
    let em : max k' old.pointers ≡ max k old.pointers = omega (arith, ep) in
    let same : as_structs d' k' (struct_list old.data_words old.pointers x.0) ≡ as_structs d k (struct_list old.data_words old.pointers x.0) =
    ap (λ (y : ℕ). struct_list y (max k' old.pointers) (padded_elements k' x.0)) ew ∙ ap (λ (y : ℕ). struct_list (max d old.data_words) y (padded_elements k' x.0)) em ∙ ap (struct_list (max d old.data_words) (max k old.pointers)) (most k old.pointers k' x.0 ep x.2) in
    ap (as_structs d' k') x.1 ∙ same ∙ ap (as_structs d k) (sym x.1)

pub most_list_widens : (s u : Segments) (p : Place) (old : ListPlace) (d k d' k' : ℕ) → LeadsTo s p (object_of_list old) → Known s old → d' ≡ max d (least_data_words old) → k' ≡ max k (least_pointers old) → WidensList s u p d' k' → WidensList s u p d k
most_list_widens s u p old d k d' k' leads known ed ek r = λ n t o. (
    let o1 = owned_more n (suc n) s p t (omega arith) o in
    let inner = object_of_pointer n s p (record { pads = leads.0; object = object_of_list old }) t leads.1 o1 in
    subst (Replaces (suc n) s u p) (same_structs n s old t d k d' k' known inner ed ek) (r n t o)
    )

-- ---- what is given

pub null_got : (s : Segments) (slot : code.Place) (old : ListPlace) (d k : ℕ) → list_there s slot ≡ Ok old → old.size ≡ InlineComposite → old.count ≡ 0 → word_at s (place_view slot) ≡ Some 0 → StructsGot s s slot d k old
null_got s slot old d k there size empty e = record { old = old; was_there = there; of_structs = size; as_many = refl; given = inl (e, refl, empty) }

pub wide_got : (s : Segments) (slot : code.Place) (old : ListPlace) (d k : ℕ) → list_there s slot ≡ Ok old → LeadsTo s (place_view slot) (object_of_list old) → IsWhole s old → IsWideList old d k → StructsGot s s slot d k old
wide_got s slot old d k there leads has wide =
    let words = struct_words (size_number old.size) old.data_words (ap size_number wide.0) in
    let pointers = struct_pointers (size_number old.size) old.pointers (ap size_number wide.0) in
    let ld = wide.1 in
    let lk = wide.2 in
    record {
      old = old;
      was_there = there;
      of_structs = wide.0;
      as_many = refl;
      given = inr (leads, omega (arith, words, ld), omega (arith, pointers, lk), has);
    }

pub refused_list : (s : Segments) (slot : code.Place) (old : ListPlace) (d k d' k' : ℕ) (e : Error) → list_there s slot ≡ Ok old → (word_at s (place_view slot) ≡ Some 0 → ⊥) → (IsWideList old d k → ⊥) → d' ≡ max d (least_data_words old) → k' ≡ max k (least_pointers old) → GrowthRefused s (words_wanted old d' k') e → WideListRefused s (place_view slot) (list_there s slot) d k e
refused_list s slot old d k d' k' e there some narrow ed ek r =
    let r1 = subst (λ (x : ℕ). GrowthRefused s (words_wanted old x k') e) ed r in
    let r2 = subst (λ (x : ℕ). GrowthRefused s (words_wanted old (max d (least_data_words old)) x) e) ek r1 in
    subst (λ (x : Result ListPlace Kind). WideListRefused s (place_view slot) x d k e) (sym there) (some, narrow, r2)

-- the list of a null pointer is one of structs, and empty
null_in : (s : Segments) (slot : code.Place) (o : ListPlace) (f : Found) → object_at s (place_view slot) ≡ Ok f → list_place_in taker.Reader slot InlineComposite f.object ≡ Ok o → word_at s (place_view slot) ≡ Some 0 → (o.size ≡ InlineComposite) × (o.count ≡ 0)
null_in s slot o f there is e =
    let named = named_at s (place_view slot) f there in
    let leads = null_found s (place_view slot) e in
    let same = same_object s (place_view slot) named.object_named nothing (f.pads, named.leads) leads in
    let null : f.object ≡ object.Null = sym (ok_is _ _ (ap (whole s) (sym same) ∙ named.is_whole)) in
    let got = ok_is _ _ (ap (list_place_in taker.Reader slot InlineComposite) (sym null) ∙ is) in
    (sym (ap (λ (x : ListPlace). x.size) got), sym (ap (λ (x : ListPlace). x.count) got))

pub null_of_structs : (s : Segments) (slot : code.Place) (o : ListPlace) → list_there s slot ≡ Ok o → word_at s (place_view slot) ≡ Some 0 → (o.size ≡ InlineComposite) × (o.count ≡ 0)
null_of_structs s slot o there e = let x = bind_ok (object_at s (place_view slot)) _ o there in null_in s slot o x.0 x.1 x.2 e

pub new_got : (s u : Segments) (slot : code.Place) (old : ListPlace) (d k d' k' : ℕ) → list_there s slot ≡ Ok old → d' ≡ max d (least_data_words old) → k' ≡ max k (least_pointers old)
    → (r : Result ListPlace Error) → IfOk r (λ o. LeadsTo u (place_view slot) (object_of_list o)) → IfOk r (λ o. (o.size ≡ InlineComposite) × (o.count ≡ old.count) × (o.data_words ≡ d') × (o.pointers ≡ k')) → IfOk r (IsWhole u) → IfOk r (StructsGot s u slot d k)
new_got s u slot old d k d' k' there ed ek (Ok o) leads list has = record { old = old; was_there = there; of_structs = list.0; as_many = list.1; given = inr (leads, list.2 ∙ ed, list.3 ∙ ek, has) }
new_got s u slot old d k d' k' there ed ek (Err e) leads list has = tt

-- ---- the words that are taken

pub nothing_taken : (s : Segments) (free : List ℕ) (slot : code.Place) (d k : ℕ) → HasWideList s slot d k → ListTakes s free s slot d k
nothing_taken s free slot d k wide = λ o there narrow. absurd (narrow wide)

pub list_takes : (s : Segments) (free : List ℕ) (u : Segments) (slot : code.Place) (old : ListPlace) (d k d' k' : ℕ) → list_there s slot ≡ Ok old → d' ≡ max d (least_data_words old) → k' ≡ max k (least_pointers old) → TakesNear s free u slot.segment old.start.segment (1 + old.count * (d' + k')) → ListTakes s free u slot d k
list_takes s free u slot old d k d' k' there ed ek h = λ o is narrow. (
    let same : old ≡ o = ok_is _ _ (sym there ∙ is) in
    let h1 = subst (λ (x : ℕ). TakesNear s free u slot.segment old.start.segment (1 + old.count * (x + k'))) ed h in
    let h2 = subst (λ (x : ℕ). TakesNear s free u slot.segment old.start.segment (1 + old.count * (max d (least_data_words old) + x))) ek h1 in
    subst (λ (x : ListPlace). TakesNear s free u slot.segment x.start.segment (1 + x.count * (max d (least_data_words x) + max k (least_pointers x)))) same h2
    )

pub if_ok_then : {X E P Q : Type 0} → (P → Q) → (r : Result X E) → OnOk r P → OnOk r Q
if_ok_then f (Ok x) h = f h
if_ok_then f (Err e) h = tt
