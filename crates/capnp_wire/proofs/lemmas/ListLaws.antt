-- Lists as they are read, and their trees.
use Rattle.std.proofs.Common.{◌≡◌, ℕ, zero, suc, ◌+◌, ◌-◌, ◌*◌, ◌/◌, ◌%◌, ◌^◌, ◌<◌, ◌≤◌, nat_lt, eqb, Bool, true, false, if◌then◌else◌, refl, List, [], ◌∷◌, take, drop, Option, Some, None, Ok, ap, sym, ◌∙◌, subst, arith}
use Rattle.std.specs.Prelude.{slice_index, unwrap_or}
use Rattle.std.proofs.lemmas.List.{take-take, drop-take, drop-drop}
use Rattle.std.proofs.Math.Nat.{mul-le-mul_left}
use lib.Pow as pow
use Rattle.capnp_model.specs.Sections.{bits_at, numbers_in, section_of}
use Rattle.capnp_model.specs.Segments.{Segments, Place, place, after, words_at}
use Rattle.capnp_model.specs.Trees.{Tree, Trees, none, child, Elements}
use Rattle.capnp_model.specs.Kinds.{OutOfBounds}
use Rattle.capnp_model.specs.Pointers as model
use Rattle.capnp_model.specs.Traversal.{tag_in, ListKind, of_bits, of_pointers, of_structs, list_kind, list_words, each, each_element}
use Rattle.std.specs.Option.{ok_or}
use Rattle.capnp_model.proofs.lemmas.Chaining.{bind_some, some_is, bind_ok, ok_is, ok_or_some}
use Rattle.capnp_model.proofs.lemmas.ReadFits.{words_length}
use Rattle.capnp_wire_objects.specs.declared.object.Object.{Object}
use Rattle.capnp_units.specs.declared.sizes.ElementSize.{ElementSize}
use Rattle.capnp_units.specs.declared.sizes.ElementSize.TheVariants.{FourBytes, EightBytes, InlineComposite}
use Rattle.capnp_wire_objects.specs.declared.object.Object.TheVariants as object
use Rattle.capnp_wire_objects.specs.Places.{place_view}
use Rattle.capnp_wire_objects.specs.Objects.{plain_size, whole_list, whole, object_at}
use Rattle.capnp_wire_objects.specs.declared.object.Found.{Found}
use Rattle.capnp_units.specs.Sizes.{size_number}
use Rattle.std.proofs.lemmas.Bool.Decides.{nat_tests}
use Rattle.capnp_model.proofs.lemmas.Visits.{tag_fits}
use Rattle.capnp_wire.specs.Views.{Ground, section_at, list_view}
use Rattle.capnp_wire_objects.specs.Inside.{words_there}
use Rattle.capnp_wire.specs.Laws.{reads_behind, ShowsElements}
use Rattle.capnp_wire.proofs.lemmas.Bytes.{number_of-drop, number_of-take}
use Rattle.capnp_wire.proofs.Elements.{bits_of_low}
use Rattle.capnp_wire_objects.proofs.lemmas.Linking.{section_front, words_behind}
use Rattle.capnp_wire_objects.proofs.lemmas.Walking.{object_found}

-- ---- plain elements

pub numbers_at : (w n s i : ℕ) → i < n → slice_index (numbers_in w n s) i ≡ bits_at (w * i) w s
numbers_at w zero s i h = absurd (omega arith)
numbers_at w (suc n) s zero h = let e : 0 ≡ w * 0 = omega arith in let one : s ≡ s / 2 ^ 0 = omega arith in ap (λ (z : ℕ). z % 2 ^ w) one ∙ ap (λ (z : ℕ). bits_at z w s) e
numbers_at w (suc n) s (suc i) h =
    let e : w + w * i ≡ w * suc i = omega arith in
    numbers_at w n (s / 2 ^ w) i (omega arith) ∙ ap (λ (z : ℕ). z % 2 ^ w) (pow.shr-shr s w (w * i)) ∙ ap (λ (z : ℕ). bits_at z w s) e

-- numbers past the last don't matter
pub numbers_low : (w n s : ℕ) → numbers_in w n (s % 2 ^ (w * n)) ≡ numbers_in w n s
numbers_low w zero s = refl
numbers_low w (suc n) s =
    let sum : w * suc n ≡ w * n + w = omega arith in
    let low : s % 2 ^ (w * n + w) % 2 ^ w ≡ s % 2 ^ w = pow.mod-mod-pow s (w * n) w in
    let high : s % 2 ^ (w * n + w) / 2 ^ w ≡ s / 2 ^ w % 2 ^ (w * n) = pow.field s (w * n) w in
    ap (λ (m : ℕ). numbers_in w (suc n) (s % 2 ^ m)) sum ∙ ap (λ (x : ℕ). x ∷ numbers_in w n (s % 2 ^ (w * n + w) / 2 ^ w)) low
    ∙ ap (λ (x : ℕ). s % 2 ^ w ∷ numbers_in w n x) high ∙ ap (λ (xs : List ℕ). s % 2 ^ w ∷ xs) (numbers_low w n (s / 2 ^ w))

-- ---- children

-- The pointer at an index of so many in a row leads to the child there.
pub each_child : (f : Place → Option Tree) (k : ℕ) (p : Place) (ts : Trees) (i : ℕ) (b : Bool) → nat_lt i k ≡ b → each f p k ≡ Some ts → reads_behind f (if b then Some (after p i) else None) ≡ Some (child ts i)
each_child f zero p ts i true h e = absurd (grind (arith, nat_tests))
each_child f zero p ts i false h e = ap (λ (x : Trees). Some (child x i)) (some_is none ts e)
each_child f (suc k) p ts zero false h e = absurd (grind (arith, nat_tests))
each_child f (suc k) p ts zero true h e =
    let a = bind_some (f p) _ ts e in
    let b = bind_some (each f (after p 1) k) _ ts a.2 in
    let here : p.position + 0 ≡ p.position = omega arith in
    ap (λ (q : ℕ). f (place p.segment q)) here ∙ a.1 ∙ ap (λ (x : Trees). Some (child x 0)) (some_is _ _ b.2)
each_child f (suc k) p ts (suc i) true h e =
    let a = bind_some (f p) _ ts e in
    let b = bind_some (each f (after p 1) k) _ ts a.2 in
    let there : p.position + suc i ≡ p.position + 1 + i = omega arith in
    let less : nat_lt i k ≡ true = grind (arith, nat_tests) in
    ap (λ (q : ℕ). f (place p.segment q)) there ∙ each_child f k (after p 1) b.0 i true less b.1 ∙ ap (λ (x : Trees). Some (child x (suc i))) (some_is _ _ b.2)
each_child f (suc k) p ts (suc i) false h e =
    let a = bind_some (f p) _ ts e in
    let b = bind_some (each f (after p 1) k) _ ts a.2 in
    let there : p.position + suc i ≡ p.position + 1 + i = omega arith in
    let less : nat_lt i k ≡ false = grind (arith, nat_tests) in
    each_child f k (after p 1) b.0 i false less b.1 ∙ ap (λ (x : Trees). Some (child x (suc i))) (some_is _ _ b.2)

-- ---- structs

-- the words of an element are its bits in the section of all
element_section : (d k i count : ℕ) (ws : List ℕ) → i < count
    → section_of (take d (drop (i * (d + k)) ws)) ≡ bits_at (64 * (d + k) * i) (64 * d) (section_of (take (count * (d + k)) ws) % 2 ^ (64 * (d + k) * count))
element_section d k i count ws h =
    let w = d + k in
    let all : ℕ = section_of (take (count * w) ws) in
    let next : w * (i + 1) ≤ w * count = mul-le-mul_left w (omega arith) in
    let r = count * w - i * w in
    let sum : count * w ≡ i * w + r = omega arith in
    let fits : d ≤ r = omega arith in
    let bits : 64 * w * i ≡ 64 * (i * w) = omega arith in
    let here : take d (drop (i * w) (take (count * w) ws)) ≡ take d (drop (i * w) ws) =
    ap (λ (m : ℕ). take d (drop (i * w) (take m ws))) sum ∙ ap (take d) (drop-take (i * w) r ws) ∙ take-take d r (drop (i * w) ws) fits in
    ap section_of (sym here) ∙ number_of-take 64 d (drop (i * w) (take (count * w) ws)) ∙ ap (λ (m : ℕ). m % 2 ^ (64 * d)) (number_of-drop 64 (i * w) (take (count * w) ws))
    ∙ ap (λ (m : ℕ). bits_at m (64 * d) all) (sym bits) ∙ sym (bits_of_low all (64 * w * i) (64 * d) (64 * w * count) (omega arith))

module _ (f : Place → Option Tree) (g : Ground) (levels : Option ℕ) (p : Place) (d k count : ℕ) (ws : List ℕ) where
  all_words : ℕ
  all_words = section_of (take (count * (d + k)) ws)

  from_element : (m i : ℕ) (es : Elements) → i + m ≡ count → each_element f (after p (i * (d + k))) (drop (i * (d + k)) ws) d k m ≡ Some es
      → ShowsElements f (list_view g InlineComposite count (section_of (take (count * (d + k)) ws)) p d k levels) i es
  from_element zero i es e r = subst (λ (xs : Elements). ShowsElements f (list_view g InlineComposite count (section_of (take (count * (d + k)) ws)) p d k levels) i xs) (some_is _ _ r) tt
  from_element (suc m) i es e r =
      let q = after p (i * (d + k)) in
      let a = bind_some (each f (after q d) k) _ es r in
      let b = bind_some (each_element f (after q (d + k)) (drop (d + k) (drop (i * (d + k)) ws)) d k m) _ es a.2 in
      let sum : i * (d + k) + (d + k) ≡ suc i * (d + k) = omega arith in
      let at : p.position + i * (d + k) + (d + k) ≡ p.position + suc i * (d + k) = omega arith in
      let behind : drop (d + k) (drop (i * (d + k)) ws) ≡ drop (suc i * (d + k)) ws = drop-drop (d + k) (i * (d + k)) ws ∙ ap (λ (j : ℕ). drop j ws) sum in
      let rest : each_element f (after p (suc i * (d + k))) (drop (suc i * (d + k)) ws) d k m ≡ Some b.0 =
      sym (ap (λ (j : ℕ). each_element f (place p.segment j) (drop (d + k) (drop (i * (d + k)) ws)) d k m) at ∙ ap (λ (xs : List ℕ). each_element f (after p (suc i * (d + k))) xs d k m) behind) ∙ b.1 in
      let first : p.position + i * (d + k) + d ≡ p.position + ((d + k) * i + d) = omega arith in
      let kids : each f (after p ((d + k) * i + d)) k ≡ Some a.0 = sym (ap (λ (j : ℕ). each f (place p.segment j) k) first) ∙ a.1 in
      let more = from_element m (suc i) b.0 (omega arith) rest in
      subst (λ (xs : Elements). ShowsElements f (list_view g InlineComposite count (section_of (take (count * (d + k)) ws)) p d k levels) i xs) (some_is _ _ b.2)
      ((sym (element_section d k i count ws (omega arith)), refl, λ j. each_child f k (after p ((d + k) * i + d)) a.0 j (nat_lt j k) refl kids), more)

-- What is known of a list of structs that is there.
pub record IsHeld (s : Segments) (p : Place) (words count d k : ℕ) : Type 0 where
  pub there : List ℕ
  pub is : words_at s p words ≡ Some there
  pub fits : count * (d + k) ≤ words

-- What an object says of a list of structs.
abbrev pub Holds : Segments → Object → Type 0
Holds s object.Null = Unit {0}
Holds s (object.Struct p d k) = Unit {0}
Holds s (object.List p size n) = size_number size < 6
Holds s (object.PointerList p n) = Unit {0}
Holds s (object.StructList p words n d k) = IsHeld s (place_view p) words n d k
Holds s (object.Capability i) = Unit {0}

either_small : (b : Bool) (x y : ElementSize) → size_number x < 6 → size_number y < 6 → size_number (if b then x else y) < 6
either_small true x y e f = e
either_small false x y e f = f

plain_size_small : (n : ℕ) → size_number (plain_size n) < 6
plain_size_small n =
    either_small (eqb n 0) _ _ (omega arith)
    (either_small (eqb n 1) _ _ (omega arith) (either_small (eqb n 2) _ _ (omega arith) (either_small (eqb n 3) _ _ (omega arith) (either_small (eqb n 4) FourBytes EightBytes (omega arith) (omega arith)))))

list_holds : (s : Segments) (p : Place) (kind : ListKind) (size n : ℕ) (ws : List ℕ) (o : Object) → words_at s p (list_words kind size n) ≡ Some ws → whole_list p kind size n ws ≡ Ok o → Holds s o
list_holds s p of_bits size n ws o there e = subst (Holds s) (ok_is _ _ e) (plain_size_small size)
list_holds s p of_pointers size n ws o there e = subst (Holds s) (ok_is _ _ e) tt
list_holds s p of_structs size n ws o there e =
    let a = bind_ok (tag_in ws) _ o e in
    let bound = tag_fits ws a.0 a.1 in
    let len = words_length s p (1 + n) ws there in
    subst (Holds s) (ok_is _ _ a.2) (record { there = drop 1 ws; is = words_behind s p n ws there; fits = omega arith })

object_holds : (s : Segments) (m : model.Object) (o : Object) → whole s m ≡ Ok o → Holds s o
object_holds s model.nothing o e = subst (Holds s) (ok_is _ _ e) tt
object_holds s (model.a_capability i) o e = subst (Holds s) (ok_is _ _ e) tt
object_holds s (model.a_struct p d k) o e = let a = bind_ok (ok_or (words_at s p (d + k)) OutOfBounds) _ o e in subst (Holds s) (ok_is _ _ a.2) tt
object_holds s (model.a_list p size n) o e =
    let a = bind_ok (ok_or (words_at s p (list_words (list_kind size) size n)) OutOfBounds) _ o e in
    list_holds s p (list_kind size) size n a.0 o (ok_or_some _ _ _ a.1) a.2

pub words_there_is : (s : Segments) (p : Place) (n : ℕ) (ws : List ℕ) → words_at s p n ≡ Some ws → words_there s p n ≡ ws
unfolding words_there
words_there_is s p n ws e = ap (λ (o : Option (List ℕ)). unwrap_or o []) e

pub holds_at : (s : Segments) (p : Place) (f : Found) → object_at s p ≡ Ok f → Holds s f.object
holds_at s p f e = let found = object_found s p f e in object_holds s found.0.object f.object found.2

-- The elements of a list of structs as it is read.
pub structs_shown : (below : Place → Option Tree) (s : Segments) (g : Ground) (levels : Option ℕ) (q : Place) (words count d k : ℕ) (es : Elements) → IsHeld s q words count d k → each_element below q (words_there s q words) d k count ≡ Some es
    → ShowsElements below (list_view g InlineComposite count (section_at s q (count * (d + k))) q d k levels) 0 es
structs_shown below s g levels q words count d k es held e =
    let ws = held.there in
    let all : words_there s q words ≡ ws = words_there_is s q words ws held.is in
    let read : each_element below q ws d k count ≡ Some es = sym (ap (λ (xs : List ℕ). each_element below q xs d k count) all) ∙ e in
    let zero_is : 0 * (d + k) ≡ 0 = omega arith in
    let at : q.position ≡ q.position + 0 * (d + k) = omega arith in
    let from : each_element below (after q (0 * (d + k))) (drop (0 * (d + k)) ws) d k count ≡ Some es =
    sym (ap (λ (j : ℕ). each_element below (place q.segment j) ws d k count) at ∙ ap (λ (j : ℕ). each_element below (after q (0 * (d + k))) (drop j ws) d k count) (sym zero_is)) ∙ read in
    let rest : words ≡ count * (d + k) + (words - count * (d + k)) = let h = held.fits in omega arith in
    let section : section_at s q (count * (d + k)) ≡ section_of (take (count * (d + k)) ws) = section_front s q (count * (d + k)) (words - count * (d + k)) ws (sym (ap (words_at s q) rest) ∙ held.is) in
    let whole_is : 0 + count ≡ count = omega arith in
    subst (λ (z : ℕ). ShowsElements below (list_view g InlineComposite count z q d k levels) 0 es) (sym section) (from_element below g levels q d k count ws count 0 es whole_is from)
