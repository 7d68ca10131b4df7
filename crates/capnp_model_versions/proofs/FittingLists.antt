-- Changes of lists keep what fits.
use Rattle.std.proofs.Common.{sym, ◌≡◌, ℕ, zero, suc, ◌*◌, ◌/◌, ◌^◌, ◌<◌, ◌≤◌, ◌==◌, max, Bool, true, false, nat_le, if◌then◌else◌, mod-lt, List, [], ◌∷◌, length, refl, ◌∙◌, ap, subst, arith}
use Rattle.std.specs.List.{AllByRecursion}
use Rattle.std.proofs.lemmas.Nat.{pow_pos}
use Rattle.capnp_model.specs.Sections.{number_of, numbers_in}
use Rattle.capnp_model.specs.Trees.{tree_count, element_count, Tree, null, capability, structure, plain_list, pointer_list, struct_list, Trees, none, ◌▸◌, Elements, no_elements, element, plain_elements, size_bits, size_of_width}
use Rattle.capnp_model.specs.Schemas.{width, Ty, void, plain, text, blob, untyped, interface, struct, list, Shape, shape, Schema}
use Rattle.capnp_model.specs.Readings.{is_list_of, have_room}
use Rattle.capnp_model.specs.Edits.{Cell, Edit, elements_of_plain, elements_of_pointers, padded_elements, least_words, widened_list, on_plain, on_pointers, on_elements}
use Rattle.capnp_model.proofs.lemmas.Numbers.{number_of_lt, wider, length-numbers_in}
use Rattle.capnp_model.proofs.lemmas.Stripping.{count-resized}
use Rattle.capnp_model.proofs.lemmas.Tests.{le_is, and_right}
use Rattle.capnp_model.proofs.lemmas.FittingValues.{count-padded_to}
use Rattle.capnp_model.proofs.lemmas.Counts.{count-of-pointers, count-of-plain}
use Rattle.capnp_model_versions.proofs.SameLists.{AtElement}
use Rattle.capnp_model_versions.proofs.WroteLists.{AtChild}
use Rattle.capnp_model_versions.proofs.RelatedTypes.{a-word}
use Rattle.capnp_model_versions.proofs.Within.{AllNarrow}
use Rattle.capnp_model_versions.proofs.FittingParts.{Lengths, FitsBy, AllFitBy, ElementsFitBy, all-padded, child-fits, StructFits}
use Rattle.capnp_model_versions.proofs.FittingContents.{nulls-fit}
use Rattle.capnp_model_versions.proofs.FittingCells.{Good, Room}

-- ---- counts

pub count-padded-elements : (p : ℕ) (es : Elements) → element_count (padded_elements p es) ≡ element_count es
count-padded-elements p no_elements = refl
count-padded-elements p (element n ts es) = ap suc (count-padded-elements p es)

pub count-on-elements : (f : Edit) (k : ℕ) (es : Elements) → element_count (on_elements f k es) ≡ element_count es
count-on-elements f zero no_elements = refl
count-on-elements f (suc k) no_elements = refl
count-on-elements f zero (element n ts es) = refl
count-on-elements f (suc k) (element n ts es) = ap suc (count-on-elements f k es)

pub count-on-pointers : (f : Edit) (k : ℕ) (ts : Trees) → tree_count (on_pointers f k ts) ≡ tree_count ts
count-on-pointers f zero none = refl
count-on-pointers f (suc k) none = refl
count-on-pointers f zero (t ▸ ts) = refl
count-on-pointers f (suc k) (t ▸ ts) = ap suc (count-on-pointers f k ts)

-- ---- lists

pub all-below : (width n section : ℕ) → AllByRecursion (λ x. x < 2 ^ width) (numbers_in width n section)
all-below width zero section = tt
all-below width (suc n) section = (mod-lt section (pow_pos width), all-below width n (section / 2 ^ width))

pub size-words : (size : ℕ) → size < 6 → size_bits size ≤ 64 * least_words size
size-words zero h = omega arith
size-words (suc zero) h = omega arith
size-words (suc (suc zero)) h = omega arith
size-words (suc (suc (suc zero))) h = omega arith
size-words (suc (suc (suc (suc zero)))) h = omega arith
size-words (suc (suc (suc (suc (suc n))))) h = omega arith

pub length-on_plain : (f : Edit) (k : ℕ) (xs : List ℕ) → length (on_plain f k xs) ≡ length xs
length-on_plain f zero [] = refl
length-on_plain f (suc k) [] = refl
length-on_plain f zero (x ∷ xs) = refl
length-on_plain f (suc k) (x ∷ xs) = ap suc (length-on_plain f k xs)

module _ (L : Lengths) where
  pub of-plain-fit : (bits w p : ℕ) (xs : List ℕ) → bits ≤ 64 * w → AllByRecursion (λ x. x < 2 ^ bits) xs → ElementsFitBy L w p (elements_of_plain p xs)
  of-plain-fit bits w p [] l h = tt
  of-plain-fit bits w p (x ∷ xs) l h = (wider x bits (64 * w) l h.0, count-resized p none, nulls-fit L p, of-plain-fit bits w p xs l h.1)

  pub of-pointers-fit : (w p : ℕ) (ts : Trees) → AllFitBy L ts → ElementsFitBy L w (max p 1) (elements_of_pointers p ts)
  of-pointers-fit w p none h = tt
  of-pointers-fit w p (t ▸ ts) h = (pow_pos (64 * w), count-padded_to p (t ▸ none) ∙ omega arith, all-padded L p (t ▸ none) (h.0, tt), of-pointers-fit w p ts h.1)

  pub padded-fit : (w p d k : ℕ) (es : Elements) → ElementsFitBy L d k es → ElementsFitBy L (max w d) (max p k) (padded_elements p es)
  padded-fit w p d k no_elements h = tt
  padded-fit w p d k (element n ts es) h =
      let c = h.1 in
      (wider n (64 * d) (64 * max w d) (omega arith) h.0, count-padded_to p ts ∙ omega arith, all-padded L p ts h.2, padded-fit w p d k es h.3)

  pub widened-list-fits : (g : Shape) → StructFits L g → (t : Tree) → FitsBy L t → FitsBy L (widened_list g t)
  widened-list-fits (shape nid w p u fs) g null h = tt
  widened-list-fits (shape nid w p u fs) g (capability i) h = h
  widened-list-fits (shape nid w p u fs) g (structure n x ts) h = h
  widened-list-fits (shape nid w p u fs) g (plain_list z n x) h =
      let l = size-words z h.0 in let a = g.words in
      (most w z a, g.pointers, subst L.elements (sym (count-of-plain p (plain_elements z n x) ∙ length-numbers_in (size_bits z) n x)) (L.grow n h.2), of-plain-fit (size_bits z) (max w (least_words z)) p (plain_elements z n x) (omega arith) (all-below (size_bits z) n x))
    where
      most : (w z : ℕ) → w < 2 ^ 16 → max w (least_words z) < 2 ^ 16
      most w zero l = omega arith
      most w (suc z) l = omega arith
  widened-list-fits (shape nid w p u fs) g (pointer_list ts) h = let a = g.pointers in (g.words, omega arith, subst L.elements (sym (count-of-pointers p ts)) (L.grow (tree_count ts) h.0), of-pointers-fit w p ts h.1)
  widened-list-fits (shape nid w p u fs) g (struct_list d k es) h = let a = g.pointers in let b = g.words in let x = h.0 in let y = h.1 in (omega arith, omega arith, subst L.elements (sym (count-padded-elements p es)) h.2, padded-fit w p d k es h.3)

  pub plain-list-fits : (f : Edit) (k z n x : ℕ) → FitsBy L (plain_list z n x) → FitsBy L (plain_list z n (number_of (size_bits z) (on_plain f k (plain_elements z n x))))
  plain-list-fits f k z n x h =
      let e : length (on_plain f k (plain_elements z n x)) ≡ n = length-on_plain f k (plain_elements z n x) ∙ length-numbers_in (size_bits z) n x in
      (h.0, subst (λ m. number_of (size_bits z) (on_plain f k (plain_elements z n x)) < 2 ^ (size_bits z * m)) e (number_of_lt (size_bits z) (on_plain f k (plain_elements z n x))), h.2)

  module _ (P : Cell → Type 0) (w q : ℕ) (f : Edit) (keeps : (c : Cell) → P c → Good L w q c → Good L w q (f c)) where
    pub elements-keep : (k : ℕ) (es : Elements) → AtElement P k es → ElementsFitBy L w q es → ElementsFitBy L w q (on_elements f k es)
    elements-keep k no_elements p h = absurd p
    elements-keep zero (element n ts es) p h = let c = keeps (record { section = n; kids = ts }) p (h.0, h.1, h.2) in (c.0, c.1, c.2, h.3)
    elements-keep (suc k) (element n ts es) p h = (h.0, h.1, h.2, elements-keep k es p h.3)

  module _ (P : Cell → Type 0) (f : Edit) (keeps : (c : Cell) → P c → Good L 0 1 c → Good L 0 1 (f c)) where
    pub pointers-keep : (k : ℕ) (ts : Trees) → AtChild P k ts → AllFitBy L ts → AllFitBy L (on_pointers f k ts)
    pointers-keep k none p h = absurd p
    pointers-keep zero (t ▸ ts) p h =
        let c = keeps (record { section = 0; kids = t ▸ none }) p (pow_pos 0, refl, (h.0, tt)) in
        (child-fits L (f (record { section = 0; kids = t ▸ none })).kids 0 c.2, h.1)
    pointers-keep (suc k) (t ▸ ts) p h = (h.0, pointers-keep k ts p h.1)

-- ---- room

pub no-bits : (w : ℕ) → have_room 0 1 (size_of_width w) ≡ true → ⊥
no-bits w = by (w == 1) (w == 8) (w == 16) (w == 32)
  where
    by : (a b c d : Bool) → have_room 0 1 (if a then 1 else (if b then 2 else (if c then 3 else (if d then 4 else 5)))) ≡ true → ⊥
    by true b c d h = absurd (cc h)
    by false true c d h = absurd (cc h)
    by false false true d h = absurd (cc h)
    by false false false true h = absurd (cc h)
    by false false false false h = absurd (cc h)

abbrev pub NoStruct : Ty → Type 0
NoStruct (struct id) = ⊥
NoStruct ty = Unit {0}

pub pointer-room : (s : Schema) (ts : Trees) (ty : Ty) → NoStruct ty → is_list_of (pointer_list ts) ty ≡ true → Room s 0 1 ty
pointer-room s ts void n h = tt
pointer-room s ts (plain p) n h = absurd (no-bits (width p) h)
pointer-room s ts text n h = omega arith
pointer-room s ts blob n h = omega arith
pointer-room s ts untyped n h = omega arith
pointer-room s ts interface n h = omega arith
pointer-room s ts (struct id) n h = absurd n
pointer-room s ts (list ty) n h = omega arith

pub struct-room : (s : Schema) (w p : ℕ) (es : Elements) (ty : Ty) → NoStruct ty → AllNarrow ty → is_list_of (struct_list w p es) ty ≡ true → Room s w p ty
struct-room s w p es void n x h = tt
struct-room s w p es (plain v) n x h = let g = a-word (width v) w p h in let l = x in omega arith
struct-room s w p es text n x h = le_is 1 p (and_right (nat_le 0 (64 * w)) (nat_le 1 p) h)
struct-room s w p es blob n x h = le_is 1 p (and_right (nat_le 0 (64 * w)) (nat_le 1 p) h)
struct-room s w p es untyped n x h = le_is 1 p (and_right (nat_le 0 (64 * w)) (nat_le 1 p) h)
struct-room s w p es interface n x h = le_is 1 p (and_right (nat_le 0 (64 * w)) (nat_le 1 p) h)
struct-room s w p es (struct id) n x h = absurd n
struct-room s w p es (list ty) n x h = le_is 1 p (and_right (nat_le 0 (64 * w)) (nat_le 1 p) h)
