-- Values that fit by parts, and schemas whose slots lie in their sections.
use Rattle.std.proofs.Common.{length, ◌≡◌, ℕ, zero, suc, ◌+◌, ◌*◌, ◌^◌, ◌<◌, ◌≤◌, Option, Some, None, arith}
use Rattle.capnp_model.specs.Trees.{size_bits, element_count, Tree, null, capability, structure, plain_list, pointer_list, struct_list, Trees, none, ◌▸◌, Elements, no_elements, element, child, with_child, resized, padded_to, tree_count}
use Rattle.capnp_model.specs.Schemas.{width, Shape, shape, Fields, no_fields, field, Body, void_slot, plain_slot, pointer_slot, group_slot, Schema, default_or_null, words_of_shape, pointers_of_shape}
use Rattle.capnp_model.specs.Calls.{Verb, set_to, initn, enumerant, text_value, blob_value, message}
use Rattle.capnp_model.specs.Fits.{Fits, FitEach, FitElements}
use Rattle.capnp_model.proofs.lemmas.FitCalls.{IsPointer}
use Rattle.capnp_model_versions.proofs.Within.{AllNarrow}
use Rattle.capnp_model_versions.specs.Fitting.{NumbersFit, AllNumbersFit, ElementNumbersFit, HasShortLists, AllHaveShortLists, ElementsHaveShortLists}

-- ---- lengths of lists

-- which lengths the lists of a value may have, and which counts its lists of structs
pub record Lengths : Type 1 where
  pub lists : ℕ → Type 0
  pub elements : ℕ → Type 0
  pub grow : (n : ℕ) → lists n → elements n
  pub short : (n : ℕ) → n < 2 ^ 29 → lists n
  pub few : (n : ℕ) → n < 2 ^ 30 → elements n

abbrev pub any_lengths : Lengths
any_lengths = record { lists = λ n. Unit {0}; elements = λ n. Unit {0}; grow = λ n h. tt; short = λ n h. tt; few = λ n h. tt }

abbrev pub short_lengths : Lengths
short_lengths = record { lists = λ n. n < 2 ^ 29; elements = λ n. n < 2 ^ 30; grow = λ n h. omega arith; short = λ n h. h; few = λ n h. h }

abbrev mutual
  -- The numbers of a value fit, and its lists have such lengths.
  pub FitsBy : Lengths → Tree → Type 0
  FitsBy L null = Unit {0}
  FitsBy L (capability i) = i < 2 ^ 32
  FitsBy L (structure words section kids) = (words < 2 ^ 16) × (tree_count kids < 2 ^ 16) × (section < 2 ^ (64 * words)) × AllFitBy L kids
  FitsBy L (plain_list size n section) = (size < 6) × (section < 2 ^ (size_bits size * n)) × L.lists n
  FitsBy L (pointer_list ts) = L.lists (tree_count ts) × AllFitBy L ts
  FitsBy L (struct_list words pointers es) = (words < 2 ^ 16) × (pointers < 2 ^ 16) × L.elements (element_count es) × ElementsFitBy L words pointers es

  pub AllFitBy : Lengths → Trees → Type 0
  AllFitBy L none = Unit {0}
  AllFitBy L (t ▸ ts) = FitsBy L t × AllFitBy L ts

  pub ElementsFitBy : Lengths → ℕ → ℕ → Elements → Type 0
  ElementsFitBy L words pointers no_elements = Unit {0}
  ElementsFitBy L words pointers (element section kids es) = (section < 2 ^ (64 * words)) × (tree_count kids ≡ pointers) × AllFitBy L kids × ElementsFitBy L words pointers es

-- What a verb holds fits, and the lists that it holds or makes have such lengths.
abbrev pub SpelledBy : Lengths → Verb → Type 0
SpelledBy L (set_to (enumerant n)) = n < 2 ^ 16
SpelledBy L (set_to (text_value bs)) = L.lists (length bs + 1)
SpelledBy L (set_to (blob_value bs)) = L.lists (length bs)
SpelledBy L (set_to (message t)) = FitsBy L t
SpelledBy L (initn n) = L.lists n × L.lists (n + 1)
SpelledBy L _ = Unit {0}

-- ---- the two parts of fitting

mutual
  pub of-any : (t : Tree) → NumbersFit t → FitsBy any_lengths t
  of-any null h = tt
  of-any (capability i) h = h
  of-any (structure w n ts) h = (h.0, h.1, h.2, all-of-any ts h.3)
  of-any (plain_list z n k) h = (h.0, h.1, tt)
  of-any (pointer_list ts) h = (tt, all-of-any ts h)
  of-any (struct_list d k es) h = (h.0, h.1, tt, elements-of-any d k es h.2)

  all-of-any : (ts : Trees) → AllNumbersFit ts → AllFitBy any_lengths ts
  all-of-any none h = tt
  all-of-any (t ▸ ts) h = (of-any t h.0, all-of-any ts h.1)

  elements-of-any : (d k : ℕ) (es : Elements) → ElementNumbersFit d k es → ElementsFitBy any_lengths d k es
  elements-of-any d k no_elements h = tt
  elements-of-any d k (element n ts es) h = (h.0, h.1, all-of-any ts h.2, elements-of-any d k es h.3)

module _ (L : Lengths) where
  mutual
    pub numbers-of : (t : Tree) → Fits t → FitsBy L t
    numbers-of null h = tt
    numbers-of (capability i) h = h
    numbers-of (structure w n ts) h = (h.0, h.1, h.2, all-numbers-of ts h.3)
    numbers-of (plain_list z n k) h = (h.0, h.2, L.short n h.1)
    numbers-of (pointer_list ts) h = (L.short (tree_count ts) h.0, all-numbers-of ts h.1)
    numbers-of (struct_list d k es) h = (h.0, h.1, L.few (element_count es) h.2, element-numbers-of d k es h.4)

    pub all-numbers-of : (ts : Trees) → FitEach ts → AllFitBy L ts
    all-numbers-of none h = tt
    all-numbers-of (t ▸ ts) h = (numbers-of t h.0, all-numbers-of ts h.1)

    pub element-numbers-of : (d k : ℕ) (es : Elements) → FitElements d k es → ElementsFitBy L d k es
    element-numbers-of d k no_elements h = tt
    element-numbers-of d k (element n ts es) h = (h.0, h.1, all-numbers-of ts h.2, element-numbers-of d k es h.3)

  mutual
    pub fits-by-parts : (t : Tree) → FitsBy L t → HasShortLists t → Fits t
    fits-by-parts null h k = tt
    fits-by-parts (capability i) h k = h
    fits-by-parts (structure w n ts) h k = (h.0, h.1, h.2, all-fit ts h.3 k)
    fits-by-parts (plain_list z n x) h k = (h.0, k, h.1)
    fits-by-parts (pointer_list ts) h k = (k.0, all-fit ts h.1 k.1)
    fits-by-parts (struct_list d p es) h k = (h.0, h.1, k.0, k.1, elements-fit d p es h.3 k.2)

    pub all-fit : (ts : Trees) → AllFitBy L ts → AllHaveShortLists ts → FitEach ts
    all-fit none h k = tt
    all-fit (t ▸ ts) h k = (fits-by-parts t h.0 k.0, all-fit ts h.1 k.1)

    pub elements-fit : (d p : ℕ) (es : Elements) → ElementsFitBy L d p es → ElementsHaveShortLists es → FitElements d p es
    elements-fit d p no_elements h k = tt
    elements-fit d p (element n ts es) h k = (h.0, h.1, all-fit ts h.2 k.0, elements-fit d p es h.3 k.1)

-- ---- children

module _ (L : Lengths) where
  pub all-with : (ts : Trees) (i : ℕ) (t : Tree) → AllFitBy L ts → FitsBy L t → AllFitBy L (with_child ts i t)
  all-with none zero t h k = (k, tt)
  all-with none (suc i) t h k = (tt, all-with none i t tt k)
  all-with (u ▸ ts) zero t h k = (k, h.1)
  all-with (u ▸ ts) (suc i) t h k = (h.0, all-with ts i t h.1 k)

  pub all-padded : (p : ℕ) (ts : Trees) → AllFitBy L ts → AllFitBy L (padded_to p ts)
  all-padded zero ts h = h
  all-padded (suc p) none h = (tt, all-padded p none tt)
  all-padded (suc p) (t ▸ ts) h = (h.0, all-padded p ts h.1)

  pub all-resized : (p : ℕ) (ts : Trees) → AllFitBy L ts → AllFitBy L (resized p ts)
  all-resized zero ts h = tt
  all-resized (suc p) none h = (tt, all-resized p none tt)
  all-resized (suc p) (t ▸ ts) h = (h.0, all-resized p ts h.1)

  pub child-fits : (ts : Trees) (i : ℕ) → AllFitBy L ts → FitsBy L (child ts i)
  child-fits none i h = tt
  child-fits (t ▸ ts) zero h = h.0
  child-fits (t ▸ ts) (suc i) h = child-fits ts i h.1

-- ---- schemas whose slots lie in their sections

abbrev pub UnionFits : ℕ → Option ℕ → Type 0
UnionFits words None = Unit {0}
UnionFits words (Some at) = at + 16 ≤ 64 * words

abbrev pub MemberFits : Option ℕ → Type 0
MemberFits None = Unit {0}
MemberFits (Some k) = k < 2 ^ 16

abbrev mutual
  pub ShapeFits : Lengths → ℕ → ℕ → Shape → Type 0
  ShapeFits L words pointers (shape nid w p u fs) = UnionFits words u × FieldsFit L words pointers fs

  pub FieldsFit : Lengths → ℕ → ℕ → Fields → Type 0
  FieldsFit L words pointers no_fields = Unit {0}
  FieldsFit L words pointers (field l m b fs) = MemberFits m × BodyFits L words pointers b × FieldsFit L words pointers fs

  pub BodyFits : Lengths → ℕ → ℕ → Body → Type 0
  BodyFits L words pointers (void_slot j) = Unit {0}
  BodyFits L words pointers (plain_slot p at d) = (at + width p ≤ 64 * words) × (d < 2 ^ width p)
  BodyFits L words pointers (pointer_slot i ty d) = (i < pointers) × AllNarrow ty × FitsBy L (default_or_null d) × IsPointer ty
  BodyFits L words pointers (group_slot g) = ShapeFits L words pointers g

pub record StructFits (L : Lengths) (g : Shape) : Type 0 where
  pub words : words_of_shape g < 2 ^ 16
  pub pointers : pointers_of_shape g < 2 ^ 16
  pub inside : ShapeFits L (words_of_shape g) (pointers_of_shape g) g

abbrev pub SchemaFits : Lengths → Schema → Type 0
SchemaFits L s = (id : ℕ) → StructFits L (s.shape_of id)

module _ (L : Lengths) where
  -- a part of larger sections
  mutual
    pub shape-wider : (w p w' p' : ℕ) (g : Shape) → w ≤ w' → p ≤ p' → ShapeFits L w p g → ShapeFits L w' p' g
    shape-wider w p w' p' (shape nid x y None fs) a b h = (tt, fields-wider w p w' p' fs a b h.1)
    shape-wider w p w' p' (shape nid x y (Some at) fs) a b h = (let l = h.0 in omega arith, fields-wider w p w' p' fs a b h.1)

    pub fields-wider : (w p w' p' : ℕ) (fs : Fields) → w ≤ w' → p ≤ p' → FieldsFit L w p fs → FieldsFit L w' p' fs
    fields-wider w p w' p' no_fields a b h = tt
    fields-wider w p w' p' (field l m body fs) a b h = (h.0, body-wider w p w' p' body a b h.1, fields-wider w p w' p' fs a b h.2)

    pub body-wider : (w p w' p' : ℕ) (b : Body) → w ≤ w' → p ≤ p' → BodyFits L w p b → BodyFits L w' p' b
    body-wider w p w' p' (void_slot j) a b h = tt
    body-wider w p w' p' (plain_slot q at d) a b h = (let l = h.0 in omega arith, h.1)
    body-wider w p w' p' (pointer_slot i ty d) a b h = (let l = h.0 in omega arith, h.1, h.2, h.3)
    body-wider w p w' p' (group_slot g) a b h = shape-wider w p w' p' g a b h
