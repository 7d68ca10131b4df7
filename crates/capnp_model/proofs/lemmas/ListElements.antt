-- A change of one element of a list does to what the list reads as what the step does to that element's reading.
use Rattle.std.proofs.Common.{◌≡◌, ℕ, zero, suc, ◌+◌, ◌*◌, ◌/◌, ◌%◌, ◌^◌, ◌<◌, ◌≤◌, ◌==◌, Bool, true, false, ◌&&◌, if◌then◌else◌, List, [], ◌∷◌, length, refl, sym, ◌∙◌, ap, arith}
use Rattle.std.proofs.Math.Nat.{mod-lt, mod-mod}
use Rattle.std.proofs.lemmas.Nat.{pow_pos}
use lib.Pow as pow
use Rattle.capnp_model.specs.Sections.{bits_at, numbers_in, number_of}
use Rattle.capnp_model.specs.Trees.{Tree, Trees, none, ◌▸◌, Elements, no_elements, element, child, padded_to, size_bits, size_of_width}
use Rattle.capnp_model.specs.Schemas.{width, Ty, void, plain, text, blob, untyped, interface, struct, list, Shape, shape, Schema}
use Rattle.capnp_model.specs.Readings.{Reading, number, Readings, ◌▹◌, Children, Extent, whole_words, just_bits, no_children, only_child, expected_size, element_as, plain_readings, read, read_child, pointer_elements, struct_elements}
use Rattle.capnp_model.specs.Steps.{Outcome, done, on_index}
use Rattle.capnp_model.specs.Edits.{Cell, Edit, padded_elements, on_plain, on_pointers, on_elements}
use Rattle.capnp_model.specs.InKind.{Kinds, one_kind, element_kinds, in_kind, child_in_kind, children_in_kind, elements_in_kind}
use Rattle.capnp_model.proofs.lemmas.Numbers.{length-numbers_in}
use Rattle.capnp_model.proofs.lemmas.Marks.{read_child-padded_to}
use Rattle.capnp_model.proofs.lemmas.Paths.{unmap, IsMapped, mapped, read_child-is}
use Rattle.capnp_model.proofs.lemmas.KeptCells.{child_in_kind-is}
use Rattle.capnp_model.proofs.lemmas.Tests.{both, and_left, and_right}

-- ---- types of elements

-- a plain type has a size of its own
abbrev pub IsReal : (ℕ → Type 0) → Ty → Type 0
IsReal R (plain p) = size_bits (size_of_width (width p)) ≡ width p
IsReal R (struct id) = R id
IsReal R (list ty) = IsReal R ty
IsReal R ty = Unit {0}

-- the element has room for the shape
abbrev pub HasRoom : Shape → ℕ → ℕ → Type 0
HasRoom (shape nid w p u fs) words pointers = (w ≤ words) × (p ≤ pointers)

abbrev pub ElementRoom : Schema → Ty → ℕ → ℕ → Type 0
ElementRoom s (struct id) words pointers = HasRoom (s.shape_of id) words pointers
ElementRoom s ty words pointers = Unit {0}

-- what the element reads as, and that it is in kind
pub record IsElement (s : Schema) (ty : Ty) (c : Cell) (r : Reading) : Type 0 where
  pub reads : element_as s ty whole_words c.section (read_child s c.kids) ≡ r
  pub kinds : element_kinds s ty c.section (child_in_kind s c.kids) ≡ true

-- what a change of an element owes
abbrev pub ChangesElement : Schema → Ty → (Reading → Outcome Reading) → (ℕ → ℕ → Edit) → Type 0
ChangesElement s ty f change = (words pointers : ℕ) (c : Cell) (r : Reading) → ElementRoom s ty words pointers → element_kinds s ty c.section (child_in_kind s c.kids) ≡ true
    → f (element_as s ty whole_words c.section (read_child s c.kids)) ≡ done r → IsElement s ty (change words pointers c) r

-- types of pointers, whose lists are lists of pointers
abbrev pub IsPointed : Ty → Type 0
IsPointed void = ⊥
IsPointed (plain p) = ⊥
IsPointed (struct id) = ⊥
IsPointed ty = Unit {0}

pub no_size : (w n : ℕ) → 5 < n → (size_of_width w == n) ≡ false
no_size w n h = by (w == 1) (w == 8) (w == 16) (w == 32)
  where
    by : (a b c d : Bool) → ((if a then 1 else (if b then 2 else (if c then 3 else (if d then 4 else 5)))) == n) ≡ false
    by true b c d = grind arith
    by false true c d = grind arith
    by false false true d = grind arith
    by false false false true = grind arith
    by false false false false = grind arith

-- ---- lists of pointers

module _ (s : Schema) (ty : Ty) (f : Reading → Outcome Reading) (change : ℕ → ℕ → Edit) (meets : ChangesElement s ty f change) (pointed : IsPointed ty) where
  pub room : (t : Ty) → IsPointed t → ElementRoom s t 0 1
  room text h = tt
  room blob h = tt
  room untyped h = tt
  room interface h = tt
  room (list e) h = tt
  room void h = absurd h
  room (plain p) h = absurd h
  room (struct id) h = absurd h

  as_child : (t : Ty) → IsPointed t → (size : Extent) (section : ℕ) (kids : Children) → element_as s t size section kids ≡ kids 0 t
  as_child text h size section kids = refl
  as_child blob h size section kids = refl
  as_child untyped h size section kids = refl
  as_child interface h size section kids = refl
  as_child (list e) h size section kids = refl
  as_child void h size section kids = absurd h
  as_child (plain p) h size section kids = absurd h
  as_child (struct id) h size section kids = absurd h

  kind_child : (t : Ty) → IsPointed t → (section : ℕ) (kids : Kinds) → element_kinds s t section kids ≡ kids 0 t
  kind_child text h section kids = refl
  kind_child blob h section kids = refl
  kind_child untyped h section kids = refl
  kind_child interface h section kids = refl
  kind_child (list e) h section kids = refl
  kind_child void h section kids = absurd h
  kind_child (plain p) h section kids = absurd h
  kind_child (struct id) h section kids = absurd h

  -- the changed child
  abbrev changed : Tree → Tree
  changed t = child (change 0 1 (record { section = 0; kids = t ▸ none })).kids 0

  one_child : (t : Tree) (r : Reading) → in_kind s t ty ≡ true → f (element_as s ty (just_bits 0) 0 (only_child (read s t))) ≡ done r → (read s (changed t) ty ≡ r) × (in_kind s (changed t) ty ≡ true)
  unfolding read in_kind
  one_child t r kind h =
      let c : Cell = record { section = 0; kids = t ▸ none } in
      let c' : Cell = change 0 1 c in
      let d = meets 0 1 c r (room ty pointed) (kind_child ty pointed 0 (child_in_kind s c.kids) ∙ kind)
      (ap f (as_child ty pointed whole_words 0 (read_child s c.kids) ∙ sym (as_child ty pointed (just_bits 0) 0 (only_child (read s t)))) ∙ h) in (
        sym (read_child-is s c'.kids 0 ty) ∙ sym (as_child ty pointed whole_words c'.section (read_child s c'.kids)) ∙ d.reads,
        sym (child_in_kind-is s c'.kids 0 ty) ∙ sym (kind_child ty pointed c'.section (child_in_kind s c'.kids)) ∙ d.kinds,
      )

  pub on_children : (k : ℕ) (ts : Trees) (rs : Readings) → children_in_kind s ts ty ≡ true → on_index f k (pointer_elements s ts ty) ≡ done rs
      → (pointer_elements s (on_pointers (change 0 1) k ts) ty ≡ rs) × (children_in_kind s (on_pointers (change 0 1) k ts) ty ≡ true)
  unfolding read in_kind
  on_children k none rs kind h = absurd (cc h)
  on_children zero (t ▸ ts) rs kind h = by (unmap (λ x. x ▹ pointer_elements s ts ty) (f (element_as s ty (just_bits 0) 0 (only_child (read s t)))) rs h)
    where
      first : element_kinds s ty 0 (one_kind (in_kind s t)) ≡ true
      first = and_left (element_kinds s ty 0 (one_kind (in_kind s t))) (children_in_kind s ts ty) kind

      by : IsMapped (λ x. x ▹ pointer_elements s ts ty) (f (element_as s ty (just_bits 0) 0 (only_child (read s t)))) rs
          → (pointer_elements s (on_pointers (change 0 1) zero (t ▸ ts)) ty ≡ rs) × (children_in_kind s (on_pointers (change 0 1) zero (t ▸ ts)) ty ≡ true)
      by (mapped x e gives) =
          let d = one_child t x (sym (kind_child ty pointed 0 (one_kind (in_kind s t))) ∙ first) e in (
            ap (λ z. z ▹ pointer_elements s ts ty) (as_child ty pointed (just_bits 0) 0 (only_child (read s (changed t))) ∙ d.0) ∙ gives,
            both _ _ (kind_child ty pointed 0 (one_kind (in_kind s (changed t))) ∙ d.1) (and_right (element_kinds s ty 0 (one_kind (in_kind s t))) (children_in_kind s ts ty) kind),
          )
  on_children (suc k) (t ▸ ts) rs kind h =
      by (unmap (λ xs. element_as s ty (just_bits 0) 0 (only_child (read s t)) ▹ xs) (on_index f k (pointer_elements s ts ty)) rs h)
      (λ xs e. on_children k ts xs (and_right (element_kinds s ty 0 (one_kind (in_kind s t))) (children_in_kind s ts ty) kind) e)
    where
      head : Reading
      head = element_as s ty (just_bits 0) 0 (only_child (read s t))

      by : IsMapped (λ xs. head ▹ xs) (on_index f k (pointer_elements s ts ty)) rs
          → ((xs : Readings) → on_index f k (pointer_elements s ts ty) ≡ done xs → (pointer_elements s (on_pointers (change 0 1) k ts) ty ≡ xs) × (children_in_kind s (on_pointers (change 0 1) k ts) ty ≡ true))
          → (head ▹ pointer_elements s (on_pointers (change 0 1) k ts) ty ≡ rs) × ((element_kinds s ty 0 (one_kind (in_kind s t)) && children_in_kind s (on_pointers (change 0 1) k ts) ty) ≡ true)
      by (mapped xs e gives) more =
          let d = more xs e in (
            ap (λ z. head ▹ z) d.0 ∙ gives,
            both _ _ (and_left (element_kinds s ty 0 (one_kind (in_kind s t))) (children_in_kind s ts ty) kind) d.1,
          )

-- ---- lists of structs

pub child_in_kind-padded_to : (s : Schema) (p : ℕ) (ts : Trees) (i : ℕ) (ty : Ty) → child_in_kind s (padded_to p ts) i ty ≡ child_in_kind s ts i ty
unfolding in_kind
child_in_kind-padded_to s zero ts i ty = refl
child_in_kind-padded_to s (suc p) none zero ty = refl
child_in_kind-padded_to s (suc p) none (suc i) ty = child_in_kind-padded_to s p none i ty
child_in_kind-padded_to s (suc p) (t ▸ ts) zero ty = refl
child_in_kind-padded_to s (suc p) (t ▸ ts) (suc i) ty = child_in_kind-padded_to s p ts i ty

module _ (s : Schema) (ty : Ty) (p : ℕ) where
  pub padded_reads : (es : Elements) → struct_elements s (padded_elements p es) ty ≡ struct_elements s es ty
  unfolding read
  padded_reads no_elements = refl
  padded_reads (element section kids es) =
      ap (λ z. element_as s ty whole_words section z ▹ struct_elements s (padded_elements p es) ty) (λ k i e. read_child-padded_to s p kids i e k)
      ∙ ap (λ z. element_as s ty whole_words section (read_child s kids) ▹ z) (padded_reads es)

  pub padded_in_kind : (es : Elements) → elements_in_kind s (padded_elements p es) ty ≡ elements_in_kind s es ty
  unfolding in_kind
  padded_in_kind no_elements = refl
  padded_in_kind (element section kids es) =
      ap (λ z. element_kinds s ty section z && elements_in_kind s (padded_elements p es) ty) (λ k i e. child_in_kind-padded_to s p kids i e k)
      ∙ ap (λ z. element_kinds s ty section (child_in_kind s kids) && z) (padded_in_kind es)

module _ (s : Schema) (ty : Ty) (f : Reading → Outcome Reading) (change : ℕ → ℕ → Edit) (meets : ChangesElement s ty f change) (words pointers : ℕ) (roomy : ElementRoom s ty words pointers) where
  pub on_structs : (k : ℕ) (es : Elements) (rs : Readings) → elements_in_kind s es ty ≡ true → on_index f k (struct_elements s es ty) ≡ done rs
      → (struct_elements s (on_elements (change words pointers) k es) ty ≡ rs) × (elements_in_kind s (on_elements (change words pointers) k es) ty ≡ true)
  unfolding read in_kind
  on_structs k no_elements rs kind h = absurd (cc h)
  on_structs zero (element section kids es) rs kind h = by (unmap (λ x. x ▹ struct_elements s es ty) (f (element_as s ty whole_words section (read_child s kids))) rs h)
    where
      by : IsMapped (λ x. x ▹ struct_elements s es ty) (f (element_as s ty whole_words section (read_child s kids))) rs
          → (struct_elements s (on_elements (change words pointers) zero (element section kids es)) ty ≡ rs) × (elements_in_kind s (on_elements (change words pointers) zero (element section kids es)) ty ≡ true)
      by (mapped x e gives) =
          let first = and_left (element_kinds s ty section (child_in_kind s kids)) (elements_in_kind s es ty) kind in
          let d = meets words pointers (record { section = section; kids = kids }) x roomy first e in (
            ap (λ z. z ▹ struct_elements s es ty) d.reads ∙ gives,
            both _ _ d.kinds (and_right (element_kinds s ty section (child_in_kind s kids)) (elements_in_kind s es ty) kind),
          )
  on_structs (suc k) (element section kids es) rs kind h =
      by (unmap (λ xs. element_as s ty whole_words section (read_child s kids) ▹ xs) (on_index f k (struct_elements s es ty)) rs h)
      (λ xs e. on_structs k es xs (and_right (element_kinds s ty section (child_in_kind s kids)) (elements_in_kind s es ty) kind) e)
    where
      head : Reading
      head = element_as s ty whole_words section (read_child s kids)

      by : IsMapped (λ xs. head ▹ xs) (on_index f k (struct_elements s es ty)) rs
          → ((xs : Readings) → on_index f k (struct_elements s es ty) ≡ done xs → (struct_elements s (on_elements (change words pointers) k es) ty ≡ xs) × (elements_in_kind s (on_elements (change words pointers) k es) ty ≡ true))
          → (head ▹ struct_elements s (on_elements (change words pointers) k es) ty ≡ rs) × ((element_kinds s ty section (child_in_kind s kids) && elements_in_kind s (on_elements (change words pointers) k es) ty) ≡ true)
      by (mapped xs e gives) more =
          let d = more xs e in (
            ap (λ z. head ▹ z) d.0 ∙ gives,
            both _ _ (and_left (element_kinds s ty section (child_in_kind s kids)) (elements_in_kind s es ty) kind) d.1,
          )

-- ---- lists of plain elements

abbrev pub IsPlain : Ty → Type 0
IsPlain void = Unit {0}
IsPlain (plain p) = Unit {0}
IsPlain ty = ⊥

module _ (s : Schema) (ty : Ty) (is_plain : IsPlain ty) (R : ℕ → Type 0) (real : IsReal R ty) (f : Reading → Outcome Reading) (change : ℕ → ℕ → Edit) (meets : ChangesElement s ty f change) where
  abbrev pub w : ℕ
  w = size_bits (expected_size ty)

  plain_room : (t : Ty) → IsPlain t → ElementRoom s t 1 0
  plain_room void h = tt
  plain_room (plain p) h = tt
  plain_room text h = absurd h
  plain_room blob h = absurd h
  plain_room untyped h = absurd h
  plain_room interface h = absurd h
  plain_room (struct id) h = absurd h
  plain_room (list e) h = absurd h

  -- a plain element reads its bits alone
  as_bits : (t : Ty) → IsPlain t → IsReal R t → (size size' : Extent) (x : ℕ) (kids kids' : Children) → element_as s t size (x % 2 ^ size_bits (expected_size t)) kids ≡ element_as s t size' x kids'
  as_bits void h k size size' x kids kids' = refl
  as_bits (plain p) h k size size' x kids kids' = ap number (ap (λ z. bits_at 0 (width p) (x % 2 ^ z)) k ∙ low_bits (width p) x)
    where
      low_bits : (v x : ℕ) → bits_at 0 v (x % 2 ^ v) ≡ bits_at 0 v x
      low_bits v x = let e : x % 2 ^ v / 2 ^ 0 ≡ x % 2 ^ v = omega arith in let e' : x ≡ x / 2 ^ 0 = omega arith in ap (λ z. z % 2 ^ v) e ∙ mod-mod x (2 ^ v) ∙ ap (λ z. z % 2 ^ v) e'
  as_bits text h k size size' x kids kids' = absurd h
  as_bits blob h k size size' x kids kids' = absurd h
  as_bits untyped h k size size' x kids kids' = absurd h
  as_bits interface h k size size' x kids kids' = absurd h
  as_bits (struct id) h k size size' x kids kids' = absurd h
  as_bits (list e) h k size size' x kids kids' = absurd h

  in_kind_bits : (t : Ty) → IsPlain t → (x : ℕ) (kids : Kinds) → element_kinds s t x kids ≡ true
  in_kind_bits void h x kids = refl
  in_kind_bits (plain p) h x kids = refl
  in_kind_bits text h x kids = absurd h
  in_kind_bits blob h x kids = absurd h
  in_kind_bits untyped h x kids = absurd h
  in_kind_bits interface h x kids = absurd h
  in_kind_bits (struct id) h x kids = absurd h
  in_kind_bits (list e) h x kids = absurd h

  as_same : (t : Ty) → IsPlain t → (size size' : Extent) (x : ℕ) (kids kids' : Children) → element_as s t size x kids ≡ element_as s t size' x kids'
  as_same void h size size' x kids kids' = refl
  as_same (plain p) h size size' x kids kids' = refl
  as_same text h size size' x kids kids' = absurd h
  as_same blob h size size' x kids kids' = absurd h
  as_same untyped h size size' x kids kids' = absurd h
  as_same interface h size size' x kids kids' = absurd h
  as_same (struct id) h size size' x kids kids' = absurd h
  as_same (list e) h size size' x kids kids' = absurd h

  -- what is written back and read again
  reads_again : (size : ℕ) (xs : List ℕ) → plain_readings s size (numbers_in w (length xs) (number_of w xs)) ty ≡ plain_readings s size xs ty
  reads_again size [] = refl
  reads_again size (x ∷ xs) =
      let first : (number_of w xs * 2 ^ w + x % 2 ^ w) % 2 ^ w ≡ x % 2 ^ w = pow.low (number_of w xs) w (mod-lt x (pow_pos w)) in
      let rest : (number_of w xs * 2 ^ w + x % 2 ^ w) / 2 ^ w ≡ number_of w xs = pow.high (number_of w xs) w (mod-lt x (pow_pos w)) in
      ap (λ z. element_as s ty (just_bits size) z no_children ▹ plain_readings s size (numbers_in w (length xs) ((number_of w xs * 2 ^ w + x % 2 ^ w) / 2 ^ w)) ty) first
      ∙ ap (λ z. z ▹ plain_readings s size (numbers_in w (length xs) ((number_of w xs * 2 ^ w + x % 2 ^ w) / 2 ^ w)) ty) (as_bits ty is_plain real (just_bits size) (just_bits size) x no_children no_children)
      ∙ ap (λ z. element_as s ty (just_bits size) x no_children ▹ plain_readings s size (numbers_in w (length xs) z) ty) rest
      ∙ ap (λ z. element_as s ty (just_bits size) x no_children ▹ z) (reads_again size xs)

  as_long : (g : Edit) (k : ℕ) (xs : List ℕ) → length (on_plain g k xs) ≡ length xs
  as_long g k [] = refl
  as_long g zero (x ∷ xs) = refl
  as_long g (suc k) (x ∷ xs) = ap suc (as_long g k xs)

  on_numbers : (size k : ℕ) (xs : List ℕ) (rs : Readings) → on_index f k (plain_readings s size xs ty) ≡ done rs → plain_readings s size (on_plain (change 1 0) k xs) ty ≡ rs
  on_numbers size k [] rs h = absurd (cc h)
  on_numbers size zero (x ∷ xs) rs h = by (unmap (λ y. y ▹ plain_readings s size xs ty) (f (element_as s ty (just_bits size) x no_children)) rs h)
    where
      by : IsMapped (λ y. y ▹ plain_readings s size xs ty) (f (element_as s ty (just_bits size) x no_children)) rs → plain_readings s size (on_plain (change 1 0) zero (x ∷ xs)) ty ≡ rs
      by (mapped y e gives) =
          let c : Cell = record { section = x; kids = none } in
          let c' : Cell = change 1 0 c in
          let d = meets 1 0 c y (plain_room ty is_plain) (in_kind_bits ty is_plain x (child_in_kind s none)) (ap f (as_same ty is_plain whole_words (just_bits size) x (read_child s none) no_children) ∙ e) in
          ap (λ z. z ▹ plain_readings s size xs ty) (as_same ty is_plain (just_bits size) whole_words c'.section no_children (read_child s c'.kids) ∙ d.reads) ∙ gives
  on_numbers size (suc k) (x ∷ xs) rs h =
      by (unmap (λ ys. element_as s ty (just_bits size) x no_children ▹ ys) (on_index f k (plain_readings s size xs ty)) rs h) (λ ys e. on_numbers size k xs ys e)
    where
      by : IsMapped (λ ys. element_as s ty (just_bits size) x no_children ▹ ys) (on_index f k (plain_readings s size xs ty)) rs
          → ((ys : Readings) → on_index f k (plain_readings s size xs ty) ≡ done ys → plain_readings s size (on_plain (change 1 0) k xs) ty ≡ ys)
          → element_as s ty (just_bits size) x no_children ▹ plain_readings s size (on_plain (change 1 0) k xs) ty ≡ rs
      by (mapped ys e gives) more = ap (λ z. element_as s ty (just_bits size) x no_children ▹ z) (more ys e) ∙ gives

  -- the section after the change
  pub on_section : (k n section : ℕ) (rs : Readings) → on_index f k (plain_readings s w (numbers_in w n section) ty) ≡ done rs
      → plain_readings s w (numbers_in w n (number_of w (on_plain (change 1 0) k (numbers_in w n section)))) ty ≡ rs
  on_section k n section rs h =
      let xs = numbers_in w n section in
      let ys = on_plain (change 1 0) k xs in
      let long : length ys ≡ n = as_long (change 1 0) k xs ∙ length-numbers_in w n section in
      ap (λ z. plain_readings s w (numbers_in w z (number_of w ys)) ty) (sym long) ∙ reads_again w ys ∙ on_numbers w k xs rs h
