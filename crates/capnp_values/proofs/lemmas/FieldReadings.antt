-- What fields show is what the model reads.
use Rattle.std.proofs.Common.{◌≡◌, ℕ, zero, suc, ◌+◌, ◌*◌, ◌%◌, ◌^◌, ◌<◌, ◌≤◌, ◌==◌, ◌⊎◌, inl, inr, nat_le, Bool, true, false, if◌then◌else◌, Option, Some, None, Ok, refl, ap, sym, ◌∙◌, subst, arith}
use Rattle.std.specs.Option.{ok_or}
use Rattle.std.proofs.Math.Nat.{div-eq_of_lt, pow-le-pow_right, zero-mod}
use Rattle.std.proofs.lemmas.Bool.Decides.{nat_tests}
use Rattle.capnp_model.specs.Kinds.{OutOfBounds}
use Rattle.capnp_model.specs.Chains.{◌and_then◌, passes}
use Rattle.capnp_model.specs.Sections.{bits_at}
use Rattle.capnp_model.specs.Segments.{Segments, Place, word_at}
use Rattle.capnp_model.specs.Pointers.{found_at, found_by, pointer_of, nothing}
use Rattle.capnp_model.specs.Trees.{Tree, null, Trees, none, ◌▸◌, child}
use Rattle.capnp_model.specs.Traversal.{tree_at}
use Rattle.capnp_model.specs.Schemas.{PlainType, bool, int, uint, «enum», width, BaseType, lists_of, base_type, Ty, plain, Schema}
use Rattle.capnp_model.specs.Readings.{Reading, number, field_bits, Extent, whole_words, just_bits, read, read_child}
use Rattle.capnp_model.proofs.lemmas.Chaining.{some_is}
use Rattle.capnp_wire.specs.Views.{PointerView, StructView, pointer_field}
use Rattle.capnp_wire.specs.Reads.{is_null_at, is_null_pointer}
use Rattle.capnp_wire.specs.Laws.{reads_behind}
use Rattle.capnp_model.proofs.lemmas.Paths.{read_child-is}
use Rattle.capnp_values.specs.Shown.{number_shown, shown_behind}
use Rattle.capnp_values.specs.Standing.{LeadsToValue, HasSectionAndChildren, IsExtent, null_as_empty, Answers, IsPointerType, PointersAreRead, DiscriminantsAreRead}

-- ---- bits

-- a slot lies wholly inside whole words, or behind them
abbrev Aligned : ℕ → Type 0
Aligned w = (o words : ℕ) → (w * o + w ≤ 64 * words) ⊎ (64 * words ≤ w * o)

-- the type of a plain slot is of a width that divides a word
pub plain_base : (b : BaseType) (p : PlainType) → base_type b ≡ plain p → (width p ≡ 1) ⊎ (width p ≡ 8) ⊎ (width p ≡ 16) ⊎ (width p ≡ 32) ⊎ (width p ≡ 64)
plain_base BaseType.Void p e = absurd cc
plain_base BaseType.Boolean p e = let is : bool ≡ p = cc in inl (ap width (sym is))
plain_base BaseType.Int8 p e = let is : int 8 ≡ p = cc in inr (inl (ap width (sym is)))
plain_base BaseType.Int16 p e = let is : int 16 ≡ p = cc in inr (inr (inl (ap width (sym is))))
plain_base BaseType.Int32 p e = let is : int 32 ≡ p = cc in inr (inr (inr (inl (ap width (sym is)))))
plain_base BaseType.Int64 p e = let is : int 64 ≡ p = cc in inr (inr (inr (inr (ap width (sym is)))))
plain_base BaseType.UInt8 p e = let is : uint 8 ≡ p = cc in inr (inl (ap width (sym is)))
plain_base BaseType.UInt16 p e = let is : uint 16 ≡ p = cc in inr (inr (inl (ap width (sym is))))
plain_base BaseType.UInt32 p e = let is : uint 32 ≡ p = cc in inr (inr (inr (inl (ap width (sym is)))))
plain_base BaseType.UInt64 p e = let is : uint 64 ≡ p = cc in inr (inr (inr (inr (ap width (sym is)))))
plain_base BaseType.Float32 p e = absurd cc
plain_base BaseType.Float64 p e = absurd cc
plain_base BaseType.Text p e = absurd cc
plain_base BaseType.Data p e = absurd cc
plain_base (BaseType.Enum id) p e = let is : «enum» id ≡ p = cc in inr (inr (inl (ap width (sym is))))
plain_base (BaseType.Struct id) p e = absurd cc
plain_base BaseType.AnyPointer p e = absurd cc
plain_base BaseType.Capability p e = absurd cc

pub plain_type : (n : ℕ) (b : BaseType) (p : PlainType) → lists_of n (base_type b) ≡ plain p → base_type b ≡ plain p
plain_type zero b p e = e
plain_type (suc n) b p e = absurd cc

-- one of two, by a test
either : (a b : ℕ) → (nat_le a b ≡ false → b ≤ a) → (a ≤ b) ⊎ (b ≤ a)
either a b h = by (nat_le a b) refl
  where
    by : (c : Bool) → nat_le a b ≡ c → (a ≤ b) ⊎ (b ≤ a)
    by true e = inl (grind (arith, nat_tests))
    by false e = inr (h e)

aligned : (w : ℕ) → Type 0
aligned w = (o words : ℕ) → nat_le (w * o + w) (64 * words) ≡ false → 64 * words ≤ w * o

behind : (w : ℕ) → aligned w → Aligned w
unfolding aligned
behind w h o words = by (nat_le (w * o + w) (64 * words)) refl
  where
    by : (c : Bool) → nat_le (w * o + w) (64 * words) ≡ c → (w * o + w ≤ 64 * words) ⊎ (64 * words ≤ w * o)
    by true e = inl (grind (arith, nat_tests))
    by false e = inr (h o words e)

one : aligned 1
unfolding aligned
one o words e = grind (arith, nat_tests)

eight : aligned 8
unfolding aligned
eight o words e = grind (arith, nat_tests)

sixteen : aligned 16
unfolding aligned
sixteen o words e = grind (arith, nat_tests)

thirty_two : aligned 32
unfolding aligned
thirty_two o words e = grind (arith, nat_tests)

sixty_four : aligned 64
unfolding aligned
sixty_four o words e = grind (arith, nat_tests)

pub aligned_by : (w : ℕ) → (w ≡ 1) ⊎ (w ≡ 8) ⊎ (w ≡ 16) ⊎ (w ≡ 32) ⊎ (w ≡ 64) → Aligned w
aligned_by w (inl e) = subst Aligned (sym e) (behind 1 one)
aligned_by w (inr (inl e)) = subst Aligned (sym e) (behind 8 eight)
aligned_by w (inr (inr (inl e))) = subst Aligned (sym e) (behind 16 sixteen)
aligned_by w (inr (inr (inr (inl e)))) = subst Aligned (sym e) (behind 32 thirty_two)
aligned_by w (inr (inr (inr (inr e)))) = subst Aligned (sym e) (behind 64 sixty_four)

none_above : (x a n k : ℕ) → x < 2 ^ k → k ≤ a → bits_at a n x ≡ 0
none_above x a n k h l =
    let power : 2 ^ k ≤ 2 ^ a = pow-le-pow_right {n = 2} (omega arith) {i = k} {j = a} l in
    ap (λ z. z % 2 ^ n) (div-eq_of_lt {n = x} {m = 2 ^ a} (omega arith)) ∙ zero-mod (2 ^ n)

word_bits : (x a n k : ℕ) → x < 2 ^ k → (a + n ≤ k) ⊎ (k ≤ a) → field_bits (just_bits k) x a n ≡ bits_at a n x
word_bits x a n k h l = by (nat_le (a + n) k) refl
  where
    no_le : (p q : ℕ) → nat_le p q ≡ false → p ≤ q → ⊥
    no_le p q e f = absurd (grind arith)

    by : (b : Bool) → nat_le (a + n) k ≡ b → (if b then bits_at a n x else 0) ≡ bits_at a n x
    by true e = refl
    by false e = elim l [ inl f ↦ absurd (no_le (a + n) k e f) | inr f ↦ sym (none_above x a n k h f) ]

-- the bits that a struct shows are those of the value's section
pub bits_shown : (v : StructView) (e : Extent) (section w o : ℕ) → IsExtent e v → v.section ≡ section → Aligned w → field_bits (just_bits v.bits) v.section (w * o) w ≡ field_bits e section (w * o) w
bits_shown v (just_bits size) section w o extent same h = ap (λ b. field_bits (just_bits b) v.section (w * o) w) extent ∙ ap (λ x. field_bits (just_bits size) x (w * o) w) same
bits_shown v whole_words section w o extent same h =
    ap (λ b. field_bits (just_bits b) v.section (w * o) w) extent.1 ∙ word_bits v.section (w * o) w (64 * extent.0) extent.2 (h o extent.0) ∙ ap (λ x. bits_at (w * o) w x) same

-- ---- null pointers

pub word_null : (s : Segments) (q : Place) → is_null_at s (Some q) ≡ true → found_at s q ≡ Ok (record { pads = 0; object = nothing })
word_null s q e = by (word_at s q) e
  where
    word : (w : ℕ) (b : Bool) → (w == 0) ≡ b → b ≡ true → (if b then Ok (record { pads = 0; object = nothing }) else found_by s q (pointer_of w)) ≡ Ok (record { pads = 0; object = nothing })
    word w true f g = refl
    word w false f g = absurd cc

    by : (o : Option ℕ) → passes (λ w. w == 0) o ≡ true → (ok_or o OutOfBounds and_then λ w. if w == 0 then Ok (record { pads = 0; object = nothing }) else found_by s q (pointer_of w)) ≡ Ok (record { pads = 0; object = nothing })
    by None f = absurd cc
    by (Some w) f = word w (w == 0) refl f

pub null_tree : (n : ℕ) (s : Segments) (q : Place) → found_at s q ≡ Ok (record { pads = 0; object = nothing }) → tree_at n s q ≡ Some null
unfolding tree_at
null_tree zero s q e = rw e refl
null_tree (suc n) s q e = rw e refl

-- a null pointer leads to null
pub null_behind : (n : ℕ) (p : PointerView) (t : Tree) → LeadsToValue n p t → is_null_pointer p ≡ true → t ≡ null
null_behind n p t leads e = by p.place e leads.tree
  where
    by : (o : Option Place) → is_null_at p.basis.segments o ≡ true → reads_behind (tree_at n p.basis.segments) o ≡ Some t → t ≡ null
    by None f g = sym (some_is _ _ g)
    by (Some q) f g = sym (some_is _ _ (sym (null_tree n p.basis.segments q (word_null p.basis.segments q f)) ∙ g))

-- ---- slots

pub number_read : (s : Schema) (p : PlainType) (x y : ℕ) → x ≡ y → Answers s (Ok (number_shown s p x)) (number y)
number_read s bool x y e = ap number (sym e)
number_read s (int w) x y e = ap number (sym e)
number_read s (uint w) x y e = ap number (sym e)
number_read s («enum» id) x y e = (refl, ap number (sym e))

module _ (pointers : PointersAreRead) (n : ℕ) (v : StructView) (e : Extent) (section : ℕ) (kids : Trees) (s : Schema) (stands : HasSectionAndChildren n v e section kids) where
  pub pointer_read : (i : ℕ) (ty : Ty) → IsPointerType ty → Answers s (shown_behind s ty (pointer_field v i)) (null_as_empty s ty (read_child s kids i ty))
  pointer_read i ty pointer =
      let P : Reading → Type 0 = λ r. Answers s (shown_behind s ty (pointer_field v i)) (null_as_empty s ty r) in
      subst P (sym (read_child-is s kids i ty)) (pointers n (pointer_field v i) (child kids i) s ty pointer (stands.children i))

pub discriminants : DiscriminantsAreRead
discriminants n v e section kids None stands = refl
discriminants n v e section kids (Some o) stands = ap (λ (x : ℕ). Some x) (bits_shown v e section 16 o stands.extent stands.same (behind 16 sixteen))
