-- What is read of a struct: its bits, and the values behind its pointers.
use Rattle.std.proofs.Common.{◌≡◌, ℕ, ◌+◌, ◌*◌, ◌/◌, ◌%◌, ◌^◌, ◌<◌, ◌≤◌, ◌==◌, nat_lt, nat_le, Bool, true, false, not, ◌&&◌, if◌then◌else◌, List, length, Option, Some, None, Result, Ok, Err, OnOk, refl, sym, ap, subst, ◌∙◌, arith}
use Rattle.std.specs.Prelude.{⊤, ◌≢◌}
use Rattle.std.proofs.Math.Nat.{mod-eq_of_lt, div-eq_of_lt}
use Rattle.std.proofs.lemmas.Nat.{pow_pos}
use Rattle.capnp_model.specs.Chains.{passes}
use Rattle.capnp_model.specs.Sections.{bits_at, number_of}
use Rattle.capnp_model.specs.Segments.{Segments, Place, word_at, after}
use Rattle.capnp_model.specs.Trees.{Tree, null, child}
use Rattle.capnp_model.specs.Traversal.{tree_at}
use Rattle.capnp_model.specs.Readings.{Extent, field_bits, just_bits, whole_words, discriminant, is_active}
use Rattle.capnp_model.specs.Edits.{has_turn}
use Rattle.capnp_model.proofs.lemmas.Bits.{bits_at-lt}
use Rattle.capnp_model.proofs.lemmas.Chaining.{some_is}
use Rattle.capnp_model.proofs.lemmas.Numbers.{number_of_lt, wider}
use Rattle.capnp_units.specs.declared.errors.Error.{Error}
use Rattle.capnp_units.specs.declared.limiter.ReadLimiter.{ReadLimiter}
use Rattle.capnp_model_writes.proofs.lemmas.Levels.{owned_more}
use Rattle.capnp_model_writes.proofs.lemmas.Zeros.{null_read}
use Rattle.capnp_model_writes.proofs.lemmas.Nulls.{null_word}
use Rattle.capnp_wire.specs.Views.{StructView, pointer_field}
use Rattle.capnp_wire.specs.Reads.{is_null_at, is_null_pointer}
use Rattle.capnp_wire.specs.Laws.{reads_behind}
use Rattle.capnp_copy_values.specs.Copies.{BecomesCopy, CopiesValue, copy_source, limited_words}
use Rattle.capnp_records.specs.declared.node.FieldRecord.{FieldRecord}
use Rattle.capnp_records.specs.NodeViews.{field_of, member_of}
use Rattle.capnp_values_queries.specs.Fields.{union_in}
use Rattle.capnp_values_queries.specs.Structs.{shape_of_struct}
use Rattle.capnp_values_queries.specs.Handles.{entry_of_field, IsFieldRecord}
use Rattle.capnp_values_queries.specs.declared.fields.Field.{Field}
use Rattle.capnp_schema_structs.proofs.Marks.{member_none, member_there}
use Rattle.capnp_schema_structs.specs.GroupWrites.{GroupSource}
use Rattle.capnp_schema_structs.specs.GroupSets.{ReachesTo, IsSource, PutsAny, entry_turn}
use Rattle.capnp_schema_structs.specs.Sources.{StandsIfRefused}

-- ---- bits

pub small_section : (section bits : ℕ) (bytes : List ℕ) → number_of 8 bytes ≡ section → 8 * length bytes ≡ bits → section < 2 ^ bits
small_section section bits bytes e h = subst (λ x. x < 2 ^ bits) e (subst (λ k. number_of 8 bytes < 2 ^ k) h (number_of_lt 8 bytes))

-- bits that lie in the words, or behind them
module _ (section words at w : ℕ) (small : section < 2 ^ (64 * words)) (lies : 64 * words < at + w → 64 * words ≤ at) where
  words_read : field_bits (just_bits (64 * words)) section at w ≡ field_bits whole_words section at w
  words_read = by (nat_le (at + w) (64 * words)) refl
    where
      by : (b : Bool) → nat_le (at + w) (64 * words) ≡ b → (if b then bits_at at w section else 0) ≡ bits_at at w section
      by true e = refl
      by false e =
          let over : 64 * words < at + w = grind arith in
          let below : section < 2 ^ at = wider section (64 * words) at (lies over) small in
          let none : section / 2 ^ at ≡ 0 = div-eq_of_lt below in
          sym (ap (λ z. z % 2 ^ w) none ∙ mod-eq_of_lt (pow_pos w))

module _ (v : StructView) (from : GroupSource) (is : IsSource v from) (bytes : List ℕ) (section : number_of 8 bytes ≡ v.section) (bits : 8 * length bytes ≡ v.bits) where
  by_extent : (e : Extent) → ReachesTo e v → (at w : ℕ) → ((d : ℕ) → 64 * d < at + w → 64 * d ≤ at) → field_bits (just_bits v.bits) v.section at w ≡ field_bits e v.section at w
  by_extent (just_bits size) goes at w lies = ap (λ k. field_bits (just_bits k) v.section at w) goes
  by_extent whole_words goes at w lies =
      let small : v.section < 2 ^ (64 * goes.0) = subst (λ k. v.section < 2 ^ k) goes.1 (small_section v.section v.bits bytes section bits) in
      ap (λ k. field_bits (just_bits k) v.section at w) goes.1 ∙ words_read v.section goes.0 at w small (lies goes.0)

  pub number_read : (at w : ℕ) → ((d : ℕ) → 64 * d < at + w → 64 * d ≤ at) → field_bits (just_bits v.bits) v.section at w ≡ field_bits from.extent from.section at w
  number_read at w lies = by_extent from.extent is.extent at w lies ∙ ap (λ x. field_bits from.extent x at w) is.section

  pub bit_read : (o : ℕ) → field_bits (just_bits v.bits) v.section o 1 ≡ field_bits from.extent from.section (1 * o) 1
  bit_read o = let e : o ≡ 1 * o = omega arith in number_read o 1 (λ d l. omega (arith, l)) ∙ ap (λ z. field_bits from.extent from.section z 1) e

  pub byte_read : (o : ℕ) → field_bits (just_bits v.bits) v.section (8 * (1 * o)) 8 ≡ field_bits from.extent from.section (8 * o) 8
  byte_read o = let e : 8 * (1 * o) ≡ 8 * o = omega arith in number_read (8 * (1 * o)) 8 (λ d l. omega (arith, l)) ∙ ap (λ z. field_bits from.extent from.section z 8) e

  pub two_read : (o : ℕ) → field_bits (just_bits v.bits) v.section (8 * (2 * o)) 16 ≡ field_bits from.extent from.section (16 * o) 16
  two_read o = let e : 8 * (2 * o) ≡ 16 * o = omega arith in number_read (8 * (2 * o)) 16 (λ d l. omega (arith, l)) ∙ ap (λ z. field_bits from.extent from.section z 16) e

  pub four_read : (o : ℕ) → field_bits (just_bits v.bits) v.section (8 * (4 * o)) 32 ≡ field_bits from.extent from.section (32 * o) 32
  four_read o = let e : 8 * (4 * o) ≡ 32 * o = omega arith in number_read (8 * (4 * o)) 32 (λ d l. omega (arith, l)) ∙ ap (λ z. field_bits from.extent from.section z 32) e

  pub eight_read : (o : ℕ) → field_bits (just_bits v.bits) v.section (8 * (8 * o)) 64 ≡ field_bits from.extent from.section (64 * o) 64
  eight_read o = let e : 8 * (8 * o) ≡ 64 * o = omega arith in number_read (8 * (8 * o)) 64 (λ d l. omega (arith, l)) ∙ ap (λ z. field_bits from.extent from.section z 64) e

-- ---- truth values

pub field_bits-lt : (e : Extent) (section at w : ℕ) → field_bits e section at w < 2 ^ w
field_bits-lt whole_words section at w = bits_at-lt at w section
field_bits-lt (just_bits size) section at w = by (nat_le (at + w) size)
  where
    by : (b : Bool) → (if b then bits_at at w section else 0) < 2 ^ w
    by true = bits_at-lt at w section
    by false = pow_pos w

pub one_bit : (a x : ℕ) (b : Bool) → b ≡ (x == 1) → b ≡ true → x ≡ a → 1 ≡ a
one_bit a x b is h e = (let t : (x == 1) ≡ true = sym is ∙ h in let one : x ≡ 1 = grind arith in sym one ∙ e)

pub no_bit : (a x : ℕ) (b : Bool) → b ≡ (x == 1) → b ≡ false → x ≡ a → a < 2 → 0 ≡ a
no_bit a x b is h e l = (let t : (a == 1) ≡ false = ap (λ y. y == 1) (sym e) ∙ sym is ∙ h in grind arith)

-- ---- children

zero_word : (o : Option ℕ) → passes (λ w. w == 0) o ≡ true → o ≡ Some 0
zero_word None h = absurd (cc h)
zero_word (Some w) h = (let e : w ≡ 0 = grind arith in ap (λ x. Some x) e)

null_behind : (s : Segments) (o : Option Place) → is_null_at s o ≡ true → reads_behind (tree_at 0 s) o ≡ Some null
null_behind s None h = refl
null_behind s (Some p) h = null_read 0 s p (zero_word (word_at s p) h)

some_behind : (n : ℕ) (s : Segments) (p : Place) (t : Tree) → tree_at n s p ≡ Some t → is_null_at s (Some p) ≡ false → t ≡ null → ⊥
some_behind n s p t e h z =
    let word : word_at s p ≡ Some 0 = null_word n s p (e ∙ ap (λ x. Some x) z) in
    let zero : passes (λ w. w == 0) (word_at s p) ≡ true = ap (passes (λ w. w == 0)) word in
    let no : true ≡ false = sym zero ∙ h in
    cc no

module _ (v : StructView) (from : GroupSource) (is : IsSource v from) (i : ℕ) where
  pub null_child : is_null_pointer (pointer_field v i) ≡ true → child from.kids i ≡ null
  null_child h = is.children 0 i null (null_behind v.basis.segments (pointer_field v i).place h)

  -- one that isn't null, and can be read
  pub record Child (levels : ℕ) (t : Tree) : Type 0 where
    pub is_it : child from.kids i ≡ t
    pub some : t ≡ null → ⊥

  pub child_read : (levels : ℕ) (t : Tree) → is_null_pointer (pointer_field v i) ≡ false → tree_at levels v.basis.segments (after v.first i) ≡ Some t → Child levels t
  child_read levels t h e = by (nat_lt i v.pointers) h (is.children levels i t)
    where
      by : (b : Bool) → is_null_at v.basis.segments (if b then Some (after v.first i) else None) ≡ false → (reads_behind (tree_at levels v.basis.segments) (if b then Some (after v.first i) else None) ≡ Some t → child from.kids i ≡ t) → Child levels t
      by true e' k = record { is_it = k e; some = some_behind levels v.basis.segments (after v.first i) t e e' }
      by false e' k = absurd (cc e')

-- ---- a child that is copied

pub puts_copy : (levels : ℕ) (s u : Segments) (p : Place) (v : Tree) → BecomesCopy levels s u p v → PutsAny s u p v
puts_copy levels s u p v h n t own = (levels, h (n + levels) t (omega arith) (owned_more n (n + levels) s p t (omega arith) own))

pub copy_stands : (levels : ℕ) (f s u : Segments) (q p : Place) (old new : ReadLimiter) (r : Result ⊤ Error) → CopiesValue (copy_source levels f q) p (limited_words s old) r (limited_words u new) → StandsIfRefused s u r
copy_stands levels f s u q p old new (Ok x) h = record { grows = h.grows; refused = tt }
copy_stands levels f s u q p old new (Err e) h = record { grows = h.left.grows; refused = h.left }

pub value_copied : (levels : ℕ) (f s u : Segments) (q p : Place) (old new : ReadLimiter) (r : Result ⊤ Error) (t : Tree) → CopiesValue (copy_source levels f q) p (limited_words s old) r (limited_words u new) → tree_at levels f q ≡ Some t → OnOk r (PutsAny s u p t)
value_copied levels f s u q p old new (Ok x) t h e =
    let same : h.value ≡ t = some_is h.value t (sym h.there_is ∙ e) in
    subst (λ y. PutsAny s u p y) same (puts_copy levels s u p h.value h.made)
value_copied levels f s u q p old new (Err e') t h e = tt

pub child_copied : (levels : ℕ) (v : StructView) (from : GroupSource) → IsSource v from → (i : ℕ) → is_null_pointer (pointer_field v i) ≡ false → (s u : Segments) (p : Place) (old new : ReadLimiter) (r : Result ⊤ Error) → CopiesValue (copy_source levels v.basis.segments (after v.first i)) p (limited_words s old) r (limited_words u new)
    → OnOk r ((child from.kids i ≢ null) × PutsAny s u p (child from.kids i))
child_copied levels v from is i some s u p old new (Ok x) h =
    let c = child_read v from is i levels h.value some h.there_is in
    (λ z. c.some (sym c.is_it ∙ z), subst (λ y. PutsAny s u p y) (sym c.is_it) (puts_copy levels s u p h.value h.made))
child_copied levels v from is i some s u p old new (Err e) h = tt

-- ---- turns

module _ (f : Field) (r : FieldRecord) (is : IsFieldRecord f.parent f.index (field_of r)) (members : Bool) (from : GroupSource) where
  pub turn_is : (m : Option ℕ) → member_of r.discriminant_value ≡ m → has_turn members m (discriminant (union_in (shape_of_struct f.parent)) from.extent from.section) ≡ entry_turn members (union_in (shape_of_struct f.parent)) (entry_of_field f) from
  turn_is m e = ap (λ x. has_turn members x (discriminant (union_in (shape_of_struct f.parent)) from.extent from.section)) (sym e) ∙ ap (λ o. entry_turn members (union_in (shape_of_struct f.parent)) o from) (sym is.entry)

  pub other_turn : r.discriminant_value ≡ 65535 → not members ≡ entry_turn members (union_in (shape_of_struct f.parent)) (entry_of_field f) from
  other_turn e = by members (discriminant (union_in (shape_of_struct f.parent)) from.extent from.section) ∙ turn_is None (member_none r.discriminant_value e)
    where
      by : (b : Bool) (d : Option ℕ) → not b ≡ has_turn b None d
      by true d = refl
      by false d = refl

  pub member_turn : (r.discriminant_value ≡ 65535 → ⊥) → (a : Bool) → a ≡ is_active (Some r.discriminant_value) (discriminant (union_in (shape_of_struct f.parent)) from.extent from.section) → (members && a) ≡ entry_turn members (union_in (shape_of_struct f.parent)) (entry_of_field f) from
  member_turn there a e = by members (discriminant (union_in (shape_of_struct f.parent)) from.extent from.section) e ∙ turn_is (Some r.discriminant_value) (member_there r.discriminant_value there)
    where
      by : (b : Bool) (d : Option ℕ) → a ≡ is_active (Some r.discriminant_value) d → (b && a) ≡ has_turn b (Some r.discriminant_value) d
      by true d h = h
      by false d h = refl
