-- A struct that is owned at a place stands there, to be read, where its record is.
use Rattle.std.proofs.Common.{◌≡◌, ℕ, ℤ, ◌+◌, ◌*◌, ◌^◌, ◌≤◌, ◌<◌, zero, suc, true, false, Bool, Some, None, List, refl, ap, sym, ◌∙◌, subst, arith}
use Rattle.std.specs.Prelude.{nat_lt, if◌then◌else◌, take}
use Rattle.std.proofs.lemmas.Bool.Decides.{nat_tests}
use Rattle.capnp_model.specs.Sections.{section_of}
use Rattle.capnp_model.specs.Segments.{Segments, Place, after, words_at}
use Rattle.capnp_model.specs.Pointers.{a_struct}
use Rattle.capnp_model.specs.Trees.{Tree, structure, Trees, none, ◌▸◌, child, null, tree_count}
use Rattle.capnp_model.specs.Traversal.{each, tree_of, tree_at}
use Rattle.capnp_model.specs.Answers.{levels}
use Rattle.capnp_model.specs.Schemas.{Schema, Shape}
use Rattle.capnp_model.specs.Readings.{record_as, shape_record, whole_words, read_child}
use Rattle.capnp_model.proofs.lemmas.Chaining.{bind_some, some_is}
use Rattle.capnp_units.specs.Segments.{words_in}
use Rattle.capnp_wire_objects.specs.Inside.{section_at}
use Rattle.capnp_wire_objects.proofs.lemmas.Linking.{section_front}
use Rattle.capnp_model_writes.proofs.lemmas.Rows.{child_read}
use Rattle.capnp_wire_canonical.proofs.lemmas.Scanning.{front_small}
use Rattle.capnp_wire.specs.Views.{struct_at}
use Rattle.capnp_wire.specs.Laws.{reads_behind}
use Rattle.capnp_values.specs.Standing.{HasSectionAndChildren, IsRecord}
use Rattle.capnp_model.proofs.lemmas.Counts.{each_count}

abbrev section_in : Tree → ℕ
section_in (structure w section kids) = section
section_in _ = 0

abbrev kids_in : Tree → Trees
kids_in (structure w section kids) = kids
kids_in _ = none

past_last : (ts : Trees) (i : ℕ) → tree_count ts ≤ i → child ts i ≡ null
past_last none i h = refl
past_last (t ▸ ts) zero h = absurd (omega (arith, h))
past_last (t ▸ ts) (suc i) h = past_last ts i (omega (arith, h))

module _ (n : ℕ) (s : Segments) (p : Place) (d k section : ℕ) (kids : Trees) (is : tree_of s (tree_at n s) (a_struct p d k) ≡ Some (structure d section kids)) where
  -- the struct's words, and its children
  pub words : (ws : List ℕ) × (words_at s p (d + k) ≡ Some ws) × (section_of (take d ws) ≡ section) × (each (tree_at n s) (after p d) k ≡ Some kids)
  words =
      let a = bind_some (words_at s p (d + k)) _ _ is in
      let b = bind_some (each (tree_at n s) (after p d) k) _ _ a.2 in
      let e = some_is _ _ b.2 in
      (a.0, a.1, ap section_in e, b.1 ∙ ap (λ (ts : Trees). Some ts) (ap kids_in e))

  child_behind : (i : ℕ) → reads_behind (tree_at n s) (if nat_lt i k then Some (after (after p d) i) else None) ≡ Some (child kids i)
  child_behind i = by (nat_lt i k) refl
    where
      by : (b : Bool) → nat_lt i k ≡ b → reads_behind (tree_at n s) (if b then Some (after (after p d) i) else None) ≡ Some (child kids i)
      by true h = child_read (tree_at n s) (after p d) (after (after p d) i) k i kids refl (grind (arith, nat_tests)) words.3
      by false h =
          let count = each_count (tree_at n s) (after p d) k kids words.3 in
          let past : k ≤ i = grind (arith, nat_tests) in
          ap (λ (t : Tree). Some t) (sym (past_last kids i (omega (arith, count, past))))

pub stands : (n left : ℕ) (bytes : List (List ℕ)) (nesting : ℤ) (p : Place) (d k section : ℕ) (kids : Trees) → levels nesting ≡ Some left → n ≤ left
    → tree_of (words_in bytes) (tree_at n (words_in bytes)) (a_struct p d k) ≡ Some (structure d section kids) → HasSectionAndChildren n (struct_at bytes nesting p d k) whole_words section kids
stands n left bytes nesting p d k section kids l enough is =
    let s = words_in bytes in
    let w = words n s p d k section kids is in
    let same : section_at s p d ≡ section = section_front s p d k w.0 w.1 ∙ w.2 in
    record {
      extent = (d, refl, subst (λ x. x < 2 ^ (64 * d)) (w.2 ∙ sym same) (front_small d w.0));
      same = same;
      children = λ i. record { left = left; levels = l; enough = enough; tree = child_behind n s p d k section kids is i };
    }

pub record_stands : (n left : ℕ) (bytes : List (List ℕ)) (nesting : ℤ) (p : Place) (d k section : ℕ) (kids : Trees) (s : Schema) (g : Shape) → levels nesting ≡ Some left → n ≤ left
    → tree_of (words_in bytes) (tree_at n (words_in bytes)) (a_struct p d k) ≡ Some (structure d section kids) → IsRecord s g (struct_at bytes nesting p d k) (record_as (shape_record g whole_words section (read_child s kids)))
record_stands n left bytes nesting p d k section kids s g l enough is = record { levels = n; extent = whole_words; section = section; kids = kids; stands = stands n left bytes nesting p d k section kids l enough is; is = refl }
