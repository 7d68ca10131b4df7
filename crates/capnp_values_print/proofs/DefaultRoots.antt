-- The root of a default, and what stands there.
use Rattle.std.proofs.Common.{◌≡◌, ℕ, ◌/◌, Bool, true, false, ◌==◌, if◌then◌else◌, List, [], ◌∷◌, length, Option, Some, None, Result, Ok, Err, refl, ap, sym, ◌∙◌, arith}
use Rattle.std.specs.Prelude.{pos}
use Rattle.std.specs.Option.{ok_or}
use Rattle.std.specs.List.{flat_map}
use Rattle.std.specs.Simd.{first_chunks}
use Rattle.capnp_model.specs.Kinds.{Kind, OutOfBounds}
use Rattle.capnp_model.specs.Chains.{◌and_then◌, passes}
use Rattle.capnp_model.specs.Segments.{root, word_at}
use Rattle.capnp_model.specs.Trees.{Tree, is_null as is_null_tree}
use Rattle.capnp_units.specs.Segments.{words_in}
use Rattle.capnp_wire.specs.Views.{PointerView, arena_root}
use Rattle.capnp_wire.specs.Reads.{is_null_at, is_null_pointer, default_root}
use Rattle.capnp_values.specs.Sources.{null_default, default_pointer}
use Rattle.capnp_values.specs.Standing.{NullsAreRead}
use Rattle.capnp_values.proofs.lemmas.DefaultReadings.{Encoded, joined}
use Rattle.capnp_values_print.specs.Defaults.{is_null_segment}

-- the root is null where the value is
root_null : (bs : List ℕ) → is_null_segment bs ≡ is_null_pointer (arena_root (bs ∷ []) (pos 64))
root_null bs = by (word_at (words_in (bs ∷ [])) root) refl
  where
    by : (o : Option ℕ) → word_at (words_in (bs ∷ [])) root ≡ o → (elim (ok_or o OutOfBounds and_then λ _. Ok (arena_root (bs ∷ []) (pos 64))) as (λ (r : Result PointerView Kind). Bool) [ Ok p ↦ is_null_pointer p | Err kind ↦ false ]) ≡ is_null_pointer (arena_root (bs ∷ []) (pos 64))
    by None e = sym (ap (passes (λ w. w == 0)) e)
    by (Some w) e = refl

module _ (nulls : NullsAreRead) (bs : List ℕ) (t : Tree) (is : Encoded bs t) where
  pub segment_null : is_null_segment bs ≡ is_null_tree t
  segment_null = root_null bs ∙ nulls 64 (arena_root (bs ∷ []) (pos 64)) t (record { left = 64; levels = refl; enough = omega arith; tree = is.tree })

  same_words : flat_map (λ w. w) (first_chunks 8 (length bs / 8) bs) ≡ bs
  same_words =
      let eighth : length bs / 8 ≡ is.words = omega (arith, is.long) in
      ap (λ (k : ℕ). flat_map (λ w. w) (first_chunks 8 k bs)) eighth ∙ joined is.words bs is.long

  -- a default whose root is null is read at a null pointer
  pub null_pointed : is_null_tree t ≡ true → default_pointer bs ≡ null_default
  null_pointed e =
      let same : is_null_pointer (default_root (first_chunks 8 (length bs / 8) bs) (Some 64)) ≡ true = ap (λ (x : List ℕ). is_null_at (words_in (x ∷ [])) (Some root)) same_words ∙ sym (root_null bs) ∙ segment_null ∙ e in
      ap (λ b. if b then null_default else default_root (first_chunks 8 (length bs / 8) bs) (Some 64)) same

pub null_is_null : is_null_pointer null_default ≡ true
null_is_null = refl
