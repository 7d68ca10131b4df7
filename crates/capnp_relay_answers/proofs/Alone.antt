-- Messages of one segment.
use Rattle.std.proofs.Common.{◌≡◌, ℕ, ◌/◌, ◌<◌, ◌≤◌, ◌^◌, Bool, true, false, Option, Some, None, List, [], ◌∷◌, ◌++◌, length, take, drop, Ok, IfSome, length-append, length-drop, refl, ap, ◌∙◌, arith}
use Rattle.std.specs.Prelude.{slice_get}
use Rattle.std.specs.Bool.{OnTrue}
use Rattle.std.specs.Option.{is_some, option_copied}
use Rattle.std.specs.Borrow.{Bor}
use Rattle.std.specs.Int.{from_le_bytes, w64}
use Rattle.std.proofs.Math.Seq.{take-append_seam}
use Rattle.std.proofs.lemmas.List.{take-map}
use Rattle.capnp_model.specs.Segments.{Segments, root}
use Rattle.capnp_model.specs.Trees.{Tree, has_capability}
use Rattle.capnp_model.specs.Trimming.{trim}
use Rattle.capnp_model.specs.Encoding.{canonical_words}
use Rattle.capnp_model.specs.Traversal.{tree_at}
use Rattle.capnp_model.specs.Canonical.{is_canonical_message}
use Rattle.capnp_units.specs.Limits.{left_of}
use Rattle.capnp_units.specs.Segments.{whole_words}
use Rattle.capnp_units.specs.declared.limiter.ReadLimiter.{ReadLimiter}
use Rattle.capnp_wire_objects.proofs.lemmas.Words.{whole_words-length}
use Rattle.capnp_wire_canonical.specs.Checks.{TellsMessage}
use Rattle.capnp_wire_canonical.specs.Writes.{filled, words_view}
use Rattle.capnp_relay_answers.specs.Reading.{ReadsValue, StandsCanonical}
use Rattle.capnp_relay_answers.specs.declared.bounds.Bounds.{Bounds}
use Rattle.capnp_relay_answers.proofs.Walks.{ValueLaws, put_back, stands_within}

some_past : (past : Option (List ℕ)) (y : List ℕ) → past ≡ Some y → is_some past ≡ false → ⊥
some_past None y p none = cc
some_past (Some x) y p none = cc

-- one segment, by what is at its number and past it
pub only : (s : List (List ℕ)) (b : List ℕ) (past : Option (List ℕ)) → past ≡ slice_get s 1 → is_some past ≡ false → Some b ≡ slice_get s 0 → s ≡ b ∷ []
only [] b past p none there = absurd cc
only (x ∷ []) b past p none there = cc
only (x ∷ y ∷ s) b past p none there = absurd (some_past past y p none)

pub only_there : (s : List (List ℕ)) (o past : Option (Bor (List ℕ))) → option_copied past ≡ slice_get s 1 → is_some past ≡ false → option_copied o ≡ slice_get s 0 → IfSome o (λ bytes. s ≡ bytes.now ∷ [])
only_there s None past p none there = tt
only_there s (Some b) None p none there = only s b.now None p refl there
only_there s (Some b) (Some x) p none there = absurd cc

-- what the law says of a canonical message
abbrev pub CanonicalHolds : Type 0
CanonicalHolds = (n : ℕ) (s : Segments) → is_canonical_message n s ≡ true → (t : Tree) × (tree_at n s root ≡ Some t) × (has_capability t ≡ false) × (s ≡ canonical_words (trim t) ∷ [])

-- words over the first of a buffer
pub front_filled : (len : ℕ) (items new row : List (List ℕ)) → len ≡ length items → length row ≤ length items → new ≡ row ++ drop (length row) items → filled (length row) (take len (new ++ drop (length new) items)) ≡ words_view row
front_filled len items new row is fits laid =
    let size : length new ≡ length items = ap length laid ∙ omega (arith, length-append row (drop (length row) items), length-drop (length row) items, fits) in
    ap (filled (length row)) (put_back len new items is size ∙ laid) ∙ take-map (from_le_bytes w64) (length row) (row ++ drop (length row) items) ∙ ap words_view (take-append_seam row (drop (length row) items))

head_is : (ws us : List ℕ) → ◌≡◌ {A = Segments} (ws ∷ []) (us ∷ []) → ws ≡ us
head_is ws us e = cc

some_words : (t : Tree) → 0 < length (canonical_words t)
unfolding canonical_words
some_words t = omega arith

module _ (bytes : List ℕ) (b : Bounds) where
  abbrev Message : Segments
  Message = whole_words bytes ∷ []

  pub stands : ValueLaws → CanonicalHolds → (n : ℕ) → n ≤ b.nesting → (l m : ReadLimiter) (is : Bool) → left_of l ≡ Some b.words → length bytes / 8 < 2 ^ 29 → TellsMessage n Message l (Ok is) m → OnTrue is (StandsCanonical b Message)
  stands laws holds n less l m false left few tells = tt
  stands laws holds n less l m true left few tells =
      let h = holds n Message tells.0 in
      let long = ap length (head_is _ _ h.3) in
      stands_within laws Message b n less l m h.0 left tells.1 h.1 h.2 h.3 (let size = whole_words-length bytes in omega (arith, long, size, few))

  -- its words, copied, are those of its value
  pub copied : StandsCanonical b Message → (into : List (List ℕ)) (count : ℕ) → filled count into ≡ whole_words bytes → count ≡ length bytes / 8 → count ≤ length into → ReadsValue b Message into count
  copied r into count words is inside =
      let same = head_is _ _ r.alone in
      let long = ap length same in
      let size = whole_words-length bytes in
      let some = some_words (trim r.value) in
      let few = r.few in
      record {
        value = r.value;
        within = r.within;
        fits = r.fits;
        deep = r.deep;
        words = words ∙ same;
        inside = inside;
        some = omega (arith, long, size, some, is);
        few = omega (arith, long, size, few, is);
      }
