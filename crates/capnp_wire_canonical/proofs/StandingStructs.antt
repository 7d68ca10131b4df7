-- Structs whose own words are all kept, and what is told of them.
use Rattle.std.proofs.Common.{◌≡◌, ℕ, ◌+◌, Bool, true, false, Some, Result, Ok, Err, refl, ap, sym, ◌∙◌}
use Rattle.std.specs.Option.{is_some}
use Rattle.capnp_model.specs.Sections.{needed_words}
use Rattle.capnp_model.specs.Segments.{Segments, Place, after, words_at}
use Rattle.capnp_model.specs.Trees.{Tree, structure, Trees, tree_count, resized}
use Rattle.capnp_model.specs.Traversal.{tree_at, each}
use Rattle.capnp_model.specs.Coverage.{from_each}
use Rattle.capnp_model.specs.Visits.{visits}
use Rattle.capnp_model.specs.Trimming.{stripped, trim, trim_each}
use Rattle.capnp_model.proofs.lemmas.TrimFits.{count-trim_each}
use Rattle.capnp_wire_objects.specs.Inside.{section_at, words_there}
use Rattle.capnp_units.specs.declared.errors.Error.{Error}
use Rattle.capnp_units.specs.declared.limiter.ReadLimiter.{ReadLimiter}
use Rattle.capnp_model.proofs.lemmas.Counts.{each_count}
use Rattle.capnp_model.proofs.lemmas.Stripping.{resized_all}
use Rattle.capnp_wire_canonical.specs.Reaches.{reach}
use Rattle.capnp_wire_canonical.specs.Widths.{kept, widest}
use Rattle.capnp_wire_canonical.specs.Checks.{TellsRow, TellsStruct, head_state}
use Rattle.capnp_wire_canonical.proofs.lemmas.Checking.{began_none}
use Rattle.capnp_wire_canonical.proofs.Objects.{stripped_front}
use Rattle.capnp_wire_canonical.proofs.StandingObjects.{least_struct}

-- the sizes of a struct
abbrev words_in_tree : Tree → ℕ
words_in_tree (structure d section ts) = d
words_in_tree t = 0

abbrev count_in_tree : Tree → ℕ
count_in_tree (structure d section ts) = tree_count ts
count_in_tree t = 0

-- all words are kept just where trimming cuts none
module _ (n : ℕ) (s : Segments) (q : Place) (d k a b : ℕ) (inside : is_some (words_at s q (d + k)) ≡ true) (words : a ≡ widest (λ r. needed_words d (section_at s r d)) q (d + k) 1) (pointers : b ≡ widest (λ r. kept (words_there s r k)) (after q d) (d + k) 1) (ts : Trees)
    (read : each (tree_at n s) (after q d) k ≡ Some ts) where
  full : tree_count (trim_each ts) ≡ k
  full = count-trim_each ts ∙ each_count (tree_at n s) (after q d) k ts read

  pub least_kept : a ≡ d → b ≡ k → trim (structure d (section_at s q d) ts) ≡ structure d (section_at s q d) (trim_each ts)
  unfolding trim
  least_kept e f =
      let section = section_at s q d in
      let least = least_struct n s q d k a b inside words pointers in
      let us = trim_each ts in
      let same : stripped us ≡ us = sym (stripped_front us) ∙ ap (λ (j : ℕ). resized j us) (least.1 ts read ∙ f) ∙ resized_all k us full in
      ap (λ (j : ℕ). structure j section (stripped us)) (sym least.0 ∙ e) ∙ ap (structure d section) same

  pub kept_least : trim (structure d (section_at s q d) ts) ≡ structure d (section_at s q d) (trim_each ts) → (a ≡ d) × (b ≡ k)
  unfolding trim
  kept_least same =
      let least = least_struct n s q d k a b inside words pointers in
      (least.0 ∙ ap words_in_tree same, sym (least.1 ts read) ∙ ap count_in_tree same ∙ full)

-- ---- what is told

module _ (n : ℕ) (s : Segments) (q : Place) (d k a b : ℕ) (inside : is_some (words_at s q (d + k)) ≡ true) (words : a ≡ widest (λ r. needed_words d (section_at s r d)) q (d + k) 1) (pointers : b ≡ widest (λ r. kept (words_there s r k)) (after q d) (d + k) 1) (h : Place) (l : ReadLimiter) where
  pub wide_told : ((a ≡ d) × (b ≡ k) → ⊥) → TellsStruct (reach n s) q (record { data_words = d; pointers = k }) (head_state h l) (Ok false) (head_state h l)
  wide_told apart = (
    refl,
    record {
      began = began_none (from_each (visits n s) (after q d) k) l;
      apart = λ small more ts end read clean stand. apart (kept_least (more + n) s q d k a b inside words pointers ts read stand.least);
    },
  )

  pub kept_told : (r : Result Bool Error) (h' : Place) (m : ReadLimiter) → a ≡ d → b ≡ k → TellsRow (reach n s) (after q d) k (head_state h l) r (head_state h' m) → TellsStruct (reach n s) q (record { data_words = d; pointers = k }) (head_state h l) r (head_state h' m)
  kept_told (Ok true) h' m e f x =
      let y = x.1 in
      let stand = y.stand in (
        x.0,
        record {
          what = y.what;
          there_is = y.there_is;
          clean = y.clean;
          stand = record { least = least_kept n s q d k a b inside words pointers y.what y.there_is e f; behind = stand.0; stand = stand.1 };
          near = y.near;
          walked = y.walked;
        },
      )
  kept_told (Ok false) h' m e f x =
      let y = x.1 in
      (x.0, record { began = y.began; apart = λ small more ts end read clean stand. y.apart small more ts end read clean (stand.behind, stand.stand) })
  kept_told (Err z) h' m e f x = x
