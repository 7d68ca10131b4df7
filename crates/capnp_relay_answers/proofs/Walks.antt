-- What is read of a canonical copy within bounds.
use Rattle.std.proofs.Common.{◌≡◌, ℕ, ◌<◌, ◌≤◌, ◌^◌, Bool, true, false, None, Some, List, [], ◌∷◌, ◌++◌, length, Ok, Err, refl, ap, sym, ◌∙◌, subst, append-nil, take, drop, arith}
use Rattle.std.specs.Prelude.{nat_lt}
use Rattle.std.proofs.lemmas.List.{drop_all, take_all}
use Rattle.std.proofs.lemmas.Bool.Decides.{nat_tests}
use Rattle.capnp_model.specs.Segments.{Segments, Place, root}
use Rattle.capnp_model.specs.Trees.{Tree, depth, has_capability}
use Rattle.capnp_model.specs.Fits.{Fits}
use Rattle.capnp_model.specs.Trimming.{trim}
use Rattle.capnp_model.specs.Encoding.{canonical_words}
use Rattle.capnp_model.specs.Traversal.{tree_at, cost_at}
use Rattle.capnp_model.specs.Answers.{value_within}
use Rattle.capnp_model.specs.Visits.{Visit, visits, visits_cost}
use Rattle.capnp_units.specs.Limits.{left_of}
use Rattle.capnp_units.specs.declared.errors.Error.{Error}
use Rattle.capnp_units.specs.declared.kinds.ErrorKind.TheVariants as error
use Rattle.capnp_units.specs.declared.limiter.ReadLimiter.{ReadLimiter}
use Rattle.capnp_wire_objects.specs.Walks.{Walked, Stopped, CannotPass}
use Rattle.capnp_wire_canonical.specs.Reaches.{reach}
use Rattle.capnp_wire_canonical.specs.Copies.{copy_state, copy_visits, Written}
use Rattle.capnp_wire_canonical.specs.Objects.{canonical_copy}
use Rattle.capnp_wire_canonical.proofs.lemmas.Limited.{WalkLaws, no_cost, walked_within, written_within, stopped_none}
use Rattle.capnp_relay_answers.specs.declared.bounds.Bounds.{Bounds}
use Rattle.capnp_relay_answers.specs.Reading.{ReadsValue, StandsCanonical}
use Rattle.capnp_relay_answers.specs.Bounds.{limits_view}
use Rattle.capnp_relay_answers.proofs.Levels.{LevelLaws, read_with_more, written_with_more, walked_with_more, stopped_with_more}

-- what is written back of a slice of a whole buffer
pub put_back : {X : Type 0} (len : ℕ) (new items : List X) → len ≡ length items → length new ≡ length items → take len (new ++ drop (length new) items) ≡ new
put_back len new items is same =
    ap (λ xs. take len (new ++ xs)) (drop_all (length new) items (omega (arith, same))) ∙ ap (take len) (append-nil new) ∙ take_all len new (omega (arith, is, same))

-- what the laws of the model say of walks and of the values that are read
pub record ValueLaws : Type 0 where
  pub of_walks : WalkLaws
  pub of_levels : LevelLaws
  pub fits : (n : ℕ) (s : Segments) (p : Place) (t : Tree) → tree_at n s p ≡ Some t → Fits t
  pub trim_fits : (t : Tree) → Fits t → Fits (trim t)
  pub trim_depth : (t : Tree) → depth (trim t) ≤ depth t

module _ (laws : ValueLaws) (s : Segments) (b : Bounds) where
  low_enough : (t : Tree) → tree_at b.nesting s root ≡ Some t → depth (trim t) ≤ b.nesting
  low_enough t there = let low = laws.of_levels.deep b.nesting s root t there in let least = laws.trim_depth t in omega (arith, low, least)

  whole_read : (l m : ReadLimiter) (old new : List (List ℕ)) (end : ℕ) → left_of l ≡ Some b.words
      → Written (canonical_copy (reach b.nesting s) root) (copy_state old l) end (copy_state new m) → ReadsValue b s new end
  whole_read l m old new end left w =
      record {
        value = w.what;
        within = written_within laws.of_walks s b.words b.nesting l m old new end left w;
        fits = laws.trim_fits w.what (laws.fits b.nesting s root w.what w.there_is);
        deep = low_enough w.what w.there_is;
        words = w.words;
        inside = w.bound;
        some = omega (arith, w.more);
        few = w.near;
      }

  -- with so many levels, no more than the bounds have
  module _ (n : ℕ) (less : n ≤ b.nesting) where
    pub value_read : (l m : ReadLimiter) (old new : List (List ℕ)) (end : ℕ) → left_of l ≡ Some b.words
        → Written (canonical_copy (reach n s) root) (copy_state old l) end (copy_state new m) → ReadsValue b s new end
    value_read l m old new end left w = whole_read l m old new end left (written_with_more laws.of_levels n b.nesting s root less has_capability (λ t words. canonical_words (trim t)) 1 1 old new l m end w)

    -- a message that a whole walk finds to be canonical
    pub stands_within : (l m : ReadLimiter) (t : Tree) → left_of l ≡ Some b.words → Walked (visits n s root) l m → tree_at n s root ≡ Some t → has_capability t ≡ false
        → s ≡ canonical_words (trim t) ∷ [] → length (canonical_words (trim t)) < 2 ^ 29 → StandsCanonical b s
    stands_within l m t left walked there clean alone few =
        let same = walked_with_more laws.of_levels n b.nesting s root less laws.of_walks t there clean in
        let whole = read_with_more laws.of_levels n b.nesting s root less t there in
        record {
          value = t;
          within = walked_within laws.of_walks s b.words b.nesting l m t left (subst (λ (path : List Visit). Walked path l m) same walked) whole clean;
          fits = laws.trim_fits t (laws.fits b.nesting s root t whole);
          deep = low_enough t whole;
          alone = alone;
          few = few;
        }

    -- a copy that is stopped, but not for want of levels where the bounds have more
    pub none_read : (l m : ReadLimiter) (e : Error) → left_of l ≡ Some b.words → (n < b.nesting → e.kind ≡ error.NestingLimitExceeded → ⊥) → Stopped (copy_visits n s root) l e m → value_within (limits_view b) s ≡ None
    none_read l m e left other stop = stopped_none laws.of_walks s b.words b.nesting l m e left (by (nat_lt n b.nesting) refl)
      where
        by : (c : Bool) → nat_lt n b.nesting ≡ c → Stopped (copy_visits b.nesting s root) l e m
        by true h = let below : n < b.nesting = grind (arith, nat_tests) in stopped_with_more n b.nesting s root l m e less (other below) stop
        by false h =
            let far : b.nesting ≤ n = grind (arith, nat_tests) in
            let same : n ≡ b.nesting = omega (arith, far, less) in
            subst (λ (k : ℕ). Stopped (copy_visits k s root) l e m) same stop

-- a walk over a value without a limit is stopped only where the value is deeper
pub deeper : LevelLaws → ((n : ℕ) (s : Segments) (p : Place) (t : Tree) → tree_at n s p ≡ Some t → visits_cost (visits n s p) ≡ Some (cost_at n s p)) → (s : Segments) (n levels : ℕ) (t : Tree) (l m : ReadLimiter) (e : Error) → left_of l ≡ None → Stopped (visits levels s root) l e m → tree_at n s root ≡ Some t → levels < depth t
deeper laws cost s n levels t l m e free stop there = by (nat_lt levels (depth t)) refl
  where
    stopped : tree_at levels s root ≡ Some t → ⊥
    stopped at = last stop.last refl stop.why
      where
        last : (v : Visit) → stop.last ≡ v → CannotPass (left_of l) stop.paid v e.kind → ⊥
        last (Err k) is why =
            no_cost stop.before stop.behind k (cost_at levels s root)
            (sym (ap visits_cost (stop.path_is ∙ ap (λ x. stop.before ++ x ∷ stop.behind) is)) ∙ cost levels s root t at)
        last (Ok n') is why = (subst (λ o. CannotPass o stop.paid (Ok n') e.kind) free why).1

    by : (b : Bool) → nat_lt levels (depth t) ≡ b → levels < depth t
    by true h = grind (arith, nat_tests)
    by false h =
        let low : depth t ≤ levels = grind (arith, nat_tests) in
        absurd (stopped (laws.levels n levels s root t there low))
