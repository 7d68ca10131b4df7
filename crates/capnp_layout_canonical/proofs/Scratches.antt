-- What is put by way of a scratch.
use Rattle.std.specs.Bool.{⊤}
use Rattle.std.specs.Prelude.{MatchOption}
use Rattle.std.proofs.Common.{◌≡◌, ℕ, suc, ◌+◌, Bool, true, false, List, Option, Some, None, Result, Ok, ap, ◌∙◌, inl, inr}
use Rattle.capnp_model.specs.Segments.{Segments, Place}
use Rattle.capnp_model.specs.Trees.{Tree}
use Rattle.capnp_model.specs.Traversal.{tree_at}
use Rattle.capnp_units.specs.declared.errors.Error.{Error}
use Rattle.capnp_units.specs.declared.limiter.ReadLimiter.{ReadLimiter}
use Rattle.capnp_model_writes.specs.Footprints.{Owns}
use Rattle.capnp_model_writes.specs.Changes.{Replaces}
use Rattle.capnp_wire.specs.Views.{StructView, ListView}
use Rattle.capnp_copy_values.specs.Copies.{BecomesCopy, StructSource, CopiesStruct, copy_source, limited_words}
use Rattle.capnp_copy_values.specs.Lists.{CopiesList, listed_tree, list_parts}
use Rattle.capnp_copy_values.specs.declared.lists.ListSource.{ListSource}
use Rattle.capnp_copy_values.specs.Canonical.{Canonical}
use Rattle.capnp_layout_builders.specs.Copied.{Walk, Charged, WithoutLevels, IsSourceOf, IsListSourceOf, SetsStruct, SetsList}
use Rattle.capnp_layout_canonical.specs.Scratch.{level_above, CopiesScratch, ThroughScratch, PutsTrimmed, tree_of_struct, PutsStruct, PutsList}

-- The walk that was charged, or not.
uncharged : (b : Bool) (W : Walk) (old new : ReadLimiter) (r : Result ⊤ Error) → Charged b W old r new → (l m : ReadLimiter) × W l r m
uncharged true W old new r w = (old, new, w)
uncharged false W old new r (l, m, free, w, same) = (l, m, w)

-- What succeeded had levels.
by_levels : (o : Option ℕ) (N : Type 0) (F G : ℕ → Type 0) → (N → ⊥) → ((n : ℕ) → F n → G n) → MatchOption o N F → MatchOption o ⊥ G
by_levels None N F G refuse f x = refuse x
by_levels (Some n) N F G refuse f x = f n x

-- Without levels nothing succeeds.
never : (b d : Segments) (old new : ReadLimiter) → WithoutLevels b d old (Ok tt) new → ⊥
never b d old new (is, same, kept) = absurd cc

-- What succeeded was put into the scratch.
passed : (plain : Walk) (n : ℕ) (d : Segments) (k : Place) (lent after : List (List ℕ)) (s u : Segments) (p : Place) (old new : ReadLimiter)
    → ThroughScratch plain n (record { words = d; slot = k; lent = lent; after = after }) (record { old = s; new = u; slot = p }) old (Ok tt) new → plain old (Ok tt) new × CopiesScratch n (record { words = d; slot = k; lent = lent; after = after }) (record { old = s; new = u; slot = p }) (Ok tt)
passed plain n d k lent after s u p old new (inl (e, is, same, kept, rest)) = absurd cc
passed plain n d k lent after s u p old new (inr x) = x

module _ (one : (n m : ℕ) (s : Segments) (p : Place) (t v : Tree) → tree_at n s p ≡ Some t → tree_at m s p ≡ Some v → t ≡ v)
    (copied : (levels n : ℕ) (s u : Segments) (p : Place) (t v : Tree) → BecomesCopy levels s u p v → Owns n s p t → Replaces (n + levels) s u p v) where
  puts : (there : Option Tree) (levels n m : ℕ) (b d : Segments) (k : Place) (t value : Tree) (lent after : List (List ℕ)) (s u : Segments) (p : Place)
      → there ≡ Some value → BecomesCopy levels b d k value → Owns n b k t → CopiesScratch m (record { words = d; slot = k; lent = lent; after = after }) (record { old = s; new = u; slot = p }) (Ok tt) → PutsTrimmed there m s u p
  puts there levels n m b d k t value lent after s u p is becomes owns x =
      let made : Canonical (copy_source m d k) p (limited_words s x.start) (limited_words u x.end) = x.through.copy in
      let r = copied levels n b d k t value becomes owns in
      let same : value ≡ made.value = one (n + levels) m d k value made.value r.means made.read.there_is in
      record { value = made.value; there_is = is ∙ (ap (λ (y : Tree). Some y) same); clean = made.read.clean; becomes = made.becomes }

  pub puts_struct : (v : StructView) (b d : Segments) (k : Place) (lent after : List (List ℕ)) (s u : Segments) (p : Place) (old new : ReadLimiter) (n : ℕ) (t : Tree) → Owns n b k t
      → ThroughScratch (SetsStruct v b d k) (level_above v.levels) (record { words = d; slot = k; lent = lent; after = after }) (record { old = s; new = u; slot = p }) old (Ok tt) new → PutsStruct v s u p
  puts_struct v b d k lent after s u p old new n t owns h =
      by_levels v.levels (WithoutLevels b d old (Ok tt) new) (λ i. Charged v.basis.paid (W i) old (Ok tt) new) (λ i. (x : StructSource) × IsSourceOf v x × PutsTrimmed (tree_of_struct i v.basis.segments x) (level_above v.levels) s u p)
      (never b d old new) by both.0
    where
      W : ℕ → Walk
      W i l r m = (x : StructSource) × IsSourceOf v x × CopiesStruct (copy_source i v.basis.segments x) k (limited_words b l) r (limited_words d m)

      both : SetsStruct v b d k old (Ok tt) new × CopiesScratch (level_above v.levels) (record { words = d; slot = k; lent = lent; after = after }) (record { old = s; new = u; slot = p }) (Ok tt)
      both = passed (SetsStruct v b d k) (level_above v.levels) d k lent after s u p old new h

      by : (i : ℕ) → Charged v.basis.paid (W i) old (Ok tt) new → (x : StructSource) × IsSourceOf v x × PutsTrimmed (tree_of_struct i v.basis.segments x) (level_above v.levels) s u p
      by i y = with_walk (uncharged v.basis.paid (W i) old new (Ok tt) y)
        where
          with_walk : (l m : ReadLimiter) × W i l (Ok tt) m → (x : StructSource) × IsSourceOf v x × PutsTrimmed (tree_of_struct i v.basis.segments x) (level_above v.levels) s u p
          with_walk (l, m, (x, parts, made)) = (x, parts, puts (tree_of_struct i v.basis.segments x) (suc i) n (level_above v.levels) b d k t made.value lent after s u p made.there_is made.becomes owns both.1)

  pub puts_list : (v : ListView) (b d : Segments) (k : Place) (lent after : List (List ℕ)) (s u : Segments) (p : Place) (old new : ReadLimiter) (n : ℕ) (t : Tree) → Owns n b k t
      → ThroughScratch (SetsList v b d k) (level_above v.levels) (record { words = d; slot = k; lent = lent; after = after }) (record { old = s; new = u; slot = p }) old (Ok tt) new → PutsList v s u p
  puts_list v b d k lent after s u p old new n t owns h =
      by_levels v.levels (WithoutLevels b d old (Ok tt) new) (λ i. Charged v.basis.paid (W i) old (Ok tt) new) (λ i. (x : ListSource) × (bytes : List ℕ) × IsListSourceOf v x bytes × PutsTrimmed (listed_tree (tree_at i v.basis.segments) x bytes) (level_above v.levels) s u p)
      (never b d old new) by both.0
    where
      W : ℕ → Walk
      W i l r m = (x : ListSource) × (bytes : List ℕ) × IsListSourceOf v x bytes × CopiesList (copy_source i v.basis.segments (list_parts x bytes)) k (limited_words b l) r (limited_words d m)

      both : SetsList v b d k old (Ok tt) new × CopiesScratch (level_above v.levels) (record { words = d; slot = k; lent = lent; after = after }) (record { old = s; new = u; slot = p }) (Ok tt)
      both = passed (SetsList v b d k) (level_above v.levels) d k lent after s u p old new h

      by : (i : ℕ) → Charged v.basis.paid (W i) old (Ok tt) new → (x : ListSource) × (bytes : List ℕ) × IsListSourceOf v x bytes × PutsTrimmed (listed_tree (tree_at i v.basis.segments) x bytes) (level_above v.levels) s u p
      by i y = with_walk (uncharged v.basis.paid (W i) old new (Ok tt) y)
        where
          with_walk : (l m : ReadLimiter) × W i l (Ok tt) m → (x : ListSource) × (bytes : List ℕ) × IsListSourceOf v x bytes × PutsTrimmed (listed_tree (tree_at i v.basis.segments) x bytes) (level_above v.levels) s u p
          with_walk (l, m, (x, bytes, parts, made)) = (x, bytes, parts, puts (listed_tree (tree_at i v.basis.segments) x bytes) (suc i) n (level_above v.levels) b d k t made.value lent after s u p made.there_is made.becomes owns both.1)
