-- Changes at the levels that all values of a message keep.
use Rattle.std.proofs.Common.{ℕ, suc, ◌+◌, ◌^◌, ◌≤◌, ◌<◌, arith}
use Rattle.capnp_model.specs.Segments.{Segments}
use Rattle.capnp_model.specs.Pointers.{Object}
use Rattle.capnp_model.specs.Trees.{Tree, depth}
use Rattle.capnp_model_writes.specs.Footprints.{OwnsObject}
use Rattle.capnp_model_writes.specs.Changes.{ReplacesObject}
use Rattle.capnp_model_writes.specs.Totals.{words_of_segments}

-- what the laws of depths say
pub record DepthLaws : Type 0 where
  pub depths : (n : ℕ) (s : Segments) (o : Object) (t : Tree) → OwnsObject n s o t → depth t ≤ 1 + words_of_segments s
  pub owned : (n m : ℕ) (s : Segments) (o : Object) (t : Tree) → depth t ≤ suc m → OwnsObject n s o t → OwnsObject m s o t
  pub replaced : (n m : ℕ) (s u : Segments) (o : Object) (t v : Tree) → depth t ≤ suc m → depth v ≤ suc m → OwnsObject n s o t → ReplacesObject n s u o v → ReplacesObject m s u o v

-- a changed object is owned
abbrev pub After : Type 0
After = (n : ℕ) (s u : Segments) (o : Object) (t v : Tree) → OwnsObject n s o t → ReplacesObject n s u o v → OwnsObject n u o v

module _ (laws : DepthLaws) (s : Segments) (few : words_of_segments s < 2 ^ 29) where
  -- what is owned is so at any levels of which there are as many as words in a message
  pub at_levels : (n m : ℕ) (o : Object) (t : Tree) → 2 ^ 29 ≤ m → OwnsObject n s o t → OwnsObject m s o t
  at_levels n m o t most owns =
      let h = laws.depths n s o t owns in
      let low : depth t ≤ suc m = omega (arith, h, few, most) in
      laws.owned n m s o t low owns

  -- a change with some levels more is one at the same levels
  pub same_levels : After → (u : Segments) → words_of_segments u < 2 ^ 29 → (n more : ℕ) (o : Object) (t v : Tree) → 2 ^ 29 ≤ n → OwnsObject n s o t
      → (OwnsObject (n + more) s o t → ReplacesObject (n + more) s u o v) → ReplacesObject n s u o v
  same_levels after u few_later n more o t v most owns change =
      let enough : 2 ^ 29 ≤ n + more = omega (arith, most) in
      let deeper = at_levels n (n + more) o t enough owns in
      let changed = change deeper in
      let now = after (n + more) s u o t v deeper changed in
      let h = laws.depths n s o t owns in
      let h' = laws.depths (n + more) u o v now in
      let low : depth t ≤ suc n = omega (arith, h, few, most) in
      let low' : depth v ≤ suc n = omega (arith, h', few_later, most) in
      laws.replaced (n + more) n s u o t v low low' deeper changed
