-- Pointers in a row, written one after the other.
use Rattle.std.proofs.Common.{◌≡◌, ℕ, ◌+◌, ◌-◌, ◌^◌, ◌<◌, ◌≤◌, List, length, Option, refl, ap, arith}
use Rattle.capnp_model.specs.Segments.{Segments, Place, after}
use Rattle.capnp_model.specs.Trees.{Tree, Trees, none, has_capability, have_capability}
use Rattle.capnp_model.specs.Traversal.{tree_at, each}
use Rattle.capnp_model.specs.Trimming.{trim, trim_each}
use Rattle.capnp_model.specs.Coverage.{from_each}
use Rattle.capnp_model.specs.Visits.{Visit}
use Rattle.capnp_units.specs.declared.errors.Error.{Error}
use Rattle.capnp_units.specs.declared.limiter.ReadLimiter.{ReadLimiter}
use Rattle.capnp_model.proofs.lemmas.TrimFits.{count-trim_each}
use Rattle.capnp_wire_objects.proofs.lemmas.Rows.{row_start, row_end, met_next}
use Rattle.capnp_model.proofs.lemmas.Counts.{each_count}
use Rattle.capnp_wire_canonical.specs.Reaches.{reach}
use Rattle.capnp_wire_canonical.specs.Writes.{filled, with_link, with_links}
use Rattle.capnp_wire_canonical.specs.Copies.{copy_visits, Written, Unwritten, copy_state}
use Rattle.capnp_wire_canonical.specs.Objects.{write_spot, value_copy}
use Rattle.capnp_wire_canonical.proofs.Copying.{SoFar, begun, next, ended, stopped, over_used}
use Rattle.capnp_wire_canonical.proofs.Rows.{row_join, row_parts}
use Rattle.capnp_wire_canonical.proofs.Rooms.{link_longer, links_longer}
use Rattle.capnp_wire_canonical.proofs.lemmas.Putting.{links_all}
use Rattle.capnp_wire_canonical.proofs.Objects.{filled_length}

-- The trees from one of the pointers on.
abbrev pub trees_from : ℕ → Segments → Place → ℕ → ℕ → Option Trees
trees_from n s p count i = each (tree_at n s) (after p i) (count - i)

-- The visits at them.
abbrev pub visits_from : ℕ → Segments → Place → ℕ → ℕ → List Visit
visits_from n s p count i = from_each (copy_visits n s) (after p i) (count - i)

-- Trimmed trees over the words from a place to an end.
abbrev pub trees_put : ℕ → ℕ → Trees → List ℕ → List ℕ
trees_put at end = λ ts. with_links at end (trim_each ts)

-- The pointers before one of them are written, and what they lead to is paid.
abbrev pub PointersSoFar : ℕ → Segments → Place → ℕ → ℕ → ℕ → ℕ → List (List ℕ) → ReadLimiter → ℕ → List (List ℕ) → ReadLimiter → Type 0
PointersSoFar n s p count at i first old l used now m =
    SoFar (each (tree_at n s) p count) (trees_from n s p count i) have_capability (trees_put at (at + count)) (trees_put (at + i) (at + count)) (from_each (copy_visits n s) p count) (visits_from n s p count i) first old l used now m

module _ (n : ℕ) (s : Segments) (p : Place) (count at first : ℕ) (old : List (List ℕ)) (l : ReadLimiter) where
  pub pointers_begun : first ≤ length old → first < 2 ^ 29 → PointersSoFar n s p count at 0 first old l first old l
  pointers_begun bound near =
      let start : at + 0 ≡ at = omega arith in
      begun (each (tree_at n s) p count) (trees_from n s p count 0) have_capability (trees_put at (at + count)) (trees_put (at + 0) (at + count)) (from_each (copy_visits n s) p count) (visits_from n s p count 0) first old l
      (row_start p count (each (tree_at n s))) (row_start p count (from_each (copy_visits n s))) bound near (λ ts. ap (λ (j : ℕ). with_links j (at + count) (trim_each ts) (filled first old)) start)

  pub pointers_stopped : (i used : ℕ) (now new : List (List ℕ)) (j m : ReadLimiter) (e : Error) → i < count → at + count ≤ first → Unwritten (value_copy (reach n s) (after p i) (write_spot (at + i) used)) (copy_state now j) e (copy_state new m)
      → PointersSoFar n s p count at i first old l used now j → Unwritten (over_used (each (tree_at n s) p count) have_capability (trees_put at (at + count)) (from_each (copy_visits n s) p count) first) (copy_state old l) e (copy_state new m)
  pointers_stopped i used now new j m e h inside x so_far =
      let f = tree_at n s in
      let v = copy_visits n s in
      let more = so_far.more in
      let size = filled_length used now so_far.bound in
      let out : Tree → List ℕ = λ t. with_link (at + i) (trim t) (filled used now) in
      stopped (each f p count) (trees_from n s p count i) (trees_from n s p count (i + 1)) have_capability (trees_put at (at + count)) (trees_put (at + i) (at + count)) (trees_put (at + (i + 1)) (at + count))
      (f (after p i)) has_capability (λ t. with_link (at + i) (trim t)) (from_each v p count) (visits_from n s p count i) (v (after p i)) (visits_from n s p count (i + 1)) first old now new l j m used e (met_next p i count h v)
      (λ t ts is rest_is. row_join at i count (filled used now) f p t ts h (omega arith) is rest_is) (λ us is. row_parts i count f p us h is)
      (λ t ts is rest_is.
      let count_is = each_count f (after p (i + 1)) (count - (i + 1)) ts rest_is in
      let trimmed = count-trim_each ts in
      let long = link_longer (at + i) (trim t) (filled used now) in
      links_longer (at + (i + 1)) (at + count) (trim_each ts) (out t) (omega arith) (omega arith)) x so_far

  pub pointers_next : (i used end : ℕ) (now new : List (List ℕ)) (j m : ReadLimiter) → i < count → at + count ≤ first → Written (value_copy (reach n s) (after p i) (write_spot (at + i) used)) (copy_state now j) end (copy_state new m)
      → PointersSoFar n s p count at i first old l used now j → PointersSoFar n s p count at (i + 1) first old l end new m
  pointers_next i used end now new j m h inside written so_far =
      let f = tree_at n s in
      let v = copy_visits n s in
      let more = so_far.more in
      let size = filled_length used now so_far.bound in
      next (each f p count) (trees_from n s p count i) (trees_from n s p count (i + 1)) have_capability (trees_put at (at + count)) (trees_put (at + i) (at + count)) (trees_put (at + (i + 1)) (at + count))
      (f (after p i)) has_capability (λ t. with_link (at + i) (trim t)) (from_each v p count) (visits_from n s p count i) (visits_from n s p count (i + 1)) (v (after p i)) first old now new l j m used end
      (met_next p i count h v) (λ x y is rest_is. row_join at i count (filled used now) f p x y h (omega arith) is rest_is) (λ us is. row_parts i count f p us h is) written so_far

  pub pointers_ended : (i used : ℕ) (now : List (List ℕ)) (m : ReadLimiter) → i ≡ count → PointersSoFar n s p count at i first old l used now m → Written (over_used (each (tree_at n s) p count) have_capability (trees_put at (at + count)) (from_each (copy_visits n s) p count) first) (copy_state old l) used (copy_state now m)
  unfolding has_capability trim
  pointers_ended i used now m same so_far =
      let f = tree_at n s in
      let v = copy_visits n s in
      let past : count ≤ i = omega arith in
      ended (each f p count) (trees_from n s p count i) have_capability (trees_put at (at + count)) (trees_put (at + i) (at + count)) (from_each v p count) (visits_from n s p count i) first old now l m used none
      (row_end count i (each f (after p i)) past) refl (links_all (at + i) (at + count) (filled used now) (omega arith)) (row_end count i (from_each v (after p i)) past) so_far
