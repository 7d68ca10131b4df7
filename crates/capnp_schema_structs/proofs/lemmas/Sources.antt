-- Copies that are put into slots of a struct.
use Rattle.std.proofs.Common.{◌≡◌, ℕ, suc, ◌+◌, ◌*◌, ◌<◌, ◌≤◌, Bool, true, false, List, length, map, Option, Some, None, Result, Ok, Err, sym, subst}
use Rattle.std.specs.Prelude.{⊤, MatchOption, OnErr}
use Rattle.capnp_model.specs.Segments.{Segments, Place, after}
use Rattle.capnp_model.specs.Coverage.{Grows}
use Rattle.capnp_model.specs.Trees.{Tree, structure, child, with_child}
use Rattle.capnp_model.specs.Visits.{Visit}
use Rattle.capnp_model.specs.Edits.{Cell, Edit, put_child}
use Rattle.capnp_units.specs.Segments.{words_in}
use Rattle.capnp_units.specs.declared.errors.Error.{Error}
use Rattle.capnp_units.specs.declared.limiter.ReadLimiter.{ReadLimiter}
use Rattle.capnp_wire_objects.specs.declared.object.Object as wire
use Rattle.capnp_wire_objects.specs.Places.{place_view}
use Rattle.capnp_model_writes.specs.Footprints.{Owns, OwnsObject}
use Rattle.capnp_model_writes.specs.Changes.{Replaces, ReplacesObject}
use Rattle.capnp_model_writes.proofs.lemmas.Algebra.{changes_nothing}
use Rattle.capnp_model_writes.proofs.lemmas.Lift.{child_of_struct, struct_of_child, object_replaced_owned, object_replaced_then}
use Rattle.capnp_model_writes.proofs.lemmas.Spans.{grows_same, grows_then}
use Rattle.capnp_copy_arenas.specs.Allocations.{total_words}
use Rattle.capnp_copy_arenas.specs.Structs.{object_of_struct}
use Rattle.capnp_copy_arenas.specs.declared.fields.StructPlace.{StructPlace}
use Rattle.capnp_copy_arenas.proofs.lemmas.RoomLaws.{sizes_grow}
use Rattle.capnp_copy_arenas.proofs.lemmas.Taken.{same_total}
use Rattle.capnp_copy_values.specs.Copies.{GrowsByZeros, BecomesCopy, ObjectGives, copy_of, limited_words, object_put as to_put}
use Rattle.capnp_copy_values.specs.Objects.{copied_words}
use Rattle.capnp_layout_builders.specs.Copied.{Walk, Charged}
use Rattle.capnp_values.specs.Sources.{WithoutLimit}
use Rattle.capnp_schema_structs.specs.Edits.{Edits}
use Rattle.capnp_schema_structs.specs.Sources.{SourceView, from_struct, from_list, SetsSource, TreeEffect, PutsSource, EditsWithin, TreeGives, StandsIfRefused}

-- ---- walks under a limit, or under none

pub walk_map : {N N' : Type 0} (o : Option ℕ) (paid : Bool) (W W' : ℕ → Walk) (old : ReadLimiter) (r : Result ⊤ Error) (new : ReadLimiter) → (N → N') → ((n : ℕ) (l m : ReadLimiter) → W n l r m → W' n l r m)
    → MatchOption o N (λ n. Charged paid (W n) old r new) → MatchOption o N' (λ n. Charged paid (W' n) old r new)
walk_map None paid W W' old r new none some h = none h
walk_map (Some n) true W W' old r new none some h = some n old new h
walk_map (Some n) false W W' old r new none some h = (h.0, h.1, h.2, some n h.0 h.1 h.3, h.4)

pub walk_to : {N R : Type 0} (o : Option ℕ) (paid : Bool) (W : ℕ → Walk) (old : ReadLimiter) (r : Result ⊤ Error) (new : ReadLimiter) → (N → R) → ((n : ℕ) (l m : ReadLimiter) → W n l r m → R)
    → MatchOption o N (λ n. Charged paid (W n) old r new) → R
walk_to None paid W old r new none some h = none h
walk_to (Some n) true W old r new none some h = some n old new h
walk_to (Some n) false W old r new none some h = some n h.0 h.1 h.3

-- ---- what is left where nothing is put, and that segments grow

pub same_words : (s u : Segments) → u ≡ s → Grows s u
same_words s u e = subst (λ (x : Segments). Grows s x) (sym e) (grows_same s)

no_words : (s u : Segments) → u ≡ s → GrowsByZeros s u
no_words s u e = subst (λ (x : Segments). GrowsByZeros s x) (sym e) (changes_nothing s (λ q. 0))

-- what holds anyway holds where a call is refused
pub if_refused : {X P : Type 0} (r : Result X Error) → P → OnErr r P
if_refused (Ok x) h = tt
if_refused (Err e) h = h

-- the same of bytes that stay, where a call is refused
pub flat_stands : {X : Type 0} (a b : List (List ℕ)) (r : Result X Error) → OnErr r (b ≡ a) → OnErr r (GrowsByZeros (words_in a) (words_in b))
flat_stands a b (Ok x) h = tt
flat_stands a b (Err e) h = subst (λ (x : List (List ℕ)). GrowsByZeros (words_in a) (words_in x)) (sym h) (changes_nothing (words_in a) (λ q. 0))

-- and of segments that grow
pub words_stand : {X : Type 0} (a b : List (List ℕ)) (r : Result X Error) → Grows (words_in a) (words_in b) → OnErr r (b ≡ a) → StandsIfRefused (words_in a) (words_in b) r
words_stand a b r g h = record { grows = g; refused = flat_stands a b r h }

object_grows : (levels : ℕ) (from : Segments) (o : wire.Object) (there : Option Tree) (path : List Visit) (s u : Segments) (p : Place) (old : ReadLimiter) (r : Result ⊤ Error) (new : ReadLimiter) → ObjectGives (copy_of from there path) (to_put levels o p) (limited_words s old) r (limited_words u new) → Grows s u
object_grows levels from o there path s u p old (Ok x) new h = h.grows
object_grows levels from o there path s u p old (Err e) new h = h.left.grows

pub source_grows : (x : SourceView) (s u : Segments) (p : Place) (r : Result ⊤ Error) → WithoutLimit (SetsSource x s u p) r → Grows s u
source_grows (from_struct v) s u p r h = walk_to v.levels v.basis.paid _ h.0 r h.1 (λ w. same_words s u w.1) (λ n l m w. object_grows n v.basis.segments _ _ _ s u p l r m w.2) h.3
source_grows (from_list v) s u p r h = walk_to v.levels v.basis.paid _ h.0 r h.1 (λ w. same_words s u w.1) (λ n l m w. object_grows n v.basis.segments _ _ _ s u p l r m w.3) h.3

pub source_stands : (x : SourceView) (s u : Segments) (p : Place) (e : Error) → WithoutLimit (SetsSource x s u p) (Err e) → GrowsByZeros s u
source_stands (from_struct v) s u p e h = walk_to v.levels v.basis.paid _ h.0 (Err e) h.1 (λ w. no_words s u w.1) (λ n l m w. w.2.left) h.3
source_stands (from_list v) s u p e h = walk_to v.levels v.basis.paid _ h.0 (Err e) h.1 (λ w. no_words s u w.1) (λ n l m w. w.3.left) h.3

pub source_left : (x : SourceView) (s u : Segments) (p : Place) (r : Result ⊤ Error) → WithoutLimit (SetsSource x s u p) r → OnErr r (GrowsByZeros s u)
source_left x s u p (Ok y) h = tt
source_left x s u p (Err e) h = source_stands x s u p e h

-- ---- a copy that is refused

pub source_refused : (x : SourceView) (s u : Segments) (q : Place) (Writes : TreeEffect) (e : Error) → WithoutLimit (SetsSource x s u q) (Err e) → WithoutLimit (PutsSource x s u Writes) (Err e)
source_refused (from_struct v) s u q Writes e h = (h.0, h.1, h.2, walk_map v.levels v.basis.paid _ _ h.0 (Err e) h.1 (λ w. w) (λ n l m w. (w.0, w.1, w.2)) h.3)
source_refused (from_list v) s u q Writes e h = (h.0, h.1, h.2, walk_map v.levels v.basis.paid _ _ h.0 (Err e) h.1 (λ w. w) (λ n l m w. (w.0, w.1, w.2, w.3)) h.3)

-- ---- a copy that is put behind a pointer, and what else is written without memory

not_refused : {X : Type 0} (x : ⊤) (e : Error) → ◌≡◌ {A = Result ⊤ Error} (Ok x) (Err e) → X
not_refused x e h = absurd (cc h)

module _ (s m u : Segments) (q : Place) (sizes : map length u ≡ map length m) (Writes : TreeEffect) (writes : (n : ℕ) (t : Tree) → BecomesCopy n s m q t → Writes n t) where
  object_put : (levels : ℕ) (from : Segments) (o : wire.Object) (there : Option Tree) (path : List Visit) (old : ReadLimiter) (x : ⊤) (new : ReadLimiter) → ObjectGives (copy_of from there path) (to_put levels o q) (limited_words s old) (Ok x) (limited_words m new) → TreeGives (record { levels = levels; object = o; tree = copy_of from there path }) Writes (limited_words s old) (Ok x) (limited_words u new)
  object_put levels from o there path old x new h =
      let total : total_words u ≡ total_words m = same_total m u sizes in
      let few = h.takes.few in
      record {
        value = h.value;
        there_is = h.there_is;
        walked = h.walked;
        grows = grows_then s m u h.grows (sizes_grow m u sizes);
        takes = record { granted = h.takes.granted; spends = h.takes.spends; few = subst (λ k. k ≤ total_words s + 2 * (copied_words o + h.takes.granted)) (sym total) few };
        writes = writes (suc levels) h.value h.becomes;
      }

  pub source_put : (x : SourceView) (y : ⊤) → WithoutLimit (SetsSource x s m q) (Ok y) → WithoutLimit (PutsSource x s u Writes) (Ok y)
  source_put (from_struct v) y h = (h.0, h.1, h.2, walk_map v.levels v.basis.paid _ _ h.0 (Ok y) h.1 (λ w. not_refused y _ w.0) (λ n a b w. (w.0, w.1, object_put n v.basis.segments _ _ _ a y b w.2)) h.3)
  source_put (from_list v) y h = (h.0, h.1, h.2, walk_map v.levels v.basis.paid _ _ h.0 (Ok y) h.1 (λ w. not_refused y _ w.0) (λ n a b w. (w.0, w.1, w.2, object_put n v.basis.segments _ _ _ a y b w.3)) h.3)

-- ---- in a struct

module _ (s m u : Segments) (p : StructPlace) (i : ℕ) (q : Place) (l : i < p.pointers) (at_is : q ≡ after (after (place_view p.start) p.data_words) i) (mark : Edit) (marks : Edits m u p mark) (put : Tree → Edit) (same : (t : Tree) (c : Cell) → mark (put_child i t c) ≡ put t c) where
  pub child_put : (levels : ℕ) (t : Tree) → BecomesCopy levels s m q t → EditsWithin levels s u p (put t)
  child_put levels t becomes n section kids deep own =
      let slot = after (after (place_view p.start) p.data_words) i in
      let owned = child_of_struct n s (place_view p.start) p.data_words p.pointers i p.data_words section kids l own in
      let new : Replaces n s m slot t = subst (λ x. Replaces n s m x t) at_is (becomes n (child kids i) deep (subst (λ x. Owns n s x (child kids i)) (sym at_is) owned)) in
      let first : ReplacesObject n s m (object_of_struct p) (structure p.data_words section (with_child kids i t)) = struct_of_child n s m (place_view p.start) p.data_words p.pointers i p.data_words section kids t l own new in
      let now : OwnsObject n m (object_of_struct p) (structure p.data_words section (with_child kids i t)) = object_replaced_owned n s m (object_of_struct p) (structure p.data_words section kids) (structure p.data_words section (with_child kids i t)) own first in
      let c : Cell = mark (put_child i t (record { section = section; kids = kids })) in
      let second : ReplacesObject n m u (object_of_struct p) (structure p.data_words c.section c.kids) = marks n section (with_child kids i t) now in
      let whole = object_replaced_then n s m u (object_of_struct p) (structure p.data_words section (with_child kids i t)) (structure p.data_words c.section c.kids) first second in
      subst (λ (x : Cell). ReplacesObject n s u (object_of_struct p) (structure p.data_words x.section x.kids)) (same t (record { section = section; kids = kids })) whole
