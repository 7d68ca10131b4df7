-- What a pointer leads to that was followed and paid for.
use Rattle.std.specs.Bool.{⊤}
use Rattle.std.proofs.Common.{◌≡◌, ℕ, suc, ◌+◌, nat_lt, true, List, [], ◌∷◌, Option, Some, Result, Ok, Err, refl, ap, sym, ◌∙◌, subst, arith}
use Rattle.std.specs.Option.{ok_or}
use Rattle.std.proofs.lemmas.Bool.Decides.{nat_tests}
use Rattle.capnp_model.specs.Kinds.{OutOfBounds}
use Rattle.capnp_model.specs.Segments.{Segments, Place, words_at}
use Rattle.capnp_model.specs.Pointers as model
use Rattle.capnp_model.specs.Trees.{Tree}
use Rattle.capnp_model.specs.Traversal.{tag_in, list_kind, list_words, ListKind, of_bits, of_pointers, of_structs, tree_at}
use Rattle.capnp_model.specs.Coverage.{Grows}
use Rattle.capnp_model.specs.Visits.{Visit, visits}
use Rattle.capnp_model.proofs.lemmas.Chaining.{bind_ok, ok_is}
use Rattle.capnp_units.specs.declared.errors.Error.{Error}
use Rattle.capnp_units.specs.declared.limiter.ReadLimiter.{ReadLimiter}
use Rattle.capnp_wire_objects.specs.declared.object.Object.{Object}
use Rattle.capnp_wire_objects.specs.declared.object.Object.TheVariants as object
use Rattle.capnp_wire_objects.specs.Objects.{whole_list, whole}
use Rattle.capnp_wire_objects.specs.Follow.{own_cost, suffice_for, Pays, FollowsWithin, levels_suffice}
use Rattle.capnp_wire_objects.specs.Inside.{tree_in, met_in}
use Rattle.capnp_wire_objects.specs.Walks.{Walked, Stopped}
use Rattle.capnp_wire_objects.proofs.lemmas.LevelLaws.{trees, visited}
use Rattle.capnp_wire_objects.proofs.lemmas.Measuring.{unfollowed_at}
use Rattle.capnp_wire_objects.proofs.lemmas.Walking.{object_found, leaf_visited}
use Rattle.capnp_wire_objects.proofs.lemmas.Walks.{walked_none, walked_one}
use Rattle.capnp_copy_arenas.specs.Allocations.{total_words}
use Rattle.capnp_copy_values.proofs.Taking.{none_taken, object_untaken}
use Rattle.capnp_copy_values.specs.Objects.{copied_words, is_leaf, leaf_value}
use Rattle.capnp_copy_values.specs.Copies.{BecomesCopy, Copied, CopyGives, GrowsByZeros, ObjectCopied, copy_of, limited_words, object_put}
use Rattle.capnp_copy_values.proofs.Refusals.{gives_is}

pub stopped_at : (n : ℕ) (s : Segments) (p : Place) (old new : ReadLimiter) (e : Error) → FollowsWithin n s p old (Err e) new → Stopped (visits n s p) old e new
stopped_at n s p old new e f = unfollowed_at n s p old new (Err e) e e refl refl f

pub paid_walk : (s : Segments) (p : Place) (old new : ReadLimiter) (o : Object) (x : Pays s p old o new) → Walked (Ok (x.pads + own_cost o) ∷ []) old new
paid_walk s p old new o x = walked_one (x.pads + own_cost o) old new x.spends x.follows

-- ---- where no level is left

leaf_read : (s : Segments) (p : Place) (g : model.Found) (m : model.Object) (o : Object) → model.found_at s p ≡ Ok g → g.object ≡ m → whole s m ≡ Ok o → levels_suffice 0 o ≡ true → (tree_at 0 s p ≡ Some (leaf_value o)) × (suffice_for 0 m ≡ true) × (is_leaf o ≡ true)
unfolding tree_at
leaf_read s p g model.nothing o e f w h = let is = ok_is _ _ w in (rw (e, f) (ap (λ (x : Object). Some (leaf_value x)) is), refl, ap is_leaf (sym is))
leaf_read s p g (model.a_capability i) o e f w h = let is = ok_is _ _ w in (rw (e, f) (ap (λ (x : Object). Some (leaf_value x)) is), refl, ap is_leaf (sym is))
leaf_read s p g (model.a_struct q d k) o e f w h =
    let a = bind_ok (ok_or (words_at s q (d + k)) OutOfBounds) _ o w in
    absurd (no_leaf (object.Struct (record { segment = q.segment; position = q.position }) d k) o (ok_is _ _ a.2) h refl)
  where
    no_leaf : (x y : Object) → x ≡ y → levels_suffice 0 y ≡ true → levels_suffice 0 x ≡ nat_lt 0 0 → ⊥
    no_leaf x y i j l = let t : nat_lt 0 0 ≡ true = sym l ∙ ap (levels_suffice 0) i ∙ j in grind (arith, nat_tests)
leaf_read s p g (model.a_list q size n) o e f w h =
    let a = bind_ok (ok_or (words_at s q (list_words (list_kind size) size n)) OutOfBounds) _ o w in
    absurd (by (list_kind size) a.0 a.2)
  where
    no_leaf : (x : Object) → x ≡ o → levels_suffice 0 x ≡ nat_lt 0 0 → ⊥
    no_leaf x i l = let t : nat_lt 0 0 ≡ true = sym l ∙ ap (levels_suffice 0) i ∙ h in grind (arith, nat_tests)

    by : (kind : ListKind) (ws : List ℕ) → whole_list q kind size n ws ≡ Ok o → ⊥
    by of_bits ws e = no_leaf _ (ok_is _ _ e) refl
    by of_pointers ws e = no_leaf _ (ok_is _ _ e) refl
    by of_structs ws e = let b = bind_ok (tag_in ws) _ o e in no_leaf _ (ok_is _ _ b.2) refl

pub leaf_there : (n : ℕ) (s : Segments) (p : Place) (o : Object) (old new : ReadLimiter) → n ≡ 0 → Pays s p old o new → levels_suffice n o ≡ true → is_leaf o ≡ true
leaf_there n s p o old new z x h =
    let g = object_found s p (record { pads = x.pads; object = o }) x.is in
    (leaf_read s p g.0 g.0.object o g.1 refl g.2 (subst (λ (m : ℕ). levels_suffice m o ≡ true) z h)).2

pub leaf_copied : (n : ℕ) (from : Segments) (p : Place) (o : Object) (old new : ReadLimiter) (s u : Segments) (r : Place) → n ≡ 0 → Pays from p old o new → levels_suffice n o ≡ true → BecomesCopy 0 s u r (leaf_value o) → Grows s u → total_words u ≡ total_words s
    → Copied (tree_at n from p) (visits n from p) (BecomesCopy n s u r) (limited_words s old) (limited_words u new)
leaf_copied n from p o old new s u r z x h b grows same =
    subst (λ (m : ℕ). Copied (tree_at m from p) (visits m from p) (BecomesCopy m s u r) (limited_words s old) (limited_words u new)) (sym z) at_zero
  where
    at_zero : Copied (tree_at 0 from p) (visits 0 from p) (BecomesCopy 0 s u r) (limited_words s old) (limited_words u new)
    at_zero =
        let g = object_found from p (record { pads = x.pads; object = o }) x.is in
        let l = leaf_read from p g.0 g.0.object o g.1 refl g.2 (subst (λ (m : ℕ). levels_suffice m o ≡ true) z h) in
        let one : visits 0 from p ≡ Ok (x.pads + own_cost o) ∷ [] = leaf_visited from p g.0 g.1 o g.2 l.1 ∙ ap (λ (k : ℕ). Ok (k + own_cost o) ∷ []) g.3 in
        record {
          value = leaf_value o;
          there_is = l.0;
          walked = subst (λ (vs : List Visit). Walked vs old new) (sym one) (paid_walk from p old new o x);
          grows = grows;
          takes = none_taken from s u p o old new same x;
          made = b;
        }

-- ---- at a place

pub deep_at : (n m : ℕ) (from : Segments) (p : Place) (o : Object) (old mid new : ReadLimiter) (s u : Segments) (q : Place) (r : Result ⊤ Error) → n ≡ suc m → (x : Pays from p old o mid)
    → CopyGives (copy_of from (tree_in from (tree_at m from) o) (Ok (x.pads + own_cost o) ∷ met_in (visits m from) o)) (BecomesCopy (suc m) s u q) (GrowsByZeros s u) (limited_words s old) r (limited_words u new)
    → CopyGives (copy_of from (tree_at n from p) (visits n from p)) (BecomesCopy n s u q) (GrowsByZeros s u) (limited_words s old) r (limited_words u new)
deep_at n m from p o old mid new s u q r z x g =
    subst (λ (k : ℕ). CopyGives (copy_of from (tree_at k from p) (visits k from p)) (BecomesCopy k s u q) (GrowsByZeros s u) (limited_words s old) r (limited_words u new)) (sym z)
    (gives_is from (tree_in from (tree_at m from) o) (tree_at (suc m) from p) (Ok (x.pads + own_cost o) ∷ met_in (visits m from) o) (visits (suc m) from p) (BecomesCopy (suc m) s u q) (GrowsByZeros s u) s u old new r
    (sym (trees m from p (record { pads = x.pads; object = o }) x.is)) (sym (visited m from p (record { pads = x.pads; object = o }) x.is)) g)

-- an object that lies in its pointer
pub leaf_inside : (f : Place → Option Tree) (v : Place → List Visit) (from : Segments) (o : Object) → is_leaf o ≡ true → (tree_in from f o ≡ Some (leaf_value o)) × (met_in v o ≡ [])
leaf_inside f v from object.Null l = (refl, refl)
leaf_inside f v from (object.Capability i) l = (refl, refl)
leaf_inside f v from (object.Struct q d k) l = absurd cc
leaf_inside f v from (object.List q size n) l = absurd cc
leaf_inside f v from (object.PointerList q n) l = absurd cc
leaf_inside f v from (object.StructList q words n d k) l = absurd cc

pub leaf_put : (levels : ℕ) (f : Place → Option Tree) (v : Place → List Visit) (from : Segments) (o : Object) (l : ReadLimiter) (s u : Segments) (q : Place) → is_leaf o ≡ true → BecomesCopy 0 s u q (leaf_value o) → Grows s u → total_words u ≡ total_words s
    → ObjectCopied (tree_in from f o) (met_in v o) (object_put levels o q) (limited_words s l) (limited_words u l)
leaf_put levels f v from o l s u q leaf b grows same =
    let y = leaf_inside f v from o leaf in
    record {
      value = leaf_value o;
      there_is = y.0;
      walked = subst (λ (vs : List Visit). Walked vs l l) (sym y.1) (walked_none l);
      grows = grows;
      takes = object_untaken (copied_words o) s u l same;
      becomes = λ n t h o'. b n t (omega arith) o';
    }
