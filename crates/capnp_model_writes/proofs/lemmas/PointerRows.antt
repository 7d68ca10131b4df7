-- Rows of pointers, whose children move one after the other.
use Rattle.std.proofs.Common.{◌≡◌, ℕ, zero, suc, ◌+◌, ◌*◌, List, ◌++◌, Some, Ok, refl, ap, ◌∙◌, subst, arith, ◌≤◌, ◌<◌}
use Rattle.capnp_model.specs.Coverage.{Span}
use Rattle.capnp_model.specs.Pointers.{Object, a_struct, a_list, Found, found_at}
use Rattle.capnp_model.specs.Segments.{Segments, Place, after, word_at}
use Rattle.capnp_model.specs.Traversal.{tree_at}
use Rattle.capnp_model.specs.Trees.{Tree, Trees, Elements, no_elements, element, null, structure, pointer_list, struct_list, child, with_child, element_count}
use Rattle.capnp_model.proofs.lemmas.Locality.{all_left}
use Rattle.capnp_model_writes.specs.Detached.{Detached, AreZero, Moves, IsMovable}
use Rattle.capnp_model_writes.specs.Elements.{element_at, with_element}
use Rattle.capnp_model_writes.specs.Footprints.{object_footprint, Owns, OwnsObject}
use Rattle.capnp_model_writes.specs.Rows.{Lifts, IsRowOf}
use Rattle.capnp_model_writes.proofs.lemmas.Cells.{element_of_list, element_parts, parts_fit, list_is, element_le, list_of_element_with, same_count}
use Rattle.capnp_model_writes.proofs.lemmas.Detached.{detached_owns}
use Rattle.capnp_model_writes.proofs.lemmas.Lift.{slot_is, object_of_pointer, child_of_struct, child_of_list, struct_of_child_with}
use Rattle.capnp_model_writes.proofs.MovedChildren.{child_moved, struct_lifts, list_lifts, child_in_struct, child_in_list}
use Rattle.capnp_model_writes.proofs.lemmas.Nulls.{null_word}
use Rattle.capnp_model_writes.proofs.lemmas.Spans.{times_held_append}
use Rattle.capnp_model_writes.proofs.lemmas.Turns.{struct_counted, list_counted}

-- ---- the kinds of objects

pub struct_row : (n : ℕ) (p : Place) (d k w section : ℕ) → IsRowOf n (a_struct p d k) (after p d) k (λ kids. structure w section kids)
struct_row n p d k w section =
    record {
      counted = λ u kids o. struct_counted n u p d k w section kids o;
      owned = λ u kids i l o. child_of_struct n u p d k i w section kids l o;
      inside = λ u kids i l o q. child_in_struct n u p d k i q l;
      lifts = λ u w' kids i t l o e. struct_lifts n u w' p d k i w section kids t l o e;
    }

pub list_row : (n : ℕ) (p : Place) (k : ℕ) → IsRowOf n (a_list p 6 k) p k (λ kids. pointer_list kids)
list_row n p k =
    record {
      counted = λ u kids o. list_counted n u p k kids o;
      owned = λ u kids i l o. child_of_list n u p k i kids l o;
      inside = λ u kids i l o q. child_in_list n u p k i q l;
      lifts = λ u w' kids i t l o e. list_lifts n u w' p k i kids t l o e;
    }

pub element_is : (d section : ℕ) (kids : Trees) (es : Elements) (j : ℕ) → j < element_count es → element_at d (with_element es j section kids) j ≡ structure d section kids
element_is d section kids no_elements j l = absurd (omega (arith, l))
element_is d section kids (element s ts es) zero l = refl
element_is d section kids (element s ts es) (suc j) l = element_is d section kids es j (omega (arith, l))

pub element_again : (section section' : ℕ) (kids kids' : Trees) (es : Elements) (j : ℕ) → with_element (with_element es j section kids) j section' kids' ≡ with_element es j section' kids'
element_again section section' kids kids' no_elements j = refl
element_again section section' kids kids' (element s ts es) zero = refl
element_again section section' kids kids' (element s ts es) (suc j) = ap (λ (fs : Elements). element s ts fs) (element_again section section' kids kids' es j)

module _ (n : ℕ) (u : Segments) (p : Place) (m d k j section : ℕ) (es : Elements) (kids : Trees) (l : j < element_count es) (o : OwnsObject n u (a_list p 7 m) (struct_list d k (with_element es j section kids))) where
  at : Place
  at = after (after p 1) (j * (d + k))

  inner : j < element_count (with_element es j section kids)
  inner = omega (arith, l, same_count es j section kids)

  pub here : OwnsObject n u (a_struct (after (after p 1) (j * (d + k))) d k) (structure d section kids)
  here = subst (OwnsObject n u (a_struct (after (after p 1) (j * (d + k))) d k)) (element_is d section kids es j l) (element_of_list n u p m d k j (with_element es j section kids) inner o)

  pub struct_le : (q : Place) → object_footprint n u (a_struct (after (after p 1) (j * (d + k))) d k) q ≤ object_footprint n u (a_list p 7 m) q
  struct_le q =
      let x = element_parts n u p m d k (with_element es j section kids) o.means in
      let fits = parts_fit n u p m d k (with_element es j section kids) x in
      omega (arith, list_is n u p m d k (with_element es j section kids) q x, element_le n u (after p 1) (after (after p 1) (j * (d + k))) m d k (element_count (with_element es j section kids)) j refl inner fits q)

  pub element_lifts : (w : Segments) (i : ℕ) (t : Tree) → i < k → tree_at n w (after (after (after (after p 1) (j * (d + k))) d) i) ≡ Some t → Lifts n u w (after (after (after (after p 1) (j * (d + k))) d) i) (a_list p 7 m) (struct_list d k (with_element es j section (with_child kids i t)))
  element_lifts w i t li means e f apart h =
      let x = struct_of_child_with n u w (after (after p 1) (j * (d + k))) d k i d section kids t e f li here (λ q. omega (arith, apart q, struct_le q)) means h in
      let y = list_of_element_with n u w p m d k j section (with_child kids i t) (with_element es j section kids) e f inner o apart x.0 x.1 in
      (y.0 ∙ ap (λ (fs : Elements). Some (struct_list d k fs)) (element_again section section kids (with_child kids i t) es j), y.1)

pub element_row : (n : ℕ) (p : Place) (m d k j section : ℕ) (es : Elements) → j < element_count es → IsRowOf n (a_list p 7 m) (after (after (after p 1) (j * (d + k))) d) k (λ kids. struct_list d k (with_element es j section kids))
element_row n p m d k j section es l =
    record {
      counted = λ u kids o. struct_counted n u (after (after p 1) (j * (d + k))) d k d section kids (here n u p m d k j section es kids l o);
      owned = λ u kids i li o. child_of_struct n u (after (after p 1) (j * (d + k))) d k i d section kids li (here n u p m d k j section es kids l o);
      inside = λ u kids i li o q. omega (arith, struct_le n u p m d k j section es kids l o q, child_in_struct n u (after (after p 1) (j * (d + k))) d k i q li);
      lifts = λ u w kids i t li o e. element_lifts n u p m d k j section es kids l o w i t li e;
    }

-- ---- a child moves from one row to another

pub row_moved : (n : ℕ) (s u w : Segments) (p r r' : Place) (k k' i j : ℕ) (v v' : Trees → Tree) (kids kids' : Trees) (t : Tree) (xs spare : List Span) (f : Found) (o : Object) → i < k → j < k' → IsRowOf n f.object r k v → IsRowOf n o r' k' v' → found_at u p ≡ Ok f → Detached n s u p (v kids) (xs ++ spare) o (v' kids')
    → Moves n u w (after r i) (after r' j) xs t → Detached n s w p (v (with_child kids i null)) spare o (v' (with_child kids' j t)) × (found_at w p ≡ Ok f)
row_moved n s u w p r r' k k' i j v v' kids kids' t xs spare f o li lj row row' e h m =
    let own = detached_owns n s u p (v kids) (v' kids') (xs ++ spare) o h in
    let inner = object_of_pointer n u p f (v kids) e own.0 in
    child_moved n s u w p (v kids) (v' kids') (v (with_child kids i null)) (v' (with_child kids' j t)) t xs spare o f (after r i) (after r' j) h e
    (row.inside u kids i li inner) (row'.inside u kids' j lj own.1) m (row.lifts u w kids i null li inner m.from) (row'.lifts u w kids' j t lj own.1 m.to)

pub row_movable : (n : ℕ) (s u : Segments) (p r r' : Place) (k k' i j w : ℕ) (v v' : Trees → Tree) (kids kids' : Trees) (xs spare : List Span) (f g : Found) (o : Object) → i < k → j < k' → IsRowOf n f.object r k v → IsRowOf n o r' k' v' → found_at u p ≡ Ok f → Detached n s u p (v kids) (xs ++ spare) o (v' kids')
    → word_at u (after r i) ≡ Some w → found_at u (after r i) ≡ Ok g → child kids' j ≡ null → IsMovable n u (after r i) (after r' j) xs w g (child kids i)
row_movable n s u p r r' k k' i j w v v' kids kids' xs spare f g o li lj row row' e h word found empty =
    let own = detached_owns n s u p (v kids) (v' kids') (xs ++ spare) o h in
    let inner = object_of_pointer n u p f (v kids) e own.0 in
    let target : Owns n u (after r' j) null = subst (Owns n u (after r' j)) empty (row'.owned u kids' j lj own.1) in
    record {
      there = word;
      found = found;
      owned = row.owned u kids i li inner;
      null_there = null_word n u (after r' j) target.means;
      zeros = all_left (AreZero u) xs spare h.zeros;
      apart = λ q. omega (arith, h.apart q, slot_is n u p f q e, row.inside u kids i li inner q, row'.inside u kids' j lj own.1 q, times_held_append xs spare q);
    }
