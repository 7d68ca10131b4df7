-- What stands at the places of an accepted set: each node is found by its id, and its slots lie within its struct.
use Rattle.std.proofs.Common.{◌≡◌, ℕ, zero, suc, Bool, true, false, not, ◌||◌, ◌==◌, if◌then◌else◌, Option, Some, None, List, [], ◌∷◌, ◌++◌, map, get_or, slice_get, refl, sym, ◌∙◌, ap}
use Rattle.std.specs.List.{list_all, list_any}
use Rattle.capnp_model.specs.Schemas.{Node}
use Rattle.capnp_model.specs.Accepted.{find_node, on_struct, has_new_id, first_break_from, has_places, IsAccepted}
use Rattle.capnp_model.proofs.lemmas.KeptRules.{behind, no_break}
use Rattle.capnp_model.proofs.lemmas.Tests.{number_is, not_true, or_left_false, or_right_false}
use Rattle.capnp_records.proofs.lemmas.ListTests.{list_any-append}

-- what is tested at a place, where the record there is known
pub at_place : {A : Type 0} (f : A → Node) (xs : List A) (k : ℕ) (x : A) (test : Node → Bool) → x ≡ get_or xs k x → (elim (slice_get (map f xs) k) as (λ (o : Option Node). Bool) [ None ↦ false | Some n ↦ test n ]) ≡ true → (slice_get (map f xs) k ≡ Some (f x)) × (test (f x) ≡ true)
at_place f [] zero x test e h = absurd (cc h)
at_place f [] (suc k) x test e h = absurd (cc h)
at_place f (y ∷ ys) zero x test e h = (ap (λ z. Some (f z)) (sym e), ap (λ z. test (f z)) e ∙ h)
at_place f (y ∷ ys) (suc k) x test e h = at_place f ys k x test e h

-- ---- ids are distinct

kept_first : (b : Bool) (i : ℕ) (o : Option ℕ) → (elim b as (λ (x : Bool). Option ℕ) [ false ↦ Some i | true ↦ o ]) ≡ None → (b ≡ true) × (o ≡ None)
kept_first true i o h = (refl, h)
kept_first false i o h = absurd (cc h)

found_first : (earlier : List Node) (i : ℕ) (ns : List Node) → first_break_from (λ e n. has_new_id e n) earlier i ns ≡ None
    → (k : ℕ) (n : Node) → slice_get ns k ≡ Some n → (list_any (λ m. m.id == n.id) earlier ≡ false) × (find_node ns n.id ≡ Some n)
found_first earlier i [] h k n e = absurd (nothing k e)
  where
    nothing : (k : ℕ) → slice_get [] k ≡ Some n → ⊥
    nothing zero g = cc g
    nothing (suc k) g = cc g
found_first earlier i (m ∷ ns) h zero n e =
    let split = kept_first (has_new_id earlier m) i (first_break_from (λ e n. has_new_id e n) (earlier ++ m ∷ []) (suc i) ns) h in
    let is : m ≡ n = cc e in (
      not_true (list_any (λ p. p.id == n.id) earlier) (ap (λ x. not (list_any (λ p. p.id == x.id) earlier)) (sym is) ∙ split.0),
      ap (λ b. if b then Some m else find_node ns n.id) (ap (λ x. x.id == n.id) is ∙ number_is n.id) ∙ ap (λ x. Some x) is,
    )
found_first earlier i (m ∷ ns) h (suc k) n e =
    let split = kept_first (has_new_id earlier m) i (first_break_from (λ e n. has_new_id e n) (earlier ++ m ∷ []) (suc i) ns) h in
    let more = found_first (earlier ++ m ∷ []) (suc i) ns split.1 k n e in
    let parts : (list_any (λ p. p.id == n.id) earlier || ((m.id == n.id) || false)) ≡ false = sym (list_any-append (λ p. p.id == n.id) earlier (m ∷ [])) ∙ more.0 in
    let other : (m.id == n.id) ≡ false = or_left_false (m.id == n.id) false (or_right_false (list_any (λ p. p.id == n.id) earlier) ((m.id == n.id) || false) parts) in (
      or_left_false (list_any (λ p. p.id == n.id) earlier) ((m.id == n.id) || false) parts,
      ap (λ b. if b then Some m else find_node ns n.id) other ∙ more.1,
    )

pub place_is_found : (nodes : List Node) → IsAccepted nodes → (k : ℕ) (n : Node) → slice_get nodes k ≡ Some n → find_node nodes n.id ≡ Some n
place_is_found nodes h k n e = let first = behind nodes 1 11 h in (found_first [] 0 nodes first.0 k n e).1

-- ---- places

pub places_kept : (nodes : List Node) → IsAccepted nodes → list_all (on_struct has_places) nodes ≡ true
places_kept nodes h =
    let a = behind nodes 1 11 h in
    let b = behind nodes 2 10 a.1 in
    let c = behind nodes 3 9 b.1 in
    let d = behind nodes 4 8 c.1 in
    let e = behind nodes 5 7 d.1 in
    let f = behind nodes 6 6 e.1 in
    let g = behind nodes 7 5 f.1 in
    let x = behind nodes 8 4 g.1 in
    no_break (on_struct has_places) [] 0 nodes x.0
