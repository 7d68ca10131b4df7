-- The walk over what a struct's discriminant and its fields take.
use Rattle.std.proofs.Common.{◌≡◌, ℕ, zero, suc, ◌+◌, ◌<◌, ◌≤◌, Bool, true, false, not, ◌&&◌, List, [], ◌∷◌, ◌++◌, map, length, take, drop, get_or, drop-cons, refl, sym, ◌∙◌, ap, subst, arith}
use Rattle.std.specs.List.{list_all, list_any}
use Rattle.std.proofs.lemmas.List.{map_more}
use Rattle.std.proofs.lemmas.List.Folds.{list_all-append}
use Rattle.capnp_model.specs.Accepted.{Area as ModelArea}
use Rattle.capnp_model.proofs.lemmas.Tests.{both}
use Rattle.capnp_records.specs.declared.area.Area.{Area}
use Rattle.capnp_records.specs.declared.marks.Marks.{Marks}
use Rattle.capnp_records.specs.Storage.{areas_seen}
use Rattle.capnp_records.specs.Claims.{claims_are_apart}
use Rattle.capnp_records.specs.Marks.{mark_at, AllowsAll, HasMarkAbove, MarksAreas, most_mark, level_mark}
use Rattle.capnp_records.proofs.Forward.{forward, forward_all}
use Rattle.capnp_records.proofs.Marked.{is_wide, clash, IsMarked, AreWide, apart_is_pairs, allowed, refused, marked_more, nothing_marked, wide_areas}

-- the rest decides over all, and what is done is marked
pub record IsWalked (m : Marks) (done rest all : List (Bool × List ModelArea)) : Type 0 where
  pub decides : forward clash done rest ≡ claims_are_apart all
  pub marked : IsMarked m done
  pub wide : AreWide done

pub begun : (m : Marks) (all : List (Bool × List ModelArea)) → ((pointer : Bool) (k : ℕ) → mark_at m pointer k ≡ 0) → IsWalked m [] all all
begun m all h = record { decides = forward_all clash all ∙ sym (apart_is_pairs all); marked = nothing_marked m h; wide = refl }

-- without a mark all areas are allowed
pub all_allowed : (m : Marks) (xs : List ModelArea) (most : ℕ) → ((pointer : Bool) (k : ℕ) → mark_at m pointer k ≡ 0) → AllowsAll m xs most
all_allowed m xs most h pointer k covered = let none = h pointer k in omega (arith, none)

module _ (m : Marks) (done rest all : List (Bool × List ModelArea)) (x : Bool × List ModelArea) (as' : List Area) (is : areas_seen as' ≡ x.1) (w : IsWalked m done (x ∷ rest) all) where
  wide_here : list_all is_wide x.1 ≡ true
  wide_here = ap (list_all is_wide) (sym is) ∙ wide_areas as'

  pub walked_on : (n : Marks) → AllowsAll m (areas_seen as') (most_mark x.0) → MarksAreas m n (areas_seen as') (level_mark x.0) → IsWalked n (done ++ x ∷ []) rest all
  walked_on n a p =
      let free : list_any (λ d. clash d x) done ≡ false = allowed m x done w.marked w.wide wide_here (subst (λ (xs : List ModelArea). AllowsAll m xs (most_mark x.0)) is a) in
      record {
        decides = sym (ap (λ b. not b && forward clash (done ++ x ∷ []) rest) free) ∙ w.decides;
        marked = marked_more m n done x w.marked (subst (λ (xs : List ModelArea). MarksAreas m n xs (level_mark x.0)) is p);
        wide = list_all-append (λ c. list_all is_wide c.1) done (x ∷ []) ∙ both (list_all (λ c. list_all is_wide c.1) done) (list_all is_wide x.1 && true) w.wide (both (list_all is_wide x.1) true wide_here refl);
      }

  pub walked_out : HasMarkAbove m (areas_seen as') (most_mark x.0) → false ≡ claims_are_apart all
  walked_out r =
      let met : list_any (λ d. clash d x) done ≡ true = refused m x done w.marked (subst (λ (xs : List ModelArea). HasMarkAbove m xs (most_mark x.0)) is r) in
      sym (ap (λ b. not b && forward clash (done ++ x ∷ []) rest) met) ∙ w.decides

-- ---- fields in a list

module _ {B : Type 0} (f : B → Bool × List ModelArea) (ys : List B) (i : ℕ) (y : B) (lt : i < length ys) (is : y ≡ get_or ys i y) where
  pub next_is : map f (drop i ys) ≡ f y ∷ map f (drop (i + 1) ys)
  next_is =
      let next : suc i ≡ i + 1 = omega arith in
      ap (map f) (drop-cons ys i y lt ∙ ap (λ z. z ∷ drop (suc i) ys) (sym is)) ∙ ap (λ k. f y ∷ map f (drop k ys)) next

  pub grown : map f (take i ys) ++ f y ∷ [] ≡ map f (take (i + 1) ys)
  grown = ap (λ z. map f (take i ys) ++ f z ∷ []) is ∙ sym (map_more f ys i y lt)

pub map_twice : {A B C : Type 0} (g : B → C) (f : A → B) (xs : List A) → map g (map f xs) ≡ map (λ x. g (f x)) xs
map_twice g f [] = refl
map_twice g f (x ∷ xs) = ap (λ ys. g (f x) ∷ ys) (map_twice g f xs)

pub none_left : {A B : Type 0} (f : A → B) (xs : List A) (i : ℕ) → length xs ≤ i → map f (drop i xs) ≡ []
none_left f [] zero le = refl
none_left f [] (suc i) le = refl
none_left f (x ∷ xs) zero le = absurd (omega arith)
none_left f (x ∷ xs) (suc i) le = none_left f xs i (omega arith)
