-- What walks cost, how many pointers they follow, and the faults that they meet.
use Rattle.std.proofs.Common.{◌≡◌, ℕ, zero, suc, ◌+◌, ◌-◌, ◌*◌, ◌≤◌, leb, List, [], ◌∷◌, ◌++◌, length, drop, Option, Some, Result, Ok, Err, refl, ap, sym, ◌∙◌, subst, arith, if◌then◌else◌, eqb}
use Rattle.std.specs.Option.{ok_or}
use Rattle.std.specs.Result.{result_ok}
use Rattle.std.proofs.lemmas.List.{length-append}
use Rattle.std.proofs.lemmas.Bool.{leb-true}
use Rattle.std.proofs.Math.Nat.{mul-le-mul_left}
use Rattle.capnp_model.specs.Kinds.{Kind, OutOfBounds}
use Rattle.capnp_model.specs.Chains.{◌>>=◌}
use Rattle.capnp_model.specs.Sections.{words_for}
use Rattle.capnp_model.specs.Segments.{Segments, Place, after, words_at}
use Rattle.capnp_model.specs.Pointers.{pointer_of, Object, nothing, a_struct, a_list, a_capability, Found, found_at}
use Rattle.capnp_model.specs.Trees.{Tree, Trees, Elements, null, capability, none, no_elements, size_bits}
use Rattle.capnp_model.specs.Traversal.{Tag, tag_of, tag_in, each, each_element, ListKind, of_bits, of_pointers, of_structs, list_kind, list_words, list_tree, tree_of, tree_at, leaf_of, cost_each, cost_elements, tag_cost, list_cost, object_cost, found_cost, cost_at}
use Rattle.capnp_model.specs.Coverage.{from_each, from_elements}
use Rattle.capnp_model.specs.Faults.{faults_of, list_faults, object_faults, leaf_faults, faults_at}
use Rattle.capnp_model.specs.Visits.{Visit, visits_of, list_visits, object_visits, leaf_visits, visits, visits_cost, faults_among, pointers_of, each_pointers_of, element_pointers_of}
use Rattle.capnp_model.proofs.lemmas.Chaining.{bind_some, bind_found, some_is, bind_ok, ok_is, guard_ok, ok_or_some}
use Rattle.capnp_model.proofs.lemmas.ReadFits.{words_length}

-- ---- visits together

pub cost_together : (a b : List Visit) (m n : ℕ) → visits_cost a ≡ Some m → visits_cost b ≡ Some n → visits_cost (a ++ b) ≡ Some (m + n)
cost_together [] b m n e f = let z = some_is 0 m e in rw f (ap Some (omega arith))
cost_together (Err k ∷ a) b m n e f = absurd cc
cost_together (Ok c ∷ a) b m n e f =
    let x = bind_some (visits_cost a) _ m e in
    let z = some_is _ _ x.2 in
    let rest = cost_together a b x.0 n x.1 f in
    rw rest (ap Some (omega arith))

pub cost_of_first : (c m : ℕ) (vs : List Visit) → visits_cost vs ≡ Some m → visits_cost (Ok c ∷ vs) ≡ Some (c + m)
cost_of_first c m vs e = rw e refl

pub faults_together : (a b : List Visit) → faults_among (a ++ b) ≡ faults_among a ++ faults_among b
faults_together [] b = refl
faults_together (Err k ∷ a) b = ap (λ (ks : List Kind). k ∷ ks) (faults_together a b)
faults_together (Ok n ∷ a) b = faults_together a b

-- what was paid has no fault
pub faults_of_paid : (a : List Visit) (m : ℕ) → visits_cost a ≡ Some m → faults_among a ≡ []
faults_of_paid [] m e = refl
faults_of_paid (Err k ∷ a) m e = absurd cc
faults_of_paid (Ok c ∷ a) m e = let x = bind_some (visits_cost a) _ m e in faults_of_paid a x.0 x.1

-- ---- values without a fault

-- The visits cost so much, and are so many.
abbrev pub Tells : List Visit → ℕ → ℕ → Type 0
Tells vs cost count = (visits_cost vs ≡ Some cost) × (length vs ≡ count)

tells_both : (a b : List Visit) (m n i j : ℕ) → Tells a m i → Tells b n j → Tells (a ++ b) (m + n) (i + j)
tells_both a b m n i j x y =
    let xs = x.1 in
    let ys = y.1 in
    (cost_together a b m n x.0 y.0, omega (arith, length-append a b))

tells_first : (c m n i : ℕ) (vs : List Visit) → c + m ≡ n → Tells vs m i → Tells (Ok c ∷ vs) n (1 + i)
tells_first c m n i vs e x =
    let xs = x.1 in
    (cost_of_first c m vs x.0 ∙ ap Some e, omega arith)

module _ (f : Place → Option Tree) (g : Place → ℕ) (v : Place → List Visit) (h : (p : Place) (t : Tree) → f p ≡ Some t → Tells (v p) (g p) (pointers_of t)) where
  each_tells : (k : ℕ) (p : Place) (ts : Trees) → each f p k ≡ Some ts → Tells (from_each v p k) (cost_each g p k) (each_pointers_of ts)
  unfolding pointers_of
  each_tells zero p ts e = let is = some_is none ts e in subst (λ (x : Trees). Tells [] 0 (each_pointers_of x)) is (refl, refl)
  each_tells (suc k) p ts e =
      let a = bind_some (f p) _ ts e in
      let b = bind_some (each f (after p 1) k) _ ts a.2 in
      let is = some_is _ _ b.2 in
      subst (λ (x : Trees). Tells (v p ++ from_each v (after p 1) k) (g p + cost_each g (after p 1) k) (each_pointers_of x)) is
      (tells_both (v p) (from_each v (after p 1) k) (g p) (cost_each g (after p 1) k) (pointers_of a.0) (each_pointers_of b.0) (h p a.0 a.1) (each_tells k (after p 1) b.0 b.1))

  elements_tell : (n : ℕ) (p : Place) (ws : List ℕ) (d k : ℕ) (es : Elements) → each_element f p ws d k n ≡ Some es → Tells (from_elements v p d k n) (cost_elements g p d k n) (element_pointers_of es)
  unfolding pointers_of
  elements_tell zero p ws d k es e = let is = some_is no_elements es e in subst (λ (x : Elements). Tells [] 0 (element_pointers_of x)) is (refl, refl)
  elements_tell (suc n) p ws d k es e =
      let a = bind_some (each f (after p d) k) _ es e in
      let b = bind_some (each_element f (after p (d + k)) (drop (d + k) ws) d k n) _ es a.2 in
      let is = some_is _ _ b.2 in
      subst (λ (x : Elements). Tells (from_each v (after p d) k ++ from_elements v (after p (d + k)) d k n) (cost_each g (after p d) k + cost_elements g (after p (d + k)) d k n) (element_pointers_of x)) is
      (tells_both (from_each v (after p d) k) (from_elements v (after p (d + k)) d k n) (cost_each g (after p d) k) (cost_elements g (after p (d + k)) d k n) (each_pointers_of a.0) (element_pointers_of b.0) (each_tells k (after p d) a.0 a.1)
      (elements_tell n (after p (d + k)) (drop (d + k) ws) d k b.0 b.1))

  module _ (s : Segments) (pads : ℕ) (t : Tree) where
    list_tells : (p : Place) (kind : ListKind) (size n : ℕ) (ws : List ℕ) → words_at s p (list_words kind size n) ≡ Some ws → list_tree f p kind size n ws ≡ Some t → Tells (list_visits v pads p kind size n ws) (pads + list_cost s g p kind size n) (pointers_of t)
    unfolding pointers_of
    list_tells p of_bits size n ws there e =
        let is = some_is _ t e in
        let c : ℕ = if eqb size 0 then n else words_for (size_bits size * n) in
        subst (λ (x : Tree). Tells (Ok (pads + c) ∷ []) (pads + c) (pointers_of x)) is (tells_first (pads + c) 0 (pads + c) 0 [] (omega arith) (refl, refl))
    list_tells p of_pointers size n ws there e =
        let a = bind_some (each f p n) _ t e in
        let is = some_is _ t a.2 in
        subst (λ (x : Tree). Tells (Ok (pads + n) ∷ from_each v p n) (pads + (n + cost_each g p n)) (pointers_of x)) is
        (tells_first (pads + n) (cost_each g p n) (pads + (n + cost_each g p n)) (each_pointers_of a.0) (from_each v p n) (omega arith) (each_tells n p a.0 a.1))
    list_tells p of_structs size n ws there e =
        let a = bind_found (tag_in ws) _ t e in
        let tag = a.0 in
        let d = tag.data_words in
        let k = tag.pointers in
        let b = bind_some (each_element f (after p 1) (drop 1 ws) d k tag.count) _ t a.2 in
        let is = some_is _ t b.2 in
        let empty : ℕ = if eqb (d + k) 0 then tag.count else 0 in
        let rest : ℕ = cost_elements g (after p 1) d k tag.count in
        let found : (words_at s p (1 + n) >>= λ xs. result_ok (tag_in xs)) ≡ Some tag = ap (λ (x : Option (List ℕ)). x >>= λ xs. result_ok (tag_in xs)) there ∙ ap result_ok a.1 in
        let cost : pads + (n + 1 + tag_cost g p (words_at s p (1 + n) >>= λ xs. result_ok (tag_in xs))) ≡ pads + (n + 1 + (empty + rest)) = ap (λ (x : Option Tag). pads + (n + 1 + tag_cost g p x)) found in
        let all : Tells (Ok (pads + (n + 1 + empty)) ∷ from_elements v (after p 1) d k tag.count) (pads + (n + 1 + (empty + rest))) (1 + element_pointers_of b.0) =
        tells_first (pads + (n + 1 + empty)) rest (pads + (n + 1 + (empty + rest))) (element_pointers_of b.0) (from_elements v (after p 1) d k tag.count) (omega arith) (elements_tell tag.count (after p 1) (drop 1 ws) d k b.0 b.1) in
        let tells : Tells (list_visits v pads p of_structs size n ws) (pads + (n + 1 + (empty + rest))) (1 + element_pointers_of b.0) =
        subst (λ (x : Result Tag Kind). Tells (visits_of (λ y. Ok (pads + (n + 1 + (if eqb (y.data_words + y.pointers) 0 then y.count else 0))) ∷ from_elements v (after p 1) y.data_words y.pointers y.count) x) (pads + (n + 1 + (empty + rest))) (1 + element_pointers_of b.0)) (sym a.1) all in
        subst (λ (x : Tree). Tells (list_visits v pads p of_structs size n ws) (pads + list_cost s g p of_structs size n) (pointers_of x)) is
        (subst (λ (x : ℕ). Tells (list_visits v pads p of_structs size n ws) x (1 + element_pointers_of b.0)) (sym cost) tells)

    object_tells : (m : Object) → tree_of s f m ≡ Some t → Tells (object_visits s v pads m) (pads + object_cost s g m) (pointers_of t)
    unfolding pointers_of
    object_tells nothing e = let is = some_is null t e in subst (λ (x : Tree). Tells (Ok pads ∷ []) (pads + 0) (pointers_of x)) is (tells_first pads 0 (pads + 0) 0 [] refl (refl, refl))
    object_tells (a_capability i) e = let is = some_is (capability i) t e in subst (λ (x : Tree). Tells (Ok pads ∷ []) (pads + 0) (pointers_of x)) is (tells_first pads 0 (pads + 0) 0 [] refl (refl, refl))
    object_tells (a_struct p d k) e =
        let a = bind_some (words_at s p (d + k)) _ t e in
        let b = bind_some (each f (after p d) k) _ t a.2 in
        let is = some_is _ t b.2 in
        let there : ok_or (words_at s p (d + k)) OutOfBounds ≡ Ok a.0 = ap (λ (x : Option (List ℕ)). ok_or x OutOfBounds) a.1 in
        let own : ℕ = d + k in
        let rest : ℕ = cost_each g (after p d) k in
        let all : Tells (Ok (pads + own) ∷ from_each v (after p d) k) (pads + (own + rest)) (1 + each_pointers_of b.0) = tells_first (pads + own) rest (pads + (own + rest)) (each_pointers_of b.0) (from_each v (after p d) k) (omega arith) (each_tells k (after p d) b.0 b.1) in
        subst (λ (x : Tree). Tells (object_visits s v pads (a_struct p d k)) (pads + (own + rest)) (pointers_of x)) is
        (subst (λ (x : Result (List ℕ) Kind). Tells (visits_of (λ ws. Ok (pads + own) ∷ from_each v (after p d) k) x) (pads + (own + rest)) (1 + each_pointers_of b.0)) (sym there) all)
    object_tells (a_list p size n) e =
        let a = bind_some (words_at s p (list_words (list_kind size) size n)) _ t e in
        let there : ok_or (words_at s p (list_words (list_kind size) size n)) OutOfBounds ≡ Ok a.0 = ap (λ (x : Option (List ℕ)). ok_or x OutOfBounds) a.1 in
        subst (λ (x : Result (List ℕ) Kind). Tells (visits_of (list_visits v pads p (list_kind size) size n) x) (pads + list_cost s g p (list_kind size) size n) (pointers_of t)) (sym there)
        (list_tells p (list_kind size) size n a.0 a.1 a.2)

leaf_tells : (pads : ℕ) (m : Object) (t : Tree) → leaf_of m ≡ Some t → Tells (leaf_visits pads m) (pads + 0) (pointers_of t)
unfolding pointers_of
leaf_tells pads nothing t e = let is = some_is null t e in subst (λ (x : Tree). Tells (Ok pads ∷ []) (pads + 0) (pointers_of x)) is (tells_first pads 0 (pads + 0) 0 [] refl (refl, refl))
leaf_tells pads (a_capability i) t e = let is = some_is (capability i) t e in subst (λ (x : Tree). Tells (Ok pads ∷ []) (pads + 0) (pointers_of x)) is (tells_first pads 0 (pads + 0) 0 [] refl (refl, refl))
leaf_tells pads (a_struct p d k) t e = absurd cc
leaf_tells pads (a_list p size n) t e = absurd cc

-- A value without a fault costs what its visits do, and has so many pointers.
pub values_tell : (n : ℕ) (s : Segments) (p : Place) (t : Tree) → tree_at n s p ≡ Some t → Tells (visits n s p) (cost_at n s p) (pointers_of t)
unfolding tree_at cost_at visits
values_tell zero s p t e =
    let a = bind_found (found_at s p) _ t e in
    subst (λ (x : Result Found Kind). Tells (visits_of (λ f. leaf_visits f.pads f.object) x) (found_cost (λ _. 0) x) (pointers_of t)) (sym a.1) (leaf_tells a.0.pads a.0.object t a.2)
values_tell (suc n) s p t e =
    let a = bind_found (found_at s p) _ t e in
    subst (λ (x : Result Found Kind). Tells (visits_of (λ f. object_visits s (visits n s) f.pads f.object) x) (found_cost (object_cost s (cost_at n s)) x) (pointers_of t)) (sym a.1)
    (object_tells (tree_at n s) (cost_at n s) (visits n s) (values_tell n s) s a.0.pads t a.0.object a.2)

-- The same of values in a row.
pub rows_tell : (n : ℕ) (s : Segments) (p : Place) (k : ℕ) (ts : Trees) → each (tree_at n s) p k ≡ Some ts → Tells (from_each (visits n s) p k) (cost_each (cost_at n s) p k) (each_pointers_of ts)
rows_tell n s p k ts e = each_tells (tree_at n s) (cost_at n s) (visits n s) (values_tell n s) k p ts e

-- ---- faults

module _ (v : Place → List Visit) (h : Place → List Kind) (same : (p : Place) → faults_among (v p) ≡ h p) where
  each_faults : (k : ℕ) (p : Place) → faults_among (from_each v p k) ≡ from_each h p k
  each_faults zero p = refl
  each_faults (suc k) p = faults_together (v p) (from_each v (after p 1) k) ∙ ap (λ (ks : List Kind). ks ++ faults_among (from_each v (after p 1) k)) (same p) ∙ ap (λ (ks : List Kind). h p ++ ks) (each_faults k (after p 1))

  elements_faults : (n : ℕ) (p : Place) (d k : ℕ) → faults_among (from_elements v p d k n) ≡ from_elements h p d k n
  elements_faults zero p d k = refl
  elements_faults (suc n) p d k =
      faults_together (from_each v (after p d) k) (from_elements v (after p (d + k)) d k n) ∙ ap (λ (ks : List Kind). ks ++ faults_among (from_elements v (after p (d + k)) d k n)) (each_faults k (after p d))
      ∙ ap (λ (ks : List Kind). from_each h (after p d) k ++ ks) (elements_faults n (after p (d + k)) d k)

  step_faults : {A : Type 0} (f : A → List Visit) (g : A → List Kind) (r : Result A Kind) → ((x : A) → faults_among (f x) ≡ g x) → faults_among (visits_of f r) ≡ faults_of g r
  step_faults f g (Ok x) e = e x
  step_faults f g (Err k) e = refl

  list_faults_are : (pads : ℕ) (p : Place) (kind : ListKind) (size n : ℕ) (ws : List ℕ) → faults_among (list_visits v pads p kind size n ws) ≡ list_faults h p kind n ws
  list_faults_are pads p of_bits size n ws = refl
  list_faults_are pads p of_pointers size n ws = each_faults n p
  list_faults_are pads p of_structs size n ws = step_faults _ _ (tag_in ws) (λ t. elements_faults t.count (after p 1) t.data_words t.pointers)

  object_faults_are : (s : Segments) (pads : ℕ) (m : Object) → faults_among (object_visits s v pads m) ≡ object_faults s h m
  object_faults_are s pads nothing = refl
  object_faults_are s pads (a_capability i) = refl
  object_faults_are s pads (a_struct p d k) = step_faults _ _ (ok_or (words_at s p (d + k)) OutOfBounds) (λ ws. each_faults k (after p d))
  object_faults_are s pads (a_list p size n) = step_faults _ _ (ok_or (words_at s p (list_words (list_kind size) size n)) OutOfBounds) (λ ws. list_faults_are pads p (list_kind size) size n ws)

leaf_faults_are : (pads : ℕ) (m : Object) → faults_among (leaf_visits pads m) ≡ leaf_faults m
leaf_faults_are pads nothing = refl
leaf_faults_are pads (a_capability i) = refl
leaf_faults_are pads (a_struct p d k) = refl
leaf_faults_are pads (a_list p size n) = refl

found_faults : (f : Found → List Visit) (g : Found → List Kind) (r : Result Found Kind) → ((x : Found) → faults_among (f x) ≡ g x) → faults_among (visits_of f r) ≡ faults_of g r
found_faults f g (Ok x) e = e x
found_faults f g (Err k) e = refl

-- The faults of a value are those among its visits.
pub faults_of_visits : (n : ℕ) (s : Segments) (p : Place) → faults_among (visits n s p) ≡ faults_at n s p
unfolding visits faults_at
faults_of_visits zero s p = found_faults _ _ (found_at s p) (λ f. leaf_faults_are f.pads f.object)
faults_of_visits (suc n) s p = found_faults _ _ (found_at s p) (λ f. object_faults_are (visits n s) (faults_at n s) (faults_of_visits n s) s f.pads f.object)

-- ---- how many pointers a walk follows

-- Each visit follows one of so many pointers, or one whose words were paid before.
abbrev Within : ℕ → List Visit → Type 0
Within k [] = Unit {0}
Within k (Ok c ∷ vs) = (1 ≤ k) × Within (k - 1 + c) vs
Within k (Err kind ∷ vs) = (1 ≤ k) × Within (k - 1) vs

within_more : (vs : List Visit) (k m : ℕ) → k ≤ m → Within k vs → Within m vs
within_more [] k m h w = tt
within_more (Ok c ∷ vs) k m h w = let one = w.0 in (omega arith, within_more vs (k - 1 + c) (m - 1 + c) (omega arith) w.1)
within_more (Err kind ∷ vs) k m h w = let one = w.0 in (omega arith, within_more vs (k - 1) (m - 1) (omega arith) w.1)

within_both : (a b : List Visit) (k m : ℕ) → Within k a → Within m b → Within (k + m) (a ++ b)
within_both [] b k m w v = within_more b m (k + m) (omega arith) v
within_both (Ok c ∷ a) b k m w v =
    let one = w.0 in
    let same : k - 1 + c + m ≡ k + m - 1 + c = omega arith in
    (omega arith, subst (λ (n : ℕ). Within n (a ++ b)) same (within_both a b (k - 1 + c) m w.1 v))
within_both (Err kind ∷ a) b k m w v =
    let one = w.0 in
    let same : k - 1 + m ≡ k + m - 1 = omega arith in
    (omega arith, subst (λ (n : ℕ). Within n (a ++ b)) same (within_both a b (k - 1) m w.1 v))

-- a walk that is refused has followed no more than those pointers and one for each word
few_followed : (before : List Visit) (last : Visit) (rest : List Visit) (k paid : ℕ) → Within k (before ++ last ∷ rest) → visits_cost before ≡ Some paid → length before + 1 ≤ k + paid
few_followed [] (Ok c) rest k paid w e = let one = w.0 in omega arith
few_followed [] (Err kind) rest k paid w e = let one = w.0 in omega arith
few_followed (Err kind ∷ before) last rest k paid w e = absurd cc
few_followed (Ok c ∷ before) last rest k paid w e =
    let one = w.0 in
    let x = bind_some (visits_cost before) _ paid e in
    let z = some_is _ _ x.2 in
    let more = few_followed before last rest (k - 1 + c) x.0 w.1 x.1 in
    omega arith

pub tag_fits : (ws : List ℕ) (t : Tag) → tag_in ws ≡ Ok t → t.count * (t.data_words + t.pointers) + 1 ≤ length ws
tag_fits [] t e = absurd cc
tag_fits (w ∷ ws) t e =
    let a = bind_ok (tag_of (pointer_of w)) _ t e in
    let b = guard_ok (leb (a.0.count * (a.0.data_words + a.0.pointers)) (length ws)) OutOfBounds _ t a.2 in
    let le : a.0.count * (a.0.data_words + a.0.pointers) ≤ length ws = leb-true _ _ b.0 in
    let is : a.0 ≡ t = ok_is _ _ b.1 in
    let here : t.count * (t.data_words + t.pointers) ≤ length ws = subst (λ (u : Tag). u.count * (u.data_words + u.pointers) ≤ length ws) is le in
    omega arith

step_within : {A : Type 0} (f : A → List Visit) (r : Result A Kind) → ((x : A) → r ≡ Ok x → Within 1 (f x)) → Within 1 (visits_of f r)
step_within f (Ok x) h = h x refl
step_within f (Err kind) h = (omega arith, tt)

module _ (v : Place → List Visit) (h : (p : Place) → Within 1 (v p)) where
  each_within : (k : ℕ) (p : Place) → Within k (from_each v p k)
  each_within zero p = tt
  each_within (suc k) p = let sum : 1 + k ≡ suc k = omega arith in subst (λ (n : ℕ). Within n (from_each v p (suc k))) sum (within_both (v p) (from_each v (after p 1) k) 1 k (h p) (each_within k (after p 1)))

  elements_within : (n : ℕ) (p : Place) (d k : ℕ) → Within (n * k) (from_elements v p d k n)
  elements_within zero p d k = tt
  elements_within (suc n) p d k =
      let sum : k + n * k ≡ suc n * k = omega arith in
      subst (λ (m : ℕ). Within m (from_elements v p d k (suc n))) sum (within_both (from_each v (after p d) k) (from_elements v (after p (d + k)) d k n) k (n * k) (each_within k (after p d)) (elements_within n (after p (d + k)) d k))

  first_within : (c k : ℕ) (vs : List Visit) → k ≤ c → Within k vs → Within 1 (Ok c ∷ vs)
  first_within c k vs le w = (omega arith, within_more vs k (1 - 1 + c) (omega arith) w)

  list_within : (pads : ℕ) (p : Place) (kind : ListKind) (size n : ℕ) (ws : List ℕ) → length ws ≡ list_words kind size n → Within 1 (list_visits v pads p kind size n ws)
  list_within pads p of_bits size n ws len = (omega arith, tt)
  list_within pads p of_pointers size n ws len = first_within (pads + n) n (from_each v p n) (omega arith) (each_within n p)
  list_within pads p of_structs size n ws len =
      step_within _ (tag_in ws) (λ t e.
      let fits = tag_fits ws t e in
      let less : t.count * t.pointers ≤ t.count * (t.data_words + t.pointers) = mul-le-mul_left t.count (omega arith) in
      first_within (pads + (n + 1 + (if eqb (t.data_words + t.pointers) 0 then t.count else 0))) (t.count * t.pointers) (from_elements v (after p 1) t.data_words t.pointers t.count) (omega arith) (elements_within t.count (after p 1) t.data_words t.pointers))

  object_within : (s : Segments) (pads : ℕ) (m : Object) → Within 1 (object_visits s v pads m)
  object_within s pads nothing = (omega arith, tt)
  object_within s pads (a_capability i) = (omega arith, tt)
  object_within s pads (a_struct p d k) = step_within _ (ok_or (words_at s p (d + k)) OutOfBounds) (λ ws e. first_within (pads + (d + k)) k (from_each v (after p d) k) (omega arith) (each_within k (after p d)))
  object_within s pads (a_list p size n) =
      step_within _ (ok_or (words_at s p (list_words (list_kind size) size n)) OutOfBounds)
      (λ ws e. list_within pads p (list_kind size) size n ws (words_length s p (list_words (list_kind size) size n) ws (ok_or_some _ _ _ e)))

leaf_within : (pads : ℕ) (m : Object) → Within 1 (leaf_visits pads m)
leaf_within pads nothing = (omega arith, tt)
leaf_within pads (a_capability i) = (omega arith, tt)
leaf_within pads (a_struct p d k) = (omega arith, tt)
leaf_within pads (a_list p size n) = (omega arith, tt)

visits_within : (n : ℕ) (s : Segments) (p : Place) → Within 1 (visits n s p)
unfolding visits
visits_within zero s p = step_within _ (found_at s p) (λ f e. leaf_within f.pads f.object)
visits_within (suc n) s p = step_within _ (found_at s p) (λ f e. object_within (visits n s) (visits_within n s) s f.pads f.object)

-- A walk over pointers in a row follows no more than those and one for each word that it paid before.
pub row_follows_few : (n : ℕ) (s : Segments) (p : Place) (k : ℕ) (before : List Visit) (last : Visit) (rest : List Visit) (paid : ℕ) → from_each (visits n s) p k ≡ before ++ last ∷ rest → visits_cost before ≡ Some paid → length before + 1 ≤ k + paid
row_follows_few n s p k before last rest paid e c = few_followed before last rest k paid (subst (Within k) e (each_within (visits n s) (visits_within n s) k p)) c

-- The same from one pointer.
pub follows_few : (n : ℕ) (s : Segments) (p : Place) (before : List Visit) (last : Visit) (rest : List Visit) (paid : ℕ) → visits n s p ≡ before ++ last ∷ rest → visits_cost before ≡ Some paid → length before ≤ paid
follows_few n s p before last rest paid e c = let few = few_followed before last rest 1 paid (subst (Within 1) e (visits_within n s p)) c in omega arith

pub cost_front : (a b : List Visit) (cost : ℕ) → visits_cost (a ++ b) ≡ Some cost → (paid : ℕ) × (visits_cost a ≡ Some paid) × (paid ≤ cost)
cost_front [] b cost e = (0, refl, omega arith)
cost_front (Err k ∷ a) b cost e = absurd cc
cost_front (Ok c ∷ a) b cost e =
    let x = bind_some (visits_cost (a ++ b)) _ cost e in
    let sum : c + x.0 ≡ cost = some_is _ _ x.2 in
    let y = cost_front a b x.0 x.1 in
    let less = y.2 in
    (c + y.0, rw y.1 refl, omega (arith, sum, less))
