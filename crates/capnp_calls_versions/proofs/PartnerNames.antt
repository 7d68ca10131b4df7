-- Which fields of an older node have a partner of a name: the one that is renamed to it, and the one that has it and keeps it.
use Rattle.std.proofs.Common.{◌≡◌, ℕ, Bool, true, false, not, ◌&&◌, ◌||◌, ◌==◌, if◌then◌else◌, Option, Some, None, option_map, List, [], ◌∷◌, map, find, refl, sym, ◌∙◌, ap}
use Rattle.std.specs.List.{list_any}
use Rattle.std.specs.Str.{bytes_eq}
use Rattle.std.proofs.lemmas.Slice.Eq.{bytes_eq-Decides}
use Rattle.capnp_model.specs.Partners.{Renaming, is_of, partner_name, same_key, are_distinct_names, are_one_to_one}
use Rattle.capnp_model.proofs.lemmas.Tests.{same_number, number_is, not_true, never_true, both, and_left, and_right, or_left, or_right}
use Rattle.capnp_calls_versions.specs.Renamings.{is_to}

same_bytes : (a b : List ℕ) → bytes_eq a b ≡ true → a ≡ b
same_bytes a b h = (bytes_eq-Decides a b).0 h

bytes_are : (a b : List ℕ) → a ≡ b → bytes_eq a b ≡ true
bytes_are a b h = (bytes_eq-Decides a b).1 h

-- ---- what is found

found_passes : {A : Type 0} (p : A → Bool) (xs : List A) (x : A) → find p xs ≡ Some x → p x ≡ true
found_passes p [] x h = absurd (cc h)
found_passes p (y ∷ xs) x h = by (p y) refl (found_passes p xs x) h
  where
    by : (b : Bool) → p y ≡ b → (find p xs ≡ Some x → p x ≡ true) → (if b then Some y else find p xs) ≡ Some x → p x ≡ true
    by true e more k = let is : y ≡ x = cc k in ap p (sym is) ∙ e
    by false e more k = more k

-- what passes another test, that is found too
found_too : {A : Type 0} (p q : A → Bool) (xs : List A) (x : A) → find p xs ≡ Some x → q x ≡ true → find q xs ≡ None → ⊥
found_too p q [] x h t n = absurd (cc h)
found_too p q (y ∷ xs) x h t n = by (p y) (q y) refl (found_too p q xs x) h n
  where
    by : (b c : Bool) → q y ≡ c → (find p xs ≡ Some x → q x ≡ true → find q xs ≡ None → ⊥) → (if b then Some y else find p xs) ≡ Some x → (if c then Some y else find q xs) ≡ None → ⊥
    by b true e more k m = absurd (cc m)
    by true false e more k m = let is : y ≡ x = cc k in let clash : true ≡ false = sym t ∙ ap q (sym is) ∙ e in absurd (cc clash)
    by false false e more k m = more k t m

module _ (key : Renaming → ℕ × List ℕ) where
  has_key : (p : Renaming → Bool) (rs : List Renaming) (r s : Renaming) → find p rs ≡ Some s → same_key (key r) (key s) ≡ true → list_any (same_key (key r)) (map key rs) ≡ true
  has_key p [] r s h k = absurd (cc h)
  has_key p (x ∷ rs) r s h k = by (p x) (has_key p rs r s) h
    where
      by : (b : Bool) → (find p rs ≡ Some s → same_key (key r) (key s) ≡ true → list_any (same_key (key r)) (map key rs) ≡ true) → (if b then Some x else find p rs) ≡ Some s → (same_key (key r) (key x) || list_any (same_key (key r)) (map key rs)) ≡ true
      by true more e = let is : x ≡ s = cc e in or_left (same_key (key r) (key x)) (list_any (same_key (key r)) (map key rs)) (ap (λ y. same_key (key r) (key y)) is ∙ k)
      by false more e = or_right (same_key (key r) (key x)) (list_any (same_key (key r)) (map key rs)) (more e k)

  turned : (r s : Renaming) → same_key (key r) (key s) ≡ true → same_key (key s) (key r) ≡ true
  turned r s k =
      both ((key r).0 == (key s).0) (bytes_eq (key r).1 (key s).1)
      (ap (λ n. n == (key s).0) (sym (same_number (key s).0 (key r).0 (and_left ((key s).0 == (key r).0) (bytes_eq (key s).1 (key r).1) k))) ∙ number_is (key s).0)
      (bytes_are (key r).1 (key s).1 (sym (same_bytes (key s).1 (key r).1 (and_right ((key s).0 == (key r).0) (bytes_eq (key s).1 (key r).1) k))))

  -- where keys are apart, two that are found and have one key are one
  pub only_one : (p q : Renaming → Bool) (rs : List Renaming) (r s : Renaming) → are_distinct_names (map key rs) ≡ true → find p rs ≡ Some r → find q rs ≡ Some s → same_key (key r) (key s) ≡ true → r ≡ s
  only_one p q [] r s a h g k = absurd (cc h)
  only_one p q (x ∷ rs) r s a h g k = by (p x) (q x) (only_one p q rs r s) h g
    where
      new : list_any (same_key (key x)) (map key rs) ≡ false
      new = not_true (list_any (same_key (key x)) (map key rs)) (and_left (not (list_any (same_key (key x)) (map key rs))) (are_distinct_names (map key rs)) a)

      by : (b c : Bool) → (are_distinct_names (map key rs) ≡ true → find p rs ≡ Some r → find q rs ≡ Some s → same_key (key r) (key s) ≡ true → r ≡ s) → (if b then Some x else find p rs) ≡ Some r → (if c then Some x else find q rs) ≡ Some s → r ≡ s
      by true true more e f = let one : x ≡ r = cc e in let other : x ≡ s = cc f in sym one ∙ other
      by true false more e f =
          let one : x ≡ r = cc e in
          let clash : true ≡ false = sym (has_key q rs x s f (ap (λ y. same_key (key y) (key s)) one ∙ k)) ∙ new in
          absurd (cc clash)
      by false true more e f =
          let other : x ≡ s = cc f in
          let clash : true ≡ false = sym (has_key p rs x r e (ap (λ y. same_key (key y) (key r)) other ∙ turned r s k)) ∙ new in
          absurd (cc clash)
      by false false more e f = more (and_right (not (list_any (same_key (key x)) (map key rs))) (are_distinct_names (map key rs)) a) e f k

-- ---- names

-- the name is the one that is told, if one is
abbrev pub is_told : Option (List ℕ) → List ℕ → Bool
is_told None l = false
is_told (Some m) l = bytes_eq l m

abbrev pub older_of : Option Renaming → Option (List ℕ)
older_of o = option_map (λ (r : Renaming). r.older) o

abbrev partner_in : List ℕ → Option Renaming → List ℕ
partner_in l None = l
partner_in l (Some r) = r.newer

partner_is : (rs : List Renaming) (node : ℕ) (l : List ℕ) (o : Option Renaming) → find (is_of node l) rs ≡ o → partner_name rs node l ≡ partner_in l o
partner_is rs node l o h = ap (λ (x : Option Renaming). elim x as (λ (y : Option Renaming). List ℕ) [ None ↦ l | Some r ↦ r.newer ]) h ∙ by o
  where
    by : (x : Option Renaming) → (elim x as (λ (y : Option Renaming). List ℕ) [ None ↦ l | Some r ↦ r.newer ]) ≡ partner_in l x
    by None = refl
    by (Some r) = refl

absorbed : (x y : Bool) → x ≡ (x || (x && y))
absorbed true y = refl
absorbed false y = refl

twice : (x : Bool) → x ≡ (x && x)
twice true = refl
twice false = refl

none_both : (x y : Bool) → (x && false) ≡ (y && false)
none_both true true = refl
none_both true false = refl
none_both false true = refl
none_both false false = refl

module _ (rs : List Renaming) (apart : are_one_to_one rs ≡ true) (node : ℕ) (n l : List ℕ) where
  older_apart : are_distinct_names (map (λ r. (r.node, r.older)) rs) ≡ true
  older_apart = and_left (are_distinct_names (map (λ r. (r.node, r.older)) rs)) (are_distinct_names (map (λ r. (r.node, r.newer)) rs)) apart

  newer_apart : are_distinct_names (map (λ r. (r.node, r.newer)) rs) ≡ true
  newer_apart = and_right (are_distinct_names (map (λ r. (r.node, r.older)) rs)) (are_distinct_names (map (λ r. (r.node, r.newer)) rs)) apart

  -- two tests that fix the same node and the same name
  one_key : (i j : ℕ) (a b : List ℕ) → (i == node) ≡ true → (j == node) ≡ true → a ≡ b → (j == i && bytes_eq b a) ≡ true
  one_key i j a b h k e =
      both (j == i) (bytes_eq b a) (ap (λ m. m == i) (same_number j node k) ∙ ap (λ m. node == m) (same_number i node h) ∙ number_is node) (bytes_are b a (sym e))

  -- what isn't renamed isn't the older name of what is renamed to n
  not_told : find (is_of node l) rs ≡ None → (p : Option Renaming) → find (is_to node n) rs ≡ p → is_told (older_of p) l ≡ false
  not_told h None g = refl
  not_told h (Some s) g =
      let to = found_passes (is_to node n) rs s g in
      never_true (bytes_eq l s.older) (λ e. found_too (is_to node n) (is_of node l) rs s g (both (s.node == node) (bytes_eq s.older l) (and_left (s.node == node) (bytes_eq s.newer n) to) (bytes_are s.older l (sym (same_bytes l s.older e)))) h)

  -- what is renamed is that older name just where it is renamed to n
  told : (r : Renaming) → find (is_of node l) rs ≡ Some r → (p : Option Renaming) → find (is_to node n) rs ≡ p → is_told (older_of p) l ≡ bytes_eq r.newer n
  told r h None g =
      let of = found_passes (is_of node l) rs r h in
      sym (never_true (bytes_eq r.newer n) (λ e. found_too (is_of node l) (is_to node n) rs r h (both (r.node == node) (bytes_eq r.newer n) (and_left (r.node == node) (bytes_eq r.older l) of) e) g))
  told r h (Some s) g = by (bytes_eq r.newer n) refl
    where
      of : is_of node l r ≡ true
      of = found_passes (is_of node l) rs r h

      to : is_to node n s ≡ true
      to = found_passes (is_to node n) rs s g

      here : (r.node == node) ≡ true
      here = and_left (r.node == node) (bytes_eq r.older l) of

      there : (s.node == node) ≡ true
      there = and_left (s.node == node) (bytes_eq s.newer n) to

      own : r.older ≡ l
      own = same_bytes r.older l (and_right (r.node == node) (bytes_eq r.older l) of)

      new : s.newer ≡ n
      new = same_bytes s.newer n (and_right (s.node == node) (bytes_eq s.newer n) to)

      by : (b : Bool) → bytes_eq r.newer n ≡ b → bytes_eq l s.older ≡ b
      by true e =
          let one : r ≡ s = only_one (λ x. (x.node, x.newer)) (is_of node l) (is_to node n) rs r s newer_apart h g (one_key r.node s.node r.newer s.newer here there (same_bytes r.newer n e ∙ sym new)) in
          bytes_are l s.older (sym own ∙ ap (λ (x : Renaming). x.older) one)
      by false e =
          never_true (bytes_eq l s.older) (λ f.
          let one : r ≡ s = only_one (λ x. (x.node, x.older)) (is_of node l) (is_to node n) rs r s older_apart h g (one_key r.node s.node r.older s.older here there (own ∙ same_bytes l s.older f)) in
          let clash : true ≡ false = sym (bytes_are r.newer n (ap (λ (x : Renaming). x.newer) one ∙ new)) ∙ e in
          absurd (cc clash))

  -- the name n is kept just as this one is, where this one is n
  kept : (bytes_eq (partner_name rs node n) n && bytes_eq l n) ≡ (bytes_eq (partner_name rs node l) n && bytes_eq l n)
  kept = by (bytes_eq l n) refl
    where
      by : (b : Bool) → bytes_eq l n ≡ b → (bytes_eq (partner_name rs node n) n && b) ≡ (bytes_eq (partner_name rs node l) n && b)
      by true e = ap (λ m. bytes_eq (partner_name rs node m) n && true) (sym (same_bytes l n e))
      by false e = none_both (bytes_eq (partner_name rs node n) n) (bytes_eq (partner_name rs node l) n)

  pub has_partner : (p : Option Renaming) → find (is_to node n) rs ≡ p → bytes_eq (partner_name rs node l) n ≡ (is_told (older_of p) l || (bytes_eq (partner_name rs node n) n && bytes_eq l n))
  has_partner p g = by (find (is_of node l) rs) refl ∙ ap (λ b. is_told (older_of p) l || b) (sym kept)
    where
      by : (o : Option Renaming) → find (is_of node l) rs ≡ o → bytes_eq (partner_name rs node l) n ≡ (is_told (older_of p) l || (bytes_eq (partner_name rs node l) n && bytes_eq l n))
      by None h =
          let is = partner_is rs node l None h in
          ap (λ m. bytes_eq m n) is ∙ twice (bytes_eq l n) ∙ ap (λ m. bytes_eq m n && bytes_eq l n) (sym is)
          ∙ ap (λ b. b || (bytes_eq (partner_name rs node l) n && bytes_eq l n)) (sym (not_told h p g))
      by (Some r) h =
          let is = partner_is rs node l (Some r) h in
          absorbed (bytes_eq (partner_name rs node l) n) (bytes_eq l n)
          ∙ ap (λ b. b || (bytes_eq (partner_name rs node l) n && bytes_eq l n)) (ap (λ m. bytes_eq m n) is ∙ sym (told r h p g))
