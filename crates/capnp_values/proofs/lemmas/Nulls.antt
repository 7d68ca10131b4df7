-- Pointers that lead to null.
use Rattle.std.proofs.Common.{◌≡◌, ℕ, zero, suc, ◌+◌, ◌==◌, drop, subst, Bool, true, false, if◌then◌else◌, List, [], ◌∷◌, Option, Some, None, Result, Ok, refl, ap, sym, ◌∙◌}
use Rattle.std.specs.Option.{ok_or}
use Rattle.capnp_model.specs.Kinds.{Kind, OutOfBounds}
use Rattle.capnp_model.specs.Chains.{◌and_then◌, passes}
use Rattle.capnp_model.specs.Segments.{Segments, Place, place, after, word_at, words_at}
use Rattle.capnp_model.specs.Sections.{bits_at}
use Rattle.capnp_model.specs.Pointers as model
use Rattle.capnp_model.specs.Trees.{Tree, null, capability, structure, plain_list, pointer_list, struct_list, is_null}
use Rattle.capnp_model.specs.Traversal.{tree_at, tree_of, leaf_of, list_tree, ListKind, of_bits, of_pointers, of_structs, list_kind, list_words, tag_in, each, each_element}
use Rattle.capnp_model.proofs.lemmas.Chaining.{bind_some, bind_found, bind_ok, ok_is, some_is}
use Rattle.capnp_wire.specs.Views.{PointerView}
use Rattle.capnp_wire.specs.Reads.{is_null_at, is_null_pointer as pointer_is_null}
use Rattle.capnp_wire.specs.Laws.{reads_behind}
use Rattle.capnp_values.specs.Standing.{LeadsToValue, NullsAreRead}
use Rattle.capnp_values.proofs.lemmas.FieldReadings.{null_behind}

-- what is described is something
described_some : (start : ℕ → Result Place Kind) (p : model.Pointer) → model.described start p ≡ Ok model.nothing → ⊥
described_some start (model.to_struct offset d k) e = let a = bind_ok (start offset) _ model.nothing e in let is = ok_is _ _ a.2 in absurd cc
described_some start (model.to_list offset size n) e = let a = bind_ok (start offset) _ model.nothing e in let is = ok_is _ _ a.2 in absurd cc
described_some start (model.to_pad words p) e = absurd cc
described_some start (model.to_capability i) e = let is = ok_is _ _ e in absurd cc
described_some start model.to_nothing_known e = absurd cc

pad_some : (p : Place) (ws : List ℕ) → model.in_pad p ws ≡ Ok model.nothing → ⊥
pad_some p [] e = absurd cc
pad_some p (w ∷ []) e = described_some (model.begins (after p 1)) (model.pointer_of w) e
pad_some p (far ∷ w ∷ []) e = described_some (λ _. Ok (place (bits_at 32 32 far) (bits_at 3 29 far))) (model.pointer_of w) e
pad_some p (a ∷ b ∷ c ∷ ws) e = absurd cc

module _ (s : Segments) (q : Place) where
  near_some : (p : model.Pointer) (f : model.Found) → (model.described (model.begins (after q 1)) p and_then λ o. Ok (record { pads = 0; object = o })) ≡ Ok f → f.object ≡ model.nothing → ⊥
  near_some p f e h =
      let a = bind_ok (model.described (model.begins (after q 1)) p) _ f e in
      let is : a.0 ≡ model.nothing = ap (λ (x : model.Found). x.object) (ok_is _ _ a.2) ∙ h in
      described_some (model.begins (after q 1)) p (a.1 ∙ ap (λ (x : model.Object). Ok x) is)

  found_some : (p : model.Pointer) (f : model.Found) → model.found_by s q p ≡ Ok f → f.object ≡ model.nothing → ⊥
  found_some (model.to_pad words pad) f e h =
      let a = bind_ok (ok_or (words_at s pad words) OutOfBounds) _ f e in
      let b = bind_ok (model.in_pad pad a.0) _ f a.2 in
      let is : b.0 ≡ model.nothing = ap (λ (x : model.Found). x.object) (ok_is _ _ b.2) ∙ h in
      pad_some pad a.0 (b.1 ∙ ap (λ (x : model.Object). Ok x) is)
  found_some (model.to_struct offset d k) f e h = near_some (model.to_struct offset d k) f e h
  found_some (model.to_list offset size n) f e h = near_some (model.to_list offset size n) f e h
  found_some (model.to_capability i) f e h = near_some (model.to_capability i) f e h
  found_some model.to_nothing_known f e h = near_some model.to_nothing_known f e h

  -- where nothing is named the word is zero
  null_word : (f : model.Found) → model.found_at s q ≡ Ok f → f.object ≡ model.nothing → is_null_at s (Some q) ≡ true
  null_word f e h = by (word_at s q) e
    where
      word : (w : ℕ) (b : Bool) → (if b then Ok (record { pads = 0; object = model.nothing }) else model.found_by s q (model.pointer_of w)) ≡ Ok f → b ≡ true
      word w true g = refl
      word w false g = absurd (found_some (model.pointer_of w) f g h)

      by : (o : Option ℕ) → (ok_or o OutOfBounds and_then λ w. if w == 0 then Ok (record { pads = 0; object = model.nothing }) else model.found_by s q (model.pointer_of w)) ≡ Ok f → passes (λ w. w == 0) o ≡ true
      by None g = absurd cc
      by (Some w) g = word w (w == 0) g

  leaf_null : (o : model.Object) → leaf_of o ≡ Some null → o ≡ model.nothing
  leaf_null model.nothing e = refl
  leaf_null (model.a_capability i) e = absurd cc
  leaf_null (model.a_struct p d k) e = absurd cc
  leaf_null (model.a_list p size n) e = absurd cc

  list_null : (below : Place → Option Tree) (p : Place) (kind : ListKind) (size n : ℕ) (ws : List ℕ) → list_tree below p kind size n ws ≡ Some null → ⊥
  list_null below p of_bits size n ws e = absurd cc
  list_null below p of_pointers size n ws e = let a = bind_some (each below p n) _ null e in let is = some_is _ _ a.2 in absurd cc
  list_null below p of_structs size n ws e =
      let a = bind_found (tag_in ws) _ null e in
      let b = bind_some (each_element below (after p 1) (drop 1 ws) a.0.data_words a.0.pointers a.0.count) _ null a.2 in
      let is = some_is _ _ b.2 in
      absurd cc

  tree_null : (below : Place → Option Tree) (o : model.Object) → tree_of s below o ≡ Some null → o ≡ model.nothing
  tree_null below model.nothing e = refl
  tree_null below (model.a_capability i) e = absurd cc
  tree_null below (model.a_struct p d k) e =
      let a = bind_some (words_at s p (d + k)) _ null e in
      let b = bind_some (each below (after p d) k) _ null a.2 in
      let is = some_is _ _ b.2 in
      absurd cc
  tree_null below (model.a_list p size n) e =
      let a = bind_some (words_at s p (list_words (list_kind size) size n)) _ null e in
      absurd (list_null below p (list_kind size) size n a.0 a.2)

  null_at : (n : ℕ) → tree_at n s q ≡ Some null → is_null_at s (Some q) ≡ true
  unfolding tree_at
  null_at zero e = let a = bind_found (model.found_at s q) _ null e in null_word a.0 a.1 (leaf_null a.0.object a.2)
  null_at (suc n) e = let a = bind_found (model.found_at s q) _ null e in null_word a.0 a.1 (tree_null (tree_at n s) a.0.object a.2)

-- a pointer that leads to null is null
null_pointer_there : (n : ℕ) (p : PointerView) → LeadsToValue n p null → pointer_is_null p ≡ true
null_pointer_there n p leads = by p.place leads.tree
  where
    by : (o : Option Place) → reads_behind (tree_at n p.basis.segments) o ≡ Some null → is_null_at p.basis.segments o ≡ true
    by None e = refl
    by (Some q) e = null_at p.basis.segments q n e

pub nulls : NullsAreRead
nulls n p t leads = by (pointer_is_null p) (is_null t) refl refl
  where
    of_null : (u : Tree) → is_null u ≡ true → u ≡ null
    of_null null e = refl
    of_null (capability i) e = absurd cc
    of_null (structure w k ts) e = absurd cc
    of_null (plain_list size k section) e = absurd cc
    of_null (pointer_list ts) e = absurd cc
    of_null (struct_list w k es) e = absurd cc

    by : (a b : Bool) → pointer_is_null p ≡ a → is_null t ≡ b → a ≡ b
    by true true f g = refl
    by false false f g = refl
    by true false f g = let is : is_null t ≡ true = ap is_null (null_behind n p t leads f) in let no : true ≡ false = sym is ∙ g in absurd cc
    by false true f g =
        let P : Tree → Type 0 = λ u. LeadsToValue n p u in
        let there : pointer_is_null p ≡ true = null_pointer_there n p (subst P (of_null t g) leads) in
        let no : true ≡ false = sym there ∙ f in
        absurd cc
