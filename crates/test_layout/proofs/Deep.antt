-- What is done two pointers below the root is done to the root's value.
use Rattle.std.proofs.Common.{◌≡◌, ℕ, suc, ◌+◌, ◌<◌, ◌≤◌, Some, None, sym, subst, arith}
use Rattle.capnp_model.specs.Segments.{Segments, Place, after, root}
use Rattle.capnp_model.specs.Pointers.{a_struct}
use Rattle.capnp_model.specs.Trees.{Tree, widened}
use Rattle.capnp_model_writes.specs.Footprints.{Owns}
use Rattle.capnp_model_writes.specs.Changes.{Replaces}
use Rattle.capnp_copy_arenas.specs.Structs.{object_of_struct, SetsBits}
use Rattle.capnp_copy_arenas.specs.Values.{LeadsTo}
use Rattle.capnp_copy_arenas.specs.declared.fields.StructPlace.{StructPlace}
use Rattle.capnp_layout_builders.specs.Gets.{Gets}
use Rattle.test_layout.specs.Deep.{value_at_pointer, with_behind, with_number, with_inner_number, EditsRoot}

-- what the laws of changes say
pub record Laws : Type 0 where
  pub again : (n : ℕ) (s u v : Segments) (p : Place) (t w : Tree) → Replaces n s u p t → Replaces n u v p w → Replaces n s v p w
  pub owned : (n : ℕ) (s u : Segments) (p : Place) (t v : Tree) → Owns n s p t → Replaces n s u p v → Owns n u p v
  pub more_owned : (n m : ℕ) (s : Segments) (p : Place) (t : Tree) → n ≤ m → Owns n s p t → Owns m s p t
  pub more_replaced : (n m : ℕ) (s u : Segments) (p : Place) (t v : Tree) → n ≤ m → Owns n s p t → Replaces n s u p v → Replaces m s u p v
  pub down : (n : ℕ) (s : Segments) (p q : Place) (d k i : ℕ) (t : Tree) → LeadsTo s p (a_struct q d k) → i < k → Owns (suc n) s p t → Owns n s (after (after q d) i) (value_at_pointer i t)
  pub up : (n : ℕ) (s u : Segments) (p q : Place) (d k i : ℕ) (t v : Tree) → LeadsTo s p (a_struct q d k) → i < k → Owns (suc n) s p t → Replaces n s u (after (after q d) i) v → Replaces (suc n) s u p (with_behind i v t)
  pub number : (n : ℕ) (s u : Segments) (p : Place) (o : StructPlace) (v : ℕ) (t : Tree) → LeadsTo s p (object_of_struct o) → SetsBits s u o 0 64 v → Owns (suc n) s p t → Replaces (suc n) s u p (with_number v t)

some_is : (a b : Tree) → Some a ≡ Some b → a ≡ b
some_is a b h = cc

-- what is got without a default, at any levels that are enough
got : (l : Laws) (n m : ℕ) (s u : Segments) (p : Place) (t : Tree) (made : Tree → Tree) → n + 65 ≤ m → Gets None s u p made → Owns n s p t → Replaces m s u p (made t)
got l n m s u p t made less g own =
    let y = g n t own in
    let is : t ≡ y.0 = some_is t y.0 y.1 in
    let first : Replaces (n + 65) s u p (made t) = subst (λ (x : Tree). Replaces (n + 65) s u p (made x)) (sym is) y.2 in
    l.more_replaced (n + 65) m s u p t (made t) less (l.more_owned n (n + 65) s p t (omega arith) own) first

pub edited : (l : Laws) (s m w u : Segments) (q : Place) (d k : ℕ) (o : StructPlace) (v : ℕ) → Gets None s m root (widened 0 1) → LeadsTo m root (a_struct q d k) → 1 ≤ k → Gets None m w (after (after q d) 0) (widened 1 0) → LeadsTo w (after (after q d) 0) (object_of_struct o) → SetsBits w u o 0 64 v → EditsRoot s u (with_inner_number v)
edited l s m w u q d k o v outer leads less inner to sets n t own =
    let slot : Place = after (after q d) 0 in
    let t' : Tree = widened 0 1 t in
    let c : Tree = value_at_pointer 0 t' in
    let c' : Tree = widened 1 0 c in
    let some : 0 < k = omega arith in
    -- the root's struct is got
    let r1 : Replaces (n + 65) s m root t' = got l n (n + 65) s m root t (widened 0 1) (omega arith) outer own in
    let own' : Owns (n + 65) m root t' = l.owned (n + 65) s m root t t' (l.more_owned n (n + 65) s root t (omega arith) own) r1 in
    -- the struct behind its pointer is got, and its number is set
    let below : Owns (n + 65) m slot c = l.down (n + 65) m root q d k 0 t' leads some (l.more_owned (n + 65) (suc (n + 65)) m root t' (omega arith) own') in
    let r2 : Replaces (suc (n + 130)) m w slot c' = got l (n + 65) (suc (n + 130)) m w slot c (widened 1 0) (omega arith) inner below in
    let own2 : Owns (suc (n + 130)) w slot c' = l.owned (suc (n + 130)) m w slot c c' (l.more_owned (n + 65) (suc (n + 130)) m slot c (omega arith) below) r2 in
    let r3 : Replaces (suc (n + 130)) w u slot (with_number v c') = l.number (n + 130) w u slot o v c' to sets own2 in
    let r : Replaces (suc (n + 130)) m u slot (with_number v c') = l.again (suc (n + 130)) m w u slot c' (with_number v c') r2 r3 in
    -- and so it is of the root's
    let top : Owns (suc (suc (n + 130))) m root t' = l.more_owned (n + 65) (suc (suc (n + 130))) m root t' (omega arith) own' in
    let r' : Replaces (suc (suc (n + 130))) m u root (with_inner_number v t) = l.up (suc (n + 130)) m u root q d k 0 t' (with_number v c') leads some top r in
    let first : Replaces (n + 132) s m root t' = l.more_replaced (n + 65) (n + 132) s m root t t' (omega arith) (l.more_owned n (n + 65) s root t (omega arith) own) r1 in
    let last : Replaces (n + 132) m u root (with_inner_number v t) = l.more_replaced (suc (suc (n + 130))) (n + 132) m u root t' (with_inner_number v t) (omega arith) top r' in
    l.again (n + 132) s m u root t' (with_inner_number v t) first last

-- the same, where segments and places have other names
pub edited_at : (l : Laws) (s s' m m' w u u' : Segments) (p slot q : Place) (d k : ℕ) (o : StructPlace) (v : ℕ) → s' ≡ s → p ≡ root → m' ≡ m → slot ≡ after (after q d) 0 → u' ≡ u → Gets None s' m p (widened 0 1) → LeadsTo m p (a_struct q d k) → 1 ≤ k → Gets None m' w slot (widened 1 0) → LeadsTo w slot (object_of_struct o) → SetsBits w u' o 0 64 v → EditsRoot s u (with_inner_number v)
edited_at l s s' m m' w u u' p slot q d k o v es ep em eslot eu outer leads less inner to sets =
    let outer' : Gets None s m root (widened 0 1) = subst (λ (x : Segments). Gets None x m root (widened 0 1)) es (subst (λ (x : Place). Gets None s' m x (widened 0 1)) ep outer) in
    let leads' : LeadsTo m root (a_struct q d k) = subst (λ (x : Place). LeadsTo m x (a_struct q d k)) ep leads in
    let inner' : Gets None m w (after (after q d) 0) (widened 1 0) = subst (λ (x : Segments). Gets None x w (after (after q d) 0) (widened 1 0)) em (subst (λ (x : Place). Gets None m' w x (widened 1 0)) eslot inner) in
    let to' : LeadsTo w (after (after q d) 0) (object_of_struct o) = subst (λ (x : Place). LeadsTo w x (object_of_struct o)) eslot to in
    edited l s m w u q d k o v outer' leads' less inner' to' (subst (λ (x : Segments). SetsBits w x o 0 64 v) eu sets)
