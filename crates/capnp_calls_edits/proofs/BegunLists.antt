-- The list that a call goes through, readied: a default in place of null, and structs of their schema's sizes.
use Rattle.std.proofs.Common.{◌≡◌, ℕ, List, Option, Some, None, Ok, refl, sym, subst, ap, ◌∙◌}
use Rattle.std.specs.Bool.{⊤}
use Rattle.capnp_model.specs.Segments.{Segments, Place}
use Rattle.capnp_model.specs.Trees.{Tree, null, capability, structure, plain_list, pointer_list, struct_list}
use Rattle.capnp_model.specs.Schemas.{Ty, void, plain, text, blob, untyped, interface, struct, list, Shape, shape, Schema, words_of_shape, pointers_of_shape}
use Rattle.capnp_model.specs.Edits.{widened_list, as_list}
use Rattle.capnp_copy_widening.specs.MovedElements.{as_structs}
use Rattle.capnp_copy_widening.specs.WidenedLists.{WidensList}
use Rattle.capnp_layout_builders.specs.Gets.{Begins, Gets}
use Rattle.capnp_layout_builders.proofs.lemmas.Begun.{Laws, made_then, listed_then}
use Rattle.capnp_schema_structs.specs.Inits.{struct_named}

shaped : (g : Shape) (d k : ℕ) → d ≡ words_of_shape g → k ≡ pointers_of_shape g → (t : Tree) → as_structs d k t ≡ widened_list g t
shaped (shape nid w p u fs) d k ed ek null = refl
shaped (shape nid w p u fs) d k ed ek (capability i) = refl
shaped (shape nid w p u fs) d k ed ek (structure x y ts) = refl
shaped (shape nid w p u fs) d k ed ek (plain_list size n x) = rw (ed, ek) refl
shaped (shape nid w p u fs) d k ed ek (pointer_list ts) = rw (ed, ek) refl
shaped (shape nid w p u fs) d k ed ek (struct_list a b es) = rw (ed, ek) refl

as_structs_of : (s : Schema) (ty : Ty) (id d k : ℕ) → struct_named ty ≡ Some id → d ≡ words_of_shape (s.shape_of id) → k ≡ pointers_of_shape (s.shape_of id) → (t : Tree) → as_structs d k t ≡ as_list s ty t
as_structs_of s void id d k e ed ek t = absurd (cc e)
as_structs_of s (plain p) id d k e ed ek t = absurd (cc e)
as_structs_of s text id d k e ed ek t = absurd (cc e)
as_structs_of s blob id d k e ed ek t = absurd (cc e)
as_structs_of s untyped id d k e ed ek t = absurd (cc e)
as_structs_of s interface id d k e ed ek t = absurd (cc e)
as_structs_of s (struct j) id d k e ed ek t =
    let same : j ≡ id = cc e in
    shaped (s.shape_of id) d k ed ek t ∙ ap (λ i. widened_list (s.shape_of i) t) (sym same)
as_structs_of s (list ty) id d k e ed ek t = absurd (cc e)

as_it_is : (s : Schema) (ty : Ty) → struct_named ty ≡ None → (t : Tree) → t ≡ as_list s ty t
as_it_is s void e t = refl
as_it_is s (plain p) e t = refl
as_it_is s text e t = refl
as_it_is s blob e t = refl
as_it_is s untyped e t = refl
as_it_is s interface e t = refl
as_it_is s (struct j) e t = absurd (cc e)
as_it_is s (list ty) e t = refl

module _ (l : Laws) (default : Option (List (List ℕ))) (s m : Segments) (p : Place) (x : ⊤) (b : Begins default s m p (Ok x)) (around : Schema) (ty : Ty) where
  pub structs_value : (u : Segments) (id d k : ℕ) → struct_named ty ≡ Some id → d ≡ words_of_shape (around.shape_of id) → k ≡ pointers_of_shape (around.shape_of id) → WidensList m u p d k → Gets default s u p (as_list around ty)
  structs_value u id d k e ed ek w =
      subst (λ (f : Tree → Tree). Gets default s u p f) (λ j t. as_structs_of around ty id d k e ed ek t j)
      (made_then l default s m u p (as_structs d k) x b w)

  pub other_value : struct_named ty ≡ None → Gets default s m p (as_list around ty)
  other_value e = subst (λ (f : Tree → Tree). Gets default s m p f) (λ j t. as_it_is around ty e t j) (listed_then l default s m p x b)
