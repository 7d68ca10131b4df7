-- The value to begin with is the one that the model opens: null as its default.
use Rattle.std.proofs.Common.{◌≡◌, ℕ, Bool, true, false, List, Option, Some, None, refl, sym, ap, ◌∙◌}
use Rattle.capnp_model.specs.Segments.{Segments, Place, root}
use Rattle.capnp_model.specs.Trees.{Tree, null, capability, structure, plain_list, pointer_list, struct_list}
use Rattle.capnp_model.specs.Traversal.{tree_at}
use Rattle.capnp_model.specs.Schemas.{Ty}
use Rattle.capnp_model.specs.Edits.{opened_tree}
use Rattle.capnp_model.proofs.lemmas.Chaining.{some_is}
use Rattle.capnp_copy_values.specs.Defaults.{default_segments, is_null_or_absent}
use Rattle.capnp_layout_builders.specs.Gets.{in_place, begun}
use Rattle.capnp_schema_structs.proofs.lemmas.NullMembers.{null_at, null_value}
use Rattle.capnp_model.proofs.lemmas.EveryPath.{opened_null}
use Rattle.capnp_calls_edits.specs.Written.{HoldsDefaultOrNull}

-- ---- the value to begin with

same_opened : (ty : Ty) (d t : Tree) → (t ≡ null → ⊥) → opened_tree ty d t ≡ t
same_opened ty d null h = absurd (h refl)
same_opened ty d (capability i) h = refl
same_opened ty d (structure w x ts) h = refl
same_opened ty d (plain_list size k x) h = refl
same_opened ty d (pointer_list ts) h = refl
same_opened ty d (struct_list w p es) h = refl

module _ (ty : Ty) (n : ℕ) (s : Segments) (p : Place) (t : Tree) (read : tree_at n s p ≡ Some t) (d v : Tree) where
  by_words : (f : Segments) (a b : Bool) → is_null_or_absent s p ≡ a → is_null_or_absent f root ≡ b → tree_at 64 f root ≡ Some d → in_place a b f t ≡ Some v → v ≡ opened_tree ty d t
  by_words f false b ea eb h e = some_is v t (sym e) ∙ sym (same_opened ty d t (λ z. (let no : true ≡ false = sym (null_at n s p (read ∙ ap (λ x. Some x) z)) ∙ ea in cc)))
  by_words f true true ea eb h e =
      let none : t ≡ null = null_value n s p t read ea in
      let empty : d ≡ null = null_value 64 f root d h eb in
      some_is v t (sym e) ∙ sym (opened_null ty t) ∙ ap (λ x. opened_tree ty x t) (sym empty)
  by_words f true false ea eb h e =
      let none : t ≡ null = null_value n s p t read ea in
      some_is v d (sym e ∙ h) ∙ ap (λ x. opened_tree ty d x) (sym none)

  pub begun_opened : (default : Option (List (List ℕ))) → HoldsDefaultOrNull default d → begun default s p t ≡ Some v → v ≡ opened_tree ty d t
  begun_opened None h e = some_is v t (sym e) ∙ sym (opened_null ty t) ∙ ap (λ x. opened_tree ty x t) (sym h)
  begun_opened (Some words) h e = by_words (default_segments words) (is_null_or_absent s p) (is_null_or_absent (default_segments words) root) refl refl h e
