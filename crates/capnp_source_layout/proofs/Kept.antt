-- What stays from one draft to the next.
use Rattle.std.proofs.Common.{◌≡◌, ℕ, zero, suc, Option, Some, None, List, [], ◌∷◌, ◌++◌, get_or, set, refl, sym, ap, ◌∙◌, append_assoc, arith, subst, ◌≤◌}
use Rattle.capnp_source_layout.specs.declared.draft.Draft.{Draft}
use Rattle.capnp_source_layout.specs.declared.levels.Sections.{Sections}
use Rattle.capnp_source_layout.specs.declared.structs.Layout.{Layout}
use Rattle.capnp_source_layout.specs.Drafts.{Keeps, BeginsWith, MovesNone, IsLayoutOf, KeepsSlots}

pub kept : (xs : List (Option ℕ)) → Keeps xs xs
kept xs union offset e = e

pub kept_then : (a b c : List (Option ℕ)) → Keeps a b → Keeps b c → Keeps a c
kept_then a b c first second union offset e = second union offset (first union offset e)

-- a discriminant comes where there was none
pub kept_put : (xs : List (Option ℕ)) (at new : ℕ) → get_or xs at None ≡ None → Keeps xs (set xs at (Some new))
kept_put [] at new none union offset e = e
kept_put (x ∷ xs) zero new none zero offset e = cc
kept_put (x ∷ xs) zero new none (suc union) offset e = e
kept_put (x ∷ xs) (suc at) new none zero offset e = e
kept_put (x ∷ xs) (suc at) new none (suc union) offset e = kept_put xs at new none union offset e

none_more : (xs : List ℕ) → xs ≡ xs ++ []
none_more [] = refl
none_more (x ∷ xs) = ap (λ ys. x ∷ ys) (none_more xs)

pub moves_none : (draft : Draft) → MovesNone draft draft
moves_none draft = record { offsets = ([], none_more draft.offsets.items); discriminants = kept draft.discriminants.items; words = omega arith; pointers = omega arith }

-- one step more
pub moves_on : (a b c : Draft) → MovesNone a b → MovesNone b c → MovesNone a c
moves_on a b c first second = record {
  offsets = (first.offsets.0 ++ second.offsets.0, second.offsets.1 ∙ ap (λ xs. xs ++ second.offsets.0) first.offsets.1 ∙ append_assoc a.offsets.items first.offsets.0 second.offsets.0);
  discriminants = kept_then a.discriminants.items b.discriminants.items c.discriminants.items first.discriminants second.discriminants;
  words = omega (arith, first.words, second.words);
  pointers = omega (arith, first.pointers, second.pointers);
}

-- the next offset comes behind the others
pub step_moves_none : (old mid new : Draft) (offset : ℕ) → mid.offsets.items ≡ old.offsets.items → Keeps old.discriminants.items mid.discriminants.items → old.sections.words ≤ mid.sections.words → old.sections.pointers ≤ mid.sections.pointers → new.offsets.items ≡ mid.offsets.items ++ offset ∷ [] → new.discriminants.items ≡ mid.discriminants.items → new.sections ≡ mid.sections → MovesNone old new
step_moves_none old mid new offset o d w p pushed same sections = record {
  offsets = (offset ∷ [], pushed ∙ ap (λ xs. xs ++ offset ∷ []) o);
  discriminants = subst (Keeps old.discriminants.items) (sym same) d;
  words = subst (λ (s : Sections). old.sections.words ≤ s.words) (sym sections) w;
  pointers = subst (λ (s : Sections). old.sections.pointers ≤ s.pointers) (sym sections) p;
}

-- the layouts of drafts of which the second moves none of the first
pub keeps_slots : (a b : Draft) (older newer : Layout) → MovesNone a b → IsLayoutOf a older → IsLayoutOf b newer → KeepsSlots older newer
keeps_slots a b older newer moved x y = record {
  offsets = (moved.offsets.0, y.offsets ∙ moved.offsets.1 ∙ ap (λ xs. xs ++ moved.offsets.0) (sym x.offsets));
  discriminants = subst (λ xs. Keeps xs newer.discriminants.items) (sym x.discriminants) (subst (Keeps a.discriminants.items) (sym y.discriminants) moved.discriminants);
  words = omega (arith, moved.words, x.words, y.words);
  pointers = omega (arith, moved.pointers, x.pointers, y.pointers);
}
