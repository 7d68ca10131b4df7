-- No members share the slot of a field or of a discriminant.
use Rattle.std.proofs.Common.{◌≡◌, ℕ, Option, None, Some, List, [], ◌∷◌, ◌++◌, All, AllPairs, refl, sym, subst}
use Rattle.std.proofs.lemmas.List.Elements.{All-nil, All-cons, All-append}
use Rattle.capnp_source_layout.specs.declared.slots.Slot.{Slot}
use Rattle.capnp_source_layout.specs.declared.structs.FieldSize.TheVariants as F
use Rattle.capnp_source_layout.specs.declared.structs.Layout.{Layout}
use Rattle.capnp_source_layout.specs.declared.structs.Scope.{Scope}
use Rattle.capnp_source_layout.specs.declared.structs.Scope.TheVariants as S
use Rattle.capnp_source_layout.specs.declared.structs.Step.{Step}
use Rattle.capnp_source_layout.specs.declared.structs.Step.TheVariants as T
use Rattle.capnp_source_layout.specs.Certificates.{Extends, AreChecked}
use Rattle.capnp_source_layout.specs.Slots.{slot_of, field_slots, discriminant_slot, discriminant_slots, slots_of, data_slot, IsInside, AreApart, IsLaidOut}
use Rattle.capnp_source_layout.proofs.Apart.{apart}

abbrev Own : Slot → Type 0
Own s = s.shared_by ≡ None

own_slot : (words : ℕ) (step : Step) (offset : ℕ) → Own (slot_of words step offset)
own_slot words (T.Field scope F.Void) offset = refl
own_slot words (T.Field scope (F.Data size)) offset = refl
own_slot words (T.Field scope F.Pointer) offset = refl
own_slot words (T.Discriminant union) offset = refl

own_fields : (words : ℕ) (steps : List Step) (offsets : List ℕ) → All Own (field_slots words steps offsets)
own_fields words [] offsets = All-nil Own
own_fields words (step ∷ steps) [] = All-nil Own
own_fields words (step ∷ steps) (offset ∷ offsets) = All-cons Own (slot_of words step offset) (field_slots words steps offsets) (own_slot words step offset) (own_fields words steps offsets)

own_discriminant : (scope : Scope) (discriminant : Option ℕ) → All Own (discriminant_slot scope discriminant)
own_discriminant (S.Union parent) (Some offset) = All-cons Own (data_slot parent 16 offset) [] refl (All-nil Own)
own_discriminant (S.Union parent) None = All-nil Own
own_discriminant S.Struct discriminant = All-nil Own
own_discriminant (S.Member union) discriminant = All-nil Own

own_discriminants : (scopes : List Scope) (discriminants : List (Option ℕ)) → All Own (discriminant_slots scopes discriminants)
own_discriminants [] discriminants = All-nil Own
own_discriminants (scope ∷ scopes) [] = All-nil Own
own_discriminants (scope ∷ scopes) (discriminant ∷ discriminants) = All-append Own (discriminant_slot scope discriminant) (discriminant_slots scopes discriminants) (own_discriminant scope discriminant) (own_discriminants scopes discriminants)

pub own : (scopes : List Scope) (steps : List Step) (layout : Layout) → All (λ s. s.shared_by ≡ None) (slots_of scopes steps layout)
own scopes steps layout = All-append Own (field_slots layout.data_words steps layout.offsets.items) (discriminant_slots scopes layout.discriminants.items) (own_fields layout.data_words steps layout.offsets.items) (own_discriminants scopes layout.discriminants.items)

-- a layout whose slots are inside, and were checked with the places of unions after them
pub laid_out : (scopes : List Scope) (steps : List Step) (layout : Layout) (mine slots : List Slot) → mine ≡ slots_of scopes steps layout → All (IsInside layout.data_words layout.pointers) mine → Extends mine slots → (numbers places : List ℕ) × AreChecked scopes slots numbers places → IsLaidOut scopes steps layout
laid_out scopes steps layout mine slots same inside longer c =
    let free : All (λ s. s.shared_by ≡ None) mine = subst (All (λ (s : Slot). s.shared_by ≡ None)) (sym same) (own scopes steps layout) in
    record {
      inside = subst (All (IsInside layout.data_words layout.pointers)) same inside;
      apart = subst (AllPairs (AreApart scopes)) same (apart scopes mine slots c.0 c.1 longer free c.2);
    }
