-- Fields that are found by their names: their defaults, and what they are members of.
use Rattle.std.proofs.Common.{◌≡◌, ℕ, zero, suc, Bool, true, false, if◌then◌else◌, Option, Some, None, option_map, List, refl, ap, sym, subst, ◌∙◌}
use Rattle.std.specs.Prelude.{IfSome}
use Rattle.std.specs.Str.{bytes_eq}
use Rattle.capnp_model.specs.Printing.{fields_in}
use Rattle.capnp_model.specs.Schemas.{Shape, Fields, no_fields, field, Body, void_slot, plain_slot, pointer_slot, group_slot}
use Rattle.capnp_model.specs.Steps.{target, target_if, target_of}
use Rattle.capnp_values.proofs.lemmas.PlainDefaults.{default_fits}
use Rattle.capnp_values_queries.specs.Fields.{Entry, field_at, place_of_name, union_in}
use Rattle.capnp_values_queries.specs.Handles.{entry_of_field}
use Rattle.capnp_values_queries.specs.Structs.{nodes_around, id_of}
use Rattle.capnp_values_queries.specs.declared.fields.Field.{Field}
use Rattle.capnp_calls_splice.specs.declared.plain.PlainSet.{PlainSet}
use Rattle.capnp_calls.specs.Hops.{IsAlone, HasSmallDefault, MarksTarget, MarksEntry, MarksNamed}

-- The default of a plain slot is of the slot's width.
pub small_default : (f : Field) (b : Body) → option_map (λ (e : Entry). e.body) (entry_of_field f) ≡ Some b → HasSmallDefault b
small_default f (void_slot j) is = tt
small_default f (plain_slot q at d) is = default_fits (nodes_around f.parent) f.parent.set.now.accepted (id_of f.parent) f.index q at d is
small_default f (pointer_slot i ty d) is = tt
small_default f (group_slot g) is = tt

abbrev member_at : Fields → ℕ → Option (Option ℕ)
member_at fs i = option_map (λ (e : Entry). e.member) (field_at fs i)

-- The field at the first index of a name is what the name finds.
pub alone_named : (n : List ℕ) (fs : Fields) (i : ℕ) → Some i ≡ place_of_name n fs → member_at fs i ≡ Some None → IsAlone (target_of n fs)
alone_named n no_fields i place is = absurd cc
alone_named n (field m member body fs) i place is = by (bytes_eq m n) (alone_named n fs) (place_of_name n fs) refl i place is
  where
    by : (t : Bool) → ((j : ℕ) → Some j ≡ place_of_name n fs → member_at fs j ≡ Some None → IsAlone (target_of n fs)) → (o : Option ℕ) → place_of_name n fs ≡ o
        → (j : ℕ) → Some j ≡ (if t then Some 0 else option_map (λ k. suc k) o) → member_at (field m member body fs) j ≡ Some None → IsAlone (target_if t (target member body) (target_of n fs))
    by true again o at zero h here = let same : member ≡ None = cc here in subst (λ (x : Option ℕ). IsAlone (target x body)) (sym same) tt
    by true again o at (suc j) h here = absurd cc
    by false again None at j h here = absurd cc
    by false again (Some k) at zero h here = absurd cc
    by false again (Some k) at (suc j) h here = let same : j ≡ k = cc in again j (ap (λ (x : ℕ). Some x) same ∙ sym at) here

-- So the discriminant of that field is that of what the name finds.
marks_named : (n : List ℕ) (fs : Fields) (i : ℕ) (union : Option ℕ) (mark : PlainSet) → Some i ≡ place_of_name n fs → MarksEntry mark union (field_at fs i) → MarksTarget mark union (target_of n fs)
marks_named n no_fields i union mark place is = absurd cc
marks_named n (field m member body fs) i union mark place is = by (bytes_eq m n) (λ j. marks_named n fs j union mark) (place_of_name n fs) refl i place is
  where
    by : (t : Bool) → ((j : ℕ) → Some j ≡ place_of_name n fs → MarksEntry mark union (field_at fs j) → MarksTarget mark union (target_of n fs)) → (o : Option ℕ) → place_of_name n fs ≡ o
        → (j : ℕ) → Some j ≡ (if t then Some 0 else option_map (λ k. suc k) o) → MarksEntry mark union (field_at (field m member body fs) j) → MarksTarget mark union (target_if t (target member body) (target_of n fs))
    by true again o at zero h here = here
    by true again o at (suc j) h here = absurd cc
    by false again None at j h here = absurd cc
    by false again (Some k) at zero h here = absurd cc
    by false again (Some k) at (suc j) h here = let same : j ≡ k = cc in again j (ap (λ (x : ℕ). Some x) same ∙ sym at) here

pub marked_if : (n : List ℕ) (g : Shape) (i : ℕ) (o : Option PlainSet) → Some i ≡ place_of_name n (fields_in g) → IfSome o (λ mark. MarksEntry mark (union_in g) (field_at (fields_in g) i)) → IfSome o (λ mark. MarksNamed mark g n)
marked_if n g i None place h = tt
marked_if n g i (Some mark) place h = marks_named n (fields_in g) i (union_in g) mark place h
