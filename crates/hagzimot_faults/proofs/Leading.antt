-- Steps that lead from pointer to pointer.
use Rattle.std.proofs.Common.{◌≡◌, ℕ, ◌+◌, ◌*◌, ◌<◌, true, List, [], ◌∷◌, ◌++◌, Option, Some, None, Result, Ok, Err, IfOk, ap, sym, ◌∙◌, subst, inr, arith}
use Rattle.std.proofs.Common.{append_assoc, append-nil}
use Rattle.std.specs.Result.{result_ok}
use Rattle.std.specs.Option.{is_some}
use Rattle.capnp_model.specs.Kinds.{Kind}
use Rattle.capnp_model.specs.Chains.{◌>>=◌}
use Rattle.capnp_model.specs.Segments.{Segments, Place, place, root, after}
use Rattle.capnp_units.specs.declared.kinds.ErrorKind.{ErrorKind}
use Rattle.capnp_units.specs.declared.kinds.ErrorKind.TheVariants.{CapabilityInCanonical}
use Rattle.capnp_wire_objects.specs.declared.object.Object.{Object}
use Rattle.capnp_wire_objects.specs.declared.object.Object.TheVariants as object
use Rattle.capnp_wire_objects.specs.declared.object.Found.{Found}
use Rattle.capnp_wire_objects.specs.Places.{place_view}
use Rattle.capnp_wire_objects.specs.Objects.{object_at}
use Rattle.hagzimot_faults.specs.declared.steps.Step.{Step}
use Rattle.hagzimot_faults.specs.declared.steps.Step.TheVariants as step
use Rattle.hagzimot_faults.specs.declared.locate.Refused.{Refused}
use Rattle.hagzimot_faults.specs.declared.locate.Row.{Row}
use Rattle.hagzimot_faults.specs.declared.locate.Row.TheVariants as row
use Rattle.hagzimot_faults.specs.declared.locate.Elements.{Elements}
use Rattle.hagzimot_faults.specs.Located.{row_view, pointer_in, pointer_after, IsRefusedAt, LocatedFrom, LocatesAt, LocatesInside, LocatesInRow, LocatesInElements}

pub leads_on : (s : Segments) (p q : Place) (pads : ℕ) (o : Object) (x : Step) (more : List Step) (r : Place) → object_at s p ≡ Ok (record { pads = pads; object = o }) → pointer_in o x ≡ Some q → pointer_after s q more ≡ Some r → pointer_after s p (x ∷ more) ≡ Some r
unfolding pointer_after
leads_on s p q pads o x more r there inside leads =
    ap (λ (z : Result Found Kind). result_ok z >>= λ f. pointer_in f.object x >>= λ t. pointer_after s t more) there ∙ ap (λ (z : Option Place). z >>= λ t. pointer_after s t more) inside ∙ leads

-- What is found here.
pub here : (s : Segments) (p : Place) (old : List Step) (r : Refused) → place_view r.place ≡ p → IsRefusedAt s (place_view r.place) r.kind → LocatedFrom s p old r old
unfolding pointer_after
here s p old r at refused = record { more = []; appends = sym (append-nil old); leads = ap Some (sym at); refused = refused }

-- A capability is found here.
pub capability_here : (s : Segments) (p : Place) (pads index : ℕ) (o : Object) (old : List Step) (r : Refused) → object_at s p ≡ Ok (record { pads = pads; object = o }) → o ≡ object.Capability index → place_view r.place ≡ p → r.kind ≡ CapabilityInCanonical → LocatedFrom s p old r old
capability_here s p pads index o old r there is at kind =
    here s p old r at (inr (record { kind_is = kind; pads = pads; index = index; is = subst (λ (q : Place). object_at s q ≡ Ok (record { pads = pads; object = object.Capability index })) (sym at) (subst (λ (x : Object). object_at s p ≡ Ok (record { pads = pads; object = x })) is there) }))

-- What is found in the object is found from the pointer to it.
pub from_inside : (s : Segments) (p : Place) (pads : ℕ) (o : Object) (old : List Step) (found : Option Refused) (new : List Step) → object_at s p ≡ Ok (record { pads = pads; object = o }) → LocatesInside s o old found new → LocatesAt s p old found new
from_inside s p pads o old None new there h = h
from_inside s p pads o old (Some r) new there (x, q, inside, by) = record { more = x ∷ by.more; appends = by.appends; leads = leads_on s p q pads o x by.more _ there inside by.leads; refused = by.refused }

-- The same of what a call returned.
pub all_from_inside : {E : Type 0} (s : Segments) (p : Place) (pads : ℕ) (o : Object) (old : List Step) (r : Result (Option Refused) E) (new : List Step) → object_at s p ≡ Ok (record { pads = pads; object = o }) → IfOk r (λ found. LocatesInside s o old found new) → IfOk r (λ found. LocatesAt s p old found new)
all_from_inside s p pads o old (Ok found) new there h = from_inside s p pads o old found new there h
all_from_inside s p pads o old (Err e) new there h = h

-- What is found at a pointer of a row, behind the step to it.
pub in_row : (s : Segments) (first : Place) (n : ℕ) (of_row : Row) (i : ℕ) (old mid : List Step) (r : Refused) (new : List Step) → i < n → mid ≡ old ++ row_view of_row i ∷ [] → LocatedFrom s (after first i) mid r new → LocatesInRow s first n of_row old (Some r) new
in_row s first n of_row i old mid r new below pushed from =
    (i, below, record { more = from.more; appends = from.appends ∙ ap (λ (xs : List Step). xs ++ from.more) pushed ∙ append_assoc old (row_view of_row i ∷ []) from.more; leads = from.leads; refused = from.refused })

pub row_found : (s : Segments) (first : Place) (n : ℕ) (of_row : Row) (i : ℕ) (old mid : List Step) (found : Option Refused) (new : List Step) → is_some found ≡ true → i < n → mid ≡ old ++ row_view of_row i ∷ [] → LocatesAt s (after first i) mid found new → LocatesInRow s first n of_row old found new
row_found s first n of_row i old mid None new some below pushed h = absurd (cc some)
row_found s first n of_row i old mid (Some r) new some below pushed h = in_row s first n of_row i old mid r new below pushed h

-- What is found in the row of an element.
in_element : (s : Segments) (e : Elements) (i : ℕ) (old mid : List Step) (r : Refused) (new : List Step) → i < e.count → mid ≡ old → LocatesInRow s (place e.start.segment (e.start.position + i * (e.data_words + e.pointers) + e.data_words)) e.pointers (row.Element i) mid (Some r) new → LocatesInElements s e old (Some r) new
in_element s e i old mid r new below same (j, beside, by) =
    let p : e.start.position + i * (e.data_words + e.pointers) + e.data_words + j ≡ e.start.position + (i * (e.data_words + e.pointers) + e.data_words + j) = omega arith in (
      i,
      j,
      below,
      beside,
      record {
        more = by.more;
        appends = by.appends ∙ ap (λ (xs : List Step). xs ++ step.Element i j ∷ by.more) same;
        leads = subst (λ (m : ℕ). pointer_after s (place e.start.segment m) by.more ≡ Some (place_view r.place)) p by.leads;
        refused = by.refused;
      },
    )

pub element_found : (s : Segments) (e : Elements) (i : ℕ) (old mid : List Step) (found : Option Refused) (new : List Step) → is_some found ≡ true → i < e.count → mid ≡ old → LocatesInRow s (place e.start.segment (e.start.position + i * (e.data_words + e.pointers) + e.data_words)) e.pointers (row.Element i) mid found new → LocatesInElements s e old found new
element_found s e i old mid None new some below same h = absurd (cc some)
element_found s e i old mid (Some r) new some below same h = in_element s e i old mid r new below same h

-- The place of what is found from the root on.
pub root_found : (s : Segments) (found : Option Refused) (r : Refused) (kind : ErrorKind) (new : List Step) → found ≡ Some r → r.kind ≡ kind → LocatesAt s root [] found new → (pointer_after s root new ≡ Some (place_view r.place)) × IsRefusedAt s (place_view r.place) kind
root_found s found r kind new is same h =
    let from : LocatedFrom s root [] r new = subst (λ (o : Option Refused). LocatesAt s root [] o new) is h in
    (subst (λ (xs : List Step). pointer_after s root xs ≡ Some (place_view r.place)) (sym from.appends) from.leads, subst (λ (k : ErrorKind). IsRefusedAt s (place_view r.place) k) same from.refused)
