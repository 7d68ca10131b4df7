-- Why copies are refused, from what they call.
use Rattle.std.specs.Bool.{⊤}
use Rattle.std.proofs.Common.{◌≡◌, ◌⊎◌, ℕ, suc, ◌+◌, ◌-◌, ◌*◌, ◌<◌, List, [], ◌∷◌, ◌++◌, Result, Ok, Err, ap, sym, ◌∙◌, subst, inl, inr}
use Rattle.std.proofs.lemmas.List.{append-nil}
use Rattle.capnp_model.specs.Segments.{Segments, Place, after}
use Rattle.capnp_model.specs.Coverage.{from_each, from_elements}
use Rattle.capnp_model.specs.Visits.{Visit, visits}
use Rattle.capnp_units.specs.declared.errors.Error.{Error}
use Rattle.capnp_units.specs.declared.limiter.ReadLimiter.{ReadLimiter}
use Rattle.capnp_wire_objects.specs.declared.object.Object.{Object}
use Rattle.capnp_wire_objects.specs.Follow.{own_cost, Pays}
use Rattle.capnp_wire_objects.specs.Inside.{met_in}
use Rattle.capnp_wire_objects.specs.Walks.{Walked, Stopped}
use Rattle.capnp_wire_objects.proofs.lemmas.LevelLaws.{visited}
use Rattle.capnp_wire_objects.proofs.lemmas.Rows.{met_next, elements_met_next}
use Rattle.capnp_wire_objects.proofs.lemmas.Walks.{stopped_later}
use Rattle.capnp_copy_values.specs.Copies.{IsStoppedOr}
use Rattle.capnp_copy_values.proofs.Following.{paid_walk}
use Rattle.capnp_copy_values.proofs.Rows.{RowSoFar}
use Rattle.capnp_copy_values.proofs.Elements.{ElementsSoFar}

-- a refusal that is passed on
pub told_err : (path : List Visit) (old new : ReadLimiter) (told : Error → Type 0) (r : Result ⊤ Error) (d e : Error) → r ≡ Err d → d ≡ e → Stopped path old e new ⊎ told e → IsStoppedOr path old new told r
told_err path old new told r d e is same h =
    subst (λ (y : Result ⊤ Error). IsStoppedOr path old new told y) (sym (is ∙ ap (λ (y : Error). Err y) same)) h

-- behind visits that were made
pub told_behind : (a b path more : List Visit) (old mid new : ReadLimiter) (told : Error → Type 0) (e : Error) → path ≡ a ++ (b ++ more) → Walked a old mid → Stopped b mid e new ⊎ told e → Stopped path old e new ⊎ told e
told_behind a b path more old mid new told e is w (inl x) = inl (stopped_later a b path more old mid new e is w x)
told_behind a b path more old mid new told e is w (inr x) = inr x

told_later : (a b path more : List Visit) (old mid new : ReadLimiter) (told : Error → Type 0) (r : Result ⊤ Error) → path ≡ a ++ (b ++ more) → Walked a old mid → IsStoppedOr b mid new told r → IsStoppedOr path old new told r
told_later a b path more old mid new told (Ok x) is w h = tt
told_later a b path more old mid new told (Err e) is w h = told_behind a b path more old mid new told e is w h

-- at a place
pub deep_told : (n m : ℕ) (from : Segments) (p : Place) (o : Object) (old mid new : ReadLimiter) (told : Error → Type 0) (r : Result ⊤ Error) → n ≡ suc m → (x : Pays from p old o mid) → IsStoppedOr (met_in (visits m from) o) mid new told r → IsStoppedOr (visits n from p) old new told r
deep_told n m from p o old mid new told r z x h =
    let path : List Visit = met_in (visits m from) o in
    let whole : visits (suc m) from p ≡ Ok (x.pads + own_cost o) ∷ (met_in (visits m from) o ++ []) = visited m from p (record { pads = x.pads; object = o }) x.is ∙ ap (λ (vs : List Visit). Ok (x.pads + own_cost o) ∷ vs) (sym (append-nil path)) in
    subst (λ (k : ℕ). IsStoppedOr (visits k from p) old new told r) (sym z)
    (told_later (Ok (x.pads + own_cost o) ∷ []) (met_in (visits m from) o) (visits (suc m) from p) [] old mid new told r whole (paid_walk from p old mid o x) h)

-- in a row
pub row_told : (levels : ℕ) (from : Segments) (p : Place) (k : ℕ) (s : Segments) (r : Place) (d : ℕ) (l : ReadLimiter) (i : ℕ) (u : Segments) (m m' : ReadLimiter) (told : Error → Type 0) (e : Error) → i < k → RowSoFar levels from p k i s u r d l m → Stopped (visits levels from (after p i)) m e m' ⊎ told e → Stopped (from_each (visits levels from) p k) l e m' ⊎ told e
row_told levels from p k s r d l i u m m' told e in_row so h =
    told_behind so.past (visits levels from (after p i)) (from_each (visits levels from) p k) (from_each (visits levels from) (after p (i + 1)) (k - (i + 1))) l m m' told e
    (so.path_is ∙ ap (λ (vs : List Visit). so.past ++ vs) (met_next p i k in_row (visits levels from))) so.walked h

-- in a list
pub elements_told : (levels : ℕ) (from : Segments) (p : Place) (ws : List ℕ) (d k count : ℕ) (s : Segments) (r : Place) (l : ReadLimiter) (i : ℕ) (u : Segments) (m m' : ReadLimiter) (told : Error → Type 0) (e : Error) → i < count → ElementsSoFar levels from p ws d k count i s u r l m → Stopped (from_each (visits levels from) (after (after p (i * (d + k))) d) k) m e m' ⊎ told e → Stopped (from_elements (visits levels from) p d k count) l e m' ⊎ told e
elements_told levels from p ws d k count s r l i u m m' told e in_row so h =
    told_behind so.past (from_each (visits levels from) (after (after p (i * (d + k))) d) k) (from_elements (visits levels from) p d k count) (from_elements (visits levels from) (after p ((i + 1) * (d + k))) d k (count - (i + 1))) l m m' told e
    (so.path_is ∙ ap (λ (vs : List Visit). so.past ++ vs) (elements_met_next p d k i count in_row (visits levels from))) so.walked h
