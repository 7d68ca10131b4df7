-- Walks over the first words of a value.
use Rattle.std.proofs.Common.{◌≡◌, ℕ, ◌+◌, ◌-◌, ◌^◌, ◌<◌, ◌≤◌, Bool, true, false, not, ◌||◌, leb, List, [], ◌∷◌, ◌++◌, Option, Some, Ok, Err, refl, sym, ◌∙◌, ap, subst, arith}
use Rattle.std.specs.Prelude.{IfSome}
use Rattle.std.proofs.lemmas.Bool.Decides.{nat_tests}
use Rattle.capnp_model.specs.Segments.{Segments, Place}
use Rattle.capnp_model.specs.Visits.{Visit, visits, visits_cost}
use Rattle.capnp_model.proofs.lemmas.Chaining.{bind_some, some_is}
use Rattle.capnp_units.specs.Errors.{kind_of}
use Rattle.capnp_units.specs.Limits.{limit_of, left_of, granted_of, Allows}
use Rattle.capnp_units.specs.declared.errors.Error.{Error}
use Rattle.capnp_units.specs.declared.kinds.ErrorKind.{ErrorKind}
use Rattle.capnp_units.specs.declared.kinds.ErrorKind.TheVariants.{ReadLimitExceeded}
use Rattle.capnp_units.specs.declared.limiter.ReadLimiter.{ReadLimiter}
use Rattle.capnp_wire_objects.specs.Walks.{Walked, Stopped, CannotPass}
use Rattle.hagzimot_salvage.specs.Roots.{is_limit, is_clear}
use Rattle.hagzimot_salvage.proofs.Refusals.{IsFault, Plain, AllPlain, plain_between, all_plain}

past : (n left : ℕ) → left < n → leb n left ≡ false
past n left h = grind (arith, nat_tests)

under : (n left : ℕ) → n ≤ left → leb n left ≡ true
under n left h = grind (arith, nat_tests)

less_is : (n least cost : ℕ) → leb (least - n) cost ≡ leb least (n + cost)
less_is n least cost = grind (arith, nat_tests)

-- visits that were paid for have no fault, and end
pub paid_clear : (vs : List Visit) (cost left least : ℕ) → visits_cost vs ≡ Some cost → cost ≤ left → is_clear left least vs ≡ leb least cost
paid_clear [] cost left least e le = ap (leb least) (some_is 0 cost e)
paid_clear (Err k ∷ vs) cost left least e le = absurd cc
paid_clear (Ok n ∷ vs) cost left least e le =
    let x = bind_some (visits_cost vs) _ cost e in
    let all : n + x.0 ≡ cost = some_is _ _ x.2 in
    ap (λ (b : Bool). not b || is_clear (left - n) (least - n) vs) (under n left (omega arith)) ∙ paid_clear vs x.0 (left - n) (least - n) x.1 (omega arith) ∙ less_is n least x.0 ∙ ap (leb least) all

-- behind visits that were paid for less is left
behind_paid : (before rest : List Visit) (paid left least : ℕ) → visits_cost before ≡ Some paid → paid ≤ left → is_clear left least (before ++ rest) ≡ is_clear (left - paid) (least - paid) rest
behind_paid [] rest paid left least e le =
    let none : 0 ≡ paid = some_is _ _ e in
    let same : left ≡ left - paid = omega arith in
    let still : least ≡ least - paid = omega arith in
    ap (λ m. is_clear m least rest) same ∙ ap (λ m. is_clear (left - paid) m rest) still
behind_paid (Err k ∷ before) rest paid left least e le = absurd cc
behind_paid (Ok n ∷ before) rest paid left least e le =
    let x = bind_some (visits_cost before) _ paid e in
    let all : n + x.0 ≡ paid = some_is _ _ x.2 in
    let fits : leb n left ≡ true = under n left (omega arith) in
    let same : left - n - x.0 ≡ left - paid = omega arith in
    let still : least - n - x.0 ≡ least - paid = omega arith in
    ap (λ (b : Bool). not b || is_clear (left - n) (least - n) (before ++ rest)) fits ∙ behind_paid before rest x.0 (left - n) (least - n) x.1 (omega arith) ∙ ap (λ m. is_clear m (least - n - x.0) rest) same
    ∙ ap (λ m. is_clear (left - paid) m rest) still

fault_is : (k : ErrorKind) → IsFault (kind_of k) → is_limit k ≡ false
fault_is ReadLimitExceeded h = absurd h
fault_is _ h = refl

stops : (before : List Visit) (last : Visit) (rest : List Visit) (paid limit least : ℕ) (kind : ErrorKind) → visits_cost before ≡ Some paid → paid ≤ limit → Plain last → CannotPass (Some limit) paid last kind → is_clear limit least (before ++ last ∷ rest) ≡ is_limit kind
stops before (Err k) rest paid limit least kind e le plain why = behind_paid before (Err k ∷ rest) paid limit least e le ∙ sym (fault_is kind (subst IsFault (sym why) plain))
stops before (Ok n) rest paid limit least kind e le plain why =
    let more : limit < paid + n = why.1 in
    behind_paid before (Ok n ∷ rest) paid limit least e le
    ∙ ap (λ (b : Bool). not b || is_clear (limit - paid - n) (least - paid - n) rest) (past n (limit - paid) (omega arith)) ∙ sym (ap is_limit why.0)

-- a walk that is refused meets a fault, or is at the end of its budget
pub stopped_is : (limit least n : ℕ) (s : Segments) (p : Place) (old new : ReadLimiter) (e : Error) → left_of old ≡ Some limit → Stopped (visits n s p) old e new → is_clear limit least (visits n s p) ≡ is_limit e.kind
stopped_is limit least n s p old new e all stop =
    let plain = plain_between stop.before stop.last stop.behind (subst AllPlain stop.path_is (all_plain n s p)) in
    let le : stop.paid ≤ limit = subst (λ (o : Option ℕ). Allows o stop.paid) all stop.spends.allowed in
    ap (is_clear limit least) stop.path_is ∙ stops stop.before stop.last stop.behind stop.paid limit least e.kind stop.cost_is le plain (subst (λ (o : Option ℕ). CannotPass o stop.paid stop.last e.kind) all stop.why)

-- a walk to the end costs what was granted
pub walked_is : (limit least : ℕ) (vs : List Visit) (old new : ReadLimiter) → limit < 2 ^ 32 → limit_of old ≡ Some limit → left_of old ≡ Some limit → granted_of old ≡ 0 → IfSome (limit_of new) (λ most. granted_of new ≤ most) → Walked vs old new → is_clear limit least vs ≡ leb least (granted_of new)
walked_is limit least vs old new small limited all none most walked =
    let le : walked.cost ≤ limit = subst (λ (o : Option ℕ). Allows o walked.cost) all walked.spends.allowed in
    let granted = walked.spends.granted in
    let within : granted_of new ≤ limit = subst (λ (o : Option ℕ). IfSome o (λ m. granted_of new ≤ m)) (walked.spends.limit ∙ limited) most in
    let same : walked.cost ≡ granted_of new = omega (arith, granted, none) in
    paid_clear vs walked.cost limit least walked.cost_is le ∙ ap (leb least) same
