-- What is put where a path ends.
use Rattle.std.proofs.Common.{◌≡◌, true, Option, None, Some, Result, Ok, Err, inl, inr}
use Rattle.std.specs.Prelude.{IfOk, IfSome}
use Rattle.capnp_units.specs.declared.errors.Error.{Error}
use Rattle.capnp_model.specs.Calls.{CallValue, set_to}
use Rattle.capnp_model.specs.InKindCalls.{at_slot, at_value}
use Rattle.capnp_model.specs.Schemas.{Ty, Body}
use Rattle.capnp_calls.specs.Hops.{IsElementOf, SetsEnd}
use Rattle.capnp_calls.specs.Splices.{IsPutOf, IsNumberOf}
use Rattle.capnp_calls.specs.declared.splices.Course.{Course}
use Rattle.capnp_calls.specs.declared.splices.ListPlace.{ListPlace}
use Rattle.capnp_calls_splice.specs.declared.plain.PlainSet.{PlainSet}
use Rattle.capnp_calls_splice.specs.declared.splice.Put.{Put}
use Rattle.capnp_calls_splice.specs.declared.splice.Put.TheVariants as puts

module _ (course : Course) (body : Body) (v : CallValue) where
  -- A member.
  pub member_put : (m : PlainSet) (o : Option Put) → course.mark ≡ Some m → IfSome o (λ put. (p : Option PlainSet) × (put ≡ puts.Member m p) × IsNumberOf p body v) → IfSome o (λ put. SetsEnd put course (at_slot body) (set_to v))
  member_put m None is h = tt
  member_put m (Some put) is h = inr (inl (m, h.0, is, h.1, h.2))

  one_put : (o : Option Put) → course.is_straight ≡ true → IfSome o (λ put. IsPutOf put body v) → IfSome o (λ put. SetsEnd put course (at_slot body) (set_to v))
  one_put None on h = tt
  one_put (Some put) on h = inl (on, h)

  -- Another field.
  pub plain_put : (r : Result (Option Put) Error) → course.is_straight ≡ true → IfOk r (λ o. IfSome o (λ put. IsPutOf put body v)) → IfOk r (λ o. IfSome o (λ put. SetsEnd put course (at_slot body) (set_to v)))
  plain_put (Ok o) on h = one_put o on h
  plain_put (Err e) on h = tt

module _ (course : Course) (place : ListPlace) (ty : Ty) (v : CallValue) (is : course.element ≡ Some place) where
  into_put : (o : Option Put) → IfSome o (λ put. IsElementOf put place ty v) → IfSome o (λ put. SetsEnd put course (at_value ty) (set_to v))
  into_put None h = tt
  into_put (Some put) h = inr (inr (place, is, h))

  -- An element of a list.
  pub element_put : (r : Result (Option Put) Error) → IfOk r (λ o. IfSome o (λ put. IsElementOf put place ty v)) → IfOk r (λ o. IfSome o (λ put. SetsEnd put course (at_value ty) (set_to v)))
  element_put (Ok o) h = into_put o h
  element_put (Err e) h = tt
