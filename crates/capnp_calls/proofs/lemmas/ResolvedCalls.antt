-- Calls among those that are resolved.
use Rattle.std.proofs.Common.{◌≡◌, ℕ, zero, suc, Some, List, [], ◌∷◌, ◌++◌, refl, ap, sym, subst}
use Rattle.std.specs.Prelude.{map, slice_get}
use Rattle.capnp_model.specs.CallRuns.{AreGiven}
use Rattle.capnp_values_queries.specs.declared.structs.StructSchema.{StructSchema}
use Rattle.capnp_calls.specs.CallViews.{call_view}
use Rattle.capnp_calls.specs.Resolved.{calls_of, IsResolved, AreResolved, KnowsSplice, KnowSplices}
use Rattle.capnp_calls.specs.declared.resolved.Resolved.{Resolved}
use Rattle.capnp_calls.proofs.GivenCalls.{given_calls}

pub one_more : (root : StructSchema) (rs : List Resolved) (r : Resolved) → AreResolved root rs → IsResolved root r → AreResolved root (rs ++ r ∷ [])
one_more root [] r each is = (is, tt)
one_more root (q ∷ rs) r each is = (each.0, one_more root rs r each.1 is)

pub call_at : (root : StructSchema) (rs : List Resolved) (i : ℕ) (r : Resolved) → AreResolved root rs → slice_get rs i ≡ Some r → IsResolved root r
call_at root [] i r each at = absurd (cc at)
call_at root (q ∷ rs) zero r each at = let is : q ≡ r = cc at in subst (λ (x : Resolved). IsResolved root x) is each.0
call_at root (q ∷ rs) (suc i) r each at = call_at root rs i r each.1 at

-- What they put into canonical words.
pub one_known : (root : StructSchema) (rs : List Resolved) (r : Resolved) → KnowSplices root rs → KnowsSplice root r → KnowSplices root (rs ++ r ∷ [])
one_known root [] r each is = (is, tt)
one_known root (q ∷ rs) r each is = (each.0, one_known root rs r each.1 is)

pub known_at : (root : StructSchema) (rs : List Resolved) (i : ℕ) (r : Resolved) → KnowSplices root rs → slice_get rs i ≡ Some r → KnowsSplice root r
known_at root [] i r each at = absurd (cc at)
known_at root (q ∷ rs) zero r each at = let is : q ≡ r = cc at in subst (λ (x : Resolved). KnowsSplice root x) is each.0
known_at root (q ∷ rs) (suc i) r each at = known_at root rs i r each.1 at

calls_given : (rs : List Resolved) → calls_of rs ≡ map call_view (map (λ (r : Resolved). r.call.now) rs)
calls_given [] = refl
calls_given (r ∷ rs) = ap (λ cs. call_view r.call.now ∷ cs) (calls_given rs)

-- What they set are values of their sorts.
pub given_resolved : (rs : List Resolved) → AreGiven (calls_of rs)
given_resolved rs = subst AreGiven (sym (calls_given rs)) (given_calls (map (λ (r : Resolved). r.call.now) rs))
