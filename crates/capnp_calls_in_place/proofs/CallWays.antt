-- Calls that set slots along paths, and the splices of calls in turn.
use Rattle.std.proofs.Common.{◌≡◌, ℕ, zero, suc, ◌+◌, ◌<◌, ◌≤◌, Bool, true, false, ◌&&◌, Option, Some, None, List, [], ◌∷◌, ◌++◌, length, Result, Ok, Err, IfOk, IfErr, refl, ap, sym, subst, ◌∙◌, arith, Bor}
use Rattle.std.specs.Prelude.{IfSome, ⊤, is_some, not, slice_get, option_copied}
use Rattle.capnp_model.specs.Printing.{as_it_is}
use Rattle.capnp_model.specs.Calls.{Step, Verb, set_to, CallValue, Call}
use Rattle.capnp_model.proofs.lemmas.ReachedStructs.{IsWithin}
use Rattle.capnp_model.proofs.lemmas.SoundSizes.{accepted_sound}
use Rattle.capnp_values_queries.specs.Structs.{nodes_around, schema_around, shape_of_struct, id_of}
use Rattle.capnp_values_queries.specs.declared.structs.StructSchema.{StructSchema}
use Rattle.capnp_calls.specs.Splices.{PathLeadsTo}
use Rattle.capnp_calls.specs.Resolved.{call_of, calls_of, IsSpliceOf, KnowsSplice, KnowSplices}
use Rattle.capnp_calls.specs.declared.resolved.Resolved.{Resolved}
use Rattle.capnp_calls_splice.specs.declared.splice.Splice.{Splice}
use Rattle.capnp_calls_splice.specs.Splices.{TellsSplice, put_room}
use Rattle.capnp_calls_splice.specs.declared.splice.Spliced.{Spliced}
use Rattle.capnp_calls_splice.specs.declared.splice.Spliced.TheVariants as outcomes
use Rattle.capnp_calls_in_place.specs.CallSplices.{IsCallSplice, have_splices, TellsCall, IsShortFor, WantsRoom}
use Rattle.capnp_calls_in_place.proofs.SplicedCalls.{call_made, call_replied}

-- ---- calls

set_call : (schema : StructSchema) (path : List Step) (v : CallValue) (p : Splice) → PathLeadsTo (schema_around schema) v p.put p.hops.items (shape_of_struct schema) path → IsCallSplice schema (record { path = path; verb = set_to v }) p
set_call schema path v p leads old new fit spliced =
    let within : (i : ℕ) → IsWithin ((schema_around schema).shape_of i) = λ i. (accepted_sound (nodes_around schema) schema.set.now.accepted i).within in
    let made = call_made (schema_around schema) within (id_of schema) v p path leads old new fit spliced in
    record {
      replied = call_replied (schema_around schema) within (id_of schema) v p path leads as_it_is old new fit spliced;
      made = made.trimmed;
      deep = made.deep;
    }

is_call_splice : (schema : StructSchema) (c : Call) (v : CallValue) (p : Splice) → c.verb ≡ set_to v → PathLeadsTo (schema_around schema) v p.put p.hops.items (shape_of_struct schema) c.path → IsCallSplice schema c p
is_call_splice schema c v p verb leads = subst (λ (does : Verb). IsCallSplice schema (record { path = c.path; verb = does }) p) (sym verb) (set_call schema c.path v p leads)

-- What is found of a call's path.
pub known_splice : (schema : StructSchema) (c : Call) (p : Splice) → IsSpliceOf schema c p → IsCallSplice schema c p
known_splice schema c p h = is_call_splice schema c h.0 p h.1 h.2

pub found_splice : (schema : StructSchema) (r : Resolved) (p : Splice) → r.splice ≡ Some p → KnowsSplice schema r → IsCallSplice schema (call_of r) p
found_splice schema r p is h = known_splice schema (call_of r) p (subst (λ (o : Option Splice). IfSome o (IsSpliceOf schema (call_of r))) is h)

pub is_found : (schema : StructSchema) (r : Resolved) (o : Option (Bor Splice)) → option_copied o ≡ r.splice → KnowsSplice schema r → IfSome o (λ p. IsCallSplice schema (call_of r) p.now)
is_found schema r None same known = tt
is_found schema r (Some p) same known = found_splice schema r p.now (sym same) known

same_some : (o : Option (Bor Splice)) → is_some (option_copied o) ≡ is_some o
same_some None = refl
same_some (Some p) = refl

pub tells_some : (o : Option (Bor Splice)) (p : Option Splice) (b : Bool) → option_copied o ≡ p → is_some o ≡ not b → is_some p ≡ not b
tells_some o p b same is = ap is_some (sym same) ∙ same_some o ∙ is

-- ---- calls in turn

-- Each call does, by the splice in its place.
abbrev pub AreCallSplices : StructSchema → List Call → List Splice → Type 0
AreCallSplices schema [] [] = ⊤
AreCallSplices schema (c ∷ cs) (p ∷ ps) = IsCallSplice schema c p × AreCallSplices schema cs ps
AreCallSplices schema _ _ = ⊥

abbrev with_found : Option Splice → List Splice → List Splice
with_found None ps = ps
with_found (Some p) ps = p ∷ ps

-- The splices that were found.
abbrev pub splices_of : List Resolved → List Splice
splices_of [] = []
splices_of (r ∷ rs) = with_found r.splice (splices_of rs)

found_first : (o : Option Splice) (more : Bool) → (is_some o && more) ≡ true → (p : Splice) × (o ≡ Some p) × (more ≡ true)
found_first None more h = absurd (cc h)
found_first (Some p) more h = (p, refl, h)

-- Each of calls that have splices does what its splice puts.
pub each_splice : (schema : StructSchema) (rs : List Resolved) → KnowSplices schema rs → have_splices rs ≡ true → AreCallSplices schema (calls_of rs) (splices_of rs)
each_splice schema [] known have = tt
each_splice schema (r ∷ rs) known have =
    let first = found_first r.splice (have_splices rs) have in
    subst (λ (o : Option Splice). AreCallSplices schema (call_of r ∷ calls_of rs) (with_found o (splices_of rs))) (sym first.1) (found_splice schema r first.0 first.1 known.0, each_splice schema rs known.1 first.2)

-- There are as many.
pub as_many : (rs : List Resolved) → have_splices rs ≡ true → length (splices_of rs) ≡ length rs
as_many [] have = refl
as_many (r ∷ rs) have =
    let first = found_first r.splice (have_splices rs) have in
    ap (λ (o : Option Splice). length (with_found o (splices_of rs))) first.1 ∙ ap suc (as_many rs first.2)

-- One call more.
pub more_splices : (rs : List Resolved) (r : Resolved) (p : Splice) → r.splice ≡ Some p → splices_of (rs ++ r ∷ []) ≡ splices_of rs ++ p ∷ []
more_splices [] r p is = ap (λ (o : Option Splice). with_found o []) is
more_splices (q ∷ rs) r p is = by q.splice (more_splices rs r p is)
  where
    by : (o : Option Splice) → splices_of (rs ++ r ∷ []) ≡ splices_of rs ++ p ∷ [] → with_found o (splices_of (rs ++ r ∷ [])) ≡ with_found o (splices_of rs) ++ p ∷ []
    by None again = again
    by (Some x) again = ap (λ ps. x ∷ ps) again

pub have_more : (rs : List Resolved) (r : Resolved) → have_splices rs ≡ true → is_some r.splice ≡ true → have_splices (rs ++ r ∷ []) ≡ true
have_more [] r have is = ap (λ (b : Bool). b && true) is
have_more (q ∷ rs) r have is = by (is_some q.splice) have (have_more rs r)
  where
    by : (b : Bool) → (b && have_splices rs) ≡ true → (have_splices rs ≡ true → is_some r.splice ≡ true → have_splices (rs ++ r ∷ []) ≡ true) → (b && have_splices (rs ++ r ∷ [])) ≡ true
    by true h again = again h is
    by false h again = h

-- A call without a splice among them.
pub lacks_one : (rs : List Resolved) (i : ℕ) (r : Resolved) → slice_get rs i ≡ Some r → is_some r.splice ≡ false → have_splices rs ≡ false
lacks_one [] i r at is = absurd (cc at)
lacks_one (q ∷ rs) zero r at is = let same : q ≡ r = cc at in ap (λ (x : Resolved). is_some x.splice && have_splices rs) same ∙ ap (λ (b : Bool). b && have_splices rs) is
lacks_one (q ∷ rs) (suc i) r at is = by (is_some q.splice) (lacks_one rs i r at is)
  where
    by : (b : Bool) → have_splices rs ≡ false → (b && have_splices rs) ≡ false
    by true h = h
    by false h = refl

-- ---- what is told of a call

pub told_call : {E : Type 0} (call : Resolved) (p : Splice) → call.splice ≡ Some p → (count : ℕ) (old new : List (List ℕ)) (r : Result Spliced E) → IfOk r (TellsSplice p count old new) → IfOk r (TellsCall call count old new)
told_call call p is count old new (Ok (outcomes.Done n)) h = (p, is, h)
told_call call p is count old new (Ok outcomes.Unplaced) h = h
told_call call p is count old new (Ok outcomes.Spoiled) h = tt
told_call call p is count old new (Err e) h = tt

pub short_call : {T E : Type 0} (call : Resolved) (p : Splice) → call.splice ≡ Some p → (count : ℕ) (buffer : List (List ℕ)) (r : Result T E) → IfErr r (λ _. length buffer < count + put_room p.put) → IfErr r (λ _. IsShortFor call count buffer)
short_call call p is count buffer (Ok x) h = tt
short_call call p is count buffer (Err e) h = (p, is, h)

-- A call that may add more words than there is room for may add some.
pub wanting : (calls : List Resolved) (i : ℕ) (call : Resolved) (count : ℕ) (buffer : List (List ℕ)) → slice_get calls i ≡ Some call → count ≤ length buffer → IsShortFor call count buffer → WantsRoom calls
wanting calls i call count buffer at inside short =
    let less = short.2 in
    record { index = i; call = call; splice = short.0; there = at; puts = short.1; room = omega (arith, less, inside) }
