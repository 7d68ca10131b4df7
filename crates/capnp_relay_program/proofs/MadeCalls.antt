-- The calls that are made are those that their parts say.
use Rattle.std.proofs.Common.{rules, arith, ◌≡◌, refl, sym, ap, ◌∙◌, ℕ, suc, ◌+◌, ◌^◌, nat_lt, if◌then◌else◌, Bool, true, false, Option, Some, None, option_map, Result, Ok, Err, List, [], ◌∷◌, ◌++◌, map, length, append_assoc, append-nil, length-append, Vec, Global}
use Rattle.std.proofs.lemmas.List.{length-map, map-append}
use Rattle.capnp_model.specs.Calls.{CallValue as ModelValue, message, Verb as ModelVerb, set_to, initn, Call as ModelCall}
use Rattle.capnp_calls.specs.Frames.{value_in}
use Rattle.capnp_calls.specs.declared.call.Step.{Step}
use Rattle.capnp_calls.specs.declared.call.Verb.{Verb}
use Rattle.capnp_calls.specs.declared.call.Verb.TheVariants as verb
use Rattle.capnp_calls.specs.declared.call.CallValue.{CallValue}
use Rattle.capnp_calls.specs.declared.call.CallValue.TheVariants as value
use Rattle.capnp_calls.specs.declared.call.CallFault.{CallFault}
use Rattle.capnp_calls.specs.declared.call.CallFault.TheVariants as fault
use Rattle.capnp_calls.specs.declared.call.Call.{Call}
use Rattle.capnp_calls.specs.CallViews.{step_view, call_view, call_from, call_along as along_model, set_verb, verb_from, IsCallRefusal}
use Rattle.capnp_relay_files.specs.CallsFiles.{CallParts, given_of}
use Rattle.capnp_relay_files.specs.CallViews.{parts_of}
use Rattle.capnp_relay_program.specs.declared.stop.Stop.{Stop}
use Rattle.capnp_relay_program.specs.declared.stop.Stop.TheVariants as stop
use Rattle.capnp_relay_program.specs.Faults.{◌then_or_stop◌}
use Rattle.capnp_relay_program.specs.Calls.{verb_given, call_along_steps, call_given, calls_from}
use Rattle.capnp_model.specs.Chains.{◌>>=◌, ◌provided◌}
use Rattle.std.specs.Result.{result_ok}

-- ---- one call

same_verb : (v : Verb) (x : Option CallValue) → result_ok (verb_from v x) ≡ verb_given v (option_map given_of x)
same_verb verb.Get None = refl
same_verb verb.Get (Some x) = refl
same_verb verb.Set None = refl
same_verb verb.Set (Some (value.Number z)) = refl
same_verb verb.Set (Some (value.Bool b)) = refl
same_verb verb.Set (Some (value.Enum n)) = refl
same_verb verb.Set (Some (value.Text t)) = refl
same_verb verb.Set (Some (value.Data bs)) = refl
same_verb verb.Set (Some (value.Message bs)) = taken (option_map message (value_in bs.items))
  where
    taken : (o : Option ModelValue) → result_ok (set_verb o) ≡ (o >>= λ x. Some (set_to x))
    taken None = refl
    taken (Some x) = refl
same_verb verb.Init None = refl
same_verb verb.Init (Some x) = refl
same_verb (verb.Initn n) None = sized (nat_lt n (2 ^ 29))
  where
    sized : (b : Bool) → result_ok (if b then Ok (initn n) else Err fault.Size) ≡ (initn n provided b)
    sized true = refl
    sized false = refl
same_verb (verb.Initn n) (Some x) = refl
same_verb verb.Clear None = refl
same_verb verb.Clear (Some x) = refl

no_step : (o : Option ModelVerb) → None ≡ (o >>= call_along_steps [])
no_step None = refl
no_step (Some v) = refl

along : (s : Step) (path : List Step) (r : Result ModelVerb CallFault) → result_ok (along_model (map step_view (s ∷ path)) r) ≡ (result_ok r >>= call_along_steps (map step_view (s ∷ path)))
along s path (Ok v) = refl
along s path (Err e) = refl

-- The call, where it is made, is the one that its parts say.
pub same_call : (path : List Step) (v : Verb) (x : Option CallValue) → result_ok (call_from path v x) ≡ call_given (record { path = map step_view path; verb = v; value = option_map given_of x })
same_call [] v x = no_step (verb_given v (option_map given_of x))
same_call (s ∷ path) v x = along s path (verb_from v x) ∙ ap (λ o. o >>= call_along_steps (map step_view (s ∷ path))) (same_verb v x)

-- ---- calls one after the other

-- What all calls are, where some are made and others are left.
abbrev pub left_of : List ModelCall → List CallParts → Result (List ModelCall) Stop
left_of calls rest = calls_from (length calls + 1) rest then_or_stop λ more. Ok (calls ++ more)

shifted : (calls : List ModelCall) (call : ModelCall) (r s : Result (List ModelCall) Stop) → r ≡ s
    → ((r then_or_stop λ more. Ok (call ∷ more)) then_or_stop λ more. Ok (calls ++ more)) ≡ (s then_or_stop λ more. Ok ((calls ++ call ∷ []) ++ more))
shifted calls call (Ok more) s e = rw (sym e) (ap Ok (sym (append_assoc calls (call ∷ []) more)))
shifted calls call (Err f) s e = rw (sym e) refl

-- one more is made
pub made_one : (calls : List ModelCall) (parts : CallParts) (rest : List CallParts) (call : ModelCall) → call_given parts ≡ Some call
    → left_of calls (parts ∷ rest) ≡ left_of (calls ++ call ∷ []) rest
made_one calls parts rest call h =
    let n : suc (length calls + 1) ≡ length (calls ++ call ∷ []) + 1 = omega (arith, length-append calls (call ∷ [])) in
    rw h (shifted calls call (calls_from (suc (length calls + 1)) rest) (calls_from (length (calls ++ call ∷ []) + 1) rest) (ap (λ k. calls_from k rest) n))

-- one is refused
pub refused_one : (calls : List ModelCall) (parts : CallParts) (rest : List CallParts) → call_given parts ≡ None
    → left_of calls (parts ∷ rest) ≡ Err (stop.Call (length calls + 1))
refused_one calls parts rest h = rw h refl

-- none is left
pub made_all : (calls : List ModelCall) (rest : List CallParts) → length rest ≡ 0 → left_of calls rest ≡ Ok calls
made_all calls [] h = ap Ok (append-nil calls)
made_all calls (parts ∷ rest) h = absurd (omega arith)

-- ---- the parts as the code has them

-- one more call is made of the parts that come next
pub made_next : (all : Result (List ModelCall) Stop) (calls : List Call) (call : Call) (p : Vec Step Global × Verb × Option CallValue) (before after : List (Vec Step Global × Verb × Option CallValue)) (more : List Call)
    → all ≡ left_of (map call_view calls) (map parts_of before) → before ≡ p ∷ after → call_from p.0.items p.1 p.2 ≡ Ok (call_view call) → more ≡ calls ++ call ∷ []
    → all ≡ left_of (map call_view more) (map parts_of after)
made_next all calls call p before after more h b made m =
    let given : call_given (parts_of p) ≡ Some (call_view call) = sym (same_call p.0.items p.1 p.2) ∙ ap result_ok made in
    let next : map call_view more ≡ map call_view calls ++ call_view call ∷ [] = ap (map call_view) m ∙ map-append call_view calls (call ∷ []) in
    h ∙ ap (λ xs. left_of (map call_view calls) (map parts_of xs)) b
    ∙ made_one (map call_view calls) (parts_of p) (map parts_of after) (call_view call) given
    ∙ ap (λ cs. left_of cs (map parts_of after)) (sym next)

-- a refusal that isn't want of memory
told : {A : Type 0} (wants : Type 0) (made : Result A CallFault) (e : CallFault) → IsCallRefusal wants made e → (e ≡ fault.Memory → ⊥) → made ≡ Err e
told wants made fault.EmptyPath h other = h
told wants made fault.ValueAndVerb h other = h
told wants made fault.Size h other = h
told wants made fault.Message h other = h
told wants made fault.Memory h other = absurd (other refl)

-- the parts that come next make no call
pub refused_next : (all : Result (List ModelCall) Stop) (calls : List Call) (wants : Type 0) (e : CallFault) (p : Vec Step Global × Verb × Option CallValue) (before after : List (Vec Step Global × Verb × Option CallValue)) (number : ℕ)
    → all ≡ left_of (map call_view calls) (map parts_of before) → before ≡ p ∷ after → IsCallRefusal wants (call_from p.0.items p.1 p.2) e → (e ≡ fault.Memory → ⊥) → number ≡ length calls + 1
    → all ≡ Err (stop.Call number)
refused_next all calls wants e p before after number h b made other n =
    let given : call_given (parts_of p) ≡ None = sym (same_call p.0.items p.1 p.2) ∙ ap result_ok (told wants (call_from p.0.items p.1 p.2) e made other) in
    let same : length (map call_view calls) + 1 ≡ number = omega (arith, n, length-map calls call_view) in
    h ∙ ap (λ xs. left_of (map call_view calls) (map parts_of xs)) b
    ∙ refused_one (map call_view calls) (parts_of p) (map parts_of after) given
    ∙ ap (λ k. Err (stop.Call k)) same

-- none come next
pub none_next : (all : Result (List ModelCall) Stop) (calls : List Call) (before : List (Vec Step Global × Verb × Option CallValue))
    → all ≡ left_of (map call_view calls) (map parts_of before) → length before ≡ 0 → all ≡ Ok (map call_view calls)
none_next all calls before h e = h ∙ made_all (map call_view calls) (map parts_of before) (length-map before parts_of ∙ e)

-- none is made yet
pub none_made : (parts : List CallParts) → calls_from 1 parts ≡ left_of [] parts
none_made parts = whole (calls_from 1 parts)
  where
    whole : (r : Result (List ModelCall) Stop) → r ≡ (r then_or_stop λ more. Ok ([] ++ more))
    whole (Ok xs) = refl
    whole (Err e) = refl
