-- Calls that are made one after the other.
use Rattle.std.proofs.Common.{◌≡◌, List, [], ◌∷◌, ◌++◌, Ok, sym, ap, ◌∙◌, subst, length, append_assoc, append-nil}
use Rattle.std.proofs.lemmas.List.{nil_from_length}
use Rattle.capnp_calls.specs.CallViews.{call_view, call_from}
use Rattle.capnp_calls.specs.declared.call.Call.{Call}
use Rattle.hagzimot_in_process.specs.Relays.{Parts, AreMade}

-- One more is made.
one_more : (parts : List Parts) (calls : List Call) (p : Parts) (c : Call) → AreMade parts calls → call_from p.0.items p.1 p.2 ≡ Ok (call_view c) → AreMade (parts ++ p ∷ []) (calls ++ c ∷ [])
one_more [] [] p c made one = (one, tt)
one_more [] (d ∷ calls) p c made one = absurd made
one_more (q ∷ parts) [] p c made one = absurd made
one_more (q ∷ parts) (d ∷ calls) p c made one = (made.0, one_more parts calls p c made.1 one)

-- These parts are made, and those are left of all.
pub record MadeSoFar (all left : List Parts) (calls : List Call) : Type 0 where
  pub done : List Parts
  pub made : AreMade done calls
  pub split : all ≡ done ++ left

pub none_made : (all left : List Parts) (calls : List Call) → left ≡ all → calls ≡ [] → MadeSoFar all left calls
none_made all left calls same none = record { done = []; made = subst (AreMade []) (sym none) tt; split = sym same }

pub made_next : (all before after : List Parts) (calls more : List Call) (p : Parts) (c : Call) → MadeSoFar all before calls → before ≡ p ∷ after → call_from p.0.items p.1 p.2 ≡ Ok (call_view c) → more ≡ calls ++ c ∷ [] → MadeSoFar all after more
made_next all before after calls more p c so_far next one grown = record {
  done = so_far.done ++ p ∷ [];
  made = subst (AreMade (so_far.done ++ p ∷ [])) (sym grown) (one_more so_far.done calls p c so_far.made one);
  split = so_far.split ∙ ap (λ xs. so_far.done ++ xs) next ∙ sym (append_assoc so_far.done (p ∷ []) after);
}

pub all_made : (all left : List Parts) (calls : List Call) → MadeSoFar all left calls → length left ≡ 0 → AreMade all calls
all_made all left calls so_far none =
    let P : List Parts → Type 0 = λ parts. AreMade parts calls in
    subst P (sym (so_far.split ∙ ap (λ xs. so_far.done ++ xs) (nil_from_length left none) ∙ append-nil so_far.done)) so_far.made
