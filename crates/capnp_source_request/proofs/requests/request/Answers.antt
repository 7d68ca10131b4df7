use Rattle.std.proofs.Common.{ℕ, List, length, ◌≡◌, ◌≤◌, ◌-◌, ◌^◌, Result, Ok, Err}
use Rattle.std.specs.Prelude.{IfOk}
use Rattle.capnp_source_request.specs.Frames.{framed, IsFramed}
use Rattle.capnp_source_request.proofs.requests.request.Goals as goal

-- if what a `Result` holds frames these words, and they are few enough, it is a frame
is_framed : {T E : Type 0} (r : Result T E) (items : T → List ℕ) (words : List ℕ) → IfOk r (λ x. items x ≡ framed words) → IfOk r (λ _. length words ≤ 2 ^ 29 - 1) → IfOk r (λ x. IsFramed (items x))
is_framed (Ok _) _ words bytes few = (words, few, bytes)
is_framed (Err _) _ _ _ _ = tt

pub returns : goal.returns
returns c = is_framed c.framed.result (λ x. x.items) c.deref.result.now c.framed.ensures.bytes c.framed.ensures.few
