-- The scopes around a node, one after the other.
use Rattle.std.proofs.Common.{◌≡◌, ℕ, zero, suc, ◌-◌, ◌<◌, Bool, true, false, if◌then◌else◌, Option, Some, None, List, [], ◌∷◌, ◌++◌, refl, ap, sym, ◌∙◌, append_assoc, append-nil, arith}
use Rattle.capnp_relay_bindings.specs.declared.scopes.Declared.{Declared}
use Rattle.capnp_relay_bindings.specs.Scopes.{scope_before, scopes_around}

less_one : (k : ℕ) → k ≡ suc k - 1
less_one k = omega arith

-- while some are left, the node is first, and then those around it
one_more : (at : ℕ → Option Declared) (id left : ℕ) → 0 < left → scopes_around left at id ≡ scope_before id (at id) (scopes_around (left - 1) at)
unfolding scopes_around
one_more at id zero some = absurd (omega (arith, some))
one_more at id (suc k) some = ap (λ (n : ℕ). scope_before id (at id) (scopes_around n at)) (less_one k)

-- none is left
no_more : (at : ℕ → Option Declared) (id left : ℕ) → left ≡ 0 → scopes_around left at id ≡ []
unfolding scopes_around
no_more at id zero is = refl
no_more at id (suc k) is = absurd (omega (arith, is))

-- behind what is found there is nothing
nothing_behind : (items rest whole : List ℕ) → rest ≡ [] → items ++ rest ≡ whole → items ≡ whole
nothing_behind items rest whole none all = sym (append-nil items) ∙ sym (ap (λ (xs : List ℕ). items ++ xs) none) ∙ all

-- the search ends at an id without a node
pub ends_at_none : (at : ℕ → Option Declared) (id left : ℕ) (items whole : List ℕ) → 0 < left → at id ≡ None → items ++ scopes_around left at id ≡ whole → items ≡ whole
ends_at_none at id left items whole some is all =
    nothing_behind items (scopes_around left at id) whole (one_more at id left some ∙ ap (λ (o : Option Declared). scope_before id o (scopes_around (left - 1) at)) is) all

-- it ends at a file
pub ends_at_file : (at : ℕ → Option Declared) (id left : ℕ) (node : Declared) (items whole : List ℕ) → 0 < left → at id ≡ Some node → node.is_file ≡ true → items ++ scopes_around left at id ≡ whole → items ≡ whole
ends_at_file at id left node items whole some is file all =
    nothing_behind items (scopes_around left at id) whole
    (one_more at id left some ∙ ap (λ (o : Option Declared). scope_before id o (scopes_around (left - 1) at)) is
    ∙ ap (λ (b : Bool). if b then [] else (id ∷ scopes_around (left - 1) at node.scope)) file) all

-- it ends where no more are allowed
pub ends_at_last : (at : ℕ → Option Declared) (id left : ℕ) (items whole : List ℕ) → left ≡ 0 → items ++ scopes_around left at id ≡ whole → items ≡ whole
ends_at_last at id left items whole last all = nothing_behind items (scopes_around left at id) whole (no_more at id left last) all

-- else it goes on at the scope
pub goes_on : (at : ℕ → Option Declared) (id left : ℕ) (node : Declared) (items whole : List ℕ) → 0 < left → at id ≡ Some node → node.is_file ≡ false → items ++ scopes_around left at id ≡ whole
    → (items ++ id ∷ []) ++ scopes_around (left - 1) at node.scope ≡ whole
goes_on at id left node items whole some is file all =
    append_assoc items (id ∷ []) (scopes_around (left - 1) at node.scope)
    ∙ ap (λ (xs : List ℕ). items ++ xs)
    (sym (one_more at id left some ∙ ap (λ (o : Option Declared). scope_before id o (scopes_around (left - 1) at)) is
    ∙ ap (λ (b : Bool). if b then [] else (id ∷ scopes_around (left - 1) at node.scope)) file))
    ∙ all
