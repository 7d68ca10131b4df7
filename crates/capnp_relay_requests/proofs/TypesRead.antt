-- Types level by level.
use Rattle.std.proofs.Common.{◌≡◌, ℕ, zero, suc, ◌+◌, ◌-◌, ◌==◌, false, if◌then◌else◌, Option, Some, None, option_map, refl, sym, ◌∙◌, ap, arith}
use Rattle.capnp_model.specs.Chains.{◌>>=◌}
use Rattle.capnp_model.specs.Schemas.{BaseType, TypeRecord}
use Rattle.capnp_model.proofs.lemmas.Tests.{same_number, number_is, never_true}
use Rattle.capnp_wire.specs.Views.{StructView, pointer_field}
use Rattle.capnp_relay_requests.specs.Places.{number, struct_behind}
use Rattle.capnp_relay_requests.specs.Types.{base_in, unlisted_type, list_type_of, type_within}

-- so many times a list of a base
abbrev pub counted : ℕ → BaseType → TypeRecord
counted n b = record { list_count = n; base = b }

-- no list
other : (n : ℕ) (v : StructView) → (number 16 0 v == 14) ≡ false → type_within n v ≡ option_map unlisted_type (base_in (number 16 0 v) v)
other zero v h = ap (λ b. if b then None else option_map unlisted_type (base_in (number 16 0 v) v)) h
other (suc n) v h = ap (λ b. if b then (struct_behind (pointer_field v 0) >>= λ e. type_within n e >>= λ t. Some (list_type_of t)) else option_map unlisted_type (base_in (number 16 0 v) v)) h

is_other : (m k : ℕ) → m ≡ k → (m ≡ 14 → ⊥) → (k == 14) ≡ false
is_other m k e h = never_true (k == 14) (λ t. h (e ∙ same_number k 14 t))

pub plain_type : (n : ℕ) (v : StructView) (m : ℕ) (o : Option BaseType) → m ≡ number 16 0 v → (m ≡ 14 → ⊥) → o ≡ base_in m v → option_map unlisted_type o ≡ type_within n v
plain_type n v m o e h is = ap (option_map unlisted_type) (is ∙ ap (λ k. base_in k v) e) ∙ sym (other n v (is_other m (number 16 0 v) e h))

one_less : (n : ℕ) → suc n - 1 ≡ n
one_less n = omega arith

pub list_type : (n : ℕ) (v : StructView) (m : ℕ) (e : StructView) (t : TypeRecord) → m ≡ number 16 0 v → m ≡ 14 → (n ≡ 0 → ⊥) → Some e ≡ struct_behind (pointer_field v 0) → Some t ≡ type_within (n - 1) e → Some (list_type_of t) ≡ type_within n v
list_type zero v m e t is list some there inner = absurd (some refl)
list_type (suc n) v m e t is list some there inner =
    let inside : Some t ≡ type_within n e = inner ∙ ap (λ k. type_within k e) (one_less n) in
    sym (
    ap (λ b. if b then (struct_behind (pointer_field v 0) >>= λ x. type_within n x >>= λ u. Some (list_type_of u)) else option_map unlisted_type (base_in (number 16 0 v) v)) (ap (λ k. k == 14) (sym is ∙ list) ∙ number_is 14)
    ∙ ap (λ (o : Option StructView). o >>= λ x. type_within n x >>= λ u. Some (list_type_of u)) (sym there)
    ∙ ap (λ (o : Option TypeRecord). o >>= λ u. Some (list_type_of u)) (sym inside)
    )

up : (n : ℕ) → n + 1 ≡ suc n
up n = omega arith

-- a list counted by one more
pub one_more_list : (t : TypeRecord) → Some (counted (t.list_count + 1) t.base) ≡ Some (list_type_of t)
one_more_list t = ap (λ n. Some (counted n t.base)) (up t.list_count)
