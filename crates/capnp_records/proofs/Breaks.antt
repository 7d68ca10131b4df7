-- The first node that breaks a rule, and the first broken rule, step by step.
use Rattle.std.proofs.Common.{◌≡◌, ℕ, suc, ◌+◌, ◌-◌, ◌<◌, Bool, true, false, Option, Some, None, List, [], ◌∷◌, ◌++◌, map, length, take, drop, get_or, drop-cons, sym, ◌∙◌, ap, arith}
use Rattle.std.proofs.lemmas.List.{map_more}
use Rattle.capnp_model.specs.Schemas.{Node}
use Rattle.capnp_model.specs.Accepted.{first_break_from, first_break, first_fault_from}

step_kept : (kept : List Node → Node → Bool) (earlier : List Node) (i : ℕ) (n : Node) (ns : List Node) → kept earlier n ≡ true → first_break_from kept earlier i (n ∷ ns) ≡ first_break_from kept (earlier ++ n ∷ []) (suc i) ns
step_kept kept earlier i n ns h = ap (λ b. elim b as (λ (x : Bool). Option ℕ) [ false ↦ Some i | true ↦ first_break_from kept (earlier ++ n ∷ []) (suc i) ns ]) h

pub node_kept : {A : Type 0} (kept : List Node → Node → Bool) (f : A → Node) (xs : List A) (i : ℕ) (x : A) → i < length xs → x ≡ get_or xs i x → kept (map f (take i xs)) (f x) ≡ true
    → first_break_from kept (map f (take i xs)) i (map f (drop i xs)) ≡ first_break_from kept (map f (take (i + 1) xs)) (i + 1) (map f (drop (i + 1) xs))
node_kept kept f xs i x lt is h =
    let next : suc i ≡ i + 1 = omega arith in
    let cut : drop i xs ≡ x ∷ drop (suc i) xs = drop-cons xs i x lt ∙ ap (λ y. y ∷ drop (suc i) xs) (sym is) in
    let grown : map f (take i xs) ++ f x ∷ [] ≡ map f (take (i + 1) xs) = ap (λ y. map f (take i xs) ++ f y ∷ []) is ∙ sym (map_more f xs i x lt) in
    ap (λ ys. first_break_from kept (map f (take i xs)) i (map f ys)) cut
    ∙ step_kept kept (map f (take i xs)) i (f x) (map f (drop (suc i) xs)) h
    ∙ ap (λ e. first_break_from kept e (suc i) (map f (drop (suc i) xs))) grown
    ∙ ap (λ j. first_break_from kept (map f (take (i + 1) xs)) j (map f (drop j xs))) next

pub rule_kept : (nodes : List Node) (rule : ℕ) → rule < 13 → first_break nodes rule ≡ None → first_fault_from nodes rule (13 - rule) ≡ first_fault_from nodes (rule + 1) (13 - (rule + 1))
rule_kept nodes rule lt h =
    let more : 13 - rule ≡ suc (13 - (rule + 1)) = omega arith in
    let next : suc rule ≡ rule + 1 = omega arith in
    ap (λ k. first_fault_from nodes rule k) more
    ∙ ap (λ o. elim o as (λ (x : Option ℕ). Option (ℕ × ℕ)) [ Some i ↦ Some (rule, i) | None ↦ first_fault_from nodes (suc rule) (13 - (rule + 1)) ]) h
    ∙ ap (λ k. first_fault_from nodes k (13 - (rule + 1))) next

pub rule_broken : (nodes : List Node) (rule node : ℕ) → rule < 13 → first_break nodes rule ≡ Some node → first_fault_from nodes rule (13 - rule) ≡ Some (rule, node)
rule_broken nodes rule node lt h =
    let more : 13 - rule ≡ suc (13 - (rule + 1)) = omega arith in
    ap (λ k. first_fault_from nodes rule k) more
    ∙ ap (λ o. elim o as (λ (x : Option ℕ). Option (ℕ × ℕ)) [ Some i ↦ Some (rule, i) | None ↦ first_fault_from nodes (suc rule) (13 - (rule + 1)) ]) h
