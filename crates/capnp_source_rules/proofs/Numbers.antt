-- Numbers one after another, and nodes by their ids.
use Rattle.std.proofs.Common.{◌≡◌, ℕ, Option, Some, map, get_or, nat_eq, All, Contains, IfSome, subst, drop, length, ◌<◌, ◌≤◌, true, zero, suc, ◌+◌, List, [], ◌∷◌, ◌++◌, cond, eqb, refl, ap, sym, ◌∙◌, arith}
use Rattle.std.specs.HashMap.{HashMap, get, IsFromIterResult}
use Rattle.std.proofs.lemmas.List.{drop_all, drop_more}
use Rattle.std.proofs.lemmas.List.Elements.{All-nil, All-append}
use Rattle.std.proofs.lemmas.Bool.{ne_eqb}
use Rattle.std.proofs.lemmas.Bool.Decides.{Decides-eqb}
use Rattle.std.proofs.lemmas.Map.Made.{IfSome-get_from_list}
use Rattle.std.specs.List.{range_with_len}
use Rattle.capnp_source_nodes.specs.declared.nodes.Field.{Field}
use Rattle.capnp_source_nodes.specs.declared.nodes.Node.{Node}
use Rattle.capnp_source_nodes.specs.declared.nodes.NodeBody.{NodeBody}
use Rattle.capnp_source_nodes.specs.declared.nodes.NodeBody.TheVariants as N
use Rattle.capnp_source_nodes.specs.declared.nodes.Struct.{Struct}
use Rattle.capnp_source_rules.specs.Groups.{Home, home_key, home_in, home_of_groups, group_of, groups_in, groups_of_body}
use Rattle.capnp_source_rules.specs.Rules.{number_of}

pub range_more : (a n : ℕ) → range_with_len a (suc n) ≡ range_with_len a n ++ (a + n) ∷ []
range_more a zero = let same : a ≡ a + 0 = omega arith in ap (λ x. x ∷ []) same
range_more a (suc n) =
    let same : a + 1 + n ≡ a + suc n = omega arith in
    ap (λ xs. a ∷ xs) (range_more (a + 1) n ∙ ap (λ x. range_with_len (a + 1) n ++ x ∷ []) same)

pub more : (n : ℕ) → range_with_len 0 (n + 1) ≡ range_with_len 0 n ++ n ∷ []
more n =
    let next : n + 1 ≡ suc n = omega arith in
    let same : 0 + n ≡ n = omega arith in
    ap (range_with_len 0) next ∙ range_more 0 n ∙ ap (λ x. range_with_len 0 n ++ x ∷ []) same

-- a member with the next number
pub numbered : (f : Field) (next : ℕ) → (f.discriminant ≡ 65535 → ⊥) → f.discriminant ≡ next → range_with_len 0 (next + 1) ≡ range_with_len 0 next ++ number_of f
numbered f next member same = more next ∙ ap (λ xs. range_with_len 0 next ++ xs) (ap (λ n. n ∷ []) (sym same) ∙ sym (ap (λ b. cond b [] (f.discriminant ∷ [])) (ne_eqb f.discriminant 65535 member)))

pub same_list : (xs : List ℕ) → map (λ x. x) xs ≡ xs
same_list [] = refl
same_list (x ∷ xs) = ap (λ ys. x ∷ ys) (same_list xs)

-- what is found in the map of nodes is a node
pub homes_found : {S : Type 0} (nodes : List Node) (homes : HashMap ℕ Home S) → IsFromIterResult nat_eq (map home_key nodes) homes → All (λ n. All (λ g. get nat_eq homes g ≡ Some (home_of_groups n)) (groups_of_body n.body)) nodes → All (λ n. All (λ g. Contains (map home_key nodes) (g, home_of_groups n)) (groups_of_body n.body)) nodes
homes_found nodes homes made found k d lt i e in_body =
    let n = get_or nodes k d in
    let g = get_or (groups_of_body n.body) i e in
    subst (λ (o : Option Home). IfSome o (λ v. Contains (map home_key nodes) (g, v))) (found k d lt i e in_body) (IfSome-get_from_list Decides-eqb (map home_key nodes) homes made g)

-- what holds of one field's group and of those after it holds from it on
pub groups_from : (P : ℕ → Type 0) (fs : List Field) (i : ℕ) (f : Field) → i < length fs → All P (group_of (get_or fs i f).body) → All P (groups_in (drop (i + 1) fs)) → All P (groups_in (drop i fs))
groups_from P fs i f lt here rest = subst (λ (xs : List Field). All P (groups_in xs)) (sym (drop_more fs i f lt)) (All-append P (group_of (get_or fs i f).body) (groups_in (drop (i + 1) fs)) here rest)

pub groups_end : (P : ℕ → Type 0) (fs : List Field) (i : ℕ) → length fs ≤ i → All P (groups_in (drop i fs))
groups_end P fs i le = subst (λ (xs : List Field). All P (groups_in xs)) (sym (drop_all i fs le)) (All-nil P)

-- a struct has the groups of its fields
pub held : {S : Type 0} (homes : HashMap ℕ Home S) (n : Node) (s : Struct) → n.body ≡ N.Struct s → All (λ g. get nat_eq homes g ≡ Some (true, (n.id, (s.data_words, s.pointers)))) (groups_in s.fields.items) → All (λ g. get nat_eq homes g ≡ Some (home_of_groups n)) (groups_of_body n.body)
held homes n s is all = subst (λ (b : NodeBody). All (λ g. get nat_eq homes g ≡ Some (true, (n.id, (home_in n.scope b).1.1))) (groups_of_body b)) (sym is) all
