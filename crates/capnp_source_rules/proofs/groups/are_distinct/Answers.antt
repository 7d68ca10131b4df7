-- a set has as many items as a list only if no two of the list are the same
use Rattle.std.proofs.Common.{◌≡◌, ◌≢◌, map, length, sym, ◌∙◌, AllPairs, subst}
use Rattle.std.specs.HashSet.{hash_set_len}
use Rattle.std.proofs.lemmas.Bool.Decides.{Decides-eqb}
use Rattle.std.proofs.lemmas.Cmp.{nat_eq_equiv}
use Rattle.std.proofs.lemmas.List.{length-map}
use Rattle.std.proofs.lemmas.Map.Made.{hash_set_len-Decides}
use Rattle.capnp_source_rules.proofs.Numbers.{same_list}
use Rattle.capnp_source_rules.proofs.groups.are_distinct.Goals as goal

pub returns : goal.returns
returns c is =
    let given = c.args.ids.now in
    let ids = map (λ id. id) given in
    let set = c.in_ok-set.set in
    let same : hash_set_len set ≡ length ids = sym c.len.ensures.len ∙ (Decides-eqb c.len.result (length given)).0 is ∙ sym (length-map given (λ id. id)) in
    subst (AllPairs (λ x y. x ≢ y)) (same_list given) ((hash_set_len-Decides Decides-eqb nat_eq_equiv ids set c.in_ok-set.ensures).0 ((Decides-eqb (hash_set_len set) (length ids)).1 same))
