-- a set has as many items as a list only if no two of the list are the same
use Rattle.std.proofs.Common.{◌≡◌, map, length, sym, ◌∙◌}
use Rattle.std.specs.HashSet.{hash_set_len}
use Rattle.std.proofs.lemmas.Bool.Decides.{Decides-eqb}
use Rattle.std.proofs.lemmas.Cmp.{nat_eq_equiv}
use Rattle.std.proofs.lemmas.List.{length-map}
use Rattle.std.proofs.lemmas.Map.Made.{hash_set_len-Decides}
use Rattle.capnp_source_compile.proofs.requests.are_distinct.Goals as goal

pub returns : goal.returns
returns c is =
    let nodes = c.args.nodes.now in
    let ids = map (λ n. n.id) nodes in
    let set = c.in_ok-ids.ids in
    let same : hash_set_len set ≡ length ids = sym c.len.ensures.len ∙ (Decides-eqb c.len.result (length nodes)).0 is ∙ sym (length-map nodes (λ n. n.id)) in
    (hash_set_len-Decides Decides-eqb nat_eq_equiv ids set c.in_ok-ids.ensures).0 ((Decides-eqb (hash_set_len set) (length ids)).1 same)
