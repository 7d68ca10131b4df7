use Rattle.std.proofs.Common.{ℕ, List, Bor, map, ◌∙◌, ap}
use Rattle.std.proofs.lemmas.List.{take_all}
use Rattle.capnp_records.specs.NodeViews.{field_of}
use Rattle.capnp_records.proofs.ByName.{by_name}
use Rattle.capnp_records.proofs.by_name.places_by_name.Goals as goal

pub returns : goal.returns
returns c =
    let sorted = c.sort.new.self.items in
    by_name (map field_of c.args.fields.now) c.in_ok-named.named.items sorted c.loop-place.places.items c.in_ok-named.ensures c.sort.ensures.permutation c.in_ok-sort.ensures.sorted
    (c.loop-place.invariant ∙ ap (map (λ (n : Bor (List ℕ) × ℕ). n.1)) (take_all c.loop-place.place-index c.deref-place-items.result.now c.loop-place-test.false ∙ c.deref-place-items.ensures.value))
