use Rattle.std.proofs.Common.{◌≡◌, ◌-◌, ◌==◌, ◌&&◌, ◌||◌, ℕ, Bool, true, false, Option, List, ◌∷◌, length, take, drop, refl, ap, sym, ◌∙◌}
use Rattle.std.specs.List.{list_any}
use Rattle.std.specs.Map.{lookup}
use Rattle.std.specs.Str.{bytes_eq}
use Rattle.capnp_records.specs.declared.node.NodeRecord.{NodeRecord}
use Rattle.capnp_records.proofs.lemmas.ListTests.{first_and_rest}
use Rattle.hagzimot_schemas.specs.Twins.{is_own_struct, has_struct, struct_named_from}
use Rattle.hagzimot_schemas.proofs.pairs.Structs.new.Goals as goal

swapped : (x o r : Bool) → ((x || o) || r) ≡ (o || (x || r))
swapped true true r = refl
swapped true false r = refl
swapped false o r = refl

pub loop-left-preserved : goal.loop-left-preserved
loop-left-preserved c =
    let left = c.loop-left.left.now in
    let node = c.node-item.result in
    let more = take (length left - 1) (drop 1 left) in
    let split : left ≡ node ∷ more = first_and_rest left node c.in-len1-up.len_at_least c.node-item.is in
    record {
      by_id = λ i.
          let known = list_any (λ k. i == k) c.loop-left.ids.keys in
          ap (λ b. b || has_struct more i) (c.in_ok-know_id.ensures i)
          ∙ swapped (is_own_struct node && (node.id == i)) known (has_struct more i)
          ∙ ap (λ (l : List NodeRecord). known || has_struct l i) (sym split)
          ∙ c.loop-left.invariant.by_id i;
      by_name = λ name.
          ap (λ (o : Option ℕ). struct_named_from o more name) (c.in_ok-know_name.ensures name)
          ∙ ap (λ (l : List NodeRecord). struct_named_from (lookup (λ k. bytes_eq name k.now) c.loop-left.names.entries) l name) (sym split)
          ∙ c.loop-left.invariant.by_name name;
    }
