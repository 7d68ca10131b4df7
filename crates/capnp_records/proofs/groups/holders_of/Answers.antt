use Rattle.std.proofs.Common.{◌≡◌, ◌∙◌, ◌≤◌, ◌<◌, ◌-◌, ◌==◌, ℕ, suc, Option, Some, List, if◌then◌else◌, nat_eq, map, length, drop, get_or, sym, ap, arith}
use Rattle.std.specs.List.{list_any}
use Rattle.std.specs.HashMap.{get}
use Rattle.capnp_model.specs.Accepted.{groups_used}
use Rattle.capnp_records.specs.NodeViews.{node_of}
use Rattle.capnp_records.specs.Uses.{holder_place}
use Rattle.capnp_records.specs.declared.node.NodeRecord.{NodeRecord}
use Rattle.capnp_records.proofs.Holders.{holder_back}
use Rattle.capnp_records.proofs.groups.holders_of.Goals as goal

up : (left : ℕ) → 0 < left → suc (left - 1) ≡ left
up left some = omega arith

lower : (left n : ℕ) → left ≤ n → left - 1 ≤ n
lower left n inside = omega arith

-- one place back, the node there is asked first
one_back : (ns : List NodeRecord) (k left id : ℕ) (x : NodeRecord) (gs : List ℕ) (was now : Option ℕ) → suc k ≡ left → left ≤ length ns → x ≡ get_or ns k x → gs ≡ groups_used (node_of x)
    → now ≡ (if list_any (λ g. g == id) gs then Some k else was) → was ≡ holder_place id left (map node_of (drop left ns)) → now ≡ holder_place id k (map node_of (drop k ns))
one_back ns k left id x gs was now next inside is used put h =
    put
    ∙ ap (λ (ys : List ℕ). if list_any (λ g. g == id) ys then Some k else was) used
    ∙ ap (λ (o : Option ℕ). if list_any (λ g. g == id) (groups_used (node_of x)) then Some k else o) (h ∙ ap (λ l. holder_place id l (map node_of (drop l ns))) (sym next))
    ∙ sym (holder_back ns k id x (omega arith) is)

pub loop-left-preserved : goal.loop-left-preserved
loop-left-preserved c =
    let left = c.loop-left.left in
    let ns = c.args.nodes.now in
    let x = c.index-nodes-left.result in
    let used : c.deref.result.now ≡ groups_used (node_of x) = c.deref.ensures.value ∙ c.in_ok-groups.ensures in
    record {
      inside = lower left (length ns) c.loop-left.invariant.inside;
      places = λ id.
          one_back ns (left - 1) left id x c.deref.result.now (get nat_eq c.loop-left.holders id) (get nat_eq c.put_all.new.holders id)
          (up left c.loop-left-test.true) c.loop-left.invariant.inside c.index-nodes-left.is used (c.in_ok-put_all.ensures id) (c.loop-left.invariant.places id);
    }
