use Rattle.std.proofs.Common.{◌≡◌, ◌∙◌, ◌≤◌, ◌<◌, ◌-◌, ◌==◌, ℕ, suc, Option, Some, List, ◌∷◌, cond, nat_eq, map, length, drop, drop-cons, get_or, sym, ap, arith}
use Rattle.std.specs.HashMap.{get}
use Rattle.capnp_records.specs.NodeViews.{node_of}
use Rattle.capnp_records.specs.Tables.{node_place}
use Rattle.capnp_records.specs.declared.node.NodeRecord.{NodeRecord}
use Rattle.capnp_records.proofs.tables.places_of.Goals as goal

up : (left : ℕ) → 0 < left → suc (left - 1) ≡ left
up left some = omega arith

lower : (left n : ℕ) → left ≤ n → left - 1 ≤ n
lower left n inside = omega arith

-- one place back, the node there is asked first
one_back : (ns : List NodeRecord) (k left id : ℕ) (x : NodeRecord) (was now : Option ℕ) → suc k ≡ left → left ≤ length ns → x ≡ get_or ns k x
    → now ≡ cond ((get_or ns k x).id == id) (Some k) was → was ≡ node_place id left (map node_of (drop left ns)) → now ≡ node_place id k (map node_of (drop k ns))
one_back ns k left id x was now next inside is put h =
    put
    ∙ ap (λ (y : NodeRecord). cond (y.id == id) (Some k) was) (sym is)
    ∙ ap (λ (o : Option ℕ). cond (x.id == id) (Some k) o) (h ∙ ap (λ l. node_place id l (map node_of (drop l ns))) (sym next))
    ∙ sym (ap (λ (ys : List NodeRecord). node_place id k (map node_of ys)) (drop-cons ns k x (omega arith) ∙ ap (λ (y : NodeRecord). y ∷ drop (suc k) ns) (sym is)))

pub loop-left-preserved : goal.loop-left-preserved
loop-left-preserved c =
    let left = c.loop-left.left in
    let x = c.index-nodes-left.result in
    record {
      inside = lower left (length c.args.nodes.now) c.loop-left.invariant.inside;
      places = λ id.
          one_back c.args.nodes.now (left - 1) left id x (get nat_eq c.loop-left.places id) (get nat_eq c.insert.new.self id)
          (up left c.loop-left-test.true) c.loop-left.invariant.inside c.index-nodes-left.is (c.in_ok-insert.ensures.updates.0 id) (c.loop-left.invariant.places id);
    }
