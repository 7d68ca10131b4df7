use Rattle.std.proofs.Common.{◌≡◌, ◌-◌, ◌<◌, suc, ◌∷◌, ℕ, true, false, not, ◌&&◌, ◌||◌, ◌==◌, List, map, length, drop, drop-cons, sym, ◌∙◌, ap, arith}
use Rattle.std.specs.List.{list_any}
use Rattle.std.specs.Str.{bytes_eq}
use Rattle.capnp_model.specs.Partners.{same_key, are_distinct_names}
use Rattle.capnp_model.proofs.lemmas.Tests.{not_is_false, not_is_true}
use Rattle.capnp_calls_versions.specs.declared.renamings.Renaming.{Renaming}
use Rattle.capnp_calls_versions.specs.Renamings.{name_in, key_in}
use Rattle.capnp_calls_versions.proofs.Known.{either}
use Rattle.capnp_calls_versions.proofs.RenamedLists.{behind}
use Rattle.capnp_calls_versions.proofs.renamings.are_apart.Goals as goal

pub loop-left-preserved : goal.loop-left-preserved
loop-left-preserved c =
    let list = c.args.list.now in
    let v = c.args.version in
    let i = c.loop-left.left - 1 in
    let x = c.index-list-left.result in
    let inside = c.loop-left.invariant.inside in
    let lt : i < length list = omega arith in
    let next : suc i ≡ c.loop-left.left = omega arith in
    let cut : drop i list ≡ x ∷ drop c.loop-left.left list = drop-cons list i x lt ∙ ap (λ y. y ∷ drop (suc i) list) (sym c.index-list-left.is) ∙ ap (λ k. x ∷ drop k list) next in
    let rest = map (key_in v) (drop c.loop-left.left list) in
    let name : c.name_in.result.now ≡ name_in v x = c.name_in.ensures in
    let fresh : list_any (same_key (key_in v x)) rest ≡ false =
    ap (λ (n : List ℕ). list_any (same_key (x.node, n)) rest) (sym name) ∙ sym (c.loop-left.invariant.seen x.node c.name_in.result.now)
    ∙ not_is_true (list_any (λ k. x.node == k.0 && bytes_eq c.name_in.result.now k.1.now) c.loop-left.seen.keys) (sym c.if-not-branch.false ∙ c.in_ok-insert.ensures.added) in
    record {
      inside = omega arith;
      apart = ap (λ (xs : List Renaming). are_distinct_names (map (key_in v) xs)) cut ∙ ap (λ b. not b && are_distinct_names rest) fresh ∙ c.loop-left.invariant.apart;
      seen = λ id n.
          c.in_ok-insert.ensures.updates.0 (id, record { ref_ptr = (0, 0); now = n })
          ∙ either (x.node == id && bytes_eq c.name_in.result.now n) (list_any (λ k. id == k.0 && bytes_eq n k.1.now) c.loop-left.seen.keys)
          ∙ ap (λ b. (x.node == id && bytes_eq c.name_in.result.now n) || b) (c.loop-left.invariant.seen id n)
          ∙ ap (λ (m : List ℕ). (x.node == id && bytes_eq m n) || list_any (same_key (id, n)) rest) name
          ∙ ap (λ (xs : List Renaming). list_any (same_key (id, n)) (map (key_in v) xs)) (sym cut);
    }

pub returns-then-not-branch : goal.returns-then-not-branch
returns-then-not-branch c =
    let list = c.args.list.now in
    let v = c.args.version in
    let i = c.loop-left.left - 1 in
    let x = c.index-list-left.result in
    let inside = c.loop-left.invariant.inside in
    let lt : i < length list = omega arith in
    let next : suc i ≡ c.loop-left.left = omega arith in
    let cut : drop i list ≡ x ∷ drop c.loop-left.left list = drop-cons list i x lt ∙ ap (λ y. y ∷ drop (suc i) list) (sym c.index-list-left.is) ∙ ap (λ k. x ∷ drop k list) next in
    let rest = map (key_in v) (drop c.loop-left.left list) in
    let name : c.name_in.result.now ≡ name_in v x = c.name_in.ensures in
    let there : list_any (same_key (key_in v x)) rest ≡ true =
    ap (λ (n : List ℕ). list_any (same_key (x.node, n)) rest) (sym name) ∙ sym (c.loop-left.invariant.seen x.node c.name_in.result.now)
    ∙ not_is_false (list_any (λ k. x.node == k.0 && bytes_eq c.name_in.result.now k.1.now) c.loop-left.seen.keys) (sym c.if-not-branch.true ∙ c.in_ok-insert.ensures.added) in
    sym (behind v i list (ap (λ (xs : List Renaming). are_distinct_names (map (key_in v) xs)) cut ∙ ap (λ b. not b && are_distinct_names rest) there))
