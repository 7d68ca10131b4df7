use Rattle.std.proofs.Common.{◌≡◌, ◌-◌, ◌<◌, suc, ◌∷◌, List, map, option_map, find, length, drop, drop-cons, refl, sym, ◌∙◌, ap, arith}
use Rattle.capnp_model.specs.Partners.{Renaming as ModelRenaming, is_of}
use Rattle.capnp_calls_versions.specs.declared.renamings.Renaming.{Renaming}
use Rattle.capnp_calls_versions.specs.Renamings.{renaming_of, is_to}
use Rattle.capnp_calls_versions.proofs.RenamedLists.{named_step}
use Rattle.capnp_calls_versions.proofs.names.Names.new.Goals as goal

pub loop-left-preserved : goal.loop-left-preserved
loop-left-preserved c =
    let list = c.list-list.result.now in
    let i = c.loop-left.left - 1 in
    let x = c.index-list-left.result in
    let inside = c.loop-left.invariant.inside in
    let lt : i < length list = omega arith in
    let next : suc i ≡ c.loop-left.left = omega arith in
    let cut : drop i list ≡ x ∷ drop c.loop-left.left list = drop-cons list i x lt ∙ ap (λ y. y ∷ drop (suc i) list) (sym c.index-list-left.is) ∙ ap (λ k. x ∷ drop k list) next in
    let rest = map renaming_of (drop c.loop-left.left list) in
    record {
      inside = omega arith;
      newer = λ id n.
          ap (option_map (λ s. s.now)) (c.in_ok-insert.ensures.updates.0 (id, record { ref_ptr = (0, 0); now = n }))
          ∙ named_step (λ r. r.older) (λ r. r.newer) id x.node c.as_str-older.result.now n (renaming_of x) rest _ _ c.as_str-newer.ensures.value refl c.as_str-older.ensures.value (c.loop-left.invariant.newer id n)
          ∙ ap (λ (xs : List Renaming). option_map (λ (r : ModelRenaming). r.newer) (find (is_of id n) (map renaming_of xs))) (sym cut);
      older = λ id n.
          ap (option_map (λ s. s.now)) (c.in_ok-insert-2.ensures.updates.0 (id, record { ref_ptr = (0, 0); now = n }))
          ∙ named_step (λ r. r.newer) (λ r. r.older) id x.node c.as_str-newer.result.now n (renaming_of x) rest _ _ c.as_str-older.ensures.value refl c.as_str-newer.ensures.value (c.loop-left.invariant.older id n)
          ∙ ap (λ (xs : List Renaming). option_map (λ (r : ModelRenaming). r.older) (find (is_to id n) (map renaming_of xs))) (sym cut);
    }
