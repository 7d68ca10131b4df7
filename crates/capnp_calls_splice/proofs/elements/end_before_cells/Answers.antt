-- The pointers of one element more tell no distance, or one is the first that does.
use Rattle.std.proofs.Common.{◌≡◌, ℕ, suc, ◌+◌, ◌-◌, ◌*◌, ◌<◌, ◌≤◌, Option, [], length, refl, ap, sym, subst, ◌∙◌, arith}
use Rattle.std.proofs.Math.Nat.{mul-le-mul_left}
use Rattle.capnp_model.specs.Trees.{tree_count, element_count, depths}
use Rattle.capnp_model.specs.Encoding.{bodies, element_bodies}
use Rattle.capnp_calls_splice.specs.Cells.{IsEnd}
use Rattle.capnp_calls_splice.proofs.ElementTargets.{all_left, first_left, none_left, none_found, found_at}
use Rattle.capnp_calls_splice.proofs.elements.end_before_cells.Goals as goal

pub loop-i-init : goal.loop-i-init
loop-i-init c = λ m es count are. all_left m c.args.list.data_words c.args.list.pointers es c.args.slice.now are

pub loop-i-preserved : goal.loop-i-preserved
loop-i-preserved c = λ m es count are.
    let i : ℕ = c.loop-i.i in
    let d : ℕ = c.args.list.data_words in
    let k : ℕ = c.args.list.pointers in
    let first : ℕ = i * (d + k) + d in
    let less = c.loop-i-test.true in
    let most : (d + k) * i ≤ (d + k) * c.args.count = mul-le-mul_left (d + k) (omega (arith, less)) in
    let size = c.requires.len in
    let one = first_left i m d k first (first + k - first) es c.args.slice.now (c.loop-i.invariant m es count are) (omega (arith, less, count)) (omega (arith, most, size)) refl (omega arith) in
    let later : ℕ = element_count one.later * (d + k) in
    one.rest (none_found c.first_target-found.result (bodies one.kids ≡ []) (λ n. (0 < depths one.kids) × (n ≡ c.args.at + first + (tree_count one.kids + later + m))) (sym c.is_some.ensures ∙ c.if-is_some.false) (c.first_target-found.ensures.begins later m one.kids one.are))

pub returns-then-is_some : goal.returns-then-is_some
returns-then-is_some c = record {
  tells = λ m es count are ends.
      let i : ℕ = c.loop-i.i in
      let d : ℕ = c.args.list.data_words in
      let k : ℕ = c.args.list.pointers in
      let first : ℕ = i * (d + k) + d in
      let less = c.loop-i-test.true in
      let most : (d + k) * i ≤ (d + k) * c.args.count = mul-le-mul_left (d + k) (omega (arith, less)) in
      let size = c.requires.len in
      let one = first_left i m d k first (first + k - first) es c.args.slice.now (c.loop-i.invariant m es count are) (omega (arith, less, count)) (omega (arith, most, size)) refl (omega arith) in
      let later : ℕ = element_count one.later * (d + k) in
      let whole : (i + suc (element_count one.later)) * (d + k) ≡ c.args.count * (d + k) = ap (λ (z : ℕ). z * (d + k)) (one.total ∙ count) in
      let spread : (i + suc (element_count one.later)) * (d + k) ≡ i * (d + k) + (d + k) + later = omega arith in
      let kids = one.size in
      let place : c.args.at + first + (tree_count one.kids + later + m) ≡ c.args.at + length c.args.slice.now + m = omega (arith, kids, size, whole, spread) in
      found_at c.first_target-found.result (bodies one.kids ≡ []) (0 < depths one.kids) (c.args.at + first + (tree_count one.kids + later + m)) (c.args.at + length c.args.slice.now + m) place (c.first_target-found.ensures.begins later m one.kids one.are);
}

pub returns : goal.returns
returns c = record {
  tells = λ m es count are ends.
      let all = c.loop-i-test.false in
      let bare = none_left c.loop-i.i m c.args.list.data_words c.args.list.pointers es c.args.slice.now (c.loop-i.invariant m es count are) (omega (arith, all, count)) in
      let none : length (element_bodies es) ≡ 0 = ap length bare in
      let there : c.in_ok-e.e ≡ c.args.at + length c.args.slice.now + m + length (element_bodies es) = subst (λ (o : Option ℕ). IsEnd o (c.args.at + length c.args.slice.now + m + length (element_bodies es))) c.in_ok-e.was ends in
      omega (arith, there, none);
}
