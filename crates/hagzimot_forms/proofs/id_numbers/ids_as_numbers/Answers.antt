use Rattle.std.proofs.Common.{rules, ◌≡◌, ℕ, true, false, List, ◌++◌, ◌-◌, length, take, drop, slice_index_or, ap, sym, ◌∙◌}
use Rattle.hagzimot_forms.specs.Ids.{stays_told, numbers_from}
use Rattle.hagzimot_forms.proofs.Digits.{told_more, told_less, all_told}
use Rattle.hagzimot_forms.proofs.id_numbers.ids_as_numbers.Goals as goal

pub loop-rest-preserved-in_ok-push : goal.loop-rest-preserved-in_ok-push
loop-rest-preserved-in_ok-push c =
    let rest = c.loop-rest.rest.now in
    let kept : stays_told c.loop-rest.place (slice_index_or rest 0 0) c.next-next.result ≡ true = search rules in
    let more = told_more c.loop-rest.place c.next-next.result c.loop-rest.told.items rest c.in-len1-up.len_at_least c.next-next.ensures kept in
    ap (λ (xs : List ℕ). xs ++ numbers_from c.next-next.result (take (length rest - 1) (drop 1 rest))) c.in_ok-push.ensures.items ∙ more ∙ c.loop-rest.invariant

pub loop-rest-preserved : goal.loop-rest-preserved
loop-rest-preserved c =
    let rest = c.loop-rest.rest.now in
    let kept : stays_told c.loop-rest.place (slice_index_or rest 0 0) c.next-next.result ≡ false = search rules in
    told_less c.loop-rest.place c.next-next.result c.loop-rest.told.items rest c.in-len1-up.len_at_least c.next-next.ensures kept ∙ c.loop-rest.invariant

pub returns : goal.returns
returns c = sym (all_told c.loop-rest.place c.loop-rest.told.items c.loop-rest.rest.now c.in_default.len_below) ∙ c.loop-rest.invariant
