use Rattle.std.proofs.Common.{◌≡◌, ◌==◌, ℕ, Bool, true, false, not, nat_eq, Option, Some, None, get_or, option_copied, refl, sym, ◌∙◌, ap, Bor}
use Rattle.std.specs.HashMap.{get}
use Rattle.std.specs.List.{count_by}
use Rattle.std.specs.Option.{is_some}
use Rattle.std.proofs.lemmas.List.{take_all}
use Rattle.capnp_records.specs.Uses.{once_in}
use Rattle.capnp_records.proofs.lemmas.ListTests.{default_any}
use Rattle.capnp_records.proofs.Holders.{once_more}
use Rattle.capnp_records.proofs.groups.once_of.Goals as goal

other_way : (a b : Bool) → a ≡ not b → b ≡ not a
other_way a true h = sym (ap not h)
other_way a false h = sym (ap not h)

there : {A : Type 0} (o : Option (Bor A)) → is_some (option_copied o) ≡ is_some o
there None = refl
there (Some x) = refl

pub loop-group-preserved : goal.loop-group-preserved
loop-group-preserved c =
    let gs = c.args.groups.now in
    let i = c.loop-group.group-index in
    let x : ℕ = get_or gs i 0 in
    let is_new = c.is_none-is_new.result in
    let is : is_new ≡ not (is_some (get nat_eq c.loop-group.once x)) =
    other_way (is_some c.get.result) is_new c.is_none-is_new.ensures
    ∙ ap not (sym (there c.get.result))
    ∙ ap (λ o. not (is_some o)) c.get.ensures.value in
    once_more (get nat_eq c.loop-group.once) (get nat_eq c.insert.new.self) gs i x is_new c.loop-group-test.true (default_any gs i 0 x c.loop-group-test.true) c.loop-group.invariant is c.in_ok-insert.ensures.updates.0

pub returns : goal.returns
returns c = λ id. c.loop-group.invariant id ∙ ap (λ gs. once_in (count_by (λ g. g == id) gs)) (take_all c.loop-group.group-index c.args.groups.now c.loop-group-test.false)
